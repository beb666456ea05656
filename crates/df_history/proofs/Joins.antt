-- The settled images of a history of logs, as one list.
use Rattle.std.proofs.Common.{◌≡◌, ◌⊎◌, inl, inr, ℕ, ◌<◌, ◌≤◌, List, [], ◌∷◌, ◌++◌, length, None, refl, sym, ◌∙◌, ap, arith, length-append}
use Rattle.df_theory.{specs.{Units.{AnyUnit, Content, CopyPlace, CopyUnit, Place, PreparePlace, PrepareUnit, ReplyPlace, ReplyUnit, Units}, Shape.{Shape}, Copies.{rank_of}, View.{View, boot_of}, Holds.{Holds}, Next.{Append, Boot, Finish, IsBoot, IsSameBare, Next, Reply, Same, booted}, UnitLog.{Stopped, Synced, UnitEvent, Wrote, now_of, settled_of}, Chance.{InImages}, First.{AreMade}, Grown.{AllInHistory, GoesOn, Grows}, Past.{FromEmpty, Was}, HistoryLaws.{ShowsSettled}}, proofs.Laws.{one_view, no_made, made_content, made_reply, next_grew, unheld}}
use Rattle.df_history.specs.{Lives.{Asleep, Awake, Lived, Lives, Starts, Turn, first_view_of}, Histories.{Among, GrowsOn, StaysBare}}

-- ---- lists of images

pub images_front : (images rest : List Units) (place : Place) (x : AnyUnit) → InImages images place x → InImages (images ++ rest) place x
images_front [] rest place x at = absurd at
images_front (i ∷ images) rest place x (inl here) = inl here
images_front (i ∷ images) rest place x (inr there) = inr (images_front images rest place x there)

pub images_back : (images rest : List Units) (place : Place) (x : AnyUnit) → InImages rest place x → InImages (images ++ rest) place x
images_back [] rest place x at = at
images_back (i ∷ images) rest place x at = inr (images_back images rest place x at)

pub images_either : (images rest : List Units) (place : Place) (x : AnyUnit)
    → InImages (images ++ rest) place x → InImages images place x ⊎ InImages rest place x
images_either [] rest place x at = inr at
images_either (i ∷ images) rest place x (inl here) = inl (inl here)
images_either (i ∷ images) rest place x (inr there) =
    elim (images_either images rest place x there) [ inl front ↦ inl (inr front) | inr back ↦ inr back ]

-- the oldest of the images
abbrev pub EndsWith : List Units → Units → Type 0
EndsWith [] start = ⊥
EndsWith (i ∷ []) start = i ≡ start
EndsWith (i ∷ j ∷ images) start = EndsWith (j ∷ images) start

ends_more : (i : Units) (images : List Units) (start : Units) → EndsWith images start → EndsWith (i ∷ images) start
ends_more i [] start ends = absurd ends
ends_more i (j ∷ images) start ends = ends

pub settled_ends : (start : Units) (es : List UnitEvent) → EndsWith (settled_of start es) start
settled_ends start [] = refl
settled_ends start ((Wrote touches stands after) ∷ es) = settled_ends start es
settled_ends start (Synced ∷ es) = ends_more (now_of start es) (settled_of start es) start (settled_ends start es)
settled_ends start ((Stopped after) ∷ es) = ends_more after (settled_of start es) start (settled_ends start es)

-- a file that is still being made began with an image that shows nothing
made_ends : (c : Content) (images : List Units) (start : Units) → AreMade c images → EndsWith images start → (place : Place) → start place ≡ None
made_ends c [] start made ends place = absurd ends
made_ends c (i ∷ []) start made ends place = ap (λ (j : Units). j place) (sym ends) ∙ made place
made_ends c (i ∷ j ∷ images) start made ends place = made_ends c (j ∷ images) start made.2 ends place

-- ---- the first log

-- the images of one log from the empty image, as a history
pub record OneLog (sh : Shape) (images : List Units) (v : View) (grows : Grows sh images v) : Type 0 where
  pub lives : Lives sh images v Awake
  pub was : (w : View) (a : Turn) → Lived sh images v Awake lives w a → Was sh images v grows w
  pub low : rank_of (first_view_of sh images v Awake lives).checkpoint.content ≤ 18446744073709551616

pub one_log : (sh : Shape) (images : List Units) (v : View) (grows : Grows sh images v) → FromEmpty sh images v grows → OneLog sh images v grows
one_log sh [] v grows empty = absurd grows
one_log sh (image ∷ []) v (holds, inl begins) empty = absurd empty
one_log sh (image ∷ before ∷ images) v (holds, inl begins) empty = record {
  lives = (
    holds,
    inl (
      refl,
      record {
        prepares = λ s p at. absurd (elim at [ inl here ↦ begins.1 (PreparePlace s) (PrepareUnit p) here | inr there ↦ no_made v.checkpoint.content (before ∷ images) begins.2 s (PrepareUnit p) there ]);
        replies = λ k r at. absurd (elim at [ inl here ↦ begins.1 (ReplyPlace k) (ReplyUnit r) here | inr there ↦ made_reply v.checkpoint.content (before ∷ images) begins.2 k (ReplyUnit r) there ]);
        copies = λ n c away at. inl (elim at [ inl here ↦ (let is = begins.1 (CopyPlace n) (CopyUnit c) here in cc) | inr there ↦ made_content v.checkpoint.content (before ∷ images) begins.2 n c there ]);
        counted = (omega (arith, begins.0.content.numbers, ap length begins.0.tail), omega (arith, begins.0.content.numbers, begins.0.replies));
      },
    ),
  );
  was = λ w a lived. lived.0;
  low = omega (arith, begins.0.content.sequence, begins.0.content.pin.0);
}
one_log sh (image ∷ images) v (holds, inr (history, (u, next, grows))) empty = let o = one_log sh images u grows empty in record {
  lives = (holds, inr (u, Awake, inl (history, next), o.lives));
  was = λ w a lived. elim lived [ inl is ↦ inl is.0 | inr older ↦ inr (o.was w a older) ];
  low = o.low;
}

pub empty_lives : (sh : Shape) (images : List Units) (v : View) (grows : Grows sh images v)
    → FromEmpty sh images v grows → Lives sh images v Awake
empty_lives sh images v grows empty = (one_log sh images v grows empty).lives

pub from_blank : (sh : Shape) (images : List Units) (v : View) (grows : Grows sh images v) (start : Units)
    → EndsWith images start → ((place : Place) → start place ≡ None) → FromEmpty sh images v grows
from_blank sh [] v grows start ends blank = grows
from_blank sh (u ∷ []) v (holds, inl begins) start ends blank = unheld sh u v (λ place. ap (λ (j : Units). j place) ends ∙ blank place) holds
from_blank sh (u ∷ []) v (holds, inr (history, (before, next, grows))) start ends blank = grows
from_blank sh (u ∷ older ∷ us) v (holds, inl begins) start ends blank = tt
from_blank sh (u ∷ older ∷ us) v (holds, inr (history, (before, next, grows))) start ends blank =
    from_blank sh (older ∷ us) before grows start ends blank

-- a log whose start holds a view and is older than its superblock
pub started_lives : (sh : Shape) (images : List Units) (v : View) → Grows sh images v
    → (start : Units) (w : View) → EndsWith images start → Holds sh start w → Starts start [] w → Lives sh images v Awake
started_lives sh [] v grows start w ends holds starts = absurd grows
started_lives sh (image ∷ []) v (here, inl begins) start w ends holds starts =
    (here, inl (refl, rw (sym ends) at (rw (one_view sh start w v holds (rw ends at here)) at starts)))
started_lives sh (image ∷ []) v (here, inr (history, (u, next, grows))) start w ends holds starts = absurd grows
started_lives sh (image ∷ before ∷ images) v (here, inl begins) start w ends holds starts =
    absurd (unheld sh start w (made_ends v.checkpoint.content (before ∷ images) start begins.2 ends) holds)
started_lives sh (image ∷ before ∷ images) v (here, inr (history, (u, next, grows))) start w ends holds starts =
    (here, inr (u, Awake, inl (history, next), started_lives sh (before ∷ images) u grows start w ends holds starts))

-- ---- a later log

-- a step to the same bare view changes nothing, or is a boot update
pub next_bare : (u v : View) → Next u v → IsSameBare u v → (v ≡ u) ⊎ ((d : Content) × IsBoot u d × (v ≡ booted u d))
next_bare u _ Same bare = inl refl
next_bare u _ (Append ps is) bare = absurd (omega (arith, is.some, ap length bare.tail, length-append u.tail ps))
next_bare u _ (Reply place r is) bare = absurd (omega (arith, bare.replies))
next_bare u _ (Finish c is) bare = absurd (omega (arith, bare.content.sequence, is.sequence))
next_bare u _ (Boot d is) bare = inr (d, is, refl)

pub on_holds : (sh : Shape) (rest : List Units) (image : Units) (images : List Units) (v : View)
    → GrowsOn sh rest (image ∷ images) v → Holds sh image v
on_holds sh rest image [] v holds = holds
on_holds sh rest image (before ∷ images) v grows = grows.0

-- asleep with the boot of the start, or awake with a higher one
abbrev pub TurnSays : Turn → ℕ → View → Type 0
TurnSays Asleep b v = boot_of v ≡ b
TurnSays Awake b v = b < boot_of v

-- the images of a log after the others, and what they lived
pub record Joined (sh : Shape) (images rest : List Units) (v u : View) (s : Turn) (lives : Lives sh rest u s) (b : ℕ) : Type 0 where
  pub turn : Turn
  pub both : Lives sh (images ++ rest) v turn
  pub says : TurnSays turn b v
  pub split : (w : View) (a : Turn)
      → Lived sh (images ++ rest) v turn both w a → ((image : Units) × Among images image × Holds sh image w) ⊎ Lived sh rest u s lives w a

module _ (sh : Shape)
    (rest : List Units) (u0 : View) (s0 : Turn) (lives : Lives sh rest u0 s0) (start : Units) (w : View) (at_start : Holds sh start w)
    (shows : ShowsSettled rest start) (same : w.checkpoint.content ≡ u0.checkpoint.content) where
  join_start : (image : Units) (v : View) → Holds sh image v → image ≡ start → Joined sh (image ∷ []) rest v u0 s0 lives (boot_of w)
  join_start image v holds is = record {
    turn = Asleep;
    both = (holds, inr (u0, s0, inr (rw (sym is) at shows, refl, ap (λ (x : View). x.checkpoint.content) one ∙ same), lives));
    says = ap boot_of one;
    split = λ x a lived. elim lived [
      | inl here ↦ inl (image, inl refl, rw (sym here.0) at holds)
      | inr there ↦ inr there
    ];
  }
    where
      one : v ≡ w
      one = one_view sh start v w (rw is at holds) at_start

  join_awake : (image before : Units) (images : List Units) (v u : View) → Holds sh image v → AllInHistory ((before ∷ images) ++ rest)
      image v → GoesOn ((before ∷ images) ++ rest) u v → boot_of w < boot_of v → (both : Lives sh ((before ∷ images) ++ rest) u Awake)
      → ((x : View) (a : Turn) → Lived sh ((before ∷ images) ++ rest) u Awake both x a
      → ((i : Units) × Among (before ∷ images) i × Holds sh i x) ⊎ Lived sh rest u0 s0 lives x a)
      → Joined sh (image ∷ before ∷ images) rest v u0 s0 lives (boot_of w)
  join_awake image before images v u holds history next above both split = record {
    turn = Awake;
    both = (holds, inr (u, Awake, inl (history, next), both));
    says = above;
    split = λ x a lived. elim lived [
      | inl here ↦ inl (image, inl refl, rw (sym here.0) at holds)
      | inr there ↦ elim (split x a there) [ inl front ↦ inl (front.0, inr front.1, front.2) | inr back ↦ inr back ]
    ];
  }

  join_asleep : (image before : Units) (images : List Units) (v u : View) → Holds sh image v → AllInHistory ((before ∷ images) ++ rest) image v → (v ≡ u) ⊎ ((d : Content) × IsBoot u d × (v ≡ booted u d)) → boot_of u ≡ boot_of w → (both : Lives sh ((before ∷ images) ++ rest) u Asleep)
      → ((x : View) (a : Turn) → Lived sh ((before ∷ images) ++ rest) u Asleep both x a
      → ((i : Units) × Among (before ∷ images) i × Holds sh i x) ⊎ Lived sh rest u0 s0 lives x a)
      → Joined sh (image ∷ before ∷ images) rest v u0 s0 lives (boot_of w)
  join_asleep image before images v u holds history (inl stays) boot both split = record {
    turn = Asleep;
    both = (holds, inr (u, Asleep, inl (history, stays), both));
    says = ap boot_of stays ∙ boot;
    split = λ x a lived. elim lived [
      | inl here ↦ inl (image, inl refl, rw (sym here.0) at holds)
      | inr there ↦ elim (split x a there) [ inl front ↦ inl (front.0, inr front.1, front.2) | inr back ↦ inr back ]
    ];
  }
  join_asleep image before images v u holds history (inr wakes) boot both split = record {
    turn = Awake;
    both = (holds, inr (u, Asleep, inl (history, wakes), both));
    says = omega (arith, wakes.1.boot, ap boot_of wakes.2, boot);
    split = λ x a lived. elim lived [
      | inl here ↦ inl (image, inl refl, rw (sym here.0) at holds)
      | inr there ↦ elim (split x a there) [ inl front ↦ inl (front.0, inr front.1, front.2) | inr back ↦ inr back ]
    ];
  }

  pub join : (images : List Units) (v : View)
      → GrowsOn sh rest images v → EndsWith images start → StaysBare sh (boot_of w) images → Joined sh images rest v u0 s0 lives (boot_of w)
  join [] v grows ends stays = absurd grows
  join (image ∷ []) v holds ends stays = join_start image v holds ends
  join (image ∷ before ∷ images) v (holds, history, (u, next, grows)) ends stays = go (join (before ∷ images) u grows ends stays.1)
    where
      by_turn : (t : Turn) (both : Lives sh ((before ∷ images) ++ rest) u t) → TurnSays t (boot_of w) u
          → ((x : View) (a : Turn) → Lived sh ((before ∷ images) ++ rest) u t both x a
          → ((i : Units) × Among (before ∷ images) i × Holds sh i x) ⊎ Lived sh rest u0 s0 lives x a)
          → Joined sh (image ∷ before ∷ images) rest v u0 s0 lives (boot_of w)
      by_turn Awake both says split = join_awake image before images v u holds history
          next (omega (arith, says, (next_grew sh u v (on_holds sh rest before images u grows).bears.sound next.next).boot)) both split
      by_turn Asleep both says split = join_asleep image before images
          v u holds history (next_bare u v next.next (stays.0 u v (on_holds sh rest before images u grows) holds says)) says both split

      go : Joined sh (before ∷ images) rest u u0 s0 lives (boot_of w) → Joined sh (image ∷ before ∷ images) rest v u0 s0 lives (boot_of w)
      go j = by_turn j.turn j.both j.says j.split
