-- What an open finds was had since the last open that raised its boot.
use Rattle.std.proofs.{Common.{◌≡◌, ◌⊎◌, inl, inr, ℕ, ◌<◌, ◌≤◌, List, [], ◌∷◌, ◌++◌, Some, refl, sym, ◌∙◌, ap, subst, arith, append-nil}, lemmas.Bool.{cases_lt}}
use Rattle.df_theory.{specs.{Units.{AnyUnit, Content, CopyPlace, CopyUnit, Place, Units}, Shape.{Shape}, Copies.{Agree, IsChosen, rank_of}, View.{View, boot_of}, Holds.{Holds}, UnitLog.{Stopped, Synced, UnitLog, add, now, settled}, Chance.{InImages}, First.{AreMade}, Grown.{HasMade}, HistoryLaws.{AreDistinct, FoundWasLaw, ShowsSettled}, Found.{IsClean}}, proofs.Laws.{one_chosen, one_view, next_grew, pool_pools, no_choice}}
use Rattle.df_history.{specs.{Lives.{Asleep, Awake, Lived, Lives, Turn}, Histories.{Among, GrowsOn, InHistoryPool, InHistoryPools, IsBegunAnew, IsFirstLog, IsLived, IsSettled, MayHurtCopies, MayStart, WasSince, all_settled}, OpenLaws.{ChoiceStaysLaw, FoundSinceLaw}}, proofs.{Steps.{first_low, lived_base, lived_low, lived_self, lives_boot}, Mores.{AreOld}, Born.{settled_content}, Founds.{found_lived_law}, Joins.{one_log, Joined, TurnSays, empty_lives, from_blank, images_back, images_either, images_front, join, on_holds, settled_ends, started_lives}}}

-- ---- after a barrier

-- a log whose newest event is a sync or a stop
pub synced_settled : (log : UnitLog) → IsSettled (add Synced log)
synced_settled log = record { older = settled log; newest = refl; writes = λ place x none. none }

pub stopped_settled : (log : UnitLog) (image : Units) → IsSettled (add (Stopped image) log)
stopped_settled log image = record { older = settled log; newest = refl; writes = λ place x none. none }

abbrev AllSettled : List UnitLog → Type 0
AllSettled [] = Unit {0}
AllSettled (log ∷ logs) = IsSettled log × AllSettled logs

lived_settled : (sh : Shape) (log : UnitLog) (logs : List UnitLog) → IsLived sh (log ∷ logs) → IsSettled log → AllSettled (log ∷ logs)
lived_settled sh log [] lived sync = (sync, tt)
lived_settled sh log (before ∷ logs) lived sync = (sync, lived_settled sh before logs lived.1 lived.0.start.settled_is)

pool_settled : (logs : List UnitLog)
    → AllSettled logs → (place : Place) (x : AnyUnit) → InHistoryPool logs place x → InImages (all_settled logs) place x
pool_settled [] sync place x at = absurd at
pool_settled (log ∷ logs) sync place x (inl (inl old)) = images_front (settled log) (all_settled logs) place x old
pool_settled (log ∷ logs) sync place x (inl (inr written)) = absurd (sync.0.writes place x written)
pool_settled (log ∷ logs) sync place x (inr older) =
    images_back (settled log) (all_settled logs) place x (pool_settled logs sync.1 place x older)

settled_pools : (logs : List UnitLog) (place : Place) (x : AnyUnit) → InImages (all_settled logs) place x → InHistoryPools logs place x
settled_pools [] place x at = at
settled_pools (log ∷ logs) place x at = elim (images_either (settled log) (all_settled logs) place x at) [
  | inl front ↦ inl (pool_pools log.start log.events place x (inl front))
  | inr back ↦ inr (settled_pools logs place x back)
]

pub start_shows : (sh : Shape) (log : UnitLog) (logs : List UnitLog) (image : Units)
    → IsLived sh (log ∷ logs) → MayStart log logs image → ShowsSettled (all_settled (log ∷ logs)) image
start_shows sh log logs image lived may place x at =
    pool_settled (log ∷ logs) (lived_settled sh log logs lived may.settled_is) place x (may.chance.pooled place x at)

pub start_distinct : (log : UnitLog) (logs : List UnitLog) (image : Units) → MayStart log logs image → AreDistinct (all_settled (log ∷ logs))
start_distinct log logs image may place other x y one two =
    may.chance.distinct place other x y (settled_pools (log ∷ logs) place x one) (settled_pools (log ∷ logs) other y two)

newest_holds : (sh : Shape) (log : UnitLog) (rest : List Units) (v : View) (t : Turn)
    → IsSettled log → Lives sh (settled log ++ rest) v t → Holds sh (now log) v
newest_holds sh log rest v t sync lives = (rw sync.newest at lives).0

-- ---- the superblock stays

agree_kept : (i j : Units) (c : Content) → ((n : ℕ) → n < 4 → j (CopyPlace n) ≡ i (CopyPlace n)) → Agree i c → Agree j c
agree_kept i j c same a = record { first = a.first; second = a.second; apart = a.apart; inside = a.inside; at_first = same a.first (omega (arith, a.apart, a.inside)) ∙ a.at_first; at_second = same a.second a.inside ∙ a.at_second }

-- four equal copies choose the same
chosen_kept : (i j : Units) (c : Content) → ((n : ℕ) → n < 4 → j (CopyPlace n) ≡ i (CopyPlace n)) → IsChosen i c → IsChosen j c
chosen_kept i j c same h = record {
  agreed = agree_kept i j c same h.agreed;
  greatest = λ d a. h.greatest d (agree_kept j i d (λ n below. sym (same n below)) a);
  lowest = λ d a tie n below shown.
      let k = h.lowest d (agree_kept j i d (λ m under. sym (same m under)) a) tie n below (sym (same n below) ∙ shown) in
      (k.0, k.1, same k.0 (omega (arith, k.1)) ∙ k.2);
}

chosen_was : (was image : Units) (c : Content) → MayHurtCopies was image → IsChosen image c → (d : Content) × Agree was d
chosen_was was image c (inl all) chosen = (c, agree_kept image was c (λ n below. sym (all n below)) chosen.agreed)
chosen_was was image c (inr two) chosen = (two.content, record { first = 0; second = 1; apart = omega arith; inside = omega arith; at_first = two.four 0 (omega arith); at_second = two.four 1 (omega arith) })

made_split : (sh : Shape) (log : UnitLog) (c : Content) → HasMade sh log c → IsSettled log → (d : Content) → Agree (now log) d → ⊥
made_split sh log c made sync = no_choice c (now log) sync.older (rw sync.newest at made.made)

module _ (sh : Shape) (images : List Units) (v : View) (t : Turn) (lives : Lives sh images v t)
    (was : Units) (holds : Holds sh was v) (image : Units) (hurt : MayHurtCopies was image) (shows : ShowsSettled images image) where
  -- a copy beside copy 0 shows the newest superblock, or a lower one
  pub copy_low : (n : ℕ) (c : Content)
      → (n ≡ 0 → ⊥) → image (CopyPlace n) ≡ Some (CopyUnit c) → (c ≡ v.checkpoint.content) ⊎ (rank_of c < rank_of v.checkpoint.content)
  copy_low n c away at = elim (settled_content sh images v t lives n c away (shows (CopyPlace n) (CopyUnit c) at)) [
    | inl x ↦ let low = lived_low sh images v t lives x.0 x.1 x.2 in elim (cases_lt (rank_of c) (rank_of v.checkpoint.content)) [
      | inl less ↦ inr less
      | inr not ↦
          inl (x.3 ∙ lived_base sh images v t lives x.0 x.1 v t x.2 (lived_self sh images v t lives) (omega (arith, low.0, ap rank_of x.3)))
    ]
    | inr older ↦ inr (omega (arith, first_low sh images v t lives v t (lived_self sh images v t lives)))
  ]

  -- enough copies are left: the choice stays
  pub content_kept : (c : Content) → IsChosen image c → c ≡ v.checkpoint.content
  content_kept c chosen = elim hurt [
    | inl all ↦ one_chosen image c v.checkpoint.content chosen (chosen_kept was image v.checkpoint.content all holds.chosen)
    | inr two ↦
        let base : two.content ≡ v.checkpoint.content = (let both : Some (CopyUnit two.content) ≡ Some (CopyUnit v.checkpoint.content) = sym (two.four holds.chosen.agreed.first (omega (arith, holds.chosen.agreed.apart, holds.chosen.agreed.inside))) ∙ holds.chosen.agreed.at_first in cc) in
        let high = chosen.greatest two.content two.agreed in
        elim (copy_low chosen.agreed.second c (λ zero_is. omega (arith, chosen.agreed.apart)) chosen.agreed.at_second) [
          | inl same ↦ same
          | inr less ↦ absurd (omega (arith, high, ap rank_of base))
        ]
  ]

  pub start_clean : (w : View) → w.checkpoint.content ≡ v.checkpoint.content → IsClean image w
  start_clean w same n c at away = elim (copy_low n c away at) [
    | inl is ↦ inl (is ∙ sym same)
    | inr less ↦ inr (omega (arith, ap rank_of same))
  ]

-- ---- boots in one log

pub among_low : (sh : Shape) (rest images : List Units) (v : View)
    → GrowsOn sh rest images v → (i : Units) → Among images i → (x : View) → Holds sh i x → boot_of x ≤ boot_of v
among_low sh rest [] v grows i among x holds = absurd among
among_low sh rest (image ∷ images) v grows i (inl is) x holds =
    omega (arith, ap boot_of (one_view sh image x v (rw is at holds) (on_holds sh rest image images v grows)))
among_low sh rest (image ∷ []) v grows i (inr none) x holds = absurd none
among_low sh rest (image ∷ before ∷ images) v grows i (inr there) x holds = let older = grows.2 in
    omega (arith, among_low sh rest (before ∷ images) older.0 older.2 i there x holds, (next_grew sh older.0 v (on_holds sh rest before images older.0 older.2).bears.sound older.1.next).boot)

-- ---- the whole history

pub lived_among : (sh : Shape) (images : List Units) (v : View) (t : Turn) (lives : Lives sh images v t) (w : View) (a : Turn)
    → Lived sh images v t lives w a → (i : Units) × Among images i × Holds sh i w
lived_among sh [] v t lives w a lived = absurd lived
lived_among sh (image ∷ images) v t (holds, inl starts) w a is = (image, inl refl, rw (sym is.0) at holds)
lived_among sh (image ∷ images) v t (holds, inr (u, s, step, lives)) w a (inl is) = (image, inl refl, rw (sym is.0) at holds)
lived_among sh (image ∷ images) v t (holds, inr (u, s, step, lives)) w a (inr lived) = let i = lived_among sh images u s lives w a lived in
    (i.0, inr i.1, i.2)

pub record HistoryLives (sh : Shape) (log : UnitLog) (logs : List UnitLog) : Type 0 where
  pub view : View
  pub turn : Turn
  pub lives : Lives sh (all_settled (log ∷ logs)) view turn
  pub since : (w : View) → Lived sh (all_settled (log ∷ logs)) view turn lives w Awake → boot_of w ≡ boot_of view → WasSince sh (log ∷ logs) w

first_since : (sh : Shape) (log : UnitLog) (v : View) → Lives sh (settled log) v Awake → HistoryLives sh log []
first_since sh log v lives = record {
  view = v;
  turn = Awake;
  lives = rw (sym (append-nil (settled log))) at lives;
  since = λ w lived same. let i = lived_among sh (settled log ++ []) v Awake (rw (sym (append-nil (settled log))) at lives) w Awake lived in
      inl (i.0, subst (λ (l : List Units). Among l i.0) (append-nil (settled log)) i.1, i.2);
}

first_lives : (sh : Shape) (log : UnitLog) → IsFirstLog sh log → HistoryLives sh log [] ⊎ ((c : Content) × HasMade sh log c)
first_lives sh log (inl (inl grown, blank)) = inl (first_since sh log grown.0 (empty_lives sh (settled log)
    grown.0 grown.1.grows (from_blank sh (settled log) grown.0 grown.1.grows log.start (settled_ends log.start log.events) blank)))
first_lives sh log (inl (inr made, blank)) = inr made
first_lives sh log (inr (w, v, holds, starts, grown)) =
    inl (first_since sh log v (started_lives sh (settled log) v grown.grows log.start w (settled_ends log.start log.events) holds starts))

module _ (sh : Shape) (log before : UnitLog) (logs : List UnitLog)
    (begun : IsBegunAnew sh log before logs) (lived : IsLived sh (before ∷ logs)) (h : HistoryLives sh before logs) where
  start_content : begun.view.checkpoint.content ≡ h.view.checkpoint.content
  start_content = content_kept sh (all_settled (before ∷ logs)) h.view h.turn h.lives
      (now before) (newest_holds sh before (all_settled logs) h.view h.turn begun.start.settled_is h.lives) log.start begun.start.copies
      (start_shows sh before logs log.start lived begun.start) begun.view.checkpoint.content begun.holds.chosen

  abbrev joins : Joined sh (settled log) (all_settled (before ∷ logs)) begun.newest h.view h.turn h.lives (boot_of begun.view)
  joins = join sh (all_settled (before ∷ logs)) h.view h.turn h.lives log.start begun.view begun.holds (start_shows sh before
      logs log.start lived begun.start) start_content (settled log) begun.newest begun.grows (settled_ends log.start log.events) begun.stays

  since_join : (j : Joined sh (settled log) (all_settled (before ∷ logs)) begun.newest h.view h.turn h.lives (boot_of begun.view)) (w : View) → Lived sh (settled log ++ all_settled (before ∷ logs)) begun.newest j.turn j.both w Awake → boot_of w ≡ boot_of begun.newest → WasSince sh (log ∷ before ∷ logs) w
  since_join j w was same = elim (j.split w Awake was) [
    | inl front ↦ inl front
    | inr older ↦ let low = lived_low sh (all_settled (before ∷ logs)) h.view h.turn h.lives w Awake older in
        let boots : boot_of begun.view ≡ boot_of h.view = ap (λ (c : Content). c.boot) start_content in
        by_turn older (omega (arith, low.1, boots, same)) j.turn j.says
  ]
    where
      by_turn : Lived sh (all_settled (before ∷ logs)) h.view h.turn h.lives w Awake → boot_of begun.newest ≤ boot_of begun.view
          → (t : Turn) → TurnSays t (boot_of begun.view) begun.newest → WasSince sh (log ∷ before ∷ logs) w
      by_turn older low Awake says = absurd (omega (arith, says))
      by_turn older low Asleep says = inr (
        (λ raises. let start_is = one_view sh log.start raises.2 begun.view raises.4 begun.holds in
            omega (arith, raises.6, among_low sh (all_settled (before ∷ logs)) (settled log) begun.newest begun.grows raises.0 raises.1 raises.3 raises.5, says, ap boot_of start_is)),
        h.since w older (same ∙ says ∙ ap (λ (c : Content). c.boot) start_content),
      )

  later_lives : HistoryLives sh log (before ∷ logs)
  later_lives = go joins
    where
      go : Joined sh (settled log) (all_settled (before ∷ logs)) begun.newest h.view h.turn h.lives (boot_of begun.view)
          → HistoryLives sh log (before ∷ logs)
      go j = record { view = begun.newest; turn = j.turn; lives = j.both; since = λ w was same. since_join j w was same }

pub history_lives : (sh : Shape) (log : UnitLog) (logs : List UnitLog)
    → IsLived sh (log ∷ logs) → HistoryLives sh log logs ⊎ ((c : Content) × HasMade sh log c)
history_lives sh log [] lived = first_lives sh log lived
history_lives sh log (before ∷ logs) lived = elim (history_lives sh before logs lived.1) [
  | inl h ↦ inl (later_lives sh log before logs lived.0 lived.1 h)
  | inr made ↦ let was = chosen_was (now before) log.start lived.0.view.checkpoint.content lived.0.start.copies lived.0.holds.chosen in
      absurd (made_split sh before made.0 made.1 lived.0.start.settled_is was.0 was.1)
]

-- ---- the next open

-- a history of which an image that may start the next log makes a choice has views
pub has_lives : (sh : Shape) (log : UnitLog) (logs : List UnitLog) (image : Units) (c : Content)
    → IsLived sh (log ∷ logs) → MayStart log logs image → IsChosen image c → HistoryLives sh log logs
has_lives sh log logs image c lived may chosen = elim (history_lives sh log logs lived) [
  | inl h ↦ h
  | inr made ↦ let was = chosen_was (now log) image c may.copies chosen in
      absurd (made_split sh log made.0 made.1 may.settled_is was.0 was.1)
]

pub next_content : (sh : Shape) (log : UnitLog) (logs : List UnitLog) (image : Units) (c : Content)
    → IsLived sh (log ∷ logs) → MayStart log logs image → IsChosen image c → (h : HistoryLives sh log logs) → c ≡ h.view.checkpoint.content
next_content sh log logs image c lived may chosen h =
    content_kept sh (all_settled (log ∷ logs)) h.view h.turn h.lives (now log) (newest_holds
    sh log (all_settled logs) h.view h.turn may.settled_is h.lives) image may.copies (start_shows sh log logs image lived may) c chosen

pub choice_stays_law : ChoiceStaysLaw
choice_stays_law sh log logs image c lived may chosen = let h = has_lives sh log logs image c lived may chosen in
    let now_holds = newest_holds sh log (all_settled logs) h.view h.turn may.settled_is h.lives in
    let same = next_content sh log logs image c lived may chosen h in record {
      view = h.view;
      holds = now_holds;
      content = same;
      clean = λ w is. start_clean sh (all_settled (log ∷ logs))
          h.view h.turn h.lives (now log) now_holds image may.copies (start_shows sh log logs image lived may) w (is ∙ same);
      distinct = λ place other x y one two. start_distinct log logs image
          may place other x y (start_shows sh log logs image lived may place x one) (start_shows sh log logs image lived may other y two);
    }

pub found_since_law : FoundSinceLaw
found_since_law sh log logs shown w lived may f = let h = has_lives sh log logs shown w.checkpoint.content lived may f.chosen in
    let same = next_content sh log logs shown w.checkpoint.content lived may f.chosen h in let first = first_low
    sh (all_settled (log ∷ logs)) h.view h.turn h.lives h.view h.turn (lived_self sh (all_settled (log ∷ logs)) h.view h.turn h.lives) in
    h.since w (found_lived_law sh (all_settled (log ∷ logs)) h.view h.turn h.lives
    (start_distinct log logs shown may) shown (start_shows sh log logs shown lived may) w f (omega (arith, first.0, ap rank_of same)))
    (ap (λ (c : Content). c.boot) same)

-- ---- one log is a history: what df_theory says of it is an instance

pub one_log_law : FoundWasLaw
one_log_law sh images v grows empty distinct shown of w f = let o = one_log sh images v grows empty in
    o.was w Awake (found_lived_law sh images v Awake o.lives distinct shown of w f (omega (arith, o.low, f.checkpoint.tests.sequence.0)))

-- what earlier logs settled has no higher boot than the start of the next one
pub old_boots : (sh : Shape) (log : UnitLog) (logs : List UnitLog) (image : Units) (w : View)
    → IsLived sh (log ∷ logs) → MayStart log logs image → Holds sh image w → AreOld (all_settled (log ∷ logs)) (boot_of w)
old_boots sh log logs image w lived may holds s p at = let h = has_lives sh log logs image w.checkpoint.content lived may holds.chosen in
    let same = next_content sh log logs image w.checkpoint.content lived may holds.chosen h in
    omega (arith, lives_boot sh (all_settled (log ∷ logs)) h.view h.turn h.lives s p at, ap (λ (c : Content). c.boot) same)
