-- A file as it is made.
use Rattle.std.proofs.{Common.{◌≡◌, inl, inr, ℕ, ◌<◌, ◌||◌, List, [], ◌∷◌, Option, Some, None, refl, sym, ◌∙◌, ap, subst, arith}, lemmas.Bool.{cases_eq}}
use Rattle.df_theory.{specs.{CopyPuts.{PutsCopies, update_steps}, Units.{AnyUnit, Content, CopyPlace, CopyUnit, Place, Units, is_some, or_else, overlay}, Shape.{Shape}, Copies.{IsSplit}, View.{View}, Holds.{Holds}, UnitLog.{IsLeftBy, PutsOne, Stopped, Synced, UnitLog, add, now, settled, wrote}, Chance.{EachLeft, InImages, InPool, NoChance}, First.{AreMade, IsFirst, IsMade, ShowsMade}, Grown.{Begins, Grown, HasGrown, IsSafe}, Rests.{IsDry, RestsOn}, Runs.{AtEach, Step, Syncs, after_steps}, MakingLaws.{AllReserved, SecondCopyLaw, BlankLaw, FormatLaw, IsMaking, MakingSyncLaw, MayHold, PutsReserved, all_puts, blank_log}}, proofs.{CopyVotes.{agree_beside}, Steps.{synced_rests, rests_safe}, Writes.{put_else, copy_law, quiet_synced}, Runs.{each_append, after_append}, FirstViews.{first_holds}}}

-- ---- while there is none

made_more : (c : Content) (image : Units) (images : List Units)
    → AreMade c images → ShowsMade c image → IsSplit image → AreMade c (image ∷ images)
made_more c image [] made shows split = absurd made
made_more c image (before ∷ images) made shows split = (shows, split, made)

begins_made : (sh : Shape) (image : Units) (images : List Units) (v : View)
    → IsFirst sh v → ShowsMade v.checkpoint.content image → AreMade v.checkpoint.content images → Begins sh image images v
begins_made sh image [] v first shows made = tt
begins_made sh image (before ∷ images) v first shows made = (first, shows, made)

made_images : (c : Content) (images : List Units)
    → AreMade c images → (place : Place) (x : AnyUnit) → InImages images place x → IsMade c place x
made_images c [] made place x at = absurd at
made_images c (image ∷ []) made place x (inl here) = absurd (let both : Some x ≡ None = sym here ∙ made place in cc)
made_images c (image ∷ []) made place x (inr there) = absurd there
made_images c (image ∷ before ∷ images) made place x (inl here) = made.0 place x here
made_images c (image ∷ before ∷ images) made place x (inr there) = made_images c (before ∷ images) made.2 place x there

-- copies that show nothing beside copy 0 agree on nothing
split_blank : (image : Units) → ((n : ℕ) → 0 < n → image (CopyPlace n) ≡ None) → IsSplit image
split_blank image blank d a = let both : Some (CopyUnit d) ≡ None = sym a.at_second ∙ blank a.second (omega (arith, a.apart)) in cc

module _ (sh : Shape) (log : UnitLog) (c : Content) (m : IsMaking sh log c) where
  left_made : (image : Units) → ((place : Place) (x : AnyUnit) → image place ≡ Some x → InPool log place x) → ShowsMade c image
  left_made image history place x is = elim (history place x is) [
    | inl old ↦ made_images c (settled log) m.being.made place x old
    | inr new ↦ m.pending place x new
  ]

  left_split : (image : Units) → IsLeftBy log image → IsSplit image
  left_split image left = split_blank image (λ n above. left (CopyPlace n) (m.firm n above) ∙ m.blank n above)

  now_split : IsSplit (now log)
  now_split = split_blank (now log) m.blank

  pub making_safe : IsSafe sh log
  making_safe = record {
    grown = inr (c, m.being);
    synced = inr (c, record { fair = m.being.fair; first = m.being.first; made = made_more c (now log) (settled log) m.being.made m.shows now_split });
    stopped = λ image left chance. inr (c, record { fair = (left, chance, m.being.fair); first = m.being.first; made = made_more c image (settled log) m.being.made (left_made image chance.pooled) (left_split image left) });
  }

  pub making_synced : IsMaking sh (add Synced log) c
  making_synced = record {
    being = record { fair = m.being.fair; first = m.being.first; made = made_more c (now log) (settled log) m.being.made m.shows now_split };
    shows = m.shows;
    pending = λ place x none. absurd none;
    firm = λ n above. refl;
    blank = m.blank;
  }

-- made units are put, of the copies at most copy 0
pub record PutsMade (c : Content) (put : Units) : Type 0 where
  pub made : (place : Place) (y : AnyUnit) → put place ≡ Some y → IsMade c place y
  pub copies : (n : ℕ) → 0 < n → put (CopyPlace n) ≡ None

module _ (sh : Shape) (log : UnitLog) (c : Content) (m : IsMaking sh log c) (put : Units) (puts : PutsMade c put) where
  shows_at : (place : Place) (x : AnyUnit) → (o : Option AnyUnit) → put place ≡ o → overlay put (now log) place ≡ Some x → IsMade c place x
  shows_at place x None none is = m.shows place x (ap (λ (o : Option AnyUnit). or_else o (now log place)) (sym none) ∙ is)
  shows_at place x (Some y) some is = puts.made place x (some ∙ ap (λ (o : Option AnyUnit). or_else o (now log place)) (sym some) ∙ is)

  pub making_wrote : IsMaking sh (wrote put log) c
  making_wrote = record {
    being = record { fair = m.being.fair; first = m.being.first; made = m.being.made };
    shows = λ place x is. shows_at place x (put place) refl is;
    pending = λ place x at. elim at [
      | inl new ↦ puts.made place x new
      | inr old ↦ m.pending place x old
    ];
    firm = λ n above. (λ i. is_some (puts.copies n above i) || m.firm n above i);
    blank = λ n above. (λ i. or_else (puts.copies n above i) (m.blank n above i));
  }

pub blank_law : BlankLaw
blank_law sh c first = let m : IsMaking sh blank_log c = record {
  being = record { fair = tt; first = first; made = λ place. refl };
  shows = λ place x is. absurd (let both : None ≡ Some x = is in cc);
  pending = λ place x none. absurd none;
  firm = λ n above. refl;
  blank = λ n above. refl;
} in (m, making_safe sh blank_log c m)

-- ---- the second copy

module _ (sh : Shape) (log : UnitLog) (v : View) (put : Units) (first : IsFirst sh v) (m : IsMaking sh log v.checkpoint.content) (dry : IsDry log) (zeroth : now log (CopyPlace 0) ≡ Some (CopyUnit v.checkpoint.content)) (one : PutsOne put (CopyPlace 1) (CopyUnit v.checkpoint.content)) where
  pool_made : (place : Place) (x : AnyUnit) → InPool (wrote put log) place x → IsMade v.checkpoint.content place x
  pool_made place x (inl old) = made_images v.checkpoint.content (settled log) m.being.made place x old
  pool_made place x (inr (inl new)) = let at = one.only place x new in
      subst (λ (p : Place). IsMade v.checkpoint.content p x) (sym at.0) at.1
  pool_made place x (inr (inr pending)) = m.pending place x pending

  -- a copy other than copy 1 is as it was
  other_copy : (image : Units) → IsLeftBy (wrote put log) image → (n : ℕ) → (n ≡ 1 → ⊥) → image (CopyPlace n) ≡ now log (CopyPlace n)
  other_copy image left n away = go (put (CopyPlace n)) refl
    where
      go : (o : Option AnyUnit) → put (CopyPlace n) ≡ o → image (CopyPlace n) ≡ now log (CopyPlace n)
      go None none = left (CopyPlace n) (λ i. is_some (none i) || dry (CopyPlace n) i)
          ∙ ap (λ (o : Option AnyUnit). or_else o (now log (CopyPlace n))) none
      go (Some y) some = absurd (away (let at = (one.only (CopyPlace n) y some).0 in cc))

  holds_if : (image : Units) → IsLeftBy (wrote put log) image
      → ShowsMade v.checkpoint.content image → (x : AnyUnit) → image (CopyPlace 1) ≡ Some x → Holds sh image v
  holds_if image left shows x is = let same : x ≡ CopyUnit v.checkpoint.content = shows (CopyPlace 1) x is in
      first_holds sh v first image shows (other_copy image left 0 (λ e. omega arith) ∙ zeroth) (is ∙ ap Some same)

  split_if : (image : Units) → IsLeftBy (wrote put log) image → image (CopyPlace 1) ≡ None → IsSplit image
  split_if image left none = split_blank image (λ n above. elim (cases_eq n 1) [
    | inl here ↦ ap (λ (k : ℕ). image (CopyPlace k)) here ∙ none
    | inr away ↦ other_copy image left n away ∙ m.blank n above
  ])

  either : (image : Units) → IsLeftBy (wrote put log) image
      → ShowsMade v.checkpoint.content image → (o : Option AnyUnit) → image (CopyPlace 1) ≡ o → MayHold sh image v
  either image left shows None none = inr (split_if image left none)
  either image left shows (Some x) some = inl (holds_if image left shows x some)

  shows_left : (image : Units) → NoChance (wrote put log) image → ShowsMade v.checkpoint.content image
  shows_left image chance place x is = pool_made place x (chance.pooled place x is)

  shows_now : ShowsMade v.checkpoint.content (now (wrote put log))
  shows_now place x is = go (put place) refl
    where
      go : (o : Option AnyUnit) → put place ≡ o → IsMade v.checkpoint.content place x
      go None none = m.shows place x (ap (λ (o : Option AnyUnit). or_else o (now log place)) (sym none) ∙ is)
      go (Some y) some = pool_made place x (inr (inl (some ∙ ap (λ (o : Option AnyUnit). or_else o (now log place)) (sym some) ∙ is)))

  now_one : now (wrote put log) (CopyPlace 1) ≡ Some (CopyUnit v.checkpoint.content)
  now_one = ap (λ (o : Option AnyUnit). or_else o (now log (CopyPlace 1))) one.at

  now_grown : HasGrown sh (add Synced (wrote put log)) v
  now_grown = record {
    fair = m.being.fair;
    grows = (holds_if (now (wrote put log)) (λ place firm. refl) shows_now (CopyUnit v.checkpoint.content) now_one, inl (begins_made sh (now (wrote put log)) (settled log) v first shows_now m.being.made));
  }

  stop_grown : (image : Units) → IsLeftBy (wrote put log) image → NoChance (wrote put log) image → Grown sh (add (Stopped image) (wrote put log))
  stop_grown image left chance = elim (either image left (shows_left image chance) (image (CopyPlace 1)) refl) [
    | inl holds ↦ inl (v, record { fair = (left, chance, m.being.fair); grows = (holds, inl (begins_made sh image (settled log) v first (shows_left image chance) m.being.made)) })
    | inr split ↦ inr (v.checkpoint.content, record { fair = (left, chance, m.being.fair); first = m.being.first; made = made_more v.checkpoint.content image (settled log) m.being.made (shows_left image chance) split })
  ]

  pub born : IsSafe sh (wrote put log) × EachLeft (wrote put log) (λ image. MayHold sh image v) × RestsOn sh (add Synced (wrote put log)) v
  born = (
    record { grown = inr (v.checkpoint.content, record { fair = m.being.fair; first = m.being.first; made = m.being.made }); synced = inl (v, now_grown); stopped = stop_grown },
    λ image left chance. either image left (shows_left image chance) (image (CopyPlace 1)) refl,
    synced_rests sh (wrote put log) v now_grown,
  )

pub second_copy_law : SecondCopyLaw
second_copy_law sh log v put first m dry zeroth one = born sh log v put first m dry zeroth one

-- ---- the whole of it

headers_made : (c : Content) (put : Units) → PutsReserved put → PutsMade c put
headers_made c put reserved = record {
  made = λ place y is. let e = reserved place y is in rw e.2 (e.1, e.3, e.4);
  copies = λ n above. go n (put (CopyPlace n)) refl;
}
  where
    go : (n : ℕ) (o : Option AnyUnit) → put (CopyPlace n) ≡ o → put (CopyPlace n) ≡ None
    go n None none = none
    go n (Some y) some = absurd (let at = (reserved (CopyPlace n) y some).2 in cc)

copy_made : (c : Content) (put : Units) → PutsOne put (CopyPlace 0) (CopyUnit c) → PutsMade c put
copy_made c put one = record {
  made = λ place y is. let at = one.only place y is in rw at.0 at.1;
  copies = λ n above. go n above (put (CopyPlace n)) refl;
}
  where
    go : (n : ℕ) → 0 < n → (o : Option AnyUnit) → put (CopyPlace n) ≡ o → put (CopyPlace n) ≡ None
    go n above None none = none
    go n above (Some y) some = absurd (let zero_is : n ≡ 0 = (let at = (one.only (CopyPlace n) y some).0 in cc) in omega arith)

headers_all : (sh : Shape) (c : Content) (puts : List Units) (log : UnitLog)
    → IsMaking sh log c → AllReserved puts → AtEach (IsSafe sh) log (all_puts puts) × IsMaking sh (after_steps (all_puts puts) log) c
headers_all sh c [] log m all = (making_safe sh log c m, m)
headers_all sh c (put ∷ puts) log m all =
    let rest = headers_all sh c puts (wrote put log) (making_wrote sh log c m put (headers_made c put all.0)) all.1 in
    ((making_safe sh log c m, rest.0), rest.1)

module _ (sh : Shape) (v : View) (puts : PutsCopies v.checkpoint.content) (first : IsFirst sh v) where
  abbrev c : Content
  c = v.checkpoint.content

  abbrev copy_steps : List Step
  copy_steps = Syncs ∷ update_steps puts

  at_put : (put image : Units) (n : ℕ) → PutsOne put (CopyPlace n) (CopyUnit c) → overlay put image (CopyPlace n) ≡ Some (CopyUnit c)
  at_put put image n one = ap (λ (o : Option AnyUnit). or_else o (image (CopyPlace n))) one.at

  pub copies_all : (log : UnitLog) → IsMaking sh log c → AtEach (IsSafe sh) log copy_steps × RestsOn sh (after_steps copy_steps log) v
  copies_all log m = let log0 : UnitLog = add Synced log in let m0 : IsMaking sh log0 c = making_synced sh log c m in
      let w0 : IsMaking sh (wrote puts.put0 log0) c = making_wrote sh log0 c m0 puts.put0 (copy_made c puts.put0 puts.one0) in
      let log1 : UnitLog = add Synced (wrote puts.put0 log0) in
      let m1 : IsMaking sh log1 c = making_synced sh (wrote puts.put0 log0) c w0 in
      let zeroth : now log1 (CopyPlace 0) ≡ Some (CopyUnit c) = at_put puts.put0 (now log0) 0 puts.one0 in
      let birth = born sh log1 v puts.put1 first m1 (λ place. refl) zeroth puts.one1 in
      let log2 : UnitLog = add Synced (wrote puts.put1 log1) in let zero2 : now log2 (CopyPlace 0) ≡ Some (CopyUnit c) =
      put_else puts.put1 (now log1) (CopyPlace 1) (CopyPlace 0) (CopyUnit c) puts.one1 (λ same. cc (same)) ∙ zeroth in
      let one_2 : now log2 (CopyPlace 1) ≡ Some (CopyUnit c) = at_put puts.put1 (now log1) 1 puts.one1 in
      let third = copy_law sh log2 v puts.put2 2 birth.2 (quiet_synced (wrote puts.put1 log1))
      puts.one2 (agree_beside (now log2) c 0 1 2 (omega arith) (omega arith) (λ e. omega arith) (λ e. omega arith) zero2 one_2) in
      let log3 : UnitLog = add Synced (wrote puts.put2 log2) in let zero3 : now log3 (CopyPlace 0) ≡ Some (CopyUnit c) =
      put_else puts.put2 (now log2) (CopyPlace 2) (CopyPlace 0) (CopyUnit c) puts.one2 (λ same. cc (same)) ∙ zero2 in
      let one_3 : now log3 (CopyPlace 1) ≡ Some (CopyUnit c) =
      put_else puts.put2 (now log2) (CopyPlace 2) (CopyPlace 1) (CopyUnit c) puts.one2 (λ same. cc (same)) ∙ one_2 in
      let fourth = copy_law sh log3 v puts.put3 3 third.rests (quiet_synced (wrote puts.put2 log2))
      puts.one3 (agree_beside (now log3) c 0 1 3 (omega arith) (omega arith) (λ e. omega arith) (λ e. omega arith) zero3 one_3) in
      let log4 : UnitLog = add Synced (wrote puts.put3 log3) in (
        (
          making_safe sh log c m,
          (
            making_safe sh log0 c m0,
            (
              making_safe sh (wrote puts.put0 log0) c w0,
              (
                making_safe sh log1 c m1,
                (
                  birth.0,
                  (
                    rests_safe sh log2 v birth.2,
                    (third.good.safe, (rests_safe sh log3 v third.rests, (fourth.good.safe, rests_safe sh log4 v fourth.rests))),
                  ),
                ),
              ),
            ),
          ),
        ),
        fourth.rests,
      )

pub format_law : FormatLaw
format_law sh log v headers puts m first reserved = let made = headers_all sh v.checkpoint.content headers log m reserved in
    let rest = copies_all sh v puts first (after_steps (all_puts headers) log) made.1 in
    let steps : List Step = Syncs ∷ update_steps puts in (
      each_append (IsSafe sh) (all_puts headers) steps log made.0 rest.0,
      rw (sym (after_append (all_puts headers) steps log)) at rest.1,
    )

pub making_sync_law : MakingSyncLaw
making_sync_law sh log c m = (making_synced sh log c m, making_safe sh log c m)
