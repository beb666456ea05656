-- Where four copies are written one after the other on a target that showed none, a stop leaves two of them that agree, or none do; all
-- else is as it was.
use Rattle.std.proofs.{Common.{◌≡◌, ◌⊎◌, inl, inr, ℕ, ◌+◌, ◌<◌, ◌≤◌, ◌||◌, false, Option, Some, None, refl, sym, ◌∙◌, ap, subst, arith}, lemmas.Bool.{cases_eq, cases_lt}}
use Rattle.df_theory.specs.{Chance.{EachLeft, InPool, NoChance}, Copies.{Agree, IsSplit}, CopyPuts.{PutsCopies, update_steps}, Rests.{IsCopy}, Runs.{AtEach}, UnitLog.{IsLeftBy, PutsOne, Synced, UnitLog, add, loose, now, settled, wrote}, Units.{AnyUnit, Content, CopyPlace, CopyUnit, Place, Units, is_some, or_else}}
use Rattle.df_copy.{specs.Stops.{AreSplit}, proofs.Untouched.{split_beside}}

module _ (c : Content) (then : Units) where
  -- an image shows this but for the copies, and none of another content
  pub record IsPartly (image : Units) : Type 0 where
    pub same : (place : Place) → (IsCopy place → ⊥) → image place ≡ then place
    pub only : (n : ℕ) (d : Content) → n < 4 → image (CopyPlace n) ≡ Some (CopyUnit d) → d ≡ c

  abbrev Decided : UnitLog → Units → Type 0
  Decided log image = (IsSplit image × AreSplit (settled log)) ⊎ (IsPartly image × Agree image c)

  -- no two copies agree, and none did; or two do
  abbrev pub Leaves : UnitLog → Type 0
  Leaves log = EachLeft log (Decided log)

  -- the first k copies are durable, and nothing is loose
  pub record IsUnderWay (k : ℕ) (log : UnitLog) : Type 0 where
    pub dry : (place : Place) → loose log place ≡ false
    pub first : (n : ℕ) → n < k → n < 4 → now log (CopyPlace n) ≡ Some (CopyUnit c)
    pub later : (n : ℕ) → k ≤ n → n < 4 → now log (CopyPlace n) ≡ None
    pub same : (place : Place) → (IsCopy place → ⊥) → now log place ≡ then place
    pub pool : (n : ℕ) (x : AnyUnit) → n < 4 → InPool log (CopyPlace n) x → x ≡ CopyUnit c
    pub early : k < 2 → AreSplit (settled log)

  module _ (k : ℕ) (log : UnitLog) (is : IsUnderWay k log) where
    -- ---- an image in which the next copy is anything

    module _ (image : Units) (same : (place : Place) → (IsCopy place → ⊥) → image place ≡ then place)
        (copies : (n : ℕ) → n < 4 → (n ≡ k → ⊥) → image (CopyPlace n) ≡ now log (CopyPlace n))
        (at : (x : AnyUnit) → k < 4 → image (CopyPlace k) ≡ Some x → x ≡ CopyUnit c) where
      there : (n : ℕ) → n < 4 → n < k → image (CopyPlace n) ≡ Some (CopyUnit c)
      there n inside below = copies n inside (λ e. omega (arith, e, below)) ∙ is.first n below inside

      none : (n : ℕ) → n < 4 → k < n → image (CopyPlace n) ≡ None
      none n inside above = copies n inside (λ e. omega (arith, e, above)) ∙ is.later n (omega (arith, above)) inside

      partly : IsPartly image
      partly = record {
        same = same;
        only = λ n d inside shows. elim (cases_eq n k) [
          | inl here ↦ let one : CopyUnit d ≡ CopyUnit c =
              at (CopyUnit d) (omega (arith, here, inside)) (ap (λ (m : ℕ). image (CopyPlace m)) (sym here) ∙ shows) in cc
          | inr away ↦ elim (cases_lt n k) [
            | inl below ↦ let both : Some (CopyUnit d) ≡ Some (CopyUnit c) = sym shows ∙ there n inside below in cc
            | inr above ↦ absurd (let both : None ≡ Some (CopyUnit d) = sym (none n inside (omega (arith, above, away))) ∙ shows in cc)
          ]
        ];
      }

      two : image (CopyPlace 0) ≡ Some (CopyUnit c) → image (CopyPlace 1) ≡ Some (CopyUnit c) → IsPartly image × Agree image c
      two zeroth one = (partly, record { first = 0; second = 1; apart = omega arith; inside = omega arith; at_first = zeroth; at_second = one })

      -- the second copy decides
      by_second : k ≡ 1 → (o : Option AnyUnit) → image (CopyPlace 1) ≡ o → Decided log image
      by_second second None nothing = inl (
        split_beside image (λ n above inside. elim (cases_eq n 1) [
          | inl here ↦ ap (λ (m : ℕ). image (CopyPlace m)) here ∙ nothing
          | inr away ↦ none n inside (omega (arith, above, away, second))
        ]),
        is.early (omega (arith, second)),
      )
      by_second second (Some x) shows =
          let one : x ≡ CopyUnit c = at x (omega (arith, second)) (ap (λ (m : ℕ). image (CopyPlace m)) second ∙ shows) in
          inr (two (there 0 (omega arith) (omega (arith, second))) (shows ∙ ap (λ (y : AnyUnit). Some y) one))

      decided : Decided log image
      decided = elim (cases_lt k 1) [
        | inl before ↦
            inl (split_beside image (λ n above inside. none n inside (omega (arith, above, before))), is.early (omega (arith, before)))
        | inr past ↦ elim (cases_lt k 2) [
          | inl second ↦ by_second (omega (arith, past, second)) (image (CopyPlace 1)) refl
          | inr more ↦ inr (two (there 0 (omega arith) (omega (arith, more))) (there 1 (omega arith) (omega (arith, more))))
        ]
      ]

    -- ---- nothing is loose

    pub dry_leaves : Leaves log
    dry_leaves image left chance = let all : (place : Place) → image place ≡ now log place = λ place. left place (is.dry place) in
        decided image (λ place other. all place ∙ is.same place other) (λ n inside away. all (CopyPlace n))
        (λ x inside shows. absurd (let both : None ≡ Some x = sym (all (CopyPlace k) ∙ is.later k (omega arith) inside) ∙ shows in cc))

    -- ---- the next copy is being written

    module _ (inside : k < 4) (put : Units) (one : PutsOne put (CopyPlace k) (CopyUnit c)) where
      abbrev behind : UnitLog
      behind = wrote put log

      nothing : (place : Place) → (place ≡ CopyPlace k → ⊥) → put place ≡ None
      nothing place other = go (put place) refl
        where
          go : (o : Option AnyUnit) → put place ≡ o → put place ≡ None
          go None it = it
          go (Some y) it = absurd (other (one.only place y it).0)

      no_other : (place : Place) → (IsCopy place → ⊥) → place ≡ CopyPlace k → ⊥
      no_other place other e = other (subst IsCopy (sym e) tt)

      no_copy_else : (n : ℕ) → (n ≡ k → ⊥) → CopyPlace n ≡ CopyPlace k → ⊥
      no_copy_else n away e = away (cc)

      else_left : (image : Units) → IsLeftBy behind image → (place : Place) → (place ≡ CopyPlace k → ⊥) → image place ≡ now log place
      else_left image left place other = let none_is = nothing place other in
          left place (λ i. is_some (none_is i) || is.dry place i) ∙ ap (λ (o : Option AnyUnit). or_else o (now log place)) none_is

      pooled : (image : Units) → NoChance behind image → (x : AnyUnit) → image (CopyPlace k) ≡ Some x → x ≡ CopyUnit c
      pooled image chance x shows = elim (chance.pooled (CopyPlace k) x shows) [
        | inl old ↦ is.pool k x inside (inl old)
        | inr (inl new) ↦ (one.only (CopyPlace k) x new).1
        | inr (inr before) ↦ is.pool k x inside (inr before)
      ]

      pub wet_leaves : Leaves behind
      wet_leaves image left chance =
          decided image (λ place other. else_left image left place (no_other place other) ∙ is.same place other) (λ n within away.
          else_left image left (CopyPlace n) (no_copy_else n away)) (λ x within shows. pooled image chance x shows)

      -- ---- and it is durable

      else_now : (place : Place) → (place ≡ CopyPlace k → ⊥) → now behind place ≡ now log place
      else_now place other = ap (λ (o : Option AnyUnit). or_else o (now log place)) (nothing place other)

      own_now : now behind (CopyPlace k) ≡ Some (CopyUnit c)
      own_now = ap (λ (o : Option AnyUnit). or_else o (now log (CopyPlace k))) one.at

      there_now : (n : ℕ) → n < k + 1 → n < 4 → now behind (CopyPlace n) ≡ Some (CopyUnit c)
      there_now n below within = elim (cases_eq n k) [
        | inl here ↦ rw (sym here) at own_now
        | inr away ↦ else_now (CopyPlace n) (no_copy_else n away) ∙ is.first n (omega (arith, below, away)) within
      ]

      none_now : (n : ℕ) → k + 1 ≤ n → n < 4 → now behind (CopyPlace n) ≡ None
      none_now n above within = else_now (CopyPlace n) (no_copy_else n (λ e. omega (arith, e, above))) ∙ is.later n (omega (arith, above)) within

      now_pool : (n : ℕ) (x : AnyUnit) → n < 4 → now behind (CopyPlace n) ≡ Some x → x ≡ CopyUnit c
      now_pool n x within shows = elim (cases_lt n (k + 1)) [
        | inl below ↦ let both : Some x ≡ Some (CopyUnit c) = sym shows ∙ there_now n below within in cc
        | inr above ↦ absurd (let both : None ≡ Some x = sym (none_now n above within) ∙ shows in cc)
      ]

      pub next : IsUnderWay (k + 1) (add Synced behind)
      next = record {
        dry = λ place. refl;
        first = there_now;
        later = none_now;
        same = λ place other. else_now place (no_other place other) ∙ is.same place other;
        pool = λ n x within at. elim at [
          | inl (inl here) ↦ now_pool n x within here
          | inl (inr old) ↦ is.pool n x within (inl old)
          | inr none ↦ absurd none
        ];
        early = λ few.
            (split_beside (now behind) (λ n above within. none_now n (omega (arith, few, above)) within), is.early (omega (arith, few)));
      }

  -- ---- all four

  pub update_leaves : (puts : PutsCopies c) (log : UnitLog) → IsUnderWay 0 log → AtEach Leaves log (update_steps puts)
  update_leaves puts log u0 = let log1 : UnitLog = add Synced (wrote puts.put0 log) in
      let u1 : IsUnderWay 1 log1 = next 0 log u0 (omega arith) puts.put0 puts.one0 in
      let log2 : UnitLog = add Synced (wrote puts.put1 log1) in
      let u2 : IsUnderWay 2 log2 = next 1 log1 u1 (omega arith) puts.put1 puts.one1 in
      let log3 : UnitLog = add Synced (wrote puts.put2 log2) in
      let u3 : IsUnderWay 3 log3 = next 2 log2 u2 (omega arith) puts.put2 puts.one2 in
      let log4 : UnitLog = add Synced (wrote puts.put3 log3) in
      let u4 : IsUnderWay 4 log4 = next 3 log3 u3 (omega arith) puts.put3 puts.one3 in (
        dry_leaves 0 log u0,
        (
          wet_leaves 0 log u0 (omega arith) puts.put0 puts.one0,
          (
            dry_leaves 1 log1 u1,
            (
              wet_leaves 1 log1 u1 (omega arith) puts.put1 puts.one1,
              (dry_leaves 2 log2 u2, (wet_leaves 2 log2 u2 (omega arith) puts.put2 puts.one2, (dry_leaves 3 log3 u3, (wet_leaves 3 log3 u3 (omega arith) puts.put3 puts.one3, dry_leaves 4 log4 u4)))),
            ),
          ),
        ),
      )
