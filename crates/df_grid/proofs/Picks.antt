-- The entries that pass a test: what is looked up among them, and what a change of one entry makes of them.
use Rattle.std.{proofs.{Common.{◌≡◌, ℕ, zero, suc, ◌+◌, ◌<◌, ◌≤◌, ◌==◌, Bool, true, false, cond, nat_lt, Some, None, List, [], ◌∷◌, length, map, set, refl, sym, ap, ◌∙◌, arith, eq-eqb, ne_eqb, lt-ltb, le-ltb}, lemmas.Bool.{cond-true, cond-false}}, specs.Prelude.{slice_get}}
use Rattle.{df_model.specs.Blocks.{sum_at, with_entry, without_entry}, df_units.specs.Meaning.{number_of}}
use Rattle.df_grid.specs.{declared.entry.Entry.{Entry}, Table.{picked}}

-- an entry at another address is passed over
other_at : (a s n : ℕ) (passes : Bool) (l : List (ℕ × ℕ)) → (s == a) ≡ false → sum_at a (cond passes ((s, n) ∷ l) l) ≡ sum_at a l
other_at a s n true l other = cond-false (s == a) (Some n) (sum_at a l) other
other_at a s n false l other = refl

module _ (test : Entry → Bool) where
  -- nothing is picked below the first address
  pub below : (a s : ℕ) (es : List Entry) → a < s → sum_at a (picked test s es) ≡ None
  below a s [] less = refl
  below a s (e ∷ es) less = other_at a s (number_of e.checksum) (test e) (picked test (s + 1) es) (ne_eqb s a (λ same. omega arith))
      ∙ below a (s + 1) es (omega arith)

  -- what is looked up at an address is its entry's checksum, where the entry passes
  pub pick_at : (a s i : ℕ) (es : List Entry) (e : Entry)
      → a ≡ s + i → slice_get es i ≡ Some e → sum_at a (picked test s es) ≡ cond (test e) (Some (number_of e.checksum)) None
  pick_at a s i [] e is at = absurd (cc)
  pick_at a s zero (x ∷ es) e is at = let same : x ≡ e = cc in
      ap (λ (y : Entry). sum_at a (cond (test y) ((s, number_of y.checksum) ∷ picked test (s + 1) es) (picked test (s + 1) es))) same
      ∙ go (test e)
    where
      go : (b : Bool) → sum_at a (cond b ((s, number_of e.checksum) ∷ picked test (s + 1) es) (picked test (s + 1) es))
          ≡ cond b (Some (number_of e.checksum)) None
      go true = cond-true (s == a) (Some (number_of e.checksum)) (sum_at a (picked test (s + 1) es)) (eq-eqb s a (omega arith))
      go false = below a (s + 1) es (omega arith)
  pick_at a s (suc i) (x ∷ es) e is at = other_at a s (number_of x.checksum)
      (test x) (picked test (s + 1) es) (ne_eqb s a (λ same. omega arith)) ∙ pick_at a (s + 1) i es e (omega arith) at

  -- nothing is picked past the last one
  pub past : (a s : ℕ) (es : List Entry) → s + length es ≤ a → sum_at a (picked test s es) ≡ None
  past a s [] le = refl
  past a s (e ∷ es) le = other_at a s (number_of e.checksum) (test e) (picked test (s + 1) es) (ne_eqb s a (λ same. omega arith))
      ∙ past a (s + 1) es (omega arith)

  -- ---- a new entry

  in_front : (a c s : ℕ) (es : List Entry) → a < s → with_entry a c (picked test s es) ≡ (a, c) ∷ picked test s es
  in_front a c s [] less = refl
  in_front a c s (e ∷ es) less = go (test e) (in_front a c (s + 1) es (omega arith))
    where
      go : (b : Bool) → with_entry a c (picked test (s + 1) es) ≡ (a, c) ∷ picked test (s + 1) es → with_entry a c (cond b ((s, number_of e.checksum) ∷ picked test (s + 1) es) (picked test (s + 1) es)) ≡ (a, c) ∷ cond b ((s, number_of e.checksum) ∷ picked test (s + 1) es) (picked test (s + 1) es)
      go true more = cond-true (nat_lt a s) ((a, c) ∷ (s, number_of e.checksum) ∷ picked test (s + 1) es) _ (lt-ltb a s less)
      go false more = more

  -- an entry that passes now is one of them
  pub pick_set : (a s i : ℕ) (es : List Entry) (e old : Entry) → a ≡ s + i
      → slice_get es i ≡ Some old → test e ≡ true → picked test s (set es i e) ≡ with_entry a (number_of e.checksum) (picked test s es)
  pick_set a s i [] e old is at passes = absurd (cc)
  pick_set a s zero (x ∷ es) e old is at passes =
      cond-true (test e) ((s, number_of e.checksum) ∷ picked test (s + 1) es) (picked test (s + 1) es) passes
      ∙ ap (λ (k : ℕ). (k, number_of e.checksum) ∷ picked test (s + 1) es) here ∙ sym (go (test x))
    where
      here : s ≡ a
      here = omega arith

      go : (b : Bool) → with_entry a (number_of e.checksum) (cond b ((s, number_of x.checksum)
          ∷ picked test (s + 1) es) (picked test (s + 1) es)) ≡ (a, number_of e.checksum) ∷ picked test (s + 1) es
      go true = cond-false (nat_lt a s) _ (cond (s == a) ((a, number_of e.checksum) ∷ picked test (s + 1) es) ((s, number_of x.checksum) ∷ with_entry a (number_of e.checksum) (picked test (s + 1) es))) (le-ltb a s (omega arith)) ∙ cond-true (s == a) ((a, number_of e.checksum) ∷ picked test (s + 1) es) _ (eq-eqb s a here)
      go false = in_front a (number_of e.checksum) (s + 1) es (omega arith)
  pick_set a s (suc i) (x ∷ es) e old is at passes = go (test x) (pick_set a (s + 1) i es e old (omega arith) at passes)
    where
      go : (b : Bool) → picked test (s + 1) (set es i e) ≡ with_entry a (number_of e.checksum) (picked test (s + 1) es) → cond b ((s, number_of x.checksum) ∷ picked test (s + 1) (set es i e)) (picked test (s + 1) (set es i e)) ≡ with_entry a (number_of e.checksum) (cond b ((s, number_of x.checksum) ∷ picked test (s + 1) es) (picked test (s + 1) es))
      go true rest = ap (λ (l : List (ℕ × ℕ)). (s, number_of x.checksum) ∷ l) rest
          ∙ sym (cond-false (nat_lt a s) _ (cond (s == a) ((a, number_of e.checksum) ∷ picked test (s + 1) es)
          ((s, number_of x.checksum) ∷ with_entry a (number_of e.checksum) (picked test (s + 1) es))) (le-ltb a s (omega arith))
          ∙ cond-false (s == a)
          _ ((s, number_of x.checksum) ∷ with_entry a (number_of e.checksum) (picked test (s + 1) es)) (ne_eqb s a (λ same. omega arith)))
      go false rest = rest

  -- ---- an entry less

  without_below : (a s : ℕ) (es : List Entry) → a < s → without_entry a (picked test s es) ≡ picked test s es
  without_below a s [] less = refl
  without_below a s (e ∷ es) less = go (test e) (without_below a (s + 1) es (omega arith))
    where
      go : (b : Bool) → without_entry a (picked test (s + 1) es) ≡ picked test (s + 1) es → without_entry a (cond b ((s, number_of e.checksum) ∷ picked test (s + 1) es) (picked test (s + 1) es)) ≡ cond b ((s, number_of e.checksum) ∷ picked test (s + 1) es) (picked test (s + 1) es)
      go true more = cond-false (s == a) _ ((s, number_of e.checksum) ∷ without_entry a (picked test (s + 1) es))
          (ne_eqb s a (λ same. omega arith)) ∙ ap (λ (l : List (ℕ × ℕ)). (s, number_of e.checksum) ∷ l) more
      go false more = more

  -- an entry that doesn't pass now is none of them
  pub pick_unset : (a s i : ℕ) (es : List Entry) (e old : Entry)
      → a ≡ s + i → slice_get es i ≡ Some old → test e ≡ false → picked test s (set es i e) ≡ without_entry a (picked test s es)
  pick_unset a s i [] e old is at fails = absurd (cc)
  pick_unset a s zero (x ∷ es) e old is at fails = cond-false (test e) _ (picked test (s + 1) es) fails ∙ sym (go (test x))
    where
      go : (b : Bool)
          → without_entry a (cond b ((s, number_of x.checksum) ∷ picked test (s + 1) es) (picked test (s + 1) es)) ≡ picked test (s + 1) es
      go true = cond-true (s == a) (picked test (s + 1) es) _ (eq-eqb s a (omega arith))
      go false = without_below a (s + 1) es (omega arith)
  pick_unset a s (suc i) (x ∷ es) e old is at fails = go (test x) (pick_unset a (s + 1) i es e old (omega arith) at fails)
    where
      go : (b : Bool) → picked test (s + 1) (set es i e) ≡ without_entry a (picked test (s + 1) es) → cond b ((s, number_of x.checksum) ∷ picked test (s + 1) (set es i e)) (picked test (s + 1) (set es i e)) ≡ without_entry a (cond b ((s, number_of x.checksum) ∷ picked test (s + 1) es) (picked test (s + 1) es))
      go true rest = ap (λ (l : List (ℕ × ℕ)). (s, number_of x.checksum) ∷ l) rest ∙ sym (cond-false
          (s == a) _ ((s, number_of x.checksum) ∷ without_entry a (picked test (s + 1) es)) (ne_eqb s a (λ same. omega arith)))
      go false rest = rest

  -- ---- nothing changes

  -- an entry that passes as the old one did, with its checksum where it passes
  pub pick_keep : (s i : ℕ) (es : List Entry) (e old : Entry) → slice_get es i ≡ Some old → test e ≡ test old
      → (test old ≡ true → number_of e.checksum ≡ number_of old.checksum) → picked test s (set es i e) ≡ picked test s es
  pick_keep s i [] e old at same sum = refl
  pick_keep s zero (x ∷ es) e old at same sum = let here : old ≡ x = cc in
      ap (λ (b : Bool). cond b ((s, number_of e.checksum) ∷ picked test (s + 1) es) (picked test (s + 1) es)) same ∙ go (test old) refl
      ∙ ap (λ (y : Entry). cond (test y) ((s, number_of y.checksum) ∷ picked test (s + 1) es) (picked test (s + 1) es)) here
    where
      go : (b : Bool) → test old ≡ b → cond b ((s, number_of e.checksum) ∷ picked test (s + 1) es) (picked test (s + 1) es)
          ≡ cond b ((s, number_of old.checksum) ∷ picked test (s + 1) es) (picked test (s + 1) es)
      go true is = ap (λ (n : ℕ). (s, n) ∷ picked test (s + 1) es) (sum is)
      go false is = refl
  pick_keep s (suc i) (x ∷ es) e old at same sum =
      ap (λ (l : List (ℕ × ℕ)). cond (test x) ((s, number_of x.checksum) ∷ l) l) (pick_keep (s + 1) i es e old at same sum)

-- every entry is changed, and passes one test as it passed another one before
pub pick_map : (f : Entry → Entry) (test before : Entry → Bool) (s : ℕ) (es : List Entry)
    → ((e : Entry) → test (f e) ≡ before e) → ((e : Entry) → (f e).checksum ≡ e.checksum) → picked test s (map f es) ≡ picked before s es
pick_map f test before s [] same sum = refl
pick_map f test before s (e ∷ es) same sum =
    ap (λ (b : Bool). cond b ((s, number_of (f e).checksum) ∷ picked test (s + 1) (map f es)) (picked test (s + 1) (map f es))) (same e)
    ∙ ap (λ (c : List ℕ). cond (before e) ((s, number_of c) ∷ picked test (s + 1) (map f es)) (picked test (s + 1) (map f es))) (sum e)
    ∙ ap (λ (l : List (ℕ × ℕ)). cond (before e) ((s, number_of e.checksum) ∷ l) l) (pick_map f test before (s + 1) es same sum)

-- no entry passes
pub pick_none : (test : Entry → Bool) (s : ℕ) (es : List Entry)
    → ((i : ℕ) (e : Entry) → slice_get es i ≡ Some e → test e ≡ false) → picked test s es ≡ []
pick_none test s [] none = refl
pick_none test s (e ∷ es) none =
    cond-false (test e) _ (picked test (s + 1) es) (none 0 e refl) ∙ pick_none test (s + 1) es (λ i x at. none (suc i) x at)
