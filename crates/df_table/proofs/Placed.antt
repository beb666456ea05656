-- Blocks by their addresses: which are live, that a new one lies above them, and so stands last among them.
use Rattle.std.{proofs.{Common.{◌≡◌, inl, inr, ℕ, zero, suc, ◌+◌, ◌<◌, ◌≤◌, ◌==◌, ◌||◌, Bool, true, false, if◌then◌else◌, List, [], ◌∷◌, ◌++◌, Option, Some, None, refl, sym, ◌∙◌, ap, arith, eq-eqb, eqb-true, ne_eqb}, lemmas.Bool.{cases_eq, cases_lt, eqb-false}}, specs.List.{range_with_len}}
use Rattle.{df_base.proofs.Laws.{no_some}, df_theory.specs.{Shape.{Shape}, UnitLog.{UnitLog}}}
use Rattle.df_model.{specs.{After.{with_live}, Blocks.{entries, entry, sum_at}, Laws.{IsLeastFree}, Work.{Work, is_captured, is_held, is_known, is_of}}, proofs.Laws.{live_held}}
use Rattle.df_table.specs.Written.{WroteBodies, WroteBody}

-- ---- lists of blocks

pub wrote_more : (log : UnitLog) (references : List (ℕ × ℕ)) (bodies : List (List ℕ)) (x : ℕ × ℕ) (body : List ℕ)
    → WroteBodies log references bodies → WroteBody log x body → WroteBodies log (references ++ x ∷ []) (bodies ++ body ∷ [])
wrote_more log [] [] x body all one = (one, tt)
wrote_more log [] (b ∷ bodies) x body all one = absurd all
wrote_more log (y ∷ references) [] x body all one = absurd all
wrote_more log (y ∷ references) (b ∷ bodies) x body all one = (all.0, wrote_more log references bodies x body all.1 one)

pub one_some : {A : Type 0} {x y : A} → Some x ≡ Some y → x ≡ y
one_some is = cc

-- a map without an entry from an address on
pub none_from : (f : ℕ → Option ℕ) (s n : ℕ) → ((y : ℕ) → s ≤ y → f y ≡ None) → entries f (range_with_len s n) ≡ []
none_from f s zero none = refl
none_from f s (suc n) none = ap (λ (o : Option ℕ). entry s o (entries f (range_with_len (s + 1) n))) (none s (omega arith))
    ∙ none_from f (s + 1) n (λ y from. none y (omega (arith, from)))

entry_before : (s : ℕ) (o : Option ℕ) (rest : List (ℕ × ℕ)) (x : ℕ × ℕ) → entry s o (rest ++ x ∷ []) ≡ entry s o rest ++ x ∷ []
entry_before s None rest x = refl
entry_before s (Some c) rest x = refl

-- an entry after all others
module _ (f : ℕ → Option ℕ) (a c : ℕ) where
  abbrev with_last : ℕ → Option ℕ
  with_last y = if y == a then Some c else f y

  last_there : (s : ℕ) → s ≡ a → with_last s ≡ Some c
  last_there s same = ap (λ (b : Bool). if b then Some c else f s) (eq-eqb s a same)

  last_apart : (s : ℕ) → (s ≡ a → ⊥) → with_last s ≡ f s
  last_apart s apart = ap (λ (b : Bool). if b then Some c else f s) (ne_eqb s a apart)

  pub entries_last : (s n : ℕ) → s ≤ a → a < s + n
      → ((y d : ℕ) → f y ≡ Some d → y < a) → entries with_last (range_with_len s n) ≡ entries f (range_with_len s n) ++ (a, c) ∷ []
  entries_last s zero from to low = absurd (omega (arith, from, to))
  entries_last s (suc n) from to low = elim (cases_eq s a) [
    | inl same ↦ let none : (y : ℕ) → a ≤ y → f y ≡ None = λ y above. no_some (f y) (λ d is. omega (arith, above, low y d is)) in
        let rest : entries with_last (range_with_len (s + 1) n) ≡ [] = none_from with_last (s + 1) n (λ y above.
        last_apart y (λ is. omega (arith, is, same, above)) ∙ none y (omega (arith, same, above))) in
        let all : entries f (range_with_len s (suc n)) ≡ [] = none_from f s (suc n) (λ y above. none y (omega (arith, same, above))) in
        ap (λ (o : Option ℕ). entry s o (entries with_last (range_with_len (s + 1) n))) (last_there s same) ∙ ap (λ (l : List (ℕ × ℕ)).
        (s, c) ∷ l) rest ∙ ap (λ (y : ℕ). (y, c) ∷ []) same ∙ sym (ap (λ (l : List (ℕ × ℕ)). l ++ (a, c) ∷ []) all)
    | inr other ↦ ap (λ (o : Option ℕ). entry s o (entries with_last (range_with_len (s + 1) n))) (last_apart s other)
        ∙ ap (entry s (f s)) (entries_last (s + 1) n (omega (arith, from, other)) (omega (arith, to)) low)
        ∙ entry_before s (f s) (entries f (range_with_len (s + 1) n)) (a, c)
  ]

-- ---- addresses

-- below a live block each address is held
abbrev pub LowHeld : Work → Type 0
LowHeld w = (a c : ℕ) → w.live a ≡ Some c → (y : ℕ) → 0 < y → y < a → is_held w y ≡ true

held_case : (b others : Bool) (o : Option ℕ) (sum : ℕ) → (is_known o || others) ≡ true → (is_known (if b then Some sum else o) || others) ≡ true
held_case true others o sum held = refl
held_case false others o sum held = held

held_more : (w : Work) (a sum y : ℕ) → is_held w y ≡ true → is_held (with_live w a (Some sum)) y ≡ true
held_more w a sum y held = held_case (y == a)
    (is_captured y w.running || (is_known (w.view.checkpoint.parts.references y) || is_of y w.view.checkpoint.chain)) (w.live y) sum held

false_true : (b : Bool) → b ≡ false → b ≡ true → ⊥
false_true b is_false is_true = let apart : false ≡ true = sym is_false ∙ is_true in cc

-- a free address lies above each live one
pub lower : (w : Work) (a y d : ℕ) → LowHeld w → 0 < a → is_held w a ≡ false → w.live y ≡ Some d → y < a
lower w a y d low some free live = elim (cases_lt y a) [
  | inl less ↦ less
  | inr above ↦ elim (cases_eq y a) [
    | inl same ↦ absurd (false_true (is_held w a) free (rw same at (live_held w y d live)))
    | inr other ↦ absurd (false_true (is_held w a) free (low y d live a some (omega (arith, above, other))))
  ]
]

pub low_more : (sh : Shape) (w : Work) (a sum : ℕ) → LowHeld w → IsLeastFree sh w a → LowHeld (with_live w a (Some sum))
low_more sh w a sum low least x d live y some below = held_more w a sum y (go (x == a) refl live)
  where
    go : (b : Bool) → (x == a) ≡ b → (if b then Some sum else w.live x) ≡ Some d → is_held w y ≡ true
    go true same is = least.below y some (omega (arith, below, eqb-true x a same))
    go false other is = low x d is y some below

-- ---- what is let go

-- each live block is one of these
abbrev pub OnlyLive : List (ℕ × ℕ) → Work → Type 0
OnlyLive es w = (a c : ℕ) → w.live a ≡ Some c → (d : ℕ) × (sum_at a es ≡ Some d)

abbrev pub NoLive : Work → Type 0
NoLive w = (a c : ℕ) → w.live a ≡ Some c → ⊥

pub one_less : (x : ℕ × ℕ) (es : List (ℕ × ℕ)) (w : Work) → OnlyLive (x ∷ es) w → OnlyLive es (with_live w x.0 None)
one_less x es w only a c is = go (a == x.0) refl is
  where
    behind : (b : Bool) (d : ℕ) → (x.0 == a) ≡ b → (a == x.0) ≡ false → (if b then Some x.1 else sum_at a es) ≡ Some d → sum_at a es ≡ Some d
    behind true d same other found = absurd (eqb-false a x.0 other (sym (eqb-true x.0 a same)))
    behind false d same other found = found

    go : (b : Bool) → (a == x.0) ≡ b → (if b then None else w.live a) ≡ Some c → (d : ℕ) × (sum_at a es ≡ Some d)
    go true same found = absurd (cc (found))
    go false other found = let there = only a c found in (there.0, behind (x.0 == a) there.0 refl other there.1)

pub none_live : (w : Work) → OnlyLive [] w → NoLive w
none_live w only a c is = let there = only a c is in absurd (let no : None ≡ Some there.0 = there.1 in cc)
