-- What each place shows after steps that put units one after the other.
use Rattle.std.{proofs.{Common.{◌≡◌, inl, inr, ℕ, zero, suc, ◌+◌, ◌<◌, ◌≤◌, ◌==◌, Bool, true, false, if◌then◌else◌, List, [], ◌∷◌, length, Option, Some, None, refl, ◌∙◌, ap, arith}, lemmas.Bool.{eq-eqb, ne_eqb}}, specs.Prelude.{slice_get}}
use Rattle.df_theory.specs.{Units.{AnyUnit, CopyPlace, CopyUnit, HeaderPlace, HeaderUnit, Header, IsReserved, Place, Units, or_else}, CopyPuts.{update_steps}, MakingLaws.{AllReserved, PutsReserved, all_puts}, MendLaws.{Reaches}, Runs.{Puts, Step}, UnitLog.{put_one, same_place}}
use Rattle.{df_format.specs.{declared.superblock.SuperFields.{SuperFields}, Copies.{content_with}}, df_opening.proofs.Laws.{unit_after}}
use Rattle.df_units.specs.{Meaning.{content_of}, Puts.{put_copies, put_copy}}

-- ---- units at places that are counted

-- these units, at places one after the other
abbrev pub placed : (ℕ → Place) → ℕ → List AnyUnit → List Step
placed at a [] = []
placed at a (x ∷ xs) = Puts (put_one (at a) x) ∷ placed at (a + 1) xs

-- a place that isn't the one that is put to stays as it was
missed : (here other : Place) (x : AnyUnit) (o : Option AnyUnit) → same_place here other ≡ false → or_else (put_one here x other) o ≡ o
missed here other x o apart = ap (λ (b : Bool). or_else (if b then Some x else None) o) apart

hit : (here other : Place) (x : AnyUnit) (o : Option AnyUnit) → same_place here other ≡ true → or_else (put_one here x other) o ≡ Some x
hit here other x o same = ap (λ (b : Bool). or_else (if b then Some x else None) o) same

-- so do all places of another kind
pub after_other : (at : ℕ → Place) (other : Place) → ((a : ℕ) → same_place (at a) other ≡ false)
    → (a : ℕ) (xs : List AnyUnit) (o : Option AnyUnit) → unit_after (placed at a xs) other o ≡ o
after_other at other apart a [] o = refl
after_other at other apart a (x ∷ xs) o =
    after_other at other apart (a + 1) xs (or_else (put_one (at a) x other) o) ∙ missed (at a) other x o (apart a)

module _ (at : ℕ → Place) (counts : (a b : ℕ) → same_place (at a) (at b) ≡ (a == b)) where
  apart_at : (a k : ℕ) → (a ≡ k → ⊥) → same_place (at a) (at k) ≡ false
  apart_at a k differs = counts a k ∙ ne_eqb a k differs

  same_at : (a k : ℕ) → a ≡ k → same_place (at a) (at k) ≡ true
  same_at a k same = counts a k ∙ eq-eqb a k same

  -- those before them
  pub after_below : (a k : ℕ) (xs : List AnyUnit) (o : Option AnyUnit) → k < a → unit_after (placed at a xs) (at k) o ≡ o
  after_below a k [] o less = refl
  after_below a k (x ∷ xs) o less = after_below (a + 1) k xs (or_else (put_one (at a) x (at k)) o) (omega (arith, less))
      ∙ missed (at a) (at k) x o (apart_at a k (λ same. omega (arith, less, same)))

  -- and those after them
  pub after_above : (a k : ℕ) (xs : List AnyUnit) (o : Option AnyUnit) → a + length xs ≤ k → unit_after (placed at a xs) (at k) o ≡ o
  after_above a k [] o past = refl
  after_above a k (x ∷ xs) o past = after_above (a + 1) k xs (or_else (put_one (at a) x (at k)) o) (omega (arith, past))
      ∙ missed (at a) (at k) x o (apart_at a k (λ same. omega (arith, past, same)))

  -- each of them has its unit
  pub after_there : (a i k : ℕ) (xs : List AnyUnit) (x : AnyUnit) (o : Option AnyUnit)
      → slice_get xs i ≡ Some x → k ≡ a + i → unit_after (placed at a xs) (at k) o ≡ Some x
  after_there a i k [] x o is here = absurd (cc)
  after_there a zero k (y ∷ xs) x o is here = after_below (a + 1) k xs (or_else (put_one (at a) y (at k)) o) (omega (arith, here))
      ∙ hit (at a) (at k) y o (same_at a k (omega (arith, here))) ∙ is
  after_there a (suc i) k (y ∷ xs) x o is here = after_there (a + 1) i k xs x (or_else (put_one (at a) y (at k)) o) is (omega (arith, here))

-- ---- the ring

-- reserved headers are put into slots alone
ring_put : (put : Units) (place : Place)
    → PutsReserved put → ((s : ℕ) → place ≡ HeaderPlace s → ⊥) → (o : Option AnyUnit) → put place ≡ o → o ≡ None
ring_put put place are other None is = refl
ring_put put place are other (Some y) is = let there = are place y is in absurd (other there.0 there.2)

pub ring_other : (puts : List Units) (place : Place) (o : Option AnyUnit)
    → AllReserved puts → ((s : ℕ) → place ≡ HeaderPlace s → ⊥) → unit_after (all_puts puts) place o ≡ o
ring_other [] place o are other = refl
ring_other (put ∷ puts) place o are other = ring_other puts place (or_else (put place) o) are.1 other
    ∙ ap (λ (q : Option AnyUnit). or_else q o) (ring_put put place are.0 other (put place) refl)

-- a slot that has a reserved header, or gets one, has one
abbrev pub IsReservedUnit : Option AnyUnit → Type 0
IsReservedUnit o = (h : Header) × (o ≡ Some (HeaderUnit h)) × IsReserved h

ring_keeps : (puts : List Units) (s : ℕ) (o : Option AnyUnit)
    → AllReserved puts → IsReservedUnit o → IsReservedUnit (unit_after (all_puts puts) (HeaderPlace s) o)
ring_keeps [] s o are is = is
ring_keeps (put ∷ puts) s o are is = ring_keeps puts s (or_else (put (HeaderPlace s)) o) are.1 (by (put (HeaderPlace s)) refl)
  where
    by : (q : Option AnyUnit) → put (HeaderPlace s) ≡ q → IsReservedUnit (or_else q o)
    by None at = is
    by (Some y) at = let there = are.0 (HeaderPlace s) y at in (there.1, ap (λ (x : AnyUnit). Some x) there.3, there.4)

pub ring_reached : (puts : List Units) (s : ℕ) (o : Option AnyUnit)
    → AllReserved puts → Reaches puts (HeaderPlace s) → IsReservedUnit (unit_after (all_puts puts) (HeaderPlace s) o)
ring_reached [] s o are reaches = absurd reaches
ring_reached (put ∷ puts) s o are (inl here) = let there = are.0 (HeaderPlace s) here.0 here.1 in
    ring_keeps puts s (or_else (put (HeaderPlace s)) o)
    are.1 (there.1, ap (λ (q : Option AnyUnit). or_else q o) here.1 ∙ ap (λ (x : AnyUnit). Some x) there.3, there.4)
ring_reached (put ∷ puts) s o are (inr later) = ring_reached puts s (or_else (put (HeaderPlace s)) o) are.1 later

-- ---- the copies

module _ (f : SuperFields) where
  abbrev content : AnyUnit
  content = CopyUnit (content_of (content_with f))

  -- the four copies of a superblock are put to their places
  pub update_there : (n : ℕ) (o : Option AnyUnit) → n < 4 → unit_after (update_steps (put_copies f)) (CopyPlace n) o ≡ Some content
  update_there zero o inside = refl
  update_there (suc zero) o inside = refl
  update_there (suc (suc zero)) o inside = refl
  update_there (suc (suc (suc zero))) o inside = refl
  update_there (suc (suc (suc (suc n)))) o inside = absurd (omega (arith, inside))

  -- and nothing to any place of another kind
  pub update_other : (place : Place) (o : Option AnyUnit)
      → ((n : ℕ) → same_place (CopyPlace n) place ≡ false) → unit_after (update_steps (put_copies f)) place o ≡ o
  update_other place o apart = missed
      (CopyPlace 3) place content (or_else (put_copy 2 f place) (or_else (put_copy 1 f place) (or_else (put_copy 0 f place) o))) (apart 3)
      ∙ missed (CopyPlace 2) place content (or_else (put_copy 1 f place) (or_else (put_copy 0 f place) o)) (apart 2)
      ∙ missed (CopyPlace 1) place content (or_else (put_copy 0 f place) o) (apart 1) ∙ missed (CopyPlace 0) place content o (apart 0)
