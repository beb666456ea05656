-- How many entries pass a test, counted by what is looked up at each address.
use Rattle.std.{proofs.Common.{◌≡◌, ℕ, suc, ◌+◌, Bool, true, false, cond, Option, Some, None, List, [], ◌∷◌, length, map, refl, ap, arith}, specs.Prelude.{slice_get}}
use Rattle.{df_model.specs.Blocks.{sum_at}, df_units.specs.Meaning.{number_of}}
use Rattle.df_trailer.specs.{Spelling.{is_referenced, listed}, Text.{ones}, Writing.{captured_blocks}}
use Rattle.df_grid.{specs.{declared.entry.Entry.{Entry}, Table.{picked}}, proofs.Picks.{pick_at}}

pub counted_from : (test : Entry → Bool) (f : ℕ → Option ℕ) (s : ℕ) (es : List Entry)
    → ((i : ℕ) (e : Entry) → slice_get es i ≡ Some e → f i ≡ cond (test e) (Some (number_of e.checksum)) None)
    → length (picked test s es) ≡ ones (map is_referenced (listed f (length es)))
counted_from test f s [] each = refl
counted_from test f s (e ∷ es) each =
    go (f 0) (test e) (each 0 e refl) (counted_from test (λ k. f (suc k)) (s + 1) es (λ i x at. each (suc i) x at))
  where
    go : (o : Option ℕ) (b : Bool) → o ≡ cond b (Some (number_of e.checksum)) None
        → length (picked test (s + 1) es) ≡ ones (map is_referenced (listed (λ k. f (suc k)) (length es)))
        → length (cond b ((s, number_of e.checksum) ∷ picked test (s + 1) es) (picked test (s + 1) es))
        ≡ ones (is_referenced o ∷ map is_referenced (listed (λ k. f (suc k)) (length es)))
    go (Some c) true is more = ap suc more
    go None false is more = more
    go (Some c) false is more = absurd (cc)
    go None true is more = absurd (cc)

pub counted : (test : Entry → Bool) (es : List Entry)
    → length (picked test 1 es) ≡ ones (map is_referenced (captured_blocks (λ a. sum_at a (picked test 1 es)) (length es)))
counted test es =
    counted_from test (λ place. sum_at (suc place) (picked test 1 es)) 1 es (λ i e at. pick_at test (suc i) 1 i es e (omega arith) at)
