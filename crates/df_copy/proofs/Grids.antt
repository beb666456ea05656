-- The grid of a target with one block more.
use Rattle.std.proofs.{Common.{◌≡◌, ℕ, ◌+◌, ◌==◌, Bool, if◌then◌else◌, List, [], ◌∷◌, ◌++◌, length, refl, sym, ◌∙◌, ap, arith}, lemmas.Bool.{le-ltb, ne_eqb}}
use Rattle.{df_base.proofs.Laws.{plus_zero, plus_suc}, df_layout.specs.declared.layout.Layout.{Layout}, df_format.specs.Message.{Message}}
use Rattle.{df_units.specs.Meaning.{number_of}, df_grid.specs.{Grid.{GridState}, Table.{no_blocks}}, df_model.specs.Blocks.{with_entry}}
use Rattle.df_copy.{specs.{declared.target.Target.{Target}, Acts.{HasNext, with_block}, Targets.{IsTarget, grid_with, numbered}, Units.{moved, moved_from}}, proofs.Listed.{moved_length, moved_push, push_length}}

pub numbered_push : (a : ℕ) (us : List Message) (u : Message)
    → numbered a (us ++ u ∷ []) ≡ numbered a us ++ (a + length us, number_of u.header.checksum) ∷ []
numbered_push a [] u = ap (λ (k : ℕ). (k, number_of u.header.checksum) ∷ []) (plus_zero a)
numbered_push a (v ∷ us) u = ap (λ (l : List (ℕ × ℕ)). (a, number_of v.header.checksum) ∷ l)
    (numbered_push (a + 1) us u ∙ ap (λ (k : ℕ). numbered (a + 1) us ++ (k, number_of u.header.checksum) ∷ []) (plus_suc a (length us)))

-- an address after all of them goes last
pub with_last : (a : ℕ) (us : List Message) (k c : ℕ) → k ≡ a + length us → with_entry k c (numbered a us) ≡ numbered a us ++ (k, c) ∷ []
with_last a [] k c is = refl
with_last a (u ∷ us) k c is = ap (λ (b : Bool).
    if b then (k, c) ∷ (a, x) ∷ rest else (if a == k then (k, c) ∷ rest else (a, x) ∷ with_entry k c rest)) (le-ltb k a (omega (arith, is)))
    ∙ ap (λ (b : Bool). if b then (k, c) ∷ rest else (a, x) ∷ with_entry k c rest) (ne_eqb a k (λ same. omega (arith, is, same)))
    ∙ ap (λ (l : List (ℕ × ℕ)). (a, x) ∷ l) (with_last (a + 1) us k c (omega (arith, is)))
  where
    x : ℕ
    x = number_of u.header.checksum

    rest : List (ℕ × ℕ)
    rest = numbered (a + 1) us

module _ (layout : Layout) (cluster : ℕ) (bs : List Message) (b : Message) (n : ℕ) (is : n ≡ length bs) where
  abbrev sum : ℕ → ℕ
  sum k = number_of (moved k b).header.checksum

  abbrev us : List Message
  us = moved_from 1 bs

  live_push : with_entry (n + 1) (sum (n + 1)) (numbered 1 us) ≡ numbered 1 (moved_from 1 (bs ++ b ∷ []))
  live_push = with_last 1 us (n + 1) (sum (n + 1)) (omega (arith, is, moved_length 1 bs))
      ∙ ap (λ (k : ℕ). numbered 1 us ++ (k, sum k) ∷ []) one
      ∙ ap (λ (k : ℕ). numbered 1 us ++ (k, sum (1 + length bs)) ∷ []) (ap (λ (k : ℕ). 1 + k) (sym (moved_length 1 bs)))
      ∙ sym (numbered_push 1 us (moved (1 + length bs) b)) ∙ ap (numbered 1) (sym (moved_push 1 bs b))
    where
      one : n + 1 ≡ 1 + length bs
      one = omega (arith, is)

  pub grid_push : with_block (grid_with layout cluster (moved_from 1 bs)) (moved (n + 1) b)
      ≡ grid_with layout cluster (moved_from 1 (bs ++ b ∷ []))
  grid_push = ap (λ (l : List (ℕ × ℕ)). grid l) live_push
    where
      grid : List (ℕ × ℕ) → GridState
      grid l = record { layout = layout; cluster = cluster; boot = 0; blocks = record no_blocks { live = l } }

pub target_push : (layout : Layout) (cluster : ℕ) (rs bs : List Message) (b : Message) (t n : Target)
    → IsTarget layout cluster rs bs t → HasNext b t n → IsTarget layout cluster rs (bs ++ b ∷ []) n
target_push layout cluster rs bs b t n is next = record {
  layout_is = next.layout_is ∙ is.layout_is;
  grid = next.grid ∙ ap (λ (g : GridState). with_block g (moved (t.copied + 1) b)) is.grid ∙ grid_push layout cluster bs b t.copied is.copied;
  checks = next.checks ∙ is.checks;
  copied = next.copied ∙ sym (push_length bs b t.copied (sym is.copied));
}
