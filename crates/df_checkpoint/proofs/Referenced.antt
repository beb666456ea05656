-- The addresses of a chain's links, and the least one that is referenced.
use Rattle.std.proofs.{Common.{◌≡◌, ℕ, ◌<◌, ◌==◌, ◌||◌, Bool, true, false, List, [], ◌∷◌, length, get_or, refl, subst, arith, eqb-true}, lemmas.Bool.Decides.{nat_tests}, lemmas.List.Folds.{list_any_at}}
use Rattle.{df_trailer.specs.declared.reader.Reader.{Reader}, df_grid.specs.Grid.{GridState, HasAddress}}
use Rattle.df_checkpoint.specs.{declared.links.Link.{Link}, Chain.{AreDistinctLinks, is_among}, Adopting.{IsFirstReferenced, LiveRefused}}

-- each link's address is among those of the chain
pub link_among : (refs : List Link) (i : ℕ) (d : Link) → i < length refs → is_among (get_or refs i d).address refs ≡ true
link_among refs i d less = list_any_at (λ (r : Link). r.address == (get_or refs i d).address) refs i d less (grind (arith, nat_tests))

-- an address of the chain is one of the grid's
pub among_inside : (g : GridState) (refs : List Link) (a : ℕ) → AreDistinctLinks g refs → is_among a refs ≡ true → HasAddress g a
among_inside g [] a apart is = absurd (cc)
among_inside g (r ∷ rs) a apart is = go (r.address == a) refl (λ more. among_inside g rs a apart.2 more) is
  where
    go : (t : Bool) → (r.address == a) ≡ t → (is_among a rs ≡ true → HasAddress g a) → (t || is_among a rs) ≡ true → HasAddress g a
    go true e others h = subst (λ (n : ℕ). HasAddress g n) (eqb-true r.address a e) apart.0
    go false e others h = others h

-- where one is referenced, nothing is adopted
pub first_refused : (g : GridState) (reader : Reader) (refs : List Link) (at : ℕ)
    → AreDistinctLinks g refs → IsFirstReferenced reader refs at → LiveRefused g reader refs at
first_refused g reader refs at apart first = record { inside = among_inside g refs at apart first.chained; chained = first.chained; known = first.known; least = λ a inside less among. first.least a less among }
