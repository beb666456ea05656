-- The body of a unit that was read is taken, or shows that the file is no table's: what follows of the call that read it.
use Rattle.{std.proofs.Common.{◌≡◌, ℕ, [], ◌∷◌, Option, Some, refl, Result, Ok, Err}, df_base.specs.Causes.{IsBlamed}}
use Rattle.{df_disk.specs.Told.{Told}, df_layout.specs.declared.places.Place.{Place}, df_model.specs.Commands.{Answer, Command}}
use Rattle.df_session.specs.{Below.{State as Replica}, Links.{Makes}}
use Rattle.df_table.{specs.{declared.ending.Ending.{Ending}, declared.ending.Ending.TheVariants.{NotTable}, Calls.{Comes}, Opening.{TakesBody}, Statuses.{is_disk}, Turns.{IsAccepted}}, proofs.Joined.{one_made, one_spent}}

module _ (A : Type 0) (taken : A → Type 0) (other : Place → Type 0) where
  -- it ends in no other way
  pub by_body : (P : Result A Ending → Type 0) (r : Result A Ending)
      → ((x : A) → taken x → P (Ok x)) → ((place : Place) → other place → P (Err (NotTable place))) → TakesBody taken other r → P r
  by_body P (Ok x) good bad takes = good x takes
  by_body P (Err (NotTable place)) good bad takes = bad place takes
  by_body P (Err ending) good bad takes = absurd takes

  -- the call was made
  pub body_comes : (command : Command) (s t : Replica) (old new : Option Told) (answer : Answer) (r : Result A Ending)
      → Makes command s t old new (Some answer) → IsAccepted answer → TakesBody taken other r → Comes (command ∷ []) s t old new r
  body_comes command s t old new answer r makes accepted takes =
      by_body (λ (q : Result A Ending). Comes (command ∷ []) s t old new q) r (λ x is. one_made command s t old new answer makes accepted)
      (λ place is. one_spent command s t old new answer (NotTable place) makes refl) takes

  -- and the disk isn't blamed
  pub body_blamed : (r : Result A Ending) (n now : ℕ) → TakesBody taken other r → now ≡ n → IsBlamed is_disk n now r
  body_blamed r n now takes same = by_body (λ (q : Result A Ending). IsBlamed is_disk n now q) r (λ x is. same) (λ place is. same) takes
