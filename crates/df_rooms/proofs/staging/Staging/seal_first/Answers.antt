-- The first request's body is in the room that is sealed.
use Rattle.{std.proofs.Common.{◌≡◌, ◌<◌, ◌∷◌, [], ◌++◌, ℕ, List, length, take, sym, ◌∙◌, ap}, df_model.specs.Work.{Request}}
use Rattle.df_format.specs.{Making.{for_body}, Message.{Message, sectors_end}, Spelling.{sealed}}
use Rattle.df_rooms.{specs.Stagings.{Staged, first_request}, proofs.Stagings.{first_body, first_fit}}
use Rattle.df_rooms.proofs.staging.Staging.seal_first.Goals as goal

pub returns-clause-sealed : goal.returns-clause-sealed
returns-clause-sealed c = let some = rw (sym (ap (λ (s : Staged). s.requests) c.self.view_is)) at c.requires.some in
    let body : c.remove-held.result.room.body ≡ (first_request c.args.self.now.requests).body = first_body c.self.inside.staged.items
    c.remove-held.result some c.remove-held.ensures.value ∙ ap (λ (s : Staged). (first_request s.requests).body) c.self.view_is in record {
      held = c.seal-unit.result;
      layout = c.seal-unit.ensures.layout ∙ first_fit c.self.inside.layout c.self.inside.staged.items
          c.remove-held.result some c.remove-held.ensures.value c.self.invariant.held_fit ∙ ap (λ (s : Staged). s.layout) c.self.view_is;
      unit = c.seal-unit.ensures.unit ∙ ap (λ (l : List ℕ). record { header = sealed (for_body c.args.header l); body = l }) body;
      sectors = ap (λ (u : Message). take (sectors_end u.header.size) c.seal-unit.result.bytes) c.seal-unit.ensures.unit
          ∙ c.seal-unit.ensures.sectors;
      last = c.push_reserved.ensures.items ∙ ap (λ (s : Staged). s.sealed ++ c.seal-unit.result ∷ []) c.self.view_is;
    }
