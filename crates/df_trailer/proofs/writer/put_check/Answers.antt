use Rattle.std.proofs.Common.{◌≡◌, ℕ, Option, Some, List, [], ◌∷◌, length, ap, sym, ◌∙◌, arith, append-nil}
use Rattle.{df_base.{specs.Fields.{spelled}, proofs.Laws.{length-spelled}}, df_trailer.specs.{Rooms.{number_in}, Spelling.{spell_checks}}}
use Rattle.df_trailer.proofs.writer.put_check.Goals as goal

pub returns-in-Some-clause-next : goal.returns-in-Some-clause-next
returns-in-Some-clause-next g c = let x : ℕ = c.u128_at.result in
    let is : Some x ≡ g.G.CapturedBlocks.captured c.args.grid.now c.args.address =
    ap (λ (n : ℕ). Some n) c.u128_at.ensures ∙ sym (ap (λ o. number_in o) c.in-Some.is) ∙ c.captured.ensures in
    let size : length (spell_checks (Some x ∷ [])) ≡ length (spell_checks
    (g.G.CapturedBlocks.captured c.args.grid.now c.args.address ∷ [])) = ap (λ (o : Option ℕ). length (spell_checks (o ∷ []))) is in
    let plain : length (spell_checks (Some x ∷ [])) ≡ length (spelled 16 x) = ap (λ (xs : List ℕ). length xs) (append-nil (spelled 16 x)) in
    omega (arith, c.put_u128.ensures.next, length-spelled 16 x, size, plain)
