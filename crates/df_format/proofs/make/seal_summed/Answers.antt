use Rattle.std.proofs.Common.{◌∙◌, ap}
use Rattle.df_format.{specs.{declared.header.Header.{Header}, Spelling.{sealed}}, proofs.Makes.{made_is_unit}}
use Rattle.df_format.proofs.make.seal_summed.Goals as goal

pub returns-clause-unit : goal.returns-clause-unit
returns-clause-unit c = rw c.body_in-body.ensures at
    (made_is_unit c.args.header c.seal_header-header.result _ (c.seal_header-header.ensures.value
    ∙ ap (λ (h : Header). sealed h) c.for_body.ensures) c.seal_header-header.ensures.sealed c.are_bytes.ensures)
