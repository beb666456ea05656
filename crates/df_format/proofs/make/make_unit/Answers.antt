-- The body was put there.
use Rattle.{std.proofs.Common.{ℕ, List, sym, ◌∙◌, ap, subst, arith}, df_base.specs.Fields.{check_of}}
use Rattle.df_format.{specs.{Making.{for_body}, Message.{sectors_of}, Rules.{ObeysRules}, Spelling.{sealed}, UnitLaws.{MadeIsUnit}}, proofs.Makes.{body_put, further}}
use Rattle.df_format.proofs.make.make_unit.Goals as goal

pub seal_summed-requires-clause-rules : goal.seal_summed-requires-clause-rules
seal_summed-requires-clause-rules c = subst (λ (l : List ℕ). ObeysRules (for_body c.args.header l)) (sym (body_put
    c.args.body.now c.args.into.now c.put_bytes.new.into (omega (arith, c.requires.room)) c.put_bytes.ensures.front)) c.requires.rules

pub returns-clause-header : goal.returns-clause-header
returns-clause-header c = c.seal_summed.ensures.header ∙ ap (λ (l : List ℕ). sealed (for_body c.args.header l))
    (body_put c.args.body.now c.args.into.now c.put_bytes.new.into (omega (arith, c.requires.room)) c.put_bytes.ensures.front)

pub returns-clause-unit : goal.returns-clause-unit
returns-clause-unit c = subst (λ (l : List ℕ). MadeIsUnit (record { header = c.seal_summed.result.header; body = l })) (body_put c.args.body.now c.args.into.now c.put_bytes.new.into (omega (arith, c.requires.room)) c.put_bytes.ensures.front) c.seal_summed.ensures.unit

pub returns-clause-sectors : goal.returns-clause-sectors
returns-clause-sectors c =
    c.seal_summed.ensures.sectors ∙ ap (λ (l : List ℕ). sectors_of (record { header = c.seal_summed.result.header; body = l }))
    (body_put c.args.body.now c.args.into.now c.put_bytes.new.into (omega (arith, c.requires.room)) c.put_bytes.ensures.front)

pub returns-clause-rest : goal.returns-clause-rest
returns-clause-rest c = c.seal_summed.ensures.rest
    ∙ further _ _ c.put_bytes.new.into c.args.into.now (omega (arith, c.seal_summed.ensures.length)) c.put_bytes.ensures.rest

pub seal_summed-requires-clause-sum : goal.seal_summed-requires-clause-sum
seal_summed-requires-clause-sum c = c.check-sum.ensures ∙ ap (λ (l : List ℕ). check_of l)
    (sym (body_put c.args.body.now c.args.into.now c.put_bytes.new.into (omega (arith, c.requires.room)) c.put_bytes.ensures.front))
