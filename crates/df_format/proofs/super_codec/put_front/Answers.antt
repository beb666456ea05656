use Rattle.std.proofs.Common.{◌≡◌, arith, ◌++◌, ◌∙◌, ℕ, List, ap, take, replicate, append_assoc}
use Rattle.{df_base.{specs.Fields.{spelled}, proofs.Laws.{number_behind}}, df_format.proofs.CopyParts.{further, number_rest}}
use Rattle.df_format.proofs.super_codec.put_front.Goals as goal

pub returns-clause-front : goal.returns-clause-front
returns-clause-front c = let number : take 20 c.put_u32.new.bytes ≡ c.args.sum.now ++ spelled 4 c.args.number =
    number_behind 16 4 c.from.result c.put_check.new.into c.put_u32.new.bytes _ (omega arith) c.put_u32.ensures c.put_check.ensures.front
    ∙ ap (λ (x : ℕ). c.args.sum.now ++ spelled 4 x) c.from.ensures in
    c.put_zeros.ensures.front ∙ ap (λ (l : List ℕ). l ++ replicate 12 0) number ∙ append_assoc c.args.sum.now _ (replicate 12 0)

pub returns-clause-rest : goal.returns-clause-rest
returns-clause-rest c = c.put_zeros.ensures.rest ∙ further 20 12 c.put_u32.new.bytes
    c.put_check.new.into (number_rest 16 4 c.from.result c.put_check.new.into c.put_u32.new.bytes (omega arith) c.put_u32.ensures)
    ∙ further 16 16 c.put_check.new.into c.args.into.now c.put_check.ensures.rest
