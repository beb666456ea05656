use Rattle.{std.proofs.{Common.{arith, sym, ◌∙◌}, lemmas.List.{take_all}}, df_format.specs.Spelling.{tail, tail_of}}
use Rattle.df_base.{proofs.Laws.{written}, specs.{Text.{Puts}, Text.Puts.{Done, Put, PutBytes}}}
use Rattle.df_format.proofs.codec.put_tail.Goals as goal

pub returns : goal.returns
unfolding tail_of
returns c = let puts : Puts c.args.header.now tail 122 c.args.into.now c.put_zeros.new.into =
    Put (omega arith) c.put_u16.ensures (Put (omega arith) c.put_u64.ensures
    (Put (omega arith) c.put_u64-2.ensures (Put (omega arith) c.put_u64-3.ensures (PutBytes c.put_zeros.ensures.front Done)))) in
    sym (take_all 256 c.put_zeros.new.into (omega
    (arith, c.requires, c.put_u16.auto.bytes, c.put_u64.auto.bytes, c.put_u64-2.auto.bytes, c.put_u64-3.auto.bytes, c.put_zeros.auto.into)))
    ∙ written puts
