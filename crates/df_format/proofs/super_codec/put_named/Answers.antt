use Rattle.{std.proofs.{Common.{arith, ◌∙◌, sym}, lemmas.List.{take_all}}, df_format.specs.Super.{named, named_bytes}}
use Rattle.df_base.{proofs.Laws.{written}, specs.{Text.{Puts}, Text.Puts.{Done, PutBytes}}}
use Rattle.df_format.proofs.super_codec.put_named.Goals as goal

pub returns : goal.returns
unfolding named_bytes
returns c = let puts : Puts c.args.fields.now named 160 c.args.into.now c.put_zeros-2.new.into = PutBytes c.put_check.ensures.front
    (PutBytes c.put_zeros.ensures.front (PutBytes c.put_checks.ensures (PutBytes c.put_zeros-2.ensures.front Done))) in
    sym (take_all 4096 c.put_zeros-2.new.into (omega
    (arith, c.requires, c.put_check.auto.into, c.put_zeros.auto.into, c.put_checks.auto.into, c.put_zeros-2.auto.into))) ∙ written puts
