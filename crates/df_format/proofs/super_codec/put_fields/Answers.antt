use Rattle.{std.proofs.Common.{arith}, df_format.specs.Super.{fields, fields_bytes}}
use Rattle.df_base.{proofs.Laws.{written}, specs.{Text.{Puts}, Text.Puts.{Done, Put, PutBytes}}}
use Rattle.df_format.proofs.super_codec.put_fields.Goals as goal

pub returns : goal.returns
unfolding fields_bytes
returns c = let puts : Puts c.args.fields.now fields 32 c.args.into.now c.put_u64-7.new.bytes =
    Put (omega arith) c.put_u32.ensures (Put (omega arith)
    c.put_u32-2.ensures (Put (omega arith) c.put_u32-3.ensures (Put (omega arith) c.put_u32-4.ensures (Put (omega arith) c.put_u128.ensures
    (Put (omega arith) c.put_u32-5.ensures (Put (omega arith)
    c.put_u32-6.ensures (Put (omega arith) c.put_u64.ensures (Put (omega arith) c.put_u64-2.ensures (Put (omega arith) c.put_u64-3.ensures
    (Put (omega arith)
    c.put_u64-4.ensures (Put (omega arith) c.put_u64-5.ensures (PutBytes c.put_check.ensures.front (PutBytes c.put_check-2.ensures.front
    (Put (omega arith) c.put_u64-6.ensures (Put (omega arith) c.put_u64-7.ensures Done))))))))))))))) in written puts
