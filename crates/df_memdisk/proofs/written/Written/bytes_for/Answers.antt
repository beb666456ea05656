-- The sector's bytes stand from its place in the write on.
use Rattle.{std.proofs.Common.{◌≡◌, ◌+◌, ◌-◌, ◌*◌, arith, refl, sym, ◌∙◌, true}, df_base.specs.Image.{covers}}
use Rattle.df_memdisk.proofs.written.Written.bytes_for.Goals as goal

pub returns-clause-bytes : goal.returns-clause-bytes
returns-clause-bytes c =
    let size : 4096 * (c.args.sector - c.args.self.now.at) + 4096 - 4096 * (c.args.sector - c.args.self.now.at) ≡ 4096 = omega arith in
    let yes : covers c.args.self.now.at c.args.self.now.bytes.items c.args.sector ≡ true = sym c.covers.ensures.answer ∙ c.if-not-covers.false in
    rw (yes, size, c.deref.ensures.value) refl
