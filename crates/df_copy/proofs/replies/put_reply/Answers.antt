-- A reply that fits may be made again, as it is.
use Rattle.{std.proofs.Common.{◌≡◌, ◌+◌, ◌∙◌, ℕ, List, length, ap, sym, arith}, df_layout.specs.declared.layout.Layout.{Layout}}
use Rattle.df_format.specs.{declared.header.Header.{Header}, Message.{Message}}
use Rattle.df_copy.{specs.Acts.{MayPutReply}, proofs.Units.{may_put_reply}}
use Rattle.df_copy.proofs.replies.put_reply.Goals as goal

pub put_again-requires-clause-may : goal.put_again-requires-clause-may
put_again-requires-clause-may g c = let u : Message = c.args.unit.now.unit in let layout : Layout = c.args.target.now.layout in
    let size : c.header-header.result.now.size ≡ 256 + length u.body =
    ap (λ (h : Header). h.size) c.header-header.ensures.header ∙ c.requires.place.is.body.size in let may =
    may_put_reply layout c.requires.place.own u c.requires.place.is c.requires.place.kind c.requires.place.inside (omega (arith, size)) in
    rw (sym c.body.ensures) at (rw (sym c.header-header.ensures.header) at may)
