-- What the room holds is what the image shows.
use Rattle.{std.{proofs.Common.{subst}, specs.Prelude.{IfOk}}, df_layout.specs.declared.places.Place.{Place}}
use Rattle.{df_format.specs.declared.kind.Kind.TheVariants.{Reply}, df_buffers.specs.declared.identity.Identity.{Identity}}
use Rattle.{df_places.specs.Shelves.{HoldsFound, IsRead}, df_replica.proofs.{LookupFinds.{if_tells}, ReadFinds.{wanted_at}}}
use Rattle.df_replica.proofs.lookup.load_known.Goals as goal

pub returns-clause-tells : goal.returns-clause-tells
returns-clause-tells g c = let told = g.D.Disk.told c.args.disk.now in let file = c.args.file.now in let held = c.load.new.self.held in
    let r = c.load.result in let known = c.known-identity.ensures in
    let holds = subst (λ (p : Place). IfOk r (λ wrong. HoldsFound Reply (wanted_at file.layout file.cluster p c.args.check) wrong held))
    c.reply_place.ensures (subst (λ (i : Identity). IfOk r (λ wrong. HoldsFound Reply i wrong held)) known.known c.load.ensures.holds) in
    let read = subst (λ (p : Place). IfOk r (λ wrong. IsRead Reply (wanted_at file.layout file.cluster p c.args.check) told wrong held))
    c.reply_place.ensures (subst (λ (i : Identity). IfOk r (λ wrong. IsRead Reply i told wrong held)) known.known c.load.ensures.read) in
    if_tells file c.args.place c.args.check known.check told r held holds read
