-- Each turn mends one link more.
use Rattle.std.proofs.{Common.{◌-◌, ◌∙◌, [], ap, arith, length, map, subst, sym}, lemmas.List.{length-map}}
use Rattle.{df_format.specs.declared.superblock.SuperFields.{SuperFields}, df_theory.specs.Trailer.{IsCount}}
use Rattle.{df_opening.specs.Below.{shape}, df_units.specs.Meaning.{number_of}}
use Rattle.df_mirror.{specs.Walks.{IsInsideGrid, content_of_superblock}, proofs.{Chains.{walk_ends}, Counts.{count_few, count_inside}, Turns.{begins, comes_to, goes_on, stops}}}
use Rattle.df_mirror.proofs.trailer.mend_chain.Goals as goal

pub loop-done-init : goal.loop-done-init
loop-done-init g c = let b = c.args.base.now in let named = c.fields-fields.ensures.value in
    let usable = c.fields-fields.ensures.usable.rules in let count = c.block_count-count.result in
    let counted = subst (λ (f : SuperFields). IsCount (b.file.layout.block_size - 256) f.trailer_size count) named
    c.block_count-count.ensures in record {
      walked = begins c.requires.layout (λ x t is. record { chain = []; addresses = ap (map (λ r. r.address)) c.new.ensures; arrives = (ap (λ (f : SuperFields). f.trailer_address) named, ap (λ (f : SuperFields). number_of f.trailer_checksum) named); links = tt });
      few = count_few b usable count counted c.chains_have_room.ensures;
      size = ap length c.new.ensures;
      inside = λ some. subst (λ (f : SuperFields). IsInsideGrid b f.trailer_address) (sym named) (count_inside b usable count counted some);
      counted = counted;
    }

pub returns-in-Err-clause-mends : goal.returns-in-Err-clause-mends
returns-in-Err-clause-mends g c = λ t o tell. let i = c.loop-done.invariant in stops i.walked c.in-Err.ending (λ refusal ms are. are)
    (λ x m also on walked. c.in-Err.ensures.mends m also c.block_count-count.result on i.counted
    (omega (arith, i.size, c.loop-done-test.true)) walked) tt t o tell tt _

pub loop-done-preserved : goal.loop-done-preserved
loop-done-preserved g c = let i = c.loop-done.invariant in let did = c.in-Ok.ensures in record {
  walked = goes_on i.walked did.same did.blamed did.more.1 (omega (arith, i.walked.few, did.more.2))
      (λ x m o on walked. did.mends m o c.block_count-count.result on i.counted (omega (arith, i.size, c.loop-done-test.true)) walked);
  few = i.few;
  size = omega (arith, i.size, did.more.0);
  inside = λ more. did.more.3 (omega (arith, more));
  counted = i.counted;
}

pub returns-clause-mends : goal.returns-clause-mends
returns-clause-mends g c = λ t o tell. let b = c.args.base.now in let i = c.loop-done.invariant in let walk = c.loop-done.walk in
    comes_to i.walked (λ x image walked. walk_ends (shape b.file) image (content_of_superblock b) c.block_count-count.result
    walked.chain walk.at.address (number_of walk.at.checksum) i.counted walked.arrives walked.links
    (sym (length-map walked.chain (λ x. x.0)) ∙ sym (ap length walked.addresses)
    ∙ length-map walk.read.items (λ r. r.address) ∙ omega (arith, i.size, c.loop-done-test.false, i.few, c.loop-done.auto))) tt t o tell tt
