-- The fields are those of the copy's superblock, which obey the rules.
use Rattle.std.proofs.Common.{◌≡◌, ◌∙◌, List, None, Some, ap, sym}
use Rattle.df_format.{specs.{Message.{Message}, SuperRules.{fault_of}, declared.superblock.SuperFields.{SuperFields}}, proofs.Laws.{faults}}
use Rattle.df_copy.{specs.{Targets.{fields_in, superblock_of}, Trailers.{with_trailer}}, proofs.{Naming.{named_super}, Usables.{copy_super}}}
use Rattle.df_copy.proofs.superblock.copied_superblock.Goals as goal

pub unreachable-requires : goal.unreachable-requires
unreachable-requires c = let t = c.args.target.now in let s = c.args.replica.now in let rs : List Message = c.requires.written.0 in
    let bs : List Message = c.requires.written.1 in let is : c.with_trailer.result ≡ superblock_of t.layout s rs bs =
    c.with_trailer.ensures.fields ∙ ap (with_trailer c.last_block.result c.args.plan.size)
    (c.fields_for-fields.ensures ∙ ap (λ (f : SuperFields). fields_in t.layout f t.checks) c.fields.ensures.value)
    ∙ named_super t.layout s rs bs t
    c.last_block.result c.args.plan.size c.requires.written.2 c.last_block.ensures.last c.with_trailer.ensures.check c.requires.plan.size in
    let super = copy_super t.layout s rs bs (record { state = c.fields.ensures.state; usable = c.fields.ensures.usable; fits = c.requires.fits; each = c.requires.written.3; all = c.requires.written.4; room = c.requires.room }) in
    let none : fault_of c.with_trailer.result ≡ None = ap fault_of is ∙ (faults (superblock_of t.layout s rs bs)).1 super in
    let some : fault_of c.with_trailer.result ≡ Some c.in-Err.field-0 = (c.in-Err.ensures {u = tt}).fault in
    let both : None ≡ Some c.in-Err.field-0 = sym none ∙ some in cc

pub returns : goal.returns
returns c = λ rs bs is all. let t = c.args.target.now in let s = c.args.replica.now in
    (c.in-Ok.ensures {u = tt}).fields ∙ c.with_trailer.ensures.fields ∙ ap (with_trailer c.last_block.result c.args.plan.size)
    (c.fields_for-fields.ensures ∙ ap (λ (f : SuperFields). fields_in t.layout f t.checks) c.fields.ensures.value) ∙ named_super
    t.layout s rs bs t c.last_block.result c.args.plan.size is c.last_block.ensures.last c.with_trailer.ensures.check c.requires.plan.size
