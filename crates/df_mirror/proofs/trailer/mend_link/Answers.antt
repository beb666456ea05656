-- The link is mended, or the chain breaks there.
use Rattle.{std.proofs.Common.{◌∙◌, ap, refl, subst, sym}, df_checkpoint.specs.Chain.{IsLinkOf, IsNoLink}, df_opening.specs.Below.{shape}}
use Rattle.df_format.specs.declared.{kind.Kind.TheVariants.{Trailer}, superblock.SuperFields.{SuperFields}}
use Rattle.df_mirror.{specs.Walks.{broken_at}, proofs.{Loaded.{held_some}, Linked.{link_again, link_broken, link_failed, link_on, unrefused_chain}}}
use Rattle.df_mirror.proofs.trailer.mend_link.Goals as goal

pub returns-then-is_among-clause-mends : goal.returns-then-is_among-clause-mends
returns-then-is_among-clause-mends g c = λ t o n tell counts size walked.
    link_again c.args.base.now n c.args.index c.args.walk t o counts size walked c.deref.result.now c.deref.ensures.0
    (sym c.is_among.ensures ∙ c.if-is_among.true) c.requires.inside.0 _ _ _ tell (ap broken_at c.from.ensures)

pub returns-in-Some-clause-mends : goal.returns-in-Some-clause-mends
returns-in-Some-clause-mends g c = λ t o n tell counts size walked. let b = c.args.base.now in let u = c.unit.result.now.unit in
    let is = subst (λ (f : SuperFields). IsLinkOf b.file.layout f c.args.index u) c.fields.ensures.value c.in-Some.ensures.link.0 in
    link_on b n c.args.index c.args.walk t o counts size walked c.deref.result.now c.deref.ensures.0
    (sym c.is_among.ensures ∙ c.if-is_among.false)
    c.known_at-wanted.result c.known_at-wanted.ensures.identity c.known_at-wanted.ensures.check _ _ tell c.unit.result.now
    c.mend_unit.new.shelf.held
    c.unit.ensures c.in-Ok.more c.in-Ok.ensures.mends c.in-Ok.ensures.shown (record { at = c.in-Some.before; read = c.push.new.self })
    c.requires.inside.0 (is (shape b.file) refl, c.in-Some.ensures.link.1, c.push.ensures.items)

pub returns-in-None-clause-mends : goal.returns-in-None-clause-mends
returns-in-None-clause-mends g c = λ t o n tell counts size walked. let b = c.args.base.now in let u = c.unit.result.now.unit in
    let none = subst (λ (f : SuperFields). IsNoLink b.file.layout f c.args.index u) c.fields.ensures.value c.in-None.ensures.none in
    link_broken b n c.args.index c.args.walk t o counts size walked c.deref.result.now c.deref.ensures.0
    (sym c.is_among.ensures ∙ c.if-is_among.false)
    c.known_at-wanted.result c.known_at-wanted.ensures.identity c.known_at-wanted.ensures.check _ _ tell c.unit.result.now
    c.mend_unit.new.shelf.held c.unit.ensures c.in-Ok.more c.in-Ok.ensures.mends c.in-Ok.ensures.shown _ _ c.requires.inside.0
    (ap broken_at c.from.ensures) (none (shape b.file) refl)

pub returns-in-Err-clause-mends : goal.returns-in-Err-clause-mends
returns-in-Err-clause-mends g c = λ t o n tell counts size walked.
    link_failed c.args.base.now n c.args.index c.args.walk t o counts size walked c.deref.result.now c.deref.ensures.0
    (sym c.is_among.ensures ∙ c.if-is_among.false) c.known_at-wanted.result c.known_at-wanted.ensures.identity
    c.known_at-wanted.ensures.check _ _ tell c.in-Err.ending _ c.in-Err.ensures.mends

pub unit-requires : goal.unit-requires
unit-requires g c = held_some Trailer c.known_at-wanted.result c.mend_unit.new.shelf.held c.in-Ok.ensures.unit.1

pub returns-in-Err-clause-broken : goal.returns-in-Err-clause-broken
returns-in-Err-clause-broken g c = unrefused_chain c.in-Err.ending c.in-Err.ensures.unrefused

pub returns-then-is_among-clause-broken : goal.returns-then-is_among-clause-broken
returns-then-is_among-clause-broken g c = (_, refl)

pub returns-in-None-clause-broken : goal.returns-in-None-clause-broken
returns-in-None-clause-broken g c = (_, refl)
