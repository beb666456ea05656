-- The superblock of the next boot obeys the rules.
use Rattle.{std.proofs.Common.{◌≡◌, ◌∙◌, ◌+◌, None, ap, subst, sym}, df_damage.specs.Below.{recorded, state_in}}
use Rattle.df_format.specs.{SuperRules.{fault_of}, declared.superblock.SuperFields.{SuperFields}}
use Rattle.df_opening.proofs.RaisedState.{no_fault}
use Rattle.df_opening.proofs.mending.next_superblock.Goals as goal

pub returns : goal.returns
returns c = c.in-Ok.ensures.fields ∙ c.recorded-next.ensures
    ∙ ap (λ (f : SuperFields). recorded (state_in c.args.parts.now) (record f { boot = f.boot + 1 })) c.fields-fields.ensures.value

pub unreachable-requires : goal.unreachable-requires
unreachable-requires c =
    let next = c.recorded-next.ensures ∙ ap (λ (f : SuperFields). recorded (state_in c.args.parts.now) (record f { boot = f.boot + 1 }))
    c.fields-fields.ensures.value in let none : fault_of c.recorded-next.result ≡ None =
    subst (λ (f : SuperFields). fault_of f ≡ None) (sym next)
    (no_fault (state_in c.args.parts.now) c.requires.whole.state c.len-count.ensures.table c.fields-fields.ensures.usable.rules
    c.requires.unspent) in let fault = c.in-Err.ensures.fault in cc
