-- The greatest named op whose prepare isn't shown. Where all are shown, the walk; short of the head that the superblock names it has
-- come to a named prepare that doesn't fit.
use Rattle.{std.proofs.Common.{arith, sym, subst}, df_format.specs.Spelling.{IsCheck}}
use Rattle.{df_theory.specs.{Shape.{Shape}, Units.{Units}, View.{Checkpoint}}, df_journal.specs.{Shows.{TellsRings}, Tail.{FindsReach}}}
use Rattle.df_recovery.{specs.Known.{IsBaseOf}, proofs.Naming.{begins_at, blames_lacking, blames_unfit, content_pin, names_from, pin_check}}
use Rattle.df_recovery.proofs.finding.find_known.Goals.{After-find_reach-reach}
use Rattle.df_recovery.proofs.finding.find_known.Goals as goal

pub lacking_known-requires-clause-checksum : goal.lacking_known-requires-clause-checksum
lacking_known-requires-clause-checksum c = subst IsCheck (sym c.pin_checksum_of-named.ensures)
    (pin_check c.args.fields.now c.requires.rules)

pub returns-in-Some-clause-answer : goal.returns-in-Some-clause-answer
returns-in-Some-clause-answer c = record {
  below = c.slot_of.ensures.below;
  blames = λ sh image b tells is. let f = c.args.fields.now in
      let names = names_from sh b c.args.layout.now f c.args.slots.now.start c.args.sessions.now.sessions is c.requires.start
      c.requires.rules.rules c.requires.size c.pin_checksum_of-named.result c.pin_checksum_of-named.ensures in
      blames_lacking sh b c.args.layout.now f c.args.slots.now.start c.args.sessions.now.sessions is c.requires.start
      c.requires.rules.rules c.requires.size image c.in-Some.op c.slot_of.result c.slot_of.ensures.value
      (c.in-Some.ensures.tells sh image b.content tells names);
}

-- how far the walk comes, where each named prepare is shown
walked : (c : After-find_reach-reach) (sh : Shape) (image : Units) (b : Checkpoint) → TellsRings c.args.layout.now image c.args.slots.now
    → IsBaseOf sh b c.args.layout.now c.args.fields.now c.args.sessions.now.sessions
    → FindsReach sh image b c.find_reach-reach.result c.find_reach-reach.new.sessions.sessions
walked c sh image b tells is = let f = c.args.fields.now in
    let names = names_from sh b c.args.layout.now f c.args.slots.now.start c.args.sessions.now.sessions is c.requires.start
    c.requires.rules.rules c.requires.size c.pin_checksum_of-named.result c.pin_checksum_of-named.ensures in
    let begins = begins_at sh b c.args.layout.now f c.args.slots.now.start c.args.sessions.now.sessions is c.requires.start
    c.requires.rules.rules c.requires.size in
    c.find_reach-reach.ensures.reach sh image b tells begins (c.in-None.ensures.tells sh image b.content tells names)

pub returns-then-reach-pin-clause-answer : goal.returns-then-reach-pin-clause-answer
returns-then-reach-pin-clause-answer c = record {
  below = c.slot_of-then-reach-pin.ensures.below;
  blames = λ sh image b tells is. let pin = content_pin sh b c.args.layout.now c.args.fields.now c.args.sessions.now.sessions is in
      let found = walked (goal.at.returns-then-reach-pin-clause-answer c).After-find_reach-reach sh image b tells is in
      blames_unfit sh b c.args.layout.now c.args.fields.now c.args.slots.now.start c.args.sessions.now.sessions is c.requires.start
      c.requires.rules.rules c.requires.size image c.find_reach-reach.result.op c.slot_of-then-reach-pin.result
      c.slot_of-then-reach-pin.ensures.value (found.stops (omega (arith, c.if-reach-pin.true, c.pin_of-pin.ensures, pin)));
}

pub returns-else-reach-pin-clause-answer : goal.returns-else-reach-pin-clause-answer
returns-else-reach-pin-clause-answer c = λ sh image b tells is.
    let pin = content_pin sh b c.args.layout.now c.args.fields.now c.args.sessions.now.sessions is in
    let found = walked (goal.at.returns-else-reach-pin-clause-answer c).After-find_reach-reach sh image b tells is in
    found.reached (omega (arith, c.if-reach-pin.false, c.pin_of-pin.ensures, pin))
