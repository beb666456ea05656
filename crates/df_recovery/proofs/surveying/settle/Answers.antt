-- What is found of a file that was read is the answer to an open.
use Rattle.{std.proofs.Common.{refl, ◌∙◌, subst, sym}, df_theory.specs.Sessions.{Tracks}}
use Rattle.df_recovery.{specs.{Below.{AreAsked}, declared.scanned.Scanned.{Scanned}}, proofs.Settled.{numbered_by, opened, refused}}
use Rattle.df_recovery.proofs.surveying.settle.Goals as goal

pub with_plan-requires-clause-scanned : goal.with_plan-requires-clause-scanned
with_plan-requires-clause-scanned c = let scan = c.requires.scanned in
    let places = c.store_replies.ensures.places ∙ c.in-Ok.ensures.rules.places ∙ scan.places in
    record { named = scan.named; version = scan.version; size = scan.size; fields = scan.fields; start = scan.start; slots = scan.slots; places = places; idle = scan.idle }

pub with_plan-requires-clause-sessions : goal.with_plan-requires-clause-sessions
with_plan-requires-clause-sessions c = let same = c.store_replies.ensures.stored.requests in
    let after = c.in-Ok.ensures.after c.requires.sessions in record {
      numbered = numbered_by c.find_state-found.new.sessions.sessions c.store_replies.new.sessions.sessions same after.numbered;
      asked = subst AreAsked (sym same) after.asked;
      tracks = subst (Tracks c.in-Ok.traces.replies c.in-Ok.traces.tail.op) (sym same) after.tracks;
    }

pub returns-in-Ok-clause-kept : goal.returns-in-Ok-clause-kept
returns-in-Ok-clause-kept c = let keeps = c.with_plan.ensures.kept in record { file = keeps.file; copies = keeps.copies; slots = keeps.slots }

pub returns-in-Ok-clause-answer : goal.returns-in-Ok-clause-answer
returns-in-Ok-clause-answer c = λ t is. let keeps = c.with_plan.ensures.kept in
    let settled : Scanned = record c.args.scanned { sessions = c.store_replies.new.sessions } in
    opened t c.args.scanned is c.in-Ok.traces c.find_state-found.new.sessions.sessions settled
    c.with_plan.result c.in-Ok.ensures.answer (c.in-Ok.ensures.rules.unstored c.requires.sessions.unstored) c.store_replies.ensures.stored
    (record { file = refl; copies = refl; slots = refl }) refl refl
    (record { file = keeps.file; copies = keeps.copies; root = keeps.root; blocks = keeps.blocks; slots = keeps.slots; sessions = keeps.sessions })
    c.with_plan.ensures.traces c.with_plan.ensures.waiting c.with_plan.ensures.planned

pub returns-in-Err-clause-answer : goal.returns-in-Err-clause-answer
returns-in-Err-clause-answer c = λ t is. refused t c.args.scanned is c.in-Err.refusal c.in-Err.ensures.answer
