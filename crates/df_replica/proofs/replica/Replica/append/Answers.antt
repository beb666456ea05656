-- What isn't refused may be the next prepare, and each call is the machine's.
use Rattle.{std.proofs.Common.{◌≡◌, Err, refl, sym, ap, subst, ◌∙◌}, df_opening.specs.Below.{State, memory}}
use Rattle.df_model.specs.{Commands.{Append}, Faults.{is_append_fault}, Refusals.{append_refusals, first_refusal}, declared.answers.Receipt.{Receipt}}
use Rattle.df_replica.{specs.{Answering.{answer_of, as_append}, Appending.{append_events, next_unit}, Stopping.{stopped}}, proofs.{AppendAnswers.{fault_serves, receipt_serves, refusal_serves, refused_exact}, AppendTests.{may_next}, Owns.{all_own, part_own, refused_own}, Unblamed.{append_unblamed, refused_blames}}}
use Rattle.df_replica.proofs.replica.Replica.append.Goals as goal

pub append_next-requires : goal.append_next-requires
append_next-requires g c = may_next c.args.self.now c.args.client c.args.request c.args.body.now c.append_refusal.ensures.state
    c.append_refusal.ensures.table c.requires.live (sym (c.append_refusal.ensures.why c.args.body.now refl) ∙ c.in_default.is)

pub returns-in-Some-clause-exact : goal.returns-in-Some-clause-exact
returns-in-Some-clause-exact g c = let some = sym (c.in-Some.ensures.why c.args.body.now refl) in
    refused_exact c.args.client c.args.request c.args.body.now c.args.self.now (g.D.Disk.told c.args.disk.now)
    c.in-Some.error some (append_unblamed (memory c.args.self.now) c.args.client c.args.request c.args.body.now c.in-Some.error some)

pub returns-in-Some-clause-cause : goal.returns-in-Some-clause-cause
returns-in-Some-clause-cause g c = let some = sym (c.in-Some.ensures.why c.args.body.now refl) in
    refused_blames is_append_fault c.in-Some.error (append_unblamed
    (memory c.args.self.now) c.args.client c.args.request c.args.body.now c.in-Some.error some) Receipt (g.D.Disk.faults c.args.disk.now)

pub returns-in-Some-clause-call : goal.returns-in-Some-clause-call
returns-in-Some-clause-call g c = refusal_serves c.args.self.now c.args.client c.args.request c.args.body.now c.append_refusal.ensures.state
    c.requires.live c.ranges.client.fits c.in-Some.error (sym (c.in-Some.ensures.why c.args.body.now refl)) (g.D.Disk.told c.args.disk.now)

pub returns-in-Ok-clause-call : goal.returns-in-Ok-clause-call
returns-in-Ok-clause-call g c =
    receipt_serves c.args.self.now c.args.client c.args.request c.args.body.now c.append_refusal.ensures.state c.requires.live
    c.ranges.client.fits c.append_refusal.ensures.table (sym (c.append_refusal.ensures.why c.args.body.now refl) ∙ c.in_default.is)
    c.append_next.ensures.own c.append_next.new.self c.in-Ok.receipt (g.D.Disk.told c.args.disk.now)
    (g.D.Disk.told c.append_next.new.disk) c.in-Ok.ensures.receipt c.in-Ok.ensures.state c.in-Ok.ensures.events

pub returns-in-Err-clause-call : goal.returns-in-Err-clause-call
returns-in-Err-clause-call g c =
    fault_serves c.args.self.now c.args.client c.args.request c.args.body.now c.append_refusal.ensures.state c.requires.live
    c.ranges.client.fits c.append_refusal.ensures.table (sym (c.append_refusal.ensures.why c.args.body.now refl) ∙ c.in_default.is)
    c.append_next.ensures.own c.stop.new.self (g.D.Disk.told c.args.disk.now)
    (g.D.Disk.told c.append_next.new.disk) (ap (λ (s : State). s.live) c.stop.ensures) c.in-Err.ensures.events

pub returns-in-Err-clause-exact : goal.returns-in-Err-clause-exact
returns-in-Err-clause-exact g c = (
  sym (c.append_refusal.ensures.why c.args.body.now refl) ∙ c.in_default.is,
  subst (λ (t : State). t ≡ stopped (record c.args.self.now { headers = t.headers })) (sym c.stop.ensures) (ap stopped c.in-Err.ensures.kept),
  c.in-Err.ensures.events,
)

pub returns-in-Some-clause-own : goal.returns-in-Some-clause-own
returns-in-Some-clause-own g c = let s = c.args.self.now in
    refused_own (Append c.args.client c.args.request c.args.body.now) s (g.D.Disk.told c.args.disk.now)
    (answer_of is_append_fault as_append (Err c.in-Some.error)) (append_events s (next_unit s c.args.client c.args.request c.args.body.now))
    (first_refusal (append_refusals (memory s) c.args.client c.args.request c.args.body.now))
    c.in-Some.error refl (sym (c.in-Some.ensures.why c.args.body.now refl))

pub returns-in-Ok-clause-own : goal.returns-in-Ok-clause-own
returns-in-Ok-clause-own g c = let s = c.args.self.now in
    all_own (append_events s (next_unit s c.args.client c.args.request c.args.body.now))
    (g.D.Disk.told c.args.disk.now) (g.D.Disk.told c.append_next.new.disk)
    (first_refusal (append_refusals (memory s) c.args.client c.args.request c.args.body.now))
    (sym (c.append_refusal.ensures.why c.args.body.now refl) ∙ c.in_default.is) c.in-Ok.ensures.events

pub returns-in-Err-clause-own : goal.returns-in-Err-clause-own
returns-in-Err-clause-own g c = let s = c.args.self.now in
    part_own (append_events s (next_unit s c.args.client c.args.request c.args.body.now))
    (g.D.Disk.told c.args.disk.now) (g.D.Disk.told c.append_next.new.disk)
    (first_refusal (append_refusals (memory s) c.args.client c.args.request c.args.body.now))
    (sym (c.append_refusal.ensures.why c.args.body.now refl) ∙ c.in_default.is) c.in-Err.ensures.events
