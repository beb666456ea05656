-- The step is the machine's.
use Rattle.{std.proofs.Common.{◌≡◌, ap, subst}, df_format.specs.declared.superblock.SuperFields.{SuperFields}}
use Rattle.{df_opening.specs.Below.{State}, df_replica.{specs.Stepping.{OfRunning, finished}, proofs.LastSteps.{error_serves, last_serves}}}
use Rattle.df_replica.proofs.replica.Replica.last_step.Goals as goal

pub returns-in-Ok-clause-call : goal.returns-in-Ok-clause-call
returns-in-Ok-clause-call g c =
    last_serves c.args.self.now c.requires.state c.requires.live c.requires.may.done c.next_superblock-content.ensures.sum
    c.next_superblock-content.result c.next_superblock-content.ensures.fields c.write_superblock.ensures.steps
    (g.D.Disk.told c.args.disk.now) (g.D.Disk.told c.write_superblock.new.disk)
    c.finish.new.self c.fields.result.now.sequence (ap (λ (f : SuperFields). f.sequence) c.fields.ensures.value) (subst (λ (s : State).
    OfRunning s.running (λ r. c.finish.new.self ≡ finished s r)) c.in-Ok.ensures.kept c.finish.ensures) c.in-Ok.ensures.made

pub returns-in-Err-clause-call : goal.returns-in-Err-clause-call
returns-in-Err-clause-call g c =
    error_serves c.args.self.now c.requires.state c.requires.live c.requires.may.done c.next_superblock-content.ensures.sum
    c.next_superblock-content.result c.next_superblock-content.ensures.fields c.write_superblock.ensures.steps
    (g.D.Disk.told c.args.disk.now) (g.D.Disk.told c.write_superblock.new.disk)
    c.stop.new.self c.in-Err.error (ap (λ (s : State). s.live) c.stop.ensures) c.in-Err.ensures.made
