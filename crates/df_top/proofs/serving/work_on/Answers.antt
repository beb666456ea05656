-- Each word has its own function, which does what is said of it, and of no other word.
use Rattle.{std.proofs.Common.{◌≡◌, refl, sym, subst, ℕ}, df_layout.specs.declared.layout.Layout.{Layout}, df_pace.specs.Beats.{idle}}
use Rattle.df_top.specs.{Mode.{IsRunnable, ReadsScript}, Outside.{Outside, around}, Run.{ServesIn}, declared.mode.Mode.{Mode}, declared.mode.Mode.TheVariants.{Format, Run, Recover, Inspect, Scrub, Workload, Upgrade, Paced}, declared.status.Status.{Status}}
use Rattle.df_top.proofs.serving.work_on.Goals as goal

served : (mode word : Mode) (layout : Layout) (old new : Outside) (status : Status)
    → mode ≡ word → ServesIn word layout old new status → ServesIn mode layout old new status
served mode word layout old new status is does = subst (λ (m : Mode). ServesIn m layout old new status) (sym is) does

none_left : (mode : Mode) → IsRunnable mode → (ReadsScript mode → ⊥)
    → (mode ≡ Recover → ⊥) → (mode ≡ Inspect → ⊥) → (mode ≡ Scrub → ⊥) → ((seed count : ℕ) → mode ≡ Workload seed count → ⊥) → ⊥
none_left (Format layout cluster) runs unread a b c d = runs
none_left Upgrade runs unread a b c d = runs
none_left Run runs unread a b c d = unread (idle, refl)
none_left (Paced pace) runs unread a b c d = unread (pace, refl)
none_left Recover runs unread a b c d = a refl
none_left Inspect runs unread a b c d = b refl
none_left Scrub runs unread a b c d = c refl
none_left (Workload seed count) runs unread a b c d = d seed count refl

pub unreachable-requires : goal.unreachable-requires
unreachable-requires g c = none_left c.args.mode
    c.requires.runnable c.requires.unread c.in_default.not-Recover c.in_default.not-Inspect c.in_default.not-Scrub c.in_default.not-Workload

pub returns-in-Recover-clause-serves : goal.returns-in-Recover-clause-serves
returns-in-Recover-clause-serves g c = λ left.
    served _ Recover c.args.rooms.layout (around (g.D.Disk.told c.args.disk.now) left (g.W.Sink.written c.args.sink.now))
    (around (g.D.Disk.told c.recover_file.new.disk) left (g.W.Sink.written c.recover_file.new.sink))
    c.recover_file.result c.in-Recover.is (c.recover_file.ensures.recovers left)

pub returns-in-Inspect-clause-serves : goal.returns-in-Inspect-clause-serves
returns-in-Inspect-clause-serves g c = λ left.
    served _ Inspect c.args.rooms.layout (around (g.D.Disk.told c.args.disk.now) left (g.W.Sink.written c.args.sink.now))
    (around (g.D.Disk.told c.inspect_file.new.disk) left (g.W.Sink.written c.inspect_file.new.sink))
    c.inspect_file.result c.in-Inspect.is (c.inspect_file.ensures.inspects left)

pub workload_file-requires : goal.workload_file-requires
workload_file-requires g c = let both = subst IsRunnable c.in-Workload.is c.requires.runnable in record { some = both.0; million = both.1 }

pub returns-in-Scrub-clause-serves : goal.returns-in-Scrub-clause-serves
returns-in-Scrub-clause-serves g c = λ left.
    served _ Scrub c.args.rooms.layout (around (g.D.Disk.told c.args.disk.now) left (g.W.Sink.written c.args.sink.now)) (around (g.D.Disk.told c.scrub_file.new.disk) left (g.W.Sink.written c.scrub_file.new.sink)) c.scrub_file.result c.in-Scrub.is (c.scrub_file.ensures.scrubs left)

pub returns-in-Workload-clause-serves : goal.returns-in-Workload-clause-serves
returns-in-Workload-clause-serves g c = λ left.
    served _ (Workload c.in-Workload.seed c.in-Workload.count) c.args.rooms.layout
    (around (g.D.Disk.told c.args.disk.now) left (g.W.Sink.written c.args.sink.now)) (around (g.D.Disk.told c.workload_file.new.disk)
    left (g.W.Sink.written c.workload_file.new.sink)) c.workload_file.result c.in-Workload.is (c.workload_file.ensures.works left)
