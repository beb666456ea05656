-- The ring, the units, and the rest.
use Rattle.std.{proofs.Common.{◌≡◌, ◌∙◌, ℕ, ◌≤◌, Option, Result, Ok, Err, refl, sym, ap, subst}, specs.Prelude.{IfErr}}
use Rattle.{df_base.specs.Causes.{IsBlamed}, df_disk.specs.Told.{Told}, df_layout.specs.declared.layout.Layout.{Layout}}
use Rattle.{df_model.specs.declared.answers.Summary.{Summary}, df_opening.specs.Below.{State, memory}}
use Rattle.df_copy.{specs.{declared.ending.Ending.{Ending}, declared.ending.Ending.TheVariants.{Source, Target}, Acts.{Beside, IsCopied, IsReadySource, LeavesSource, beside}, Copying.{BeginsTarget}, Planning.{IsCopyPlan}, Statuses.{is_target}, Tests.{needed}}, proofs.{Blamed.{leaves_then, on_ok, unblamed}, Joining.{planned_join, planned_stop, planned_units}}}
use Rattle.df_copy.proofs.copying.copy_planned.Goals as goal

-- what was said at the entry is said of what the units leave
later : (P : Layout → State → Type 0) (layout l : Layout) (s q : State) → l ≡ layout → q ≡ s → P layout s → P l q
later P layout l s q layouts states is = subst (λ (x : Layout). P x q) (sym layouts) (rw (sym states) at is)

-- the ring is of the source's cluster
ring_of : {T : Type 0} (layout : Layout) (s : State) (cluster : ℕ) (old new : Option Told) (r : Result T Ending)
    → cluster ≡ s.file.cluster → BeginsTarget layout cluster old new r → BeginsTarget layout s.file.cluster old new r
ring_of layout s cluster old new r is begins = subst (λ (k : ℕ). BeginsTarget layout k old new r) is begins

pub returns-in-Err-clause-copies : goal.returns-in-Err-clause-copies
returns-in-Err-clause-copies g c = λ apart. let layout : Layout = c.args.target.now.layout in let s : State = c.args.replica.now in
    let old : Option Told = g.B.Disk.told c.args.to.now in let new : Option Told = g.B.Disk.told c.begin.new.to in
    planned_stop (Unit {0}) layout s (g.A.Disk.told c.args.from.now) old new c.in-Err.ending
    (ring_of {T = Unit {0}} layout s c.summary-cluster.result.cluster
    old new (Err c.in-Err.ending) (ap (λ (x : Summary). x.cluster) c.summary-cluster.ensures) c.in-Err.ensures.begins)

pub returns-in-Err-clause-leaves : goal.returns-in-Err-clause-leaves
returns-in-Err-clause-leaves g c = let old : Option Told = g.B.Disk.told c.args.to.now in
    let new : Option Told = g.B.Disk.told c.begin.new.to in record {
      kept = tt;
      same = refl;
      blames_source = unblamed {T = Unit {0}} (Err c.in-Err.ending) (g.A.Disk.faults c.args.from.now) (g.A.Disk.faults c.args.from.now)
          (λ is. subst (λ (r : Result (Unit {0}) Ending).
          BeginsTarget c.args.target.now.layout c.summary-cluster.result.cluster old new r) is c.in-Err.ensures.begins) refl;
      blames_target = c.in-Err.ensures.disk;
    }

pub copy_units-requires-clause-ready : goal.copy_units-requires-clause-ready
copy_units-requires-clause-ready g c =
    subst (λ (l : Layout). IsReadySource l c.args.replica.now) (sym c.in-Ok.ensures.grid.layout_is) c.requires.ready

pub finish-requires-clause-ready : goal.finish-requires-clause-ready
finish-requires-clause-ready g c =
    later (λ (l : Layout) (q : State). IsReadySource l q) c.args.target.now.layout c.copy_units.new.target.layout c.args.replica.now
    c.copy_units.new.replica (c.in-Ok-copy_units.ensures.layout ∙ c.in-Ok.ensures.grid.layout_is) c.in-Ok-copy_units.ensures.leaves.kept
    c.requires.ready

pub finish-requires-clause-plan : goal.finish-requires-clause-plan
finish-requires-clause-plan g c =
    later (λ (l : Layout) (q : State). IsCopyPlan l q c.args.plan) c.args.target.now.layout c.copy_units.new.target.layout c.args.replica.now c.copy_units.new.replica (c.in-Ok-copy_units.ensures.layout ∙ c.in-Ok.ensures.grid.layout_is) c.in-Ok-copy_units.ensures.leaves.kept
    c.requires.plan

pub finish-requires-clause-room : goal.finish-requires-clause-room
finish-requires-clause-room g c =
    later (λ (l : Layout) (q : State). needed l (memory q) ≤ l.blocks) c.args.target.now.layout c.copy_units.new.target.layout
    c.args.replica.now c.copy_units.new.replica (c.in-Ok-copy_units.ensures.layout ∙ c.in-Ok.ensures.grid.layout_is)
    c.in-Ok-copy_units.ensures.leaves.kept c.requires.room

pub finish-requires-clause-begun : goal.finish-requires-clause-begun
finish-requires-clause-begun g c =
    later (λ (l : Layout) (q : State). IsCopied l q c.copy_units.new.target) c.begin.new.target.layout c.copy_units.new.target.layout
    c.args.replica.now c.copy_units.new.replica c.in-Ok-copy_units.ensures.layout c.in-Ok-copy_units.ensures.leaves.kept
    c.in-Ok-copy_units.ensures.begun

pub returns-in-Ok-copy_units-clause-copies : goal.returns-in-Ok-copy_units-clause-copies
returns-in-Ok-copy_units-clause-copies g c = λ apart. let layout : Layout = c.args.target.now.layout in
    let s : State = c.args.replica.now in let old : Option Told = g.B.Disk.told c.args.to.now in
    let begun : Option Told = g.B.Disk.told c.begin.new.to in let ring = ring_of layout s c.summary-cluster.result.cluster
    old begun (Ok c.in-Ok.field-0) (ap (λ (x : Summary). x.cluster) c.summary-cluster.ensures) c.in-Ok.ensures.begins in
    planned_join (Unit {0}) layout s (g.A.Disk.told c.args.from.now) old begun ring.0 ring.1 c.copy_units.new.replica c.begin.new.target
    c.copy_units.new.target (g.B.Disk.told c.copy_units.new.to) (g.B.Disk.told c.finish.new.to) c.in-Ok-copy_units.field-0 c.finish.result
    c.in-Ok-copy_units.ensures.leaves.kept c.in-Ok.ensures.grid.layout_is (c.in-Ok-copy_units.ensures.layout
    ∙ c.in-Ok.ensures.grid.layout_is) (c.in-Ok-copy_units.ensures.copies apart) c.finish.ensures.finishes c.finish.ensures.target

pub returns-in-Err-copy_units-clause-copies : goal.returns-in-Err-copy_units-clause-copies
returns-in-Err-copy_units-clause-copies g c = λ apart. let source : Option Told = g.A.Disk.told c.args.from.now in
    let ring = ring_of c.args.target.now.layout c.args.replica.now c.summary-cluster.result.cluster (g.B.Disk.told c.args.to.now) (g.B.Disk.told c.begin.new.to) (Ok c.in-Ok.field-0) (ap (λ (x : Summary). x.cluster) c.summary-cluster.ensures) c.in-Ok.ensures.begins in
    planned_units (Unit {0}) c.args.target.now.layout c.args.replica.now source (g.B.Disk.told c.args.to.now)
    (g.B.Disk.told c.begin.new.to) ring.0 ring.1 c.begin.new.target c.copy_units.new.target (g.B.Disk.told c.copy_units.new.to)
    c.in-Err-copy_units.ending c.in-Ok.ensures.grid.layout_is (c.in-Err-copy_units.ensures.copies apart)

-- ---- what is left

-- the ring leaves the source as it was, and what is left after it is left by all
ring_leaves : (s : State) (told : Option Told) (faults before begun : ℕ) (now : Beside) (r : Result (Unit {0}) Ending)
    → begun ≡ before → LeavesSource (beside s told faults begun) now r → LeavesSource (beside s told faults before) now r
ring_leaves s told faults before begun now r same leaves =
    leaves_then {a = beside s told faults before} {b = beside s told faults begun} {c = now} {x = tt {0}} {r = r}
    (record { kept = refl; same = refl; blames_source = refl; blames_target = same }) leaves

-- and so does what comes last
last_leaves : (s : State) (told : Option Told) (faults before now : ℕ) (r : Result (Unit {0}) Ending) → IsBlamed is_target before now r
    → IfErr r (λ ending. ending ≡ Target) → LeavesSource (beside s told faults before) (beside s told faults now) r
last_leaves s told faults before now r blamed target = record {
  kept = on_ok r refl;
  same = refl;
  blames_source = unblamed r faults faults (λ is. let both : Source ≡ Target = rw is at target in cc both) refl;
  blames_target = blamed;
}

pub returns-in-Ok-copy_units-clause-leaves : goal.returns-in-Ok-copy_units-clause-leaves
returns-in-Ok-copy_units-clause-leaves g c = let s : State = c.args.replica.now in let told : Option Told = g.A.Disk.told c.args.from.now in
    let faults : ℕ = g.A.Disk.faults c.args.from.now in let q : State = c.copy_units.new.replica in
    let later : Option Told = g.A.Disk.told c.copy_units.new.from in let more : ℕ = g.A.Disk.faults c.copy_units.new.from in
    let third : Beside = beside q later more (g.B.Disk.faults c.finish.new.to) in let last = last_leaves q later more
    (g.B.Disk.faults c.copy_units.new.to) (g.B.Disk.faults c.finish.new.to) c.finish.result c.finish.ensures.disk c.finish.ensures.target in
    ring_leaves s told faults (g.B.Disk.faults c.args.to.now) (g.B.Disk.faults c.begin.new.to) third c.finish.result c.in-Ok.ensures.disk
    (leaves_then c.in-Ok-copy_units.ensures.leaves last)

pub returns-in-Err-copy_units-clause-leaves : goal.returns-in-Err-copy_units-clause-leaves
returns-in-Err-copy_units-clause-leaves g c = ring_leaves c.args.replica.now
    (g.A.Disk.told c.args.from.now) (g.A.Disk.faults c.args.from.now) (g.B.Disk.faults c.args.to.now) (g.B.Disk.faults c.begin.new.to)
    (beside c.copy_units.new.replica (g.A.Disk.told c.copy_units.new.from) (g.A.Disk.faults c.copy_units.new.from)
    (g.B.Disk.faults c.copy_units.new.to)) (Err c.in-Err-copy_units.ending) c.in-Ok.ensures.disk c.in-Err-copy_units.ensures.leaves
