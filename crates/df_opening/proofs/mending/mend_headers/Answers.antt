-- Each turn adds the write of one sector, or nothing; and a sync comes after them where there is one.
use Rattle.{std.proofs.Common.{◌≡◌, ◌∷◌, [], ◌||◌, ◌/◌, ℕ, Bool, List, ap, sym, ◌∙◌, subst, arith}, df_base.specs.Log.{Event, Sync}}
use Rattle.{df_disk.{specs.Adds.{Adds, after_all}, proofs.Laws.{adds_then}}, df_headers.specs.Ring.{sector_writes}}
use Rattle.df_journal.proofs.Laws.{sync_adds}
use Rattle.df_opening.{specs.Mending.{sectors_of, sectors_to, some_of}, proofs.{MendEvents.{headers_fail, headers_some, turn_adds, turn_fails, wrote_more}, mending.mend_headers.Goals.{then-wrote, else-wrote}}}
use Rattle.df_opening.proofs.mending.mend_headers.Goals as goal

pub returns-in-Err-clause-events : goal.returns-in-Err-clause-events
returns-in-Err-clause-events g c = let layout = c.args.file.now.layout in
    headers_fail layout c.args.headers.now (sectors_of layout c.args.mends.now) _ _
    (turn_fails layout c.args.headers.now c.args.mends.now c.loop-sector.sector _ _ (g.D.Disk.told c.loop-sector.disk) _
    c.loop-sector-test.true c.loop-sector.invariant.told c.in-Err.ensures.events)

pub loop-sector-preserved : goal.loop-sector-preserved
loop-sector-preserved g c = let before = c.loop-sector.invariant in
    let more = wrote_more c.args.mends.now c.loop-sector.sector c.loop-sector.wrote c.in-Ok.done before.wrote c.in-Ok.ensures.wrote in
    record {
      within = omega (arith, c.loop-sector-test.true);
      room = c.mend_sector.ensures.room;
      told = turn_adds c.args.file.now.layout c.args.headers.now c.args.mends.now c.loop-sector.sector (g.D.Disk.told c.args.disk.now)
          (g.D.Disk.told c.loop-sector.disk) (g.D.Disk.told c.mend_sector.new.disk) before.told c.in-Ok.ensures.events;
      faults = c.in-Ok.ensures.cause.same ∙ before.faults;
      wrote = elim c.if-wrote.branch [
        | then-wrote w ↦ w.wrote-is ∙ w.if-wrote.true ∙ sym (ap (λ (b : Bool). b || c.in-Ok.done) w.if-wrote.true) ∙ more
        | else-wrote w ↦ w.wrote-is ∙ sym (ap (λ (b : Bool). b || c.in-Ok.done) w.if-wrote.false) ∙ more
      ];
    }

-- ---- after the last sector

pub returns-then-wrote-2-clause-events : goal.returns-then-wrote-2-clause-events
returns-then-wrote-2-clause-events g c = let layout = c.args.file.now.layout in let table = c.args.headers.now in
    let ks = sectors_of layout c.args.mends.now in let old = g.D.Disk.told c.args.disk.now in let mid = g.D.Disk.told c.loop-sector.disk in
    let new = g.D.Disk.told c.sync.new.self in let last = c.loop-sector.invariant in
    let all : c.loop-sector.sector ≡ layout.slots / 16 = omega (arith, last.within, c.loop-sector-test.false) in
    let same = ap (λ (n : ℕ). sectors_to n c.args.mends.now) all in let told : mid ≡ after_all (sector_writes layout table ks) old =
    last.told ∙ ap (λ (xs : List ℕ). after_all (sector_writes layout table xs) old) same in
    let some = headers_some layout table ks (sym c.if-wrote-2.true ∙ last.wrote ∙ ap some_of same) in
    subst (λ (es : List Event). Adds es old new c.sync.result) (sym some)
    (adds_then (sector_writes layout table ks) (Sync ∷ []) old mid new c.sync.result told
    (sync_adds mid new c.sync.result c.sync.ensures.ok c.sync.ensures.err))
