use Rattle.{std.proofs.{Common.{Option, Result, Ok, Err, OnOk, arith, sym, subst}, lemmas.Grind.{common_steps}}, df_disk.specs.Told.{Told}}
use Rattle.df_superblock.{specs.Calls.{EndsEqual, ShowsEqual, UpdatesSafely}, proofs.{Written.{ends_equal, ends_shown, updates_safely}, Stepped.{update_is_steps}}}
use Rattle.df_superblock.proofs.updates.update.Goals as goal

always : {T E P : Type 0} → (r : Result T E) → P → OnOk r P
always (Ok x) holds = holds
always (Err e) holds = tt

pub returns-in-Err-clause-steps : goal.returns-in-Err-clause-steps
returns-in-Err-clause-steps g c = update_is_steps c.args.content.now c.fields-fields.ensures.usable

pub returns-in-Err-clause-moments : goal.returns-in-Err-clause-moments
returns-in-Err-clause-moments g c =
    updates_safely c.args.content.now _ _ c.write_copies.result c.fields-fields.ensures.usable c.write_copies.ensures.events

pub returns-in-Ok-read_all-clause-steps : goal.returns-in-Ok-read_all-clause-steps
returns-in-Ok-read_all-clause-steps g c = update_is_steps c.args.content.now c.fields-fields.ensures.usable

pub returns-in-Ok-read_all-clause-undamaged : goal.returns-in-Ok-read_all-clause-undamaged
returns-in-Ok-read_all-clause-undamaged g c = let shown : ShowsEqual c.args.content.now (g.D.Disk.told c.write_copies.new.disk) =
    ends_shown {E = Unit {0}} c.args.content.now _ _ (Ok c.in-Ok.field-0) c.fields-fields.ensures.usable c.in-Ok.ensures.events in
    grind (arith, common_steps)

pub returns-in-Ok-read_all-clause-moments : goal.returns-in-Ok-read_all-clause-moments
returns-in-Ok-read_all-clause-moments g c =
    subst (λ (told : Option Told). UpdatesSafely c.args.content.now (g.D.Disk.told c.args.disk.now) told) (sym c.in-Ok-read_all.ensures.same)
    (updates_safely c.args.content.now _ _ c.write_copies.result c.fields-fields.ensures.usable c.write_copies.ensures.events)

pub returns-in-Ok-read_all-clause-shown : goal.returns-in-Ok-read_all-clause-shown
returns-in-Ok-read_all-clause-shown g c = always c.judge.result
    (subst (λ (told : Option Told). ShowsEqual c.args.content.now told) (sym c.in-Ok-read_all.ensures.same)
    (ends_shown {E = Unit {0}} c.args.content.now _ _ (Ok c.in-Ok.field-0) c.fields-fields.ensures.usable c.in-Ok.ensures.events))

pub returns-in-Ok-read_all-clause-equal : goal.returns-in-Ok-read_all-clause-equal
returns-in-Ok-read_all-clause-equal g c = always c.judge.result
    (subst (λ (told : Option Told). EndsEqual c.args.content.now told) (sym c.in-Ok-read_all.ensures.same)
    (ends_equal {E = Unit {0}} c.args.content.now _ _ (Ok c.in-Ok.field-0) c.fields-fields.ensures.usable c.in-Ok.ensures.events))

pub returns-in-Err-read_all-clause-steps : goal.returns-in-Err-read_all-clause-steps
returns-in-Err-read_all-clause-steps g c = update_is_steps c.args.content.now c.fields-fields.ensures.usable

pub returns-in-Err-read_all-clause-moments : goal.returns-in-Err-read_all-clause-moments
returns-in-Err-read_all-clause-moments g c =
    subst (λ (told : Option Told). UpdatesSafely c.args.content.now (g.D.Disk.told c.args.disk.now) told) (sym c.in-Err-read_all.ensures.same)
    (updates_safely c.args.content.now _ _ c.write_copies.result c.fields-fields.ensures.usable c.write_copies.ensures.events)
