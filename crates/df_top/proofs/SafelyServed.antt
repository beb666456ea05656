-- Over a file that may be opened each other end of a word needs a call that failed, or a refusal that no such file has.
use Rattle.std.proofs.Common.{◌≡◌, ◌⊎◌, ◌<◌, ◌^◌, inl, inr, ℕ, zero, suc, Bool, true, List, [], ◌∷◌, ◌++◌, length, Option, None, Some, refl}
use Rattle.{df_base.specs.Image.{IsImage}, df_disk.specs.Told.{Told}, df_layout.specs.declared.{damage.Mend.{Mend}, layout.Layout.{Layout}}}
use Rattle.df_lines.{specs.{Grammar.{Said}, Room.{line_bound}, Script.{BeginsWithLines, IsRefused, IsScript}}, proofs.Laws.{one_script, begins_one}}
use Rattle.{df_pace.specs.{Beats.{idle}, declared.pace.Pace.{Pace}}, df_theory.specs.View.{View, boot_of}}
use Rattle.df_session.{specs.{Below.{DataFile, IsNotRefused, State as Replica}, Following.{MayOpen}, Session.{Act}, Found.{FoundFile}}, proofs.Laws.{safe_is_not_refused}}
use Rattle.{df_program.proofs.Laws.{nothing_failed}, df_workload.specs.declared.state.State.{State as Generated}}
use Rattle.df_top.specs.{Completeness.{IsCarriedOut, IsWholeScript, SafeIsRun, SafeIsServed}, Opening.{RefusesFile}, Outside.{Faults, HasCauses, NoneFailed, Outside}, Reporting.{status_of}, Scrubs.{failing_blocks, tour_status}, Run.{ComesTo, Does, DidNothing, RefusesSuperblock, ServesOwn, ServesScript, Works, script_budget}, Lines.{Turned, act_of, all_said, said_of}, Session.{EndsWith}, Works.{WritesReport}, declared.mode.Mode.{Mode}, declared.mode.Mode.TheVariants.{Format, Run, Recover, Inspect, Scrub, Workload, Upgrade, Paced}, declared.status.Status.{Status}, declared.status.Status.TheVariants.{Done, Found, Script, Refused, DiskFault, ReadFault, WriteFault, Memory}}

-- a report ends Done or Found
listed : (mends : List Mend) (status : Status) → status ≡ status_of mends → (status ≡ Done) ⊎ (status ≡ Found)
listed [] status is = inl is
listed (m ∷ more) status is = inr is

-- and so does a tour
counted : (failing : ℕ) (status : Status) → status ≡ tour_status failing → (status ≡ Done) ⊎ (status ≡ Found)
counted zero status is = inl is
counted (suc more) status is = inr is

-- ---- how a session ends

-- at its end, at a line that is cut, or with a cause
data Ends (cut : Bool) (status : Status) : Type 0 where
  AtEnd : status ≡ Done → Ends cut status
  AtLine : status ≡ Script → cut ≡ true → Ends cut status
  Unread : status ≡ ReadFault → Ends cut status
  Unwritten : status ≡ WriteFault → Ends cut status
  Unserved : status ≡ DiskFault → Ends cut status
  Damaged : status ≡ Refused → Ends cut status

session_ends : (n : ℕ) (old new : Outside) (turns : List Turned) (failed : Option Act) (cut : Bool) (status : Status)
    → EndsWith n old new turns failed cut status → Ends cut status
session_ends n old new turns None cut Done ends = AtEnd refl
session_ends n old new turns None cut Script ends = AtLine refl ends.0
session_ends n old new turns None cut ReadFault ends = Unread refl
session_ends n old new turns None cut WriteFault ends = Unwritten refl
session_ends n old new turns (Some a) cut DiskFault ends = Unserved refl
session_ends n old new turns (Some a) cut Refused ends = Damaged refl
session_ends n old new turns (Some a) cut WriteFault ends = Unwritten refl
session_ends n old new turns failed cut status ends = absurd ends

-- ---- a text that is whole has no line that is refused

whole_uncut : (layout : Layout) (text rest : List ℕ) (asked : List Said) (budget : ℕ) → IsWholeScript layout text
    → BeginsWithLines (line_bound layout) script_budget text asked budget rest → IsRefused (line_bound layout) budget rest → ⊥
whole_uncut layout text rest asked budget whole begins refused = let cut : IsScript (line_bound layout) script_budget text asked =
    record { left = budget; rest = rest; begins = begins; ends = inr refused } in
    let all : IsScript (line_bound layout) script_budget text whole.lines =
    record { left = whole.left; rest = []; begins = whole.begins; ends = inl refl } in
    let same : whole.lines ≡ asked = one_script (line_bound layout) script_budget text whole.lines asked all cut in
    let read : BeginsWithLines (line_bound layout) script_budget text asked whole.left [] = rw same at whole.begins in
    refused.some (begins_one (line_bound layout) script_budget text asked budget whole.left rest [] begins read)

-- a generated run ends at its end, at a step that is damaged, or with a cause
run_ends : (run : Generated) (last : Replica) (told : Option Told) (failed : Option Act) (written took : Option (List ℕ)) (status : Status)
    → WritesReport run last told failed written took status
    → (status ≡ Done) ⊎ (status ≡ Refused) ⊎ (status ≡ DiskFault) ⊎ (status ≡ WriteFault)
run_ends run last told None written took Done writes = inl refl
run_ends run last told None written took WriteFault writes = inr (inr (inr refl))
run_ends run last told (Some a) written took Refused writes = inr (inl refl)
run_ends run last told (Some a) written took DiskFault writes = inr (inr (inl refl))
run_ends run last told (Some a) written took WriteFault writes = inr (inr (inr refl))
run_ends run last told failed written took status writes = absurd writes

-- ---- the words

module _ (file : DataFile) (view : View) (t : Told) (old new : Outside) (before now : Faults) (status : Status) (may : MayOpen file view t)
    (unspent : boot_of view < 2 ^ 62) (causes : HasCauses before now status) (none : NoneFailed before now) where
  unfailed : (status ≡ DiskFault → ⊥) × (status ≡ ReadFault → ⊥) × (status ≡ WriteFault → ⊥)
  unfailed = nothing_failed DiskFault ReadFault WriteFault before now status causes none

  answers : IsImage t.shown × IsNotRefused file t.shown
  answers = safe_is_not_refused file view t may unspent

  no_refusal : RefusesFile file.layout t old new status → ⊥
  no_refusal refuses = refuses.is.other (answers.1.answered refuses.error refuses.is.why)

  served : (pace : Pace) (found : FoundFile file.layout t)
      → ServesScript pace file.layout t found old new status → IsCarriedOut (Paced pace) file.layout old.left status
  served pace found serves = elim (session_ends
      0 old serves.last.outside serves.session.turns (act_of serves.session.failing) serves.session.cut status serves.session.written) [
        | AtEnd done ↦ inl done
        | AtLine script cut ↦ inr (record {
          script = script;
          why = λ text left whole. let read = serves.session.text text left in whole_uncut file.layout
              text read.1 (all_said serves.session.turns ++ said_of serves.session.failing) read.0 whole read.2 (read.3.refused cut);
        })
        | Unread failed ↦ absurd (unfailed.1 failed)
        | Unwritten failed ↦ absurd (unfailed.2 failed)
        | Unserved failed ↦ absurd (unfailed.0 failed)
        | Damaged refused ↦ absurd (serves.undamaged refused)
      ]

  worked : (run : Generated) (last : Replica) (told : Option Told) (failed : Option Act) (written took : Option (List ℕ))
      → WritesReport run last told failed written took status → (status ≡ Refused → ⊥) → status ≡ Done
  worked run last told failed written took writes undamaged = elim (run_ends run last told failed written took status writes) [
    | inl done ↦ done
    | inr (inl refused) ↦ absurd (undamaged refused)
    | inr (inr (inl fault)) ↦ absurd (unfailed.0 fault)
    | inr (inr (inr fault)) ↦ absurd (unfailed.2 fault)
  ]

  carried : (mode : Mode) (found : FoundFile file.layout t)
      → Works mode file.layout t found old new status → IsCarriedOut mode file.layout old.left status
  carried (Format shape cluster) found works = works
  carried Upgrade found works = works
  carried Run found serves = served idle found serves
  carried (Paced pace) found serves = served pace found serves
  carried Recover found recovers = elim recovers.prints [
    | inl printed ↦ printed.0
    | inr part ↦ absurd (unfailed.2 part.0)
  ]
  carried Inspect found inspects = elim inspects.prints [
    | inl printed ↦ listed inspects.survey.mends status printed.0
    | inr part ↦ absurd (unfailed.2 part.0)
  ]
  carried Scrub found scrubs = elim scrubs.prints [
    | inl (inl printed) ↦ counted (length (failing_blocks found.replica scrubs.after.shown)) status printed.0
    | inl (inr part) ↦ absurd (unfailed.2 part.0)
    | inr stops ↦ absurd (unfailed.0 stops.fault)
  ]
  carried (Workload seed count) found works =
      worked works.run works.last new.told works.worked.failed old.written new.written works.written works.undamaged

  came : (mode : Mode) → ComesTo mode file.layout t old new status → IsCarriedOut mode file.layout old.left status
  came mode (inl refuses) = absurd (no_refusal refuses)
  came mode (inr (inl fails)) = absurd (unfailed.0 fails.fault)
  came mode (inr (inr works)) = carried mode works.0 works.1

  done : (mode : Mode) → Does mode file.layout t old new status → IsCarriedOut mode file.layout old.left status
  done mode does = came mode does.1

  ran : (mode : Mode) → DidNothing old new status ⊎ RefusesSuperblock t old new status ⊎ ServesOwn mode t old new status
      → (status ≡ Memory) ⊎ IsCarriedOut mode file.layout old.left status
  ran mode (inl nothing) = elim nothing.why [
    | inl wanting ↦ inl wanting
    | inr failed ↦ absurd (unfailed.0 failed)
  ]
  ran mode (inr (inl refuses)) = absurd (answers.1.usable refuses.error refuses.is)
  ran mode (inr (inr serves)) = inr (done mode (rw (answers.1.layout serves.layout serves.shown) at serves.serves))

pub safe_is_run : SafeIsRun
safe_is_run mode file view t old new before now status of may unspent told causes none runs = ran file view t old new
    before now status may unspent causes none mode (runs t told (answers file view t old new before now status may unspent causes none).0)

pub safe_is_served : SafeIsServed
safe_is_served mode file view t old new before now status may unspent told causes none serves = done file view t old new
    before now status may unspent causes none mode (serves t told (answers file view t old new before now status may unspent causes none).0)
