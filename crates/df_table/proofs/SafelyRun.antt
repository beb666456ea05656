-- Over a file that may be opened each other end of a run needs a call that failed, or a refusal that no such file has.
use Rattle.std.proofs.Common.{◌≡◌, ◌⊎◌, ◌<◌, ◌^◌, inl, inr, ℕ, ◌-◌, Bool, true, false, List, [], ◌∷◌, ◌++◌, Option, Some, None, Result, Ok, Err, refl, sym, ◌∙◌, ap, subst}
use Rattle.{df_base.specs.{Image.{IsImage}, Log.{Sync}}, df_disk.specs.{Adds.{after_all}, Told.{Told, did}}}
use Rattle.{df_layout.specs.declared.layout.Layout.{Layout}, df_theory.specs.View.{View, boot_of}, df_program.proofs.Laws.{nothing_failed}}
use Rattle.df_lines.specs.{Room.{line_bound}, Text.{after_line, line_of, taken}, Lines.{Begins, IsRefused}}
use Rattle.df_rows.specs.{Grammar.{Count, Drop, Get, Put, Said, SaysTableLine}, Tables.{Table}}
use Rattle.df_session.{specs.{Below.{DataFile, IsNotRefused, State as Replica, memory}, Following.{MayOpen}, Found.{FoundFile}, Links.{events_made}}, proofs.Laws.{added_is_told, safe_is_not_refused}}
use Rattle.df_table.{specs.{declared.ending.Ending.{Ending}, declared.ending.Ending.TheVariants.{Damaged, Disk, NotTable, OpsSpent, SequenceSpent}, declared.status.Status.{Status}, declared.status.Status.TheVariants.{Done, DiskFault, Memory, ReadFault, WriteFault}, Completeness.{EndsSpent, IsSpentEnding, IsWholeTableScript, SafeTableIsRun}, Laws.{FindsIn}, Outside.{Faults, HasTableCauses, NoneFailed, Outside}, Run.{DoesTable, TableOutcome}, Session.{EndsAs, Halt, HaltsIn, NotOpened, Served, ServesFoundTable, ServesLines, said_in, script_budget}, Statuses.{status_of}, Turns.{IsOfCall, table_said}}, proofs.{OneFile.{found_of}, Started.{shown_there}, Sessioned.{called_told}}}

-- ---- a text that is whole has no line that is refused

says_some : (said : Said) (text : List ℕ) → text ≡ [] → SaysTableLine (line_of text) said → ⊥
says_some (Put key value) text none says = let no : SaysTableLine [] (Put key value) = rw none at says in cc (no.is)
says_some (Drop key) text none says = let no : SaysTableLine [] (Drop key) = rw none at says in cc (no.is)
says_some (Get key) text none says = let no : SaysTableLine [] (Get key) = rw none at says in cc (no.is)
says_some Count text none says = let no : SaysTableLine [] Count = rw none at says in cc (no.is)

whole_uncut : (bound budget : ℕ) (text rest : List ℕ) (all asked : List Said) (spare left : ℕ) → Begins SaysTableLine
    bound budget text all spare [] → Begins SaysTableLine bound budget text asked left rest → IsRefused SaysTableLine bound left rest → ⊥
whole_uncut bound budget text rest [] [] spare left whole begins refused = refused.some (begins.1 ∙ sym whole.1)
whole_uncut bound budget text rest (a ∷ all) [] spare left whole begins refused =
    let no : IsRefused SaysTableLine bound budget text = rw begins.0 at (rw begins.1 at refused) in no.none a whole.0
whole_uncut bound budget text rest [] (b ∷ asked) spare left whole begins refused = says_some b text (sym whole.1) begins.0.says
whole_uncut bound budget text rest (a ∷ all) (b ∷ asked) spare left whole begins refused =
    whole_uncut bound (budget - taken text) (after_line text) rest all asked spare left whole.1 begins.1 refused

-- ---- a run

module _ (file : DataFile) (view : View) (table : Table) (t : Told) (text : List ℕ) (old new : Outside) (before now : Faults) (status : Status) (may : MayOpen file view t) (unspent : boot_of view < 2 ^ 62) (finds : FindsIn file t view table) (left : old.left ≡ Some text)
    (whole : IsWholeTableScript file.layout text) (causes : HasTableCauses before now status) (none : NoneFailed before now) where
  unfailed : (status ≡ DiskFault → ⊥) × (status ≡ ReadFault → ⊥) × (status ≡ WriteFault → ⊥)
  unfailed = nothing_failed DiskFault ReadFault WriteFault before now status causes none

  answers : IsImage t.shown × IsNotRefused file t.shown
  answers = safe_is_not_refused file view t may unspent

  abbrev Ends : Type 0
  Ends = (status ≡ Done) ⊎ (status ≡ Memory) ⊎ EndsSpent file.layout table old new status

  -- ---- the lines

  module _ (told : (n : Told) × (new.told ≡ Some n))
      (s : Replica) (mid : Option Told) (lines : ServesLines file.layout table s mid old new status) where
    halted : (h : Halt)
        → lines.halt ≡ Some h → (ending : Ending) → h.ending ≡ ending → status ≡ status_of ending → IsOfCall new.told ending → Ends
    halted h is Disk ends so of_call = absurd (unfailed.0 so)
    halted h is (Damaged place class) ends so of_call = absurd (let untold : Some told.0 ≡ None = sym told.1 ∙ of_call in cc)
    halted h is (NotTable place) ends so of_call = absurd of_call
    halted h is OpsSpent ends so of_call =
        inr (inr (record { replica = s; mid = mid; lines = lines; halt = h; is = is; spent = subst IsSpentEnding (sym ends) tt }))
    halted h is SequenceSpent ends so of_call =
        inr (inr (record { replica = s; mid = mid; lines = lines; halt = h; is = is; spent = subst IsSpentEnding (sym ends) tt }))

    by_halt : (halt : Option Halt) (cut : Bool) → lines.halt ≡ halt → lines.cut ≡ cut → EndsAs halt cut status → Ends
    by_halt None false is cut ends = elim ends [
      | inl done ↦ inl done
      | inr read ↦ absurd (unfailed.1 read)
    ]
    by_halt None true is cut ends = let read = lines.text text left in absurd (whole_uncut (line_bound file.layout) script_budget
        text read.1 whole.lines (table_said lines.turns ++ said_in lines.halt) whole.left read.0 whole.begins read.2 (read.3.refused cut))
    by_halt (Some h) cut is cut_is ends =
        let halts : HaltsIn file.layout lines.replica lines.mid lines.table (Some h) lines.last new.told = rw is at lines.halts in
        halted h is h.ending refl ends.1 halts.3

    lines_end : Ends
    lines_end = elim lines.written [
      | inl ends ↦ by_halt lines.halt lines.cut refl refl ends.0
      | inr part ↦ absurd (unfailed.2 part.0)
    ]

  -- ---- the opening

  serves_end : (s : Replica) (told : Option Told) (opened : Result Table Ending) → ServesFoundTable file.layout s told old new status opened
      → (opened ≡ Err Disk) ⊎ (opened ≡ Ok table) → (n : Told) × (new.told ≡ Some n) → Ends
  serves_end s told opened (NotOpened ending last ends unread writes) (inl disk) later = absurd (elim writes [
    | inl wrote ↦ unfailed.0 (wrote.0 ∙ (let same : ending ≡ Disk = cc in ap status_of same))
    | inr part ↦ unfailed.2 part.0
  ])
  serves_end s told opened (NotOpened ending last ends unread writes) (inr is) later = absurd (cc (is))
  serves_end s told opened (Served u r mid opens lines) (inl disk) later = absurd (cc (disk))
  serves_end s told opened (Served u r mid opens lines) (inr is) later = let same : u ≡ table = cc in
      lines_end later r mid (rw same at lines)

  does_end : DoesTable file.layout t old new status → Ends
  does_end (inl refuses) = absurd (refuses.other (answers.1.answered refuses.error refuses.is))
  does_end (inr (inl fails)) = absurd (unfailed.0 fails.fault)
  does_end (inr (inr serves)) = let found : FoundFile file.layout t = serves.0 in let c = serves.1.made in
      let told = called_told file.layout found.replica found.mended old new status serves.1.opened serves.1.serves c serves.1.of in
      let es = found.mending.events in serves_end found.replica found.mended serves.1.opened
      serves.1.serves (found_of file view t (shown_there file view t t refl may) table finds file.layout old new status found serves.1)
      (_, sym told.1 ∙ serves.1.calls.adds ∙ ap (after_all (events_made c)) (found.mending.told ∙ added_is_told es (did Sync t)) ∙ added_is_told (events_made c) _)

  pub outcome_ends : old.told ≡ Some t → TableOutcome t old new status → Ends
  outcome_ends from (inl nothing) = elim nothing.why [
    | inl memory ↦ inr (inl memory)
    | inr disk ↦ absurd (unfailed.0 disk)
  ]
  outcome_ends from (inr (inl refuses)) = absurd (answers.1.usable refuses.error refuses.is)
  outcome_ends from (inr (inr own)) = does_end (rw (answers.1.layout own.layout own.shown) at own.does)

pub safe_is_run : SafeTableIsRun
safe_is_run file view table t text old new before now status may unspent finds from left whole causes none runs =
    outcome_ends file view table t text old new before now status may unspent finds left whole
    causes none from (runs t from (answers file view table t text old new before now status may unspent finds left whole causes none).0)
