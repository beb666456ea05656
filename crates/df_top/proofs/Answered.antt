-- What a call comes to for a session, by what it answered and by what was printed of it.
use Rattle.{std.proofs.Common.{◌≡◌, ℕ, List, Option, Some, None, inl, inr, refl, sym, subst, Result, Ok, Err}, df_disk.specs.Told.{Told}}
use Rattle.{df_base.specs.Causes.{IsBlamed, Rose}, df_inspect.specs.Prints.{Prints}}
use Rattle.df_layout.specs.{declared.damage.Class.{Class}, declared.places.Place.{Place}}
use Rattle.df_model.specs.{Commands.{Answer, Command}, declared.commands.Answer.{Answer as Called}}
use Rattle.df_session.specs.{Below.{State as Replica}, Endings.{IsDamagedStep, MakesTo, is_disk_fault}, Links.{Makes}, declared.hearing.Fault.{Fault}, declared.hearing.Fault.TheVariants.{Disk, Damaged}}
use Rattle.df_script_model.specs.{Script.{answer_text}, Texts.{damaged_text}}
use Rattle.df_top.{specs.{Outside.{PrintsLine, Turn}, Step.{AnswersCommand}, Session.{IsDamagedLine}, Turning.{BlamesIfEnds, IsPrinted, TellsAnswer, printed_turn}, declared.status.Status.{Status}, declared.status.Status.TheVariants.{Refused, DiskFault, WriteFault}}, proofs.SameWords.{same_words}}
use Rattle.df_program.specs.declared.turn.Turn.TheVariants.{GoesOn, Ends}

-- ---- what is printed

pub prints_turn : {T E : Type 0} (text : List ℕ) (old new : Option (List ℕ)) (r : Result T E)
    → Prints text old new r → IsPrinted text old new (printed_turn r)
prints_turn text old new (Ok x) prints = prints.whole
prints_turn text old new (Err e) prints = (refl, prints.part)

pub not_fault : (text : List ℕ) (old new : Option (List ℕ)) (turn : Turn) → IsPrinted text old new turn → turn ≡ Ends DiskFault → ⊥
not_fault text old new turn printed is = let no : DiskFault ≡ WriteFault = (rw is at printed).0 in cc

-- ---- a call

module _ (command : Command) (s t : Replica) (old new : Option Told) (written took : Option (List ℕ)) where
  -- it was answered, and the answer was printed
  pub printed_is : (x : Answer) → Makes command s t old new (Some x)
      → (turn : Turn) → IsPrinted (answer_text command x) written took turn → AnswersCommand command s t old new written took turn
  printed_is x makes GoesOn printed = (x, makes, printed)
  printed_is x makes (Ends status) printed =
      subst (λ (q : Status). AnswersCommand command s t old new written took (Ends q)) (sym printed.0) (inl (x, makes, printed.1))

  -- the disk failed in it
  pub failed_is : Makes command s t old new None
      → (turn : Turn) → (turn ≡ Ends DiskFault) × (took ≡ written) → AnswersCommand command s t old new written took turn
  failed_is makes turn is = subst (λ (u : Turn). AnswersCommand command s t old new written took u) (sym is.0) (makes, is.1)

  -- it is a step that is damaged, and its line was printed
  pub damaged_is : (line : List ℕ) → Makes command s t old new None → IsDamagedLine command new line
      → (status : Status) → PrintsLine line Refused written took status → AnswersCommand command s t old new written took (Ends status)
  damaged_is line makes damaged status (inl printed) =
      subst (λ (q : Status). AnswersCommand command s t old new written took (Ends q)) (sym printed.0) (line, makes, damaged, printed.1)
  damaged_is line makes damaged status (inr printed) = subst (λ (q : Status).
      AnswersCommand command s t old new written took (Ends q)) (sym printed.0) (inr (line, makes, damaged, printed.1))

-- ---- causes

pub disk_same : (before now : ℕ) (turn : Turn) → now ≡ before → (turn ≡ Ends DiskFault → ⊥) → BlamesIfEnds DiskFault before now turn
disk_same before now GoesOn same other = same
disk_same before now (Ends status) same other = record { rose = λ is. absurd (other (λ i. Ends (is i))); same = λ no. same }

pub disk_rose : (before now : ℕ) (turn : Turn) → turn ≡ Ends DiskFault → Rose before now → BlamesIfEnds DiskFault before now turn
disk_rose before now turn is rose =
    subst (λ (u : Turn). BlamesIfEnds DiskFault before now u) (sym is) (record { rose = λ yes. rose; same = λ no. absurd (no refl) })

-- ---- a step that is damaged

-- its line says so
pub damaged_line : (command : Command) (told : Option Told) (place : Place) (class : Class)
    → IsDamagedStep command told place class → IsDamagedLine command told (damaged_text place class)
damaged_line command told place class is = record { place = place; class = class; is = refl; step = is }

-- ---- what a call comes to

-- a failing disk has no line
pub told_fault : (command : Command) (written took : Option (List ℕ)) (turn : Turn)
    → TellsAnswer command (Err Disk) written took turn → (turn ≡ Ends DiskFault) × (took ≡ written)
told_fault command written took GoesOn tells = absurd tells
told_fault command written took (Ends status) tells = (λ i. Ends (tells.0 i), tells.1)

line_not_fault : (line : List ℕ) (old new : Option (List ℕ)) (status : Status)
    → PrintsLine line Refused old new status → Ends status ≡ Ends DiskFault → ⊥
line_not_fault line old new status (inl printed) is = cc (printed.0, is)
line_not_fault line old new status (inr printed) is = cc (printed.0, is)

-- a step that is damaged ends the session by its line
comes_damaged : (command : Command) (s t : Replica) (old new : Option Told) (written took : Option (List ℕ))
    (before now : ℕ) (place : Place) (class : Class) → Makes command s t old new None → IsDamagedStep command new place class → now ≡ before
    → (turn : Turn) → TellsAnswer command (Err (Damaged place class)) written took turn
    → AnswersCommand command s t old new written took turn × BlamesIfEnds DiskFault before now turn
comes_damaged command s t old new written took before now place class makes damaged same GoesOn tells = absurd tells
comes_damaged command s t old new written took before now place class makes damaged same (Ends status) tells = (
  damaged_is command s t old new written took (damaged_text place class) makes (damaged_line command new place class damaged) status tells,
  disk_same before now (Ends status) same (line_not_fault (damaged_text place class) written took status tells),
)

module _ (command : Command) (s t : Replica) (old new : Option Told) (written took : Option (List ℕ)) (before now : ℕ) (turn : Turn) where
  abbrev pub Comes : Type 0
  Comes = AnswersCommand command s t old new written took turn × BlamesIfEnds DiskFault before now turn

  pub comes_answered : (x : Answer)
      → Makes command s t old new (Some x) → now ≡ before → IsPrinted (answer_text command x) written took turn → Comes
  comes_answered x makes same printed = (
    printed_is command s t old new written took x makes turn printed,
    disk_same before now turn same (not_fault (answer_text command x) written took turn printed),
  )

  pub comes_failed : Makes command s t old new None → (turn ≡ Ends DiskFault) × (took ≡ written) → Rose before now → Comes
  comes_failed makes ended rose = (failed_is command s t old new written took makes turn ended, disk_rose before now turn ended.0 rose)

  -- what was heard of its answer was told
  pub comes_told : (r : Result Called Fault)
      → MakesTo command s t old new r → IsBlamed is_disk_fault before now r → TellsAnswer command r written took turn → Comes
  comes_told (Ok a) gives same tells =
      comes_answered gives.told gives.makes same (rw (same_words command gives.told a gives.in_words).0 at tells)
  comes_told (Err Disk) makes blamed tells = comes_failed makes.0 (told_fault command written took turn tells) blamed.1
  comes_told (Err (Damaged place class)) makes same tells =
      comes_damaged command s t old new written took before now place class makes.0 makes.1 same turn tells
