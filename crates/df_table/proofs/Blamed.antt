-- Which count a turn raises: that of what ended it, and no other.
use Rattle.{std.proofs.Common.{◌≡◌, inl, inr, ℕ, List, Option, refl, sym, ◌∙◌, subst}, df_base.specs.Causes.{Blamed}}
use Rattle.df_program.{proofs.Laws.{no_blame, text_ends}, specs.declared.turn.Turn.TheVariants.{Ends, GoesOn as Goes}}
use Rattle.df_table.specs.{declared.ending.Ending.{Ending}, declared.ending.Ending.TheVariants.{Disk, Damaged, NotTable, OpsSpent, SequenceSpent}, declared.status.Status.{Status}, declared.status.Status.TheVariants.{DiskFault, Memory, ReadFault, Refused, Words, WriteFault}, Outside.{Step, Blames, EndsWithFile, WritesTableText}, Serving.{BlamesIfEnds, EndsLine, EndsTurn, OnGoing, TellsLine}, Statuses.{ending_text, is_disk, status_of}}

-- what holds holds where the session goes on
pub on_going : (turn : Step) (P : Type 0) → P → OnGoing turn P
on_going Goes P holds = holds
on_going (Ends status) P holds = tt

-- ---- what ended the session is told

module _ (before now : ℕ) (old new : Option (List ℕ)) (status : Status) where
  quiet : (ending : Ending) → (status_of ending ≡ DiskFault → ⊥)
      → WritesTableText (ending_text ending) (status_of ending) old new status → now ≡ before → Blames DiskFault before now status
  quiet ending other wrote same = no_blame DiskFault
      before now status same (text_ends WriteFault (ending_text ending) (status_of ending) DiskFault old new status wrote other (λ no. cc))

  pub told_disk : (ending : Ending) → (ending ≡ Disk → status ≡ DiskFault) → WritesTableText
      (ending_text ending) (status_of ending) old new status → Blamed (is_disk ending) before now → Blames DiskFault before now status
  told_disk Disk fault wrote blamed = record { rose = λ is. blamed.1; same = λ no. absurd (no (fault refl)) }
  told_disk (Damaged place class) fault wrote blamed = quiet (Damaged place class) (λ is. cc) wrote blamed
  told_disk (NotTable place) fault wrote blamed = quiet (NotTable place) (λ is. cc) wrote blamed
  told_disk OpsSpent fault wrote blamed = quiet OpsSpent (λ is. cc) wrote blamed
  told_disk SequenceSpent fault wrote blamed = quiet SequenceSpent (λ is. cc) wrote blamed

-- ---- what was never blamed

-- a text that was told blames the sink alone
pub tells_disk : (text : List ℕ) (old new : Option (List ℕ)) (turn : Step) (before now : ℕ)
    → TellsLine text old new turn → now ≡ before → BlamesIfEnds DiskFault before now turn
tells_disk text old new Goes before now told same = same
tells_disk text old new (Ends status) before now told same =
    no_blame DiskFault before now status same (λ is. let no : WriteFault ≡ DiskFault = sym told.0 ∙ is in cc)

-- ---- how a line ends

pub tells_line : (text : List ℕ) (old new : Option (List ℕ)) (turn : Step) → TellsLine text old new turn → EndsLine turn
tells_line text old new Goes told = tt
tells_line text old new (Ends status) told = inr (inr told.0)

ending_line : (ending : Ending) → EndsLine (Ends (status_of ending))
ending_line Disk = inr (inl refl)
ending_line (Damaged place class) = inl refl
ending_line (NotTable place) = inl refl
ending_line OpsSpent = inl refl
ending_line SequenceSpent = inl refl

pub told_line : (ending : Ending) (old new : Option (List ℕ)) (status : Status)
    → WritesTableText (ending_text ending) (status_of ending) old new status → EndsLine (Ends status)
told_line ending old new status (inl told) = subst (λ (s : Status). EndsLine (Ends s)) (sym told.0) (ending_line ending)
told_line ending old new status (inr fails) = inr (inr fails.0)

-- so it is no other status
pub line_apart : (status other : Status)
    → EndsLine (Ends status) → (Refused ≡ other → ⊥) → (DiskFault ≡ other → ⊥) → (WriteFault ≡ other → ⊥) → status ≡ other → ⊥
line_apart status other (inl refused) one two three is = one (sym refused ∙ is)
line_apart status other (inr (inl disk)) one two three is = two (sym disk ∙ is)
line_apart status other (inr (inr sink)) one two three is = three (sym sink ∙ is)

pub line_never : (status : Status) → EndsLine (Ends status) → EndsWithFile status
line_never status ends =
    (line_apart status Memory ends (λ no. cc) (λ no. cc) (λ no. cc), line_apart status Words ends (λ no. cc) (λ no. cc) (λ no. cc))

pub line_turn : (turn : Step) → EndsLine turn → EndsTurn turn
line_turn Goes ends = tt
line_turn (Ends status) ends = line_never status ends

-- and doesn't blame the source
pub unread_source : (turn : Step) (before now : ℕ) → EndsLine turn → now ≡ before → BlamesIfEnds ReadFault before now turn
unread_source Goes before now ends same = same
unread_source (Ends status) before now ends same =
    no_blame ReadFault before now status same (line_apart status ReadFault ends (λ no. cc) (λ no. cc) (λ no. cc))
