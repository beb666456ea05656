-- How a copy ends: the numbers of the statuses, and what each ending blames and prints.
use Rattle.std.specs.Prelude.{◌≡◌, ℕ, Bool, true, false, ◌||◌, refl}
use Rattle.df_program.specs.Ends.{Statuses}
use Rattle.df_model.specs.{declared.errors.FormatError.{FormatError}, declared.reading.LookupError.{LookupError}, declared.reading.ReadError.{ReadError}}
use Rattle.df_model.specs.declared.errors.FormatError.TheVariants as formats
use Rattle.df_model.specs.declared.reading.LookupError.TheVariants as lookup
use Rattle.df_model.specs.declared.reading.ReadError.TheVariants as read
use Rattle.df_copy.specs.{declared.ending.Ending.{Ending}, declared.ending.Ending.TheVariants.{Damaged, NotBlank, Source, Target}, declared.status.Status.{Status}}
use Rattle.df_copy.specs.declared.status.Status.TheVariants as ends

-- those of `datafile` that come
abbrev pub copy_exit_number : Status → ℕ
copy_exit_number ends.Done = 0
copy_exit_number ends.Words = 2
copy_exit_number ends.Refused = 4
copy_exit_number ends.DiskFault = 5
copy_exit_number ends.WriteFault = 7
copy_exit_number ends.Memory = 8

abbrev pub statuses : Statuses Status
statuses = record { number = copy_exit_number; refused = ends.Refused; disk_fault = ends.DiskFault; write_fault = ends.WriteFault; refused_is = refl; disk_is = refl; sink_is = refl }

-- the source's disk failed
abbrev pub is_source : Ending → Bool
is_source Source = true
is_source e = false

-- it ended by what it did with the files: neither for want of memory nor for its words
abbrev pub EndsWithFiles : Status → Type 0
EndsWithFiles status = (status ≡ ends.Memory → ⊥) × (status ≡ ends.Words → ⊥)

-- the target's disk failed
abbrev pub is_target : Ending → Bool
is_target Target = true
is_target e = false

-- one of the two did
abbrev pub is_fault : Ending → Bool
is_fault e = is_source e || is_target e

-- what is said of an ending: where the target's disk failed, where the source's did, and of a refusal
abbrev pub ByEnding : (target source : Type 0) → (refused : Ending → Type 0) → Ending → Type 0
ByEnding target source refused Target = target
ByEnding target source refused Source = source
ByEnding target source refused e = refused e

-- why the target isn't begun; its cluster is never refused, since a file has one
abbrev pub blank_ending : FormatError → Ending
blank_ending (formats.NotBlank copy) = NotBlank copy
blank_ending formats.DiskFault = Target
blank_ending formats.ClusterZero = Target

-- why a stored reply isn't read; at rest each session's is stored
abbrev pub reply_ending : LookupError → Ending
reply_ending (lookup.Damaged place class) = Damaged place class
reply_ending lookup.DiskFault = Source
reply_ending lookup.NoClient = Source
reply_ending (lookup.ReplyPending op) = Source

-- why a live block isn't read
abbrev pub copied_block_ending : ReadError → Ending
copied_block_ending (read.Damaged place class) = Damaged place class
copied_block_ending read.DiskFault = Source
copied_block_ending read.NotLive = Source
