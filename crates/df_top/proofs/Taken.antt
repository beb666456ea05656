-- What is heard of a step of the scrubber: what it found, or that the disk failed in it.
use Rattle.{std.proofs.Common.{◌≡◌, ℕ, Option, None, Ok, Err, refl, subst}, df_base.specs.Causes.{IsBlamed}, df_disk.specs.Told.{Told}}
use Rattle.df_model.specs.{Commands.{Advance, Command, Scrub}, declared.answers.Scrubbed.{Scrubbed}, declared.commands.Answer.{Answer}}
use Rattle.df_model.specs.declared.commands.Answer.TheVariants as answers
use Rattle.df_session.specs.{Below.{State as Replica}, Endings.{EndsBy, GivesAnswer, is_disk_fault}, Links.{Makes}, Own.{AddsOwn}, Scrubbing.{IsScrub}, declared.hearing.Fault.{Fault}, declared.hearing.Fault.TheVariants.{Disk, Damaged}}
use Rattle.df_top.{specs.{Turning.{BlamesIfEnds}, declared.status.Status.TheVariants.{DiskFault}}, proofs.Answered.{disk_rose}}
use Rattle.df_program.specs.declared.turn.Turn.TheVariants.{Ends}

module _ (s t : Replica) (old new : Option Told) where
  -- it found this
  pub is_scrub : (a : Answer) (x : Scrubbed) → a ≡ answers.Scrub x → GivesAnswer Scrub s t old new a → IsScrub s t old (Ok x)
  is_scrub a x is gives = let one : gives.exact.0 ≡ x = cc (gives.exact.1, is) in
      subst (λ (r : Scrubbed). IsScrub s t old (Ok r)) one gives.exact.2

  -- it adds nothing to the log where the disk failed
  pub adds_nothing : Makes Scrub s t old new None → new ≡ old
  adds_nothing makes = subst (λ (c : Command). AddsOwn c s old new None) makes.is makes.calls.own

-- it is no step of a checkpoint, so nothing but the disk ends it
pub disk_ends : (told : Option Told) (before now : ℕ) (fault : Fault) → EndsBy fault Scrub told
    → IsBlamed {T = Answer} is_disk_fault before now (Err fault) → BlamesIfEnds DiskFault before now (Ends DiskFault)
disk_ends told before now Disk ends blamed = disk_rose before now (Ends DiskFault) refl blamed.1
disk_ends told before now (Damaged place class) ends blamed = let no : Scrub ≡ Advance = ends.step in absurd (cc no)
