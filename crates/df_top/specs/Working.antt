-- What the word `workload` promises of a file.
use Rattle.std.specs.Prelude.{◌≡◌, ℕ}
use Rattle.df_disk.specs.Told.{Told}
use Rattle.df_layout.specs.declared.layout.Layout.{Layout}
use Rattle.df_session.specs.{Below.{State as Replica}, Found.{FoundFile}, Laws.{CallsKeep}}
use Rattle.df_workload.specs.{Rounds.{start}, declared.state.State.{State as Run}}
use Rattle.df_top.specs.{Acknowledging.{run_calls}, Outside.{Outside}, Works.{Worked, WritesReport}, declared.status.Status.{Status}, declared.status.Status.TheVariants.{Refused}}

-- The run is carried out; what its calls keep is what calls on an open file keep. No step finds the superblock damaged that it wrote, since the disk tells what it shows.
pub record WorksThrough (seed count : ℕ) (layout : Layout) (t : Told) (found : FoundFile layout t) (old new : Outside) (status : Status) : Type 0 where
  pub unread : new.left ≡ old.left
  pub run : Run
  pub last : Replica
  pub worked : Worked (start seed count layout.clients) found.replica found.mended run last new.told
  pub written : WritesReport run last new.told worked.failed old.written new.written status
  pub calls : CallsKeep t found.replica found.mended found.mending (run_calls worked)
  pub undamaged : status ≡ Refused → ⊥
