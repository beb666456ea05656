-- Where a life begins.
use Rattle.std.specs.Prelude.{◌≡◌, ◌<◌, ◌^◌, ℕ}
use Rattle.df_base.specs.{Image.{blank}, Log.{AreSyncs}}
use Rattle.df_disk.specs.Told.{Told}
use Rattle.df_layout.specs.declared.layout.Layout.{Layout}
use Rattle.df_session.specs.Making.{MayMakeOn}

-- on a disk that was never written, whatever syncs it had, a file of any layout and any cluster but 0 may be made
abbrev pub NewDisksAreMadeOn : Type 0
NewDisksAreMadeOn = (layout : Layout) (cluster : ℕ) (t : Told) → 0 < cluster → cluster < 2 ^ 128 → t.log.start ≡ blank → AreSyncs t.log.events → MayMakeOn layout cluster t
