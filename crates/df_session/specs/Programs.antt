-- What a run of a program came to over a file, whichever program it is.
use Rattle.std.specs.Prelude.{◌≡◌, [], ◌∷◌, Option, Some, None}
use Rattle.df_base.specs.Log.{Sync}
use Rattle.df_disk.specs.{Adds.{AddsPart}, Told.{Told}}
use Rattle.df_layout.specs.declared.layout.Layout.{Layout}
use Rattle.df_replica.specs.Opened.{StopsOpening}
use Rattle.df_session.specs.{Found.{FoundFile}, Laws.{CallsKeep}, Links.{CallsMade}}

-- The file was found, mended and raised, on a disk that told t before it and n after it, and these calls were made on what was found, and no others; what is kept of them is what calls on an open file keep.
pub record ServedFile (t n : Told) : Type 0 where
  pub layout : Layout
  pub found : FoundFile layout t
  pub made : CallsMade
  pub on : made.from ≡ found.replica
  pub after : made.old ≡ found.mended
  pub to : made.new ≡ Some n
  pub keep : CallsKeep t found.replica found.mended found.mending made

-- A run of a program, on a disk that told t before it and n after it: nothing was done but a barrier, if that, as where the file was refused or only looked at; or the disk failed in its open; or it was found, and calls were made.
pub data FileRun (t n : Told) : Type 0 where
  LooksOnly : AddsPart (Sync ∷ []) (Some t) (Some n) → FileRun t n
  StopsInOpen : (layout : Layout) → StopsOpening layout t (Some n) → FileRun t n
  Serves : ServedFile t n → FileRun t n

-- the calls of its session, if the file was found
abbrev pub calls_in_run : {t n : Told} → FileRun t n → Option CallsMade
calls_in_run (LooksOnly part) = None
calls_in_run (StopsInOpen layout stops) = None
calls_in_run (Serves served) = Some served.made

-- it found this file, and made these calls and no others
abbrev pub IsSession : {t n : Told} → FileRun t n → (layout : Layout) → FoundFile layout t → CallsMade → Type 0
IsSession {t = t} {n = n} run layout found c =
    (on : c.from ≡ found.replica) × (after : c.old ≡ found.mended) × (to : c.new ≡ Some n) × (keep : CallsKeep t found.replica found.mended found.mending c)
    × (run ≡ Serves (record { layout = layout; found = found; made = c; on = on; after = after; to = to; keep = keep }))
