-- What a run does where no call fails: one outcome of what both files show; and what a run does that a failing call ends.
use Rattle.std.specs.Prelude.{◌≡◌, ◌⊎◌, ℕ, List, [], ◌∷◌, ◌++◌, Option, Some}
use Rattle.df_base.specs.{Log.{Sync}, Streams.{Appends, AppendsPart}}
use Rattle.df_disk.specs.{Adds.{AddsPart}, Told.{Told, did}}
use Rattle.df_theory.specs.Units.{Content}
use Rattle.df_units.specs.Meaning.{place_of}
use Rattle.df_damage.specs.Anew.{told_after}
use Rattle.df_opening.specs.Below.{DataFile}
use Rattle.df_mirror.specs.{declared.status.Status.{Status}, declared.status.Status.TheVariants.{DiskFault, Done, Found, Refused, WriteFault}, Mends.{AreMends, Mend, lines_of, mirrored_events}}
use Rattle.df_mirror.specs.{Outside.{Outside, Tell}, Run.{Mirrors}, Texts.{mended_text}, Walks.{content_of_superblock}}

-- what is mended, the line that is printed last, and the status
pub record Outcome : Type 0 where
  pub mends : List Mend
  pub line : List ℕ
  pub status : Status

-- no failing call ended the run
abbrev pub IsWhole : Status → Type 0
IsWhole status = (status ≡ Done) ⊎ ((status ≡ Found) ⊎ (status ≡ Refused))

-- the run came to this outcome: all of it was written and printed
pub record ComesTo (file : DataFile) (c : Content) (t o : Told) (old new : Outside) (status : Status) (x : Outcome) : Type 0 where
  pub are : AreMends file c o.shown t x.mends
  pub told : new.first ≡ Some (told_after (mirrored_events file x.mends) t)
  pub printed : Appends old.written new.written (lines_of x.mends ++ x.line)
  pub status_is : status ≡ x.status

-- Where a failing call ended the run, by what was left to be mended then: a disk failed, and a part of the next write is there, or nothing of it, and no byte of its line; or the sink failed, and that write is there, and a part of its line. Where nothing was left
-- a disk failed, or a part of the last line is there.
abbrev pub StopsAt : DataFile → (left : List Mend) → (line : List ℕ) → Told → (new : Option Told) → (said text : Option (List ℕ)) → Status → Type 0
StopsAt file [] line mid new said text status = (new ≡ Some mid) × (((status ≡ DiskFault) × (text ≡ said)) ⊎ ((status ≡ WriteFault) × AppendsPart said text line))
StopsAt file (m ∷ ms) line mid new said text status =
    ((status ≡ DiskFault) × AddsPart (mirrored_events file (m ∷ [])) (Some mid) new × (text ≡ said)) ⊎ ((status ≡ WriteFault) × (new ≡ Some (told_after (mirrored_events file (m ∷ [])) mid)) × AppendsPart said text (mended_text (place_of m.place)))

-- the run stopped on its way to this outcome: of its mends the first ones were written, each with its line, and then it ended so
pub record StopsBefore (file : DataFile) (t : Told) (old new : Outside) (status : Status) (x : Outcome) : Type 0 where
  pub mends : List Mend
  pub left : List Mend
  pub all : x.mends ≡ mends ++ left
  pub said : Option (List ℕ)
  pub printed : Appends old.written said (lines_of mends)
  pub stops : StopsAt file left x.line (told_after (mirrored_events file mends) t) new.first said new.written status

-- ---- the laws

-- Of two runs over first files that show the same, and second files that show the same, neither ended by a failing call, the outcome is one: the same units are mended, in the same order, with the same bytes, the same is printed, and the status is the same.
abbrev pub OutcomeIsOne : Type 0
OutcomeIsOne =
    (t o u p : Told) (old new past later : Outside) (status other : Status) (is : Mirrors t o old new status) (also : Mirrors u p past later other) → Tell t o old → Tell u p past → t.shown ≡ u.shown → o.shown ≡ p.shown → IsWhole status → IsWhole other
    → (x : Outcome) × ComesTo is.base.file (content_of_superblock is.base) (did Sync t) o old new status x × ComesTo also.base.file (content_of_superblock also.base) (did Sync u) p past later other x

-- And any run over what they show comes to that outcome, or stops on its way to it.
abbrev pub RunStopsBefore : Type 0
RunStopsBefore =
    (t o u p : Told) (old new past later : Outside) (status other : Status) (is : Mirrors t o old new status) (also : Mirrors u p past later other) → Tell t o old → Tell u p past → t.shown ≡ u.shown → o.shown ≡ p.shown → IsWhole other
    → (x : Outcome) × ComesTo also.base.file (content_of_superblock also.base) (did Sync u) p past later other x
    × (ComesTo is.base.file (content_of_superblock is.base) (did Sync t) o old new status x ⊎ StopsBefore is.base.file (did Sync t) old new status x)
