-- A script has one text and one status over what a disk shows: what a session prints where no call of the disk, of the source or of the sink failed.
use Rattle.std.specs.Prelude.{◌≡◌, ◌⊎◌, ◌+◌, ℕ, List, ◌++◌, length, Some, None}
use Rattle.std.proofs.Common.{inl, inr}
use Rattle.df_base.specs.{Image.{Image}, Streams.{Appends}}
use Rattle.df_disk.specs.Told.{Told}
use Rattle.df_inspect.specs.Opening.{script_text}
use Rattle.df_layout.specs.declared.layout.Layout.{Layout}
use Rattle.df_format.specs.Copies.{content_at}
use Rattle.df_lines.specs.{Grammar.{Said}, Room.{line_bound}, Script.{IsScript}}
use Rattle.df_theory.specs.{Found.{IsFound}, Units.{Place}, View.{View}}
use Rattle.df_units.specs.{Bytes.{unit_at}, Wanted.{class_at}}
use Rattle.df_pace.specs.declared.pace.Pace.{Pace}
use Rattle.df_session.specs.{Below.{shape}, Leaving.{IsReadPlace}, Found.{FoundFile}}
use Rattle.df_top.specs.{Outside.{IsThrough, Outside}, Resulting.{script_text_of}, Run.{ServesScript, script_budget}, declared.status.Status.{Status}}
use Rattle.df_top.specs.declared.status.Status.TheVariants.{Done, Script}

-- how the session of a script ends, by how its text ends after the lines: there is no more, or the next line is refused
abbrev pub status_by : {A B : Type 0} → A ⊎ B → Status
status_by (inl no_more) = Done
status_by (inr refused) = Script

-- and what it prints, where its n lines print this: at a line that is refused, the line that says so after it
abbrev pub text_by : {A B : Type 0} → A ⊎ B → (n : ℕ) → List ℕ → List ℕ
text_by (inl no_more) n text = text
text_by (inr refused) n text = text ++ script_text (n + 1)

-- the status and the text of a session are functions of its script, of its pace and of the image that the disk shows at first
abbrev pub TextIsResult : Type 0
TextIsResult =
    (pace : Pace) (layout : Layout) (t : Told) (old new : Outside) (status : Status) (found : FoundFile layout t) (serves : ServesScript pace layout t found old new status) (view : View) (text : List ℕ) (says : List Said) (script : IsScript (line_bound layout) script_budget text says)
    → IsFound (shape found.replica.file) (unit_at found.replica.file.layout found.replica.file.cluster t.shown) view → old.left ≡ Some text → IsThrough status
    → (status ≡ status_by script.ends) × Appends old.written new.written (text_by script.ends (length says) (script_text_of pace found.replica.file view t.shown says))

-- Two images show the same, read with this layout: the same copies of the superblock, at each place the same unit, and where there is none, and a call may read the
-- place, the same class.
pub record ShowSame (layout : Layout) (a b : Image) : Type 0 where
  pub copies : (n : ℕ) → content_at a n ≡ content_at b n
  pub units : (cluster : ℕ) (place : Place) → unit_at layout cluster a place ≡ unit_at layout cluster b place
  pub classes : (cluster : ℕ) (place : Place) → IsReadPlace layout place → unit_at layout cluster a place ≡ None → class_at layout cluster a place ≡ class_at layout cluster b place

-- two sessions of one script and one pace over disks that show the same print the same and end with the same status
abbrev pub OneText : Type 0
OneText =
    (pace : Pace) (layout : Layout) (t u : Told) (old new before now : Outside) (status ending : Status) (text : List ℕ) (found : FoundFile layout t) (other : FoundFile layout u) → ServesScript pace layout t found old new status → ServesScript pace layout u other before now ending → ShowSame layout t.shown u.shown
    → old.left ≡ Some text → before.left ≡ Some text → IsThrough status → IsThrough ending → (status ≡ ending) × ((line : List ℕ) × Appends old.written new.written line × Appends before.written now.written line)
