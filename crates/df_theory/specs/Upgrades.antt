-- An open that raises the boot, and an upgrade, which raises the version too: a file is restored, as an open mends it, and then gets a superblock with the next boot. It is one log, restarted at the image that the barrier settled; no clean start is asked.
use Rattle.std.specs.Prelude.{◌≡◌, ◌⊎◌, ◌<◌, ◌≤◌, ℕ, List, ◌++◌, Some, []}
use Rattle.df_base.specs.declared.TheConstants.{FIRST_VERSION, VERSION}
use Rattle.df_theory.specs.CopyPuts.{PutsCopies, update_steps}
use Rattle.df_theory.specs.{Units.{Content, CopyPlace, CopyUnit, Header, HeaderPlace, HeaderUnit, Message, PreparePlace, PrepareUnit, ReplyPlace, ReplyUnit, Units}, Shape.{Shape, slots}}
use Rattle.df_theory.specs.{Copies.{Agree}, Shows.{AgreesCopy}, View.{View, boot_of}, Holds.{Holds, IsWhole}, Next.{IsSameBare, MayBoot, booted}, UnitLog.{UnitLog, now}, Chance.{EachLeft}}
use Rattle.df_theory.specs.{Rests.{IsDry, RestsOn}, Runs.{AtEach, Step, after_steps}, MendLaws.{AllPutCopy, AllPutTable, IsNumber, IsTable, Reaches, mend_steps}, Found.{AreOfPlaces, IsClean, IsFound}}

-- the same file, where another version is asked for
abbrev pub of_version : ℕ → Shape → Shape
of_version n sh = record sh { version = n }

-- the same view, but for the version in its superblock
abbrev pub as_version : ℕ → View → View
as_version n v = booted v (record v.checkpoint.content { version = n })

-- a log that is restarted at an image
abbrev pub restarted_at : Units → UnitLog
restarted_at image = record { start = image; events = [] }

-- what is written over an image in which an open finds a view: the headers and the copies that an open mends, and a content that follows by a boot update, but for its version
pub record MayRaise (sh : Shape) (n : ℕ) (image : Units) (v : View) (table : ℕ → Header) (headers : List Units) (copies : List (ℕ × Units)) (d : Content) : Type 0 where
  pub places : AreOfPlaces sh image
  pub found : IsFound sh image v
  pub tells : IsTable sh image v table
  pub puts_headers : AllPutTable table headers
  pub agreed : Agree image v.checkpoint.content
  pub puts_copies : AllPutCopy v.checkpoint.content agreed.first agreed.second copies
  pub each_slot : (s : ℕ) → s < slots sh → (image (HeaderPlace s) ≡ Some (HeaderUnit (table s))) ⊎ Reaches headers (HeaderPlace s)
  pub each_copy : (k : ℕ) → k < 4 → (image (CopyPlace k) ≡ Some (CopyUnit v.checkpoint.content)) ⊎ IsNumber k copies
  pub boot : MayBoot (as_version n v) d

-- first it is restored, and then updated
abbrev pub raise_steps : {d : Content} → List Units → List (ℕ × Units) → PutsCopies d → List Step
raise_steps headers copies puts = mend_steps headers copies ++ update_steps puts

-- the image has the view, read by the version of its own superblock: the one before, or the one with the new superblock
abbrev pub HasBare : Shape → ℕ → Units → View → Content → Type 0
HasBare sh n image v d = IsFound sh image v ⊎ IsFound (of_version n sh) image (booted v d)

-- at each moment each image left has the bare view of the start
abbrev pub RaiseLaw : Type 0
RaiseLaw =
    (sh : Shape) (n : ℕ) (image : Units) (v : View) (table : ℕ → Header) (headers : List Units) (copies : List (ℕ × Units)) (d : Content) (puts : PutsCopies d) → MayRaise sh n image v table headers copies d
    → AtEach (λ log. EachLeft log (λ left. HasBare sh n left v d)) (restarted_at image) (raise_steps headers copies puts) × IsSameBare (as_version n v) (booted v d)

-- an image with the new superblock: it holds its view, and all its prepares and replies are of earlier boots
pub record IsRaised (sh : Shape) (image : Units) (u : View) : Type 0 where
  pub holds : Holds sh image u
  pub prepares : (s : ℕ) (p : Message) → image (PreparePlace s) ≡ Some (PrepareUnit p) → p.header.boot < boot_of u
  pub replies : (k : ℕ) (r : Message) → image (ReplyPlace k) ≡ Some (ReplyUnit r) → r.header.boot < boot_of u

-- it came to its end: nothing is loose, nothing is left to mend, and the view is found with the new superblock
pub record EndsRaised (sh : Shape) (log : UnitLog) (u : View) : Type 0 where
  pub dry : IsDry log
  pub whole : IsWhole sh (now log) u
  pub found : IsFound sh (now log) u

-- a log may be restarted at this image
pub record BeginsRaised (sh : Shape) (image : Units) (u : View) : Type 0 where
  pub raised : IsRaised sh image u
  pub rests : RestsOn sh (restarted_at image) u

-- beside the four copies none is later: there are four. Of the four themselves nothing is asked
abbrev pub IsCleanBeyond : Units → View → Type 0
IsCleanBeyond image v = (n : ℕ) (c : Content) → 4 ≤ n → image (CopyPlace n) ≡ Some (CopyUnit c) → AgreesCopy v n c

abbrev pub RaiseEndsLaw : Type 0
RaiseEndsLaw =
    (sh : Shape) (n : ℕ) (image : Units) (v : View) (table : ℕ → Header) (headers : List Units) (copies : List (ℕ × Units)) (d : Content) (puts : PutsCopies d) → MayRaise sh n image v table headers copies d
    → EndsRaised (of_version n sh) (after_steps (raise_steps headers copies puts) (restarted_at image)) (booted v d)
    × (IsCleanBeyond image v → BeginsRaised (of_version n sh) (now (after_steps (raise_steps headers copies puts) (restarted_at image))) (booted v d))

-- where the start was clean, what a stop leaves is clean too: the next log may begin there
abbrev pub RaiseAnewLaw : Type 0
RaiseAnewLaw =
    (sh : Shape) (n : ℕ) (image : Units) (v : View) (table : ℕ → Header) (headers : List Units) (copies : List (ℕ × Units)) (d : Content) (puts : PutsCopies d) → MayRaise sh n image v table headers copies d → IsClean image v
    → AtEach (λ log. EachLeft log (λ left. Holds sh left v ⊎ IsRaised (of_version n sh) left (booted v d))) (restarted_at image) (raise_steps headers copies puts)

-- ---- an open, of any image in which it finds a view: it keeps the version

abbrev pub OpenLaw : Type 0
OpenLaw =
    (sh : Shape) (image : Units) (v : View) (table : ℕ → Header) (headers : List Units) (copies : List (ℕ × Units)) (d : Content) (puts : PutsCopies d)
    → MayRaise sh v.checkpoint.content.version image v table headers copies d
    → AtEach (λ log. EachLeft log (λ left. IsFound sh left v ⊎ IsFound sh left (booted v d))) (restarted_at image) (raise_steps headers copies puts)
    × IsSameBare v (booted v d)
    × EndsRaised sh (after_steps (raise_steps headers copies puts) (restarted_at image)) (booted v d)

-- ---- an upgrade: from version 1 to version 2

-- each image left has the bare view of the start, by the version of its own superblock. At the end nothing is loose, the four copies are equal, of version 2 and boot 1, and nothing is left to mend
abbrev pub UpgradeLaw : Type 0
UpgradeLaw =
    (sh : Shape) (image : Units) (v : View) (table : ℕ → Header) (headers : List Units) (copies : List (ℕ × Units)) (d : Content) (puts : PutsCopies d)
    → sh.version ≡ FIRST_VERSION → MayRaise sh 2 image v table headers copies d
    → AtEach (λ log. EachLeft log (λ left. HasBare sh 2 left v d)) (restarted_at image) (raise_steps headers copies puts)
    × IsSameBare (as_version VERSION v) (booted v d)
    × EndsRaised (of_version 2 sh) (after_steps (raise_steps headers copies puts) (restarted_at image)) (booted v d)
    × (v.checkpoint.content.version ≡ FIRST_VERSION) × (d.version ≡ VERSION) × (d.boot ≡ 1)
