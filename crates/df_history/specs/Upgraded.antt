-- Where a history of version 2 begins: at the image that an upgrade left.
use Rattle.std.specs.Prelude.{◌⊎◌, ℕ, List, []}
use Rattle.df_theory.specs.{CopyPuts.{PutsCopies}, Units.{Content, Header, Units}, Shape.{Shape}, View.{View}, Holds.{Holds}, Next.{booted}, UnitLog.{now}, Chance.{EachLeft}, Rests.{RestsOn}}
use Rattle.df_theory.specs.{Runs.{AtEach, after_steps}, Found.{IsClean}, Upgrades.{IsCleanBeyond, MayRaise, of_version, raise_steps, restarted_at}}
use Rattle.df_history.specs.Histories.{IsLivedMoment}

-- the log that is begun at the image left at the end is the first of a history, and rests on the view with the new superblock
abbrev pub UpgradedLaw : Type 0
UpgradedLaw =
    (sh : Shape) (n : ℕ) (image : Units) (v : View) (table : ℕ → Header) (headers : List Units) (copies : List (ℕ × Units)) (d : Content) (puts : PutsCopies d) → MayRaise sh n image v table headers copies d → IsCleanBeyond image v
    → IsLivedMoment (of_version n sh) [] (restarted_at (now (after_steps (raise_steps headers copies puts) (restarted_at image)))) × RestsOn (of_version n sh) (restarted_at (now (after_steps (raise_steps headers copies puts) (restarted_at image)))) (booted v d)

-- from a clean start so is one that is begun wherever it was stopped, once the new superblock is chosen
abbrev pub StoppedUpgradeLaw : Type 0
StoppedUpgradeLaw =
    (sh : Shape) (n : ℕ) (image : Units) (v : View) (table : ℕ → Header) (headers : List Units) (copies : List (ℕ × Units)) (d : Content) (puts : PutsCopies d) → MayRaise sh n image v table headers copies d → IsClean image v
    → AtEach (λ log. EachLeft log (λ left. Holds sh left v ⊎ (IsLivedMoment (of_version n sh) [] (restarted_at left) × RestsOn (of_version n sh) (restarted_at left) (booted v d)))) (restarted_at image) (raise_steps headers copies puts)
