-- What the words ask for, and which clauses of a run speak of them.
use Rattle.{std.proofs.Common.{◌≡◌, ℕ, List, refl, subst}, df_layout.specs.declared.layout.Layout.{Layout}}
use Rattle.df_top.{specs.{Mode.{AsksForFile, AsksOfFile, IsRunnable, Means, task_of}, declared.mode.Mode.{Mode}, declared.mode.Mode.TheVariants.{Format, Run, Recover, Inspect, Scrub, Workload, Upgrade, Paced}, declared.mode.NewFile.{NewFile}}, proofs.Modes.{one_mode}}
use Rattle.df_top.specs.declared.mode.Task.TheVariants as task

-- words that ask for a file ask for one
pub same_layout_asked : (words : List (List ℕ)) (layout other : Layout) (cluster another : ℕ)
    → Means words (Format layout cluster) → Means words (Format other another) → layout ≡ other
same_layout_asked words layout other cluster another one two =
    let same : Format layout cluster ≡ Format other another = one_mode words (Format layout cluster) (Format other another) one two in cc

pub same_cluster_asked : (words : List (List ℕ)) (layout other : Layout) (cluster another : ℕ)
    → Means words (Format layout cluster) → Means words (Format other another) → cluster ≡ another
same_cluster_asked words layout other cluster another one two =
    let same : Format layout cluster ≡ Format other another = one_mode words (Format layout cluster) (Format other another) one two in cc

-- and those that ask for a making ask for nothing of a file that is there
pub makes_alone : (words : List (List ℕ)) (layout : Layout) (cluster : ℕ) (mode : Mode)
    → Means words (Format layout cluster) → Means words mode → AsksForFile mode → ⊥
makes_alone words layout cluster mode one other of = subst AsksForFile (one_mode words mode (Format layout cluster) other one) of

-- so do those that ask for an upgrade: they ask for no making
pub upgrades_alone : (words : List (List ℕ)) (mode : Mode) → Means words Upgrade → Means words mode → AsksForFile mode → ⊥
upgrades_alone words mode one other of = subst AsksForFile (one_mode words mode Upgrade other one) of

pub makes_none : (words : List (List ℕ)) (layout : Layout) (cluster : ℕ) → Means words (Format layout cluster) → Means words Upgrade → ⊥
makes_none words layout cluster one other =
    let no : Format layout cluster ≡ Upgrade = one_mode words (Format layout cluster) Upgrade one other in cc

-- ---- a word on a file

-- words that ask for such a word ask for no other
pub of_file_asked : (words : List (List ℕ)) (mode : Mode) → AsksOfFile words → Means words mode → AsksForFile mode
of_file_asked words mode asks means = subst AsksForFile (one_mode words asks.mode mode asks.means means) asks.of_file

-- and it can be carried out
pub runnable : (words : List (List ℕ)) (mode : Mode) → Means words mode → AsksForFile mode → IsRunnable mode
runnable words (Format layout cluster) means of = of
runnable words Upgrade means of = of
runnable words (Workload seed count) means of = (means.some, means.million)
runnable words case means of = tt

-- what is to be done is of the word: it opens or surveys a file
pub opens_file : (mode : Mode) → task_of mode ≡ task.Open → AsksForFile mode
opens_file (Format layout cluster) is = absurd (let no : task.Make (record { layout = layout; cluster = cluster }) ≡ task.Open = is in cc)
opens_file Upgrade is = absurd (let no : task.Upgrade ≡ task.Open = is in cc)
opens_file case is = tt

-- or it upgrades one
pub upgrades_file : (mode : Mode) → task_of mode ≡ task.Upgrade → mode ≡ Upgrade
upgrades_file (Format layout cluster) is = absurd (let no : task.Make (record { layout = layout; cluster = cluster }) ≡ task.Upgrade = is in cc)
upgrades_file Upgrade is = refl
upgrades_file case is = absurd (let no : task.Open ≡ task.Upgrade = is in cc)

-- and what makes one is `format`
pub makes_file : (mode : Mode) (file : NewFile) → task_of mode ≡ task.Make file → mode ≡ Format file.layout file.cluster
makes_file (Format layout cluster) file is = let made : NewFile = record { layout = layout; cluster = cluster } in
    let same : made ≡ file = cc is in λ i. Format (same i).layout (same i).cluster
makes_file Upgrade file is = absurd (let no : task.Upgrade ≡ task.Make file = is in cc)
makes_file case file is = absurd (let no : task.Open ≡ task.Make file = is in cc)

-- so words that make a file ask for nothing of one that is there, and for no upgrade
pub none_asked : (words : List (List ℕ)) (mode : Mode) (file : NewFile)
    → task_of mode ≡ task.Make file → Means words mode → (other : Mode) → Means words other → AsksForFile other → ⊥
none_asked words mode file is means other asks of =
    makes_alone words file.layout file.cluster other (subst (Means words) (makes_file mode file is) means) asks of

pub no_upgrade_asked : (words : List (List ℕ)) (mode : Mode) (file : NewFile)
    → task_of mode ≡ task.Make file → Means words mode → Means words Upgrade → ⊥
no_upgrade_asked words mode file is means asks =
    makes_none words file.layout file.cluster (subst (Means words) (makes_file mode file is) means) asks
