-- What the words of the command line ask for.
use Rattle.std.specs.Prelude.{◌≡◌, ◌<◌, ◌≤◌, ◌^◌, ℕ, List, [], ◌∷◌, codes, decimal}
use Rattle.df_layout.specs.declared.layout.Layout.{Layout}
use Rattle.df_pace.specs.{Beats.{idle}, declared.pace.Pace.{Pace}}
use Rattle.df_program.specs.Names.{NamesLayout}
use Rattle.df_top.specs.{declared.mode.Mode.{Mode}, declared.mode.Mode.TheVariants.{Format, Run, Recover, Inspect, Scrub, Workload, Upgrade, Paced}, declared.mode.Task.{Task}}
use Rattle.df_top.specs.declared.mode.Task.TheVariants.{Make, Open}
use Rattle.df_top.specs.declared.mode.Task.TheVariants as task

-- the words of `format`: the name of the layout, and the cluster in decimal
pub record SpellsFormat (words : List (List ℕ)) (layout : Layout) (cluster : ℕ) : Type 0 where
  pub name : List ℕ
  pub is : words ≡ codes "format" ∷ name ∷ decimal cluster ∷ []
  pub names : NamesLayout name layout
  pub cluster_fits : cluster < 2 ^ 128

-- the words of `workload`: the seed and the number of rounds in decimal
pub record SpellsWorkload (words : List (List ℕ)) (seed count : ℕ) : Type 0 where
  pub is : words ≡ codes "workload" ∷ decimal seed ∷ decimal count ∷ []
  pub seed_fits : seed < 2 ^ 64
  pub some : 1 ≤ count
  pub million : count ≤ 1000000

-- the words of `paced`: in decimal how much of the scrubber, after how many appends a checkpoint, and how many of its steps
pub record SpellsPaced (words : List (List ℕ)) (pace : Pace) : Type 0 where
  pub is : words ≡ codes "paced" ∷ decimal pace.scrub ∷ decimal pace.every ∷ decimal pace.steps ∷ []
  pub scrub : pace.scrub ≤ 64
  pub every : pace.every ≤ 64
  pub steps : pace.steps ≤ 64

-- the words ask for this
abbrev pub Means : List (List ℕ) → Mode → Type 0
Means words Run = words ≡ codes "run" ∷ []
Means words Recover = words ≡ codes "recover" ∷ []
Means words Inspect = words ≡ codes "inspect" ∷ []
Means words Scrub = words ≡ codes "scrub" ∷ []
Means words (Workload seed count) = SpellsWorkload words seed count
Means words Upgrade = words ≡ codes "upgrade" ∷ []
Means words (Paced pace) = SpellsPaced words pace
Means words (Format layout cluster) = SpellsFormat words layout cluster

-- words ask for one thing at most
abbrev pub OneMeaning : Type 0
OneMeaning = (words : List (List ℕ)) (one other : Mode) → Means words one → Means words other → one ≡ other

-- what is asked for opens a file that is there, or surveys it: none is made, and none is brought to another version
abbrev pub AsksForFile : Mode → Type 0
AsksForFile (Format layout cluster) = ⊥
AsksForFile Upgrade = ⊥
AsksForFile mode = Unit {0}

-- it can be carried out on one: a generated run has a round at least, and no more rounds than the words may ask for
abbrev pub IsRunnable : Mode → Type 0
IsRunnable (Format layout cluster) = ⊥
IsRunnable Upgrade = ⊥
IsRunnable (Workload seed count) = (1 ≤ count) × (count ≤ 1000000)
IsRunnable mode = Unit {0}

-- what is to be done for it: a file is made, or one of version 1 is upgraded, or one is opened or surveyed
abbrev pub task_of : Mode → Task
task_of (Format layout cluster) = Make (record { layout = layout; cluster = cluster })
task_of Upgrade = task.Upgrade
task_of mode = Open

-- the words ask for a word that opens a file, or surveys it
pub record AsksOfFile (words : List (List ℕ)) : Type 0 where
  pub mode : Mode
  pub means : Means words mode
  pub of_file : AsksForFile mode

-- it executes a script, with work of this pace beside it
abbrev pub Executes : Mode → Pace → Type 0
Executes Run pace = pace ≡ idle
Executes (Paced given) pace = pace ≡ given
Executes mode pace = ⊥

-- it executes a script
abbrev pub ReadsScript : Mode → Type 0
ReadsScript mode = (pace : Pace) × Executes mode pace

-- the words ask for a script to be executed
abbrev pub AsksScript : List (List ℕ) → Type 0
AsksScript words = (mode : Mode) × Means words mode × ReadsScript mode

-- the words have no meaning
abbrev pub MeansNothing : List (List ℕ) → Type 0
MeansNothing words = (command : Mode) → Means words command → ⊥
