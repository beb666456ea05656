-- The begin of a checkpoint: what it captures, and the state that it leads to. No state of the machine is in sight.
use Rattle.std.specs.Prelude.{◌≡◌, ◌<◌, ◌≤◌, ◌+◌, ◌-◌, ℕ, List, length, take, Option, Some, None, Result, Ok, Err}
use Rattle.df_base.specs.declared.TheConstants.{GREATEST, HEADER}
use Rattle.df_theory.specs.Trailer.{IsCount, greatest_trailer}
use Rattle.df_units.specs.Meaning.{layout_of}
use Rattle.df_model.specs.{Blocks.{blocks_captured}, Making.{needed_of, parts_of}, Memory.{free_of}, Refusals.{begin_refusals, first_refusal}, declared.errors.BeginError.{BeginError}}
use Rattle.df_opening.specs.Below.{RunningState, State, memory, spelling}
use Rattle.df_replica.specs.declared.begin.Plan.{Plan}

-- the text of the trailer of a checkpoint that is begun now, and how many blocks it needs
abbrev pub text_to_write : State → List ℕ → List ℕ
text_to_write s root = spelling s.file (parts_of (memory s) root)

abbrev pub needed : State → List ℕ → ℕ
needed s root = needed_of (spelling s.file) (memory s) root

-- why it isn't begun
abbrev pub begin_refusal : State → List ℕ → Option BeginError
begin_refusal s root = first_refusal (begin_refusals (memory s) (needed s root) root)

-- it captures the head and the sessions, and the grid the live blocks; its trailer takes the least addresses that are free
abbrev pub captured : State → List ℕ → RunningState
captured s root = record {
  op = s.head;
  op_checksum = s.head_checksum;
  root = root;
  sessions = s.table.sessions;
  sequence = s.fields.sequence + 1;
  size = length (text_to_write s root);
  blocks = needed s root;
  written = 0;
}

-- the state with a checkpoint that runs
abbrev pub with_checkpoint_begun : State → List ℕ → State
with_checkpoint_begun s root = record s { blocks = blocks_captured s.blocks (take (needed s root) (free_of (memory s))); running = Some (captured s root) }

-- how long the trailer is to be
pub record IsPlan (s : State) (root : List ℕ) (plan : Plan) : Type 0 where
  pub size : plan.size ≡ length (text_to_write s root)
  pub blocks : plan.blocks ≡ needed s root
  pub some : 0 < plan.size
  pub longest : plan.size ≤ greatest_trailer (layout_of s.file.layout)
  pub count : IsCount (s.file.layout.block_size - HEADER) plan.size plan.blocks
  pub few : plan.blocks ≤ 70

-- a begin that isn't refused, as far as the code needs it
pub record MayBeginCheckpoint (s : State) (root : List ℕ) (plan : Plan) : Type 0 where
  pub planned : IsPlan s root plan
  pub idle : s.running ≡ None
  pub short : length root ≤ 1024
  pub free : needed s root ≤ length (free_of (memory s))
  pub unspent : s.fields.sequence < GREATEST

-- what the tests of a begin answer
abbrev pub IsTested : State → List ℕ → Result Plan BeginError → Type 0
IsTested s root (Ok plan) = (begin_refusal s root ≡ None) × MayBeginCheckpoint s root plan
IsTested s root (Err e) = begin_refusal s root ≡ Some e

-- what a begin answers, with the state after it: how many blocks the trailer needs, or the first reason that refuses it
abbrev pub IsBegin : List ℕ → (s t : State) → Result ℕ BeginError → Type 0
IsBegin root s t (Ok blocks) = (begin_refusal s root ≡ None) × (blocks ≡ needed s root) × (t ≡ with_checkpoint_begun s root)
IsBegin root s t (Err e) = (begin_refusal s root ≡ Some e) × (t ≡ s)
