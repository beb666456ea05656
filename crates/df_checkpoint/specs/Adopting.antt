-- What the grid holds of a checkpoint that was read.
use Rattle.std.specs.{Prelude.{◌≡◌, ◌+◌, ◌-◌, ◌<◌, ℕ, true, List, [], map, Option, Some, None, Result, Ok, Err}, List.{range_with_len}}
use Rattle.df_layout.specs.declared.fields.Field.TheVariants.{TrailerChain}
use Rattle.df_model.specs.{Blocks.{Blocks, entries}, Work.{is_known}}
use Rattle.df_units.specs.Meaning.{number_of}
use Rattle.df_trailer.specs.{declared.reader.Reader.{Reader}, Reading.{kept_at}}
use Rattle.df_grid.specs.Grid.{GridState, HasAddress, with_blocks}
use Rattle.df_checkpoint.specs.{declared.links.Link.{Link}, declared.fault.TrailerFault.{TrailerFault}, declared.fault.TrailerFault.TheVariants.{Damaged, BadField, DiskFault}, Chain.{is_among}}

-- the referenced blocks at the addresses below one are live and of the durable checkpoint
abbrev pub blocks_to : (ℕ → Option ℕ) → ℕ → Blocks
blocks_to said address = record {
  live = entries said (range_with_len 1 (address - 1));
  captured = [];
  written = [];
  left = [];
  durable = entries said (range_with_len 1 (address - 1));
  chain = [];
}

-- an address with its checksum
abbrev pub link_pair : Link → ℕ × ℕ
link_pair link = (link.address, number_of link.checksum)

-- and these are the trailer's blocks, from the last to the first
abbrev pub chained : Blocks → List Link → Blocks
chained b refs = record b { chain = map link_pair refs }

-- the layout, the cluster and the boot are the same
pub record SameFile (old new : GridState) : Type 0 where
  pub layout : new.layout ≡ old.layout
  pub cluster : new.cluster ≡ old.cluster
  pub boot : new.boot ≡ old.boot

-- of the addresses of the chain this is the least one that is referenced
pub record IsFirstReferenced (reader : Reader) (refs : List Link) (at : ℕ) : Type 0 where
  pub chained : is_among at refs ≡ true
  pub known : is_known (kept_at reader at) ≡ true
  pub least : (a : ℕ) → a < at → is_among a refs ≡ true → kept_at reader a ≡ None

-- this is the least one, or none of them is referenced
abbrev pub FirstAnswer : Reader → List Link → Option ℕ → Type 0
FirstAnswer reader refs (Some at) = IsFirstReferenced reader refs at
FirstAnswer reader refs None = (a : ℕ) → is_among a refs ≡ true → kept_at reader a ≡ None

-- the address is one of the chain's and is referenced, and it is the least one
pub record LiveRefused (g : GridState) (reader : Reader) (refs : List Link) (at : ℕ) : Type 0 where
  pub inside : HasAddress g at
  pub chained : is_among at refs ≡ true
  pub known : is_known (kept_at reader at) ≡ true
  pub least : (a : ℕ) → HasAddress g a → a < at → is_among a refs ≡ true → kept_at reader a ≡ None

-- of any reader: what it keeps is adopted, and none of the chain is referenced, or this is the least one that is
abbrev pub AdoptAnswer : GridState → GridState → Reader → List Link → Result (Unit {0}) TrailerFault → Type 0
AdoptAnswer old new reader refs (Ok x) =
    (new ≡ with_blocks old (chained (blocks_to (kept_at reader) (old.layout.blocks + 1)) refs)) × ((a : ℕ) → HasAddress old a → is_among a refs ≡ true → kept_at reader a ≡ None)
AdoptAnswer old new reader refs (Err (BadField field value)) = (field ≡ TrailerChain) × (SameFile old new) × LiveRefused old reader refs value
AdoptAnswer old new reader refs (Err (Damaged address class)) = ⊥
AdoptAnswer old new reader refs (Err DiskFault) = ⊥
