-- What the superblock says that ends a checkpoint obeys the rules, and the state after it makes sense.
use Rattle.std.proofs.{Common.{◌≡◌, ℕ, ◌+◌, ◌*◌, ◌/◌, ◌≤◌, List, [], ◌∷◌, Some, None, refl, sym, ◌∙◌, ap, subst, arith}, lemmas.Option.{same_Some}}
use Rattle.{df_base.specs.Fields.{spelled}, df_sessions.specs.Table.{IsSessionTable}, df_theory.specs.Trailer.{greatest_trailer}}
use Rattle.df_format.{proofs.Laws.{faults}, specs.{Spelling.{IsCheck}, SuperRules.{IsSuper, IsUsable, fault_of}, declared.superblock.SuperFields.{SuperFields}}}
use Rattle.{df_model.specs.Blocks.{Blocks}, df_units.{specs.Meaning.{layout_of, number_of}, proofs.Laws.{whole_check}}}
use Rattle.df_grid.specs.{Table.{last_trailer_block}, Writes.{first_address, first_sum}}
use Rattle.df_opening.{specs.Below.{IsLevel, IsRunningCheckpoint, IsState, MayRecord, RunningState, State}, proofs.Laws.{recorded_is_super, second_as, staging_on}}
use Rattle.df_replica.specs.Stepping.{captured_fields, finished, next_fields}

-- the last trailer block is the first of those that are listed
first_pair : (written : List (ℕ × ℕ)) (left : List ℕ) (address sum : ℕ)
    → left ≡ [] → Some (address, sum) ≡ last_trailer_block left written → (first_address written ≡ address) × (first_sum written ≡ sum)
first_pair written (a ∷ more) address sum done is = absurd (cc)
first_pair [] [] address sum done is = absurd (cc)
first_pair (x ∷ xs) [] address sum done is = let same : (address, sum) ≡ x = same_Some _ _ is in
    (ap (λ (y : ℕ × ℕ). y.0) (sym same), ap (λ (y : ℕ × ℕ). y.1) (sym same))

-- by its own checksum
pub last_is : (b : Blocks) (address : ℕ) (checksum : List ℕ)
    → b.left ≡ [] → Some (address, number_of checksum) ≡ last_trailer_block b.left b.written → IsCheck checksum
    → (first_address b.written ≡ address) × (first_sum b.written ≡ number_of checksum) × (checksum ≡ spelled 16 (first_sum b.written))
last_is b address checksum done is whole = let pair = first_pair b.written b.left address (number_of checksum) done is in
    (pair.0, pair.1, sym (whole_check checksum whole) ∙ ap (spelled 16) (sym pair.1))

-- ---- what the superblock says

module _ (s : State) (r : RunningState) (is : IsState s) (table : IsSessionTable s.table) (super : IsSuper s.fields)
    (runs : IsRunningCheckpoint s.file s.fields s.head s.blocks r) (level : IsLevel s.head s.head_checksum (Some r))
    (some : 1 ≤ first_address s.blocks.written) (inside : first_address s.blocks.written ≤ s.file.layout.blocks) where
  abbrev f : SuperFields
  f = captured_fields s.fields r (first_address s.blocks.written) (spelled 16 (first_sum s.blocks.written))

  -- the longest trailer of the layout is that of the superblock
  longest : greatest_trailer (layout_of s.file.layout) ≡ 4 + 1024 + 4 + 32 * s.fields.clients + (s.fields.blocks + 7) / 8 + 16 * s.fields.blocks
  longest = λ i. 4 + 1024 + 4 + 32 * sym is.second.of.clients i + (sym is.second.of.blocks i + 7) / 8 + 16 * sym is.second.of.blocks i

  may : MayRecord s f
  may = record {
    version = is.second.rules.version;
    boot = is.second.rules.boot;
    layout = super.layout;
    places = is.second.of.clients;
    cluster = super.cluster;
    sequence = (omega (arith, runs.sequence.0), runs.sequence.1);
    op = runs.op_to;
    room = omega (arith, is.room, runs.op_from, is.second.of.slots);
    op_checksum = runs.first;
    level = level;
    trailer = (omega (arith, inside, is.second.of.blocks), λ other none. omega (arith, some, none));
    trailer_checksum = λ none. absurd (omega (arith, some, none));
    no_trailer = λ none. absurd (omega (arith, some, none));
    trailer_size = λ other. (runs.fits.0, subst (λ (n : ℕ). r.size ≤ n) longest runs.fits.1);
    zero = is.second.first_nonzero;
  }

  pub no_fault : fault_of (next_fields s r) ≡ None
  no_fault = (faults (next_fields s r)).1 (recorded_is_super s f is table may)

-- ---- the state in which the checkpoint is the durable one

pub finished_sense : (s : State) (r : RunningState) → IsState s → IsRunningCheckpoint s.file s.fields s.head s.blocks r
    → IsLevel s.head s.head_checksum (Some r) → IsUsable (next_fields s r) → IsState (finished s r)
finished_sense s r is runs level usable = record {
  in_file = record {
    cluster = is.cluster;
    version = is.version;
    second = second_as s.file s.fields (next_fields s r) is.second refl is.second.rules.version usable;
    sequence = (omega (arith, runs.sequence.0), runs.sequence.1);
    root = runs.root;
    ring = is.ring;
  };
  booted = is.booted;
  ends = record { parent = is.parent; order = runs.op_to; room = omega (arith, is.room, runs.op_from); head_to = is.head_to; first = is.first; level = level };
  awaits = is.awaits;
  staging = staging_on s (finished s r) refl refl refl runs.op_from (omega arith) refl is.staging;
  captured = tt;
  course = record { captured = refl; written = refl; left = refl };
}
