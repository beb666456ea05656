-- What a read finds in a room is what the machine finds at the place.
use Rattle.std.{proofs.{Common.{◌≡◌, ◌==◌, ℕ, zero, suc, ◌+◌, ◌-◌, ◌%◌, ◌<◌, ◌≤◌, Bool, true, false, ◌&&◌, nat_lt, not, Option, Some, None, List, map, refl, sym, ap, ◌∙◌, arith, eq-eqb, eqb-true}, lemmas.Bool.Decides.{nat_tests}}, specs.{Prelude.{Result, Ok, Err, nat_le}, List.{range_with_len, slice_get}}}
use Rattle.{df_base.specs.Image.{Image}, df_disk.specs.Told.{Told}, df_theory.specs.Units.{PreparePlace}}
use Rattle.df_layout.specs.{declared.damage.Class.{Class}, declared.damage.Class.TheVariants.{Stale}, declared.layout.Layout.{Layout}, declared.places.Place.{Place}, declared.places.Zone.TheVariants.{WalPrepares}}
use Rattle.df_format.{specs.{declared.header.Header.{Header}, declared.kind.Kind.{Kind}, declared.kind.Kind.TheVariants.{Prepare}, Message.{Message}, Own.{place_in}, Spelling.{IsCheck}, Valid.{IsInSlot, IsUnit}}, proofs.Laws.{valid_belongs, shown_stale}}
use Rattle.df_format.specs.Shown
use Rattle.df_buffers.specs.{declared.identity.Identity.{Identity}, declared.identity.Wanted.TheVariants.{Checksum}, Sounds.{Holding}}
use Rattle.df_theory.specs.Units
use Rattle.df_units.{specs.{Bytes.{message_unit}, Meaning.{message_of, number_of}}, proofs.Laws.{one_number, sealed_check}}
use Rattle.df_model.{specs.{Commands.{ReadPrepare}, Refusals.{first_refusal, prepare_refusals}, Supply.{class_or, given_if, is_sum, prepare_at, prepare_given}}, proofs.Laws.{all_pass}}
use Rattle.df_model.specs.Memory as memory
use Rattle.df_places.specs.Shelves.{IsFoundUnit, IsOf, IsRead}
use Rattle.df_opening.specs.Below.{DataFile, State, memory, prepare_sum, sum_of_header}
use Rattle.df_replica.specs.Reading.{IsFoundBy, IsKnownUnit, check_in, prepare_wanted, shown_of}

-- ---- the message that an image shows

-- what is found where this message is shown, or none with this class
abbrev pub given : Option ℕ → Option Message → Class → Result Units.Message Class
given known None class = Err class
given known (Some u) class = given_if (is_sum known (number_of u.header.checksum)) (message_of u) Stale

prepare_case : (known : Option ℕ) (slot : ℕ) (o : Option Message) (class : Class)
    → prepare_given known (message_unit (PreparePlace slot) o) (class_or (message_unit (PreparePlace slot) o) class) ≡ given known o class
prepare_case known slot None class = refl
prepare_case known slot (Some u) class = refl

prepare_image : (file : DataFile) (image : Image) (known : Option ℕ) (slot : ℕ)
    → prepare_at (shown_of file image) known slot ≡ given known (Shown.unit_at file.layout file.cluster image (place_in WalPrepares slot))
    (Shown.class_at file.layout file.cluster image (place_in WalPrepares slot))
prepare_image file image known slot = prepare_case known slot (Shown.unit_at file.layout file.cluster image (place_in WalPrepares slot))
    (Shown.class_at file.layout file.cluster image (place_in WalPrepares slot))

abbrev pub wanted_at : Layout → ℕ → Place → List ℕ → Identity
wanted_at layout cluster place check = record { layout = layout; cluster = cluster; place = place; wanted = Checksum check }

module _ (layout : Layout) (cluster : ℕ) (place : Place) (check : List ℕ)
    (kind : Kind) (image : Image) (fits : IsCheck check) (only : (u : Message) → IsUnit layout cluster place u → u.header.kind ≡ kind) where
  abbrev there : Option Message → Result Units.Message Class
  there o = given (Some (number_of check)) o (Shown.class_at layout cluster image place)

  -- the unit that is held is found
  pub held_given : (h : Holding) → IsFoundUnit kind (wanted_at layout cluster place check) h.unit → IsOf kind
      (wanted_at layout cluster place check) image None (Some h) → Ok (message_of h.unit) ≡ there (Shown.unit_at layout cluster image place)
  held_given h found read = let same : (number_of h.unit.header.checksum == number_of check) ≡ true =
      eq-eqb (number_of h.unit.header.checksum) (number_of check) (ap number_of found.wanted) in
      sym (ap there read.judges ∙ ap (λ (b : Bool). given_if b (message_of h.unit) Stale) same)

  -- where none is held, the class is
  lacks_case : (class : Class) (held : Option Holding) → IsOf kind (wanted_at layout cluster place check) image (Some class) held
      → (o : Option Message) → Shown.unit_at layout cluster image place ≡ o → Err class ≡ there o
  lacks_case class held read None shown = ap Err read.judges.1
  lacks_case class held read (Some u) shown = ap Err (read.judges.1 ∙ shown_stale layout cluster image place u shown)
      ∙ sym (go (number_of u.header.checksum == number_of check) refl)
    where
      go : (b : Bool) → (number_of u.header.checksum == number_of check) ≡ b → given_if b (message_of u) Stale ≡ Err Stale
      go false differs = refl
      go true same = let is = read.valid u shown in let wanted : u.header.checksum ≡ check = one_number
          u.header.checksum check (sealed_check u.header is.sealed) fits (eqb-true (number_of u.header.checksum) (number_of check) same) in
          absurd (read.judges.0 u shown (record { is = is; of_kind = only u is; wanted = wanted }))

  pub lacks_given : (class : Class) (held : Option Holding) → IsOf kind (wanted_at layout cluster place check) image (Some class) held
      → Err class ≡ there (Shown.unit_at layout cluster image place)
  lacks_given class held read = lacks_case class held read (Shown.unit_at layout cluster image place) refl

-- ---- the checksum that is known of a prepare

range_at : (f : ℕ → ℕ) (a n i : ℕ) → i < n → slice_get (map f (range_with_len a n)) i ≡ Some (f (a + i))
range_at f a zero i less = absurd (omega arith)
range_at f a (suc n) zero less = ap (λ (k : ℕ). Some (f k)) (let same : a ≡ a + 0 = omega arith in same)
range_at f a (suc n) (suc i) less =
    range_at f (a + 1) n i (omega arith) ∙ ap (λ (k : ℕ). Some (f k)) (let same : (a + 1) + i ≡ a + suc i = omega arith in same)

is_kept : (b n : ℕ) (op : ℕ) → not (nat_lt b op && nat_le op n) ≡ false → (b < op) × (op ≤ n)
is_kept b n op is = (grind (arith, nat_tests), grind (arith, nat_tests))

-- an op that isn't refused is above the checkpoint's, up to the head
pub kept_op : (s : State) (op : ℕ) → first_refusal (prepare_refusals (memory s) op) ≡ None → (s.fields.op < op) × (op ≤ s.head)
kept_op s op none = is_kept s.fields.op s.head op (all_pass (prepare_refusals (memory s) op) none).0

sum_is : (o : Option Header) → IsCheck (check_in o) → sum_of_header o ≡ number_of (check_in o)
sum_is None fits = absurd (omega (arith, fits.size))
sum_is (Some h) fits = refl

pub sum_known : (s : State) (op : ℕ)
    → first_refusal (prepare_refusals (memory s) op) ≡ None → IsCheck (check_in (slice_get s.headers (op % s.file.layout.slots)))
    → memory.prepare_sum (memory s) op ≡ Some (number_of (check_in (slice_get s.headers (op % s.file.layout.slots))))
sum_known s op none fits = let kept = kept_op s op none in
    let at : slice_get (map (prepare_sum s) (range_with_len (s.fields.op + 1) (s.head - s.fields.op))) (op - s.fields.op - 1)
    ≡ Some (prepare_sum s (s.fields.op + 1 + (op - s.fields.op - 1))) =
    range_at (prepare_sum s) (s.fields.op + 1) (s.head - s.fields.op) (op - s.fields.op - 1) (omega (arith, kept.0, kept.1)) in
    at ∙ ap (λ (k : ℕ). Some (prepare_sum s k)) (let same : s.fields.op + 1 + (op - s.fields.op - 1) ≡ op = omega (arith, kept.0) in same)
    ∙ ap (λ (n : ℕ). Some n) (sum_is (slice_get s.headers (op % s.file.layout.slots)) fits)

only_prepares : (layout : Layout) (cluster slot : ℕ) (u : Message)
    → IsUnit layout cluster (place_in WalPrepares slot) u → u.header.kind ≡ Prepare
only_prepares layout cluster slot u is =
    let in_slot : IsInSlot layout slot u.header = (valid_belongs layout cluster (place_in WalPrepares slot) u is).belongs in in_slot.kind

-- ---- a prepare

module _ (s : State) (op : ℕ) (none : first_refusal (prepare_refusals (memory s) op) ≡ None)
    (fits : IsCheck (check_in (slice_get s.headers (op % s.file.layout.slots)))) where
  abbrev slot : ℕ
  slot = op % s.file.layout.slots

  abbrev check : List ℕ
  check = check_in (slice_get s.headers slot)

  found_at : (image : Image) → prepare_at (shown_of s.file image) (memory.prepare_sum (memory s) op) slot
      ≡ given (Some (number_of check)) (Shown.unit_at s.file.layout s.file.cluster image (place_in WalPrepares slot))
      (Shown.class_at s.file.layout s.file.cluster image (place_in WalPrepares slot))
  found_at image = ap (λ (known : Option ℕ). prepare_at (shown_of s.file image) known slot) (sum_known s op none fits)
      ∙ prepare_image s.file image (Some (number_of check)) slot

  pub prepare_found_by : (told : Option Told) (h : Holding) → IsFoundUnit Prepare (prepare_wanted s.file s.headers op) h.unit
      → IsRead Prepare (prepare_wanted s.file s.headers op) told None (Some h) → IsFoundBy s (ReadPrepare op) told (Ok (message_of h.unit))
  prepare_found_by None h found read = tt
  prepare_found_by (Some t) h found read = held_given s.file.layout s.file.cluster (place_in WalPrepares slot)
      check Prepare t.shown fits (only_prepares s.file.layout s.file.cluster slot) h found read ∙ sym (found_at t.shown)

  pub prepare_lacks_by : (told : Option Told) (class : Class) (held : Option Holding)
      → IsRead Prepare (prepare_wanted s.file s.headers op) told (Some class) held → IsFoundBy s (ReadPrepare op) told (Err class)
  prepare_lacks_by None class held read = tt
  prepare_lacks_by (Some t) class held read = lacks_given s.file.layout s.file.cluster (place_in WalPrepares slot)
      check Prepare t.shown fits (only_prepares s.file.layout s.file.cluster slot) class held read ∙ sym (found_at t.shown)

  -- the unit that is lent is the one that is known
  pub prepare_known : (h : Holding) → IsFoundUnit Prepare (prepare_wanted s.file s.headers op) h.unit
      → IsKnownUnit Prepare s.file (place_in WalPrepares slot) (memory.prepare_sum (memory s) op) h.unit
  prepare_known h found = record { is = found.is; of_kind = found.of_kind; sum = sum_known s op none fits ∙ ap (λ (b : List ℕ). Some (number_of b)) (sym found.wanted) }
