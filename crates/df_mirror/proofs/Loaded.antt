-- What a shelf holds of what was read, and a unit that is wanted is the theory's.
use Rattle.std.{proofs.{Common.{◌≡◌, ℕ, List, Option, Some, None, refl, sym, ◌∙◌, ap}, lemmas.Option.{same_Some}}, specs.Prelude.{IsSome}}
use Rattle.{df_base.specs.Image.{Image, IsImage}, df_disk.specs.Told.{Told}, df_opening.specs.Below.{DataFile}}
use Rattle.df_layout.specs.{declared.damage.Class.{Class}, declared.layout.Layout.{Layout}, declared.places.Zone.TheVariants.{Superblock}}
use Rattle.df_format.{specs.{declared.kind.Kind.{Kind}, declared.kind.Kind.TheVariants.{Block, Prepare, Reply, Reserved, Trailer}, Message.{Message}}, proofs.Laws.{shown_is_unit}}
use Rattle.df_format.specs.Shown
use Rattle.df_format.specs.Wanted as words
use Rattle.df_buffers.specs.{declared.identity.Identity.{Identity}, declared.identity.Wanted.TheVariants.{Checksum}, Rooms.{StandsIn}, Sounds.{Holding}}
use Rattle.df_places.specs.Shelves.{HoldsBlanked, HoldsFound, IsBlanked, IsFoundUnit, IsRead, shown_at}
use Rattle.df_theory.specs.Units.{AnyUnit, BlockPlace, CopyPlace, HeaderPlace, Place, PreparePlace, ReplyPlace}
use Rattle.df_units.{specs.{Bytes.{message_unit}, Meaning.{number_of, place_of, unit_of}, Wanted.{IsOfKind, checksum_of, class_at}}, proofs.Laws.{none_wanted, units_told}}
use Rattle.df_mirror.specs.{Known.{IsShownAs}, Mends.{units_shown}, Taking.{IsFor, ShowsUnit}}

-- ---- what a shelf holds

-- where nothing is wrong it holds the unit that is wanted
pub found_held : (kind : Kind) (identity : Identity) (shelf : Option Holding)
    → HoldsFound kind identity None shelf → (held : Holding) × (shelf ≡ Some held) × IsFoundUnit kind identity held.unit
found_held kind identity None found = absurd found
found_held kind identity (Some held) found = (held, refl, found)

pub held_some : (kind : Kind) (identity : Identity) (shelf : Option Holding) → HoldsFound kind identity None shelf → IsSome shelf
held_some kind identity None found = absurd found
held_some kind identity (Some held) found = refl

-- blanked, it holds the same one, with zeros after it
pub blanked_held : (layout : Layout) (shelf new : Option Holding) (held : Holding)
    → shelf ≡ Some held → HoldsBlanked layout shelf new → (blanked : Holding) × (new ≡ Some blanked) × IsBlanked layout held blanked
blanked_held layout None new held is holds = absurd holds
blanked_held layout (Some old) None held is holds = absurd holds
blanked_held layout (Some old) (Some blanked) held is holds = (blanked, refl, rw (same_Some _ _ is) at holds)

-- a unit that is shown is shown, whatever stands after it in the room
pub shown_still : (kind : Kind) (identity : Identity) (told : Option Told) (old new : Holding)
    → new.unit ≡ old.unit → IsRead kind identity told None (Some old) → IsRead kind identity told None (Some new)
shown_still kind identity None old new same read = tt
shown_still kind identity (Some t) old new same read = record { valid = read.valid; judges = read.judges ∙ ap Some (sym same) }

-- the class of what is shown doesn't hang on what is held
pub lacks_none : (kind : Kind) (identity : Identity) (told : Option Told) (class : Class) (shelf : Option Holding)
    → IsRead kind identity told (Some class) shelf → IsRead kind identity told (Some class) None
lacks_none kind identity None class shelf read = tt
lacks_none kind identity (Some t) class shelf read = record { valid = read.valid; judges = read.judges }

-- ---- the theory's unit

-- no unit stands whole among the copies
no_copy : (kind : Kind) → StandsIn kind Superblock → ⊥
no_copy Reserved stands = stands
no_copy Prepare stands = stands
no_copy Reply stands = stands
no_copy Block stands = stands
no_copy Trailer stands = stands

-- a place that isn't of the copies shows the unit that its message is
message_at : (file : DataFile) (image : Image) (at : Place) (kind : Kind) → StandsIn kind (place_of at).zone
    → units_shown file image at ≡ message_unit at (Shown.unit_at file.layout file.cluster image (place_of at))
message_at file image (CopyPlace n) kind stands = absurd (no_copy kind stands)
message_at file image (HeaderPlace s) kind stands = refl
message_at file image (PreparePlace s) kind stands = refl
message_at file image (ReplyPlace k) kind stands = refl
message_at file image (BlockPlace a) kind stands = refl

-- a message there is a unit
some_unit : (at : Place) (u : Message) (kind : Kind) → StandsIn kind (place_of at).zone → (x : AnyUnit) × (unit_of at u ≡ Some x)
some_unit (CopyPlace n) u kind stands = absurd (no_copy kind stands)
some_unit (HeaderPlace s) u kind stands = (_, refl)
some_unit (PreparePlace s) u kind stands = (_, refl)
some_unit (ReplyPlace k) u kind stands = (_, refl)
some_unit (BlockPlace a) u kind stands = (_, refl)

-- the unit that a message is at the place: of the kind, and with the checksum
pub record IsUnitOf (kind : Kind) (at : Place) (check : List ℕ) (u : Message) : Type 0 where
  pub unit : AnyUnit
  pub unit_is : unit_of at u ≡ Some unit
  pub of_kind : IsOfKind kind unit
  pub sum_is : checksum_of unit ≡ number_of check

module _ (file : DataFile) (kind : Kind) (at : Place) (check : List ℕ) (identity : Identity) (for : IsFor file kind at check identity) where
  pub found_unit : (u : Message) → IsFoundUnit kind identity u → IsUnitOf kind at check u
  found_unit u found = let some = some_unit at u kind for.stands in
      let own : IsFoundUnit kind (record { layout = file.layout; cluster = file.cluster; place = place_of at; wanted = Checksum check }) u =
      rw for.is at found in let told = units_told file.layout file.cluster at kind (words.Checksum check) u some.0 for.fits own.is some.1 in
      record { unit = some.0; unit_is = some.1; of_kind = told.of_kind.0 own.of_kind; sum_is = told.is_wanted.0 own.wanted }

  -- the unit that is wanted, where an image shows it
  pub shows_unit : (image : Image) (u : Message)
      → shown_at identity image ≡ Some u → IsFoundUnit kind identity u → ShowsUnit file kind at check image u
  shows_unit image u shown found = let is = found_unit u found in
      let here : Shown.unit_at file.layout file.cluster image (place_of at) ≡ Some u = rw for.is at shown in
      record { unit = is.unit; unit_is = is.unit_is; shown = message_at file image at kind for.stands ∙ ap (message_unit at) here ∙ is.unit_is; of_kind = is.of_kind; sum_is = is.sum_is }

  -- and where it shows none that is wanted
  pub lacks_unit : (image : Image) → IsImage image → ((u : Message) → shown_at identity image ≡ Some u → IsFoundUnit kind identity u → ⊥)
      → IsShownAs (units_shown file image) kind at (number_of check) → ⊥
  lacks_unit image whole none shown = let own = rw for.is at none in
      none_wanted file.layout file.cluster image at kind (words.Checksum check) whole for.fits
      (λ u is of_kind wanted. own u is (record { is = shown_is_unit file.layout file.cluster image (place_of at) u whole is; of_kind = of_kind; wanted = wanted })) shown.unit shown.shown shown.of_kind shown.sum_is

  -- the class that was answered
  pub class_is : (image : Image) (class : Class)
      → class ≡ Shown.class_at identity.layout identity.cluster image identity.place → class ≡ class_at file.layout file.cluster image at
  class_is image class is = is ∙ ap (λ (i : Identity). Shown.class_at i.layout i.cluster image i.place) for.is ∙ there at for.stands
    where
      there : (p : Place) → StandsIn kind (place_of p).zone
          → Shown.class_at file.layout file.cluster image (place_of p) ≡ class_at file.layout file.cluster image p
      there (CopyPlace n) stands = absurd (no_copy kind stands)
      there (HeaderPlace s) stands = refl
      there (PreparePlace s) stands = refl
      there (ReplyPlace k) stands = refl
      there (BlockPlace a) stands = refl
