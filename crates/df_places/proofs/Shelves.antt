-- What was read into a room is what the disk shows at the place.
use Rattle.std.{proofs.{Common.{◌≡◌, ◌≢◌, ℕ, List, ◌++◌, length, take, drop, arith, Option, Some, None, refl, sym, ◌∙◌, ap, subst}, lemmas.Grind.{common_steps}}, specs.Prelude.{Result}}
use Rattle.{df_base.specs.Fields.{AreBytes}, df_disk.specs.Told.{Shows, Told}}
use Rattle.df_layout.specs.{declared.damage.Class.{Class}, declared.layout.Layout.{Layout}, declared.places.Place.{Place}, declared.places.Zone.{Zone}, declared.places.Zone.TheVariants.{Superblock, WalHeaders, WalPrepares, ClientReplies, Grid}, Spans.{span_of}}
use Rattle.df_format.{specs.{declared.{kind.Kind.{Kind}, header.Header.{Header}}, Message.{Message}, Shown.{bytes_of, class_at, class_of, header_or_class, unit_at, unit_in}, UnitLaws.{place_size}}, proofs.Laws.{one_unit}}
use Rattle.df_buffers.{specs.{declared.identity.Identity.{Identity}, Found.{FindsKind, IsValidUnit, class_for}, Rooms.{FillsRoom, StandsIn, room_size}, Sounds.{Holding}}, proofs.Laws.{is_no_ring}}
use Rattle.df_places.{specs.{Shelves.{IsRead, shown_at}, Units.{IsThere as IsThereSeen}}, proofs.Rooms.{place_part, read_part}}

-- bytes that were lent and not written are as they were
pub unwritten : (w bytes : List ℕ) → w ≡ bytes → take (length bytes) (w ++ drop (length w) bytes) ≡ bytes
unwritten w bytes same = ap (λ (b : List ℕ). take (length bytes) (b ++ drop (length b) bytes)) same ∙ whole bytes
  where
    whole : (b : List ℕ) → take (length b) (b ++ drop (length b) b) ≡ b
    whole b = grind (arith, common_steps)

sizes : (layout : Layout) (zone : Zone) → zone ≢ WalHeaders → room_size layout zone ≡ place_size layout zone
sizes layout WalHeaders alone = absurd (alone refl)
sizes layout Superblock alone = refl
sizes layout WalPrepares alone = refl
sizes layout ClientReplies alone = refl
sizes layout Grid alone = refl

-- a room has the bytes of a place of its zone
pub fills_place : (kind : Kind) (zone : Zone) (layout : Layout) (place : Place) (bytes : List ℕ)
    → StandsIn kind zone → place.zone ≡ zone → FillsRoom layout zone bytes → length bytes ≡ place_size layout place.zone
fills_place kind zone layout place bytes stands in_zone fills =
    fills ∙ sizes layout zone (is_no_ring kind zone stands) ∙ ap (λ (z : Zone). place_size layout z) (sym in_zone)

module _ (kind : Kind) (zone : Zone) (identity : Identity) (bytes : List ℕ)
    (stands : StandsIn kind zone) (in_zone : identity.place.zone ≡ zone) (fills : FillsRoom identity.layout zone bytes) where
  -- the bytes that were read are those of the place
  of_place : (t : Told)
      → Shows (Some t) (span_of identity.layout identity.place).first bytes → bytes ≡ bytes_of identity.layout t.shown identity.place
  of_place t shows = read_part identity.layout t.shown identity.place zone bytes (is_no_ring kind zone stands) in_zone fills shows
      ∙ place_part identity.layout t.shown identity.place (rw (sym in_zone) at (is_no_ring kind zone stands))

  unit_shown : (t : Told) → Shows (Some t) (span_of identity.layout identity.place).first bytes
      → unit_in identity.layout identity.cluster identity.place bytes ≡ shown_at identity t.shown
  unfolding unit_at
  unit_shown t shows = ap (unit_in identity.layout identity.cluster identity.place) (of_place t shows)

  class_shown : (t : Told) → Shows (Some t) (span_of identity.layout identity.place).first bytes
      → class_for identity bytes ≡ class_at identity.layout identity.cluster t.shown identity.place
  unfolding class_at
  class_shown t shows = ap (class_of identity.layout identity.cluster identity.place) (of_place t shows)

  all_valid : (t : Told) → AreBytes bytes → Shows (Some t) (span_of identity.layout identity.place).first bytes
      → (u : Message) → shown_at identity t.shown ≡ Some u → IsValidUnit identity u
  all_valid t each shows u shown = ((one_unit identity.layout identity.cluster identity.place
      bytes u (fills_place kind zone identity.layout identity.place bytes stands in_zone fills) each).0 (unit_shown t shows ∙ shown)).is

  -- the unit that is held is the one that is shown
  pub found_read : (told : Option Told) (h : Holding) → AreBytes bytes → Shows told (span_of identity.layout identity.place).first bytes
      → FindsKind kind identity bytes h.unit → IsRead kind identity told None (Some h)
  found_read None h each shows finds = tt
  found_read (Some t) h each shows finds = record { valid = all_valid t each shows; judges = sym (unit_shown t shows) ∙ finds.found.valid }

  -- where none is held, no unit that is shown is the one wanted
  pub lacks_read : (told : Option Told) (class : Class) (held : Option Holding) → AreBytes bytes → Shows told (span_of
      identity.layout identity.place).first bytes → ((u : Message) → FindsKind kind identity bytes u → ⊥) → class ≡ class_for identity bytes
      → IsRead kind identity told (Some class) held
  lacks_read None class held each shows none is = tt
  lacks_read (Some t) class held each shows none is = record {
    valid = all_valid t each shows;
    judges = (
      (λ u shown found.
          none u (record { found = record { valid = unit_shown t shows ∙ shown; wanted = found.wanted }; of_kind = found.of_kind })),
      is ∙ class_shown t shows,
    );
  }

-- a header that bytes show is that of a unit which is valid at their place
pub shown_there : (layout : Layout) (cluster : ℕ) (place : Place) (bytes : List ℕ) (seen : Result Header Class)
    → length bytes ≡ place_size layout place.zone → AreBytes bytes
    → seen ≡ header_or_class (unit_in layout cluster place bytes) (class_of layout cluster place bytes) → IsThereSeen layout cluster place seen
shown_there layout cluster place bytes seen size each is =
    subst (IsThereSeen layout cluster place) (sym is) (by (unit_in layout cluster place bytes) refl)
  where
    by : (o : Option Message) → unit_in layout cluster place bytes ≡ o
        → IsThereSeen layout cluster place (header_or_class o (class_of layout cluster place bytes))
    by None shown = tt
    by (Some u) shown = (u.body, ((one_unit layout cluster place bytes u size each).0 shown).is)
