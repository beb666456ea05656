-- A unit whose room is blanked after it is still that unit, and its sectors hold zeros there.
use Rattle.std.proofs.{lemmas.List.{length-replicate, length-take}, Common.{◌≡◌, ◌≢◌, ℕ, zero, suc, ◌+◌, ◌-◌, ◌≤◌, List, [], ◌∷◌, ◌++◌, length, take, replicate, Some, refl, sym, ◌∙◌, ap, subst, arith, length-append}}
use Rattle.df_base.specs.Fields.{AreBytes}
use Rattle.df_layout.specs.{declared.places.Zone.{Zone}, declared.places.Zone.TheVariants.{Superblock, WalHeaders, WalPrepares, ClientReplies, Grid}, declared.layout.Layout.{Layout}}
use Rattle.df_format.{specs.{declared.header.Header.{Header}, declared.kind.Kind.{Kind}, Message.{Message, sectors_end, unit_bytes}, Shown.{unit_in}, UnitLaws.{place_size}, Valid.{BeginsWithUnit, HasBody, IsBodyOf, IsUnit}}, proofs.Laws.{begun_is_shown, length-unit, one_unit}}
use Rattle.df_buffers.{specs.{Rooms.{StandsIn, room_size}, Sounds.{EndsInZeros, Holding, IsSound, IsTidy, holding_of, unit_with}}, proofs.Finds.{ends, found_whole, is_no_ring}}

-- elsewhere than in the header ring a place has whole sectors, and a unit its body
beside_ring : (layout : Layout) (zone : Zone) (h : Header) (body : List ℕ)
    → zone ≢ WalHeaders → (place_size layout zone ≡ room_size layout zone) × (HasBody zone h body → IsBodyOf h body)
beside_ring layout WalHeaders h body beside = absurd (beside refl)
beside_ring layout Superblock h body beside = (refl, λ has. has)
beside_ring layout WalPrepares h body beside = (refl, λ has. has)
beside_ring layout ClientReplies h body beside = (refl, λ has. has)
beside_ring layout Grid h body beside = (refl, λ has. has)

-- ---- lists

cut : (xs ys : List ℕ) → take (length xs) (xs ++ ys) ≡ xs
cut [] ys = refl
cut (x ∷ xs) ys = ap (λ (l : List ℕ). x ∷ l) (cut xs ys)

abbrev zeros : ℕ → List ℕ
zeros k = replicate k 0

all_zeros : (e k : ℕ) → take e (zeros k) ≡ zeros (length (take e (zeros k)))
all_zeros zero k = refl
all_zeros (suc e) zero = refl
all_zeros (suc e) (suc k) = ap (λ (l : List ℕ). 0 ∷ l) (all_zeros e k)

zeros_after : (xs : List ℕ) (e k : ℕ) → length xs ≤ e → EndsInZeros (length xs) (take e (xs ++ zeros k))
zeros_after [] e k to = let n : ℕ = length (take e (zeros k)) in let same : n ≡ n - 0 = omega arith in all_zeros e k ∙ ap zeros same
zeros_after (x ∷ xs) zero k to = absurd (omega arith)
zeros_after (x ∷ xs) (suc e) k to = let n : ℕ = length (take e (xs ++ zeros k)) in
    let same : n - length xs ≡ suc n - suc (length xs) = omega arith in zeros_after xs e k (omega arith) ∙ ap zeros same

-- ---- a room

-- the room with these bytes still holds the unit, with zeros after it
pub record IsStill (zone : Zone) (kind : Kind) (held : Holding) (after : List ℕ) : Type 0 where
  pub same : unit_with held.unit.header after ≡ held.unit
  pub sound : IsSound zone kind (holding_of held.layout held.unit.header after)
  pub tidy : IsTidy (holding_of held.layout held.unit.header after)

module _ (zone : Zone) (kind : Kind)
    (held : Holding) (stands : StandsIn kind zone) (sound : IsSound zone kind held) (bytes : AreBytes held.bytes) (after : List ℕ)
    (blank : after ≡ take held.unit.header.size held.bytes ++ replicate (length held.bytes - held.unit.header.size) 0) where
  abbrev u : Message
  u = held.unit

  beside : sound.place.zone ≢ WalHeaders
  beside ring = is_no_ring kind zone stands (sym sound.in_zone ∙ ring)

  parts : (place_size held.layout sound.place.zone ≡ room_size held.layout sound.place.zone)
      × (HasBody sound.place.zone u.header u.body → IsBodyOf u.header u.body)
  parts = beside_ring held.layout sound.place.zone u.header u.body beside

  begun : BeginsWithUnit held.layout u.header.cluster sound.place held.bytes u
  begun = (one_unit held.layout u.header.cluster sound.place held.bytes u
      (subst (λ (z : Zone). length held.bytes ≡ room_size held.layout z) (sym sound.in_zone) sound.fills ∙ sym parts.0) bytes).0 sound.valid

  long : length (unit_bytes u) ≡ u.header.size
  long = omega (arith, length-unit u sound.is.sealed, (parts.1 sound.is.body).size)

  front : take u.header.size held.bytes ≡ unit_bytes u
  front = ap (λ (n : ℕ). take n held.bytes) (sym long)
      ∙ ap (λ (l : List ℕ). take (length (unit_bytes u)) l) begun.spelled ∙ cut (unit_bytes u) begun.rest

  spelled : after ≡ unit_bytes u ++ replicate (length held.bytes - u.header.size) 0
  spelled = blank ∙ ap (λ (l : List ℕ). l ++ replicate (length held.bytes - u.header.size) 0) front

  valid : unit_in held.layout u.header.cluster sound.place after ≡ Some u
  valid = begun_is_shown held.layout u.header.cluster sound.place after u (record { is = sound.is; rest = _; spelled = spelled })

  whole : u ≡ unit_with u.header after
  whole = found_whole held.layout u.header.cluster sound.place after u u.header beside refl valid

  fills : length after ≡ length held.bytes
  fills = omega (arith, ap (λ (l : List ℕ). length l) blank, length-append (take u.header.size held.bytes) (replicate (length held.bytes - u.header.size) 0), length-take u.header.size held.bytes, length-replicate {A = ℕ} (length held.bytes - u.header.size) 0, (ends zone kind held stands sound).size)

  tidy : EndsInZeros (256 + length u.body) (take (sectors_end u.header.size) after)
  tidy = subst (λ (l : List ℕ). EndsInZeros (256 + length u.body) (take (sectors_end u.header.size) l)) (sym spelled)
      (subst (λ (n : ℕ). EndsInZeros n (take (sectors_end u.header.size) (unit_bytes u ++ replicate (length held.bytes - u.header.size) 0)))
      (length-unit u sound.is.sealed)
      (zeros_after (unit_bytes u) (sectors_end u.header.size) (length held.bytes - u.header.size) (omega (arith, long))))

  pub blanked : IsStill zone kind held after
  blanked = record {
    same = sym whole;
    sound = record {
      fills = fills ∙ sound.fills;
      of_kind = sound.of_kind;
      place = sound.place;
      in_zone = sound.in_zone;
      is = subst (λ (x : Message). IsUnit held.layout u.header.cluster sound.place x) whole sound.is;
      valid = valid ∙ ap Some whole;
    };
    tidy = subst (λ (x : Message). EndsInZeros (256 + length x.body) (take (sectors_end u.header.size) after)) whole tidy;
  }
