-- A room in which a unit was made is sound.
use Rattle.std.{proofs.{Common.{◌≡◌, ◌≢◌, ◌≤◌, ◌+◌, ◌-◌, ◌*◌, ℕ, Bool, true, false, List, ◌++◌, length, take, drop, replicate, Option, Some, None, cond, refl, sym, ◌∙◌, ap, subst, append_assoc, arith}, lemmas.List.{take-append-drop, take_at}, lemmas.Option.{same_Some}}, specs.Prelude.{IsSome}}
use Rattle.df_layout.specs.{declared.layout.Layout.{Layout}, declared.places.Place.{Place}, declared.places.Zone.{Zone}, Spans.{place_sectors}, declared.places.Zone.TheVariants.{Superblock, WalHeaders, WalPrepares, ClientReplies, Grid}}
use Rattle.df_format.{specs.{declared.header.Header.{Header}, declared.kind.Kind.{Kind}, declared.kind.Kind.TheVariants.{Reserved, Prepare, Reply, Block, Trailer}, Spelling.{sealed}, Message.{Message, unit_bytes, sectors_of, sectors_end}, Own.{named_in_ring, named_elsewhere, named_place, has_op_of_slot, inside, own_place}, Whole.{greatest_size}, Making.{for_body}, Valid.{IsUnit}, UnitLaws.{MadeIsUnit}}, proofs.Laws.{begun_is_shown, fits_slot}}
use Rattle.df_buffers.{specs.{Rooms.{StandsIn, FillsRoom}, Sounds.{IsSound, unit_with}}, proofs.Finds.{is_no_ring, found_whole}}

some_of : {X : Type 0} (o : Option X) → IsSome o → (x : X) × (o ≡ Some x)
some_of None is = absurd (cc)
some_of (Some x) is = (x, refl)

if_true : {X : Type 0} (b : Bool) (o : Option X) (x : X) → cond b o None ≡ Some x → o ≡ Some x
if_true true o x is = is
if_true false o x is = absurd (cc)

if_inside : (layout : Layout) (o : Option Place) (place : Place) → inside layout o ≡ Some place → o ≡ Some place
if_inside layout None place is = absurd (cc)
if_inside layout (Some named) place is = if_true _ (Some named) place is

-- the own place is the one named
own_named : (layout : Layout) (zone : Zone) (h : Header) (place : Place) → own_place layout zone h ≡ Some place → named_place zone h ≡ Some place
unfolding own_place
own_named layout zone h place is = if_inside layout _ place (if_true _ _ place is)

-- sealing and the body change nothing that names the place
named_same : (kind : Kind) (h : Header) (body : List ℕ) → named_elsewhere kind (sealed (for_body h body)) ≡ named_elsewhere kind h
named_same Reserved h body = refl
named_same kind h body = refl

ring_same : (kind : Kind) (h : Header) (body : List ℕ) → named_in_ring kind (sealed (for_body h body)) ≡ named_in_ring kind h
ring_same Reserved h body = refl
ring_same kind h body = refl

place_same : (zone : Zone) (h : Header) (body : List ℕ) → named_place zone (sealed (for_body h body)) ≡ named_place zone h
place_same Superblock h body = refl
place_same WalHeaders h body = ring_same h.kind h body
place_same WalPrepares h body = named_same h.kind h body
place_same ClientReplies h body = named_same h.kind h body
place_same Grid h body = named_same h.kind h body

slot_same : (layout : Layout) (kind : Kind) (h : Header) (body : List ℕ)
    → has_op_of_slot layout kind (sealed (for_body h body)) ≡ has_op_of_slot layout kind h
slot_same layout Reserved h body = refl
slot_same layout Prepare h body = refl
slot_same layout Reply h body = refl
slot_same layout Block h body = refl
slot_same layout Trailer h body = refl

own_same : (layout : Layout) (zone : Zone) (h : Header) (body : List ℕ)
    → own_place layout zone (sealed (for_body h body)) ≡ own_place layout zone h
unfolding own_place
own_same layout zone h body = λ i. cond (slot_same layout h.kind h body i) (inside layout (place_same zone h body i)) None

-- what a kind's header names lies in its zone
zone_named : (kind : Kind) (zone : Zone) (h : Header) (place : Place)
    → StandsIn kind zone → h.kind ≡ kind → named_place zone h ≡ Some place → place.zone ≡ zone
zone_named Prepare WalPrepares h place stands same is =
    sym (ap (λ (p : Place). p.zone) (same_Some _ _ (ap (λ (k : Kind). named_elsewhere k h) (sym same) ∙ is)))
zone_named Reply ClientReplies h place stands same is =
    sym (ap (λ (p : Place). p.zone) (same_Some _ _ (ap (λ (k : Kind). named_elsewhere k h) (sym same) ∙ is)))
zone_named Block Grid h place stands same is =
    sym (ap (λ (p : Place). p.zone) (same_Some _ _ (ap (λ (k : Kind). named_elsewhere k h) (sym same) ∙ is)))
zone_named Trailer Grid h place stands same is =
    sym (ap (λ (p : Place). p.zone) (same_Some _ _ (ap (λ (k : Kind). named_elsewhere k h) (sym same) ∙ is)))
zone_named kind zone h place stands same is = absurd stands

-- the bytes begin with the unit whose sectors were written over them
begun : (u : Message) (bytes : List ℕ) (end : ℕ) → take end bytes ≡ sectors_of u → (rest : List ℕ) × (bytes ≡ unit_bytes u ++ rest)
unfolding sectors_of
begun u bytes end is = (
  replicate (sectors_end (256 + length u.body) - (256 + length u.body)) 0 ++ drop end bytes,
  sym (take-append-drop end bytes) ∙ ap (λ (l : List ℕ). l ++ drop end bytes) is ∙ append_assoc (unit_bytes u) _ (drop end bytes),
)

-- what a room is seen as in which a unit was made
pub record IsMade (zone : Zone) (kind : Kind) (layout : Layout) (bytes : List ℕ) (u : Message) : Type 0 where
  pub unit : unit_with u.header bytes ≡ u
  pub sound : IsSound zone kind (record { layout = layout; unit = unit_with u.header bytes; bytes = bytes })

pub made_in : (zone : Zone) (kind : Kind) (layout : Layout) (h result : Header) (body bytes : List ℕ)
    → FillsRoom layout zone bytes → StandsIn kind zone → h.kind ≡ kind → IsSome (own_place layout zone h)
    → 256 + length body ≤ greatest_size layout zone → result ≡ sealed (for_body h body) → MadeIsUnit (record { header = result; body = body })
    → take (sectors_end (256 + length body)) bytes ≡ sectors_of (record { header = result; body = body })
    → IsMade zone kind layout bytes (record { header = result; body = body })
made_in zone kind layout h result body bytes fills stands same some fits is unit sectors = let own = some_of _ some in
    let its : own_place layout zone result ≡ Some own.0 =
    ap (λ (x : Header). own_place layout zone x) is ∙ own_same layout zone h body ∙ own.1 in
    let here : own.0.zone ≡ zone = zone_named kind zone h own.0 stands same (own_named layout zone h own.0 own.1) in
    let other : own.0.zone ≢ WalHeaders = λ ring. is_no_ring kind zone stands (sym here ∙ ring) in
    let small : result.size ≤ greatest_size layout own.0.zone = subst (λ (z : Zone). result.size
    ≤ greatest_size layout z) (sym here) (subst (λ (n : ℕ). n ≤ greatest_size layout zone) (ap (λ (x : Header). x.size) (sym is)) fits) in
    let good = unit layout own.0 (ap (λ (z : Zone). own_place layout z result) here ∙ its) small (λ ring. absurd (other ring)) in
    let front = begun (record { header = result; body = body }) bytes _ sectors in let valid = begun_is_shown
    layout result.cluster own.0 bytes (record { header = result; body = body }) (record { is = good; rest = front.0; spelled = front.1 }) in
    let whole = found_whole layout result.cluster own.0 bytes (record { header = result; body = body }) result other refl valid in record {
      unit = sym whole;
      sound = record { fills = fills; of_kind = ap (λ (x : Header). x.kind) is ∙ same; place = own.0; in_zone = here; is = subst (λ (x : Message). IsUnit layout result.cluster own.0 x) whole good; valid = valid ∙ ap Some whole };
    }

-- no part of a unit that fits lies beyond its room
pub made_fits : (zone : Zone) (layout : Layout) (n : ℕ)
    → zone ≢ WalHeaders → n ≤ greatest_size layout zone → (n ≤ 1048576) × (sectors_end n ≤ 4096 * place_sectors layout zone)
made_fits Superblock layout n other fits = (omega (arith, fits), omega (arith, fits, fits_slot layout Superblock other))
made_fits WalHeaders layout n other fits = absurd (other refl)
made_fits WalPrepares layout n other fits =
    (omega (arith, fits, layout.message_size_within.1), omega (arith, fits, fits_slot layout WalPrepares other))
made_fits ClientReplies layout n other fits =
    (omega (arith, fits, layout.message_size_within.1), omega (arith, fits, fits_slot layout ClientReplies other))
made_fits Grid layout n other fits = (omega (arith, fits, layout.block_size_within.1), omega (arith, fits, fits_slot layout Grid other))

-- bytes put back over all of a room
pub put_back : (n : ℕ) (new old : List ℕ) → length new ≡ n → take n (new ++ drop (length new) old) ≡ new
put_back n new old is = take_at new (drop (length new) old) n is
