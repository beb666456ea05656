-- The own place of a unit: the layout has it, and the unit's header says what belongs there.
use Rattle.std.{proofs.{Common.{◌≡◌, ◌⊎◌, inl, inr, ℕ, true, Option, Some, None, refl, sym, ◌∙◌, ap}, lemmas.Bool.{cond-true, and_parts, and_from, ltb-true, lt-ltb, leb-true, le-leb, eqb-true, eq-eqb}, lemmas.Option.{cond_some, same_Some}}, specs.Prelude.{option_map}}
use Rattle.df_base.proofs.Laws.{cond_there}
use Rattle.df_layout.specs.{declared.layout.Layout.{Layout}, declared.places.Place.{Place}, declared.places.Zone.{Zone}, declared.places.Zone.TheVariants.{Superblock, WalHeaders, WalPrepares, ClientReplies, Grid}, Spans.{HasIndex, HasPlace}}
use Rattle.df_format.specs.{declared.header.Header.{Header}, declared.kind.Kind.{Kind}, declared.kind.Kind.TheVariants.{Reserved, Prepare, Reply, Block, Trailer}, Own.{place_in, named_in_ring, named_elsewhere, named_place, has_op_of_slot, has_index, inside, own_place}, Shown.{same_zone, same_place}, Valid.{IsInSlot, IsForSlot, IsOfSession, IsAtAddress, Belongs}}

same_zone-true : (a b : Zone) → same_zone a b ≡ true → a ≡ b
same_zone-true Superblock Superblock is = refl
same_zone-true WalHeaders WalHeaders is = refl
same_zone-true WalPrepares WalPrepares is = refl
same_zone-true ClientReplies ClientReplies is = refl
same_zone-true Grid Grid is = refl
same_zone-true _ _ is = absurd (cc)

same_zone-self : (a : Zone) → same_zone a a ≡ true
same_zone-self Superblock = refl
same_zone-self _ = refl

pub same_place-true : (a b : Place) → same_place a b ≡ true → a ≡ b
same_place-true a b is = let parts = and_parts _ _ is in let zone = same_zone-true a.zone b.zone parts.0 in
    let index : a.index ≡ b.index = eqb-true _ _ parts.1 in λ i. record { zone = zone i; index = index i }

pub same_place-self : (a : Place) → same_place a a ≡ true
same_place-self a = and_from _ _ (same_zone-self a.zone) (eq-eqb a.index a.index refl)

pub has-true : (layout : Layout) (zone : Zone) (index : ℕ) → has_index layout zone index ≡ true → HasIndex layout zone index
has-true layout Grid index is = let parts = and_parts _ _ is in (leb-true _ _ parts.0, leb-true _ _ parts.1)
has-true layout _ index is = ltb-true _ _ is

pub has-from : (layout : Layout) (zone : Zone) (index : ℕ) → HasIndex layout zone index → has_index layout zone index ≡ true
has-from layout Grid index has = and_from _ _ (le-leb _ _ has.0) (le-leb _ _ has.1)
has-from layout _ index has = lt-ltb _ _ has

-- what the tests of an own place say
pub record IsOwn (layout : Layout) (zone : Zone) (h : Header) (place : Place) : Type 0 where
  pub op : has_op_of_slot layout h.kind h ≡ true
  pub named : named_place zone h ≡ Some place
  pub has : HasPlace layout place

inside_is : (layout : Layout) (o : Option Place) (place : Place) → inside layout o ≡ Some place → (o ≡ Some place) × HasPlace layout place
inside_is layout None place is = absurd (cc)
inside_is layout (Some named) place is = let parts = cond_some _ _ place is in
    (ap Some parts.1, rw parts.1 at (has-true layout named.zone named.index parts.0))

pub own_is : (layout : Layout) (zone : Zone) (h : Header) (place : Place) → own_place layout zone h ≡ Some place → IsOwn layout zone h place
unfolding own_place
own_is layout zone h place is = let parts = cond_there _ _ place is in let there = inside_is layout _ place parts.1 in
    record { op = parts.0; named = there.0; has = there.1 }

pub is_own : (layout : Layout) (zone : Zone) (h : Header) (place : Place) → IsOwn layout zone h place → own_place layout zone h ≡ Some place
unfolding own_place
is_own layout zone h place is = cond-true _ _ None is.op ∙ ap (λ (o : Option Place). inside layout o) is.named
    ∙ cond-true _ (Some place) None (has-from layout place.zone place.index is.has)

-- two names of a place
same_index : (z w : Zone) (i j : ℕ) → Some (place_in z i) ≡ Some (place_in w j) → i ≡ j
same_index z w i j is = ap (λ (p : Place). p.index) (same_Some _ _ is)

abbrev zone_of : Option Place → Option Zone
zone_of o = option_map (λ (p : Place). p.zone) o

ring_belongs : (layout : Layout) (kind : Kind) (h : Header) (index : ℕ)
    → h.kind ≡ kind → has_op_of_slot layout kind h ≡ true → named_in_ring kind h ≡ Some (place_in WalHeaders index)
    → IsForSlot index h ⊎ IsInSlot layout index h
ring_belongs layout Reserved h index k op is = inl (record { kind = k; slot = same_index _ _ _ _ is })
ring_belongs layout Prepare h index k op is = let slot = same_index _ _ h.slot index is in
    inr (record { kind = k; slot = slot; op = sym (eqb-true _ _ op) ∙ slot })
ring_belongs layout _ h index k op is = absurd (cc)

prepares_belong : (layout : Layout) (kind : Kind) (h : Header) (index : ℕ) → h.kind ≡ kind
    → has_op_of_slot layout kind h ≡ true → named_elsewhere kind h ≡ Some (place_in WalPrepares index) → IsInSlot layout index h
prepares_belong layout Prepare h index k op is = let slot = same_index _ _ h.slot index is in
    record { kind = k; slot = slot; op = sym (eqb-true _ _ op) ∙ slot }
prepares_belong layout _ h index k op is = let z = ap zone_of is in absurd (cc)

replies_belong : (kind : Kind) (h : Header) (index : ℕ)
    → h.kind ≡ kind → named_elsewhere kind h ≡ Some (place_in ClientReplies index) → IsOfSession index h
replies_belong Reply h index k is = record { kind = k; slot = same_index _ _ _ _ is }
replies_belong _ h index k is = let z = ap zone_of is in absurd (cc)

blocks_belong : (kind : Kind) (h : Header) (index : ℕ)
    → h.kind ≡ kind → named_elsewhere kind h ≡ Some (place_in Grid index) → IsAtAddress index h
blocks_belong Block h index k is = record { kind = inl k; op = same_index _ _ _ _ is }
blocks_belong Trailer h index k is = record { kind = inr k; op = same_index _ _ _ _ is }
blocks_belong _ h index k is = let z = ap zone_of is in absurd (cc)

pub belongs : (layout : Layout) (zone : Zone) (index : ℕ) (h : Header)
    → IsOwn layout zone h (place_in zone index) → Belongs layout zone index h
belongs layout Superblock index h is = absurd (cc (is.named))
belongs layout WalHeaders index h is = ring_belongs layout h.kind h index refl is.op is.named
belongs layout WalPrepares index h is = prepares_belong layout h.kind h index refl is.op is.named
belongs layout ClientReplies index h is = replies_belong h.kind h index refl is.named
belongs layout Grid index h is = blocks_belong h.kind h index refl is.named
