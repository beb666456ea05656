-- The table with the headers of a group: each stands in its slot, whose sector is that of the group's first or last prepare.
use Rattle.std.{proofs.{Common.{◌≡◌, ◌⊎◌, inl, inr, ℕ, zero, suc, ◌+◌, ◌*◌, ◌/◌, ◌%◌, ◌<◌, ◌≤◌, ◌==◌, Bool, true, false, if◌then◌else◌, List, [], ◌∷◌, ◌++◌, length, slice_index_or, Some, None, refl, sym, ◌∙◌, ap, subst, arith, eqb-true}, Math.Nat.{mul-le-mul_left, mul_assoc}, lemmas.Bool.{cases_eq, cases_lt, cond-false, cond-true, eq-eqb, ne_eqb}, lemmas.Option.{same_Some, slice_get-get_or, slice_get_within}}, specs.List.{slice_get}}
use Rattle.{df_base.proofs.Laws.{get_set, get_set_other, split_n, times_suc}, df_prepares.specs.Slots.{IsInOwnSlot}}
use Rattle.df_layout.specs.{declared.layout.Layout.{Layout}, declared.places.Zone.TheVariants.{WalPrepares}}
use Rattle.df_format.{specs.{declared.header.Header.{Header}, Message.{Message}, Own.{place_in}, Valid.{IsInSlot}}, proofs.Laws.{valid_belongs}}
use Rattle.df_theory.{specs.{Units.{HeaderPlace, HeaderUnit, Units}, MendLaws.{AllPutTable, Reaches}, Next.{AreInTurn}, Runs.{Step}, MakingLaws.{all_puts}}, proofs.Laws.{mod_apart}}
use Rattle.df_units.{specs.{Meaning.{header_of, message_of}, Puts.{header_unit, put_headers}}, proofs.Laws.{sector_puts, table_put}}
use Rattle.df_headers.{specs.Ring.{AreOfRing, IsHeader, IsHeaderTable, header_write_steps, in_sector}, proofs.Laws.{sector_at, sector_has, table_kept}}
use Rattle.df_journal.{specs.{Append.{with_header}, Flush.{first_slot, last_slot, messages_of, sectors_between, sectors_of, with_headers}}, proofs.Moments.{in_header_ring, slot_below}}

-- each prepare stands in its own slot, in a file of this cluster
abbrev pub AreIn : Layout → ℕ → List Message → Type 0
AreIn layout cluster us = (i : ℕ) (u : Message) → slice_get us i ≡ Some u → IsInOwnSlot layout u × (u.header.cluster ≡ cluster)

-- and each in another one
abbrev pub AreApart : List Message → Type 0
AreApart us = (i j : ℕ) (u x : Message) → slice_get us i ≡ Some u → slice_get us j ≡ Some x → u.header.slot ≡ x.header.slot → i ≡ j

-- ---- the table

kept_one : (layout : Layout) (cluster : ℕ) (u : Message) (table : List Header) → IsHeaderTable layout cluster table
    → IsInOwnSlot layout u × (u.header.cluster ≡ cluster) → IsHeaderTable layout cluster (with_header u table)
kept_one layout cluster u table is in_slot =
    table_kept layout cluster u.header.slot table u.header is (rw (← in_slot.1) (in_header_ring layout u in_slot.0))

pub group_kept : (layout : Layout) (cluster : ℕ) (us : List Message) (table : List Header)
    → AreIn layout cluster us → IsHeaderTable layout cluster table → IsHeaderTable layout cluster (with_headers us table)
group_kept layout cluster [] table all is = is
group_kept layout cluster (u ∷ us) table all is =
    group_kept layout cluster us (with_header u table) (λ i x at. all (suc i) x at) (kept_one layout cluster u table is (all 0 u refl))

-- the header of a slot is that of a prepare which stands there, or the old one
abbrev IsNew : List Message → List Header → ℕ → Type 0
IsNew us new s = (i : ℕ) × (u : Message) × (slice_get us i ≡ Some u) × (s ≡ u.header.slot) × (slice_get new s ≡ Some u.header)

module _ (layout : Layout) (cluster : ℕ) where
  within : (u : Message) (table : List Header) → IsHeaderTable layout cluster table → IsInOwnSlot layout u → u.header.slot < length table
  within u table is own = omega (arith, slot_below layout u own, is.count)

  pub get_cases : (us : List Message) (table : List Header) (s : ℕ) → AreIn layout cluster us
      → IsHeaderTable layout cluster table → IsNew us (with_headers us table) s ⊎ (slice_get (with_headers us table) s ≡ slice_get table s)
  get_cases [] table s all is = inr refl
  get_cases (u ∷ us) table s all is =
      elim (get_cases us (with_header u table) s (λ i x at. all (suc i) x at) (kept_one layout cluster u table is (all 0 u refl))) [
        | inl new ↦ inl (suc new.0, new.1, new.2, new.3, new.4)
        | inr same ↦ elim (cases_eq s u.header.slot) [
          | inl here ↦ inl (0, u, refl, here, same ∙ ap (slice_get (with_header u table)) here ∙ get_set table u.header.slot u.header (within u table is (all 0 u refl).0))
          | inr other ↦ inr (same ∙ get_set_other table u.header.slot s u.header other)
        ]
      ]

  pub own_get : (us : List Message) (table : List Header) (i : ℕ) (u : Message) → AreIn layout cluster us → AreApart us
      → IsHeaderTable layout cluster table → slice_get us i ≡ Some u → slice_get (with_headers us table) u.header.slot ≡ Some u.header
  own_get [] table i u all apart is at = absurd (cc)
  own_get (x ∷ us) table zero u all apart is at = let one : x ≡ u = same_Some _ _ at in
      let old = kept_one layout cluster x table is (all 0 x refl) in
      subst (λ (w : Message). slice_get (with_headers (x ∷ us) table) w.header.slot ≡ Some w.header) one (
      elim (get_cases us (with_header x table) x.header.slot (λ k y there. all (suc k) y there) old) [
        | inl new ↦ absurd (let same : 0 ≡ suc new.0 = apart 0 (suc new.0) x new.1 refl new.2 new.3 in omega (arith, same))
        | inr same ↦ same ∙ get_set table x.header.slot x.header (within x table is (all 0 x refl).0)
      ])
  own_get (x ∷ us) table (suc i) u all apart is at =
      own_get us (with_header x table) i u (λ k y there. all (suc k) y there) (λ j k y z one two same. let next : suc j ≡ suc k = apart (suc
      j) (suc k) y z one two same in omega (arith, next)) (kept_one layout cluster x table is (all 0 x refl)) at

-- ---- slots

pub slot_is : (layout : Layout) (u : Message) → IsInOwnSlot layout u → u.header.slot ≡ u.header.op % layout.slots
slot_is layout u is = let here : IsInSlot layout u.header.slot u.header =
    (valid_belongs layout u.header.cluster (place_in WalPrepares u.header.slot) u is).belongs in sym here.op

pub turn_op : (op parent : ℕ) (us : List Message) (i : ℕ) (u : Message)
    → AreInTurn op parent (messages_of us) → slice_get us i ≡ Some u → u.header.op ≡ op + i
turn_op op parent [] i u turn at = absurd (cc)
turn_op op parent (x ∷ us) zero u turn at = omega (arith, turn.0, ap (λ (w : Message). w.header.op) (let one : x ≡ u = same_Some _ _ at in one))
turn_op op parent (x ∷ us) (suc i) u turn at = omega (arith, turn_op (op + 1) (message_of x).header.checksum us i u turn.2 at)

-- the slots of prepares in turn differ, where the ring has one for each
pub turn_apart : (layout : Layout) (cluster op parent : ℕ) (us : List Message)
    → AreIn layout cluster us → AreInTurn op parent (messages_of us) → 0 < layout.slots → length us ≤ layout.slots → AreApart us
turn_apart layout cluster op parent us all turn some few i j u x at there same = let a = turn_op op parent us i u turn at in
    let b = turn_op op parent us j x turn there in let below = slice_get_within us i u at in let under = slice_get_within us j x there in
    let slots_same : u.header.op % layout.slots ≡ x.header.op % layout.slots =
    sym (slot_is layout u (all i u at).0) ∙ same ∙ slot_is layout x (all j x there).0 in elim (cases_lt i j) [
      | inl less ↦ absurd (mod_apart
          layout.slots u.header.op x.header.op some (omega (arith, a, b, less)) (omega (arith, a, b, under, few)) slots_same)
      | inr more ↦ elim (cases_lt j i) [
        | inl less ↦ absurd (mod_apart
            layout.slots x.header.op u.header.op some (omega (arith, a, b, less)) (omega (arith, a, b, below, few)) (sym slots_same))
        | inr same_place ↦ omega (arith, more, same_place)
      ]
    ]

-- ---- sectors

-- numbers of one sixteen lie in one sector of a ring of sixteens
ring_sector : (n k x y : ℕ) → 0 < n → n ≡ 16 * k → x / 16 ≡ y / 16 → x % n / 16 ≡ y % n / 16
ring_sector n k x y some whole same = elim (cases_lt (x / n) (y / n)) [
  | inl less ↦ absurd (crosses x y same less)
  | inr more ↦ elim (cases_lt (y / n) (x / n)) [
    | inl less ↦ absurd (crosses y x (sym same) less)
    | inr least ↦ let one : x / n ≡ y / n = omega (arith, more, least) in let parts : n * (x / n) ≡ 16 * (k * (x / n)) = sixteens (x / n) in
        omega (arith, split_n n x some, split_n n y some, parts, ap (λ (q : ℕ). n * q) one, same)
  ]
]
  where
    sixteens : (q : ℕ) → n * q ≡ 16 * (k * q)
    sixteens q = ap (λ (m : ℕ). m * q) whole ∙ mul_assoc 16 k q

    crosses : (a b : ℕ) → a / 16 ≡ b / 16 → a / n < b / n → ⊥
    crosses a b one less = let high : n * (a / n + 1) ≤ n * (b / n) = mul-le-mul_left n (omega (arith, less)) in
        let next : n * (a / n + 1) ≡ 16 * (k * (a / n + 1)) = sixteens (a / n + 1) in
        omega (arith, split_n n a some, split_n n b some, times_suc n (a / n), high, next, one)

first_at : (us : List Message) → 0 < length us → (u : Message) × (slice_get us 0 ≡ Some u) × (first_slot us ≡ u.header.slot)
first_at [] some = absurd (omega arith)
first_at (u ∷ us) some = (u, refl, refl)

last_at : (slot : ℕ) (us : List Message)
    → 0 < length us → (u : Message) × (i : ℕ) × (i + 1 ≡ length us) × (slice_get us i ≡ Some u) × (last_slot slot us ≡ u.header.slot)
last_at slot [] some = absurd (omega arith)
last_at slot (u ∷ []) some = (u, 0, omega arith, refl, refl)
last_at slot (u ∷ x ∷ us) some = let rest = last_at u.header.slot (x ∷ us) (omega arith) in
    (rest.0, suc rest.1, omega (arith, rest.2), rest.3, rest.4)

-- the sector of each is one of the two
pub sector_of_two : (layout : Layout) (cluster op parent : ℕ) (us : List Message) → AreIn layout cluster us → AreInTurn op parent (messages_of us) → 0 < layout.slots → layout.slots ≡ 16 * (layout.slots / 16) → length us ≤ 8 → (i : ℕ) (u : Message) → slice_get us i ≡ Some u
    → (u.header.slot / 16 ≡ first_slot us / 16) ⊎ (u.header.slot / 16 ≡ last_slot 0 us / 16)
sector_of_two layout cluster op parent us all turn some whole few i u at = let inside = slice_get_within us i u at in
    let first = first_at us (omega (arith, inside)) in let last = last_at 0 us (omega (arith, inside)) in
    let a = turn_op op parent us 0 first.0 turn first.1 in let b = turn_op op parent us last.1 last.0 turn last.3 in
    let o = turn_op op parent us i u turn at in let u_slot = slot_is layout u (all i u at).0 in
    let first_is : first_slot us ≡ first.0.header.op % layout.slots = first.2 ∙ slot_is layout first.0 (all 0 first.0 first.1).0 in
    let last_is : last_slot 0 us ≡ last.0.header.op % layout.slots = last.4 ∙ slot_is layout last.0 (all last.1 last.0 last.3).0 in
    elim (cases_eq (u.header.op / 16) (first.0.header.op / 16)) [
      | inl same ↦ inl (ap (λ (s : ℕ). s / 16) u_slot ∙ ring_sector
          layout.slots (layout.slots / 16) u.header.op first.0.header.op some whole same ∙ ap (λ (s : ℕ). s / 16) (sym first_is))
      | inr other ↦ let same : u.header.op / 16 ≡ last.0.header.op / 16 = omega (arith, a, b, o, inside, last.2, few, other) in
          inr (ap (λ (s : ℕ). s / 16) u_slot ∙ ring_sector layout.slots (layout.slots / 16) u.header.op last.0.header.op some whole same
          ∙ ap (λ (s : ℕ). s / 16) (sym last_is))
    ]

-- both are of the ring
pub are_of_ring : (layout : Layout) (first last : ℕ)
    → first < layout.slots / 16 → last < layout.slots / 16 → AreOfRing layout (sectors_between first last)
are_of_ring layout first last one two = go (first == last)
  where
    go : (b : Bool) → AreOfRing layout (if b then first ∷ [] else first ∷ last ∷ [])
    go true zero sector at = subst (λ (n : ℕ). n < layout.slots / 16) (same_Some _ _ at) one
    go true (suc i) sector at = absurd (cc)
    go false zero sector at = subst (λ (n : ℕ). n < layout.slots / 16) (same_Some _ _ at) one
    go false (suc zero) sector at = subst (λ (n : ℕ). n < layout.slots / 16) (same_Some _ _ at) two
    go false (suc (suc i)) sector at = absurd (cc)

pub ends_of_ring : (layout : Layout) (cluster : ℕ) (us : List Message)
    → AreIn layout cluster us → 0 < length us → layout.slots ≡ 16 * (layout.slots / 16) → AreOfRing layout (sectors_of us)
ends_of_ring layout cluster us all some whole = let first = first_at us some in let last = last_at 0 us some in
    are_of_ring layout (first_slot us / 16) (last_slot 0 us / 16)
    (omega (arith, first.2, slot_below layout first.0 (all 0 first.0 first.1).0, whole))
    (omega (arith, last.4, slot_below layout last.0 (all last.1 last.0 last.3).0, whole))

-- ---- what the writes of its sectors put

abbrev pub sector_units : List Header → List ℕ → List Units
sector_units table [] = []
sector_units table (sector ∷ sectors) = put_headers sector (in_sector sector table) ∷ sector_units table sectors

pub writes_are_puts : (table : List Header) (sectors : List ℕ) → header_write_steps table sectors ≡ all_puts (sector_units table sectors)
writes_are_puts table [] = refl
writes_are_puts table (sector ∷ sectors) =
    ap (λ (ss : List Step). all_puts (put_headers sector (in_sector sector table) ∷ []) ++ ss) (writes_are_puts table sectors)

-- the header of each slot, as the table has it
abbrev pub at_slot : List Header → Header → ℕ → Header
at_slot table past s = slice_index_or table s past

pub at_slot_is : (table : List Header) (past : Header) (s : ℕ) (h : Header) → slice_get table s ≡ Some h → h ≡ at_slot table past s
at_slot_is table past s h at = same_Some _ _ (sym at ∙ slice_get-get_or table s past (slice_get_within table s h at))

pub sectors_put : (table : List Header) (past : Header) (sectors : List ℕ)
    → AllPutTable (λ s. header_of (at_slot table past s)) (sector_units table sectors)
sectors_put table past [] = tt
sectors_put table past (sector ∷ sectors) = (table_put sector (in_sector sector table) (at_slot table past) (λ i h at. at_slot_is table past (16 * sector + i) h (sector_at sector i table h at).1), sectors_put table past sectors)

-- a header of the table is put with its sector
put_there : (table : List Header) (sector s : ℕ) (h : Header) → s / 16 ≡ sector
    → slice_get table s ≡ Some h → put_headers sector (in_sector sector table) (HeaderPlace s) ≡ Some (HeaderUnit (header_of h))
put_there table sector s h here at = let place : s ≡ 16 * sector + s % 16 = omega (arith, here) in
    let there : slice_get (in_sector sector table) (s % 16) ≡ Some h = sector_has sector (s % 16) table h (omega arith) (rw place at at) in
    cond-true (s / 16 == sector) (header_unit (slice_get (in_sector sector table) (s % 16))) None (eq-eqb (s / 16) sector here)
    ∙ ap header_unit there

pub two_reach : (table : List Header) (first last s : ℕ) (h : Header) → slice_get table s ≡ Some h
    → (s / 16 ≡ first) ⊎ (s / 16 ≡ last) → Reaches (sector_units table (sectors_between first last)) (HeaderPlace s)
two_reach table first last s h at one = go (first == last) refl one
  where
    go : (b : Bool) → (first == last) ≡ b
        → (s / 16 ≡ first) ⊎ (s / 16 ≡ last) → Reaches (sector_units table (if b then first ∷ [] else first ∷ last ∷ [])) (HeaderPlace s)
    go true same (inl here) = inl (HeaderUnit (header_of h), put_there table first s h here at)
    go true same (inr here) = inl (HeaderUnit (header_of h), put_there table first s h (here ∙ sym (eqb-true first last same)) at)
    go false same (inl here) = inl (HeaderUnit (header_of h), put_there table first s h here at)
    go false same (inr here) = inr (inl (HeaderUnit (header_of h), put_there table last s h here at))

pub reach_inside : (layout : Layout) (table : List Header) (sectors : List ℕ) (s : ℕ) → layout.slots ≡ 16 * (layout.slots / 16)
    → AreOfRing layout sectors → Reaches (sector_units table sectors) (HeaderPlace s) → s < layout.slots
reach_inside layout table [] s whole are reaches = absurd reaches
reach_inside layout table (sector ∷ sectors) s whole are (inl (y, is)) =
    let put = sector_puts sector (in_sector sector table) (HeaderPlace s) y is in let same : s ≡ put.0 = cc (put.2) in
    omega (arith, are 0 sector refl, put.4, ap (λ (n : ℕ). n / 16) same, whole)
reach_inside layout table (sector ∷ sectors) s whole are (inr more) = reach_inside layout table sectors s whole (λ i x at. are (suc i) x at) more

pub one_of_ring : (layout : Layout) (first last : ℕ) → AreOfRing layout (sectors_between first last) → AreOfRing layout (first ∷ [])
one_of_ring layout first last are = go (first == last) are
  where
    go : (b : Bool) → AreOfRing layout (if b then first ∷ [] else first ∷ last ∷ []) → AreOfRing layout (first ∷ [])
    go true one i sector at = one i sector at
    go false both zero sector at = both 0 sector at
    go false both (suc i) sector at = absurd (cc)

pub both_of_ring : (layout : Layout) (first last : ℕ)
    → (first ≡ last → ⊥) → AreOfRing layout (sectors_between first last) → AreOfRing layout (first ∷ last ∷ [])
both_of_ring layout first last apart are =
    subst (AreOfRing layout) (cond-false (first == last) (first ∷ []) (first ∷ last ∷ []) (ne_eqb first last apart)) are
