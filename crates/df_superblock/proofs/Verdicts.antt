-- What slots that were read say of the copies, and what an update answers of them.
use Rattle.std.proofs.{Common.{◌≡◌, inl, inr, ◌<◌, ◌≤◌, ◌+◌, ◌/◌, ◌==◌, if◌then◌else◌, ◌↔◌, ℕ, zero, suc, Bool, true, false, IsTrue, List, [], ◌∷◌, ◌++◌, length, take, drop, get_or, Option, Some, None, refl, sym, ◌∙◌, ap, subst, arith, Result, Ok, Err, OnOk}, lemmas.Bool.{cases_lt, eq-eqb}, lemmas.List.{append-nil}, Math.Seq.{take-append_seam}}
use Rattle.{df_base.specs.Image.{Image, bytes_at}, df_disk.specs.Told.{Told, Shows}, df_layout.specs.{declared.damage.Class.{Class}, declared.layout.Layout.{Layout}, declared.places.Zone.TheVariants.{Superblock}, Spans.{place_sectors}}, df_buffers.specs.Rooms.{FillsRoom}}
use Rattle.df_format.specs.{declared.superblock.SuperCopy.{SuperCopy}, declared.superblock.SuperFields.{SuperFields}, Copies.{Content, content_at, content_in_copy, copy_at, copy_in, copy_or_class, class_of_copy, has_checksum, if_here, own_copy}}
use Rattle.df_format.proofs.Laws.{own_has_checksum}
use Rattle.df_quorum.specs.{declared.slot.Slot.{Slot}, declared.slot.Slot.TheVariants.{Sound}, Quorum.{copy_of, nothing}}
use Rattle.df_superblock.specs.Calls.{slot_of, slot_at, ShowsSector, ShowsCopySlot, ShowsSlots, ShowsCopies, SlotHolds, IsCopyRead, AreEnough, IsFirstMissing}

-- a copy that belongs here belongs here
here_again : (n : ℕ) (class : Class) (o : Option SuperCopy) → if_here n (copy_of (slot_of (copy_or_class (if_here n o) class))) ≡ if_here n o
here_again n class None = refl
here_again n class (Some copy) = go (copy.number == n) refl
  where
    go : (b : Bool) → (copy.number == n) ≡ b → if_here n (copy_of
        (slot_of (copy_or_class (if copy.number == n then Some copy else None) class))) ≡ (if copy.number == n then Some copy else None)
    go true is = rw is (rw is refl)
    go false is = rw is refl

slot_shows : (image : Image) (n : ℕ) → content_in_copy (if_here n (copy_of (slot_at image n))) ≡ content_at image n
unfolding copy_at
slot_shows image n = ap content_in_copy (here_again n (class_of_copy n (image n)) (copy_in (image n)))

pub shows_copies : (told : Option Told) (slots : List Slot) → ShowsSlots told slots → ShowsCopies told slots
shows_copies None slots shown = tt
shows_copies (Some t) slots shown =
    λ n below. ap (λ (slot : Slot). content_in_copy (if_here n (copy_of slot))) (shown n below) ∙ slot_shows t.shown n

-- one sector is read
shows_sector : (told : Option Told) (n : ℕ) (bytes : List ℕ) → length bytes ≡ 4096 → Shows told n bytes → ShowsSector told n bytes
shows_sector None n bytes size shown = tt
shows_sector (Some t) n bytes size shown =
    shown ∙ ap (λ (count : ℕ). bytes_at t.shown n count) (one (length bytes) size) ∙ append-nil (t.shown n)
  where
    one : (k : ℕ) → k ≡ 4096 → k / 4096 ≡ 1
    one k is = omega (arith, is)

pub read_shows : {T E : Type 0} → (told : Option Told) (at n : ℕ) (bytes : List ℕ) (result : Result T E)
    → at ≡ n → length bytes ≡ 4096 → OnOk result (Shows told at bytes) → OnOk result (ShowsSector told n bytes)
read_shows told at n bytes (Ok x) same size shown = shows_sector told n bytes size (rw same at shown)
read_shows told at n bytes (Err e) same size shown = tt

-- a room of a copy has the bytes of one sector, whatever its layout
pub room_is_sector : (layout : Layout) (bytes : List ℕ) → FillsRoom layout Superblock bytes → length bytes ≡ 4096
unfolding place_sectors
room_is_sector layout bytes fills = fills

-- a room that was written over as a whole
pub whole_room : (new old : List ℕ) → length new ≡ length old → take (length old) (new ++ drop (length new) old) ≡ new
whole_room new old size = ap (λ (k : ℕ). take k (new ++ drop (length new) old)) (sym size) ∙ take-append_seam new (drop (length new) old)

pub shows_slot : (told : Option Told) (n : ℕ) (bytes held : List ℕ) (slot : Slot)
    → ShowsSector told n bytes → held ≡ bytes → slot ≡ slot_of (own_copy n held) → ShowsCopySlot told n slot
shows_slot None n bytes held slot shown same is = tt
shows_slot (Some t) n bytes held slot shown same is = is ∙ ap (λ (b : List ℕ). slot_of (own_copy n b)) (same ∙ shown)

-- the slot that holds a copy was read as that copy, so the checksum of what was read is right
pub sound_slot : (n : ℕ) (bytes : List ℕ) (slot : Slot) (copy : SuperCopy)
    → slot ≡ Sound copy → slot ≡ slot_of (own_copy n bytes) → has_checksum bytes ≡ true
sound_slot n bytes slot copy sound is = own_has_checksum n bytes copy (read_as_sound (own_copy n bytes) (sym is ∙ sound))
  where
    read_as_sound : (r : Result SuperCopy Class) → slot_of r ≡ Sound copy → r ≡ Ok copy
    read_as_sound (Ok found) same = cc
    read_as_sound (Err class) same = absurd (cc)

pub shows_four : (told : Option Told) (a b c d : Slot) → ShowsCopySlot told 0 a
    → ShowsCopySlot told 1 b → ShowsCopySlot told 2 c → ShowsCopySlot told 3 d → ShowsSlots told (a ∷ b ∷ c ∷ d ∷ [])
shows_four told a b c d first second third fourth zero below = first
shows_four told a b c d first second third fourth (suc zero) below = second
shows_four told a b c d first second third fourth (suc (suc zero)) below = third
shows_four told a b c d first second third fourth (suc (suc (suc zero))) below = fourth
shows_four told a b c d first second third fourth (suc (suc (suc (suc n)))) below = absurd (omega arith)

pub shows_later : (one two : Option Told) (n : ℕ) (slot : Slot) → two ≡ one → ShowsCopySlot two n slot → ShowsCopySlot one n slot
shows_later one two n slot same shown = subst (λ (told : Option Told). ShowsCopySlot told n slot) same shown

-- ---- slots

get_or_any : (slots : List Slot) (n : ℕ) (one two : Slot) → n < length slots → get_or slots n one ≡ get_or slots n two
get_or_any [] n one two inside = absurd (omega arith)
get_or_any (slot ∷ slots) zero one two inside = refl
get_or_any (slot ∷ slots) (suc n) one two inside = get_or_any slots n one two (omega arith)

-- whatever is read past the end
pub read_here : (slots : List Slot) (n m : ℕ) (other : Slot) (f : SuperFields) (b : Bool)
    → n < length slots → m ≡ n → IsTrue b ↔ SlotHolds n (get_or slots m other) f → IsTrue b ↔ IsCopyRead slots f n
read_here slots n m other f b inside same is = subst (λ (slot : Slot).
    IsTrue b ↔ SlotHolds n slot f) (ap (λ (k : ℕ). get_or slots k other) same ∙ get_or_any slots n other nothing inside) is

some_content : (c d : Content) → Some c ≡ Some d → c ≡ d
some_content c d e = cc

pub holds_sound : (n : ℕ) (slot : Slot) (copy : SuperCopy) (f : SuperFields) (b : Bool)
    → slot ≡ Sound copy → copy.number ≡ n → IsTrue b ↔ (copy.fields ≡ f) → IsTrue b ↔ SlotHolds n slot f
holds_sound n slot copy f b is here same =
    let shown : content_in_copy (if_here n (copy_of slot)) ≡ Some (record { checksum = copy.checksum; fields = copy.fields }) =
    ap (λ (s : Slot). content_in_copy (if_here n (copy_of s))) is
    ∙ ap (λ (t : Bool). content_in_copy (if t then Some copy else None)) (eq-eqb copy.number n here) in (
      λ true_b. (record { checksum = copy.checksum; fields = copy.fields }, shown, same.0 true_b),
      λ held. let one : record { checksum = copy.checksum; fields = copy.fields } ≡ held.0 = some_content _ _ (sym shown ∙ held.1) in
          same.1 (ap (λ (c : Content). c.fields) one ∙ held.2),
    )

-- ---- verdicts

-- all but one at most
pub enough_from : (slots : List Slot) (f : SuperFields) (first : ℕ)
    → IsFirstMissing slots f 0 first → ((n : ℕ) → first + 1 ≤ n → n < 4 → IsCopyRead slots f n) → AreEnough slots f
enough_from slots f first is behind = (
  first,
  λ n below away. elim (cases_lt n first) [
    | inl less ↦ is.read n (omega arith) less
    | inr more ↦ behind n (omega (arith, more, order n first more away)) below
  ],
)
  where
    order : (a b : ℕ) → b ≤ a → (a ≡ b → ⊥) → b < a
    order a b more away = omega arith

-- one more
pub read_on : (slots : List Slot) (f : SuperFields) (from next : ℕ) → ((n : ℕ) → from ≤ n → n < next → IsCopyRead slots f n)
    → IsCopyRead slots f next → (n : ℕ) → from ≤ n → n < next + 1 → IsCopyRead slots f n
read_on slots f from next before here n more less = elim (cases_lt n next) [
  | inl low ↦ before n more low
  | inr high ↦ let same : next ≡ n = omega arith in rw same at here
]
