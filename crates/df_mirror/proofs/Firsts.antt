-- An image has one first known unit that isn't shown.
use Rattle.std.{proofs.{Common.{◌≡◌, ℕ, ◌+◌, ◌%◌, ◌<◌, List, refl, sym, ◌∙◌, ap, arith, inl, inr}, lemmas.Bool.{cases_order}, lemmas.Option.{same_Some}}, specs.Prelude.{slice_index}}
use Rattle.df_format.specs.{declared.kind.Kind.{Kind}, declared.kind.Kind.TheVariants.{Block as AsBlock, Prepare as AsPrepare, Reply as AsReply, Reserved, Trailer as AsTrailer}}
use Rattle.df_theory.{specs.{Opens.{AreKnown, named_by}, Shape.{Shape, slots}, Units.{BlockPlace, Content, Message, Place, PreparePlace, PrepareUnit, ReplyPlace, Units}}, proofs.Laws.{known_one}}
use Rattle.df_mirror.{specs.Known.{ComesBefore, IsNamedPrepare, IsNext, IsReferencedBlock, IsShownAs, rank_of_kind}, proofs.{Chains.{one_wanted, shown_block}, Logs.{named_shown}, Ones.{one_trailer}}}

-- one kind, one place and one checksum
abbrev pub AreOne : (kind other : Kind) (place at : Place) (sum n : ℕ) → Type 0
AreOne kind other place at sum n = (kind ≡ other) × (place ≡ at) × (sum ≡ n)

module _ (sh : Shape) (image : Units) (c : Content) where
  abbrev Next : Kind → Place → ℕ → Type 0
  Next kind place sum = IsNext sh image c kind place sum

  -- the first one has none before it
  not_before : (kind other : Kind) (place at : Place) (sum n : ℕ)
      → Next kind place sum → Next other at n → ComesBefore kind other place at → ⊥
  not_before kind other place at sum n one two comes = one.lacks (two.first kind place sum comes one.known)

  -- ---- of one kind

  trailers : (place at : Place) (sum n : ℕ) → Next AsTrailer place sum → Next AsTrailer at n → AreOne AsTrailer AsTrailer place at sum n
  trailers (BlockPlace a) (BlockPlace e) sum n one two = let same = one_wanted sh image c a sum e n one.known two.known (λ shown.
      one.lacks (shown_block image a sum shown)) (λ shown. two.lacks (shown_block image e n shown)) in
      (refl, ap (λ (x : ℕ). BlockPlace x) same.0, same.1)
  trailers (BlockPlace a) at sum n one two = absurd two.known
  trailers place at sum n one two = absurd one.known

  blocks : (place at : Place) (sum n : ℕ) → Next AsBlock place sum → Next AsBlock at n → AreOne AsBlock AsBlock place at sum n
  blocks (BlockPlace a) (BlockPlace e) sum n one two = elim (cases_order a e) [
    | inl same ↦ let first : IsReferencedBlock sh image c a sum = one.known in let second : IsReferencedBlock sh image c e n = two.known in
        let parts = one_trailer sh image c first.says second.says in
        (refl, ap (λ (x : ℕ). BlockPlace x) same, same_Some sum n (sym first.reference ∙ (λ i. (parts i).references (same i)) ∙ second.reference))
    | inr (inl less) ↦ absurd (not_before AsBlock AsBlock (BlockPlace a) (BlockPlace e) sum n one two less)
    | inr (inr more) ↦ absurd (not_before AsBlock AsBlock (BlockPlace e) (BlockPlace a) n sum two one more)
  ]
  blocks (BlockPlace a) at sum n one two = absurd two.known
  blocks place at sum n one two = absurd one.known

  -- of two prepares that are known the later one is shown
  later_shown : (s r sum n : ℕ) (first : IsNamedPrepare sh image c s sum) (second : IsNamedPrepare sh image c r n)
      → first.op < second.op → IsShownAs image AsPrepare (PreparePlace r) n
  later_shown s r sum n first second less = let there = named_shown (slots sh)
      image c.pin_checksum c.pin first.op second.op first.later second.later first.known first.count less second.known second.count in
      record { unit = PrepareUnit there.0; shown = ap (λ (x : ℕ). image (PreparePlace x)) second.slot_is ∙ there.1; of_kind = tt; sum_is = there.2 ∙ sym second.sum_is }

  prepares : (place at : Place) (sum n : ℕ) → Next AsPrepare place sum → Next AsPrepare at n → AreOne AsPrepare AsPrepare place at sum n
  prepares (PreparePlace s) (PreparePlace r) sum n one two = let first : IsNamedPrepare sh image c s sum = one.known in
      let second : IsNamedPrepare sh image c r n = two.known in elim (cases_order first.op second.op) [
        | inl same ↦ let known : AreKnown (slots sh) image (second.op + 1) c.pin_checksum first.later = rw same at first.known in
            let later = known_one (slots sh) image
            (second.op + 1) c.pin_checksum first.later second.later known second.known (omega (arith, first.count, second.count, same)) in
            (refl, ap (λ (x : ℕ). PreparePlace x) (first.slot_is ∙ ap (λ (op : ℕ). op % slots sh) same ∙ sym second.slot_is), first.sum_is ∙ ap (λ (l : List Message). named_by c.pin_checksum l) later ∙ sym second.sum_is)
        | inr (inl less) ↦ absurd (two.lacks (later_shown s r sum n first second less))
        | inr (inr more) ↦ absurd (one.lacks (later_shown r s n sum second first more))
      ]
  prepares (PreparePlace s) at sum n one two = absurd two.known
  prepares place at sum n one two = absurd one.known

  replies : (place at : Place) (sum n : ℕ) → Next AsReply place sum → Next AsReply at n → AreOne AsReply AsReply place at sum n
  replies (ReplyPlace j) (ReplyPlace k) sum n one two = elim (cases_order j k) [
    | inl same ↦ (refl, ap (λ (x : ℕ). ReplyPlace x) same, one.known.sum_is ∙ ap (λ (x : ℕ). slice_index c.reply_checksums x) same ∙ sym two.known.sum_is)
    | inr (inl less) ↦ absurd (not_before AsReply AsReply (ReplyPlace j) (ReplyPlace k) sum n one two less)
    | inr (inr more) ↦ absurd (not_before AsReply AsReply (ReplyPlace k) (ReplyPlace j) n sum two one more)
  ]
  replies (ReplyPlace j) at sum n one two = absurd two.known
  replies place at sum n one two = absurd one.known

  -- ---- of any kind

  -- of two kinds one comes before the other
  apart : (kind other : Kind) (place at : Place) (sum n : ℕ) → Next kind place sum → Next other at n
      → (rank_of_kind kind < rank_of_kind other → ComesBefore kind other place at)
      → (rank_of_kind other < rank_of_kind kind → ComesBefore other kind at place) → rank_of_kind kind ≡ rank_of_kind other
  apart kind other place at sum n one two before behind = elim (cases_order (rank_of_kind kind) (rank_of_kind other)) [
    | inl same ↦ same
    | inr (inl less) ↦ absurd (not_before kind other place at sum n one two (before less))
    | inr (inr more) ↦ absurd (not_before other kind at place n sum two one (behind more))
  ]

  pub one_next : (kind other : Kind) (place at : Place) (sum n : ℕ) → Next kind place sum → Next other at n → AreOne kind other place at sum n
  one_next AsTrailer AsTrailer place at sum n one two = trailers place at sum n one two
  one_next AsBlock AsBlock place at sum n one two = blocks place at sum n one two
  one_next AsPrepare AsPrepare place at sum n one two = prepares place at sum n one two
  one_next AsReply AsReply place at sum n one two = replies place at sum n one two
  one_next Reserved other place at sum n one two = absurd one.known
  one_next kind Reserved place at sum n one two = absurd two.known
  one_next kind other place at sum n one two =
      absurd (omega (arith, apart kind other place at sum n one two (λ less. less) (λ more. more)))
