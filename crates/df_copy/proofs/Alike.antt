-- The view of a copy beside that of its source: the same state in another layout, with the k-th referenced block at address k.
use Rattle.std.{proofs.{Common.{◌≡◌, ◌↔◌, inl, inr, ℕ, zero, suc, ◌+◌, ◌<◌, ◌≤◌, List, [], ◌∷◌, length, map, Option, Some, None, refl, sym, ◌∙◌, ap, arith}, lemmas.Bool.{cases_eq}, lemmas.List.{length-map}, lemmas.Option.{same_Some, slice_get_within}}, specs.{Prelude.{slice_get}, List.{range_with_len}}}
use Rattle.{df_layout.specs.declared.layout.Layout.{Layout}, df_sessions.specs.Requests.{session_of, sessions_of}}
use Rattle.df_format.specs.{declared.superblock.SuperFields.{SuperFields}, Copies.{content_with}, Message.{Message}}
use Rattle.df_sessions.specs.declared.session.Session as told
use Rattle.df_theory.specs.{Trailer.{InChain}, Units.{Block, BlockPlace, BlockUnit, Content, ReplyPlace, ReplyUnit, Units}, View.{View}}
use Rattle.df_theory.specs.Units as units
use Rattle.df_units.{specs.Meaning.{block_of, content_of, layout_of, message_of, number_of}, proofs.Laws.{by_second}}
use Rattle.df_model.{specs.{Blocks.{entries, entry, sum_at}, Making.{named_places}, Memory.{joined, reply_sum}, Sense.{RiseFrom}}, proofs.Laws.{rise_lower}}
use Rattle.df_rooms.specs.Recorded.{check_or_zeros, stored_check, stored_checks}
use Rattle.df_opening.specs.Below.{State, memory, reply_sum as check_sum, stored_sum}
use Rattle.df_copy.{specs.{Targets.{check_of, superblock_of}, Tests.{references}, Units.{moved, moved_from}, Views.{IsCopyOf, SameButLayout, block_address, renamed}}, proofs.{Frees.{numbered_known, numbered_there}, Holding.{as_stored, block_shown, copy_view, item_at, moved_at, none_past, session_reply, shown}, Listed.{moved_length}, Sources.{IsSource}, Usables.{IsNamed, fitted, named_none, named_some, no_trailer_there, trailer_there}}}

-- ---- blocks with their addresses

-- the k-th address with the k-th block
abbrev pub paired : List (ℕ × ℕ) → List Message → List (ℕ × Block)
paired [] us = []
paired (x ∷ xs) [] = []
paired (x ∷ xs) (u ∷ us) = (x.0, block_of u) ∷ paired xs us

paired_length : (xs : List (ℕ × ℕ)) (us : List Message) → length us ≡ length xs → length (paired xs us) ≡ length us
paired_length [] [] same = refl
paired_length [] (u ∷ us) same = absurd (omega (arith, same))
paired_length (x ∷ xs) [] same = absurd (omega (arith, same))
paired_length (x ∷ xs) (u ∷ us) same = ap suc (paired_length xs us (omega (arith, same)))

paired_at : (xs : List (ℕ × ℕ)) (us : List Message) (i : ℕ) (x : ℕ × ℕ) (u : Message)
    → slice_get xs i ≡ Some x → slice_get us i ≡ Some u → InChain x.0 (block_of u) (paired xs us)
paired_at [] us i x u at there = absurd (cc)
paired_at (y ∷ ys) [] i x u at there = absurd (cc)
paired_at (y ∷ ys) (v ∷ us) zero x u at there = let one : y ≡ x = same_Some y x at in let two : v ≡ u = same_Some v u there in
    inl (ap (λ (p : ℕ × ℕ). p.0) (sym one), ap block_of (sym two))
paired_at (y ∷ ys) (v ∷ us) (suc i) x u at there = inr (paired_at ys us i x u at there)

-- where one of them comes from
record IsPair (xs : List (ℕ × ℕ)) (us : List Message) (i a : ℕ) (b : Block) : Type 0 where
  from : ℕ × ℕ
  unit : Message
  at : slice_get xs i ≡ Some from
  there : slice_get us i ≡ Some unit
  address : a ≡ from.0
  block : b ≡ block_of unit

pair_get : (xs : List (ℕ × ℕ)) (us : List Message) (i a : ℕ) (b : Block) → slice_get (paired xs us) i ≡ Some (a, b) → IsPair xs us i a b
pair_get [] us i a b at = absurd (cc)
pair_get (x ∷ xs) [] i a b at = absurd (cc)
pair_get (x ∷ xs) (u ∷ us) zero a b at = let same : (x.0, block_of u) ≡ (a, b) = same_Some (x.0, block_of u) (a, b) at in
    record { from = x; unit = u; at = refl; there = refl; address = ap (λ (p : ℕ × Block). p.0) (sym same); block = ap (λ (p : ℕ × Block). p.1) (sym same) }
pair_get (x ∷ xs) (u ∷ us) (suc i) a b at = let rest = pair_get xs us i a b at in
    record { from = rest.from; unit = rest.unit; at = rest.at; there = rest.there; address = rest.address; block = rest.block }

pair_in : (xs : List (ℕ × ℕ)) (us : List Message) (a : ℕ) (b : Block) → InChain a b (paired xs us) → (i : ℕ) × IsPair xs us i a b
pair_in [] us a b at = absurd at
pair_in (x ∷ xs) [] a b at = absurd at
pair_in (x ∷ xs) (u ∷ us) a b (inl here) = (0, record { from = x; unit = u; at = refl; there = refl; address = here.0; block = here.1 })
pair_in (x ∷ xs) (u ∷ us) a b (inr later) = let rest = pair_in xs us a b later in
    (suc rest.0, record { from = rest.1.from; unit = rest.1.unit; at = rest.1.at; there = rest.1.there; address = rest.1.address; block = rest.1.block })

-- ---- addresses that rise

abbrev first : ℕ × ℕ → ℕ
first x = x.0

entry_rises : (a : ℕ) (o : Option ℕ) (rest : List (ℕ × ℕ)) → RiseFrom (a + 1) (map first rest) → RiseFrom a (map first (entry a o rest))
entry_rises a None rest rise = rise_lower a (a + 1) (map first rest) (omega arith) rise
entry_rises a (Some c) rest rise = (omega arith, rise)

entries_rise : (f : ℕ → Option ℕ) (a n : ℕ) → RiseFrom a (map first (entries f (range_with_len a n)))
entries_rise f a zero = tt
entries_rise f a (suc n) = entry_rises a (f a) (entries f (range_with_len (a + 1) n)) (entries_rise f (a + 1) n)

paired_rise : (a : ℕ) (xs : List (ℕ × ℕ)) (us : List Message) → RiseFrom a (map first xs) → RiseFrom a (map block_address (paired xs us))
paired_rise a [] us rise = tt
paired_rise a (x ∷ xs) [] rise = tt
paired_rise a (x ∷ xs) (u ∷ us) rise = (rise.0, paired_rise (x.0 + 1) xs us rise.1)

-- one that is known is listed
entry_later : (a : ℕ) (o : Option ℕ) (rest : List (ℕ × ℕ)) (x : ℕ × ℕ)
    → ((i : ℕ) × (slice_get rest i ≡ Some x)) → (i : ℕ) × (slice_get (entry a o rest) i ≡ Some x)
entry_later a None rest x there = there
entry_later a (Some c) rest x there = (suc there.0, there.1)

entry_first : (a c : ℕ) (o : Option ℕ) (rest : List (ℕ × ℕ)) → o ≡ Some c → (i : ℕ) × (slice_get (entry a o rest) i ≡ Some (a, c))
entry_first a c None rest is = absurd (cc)
entry_first a c (Some d) rest is = let same : d ≡ c = cc in (0, ap (λ (k : ℕ). Some (a, k)) same)

listed : (f : ℕ → Option ℕ) (a n k c : ℕ)
    → a ≤ k → k < a + n → f k ≡ Some c → (i : ℕ) × (slice_get (entries f (range_with_len a n)) i ≡ Some (k, c))
listed f a zero k c from inside known = absurd (omega (arith, from, inside))
listed f a (suc n) k c from inside known = elim (cases_eq a k) [
  | inl here ↦ rw (← here) (entry_first a c (f a) (entries f (range_with_len (a + 1) n)) (ap f here ∙ known))
  | inr other ↦ entry_later a (f a)
      (entries f (range_with_len (a + 1) n)) (k, c) (listed f (a + 1) n k c (omega (arith, from, other)) (omega (arith, inside)) known)
]

-- ---- checksums by place

mapped_same : (g h : ℕ → List ℕ)
    → ((k : ℕ) → number_of (g k) ≡ number_of (h k)) → (xs : List ℕ) → map number_of (map g xs) ≡ map number_of (map h xs)
mapped_same g h same [] = refl
mapped_same g h same (k ∷ xs) = λ i. same k i ∷ mapped_same g h same xs i

stored_are : (ss : List told.Session) → stored_checks ss ≡ map (λ k. stored_check (slice_get ss k)) (range_with_len 0 named_places)
unfolding stored_checks
stored_are ss = refl

stored_number : (ss : List told.Session) (k sum : ℕ)
    → joined (slice_get (map stored_sum ss) k) ≡ Some sum → number_of (stored_check (slice_get ss k)) ≡ sum
stored_number [] k sum known = absurd (cc)
stored_number (x ∷ ss) zero sum known = by x.reply known
  where
    by : (o : Option (List ℕ)) → check_sum o ≡ Some sum → number_of (check_or_zeros o) ≡ sum
    by None known = absurd (cc)
    by (Some check) known = cc
stored_number (x ∷ ss) (suc k) sum known = stored_number ss k sum known

past_get : (ss : List told.Session) (k : ℕ) → length ss ≤ k → slice_get ss k ≡ None
past_get [] k past = refl
past_get (x ∷ ss) zero past = absurd (omega (arith, past))
past_get (x ∷ ss) (suc k) past = past_get ss k (omega (arith, past))

-- ---- the two views

-- the blocks that were read of a source
pub record WereRead (s : State) (image : Units) (bs : List Message) : Type 0 where
  pub each : (i : ℕ) (b : Message) → slice_get bs i ≡ Some b → (x : ℕ × ℕ) × (slice_get (references (memory s)) i ≡ Some x)
      × (image (BlockPlace x.0) ≡ Some (BlockUnit (block_of b))) × (sum_at x.0 s.blocks.live ≡ Some (number_of b.header.checksum))

module _ (layout : Layout)
    (s : State) (rs bs : List Message) (image : Units) (v : View) (is : IsNamed layout s rs bs) (source : IsSource s image v)
    (read : (k : ℕ) (u : Message) → slice_get rs k ≡ Some u → image (ReplyPlace k) ≡ Some (ReplyUnit (message_of u)))
    (sums : (k : ℕ) (u : Message) → slice_get rs k ≡ Some u → reply_sum (memory s) k ≡ Some (number_of u.header.checksum)) where
  abbrev us : List Message
  us = moved_from 1 bs

  abbrev f : SuperFields
  f = superblock_of layout s rs bs

  abbrev u : View
  u = copy_view layout s rs bs image v is source read

  abbrev target : Units
  target = shown layout s rs bs image v is source read

  abbrev blocks : List (ℕ × Block)
  blocks = paired (references (memory s)) bs

  -- ---- the superblock

  level : s.head_checksum ≡ s.fields.op_checksum
  level = is.state.level (sym source.rest.0)

  same_head : s.fields.head ≡ s.fields.op
  same_head = source.recorded.0 ∙ sym source.rest.0

  same_replies : s.fields.replies ≡ s.fields.op
  same_replies = source.recorded.2 ∙ sym source.rest.1 ∙ sym source.rest.0

  own : s.fields.version ≡ 2
  own = is.state.second.rules.version

  check_same : (k : ℕ) (o : Option Message)
      → slice_get rs k ≡ o → number_of (check_of o) ≡ number_of (stored_check (slice_get s.table.sessions k))
  check_same k None at =
      ap (λ (x : Option told.Session). number_of (stored_check x)) (sym (past_get s.table.sessions k (omega (arith, past, is.each))))
    where
      past : length rs ≤ k
      past = none_past rs k at
  check_same k (Some r) at = sym (stored_number s.table.sessions k (number_of r.header.checksum) (sums k r at))

  checks_same : map number_of f.reply_checksums ≡ map number_of s.fields.reply_checksums
  checks_same = mapped_same (λ k. check_of (slice_get rs k)) (λ k.
      stored_check (slice_get s.table.sessions k)) (λ k. check_same k (slice_get rs k) refl) (range_with_len 0 named_places)
      ∙ ap (map number_of) (sym (source.recorded.3 ∙ stored_are s.table.sessions))

  trailer_both : (f.trailer_address ≡ 0) ↔ (s.fields.trailer_address ≡ 0)
  trailer_both = (
    λ none. elim (cases_eq s.fields.trailer_address 0) [
      | inl nothing ↦ nothing
      | inr some ↦ let there = (trailer_there layout s rs bs (fitted layout s rs bs is) some).0 in
          let last = named_some layout s rs bs (fitted layout s rs bs is) there in absurd (omega (arith, last, none, there))
    ],
    λ none. (named_none layout s rs bs (fitted layout s rs bs is) (no_trailer_there layout s rs bs (fitted layout s rs bs is) none).0).0,
  )

  same_content : SameButLayout (layout_of layout) (content_of (content_with s.fields)) u.checkpoint.content
  same_content = record {
    file = (refl, refl);
    layout_is = refl;
    sequence = refl;
    boot = refl;
    op = (refl, refl);
    head = (sym same_head, sym same_replies);
    pin = (
      by_second f f.head f.op own ∙ sym (by_second s.fields s.fields.head s.fields.op own ∙ same_head),
      ap number_of (by_second f f.head_checksum f.op_checksum own
          ∙ sym (by_second s.fields s.fields.head_checksum s.fields.op_checksum own ∙ source.recorded.1 ∙ level)),
    );
    named = (
      by_second f (f.replies + 1) 0 own ∙ sym (by_second s.fields (s.fields.replies + 1) 0 own ∙ ap (λ (k : ℕ). k + 1) same_replies),
      by_second f (map number_of f.reply_checksums) [] own
          ∙ checks_same ∙ sym (by_second s.fields (map number_of s.fields.reply_checksums) [] own),
    );
    trailer = trailer_both;
  }

  -- ---- replies

  stored_same : (k : ℕ) (o : Option Message) → slice_get rs k ≡ o → as_stored o ≡ v.stored k
  stored_same k (Some r) at = let session = item_at
      (sessions_of s.table.sessions) k (omega (arith, slice_get_within rs k r at, length-map s.table.sessions session_of, is.each)) in
      let own_reply = session_reply layout s rs bs image v is source read k session.0 session.1 in
      let same : own_reply.0 ≡ r = same_Some own_reply.0 r (sym own_reply.1 ∙ at) in
      ap (λ (q : Message). Some (message_of q)) (sym same) ∙ sym own_reply.3
  stored_same k None at = by (v.stored k) refl
    where
      by : (q : Option units.Message) → v.stored k ≡ q → None ≡ q
      by None there = refl
      by (Some r) there = let session = source.no_more k r there in
          let inside = slice_get_within v.checkpoint.parts.sessions k session.0 session.1 in
          absurd (omega (arith, inside, ap length source.sessions, length-map s.table.sessions session_of, is.each, none_past rs k at))

  -- ---- blocks

  module _ (from : Units) (were : WereRead s from bs) where
    all_there : length bs ≡ length (references (memory s))
    all_there = is.all

    referenced_each : (a : ℕ) (b : Block)
        → InChain a b blocks → (from (BlockPlace a) ≡ Some (BlockUnit b)) × (v.checkpoint.parts.references a ≡ Some b.checksum)
    referenced_each a b at = let one = (pair_in (references (memory s)) bs a b at).1 in
        let found = were.each (pair_in (references (memory s)) bs a b at).0 one.unit one.there in
        let same : found.0 ≡ one.from = same_Some found.0 one.from (sym found.1 ∙ one.at) in
        let here : found.0.0 ≡ a = ap first same ∙ sym one.address in let block : block_of one.unit ≡ b = sym one.block in (
          rw here at (found.2 ∙ ap (λ (x : Block). Some (BlockUnit x)) block),
          rw here at (source.back found.0.0 (number_of one.unit.header.checksum) found.3 ∙ ap (λ (x : Block). Some x.checksum) block),
        )

    referenced_all : (a sum : ℕ) → v.checkpoint.parts.references a ≡ Some sum → (b : Block) × InChain a b blocks
    referenced_all a sum known = let inside = (source.lawful.references a sum known).0 in let there =
        listed (λ k. sum_at k s.blocks.live) 1 s.file.layout.blocks a sum inside.0 (omega (arith, inside.1)) (source.live a sum known) in
        let unit = item_at bs there.0 (omega (arith, slice_get_within (references (memory s)) there.0 (a, sum) there.1, all_there)) in
        (block_of unit.0, paired_at (references (memory s)) bs there.0 (a, sum) unit.0 there.1 unit.1)

    renamed_each : (i a : ℕ) (b : Block) → slice_get blocks i ≡ Some (a, b)
        → (sum : ℕ) × (u.checkpoint.parts.references (i + 1) ≡ Some sum) × (target (BlockPlace (i + 1)) ≡ Some (BlockUnit (renamed sum b)))
    renamed_each i a b at = let one = pair_get (references (memory s)) bs i a b at in let there = moved_at 1 bs i one.unit one.there in
        let next : i + 1 ≡ 1 + i = omega arith in (
          number_of (moved (1 + i) one.unit).header.checksum,
          numbered_there 1 i (i + 1) us (moved (1 + i) one.unit) there next,
          block_shown layout s rs bs image v is source read i (i + 1) (moved (1 + i) one.unit) there refl
              ∙ ap (λ (x : Block). Some (BlockUnit (renamed (number_of (moved (1 + i) one.unit).header.checksum) x))) (sym one.block),
        )

    renamed_only : (k sum : ℕ) → u.checkpoint.parts.references k ≡ Some sum → (0 < k) × (k ≤ length blocks)
    renamed_only k sum known = let one = numbered_known 1 k sum us known in let inside = slice_get_within us one.place one.unit one.at in
        (omega (arith, one.address), omega (arith, one.address, inside, moved_length 1 bs, paired_length (references (memory s)) bs all_there))

    pub copy_alike : IsCopyOf (layout_of layout) from v target u
    copy_alike = record {
      content = rw (sym source.content) at same_content;
      root = sym source.root;
      sessions = sym source.sessions;
      rest = (source.tail, refl);
      replies = sym source.replies;
      stored = λ k. stored_same k (slice_get rs k) refl;
      blocks = blocks;
      are = record { rise = paired_rise 1 (references (memory s)) bs (entries_rise (λ a. sum_at a s.blocks.live) 1 s.file.layout.blocks); each = referenced_each; all = referenced_all };
      renamed = record { each = renamed_each; only = renamed_only };
    }

-- and so it is beside an image that shows the same blocks
pub alike_on : (layout : units.Layout) (from : Units) (v : View) (there other : Units) (u : View)
    → ((a : ℕ) → other (BlockPlace a) ≡ there (BlockPlace a)) → IsCopyOf layout from v there u → IsCopyOf layout from v other u
alike_on layout from v there other u same is = record {
  content = is.content;
  root = is.root;
  sessions = is.sessions;
  rest = is.rest;
  replies = is.replies;
  stored = is.stored;
  blocks = is.blocks;
  are = is.are;
  renamed = record { each = λ i a b at. let there = is.renamed.each i a b at in (there.0, there.1, same (i + 1) ∙ there.2); only = is.renamed.only };
}
