-- A target on which nothing was written holds the copy whole after all that is written: an open finds it, nothing is to be mended, and each
-- block that it references is shown. So does an image that shows all of that but for some copies of the superblock, to be mended.
use Rattle.std.{proofs.{Common.{◌≡◌, inl, inr, ℕ, zero, suc, ◌+◌, ◌<◌, ◌≤◌, List, [], ◌∷◌, ◌++◌, length, map, Option, Some, None, refl, sym, ◌∙◌, ap, subst, arith}, lemmas.Bool.{cases_lt}, lemmas.List.{get_or-map, length-map}, lemmas.Option.{same_Some, slice_get_within}}, specs.Prelude.{slice_get, slice_index}}
use Rattle.{df_base.{specs.Image.{Image, IsImage, blank}, proofs.Laws.{blank_is_image}}, df_layout.specs.declared.layout.Layout.{Layout}}
use Rattle.df_format.specs.{declared.kind.Kind.{Kind}, declared.kind.Kind.TheVariants.{Block as IsBlock}, declared.superblock.SuperFields.{SuperFields}, Message.{Message}, Rules.{ObeysBlock, ObeysKind}}
use Rattle.df_theory.specs.{Copies.{Agree}, Found.{IsFound}, Holds.{IsWhole, Stands}, MakingLaws.{AllReserved, all_puts}, CopyPuts.{update_steps}, Rests.{IsCopy}, Runs.{Step, Syncs}, Sessions.{Answers}, Shape.{Shape}, Trailer.{InChain}, Units.{AnyUnit, Block, BlockPlace, BlockUnit, Content, CopyPlace, CopyUnit, Header, HeaderPlace, HeaderUnit, Place, ReplyPlace, ReplyUnit, Session, Units}, View.{Checkpoint, View}}
use Rattle.df_theory.specs.Units as units
use Rattle.df_units.{specs.{Bytes.{unit_at}, Making.{header_puts}, Meaning.{block_of, message_of, number_of}, Puts.{put_copies}}, proofs.Laws.{blank_empty, by_second}}
use Rattle.{df_sessions.specs.Requests.{session_of, sessions_of}, df_model.specs.Making.{named_places}, df_grid.specs.Writes.{block_steps}}
use Rattle.df_opening.{specs.{Below.{State, shape}, Making.{reserved_table, sectors_in}, Sparing.{image_after}}, proofs.Laws.{shown_by, stays_whole, unit_after}}
use Rattle.df_copy.{specs.{Targets.{all_steps, check_of, checks_of, copy_events, copy_steps, reply_steps, superblock_of, trailer_of}, Units.{moved, moved_from}, Views.{IsOlder, file_in}}, proofs.{Afters.{placed}, Frees.{numbered_known}, Images.{image_behind, row_steps, shows_block, shows_copy, shows_no_prepare, shows_no_reply, shows_reply, shows_reserved, shows_slot, shows_trailer}, Listed.{check_at, many_checks, moved_length}, Rested.{IsEarlier, NamesAll, ShowsRest, moved_rest, rest_found, rest_whole, view_at_rest}, Rings.{ring_all_reserved, ring_reaches}, Rows.{as_block, as_reply, block_rows, reply_rows, row_at, row_placed}, Sources.{IsSource}, Trailed.{chain_in, copy_chain, copy_content, copy_parts, copy_sound}, Usables.{IsNamed, copy_are_steps}, Written.{trailer_in_row}}}

-- ---- lists

pub mapped : {X Y : Type 0} (g : X → Y) (xs : List X) (i : ℕ) (x : X) → slice_get xs i ≡ Some x → slice_get (map g xs) i ≡ Some (g x)
mapped g [] i x at = absurd (cc)
mapped {X = X} g (y ∷ xs) zero x at = ap (λ (z : X). Some (g z)) (same_Some y x at)
mapped g (y ∷ xs) (suc i) x at = mapped g xs i x at

pub item_at : {X : Type 0} (xs : List X) (i : ℕ) → i < length xs → (x : X) × (slice_get xs i ≡ Some x)
item_at [] i inside = absurd (omega (arith, inside))
item_at (x ∷ xs) zero inside = (x, refl)
item_at (x ∷ xs) (suc i) inside = item_at xs i (omega (arith, inside))

pub none_past : {X : Type 0} (xs : List X) (k : ℕ) → slice_get xs k ≡ None → length xs ≤ k
none_past xs k none = elim (cases_lt k (length xs)) [
  | inl inside ↦ absurd (let there = item_at xs k inside in let both : None ≡ Some there.0 = sym none ∙ there.1 in cc)
  | inr past ↦ past
]

-- a block that was moved
pub moved_at : (a : ℕ) (xs : List Message) (i : ℕ) (b : Message)
    → slice_get xs i ≡ Some b → slice_get (moved_from a xs) i ≡ Some (moved (a + i) b)
moved_at a [] i b at = absurd (cc)
moved_at a (x ∷ xs) zero b at = let plain : a ≡ a + 0 = omega arith in
    ap (λ (m : Message). Some (moved a m)) (same_Some x b at) ∙ ap (λ (k : ℕ). Some (moved k b)) plain
moved_at a (x ∷ xs) (suc i) b at = let on : a + 1 + i ≡ a + suc i = omega arith in
    moved_at (a + 1) xs i b at ∙ ap (λ (k : ℕ). Some (moved k b)) on

pub moved_back : (a : ℕ) (xs : List Message) (i : ℕ) (u : Message)
    → slice_get (moved_from a xs) i ≡ Some u → (b : Message) × (slice_get xs i ≡ Some b) × (u ≡ moved (a + i) b)
moved_back a xs i u at = let inside : i < length xs = omega (arith, slice_get_within (moved_from a xs) i u at, moved_length a xs) in
    let there = item_at xs i inside in (there.0, there.1, same_Some u (moved (a + i) there.0) (sym at ∙ moved_at a xs i there.0 there.1))

-- the replies by place
abbrev pub as_stored : Option Message → Option units.Message
as_stored None = None
as_stored (Some u) = Some (message_of u)

abbrev pub stored_of : List Message → ℕ → Option units.Message
stored_of rs k = as_stored (slice_get rs k)

-- an image on which nothing was written shows nothing
pub nothing_shown : (layout : Layout) (cluster : ℕ) (image : Image)
    → ((sector : ℕ) → image sector ≡ blank sector) → (image ≡ blank) × ((place : Place) → unit_at layout cluster image place ≡ None)
nothing_shown layout cluster image empty = let same : image ≡ blank = λ i sector. empty sector i in
    (same, λ place. ap (λ (m : Image). unit_at layout cluster m place) same ∙ blank_empty layout cluster place)

-- ---- the copy

module _ (layout : Layout)
    (s : State) (rs bs : List Message) (image : Units) (v : View) (is : IsNamed layout s rs bs) (source : IsSource s image v)
    (read : (k : ℕ) (u : Message) → slice_get rs k ≡ Some u → image (ReplyPlace k) ≡ Some (ReplyUnit (message_of u))) where
  abbrev cluster : ℕ
  cluster = s.file.cluster

  abbrev us : List Message
  us = moved_from 1 bs

  abbrev ts : List Message
  ts = trailer_of layout s us

  abbrev f : SuperFields
  f = superblock_of layout s rs bs

  abbrev sh : Shape
  sh = shape (file_in layout s.file)

  abbrev c : Content
  c = copy_content layout s rs bs image v is source

  abbrev pub copy_checkpoint : Checkpoint
  copy_checkpoint =
      record { content = c; chain = copy_chain layout s rs bs image v is source; parts = copy_parts layout s rs bs image v is source }

  abbrev pub copy_view : View
  copy_view = view_at_rest copy_checkpoint (stored_of rs)

  -- ---- what it shows

  abbrev puts : List Units
  puts = header_puts 0 (sectors_in layout (reserved_table layout cluster))

  abbrev replies : List AnyUnit
  replies = map as_reply rs

  abbrev blocks : List AnyUnit
  blocks = map as_block us

  abbrev trailer : List AnyUnit
  trailer = map as_block ts

  abbrev reserved : AllReserved puts
  reserved = ring_all_reserved layout cluster s.file.named is.state.cluster

  abbrev pub shown : Units
  shown = image_behind puts reserved replies blocks trailer f

  steps_are : copy_steps layout s rs bs ≡ row_steps puts reserved replies blocks trailer f
  steps_are = let one : all_steps reply_steps rs ≡ placed ReplyPlace 0 replies = row_placed (reply_rows layout cluster) 0 rs is.replies in
      let two : all_steps block_steps us ≡ placed BlockPlace 1 blocks = row_placed (block_rows layout cluster) 1 us is.blocks in
      let three : all_steps block_steps ts ≡ placed BlockPlace (length blocks + 1) trailer =
      row_placed (block_rows layout cluster) (length us + 1) ts (trailer_in_row layout s rs bs is.writable)
      ∙ ap (λ (k : ℕ). placed BlockPlace (k + 1) trailer) (sym (length-map us as_block)) in
      λ i. ((all_puts puts ++ (one i ++ two i)) ++ three i) ++ (Syncs ∷ update_steps (put_copies f))

  -- after all steps, where nothing was shown
  pub shown_after : (place : Place) → unit_after (copy_steps layout s rs bs) place None ≡ shown place
  shown_after place = ap (λ (ss : List Step). unit_after ss place None) steps_are

  -- after all that is written, where nothing was
  pub place_shows : (start : Image) → ((sector : ℕ) → start sector ≡ blank sector)
      → (place : Place) → unit_at layout cluster (image_after (copy_events layout s rs bs) start) place ≡ shown place
  place_shows start empty place = let both = nothing_shown layout cluster start empty in
      shown_by layout cluster (copy_events layout s rs bs)
      (copy_steps layout s rs bs) start (copy_are_steps layout s rs bs is) (subst IsImage (sym both.0) blank_is_image) place
      ∙ ap (unit_after (copy_steps layout s rs bs) place) (both.1 place) ∙ shown_after place

  -- ---- its superblock

  second : f.version ≡ 2
  second = is.state.second.rules.version

  pub own_version : s.file.version ≡ 2
  own_version = sym is.state.version ∙ second

  -- it has whole sectors
  pub copy_image : (start : Image) → ((sector : ℕ) → start sector ≡ blank sector) → IsImage (image_after (copy_events layout s rs bs) start)
  copy_image start empty = stays_whole layout cluster (copy_events layout s rs bs) (copy_steps layout s rs bs)
      start (copy_are_steps layout s rs bs is) (subst IsImage (sym (nothing_shown layout cluster start empty).0) blank_is_image)

  all_named : NamesAll c
  all_named = record {
    head = refl;
    replies = refl;
    pin = by_second f f.head f.op second;
    pin_checksum = ap number_of (by_second f f.head_checksum f.op_checksum second);
    answered = by_second f (f.replies + 1) 0 second;
  }

  few : length rs ≤ named_places
  few = omega (arith, is.each, is.fits, layout.clients_within)

  pub named_check : (k : ℕ) (u : Message) → slice_get rs k ≡ Some u → slice_index c.reply_checksums k ≡ number_of u.header.checksum
  named_check k u at = let inside : k < named_places = omega (arith, slice_get_within rs k u at, few) in
      ap (λ (l : List ℕ). slice_index l k) (by_second f (map number_of f.reply_checksums) [] second)
      ∙ get_or-map number_of (checks_of rs) k [] 0 (omega (arith, inside, many_checks rs))
      ∙ ap number_of (check_at rs k [] inside) ∙ ap (λ (o : Option Message). number_of (check_of o)) at

  -- ---- its replies

  reply_shown : (k : ℕ) (u : Message) → slice_get rs k ≡ Some u → shown (ReplyPlace k) ≡ Some (ReplyUnit (message_of u))
  reply_shown k u at = shows_reply puts reserved replies blocks trailer f k (as_reply u) (mapped as_reply rs k u at)

  reply_earlier : (k : ℕ) (o : Option Message)
      → slice_get rs k ≡ o → (r : units.Message) → shown (ReplyPlace k) ≡ Some (ReplyUnit r) → IsEarlier c r
  reply_earlier k None at r there = absurd (let none = shows_no_reply puts reserved replies blocks trailer
      f k (omega (arith, none_past rs k at, length-map rs as_reply)) in let both : None ≡ Some (ReplyUnit r) = sym none ∙ there in cc)
  reply_earlier k (Some u) at r there =
      let same : message_of u ≡ r = (let both : Some (ReplyUnit (message_of u)) ≡ Some (ReplyUnit r) = sym (reply_shown k u at) ∙ there in cc) in
      let before = source.earlier k (message_of u) (read k u at) in
      subst (IsEarlier c) same (record { checkpoint = omega (arith, before.checkpoint, ap (λ (d : Content). d.sequence) source.content); boot = omega (arith, before.boot, ap (λ (d : Content). d.boot) source.content) })

  -- each session has its own
  pub session_reply : (k : ℕ) (x : Session) → slice_get (sessions_of s.table.sessions) k ≡ Some x
      → (u : Message) × (slice_get rs k ≡ Some u) × Answers x (message_of u) × (v.stored k ≡ Some (message_of u))
  session_reply k x at = let there = source.shown k x (ap (λ (l : List Session). slice_get l k) source.sessions ∙ at) in
      let inside : k < length rs =
      omega (arith, slice_get_within (sessions_of s.table.sessions) k x at, length-map s.table.sessions session_of, is.each) in
      let own = item_at rs k inside in let same : there.0 ≡ message_of own.0 =
      (let both : Some (ReplyUnit there.0) ≡ Some (ReplyUnit (message_of own.0)) = sym there.2 ∙ read k own.0 own.1 in cc) in
      (own.0, own.1, subst (Answers x) same there.3, there.1 ∙ ap (λ (r : units.Message). Some r) same)

  pub session_there : (k : ℕ) (o : Option Message) (r : units.Message)
      → slice_get rs k ≡ o → as_stored o ≡ Some r → (x : Session) × (slice_get (sessions_of s.table.sessions) k ≡ Some x)
  session_there k None r at is_r = absurd (cc)
  session_there k (Some u) r at is_r =
      item_at (sessions_of s.table.sessions) k (omega (arith, slice_get_within rs k u at, length-map s.table.sessions session_of, is.each))

  -- ---- its blocks

  chain_shown : (a : ℕ) (x : Block) → InChain a x copy_checkpoint.chain → shown (BlockPlace a) ≡ Some (BlockUnit x)
  chain_shown a x at = elim (chain_in ts [] a x at) [
    | inl one ↦ let here : length us + 1 + one.0 ≡ length us + 1 + one.0 = refl in let address = (row_at (block_rows layout cluster)
        (length us + 1) one.0 (length us + 1 + one.0) ts one.1 (trailer_in_row layout s rs bs is.writable) one.2 here).0 in
        shows_trailer puts reserved replies blocks trailer f one.0 a (as_block one.1) (mapped as_block ts one.0 one.1 one.2)
        (omega (arith, one.3, address, length-map us as_block)) ∙ ap (λ (y : Block). Some (BlockUnit y)) (sym one.4)
    | inr none ↦ absurd none
  ]

  pub block_shown : (i a : ℕ) (u : Message) → slice_get us i ≡ Some u → a ≡ i + 1 → shown (BlockPlace a) ≡ Some (BlockUnit (block_of u))
  block_shown i a u at here = shows_block puts reserved replies
      blocks trailer f i a (as_block u) (mapped as_block us i u at) here (omega (arith, slice_get_within us i u at, length-map us as_block))

  -- ---- an open of it

  pub copies_shown : (n : ℕ) → n < 4 → shown (CopyPlace n) ≡ Some (CopyUnit c)
  copies_shown = shows_copy puts reserved replies blocks trailer f

  slots_shown : (slot : ℕ) → slot < layout.slots → (h : Header) × (shown (HeaderPlace slot) ≡ Some (HeaderUnit h))
  slots_shown slot inside =
      shows_slot puts reserved replies blocks trailer f slot (ring_reaches layout cluster s.file.named is.state.cluster slot inside)

  shows_rest : ShowsRest sh shown copy_checkpoint (stored_of rs)
  shows_rest = record {
    agreed = record { first = 0; second = 1; apart = omega arith; inside = omega arith; at_first = copies_shown 0 (omega arith); at_second = copies_shown 1 (omega arith) };
    only = λ n d inside there. let both : Some (CopyUnit d) ≡ Some (CopyUnit c) = sym there ∙ copies_shown n inside in cc;
    headers = shows_reserved puts reserved replies blocks trailer f;
    prepares = shows_no_prepare puts reserved replies blocks trailer f;
    chain = chain_shown;
    replies = λ k r there. reply_earlier k (slice_get rs k) refl r there;
    shown = λ k x at. let own = session_reply k x at in
        (message_of own.0, ap as_stored own.1, reply_shown k own.0 own.1, own.2, named_check k own.0 own.1);
    no_more = λ k r at. session_there k (slice_get rs k) r refl at;
  }

  -- it is whole with all copies and all headers
  pub copy_whole : IsWhole sh shown copy_view
  copy_whole = rest_whole
      sh shown copy_checkpoint (stored_of rs) (copy_sound layout s rs bs image v is source) all_named shows_rest copies_shown slots_shown

  -- ---- an image that shows that, but for some of the copies

  module _ (there : Units) (same : (place : Place) → (IsCopy place → ⊥) → there place ≡ shown place)
      (agreed : Agree there c) (only : (n : ℕ) (d : Content) → n < 4 → there (CopyPlace n) ≡ Some (CopyUnit d) → d ≡ c) where
    rest_there : ShowsRest sh there copy_checkpoint (stored_of rs)
    rest_there = moved_rest sh shown there copy_checkpoint (stored_of rs) shows_rest same agreed only

    pub copy_found : IsFound sh there copy_view
    copy_found = rest_found sh there copy_checkpoint (stored_of rs) (copy_sound layout s rs bs image v is source) all_named rest_there

    -- the superblock is newer than all that it shows
    pub copy_older : IsOlder there copy_view
    copy_older = record {
      prepares = rest_there.prepares;
      replies = λ k r at. (rest_there.replies k r at).boot;
      counted = (omega (arith, all_named.head), sym all_named.replies);
    }

    module _ (kinds : (i : ℕ) (b : Message) → slice_get bs i ≡ Some b → b.header.kind ≡ IsBlock) where
      -- a block of a kind that is above 0
      own_kind : (i : ℕ) (u : Message) → slice_get us i ≡ Some u → 0 < u.header.block_kind
      own_kind i u at = let one : 1 + i ≡ 1 + i = refl in
          let unit = (row_at (block_rows layout cluster) 1 i (1 + i) us u is.blocks at one).1 in let from = moved_back 1 bs i u at in
          let kind : u.header.kind ≡ IsBlock = ap (λ (m : Message). m.header.kind) from.2 ∙ kinds i from.0 from.1 in
          let rules : ObeysBlock u.header = subst (λ (k : Kind). ObeysKind k u.header) kind unit.sealed.rules.kind in rules.block_kind

      pub copy_stands : Stands there copy_view
      copy_stands a sum known = let one = numbered_known 1 a sum us known in
          (block_of one.unit, same (BlockPlace a) (λ no. no) ∙ block_shown one.place a one.unit one.at (omega (arith, one.address)), sym one.sum, own_kind one.place one.unit one.at)
