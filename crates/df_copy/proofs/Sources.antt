-- What is known of a source at rest that was opened: its state stands for the view that the open left, whose tail is empty and whose
-- replies are named.
use Rattle.std.{proofs.{Common.{◌≡◌, ◌≢◌, inl, inr, ℕ, ◌+◌, ◌-◌, ◌≤◌, ◌==◌, true, List, [], ◌∷◌, length, Option, Some, None, refl, sym, ◌∙◌, ap, subst, arith, eqb-true}, lemmas.Bool.{and_parts}}, specs.Prelude.{slice_get}}
use Rattle.{df_base.specs.{Fields.{AreBytes}, Image.{IsImage}}, df_disk.specs.Told.{Told}, df_sessions.specs.Requests.{sessions_of}}
use Rattle.{df_layout.specs.declared.{layout.Layout.{Layout}, places.Zone.TheVariants.{Grid}}, df_trailer.specs.Text.{parse_of}}
use Rattle.df_format.{specs.{declared.kind.Kind.{Kind}, Copies.{content_with}, Message.{Message}, Own.{place_in}, Rules.{ObeysBlock, ObeysKind, ObeysTrailer}, Valid.{IsUnit}}, proofs.Laws.{shown_belongs, shown_is_unit}}
use Rattle.df_format.specs.Shown
use Rattle.df_theory.{specs.{Found.{IsFound}, Sessions.{Answers, sessions_after}, Shape.{Shape}, Trailer.{InChain, Links, Says, no_parts, text_of}, Units.{Block, BlockPlace, BlockUnit, Content, Parts, ReplyPlace, ReplyUnit, Session, Units}, View.{View, sessions}}, proofs.Laws.{text_bytes}}
use Rattle.df_theory.specs.Units as units
use Rattle.df_units.{specs.{Bytes.{message_unit, unit_at}, Meaning.{block_of, content_of, layout_of}}, proofs.Laws.{of_places}}
use Rattle.{df_rooms.specs.Recorded.{stored_checks}, df_copy.{specs.Tests.{is_at_rest}, proofs.Rested.{IsEarlier}}}
use Rattle.df_model.{specs.{Blocks.{addresses, entries, sum_at}, Codec.{AreLawful, IsLawful}, Memory.{Memory, memory_of}, Work.{kept, opened}}, proofs.Laws.{entry_at, entry_in, parts_lawful}}
use Rattle.df_opening.{specs.{Below.{IsOpened, State, boot_fields, memory, shape, spelling}, Opened.{begun_state}, Mending.{raised_state}}, proofs.Laws.{codec_of, found_keeps}}

-- the state stands for this view, over what the image shows
pub record IsSource (s : State) (image : Units) (v : View) : Type 0 where
  pub content : v.checkpoint.content ≡ content_of (content_with s.fields)
  pub recorded : (s.fields.head ≡ s.head) × (s.fields.head_checksum ≡ s.head_checksum)
      × (s.fields.replies ≡ s.replies) × (s.fields.reply_checksums ≡ stored_checks s.table.sessions)
  pub rest : (s.fields.op ≡ s.head) × (s.head ≡ s.replies)
  pub tail : v.tail ≡ []
  pub replies : v.replies ≡ s.fields.op
  pub root : v.checkpoint.parts.root ≡ s.root
  pub sessions : v.checkpoint.parts.sessions ≡ sessions_of s.table.sessions
  pub lawful : IsLawful (layout_of s.file.layout) s.fields.op v.checkpoint.parts
  pub below : (k : ℕ) (x : Session) → slice_get v.checkpoint.parts.sessions k ≡ Some x → x.op ≤ s.fields.op
  pub shown : (k : ℕ) (x : Session) → slice_get v.checkpoint.parts.sessions k ≡ Some x
      → (r : units.Message) × (v.stored k ≡ Some r) × (image (ReplyPlace k) ≡ Some (ReplyUnit r)) × Answers x r
  pub no_more : (k : ℕ) (r : units.Message) → v.stored k ≡ Some r → (x : Session) × (slice_get v.checkpoint.parts.sessions k ≡ Some x)
  pub earlier : (k : ℕ) (r : units.Message) → image (ReplyPlace k) ≡ Some (ReplyUnit r) → IsEarlier v.checkpoint.content r
  pub live : (a c : ℕ) → v.checkpoint.parts.references a ≡ Some c → sum_at a s.blocks.live ≡ Some c
  pub back : (a c : ℕ) → sum_at a s.blocks.live ≡ Some c → v.checkpoint.parts.references a ≡ Some c
  pub none : s.fields.trailer_address ≡ 0 → v.checkpoint.parts ≡ no_parts
  pub second : s.fields.trailer_address ≢ 0 → 2 ≤ s.fields.sequence

-- ---- a trailer's block

-- it is a unit of a trailer, whose sequence is 2 at least
module _ (layout : Layout) (cluster : ℕ) (image : ℕ → List ℕ) (whole : IsImage image) (a : ℕ) where
  of_trailer : (u : Message) → Shown.unit_at layout cluster image (place_in Grid a) ≡ Some u → u.header.block_kind ≡ 0 → 2 ≤ u.header.checkpoint
  of_trailer u shown kind =
      let is : IsUnit layout cluster (place_in Grid a) u = shown_is_unit layout cluster image (place_in Grid a) u whole shown in
      elim (shown_belongs layout cluster image (place_in Grid a) u shown).belongs.kind [
        | inl block ↦ let rules : ObeysBlock u.header = subst (λ (k : Kind). ObeysKind k u.header) block is.sealed.rules.kind in
            absurd (omega (arith, rules.block_kind, kind))
        | inr trailer ↦ let rules : ObeysTrailer u.header =
            subst (λ (k : Kind). ObeysKind k u.header) trailer is.sealed.rules.kind in rules.checkpoint.0
      ]

  by_unit : (b : Block) (o : Option Message) → Shown.unit_at layout cluster image (place_in Grid a) ≡ o
      → message_unit (BlockPlace a) o ≡ Some (BlockUnit b) → b.kind ≡ 0 → 2 ≤ b.sequence
  by_unit b None shown is kind = absurd (cc)
  by_unit b (Some u) shown is kind =
      let same : block_of u ≡ b = (let both : Some (BlockUnit (block_of u)) ≡ Some (BlockUnit b) = is in cc) in
      subst (λ (x : Block). 2 ≤ x.sequence) same (of_trailer u shown (ap (λ (x : Block). x.kind) same ∙ kind))

  pub trailer_second : (b : Block) → unit_at layout cluster image (BlockPlace a) ≡ Some (BlockUnit b) → b.kind ≡ 0 → 2 ≤ b.sequence
  trailer_second b is kind = by_unit b (Shown.unit_at layout cluster image (place_in Grid a)) refl is kind

-- ---- the parts

none_linked : (sh : Shape) (room op checksum : ℕ) (c : Content) (chain : List (ℕ × Block)) (parts : Parts)
    → Links room c chain 0 checksum → Says sh op chain parts → parts ≡ no_parts
none_linked sh room op checksum c [] parts links says = says
none_linked sh room op checksum c (x ∷ xs) parts links says = absurd (omega (arith, links.0))

-- a chain that is named has a first link
first_link : (room : ℕ) (c : Content) (chain : List (ℕ × Block)) (address checksum : ℕ) → address ≢ 0
    → Links room c chain address checksum → (a : ℕ) × (b : Block) × InChain a b chain × (b.sequence ≡ c.sequence) × (b.kind ≡ 0)
first_link room c [] address checksum some links = absurd (some links)
first_link room c (x ∷ xs) address checksum some links = (x.0, x.1, inl (refl, refl), links.3, links.6)

no_prepares : (ps : List units.Message) → length ps ≡ 0 → ps ≡ []
no_prepares [] none = refl
no_prepares (p ∷ ps) none = absurd (omega arith)

-- ---- an open

module _ (found : State) (t : Told) (view : View) (whole : IsImage t.shown) (opened_as : IsOpened found.file.layout t.shown found)
    (is : IsFound (shape found.file) (unit_at found.file.layout found.file.cluster t.shown) view) where
  abbrev s : State
  s = raised_state found

  abbrev sh : Shape
  sh = shape found.file

  abbrev image : Units
  image = unit_at found.file.layout found.file.cluster t.shown

  abbrev c : Content
  c = view.checkpoint.content

  abbrev parts : Parts
  parts = view.checkpoint.parts

  abbrev v : View
  v = kept (begun_state found.file t view (boot_fields found))

  stands : memory found ≡ memory_of sh (spelling found.file) (opened sh image view)
  stands = (found_keeps found t.shown view whole opened_as is).1

  same_sessions : sessions_of found.table.sessions ≡ sessions view
  same_sessions = ap (λ (m : Memory). m.sessions) stands

  -- its clients differ
  pub opened_lawful : AreLawful found.file.layout.clients (sessions_of found.table.sessions)
  opened_lawful = subst (AreLawful found.file.layout.clients) (sym same_sessions) (found_keeps found t.shown view whole opened_as is).0.sessions

  own : content_of (content_with found.fields) ≡ c
  own = ap (λ (m : Memory). m.content) stands

  own_op : found.fields.op ≡ c.op
  own_op = ap (λ (d : Content). d.op) own

  bytes : AreBytes (text_of view.checkpoint.chain)
  bytes = text_bytes sh image view.checkpoint.chain (of_places
      found.file.layout found.file.cluster found.file.named (parse_of (layout_of found.file.layout)) t.shown whole) is.chain_shown

  lawful : IsLawful (layout_of found.file.layout) found.fields.op parts
  lawful = subst (λ (op : ℕ). IsLawful (layout_of found.file.layout) op parts) (sym own_op)
      (parts_lawful sh (spelling found.file) (codec_of found.file) c.op view.checkpoint.chain parts bytes is.checkpoint.trailer.says)

  live_is : found.blocks.live ≡ entries parts.references (addresses sh.layout)
  live_is = ap (λ (m : Memory). m.blocks.live) stands

  live : (a sum : ℕ) → parts.references a ≡ Some sum → sum_at a found.blocks.live ≡ Some sum
  live a sum known = let inside = (lawful.references a sum known).0 in
      ap (sum_at a) live_is ∙ entry_at parts.references 1 found.file.layout.blocks a inside.0 (omega (arith, inside.1)) ∙ known

  back : (a sum : ℕ) → sum_at a found.blocks.live ≡ Some sum → parts.references a ≡ Some sum
  back a sum known = entry_in parts.references (addresses sh.layout) a sum (ap (sum_at a) (sym live_is) ∙ known)

  named_none : found.fields.trailer_address ≡ 0 → parts ≡ no_parts
  named_none none = let zeroth : c.trailer ≡ 0 = sym (ap (λ (d : Content). d.trailer) own) ∙ none in
      none_linked sh (sh.layout.block_size - 256)
      c.op c.trailer_checksum c view.checkpoint.chain parts (rw zeroth at is.checkpoint.trailer.links) is.checkpoint.trailer.says

  named_second : found.fields.trailer_address ≢ 0 → 2 ≤ found.fields.sequence
  named_second some = let first = first_link (sh.layout.block_size - 256) c view.checkpoint.chain c.trailer c.trailer_checksum (λ none.
      some (ap (λ (d : Content). d.trailer) own ∙ none)) is.checkpoint.trailer.links in let two =
      trailer_second found.file.layout found.file.cluster t.shown whole first.0 first.1 (is.chain_shown first.0 first.1 first.2) first.4 in
      omega (arith, two, first.3, ap (λ (d : Content). d.sequence) own)

  earlier : (k : ℕ) (r : units.Message) → image (ReplyPlace k) ≡ Some (ReplyUnit r) → IsEarlier v.checkpoint.content r
  earlier k r there = let before = is.not_behind.reply k r there in
      record { checkpoint = omega (arith, before.0, ap (λ (d : Content). d.sequence) own); boot = omega (arith, before.1, ap (λ (d : Content). d.boot) own) }

  module _ (rest : is_at_rest (memory s) ≡ true) where
    op_head : found.fields.op ≡ found.head
    op_head = eqb-true found.fields.op found.head (and_parts (found.fields.op == found.head) (found.head == found.replies) rest).0

    head_replies : found.head ≡ found.replies
    head_replies = eqb-true found.head found.replies (and_parts (found.fields.op == found.head) (found.head == found.replies) rest).1

    same_head : found.head ≡ c.op + length view.tail
    same_head = ap (λ (m : Memory). m.head) stands

    no_tail : view.tail ≡ []
    no_tail = no_prepares view.tail (omega (arith, same_head, op_head, own_op))

    all_replied : view.replies ≡ found.fields.op
    all_replied = sym (ap (λ (m : Memory). m.replies) stands) ∙ sym head_replies ∙ sym op_head

    at_head : sessions view ≡ parts.sessions
    at_head = ap (sessions_after parts.sessions) no_tail

    below : (k : ℕ) (x : Session) → slice_get parts.sessions k ≡ Some x → x.op ≤ found.fields.op
    below k x at = omega (arith, is.checkpoint.tracks.below k x at, own_op)

    pub rest_source : IsSource s image v
    rest_source = record {
      content = refl;
      recorded = (refl, refl, refl, refl);
      rest = (op_head, head_replies);
      tail = no_tail;
      replies = all_replied;
      root = sym (ap (λ (m : Memory). m.root) stands);
      sessions = sym (same_sessions ∙ at_head);
      lawful = lawful;
      below = below;
      shown = λ k x at. let low = below k x at in
          let there = is.stored.shown k x (ap (λ (l : List Session). slice_get l k) at_head ∙ at) (omega (arith, low, all_replied)) in
          (there.0, there.1, there.2, there.3);
      no_more = λ k r at. let there = is.stored.no_more k r at in
          (there.0, ap (λ (l : List Session). slice_get l k) (sym at_head) ∙ there.1);
      earlier = earlier;
      live = live;
      back = back;
      none = named_none;
      second = named_second;
    }
