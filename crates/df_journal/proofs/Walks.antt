-- The walk along the tail, prepare by prepare: those that are taken, in the table and in the image.
use Rattle.std.{proofs.{Common.{◌≡◌, take, ◌-◌, inl, inr, ℕ, ◌+◌, ◌%◌, ◌<◌, ◌^◌, ◌≤◌, List, [], ◌∷◌, ◌++◌, length, Some, sym, ◌∙◌, ap, subst, arith, length-append, append_assoc}, lemmas.Bool.{cases_eq, cases_lt}, lemmas.Option.{slice_get_cases}, Math.Nat.{mod-lt}}, specs.List.{slice_get}}
use Rattle.{df_layout.{specs.declared.layout.Layout.{Layout}, proofs.Laws.{some_slots}}, df_format.specs.declared.header.Header.{Header}}
use Rattle.df_sessions.specs.{declared.session.Session.{Session}, Requests.{sessions_of}, Table.{requested, with_request}}
use Rattle.df_theory.specs.Units
use Rattle.df_theory.{specs.{Units.{PreparePlace, PrepareUnit}, Sessions.{sessions_after}, Tails.{AreGroups, Chain, Fits, FitsGroup, In, last_checksum, last_mark}, Shape.{Shape, clients, slots}, View.{Checkpoint}, Found.{IsReach}, Opens.{AreFitting, AreKnown}}, proofs.Laws.{chain_append, chain_ops, last_mark-append, sessions-append, in_either, walk_law, last_checksum-append}}
use Rattle.df_theory.specs.Cases
use Rattle.{df_units.specs.Meaning.{header_of, number_of}, df_buffers.specs.declared.slots.SlotSeen.{SlotSeen}}
use Rattle.df_group.{specs.{declared.groups.Tail.{Tail}, declared.groups.Position.{Position}}, proofs.Laws.{IsAhead, IsWalk, behind, chain_end, end_at, first_in, fits_behind, fits_same, groups_join, groups_split, in_last, in_some, walk_begins, walk_on}}
use Rattle.df_journal.{specs.{declared.table.Start.{Start}, Known.{AllKnown}, Seen.{IsTakenPrepare, decision_on}, Shows.{IsSeenTable, ShowsTable}, Tail.{AreNumbered, AreUnstored, BeginsAt, IsNext, IsReached, StopsAt, position_of, tail_to}}, proofs.{Decisions.{decision_is}, Named.{ArePlaced, known_front, known_here, known_last, known_taken, seen_prepare, shown_prepare}}}

-- ---- taken prepares, in the table and in the image

-- the superblock's numbers of a start
pub record IsStartOf (c : Units.Content) (start : Start) : Type 0 where
  pub boot : c.boot ≡ start.boot
  pub pin : c.pin ≡ start.head

module _ (layout : Layout) (cluster : ℕ) (table : List SlotSeen) (image : Units.Units) (is : IsSeenTable layout cluster table)
    (shows : ShowsTable image table) (c : Units.Content) (start : Start) (of : IsStartOf c start) where
  -- what the table takes, the image shows to be taken
  pub taken_shown : (op : ℕ) (seen : SlotSeen) (h : Header) → slice_get table (op % layout.slots) ≡ Some seen
      → IsTakenPrepare start op seen h → (p : Units.Message) × Cases.Takes layout.slots image c p × (p.header ≡ header_of h)
  taken_shown op seen h at taken = let slot = op % layout.slots in
      let found = shown_prepare (image (PreparePlace slot)) seen.prepare h (shows.each slot seen at).prepare taken.shown in
      let p : Units.Message = found.0 in let op_is : p.header.op ≡ op = ap (λ (k : Units.Header). k.op) found.2 ∙ taken.op_is in
      let decided : Cases.decision layout.slots start.boot image op ≡ decision_on start.boot op seen =
      decision_is layout.slots start.boot op image seen (shows.each slot seen at) in (
        p,
        record {
          shown = rw op_is found.1;
          take = λ above. let take : Cases.IsTake (decision_on start.boot op seen) = taken.take (omega (arith, above, op_is, of.pin)) in
              rw (sym of.boot) at (rw (sym op_is) at (subst Cases.IsTake (sym decided) take));
        },
        found.2,
      )

  pub record TakenOf (op : ℕ) (p : Units.Message) : Type 0 where
    pub seen : SlotSeen
    pub header : Header
    pub at : slice_get table (op % layout.slots) ≡ Some seen
    pub taken : IsTakenPrepare start op seen header
    pub same : p.header ≡ header_of header

  -- and what the image shows to be taken, the table takes
  pub shown_taken : (op : ℕ) (p : Units.Message) → p.header.op ≡ op → Cases.Takes layout.slots image c p → TakenOf op p
  shown_taken op p op_is takes = let slot = op % layout.slots in
      let inside : slot < length table = omega (arith, mod-lt op (some_slots layout), is.size) in
      let shown : image (PreparePlace slot) ≡ Some (PrepareUnit p) = rw (← op_is) takes.shown in elim (slice_get_cases table slot).1 [
        | inl there ↦ let at : slice_get table slot ≡ Some there.0 = there.2 in
            let found = seen_prepare (image (PreparePlace slot)) there.0.prepare p (shows.each slot there.0 at).prepare shown in
            let decided : Cases.decision layout.slots start.boot image op ≡ decision_on start.boot op there.0 =
            decision_is layout.slots start.boot op image there.0 (shows.each slot there.0 at) in record {
              seen = there.0;
              header = found.0;
              at = at;
              taken = record {
                shown = found.1;
                op_is = sym (ap (λ (k : Units.Header). k.op) found.2) ∙ op_is;
                take = λ above. subst Cases.IsTake decided (rw op_is at (rw of.boot at (takes.take (omega (arith, above, op_is, of.pin)))));
              };
              same = found.2;
            }
        | inr past ↦ absurd (omega (arith, past.0, inside))
      ]

-- ---- the walk

-- prepares that the image shows to be taken were passed, in whole groups and a part of one
pub record IsTakenWalk (places n : ℕ) (image : Units.Units) (b : Checkpoint) (tail : Tail) (kept : List Session) (at : Position) (ahead : List Session) : Type 0 where
  pub passed : List Units.Message
  pub walk : IsWalk places (Cases.Takes n image b.content) b tail kept at ahead passed

-- after the checkpoint, by what the loop begins with
pub taken_begins : (image : Units.Units) (sh : Shape) (b : Checkpoint) (layout : Layout) (start : Start) (checksum : List ℕ)
    (sessions : List Session) → BeginsAt sh b layout start checksum sessions → (tail : Tail) (at : Position) (ahead : List Session)
    → tail ≡ end_at start.op checksum
    → at ≡ behind tail → ahead ≡ sessions → IsTakenWalk layout.clients layout.slots image b tail sessions at ahead
taken_begins image sh b layout start checksum sessions starts tail at ahead tail_is at_is ahead_is = record {
  passed = [];
  walk = walk_begins layout.clients (Cases.Takes layout.slots image b.content) b start.op checksum sessions (record { op_is = starts.op_is; checksum_is = starts.checksum_is; sessions_are = starts.sessions_are }) tail at ahead tail_is at_is ahead_is;
}

-- a prepare that comes next leads on: the tail ends there where its group is over, and else stays
pub taken_on : (layout : Layout) (cluster : ℕ) (table : List SlotSeen) (image : Units.Units) (b : Checkpoint) (start : Start) (tail end : Tail) (kept new : List Session) (at : Position) (ahead : List Session) (h : Header) → IsSeenTable layout cluster table → ShowsTable image table → IsStartOf b.content start
    → IsTakenWalk layout.clients layout.slots image b tail kept at ahead → IsNext layout start table at ahead h
    → ((header_of h).group_last ≤ h.op → (end ≡ tail_to h) × (new ≡ with_request h.client h.request h.op ahead))
    → (h.op < (header_of h).group_last → (end ≡ tail) × (new ≡ kept))
    → IsTakenWalk layout.clients layout.slots image b end new (position_of h) (with_request h.client h.request h.op ahead)
taken_on layout cluster table image b start tail end kept new at ahead h is shows of so_far next over opened =
    let found = taken_shown layout cluster table image is shows b.content start of (at.last.op + 1) next.seen h next.there next.taken in
    record {
      passed = so_far.passed ++ found.0 ∷ [];
      walk = walk_on layout.clients (Cases.Takes layout.slots image b.content)
          b tail end kept new at ahead so_far.passed start.head h found.0 so_far.walk of.pin found.1 found.2 next.fits over opened;
    }

-- ---- its end

-- the walk in the shape's words
pub shape_walk : (sh : Shape) (image : Units.Units) (b : Checkpoint) (layout : Layout)
    (tail : Tail) (kept : List Session) (at : Position) (ahead : List Session) → slots sh ≡ layout.slots → clients sh ≡ layout.clients
    → IsTakenWalk layout.clients layout.slots image b tail kept at ahead → IsTakenWalk (clients sh) (slots sh) image b tail kept at ahead
shape_walk sh image b layout tail kept at ahead slots_are clients_are walk =
    subst (λ (m : ℕ). IsTakenWalk (clients sh) m image b tail kept at ahead) (sym slots_are) (rw (sym clients_are) at walk)

-- no prepare comes next, where the ring has room for one
abbrev pub EndsThere : Layout → Start → List SlotSeen → Position → List Session → Type 0
EndsThere layout start table at ahead = (h : Header) → at.last.op < start.op + layout.slots → IsNext layout start table at ahead h → ⊥

module _ (layout : Layout)
    (cluster : ℕ) (table : List SlotSeen) (image : Units.Units) (is : IsSeenTable layout cluster table) (shows : ShowsTable image table)
    (sh : Shape) (b : Checkpoint) (start : Start) (checksum : List ℕ)
    (first : List Session) (starts : BeginsAt sh b layout start checksum first) (known : AllKnown sh image b.content)
    (tail : Tail) (kept : List Session) (at : Position) (ahead : List Session) (so_far : IsTakenWalk (clients sh) (slots
    sh) image b tail kept at ahead) (within : at.last.op ≤ start.op + layout.slots) (none : EndsThere layout start table at ahead) where
  of_start : IsStartOf b.content start
  of_start = record { boot = starts.boot; pin = starts.pin }

  abbrev w : IsAhead (clients sh) (Cases.Takes (slots sh) image b.content) b tail kept at ahead so_far.passed
  w = so_far.walk.ahead_is

  abbrev all : List Units.Message
  all = w.ps ++ w.more

  size : length all ≡ length w.ps + length w.more
  size = length-append w.ps w.more

  room : length w.ps + length w.more ≤ slots sh
  room = omega (arith, within, w.ends_on.op, starts.op_is, starts.slots_are)

  chained : Chain (clients sh) (b.content.op + 1) b.content.op_checksum 0 b.parts.sessions all
  chained = chain_append (clients sh) (b.content.op + 1) b.content.op_checksum 0 b.parts.sessions w.ps w.more w.chain w.chain_on

  placed : ArePlaced (slots sh) image all
  placed p there = elim (in_either p w.ps w.more there) [ inl old ↦ (w.takes p old).shown | inr new ↦ (w.takes_on p new).shown ]

  -- what is taken and fits would come next
  not_next : (p : Units.Message) → at.last.op < start.op + layout.slots → Cases.Takes (slots sh) image b.content p
      → Fits (clients sh) (b.content.op + 1 + length w.ps + length w.more) (last_checksum (last_checksum b.content.op_checksum w.ps) w.more)
      (last_mark (last_mark 0 w.ps) w.more) (sessions_after (sessions_after b.parts.sessions w.ps) w.more) p.header
      → FitsGroup at.group at.group_last (at.last.op + 1) p.header → (p.header.op ≡ b.content.pin → p.header.group_last ≤ b.content.pin) → ⊥
  not_next p left takes fits group pin = let op : p.header.op ≡ at.last.op + 1 = omega (arith, fits.op_is, w.ends_on.op) in
      let taken : TakenOf layout cluster table image is shows b.content start of_start (at.last.op + 1) p =
      shown_taken layout cluster table image is shows b.content start of_start (at.last.op + 1) p op (rw starts.slots_are at takes) in
      let here : Fits layout.clients (at.last.op + 1) (number_of at.last.checksum) at.last.mark (sessions_of ahead) p.header =
      rw starts.clients_are at ((fits_behind (clients sh) b w.ps w.more at.last ahead p.header w.ends_on).1 fits) in
      let own_op : p.header.op ≡ taken.header.op = ap (λ (k : Units.Header). k.op) taken.same in
      let own_last : p.header.group_last ≡ (header_of taken.header).group_last = ap (λ (k : Units.Header). k.group_last) taken.same in
      none taken.header left (record {
        seen = taken.seen;
        there = taken.at;
        taken = taken.taken;
        fits = (
          rw taken.same at here,
          (rw taken.same at group, λ at_head. omega (arith, own_last, starts.pin, pin (omega (arith, own_op, at_head, starts.pin)))),
        );
      })

  -- ---- where all that are named fit

  open_more : (p : Units.Message) → In p w.more → at.last.op < p.header.group_last
  open_more p there = omega (arith, w.in_group p there, so_far.walk.opened (in_some p w.more there))

  -- a group that isn't over is above the head that is named
  past_tail : b.content.pin ≤ at.last.op → b.content.pin ≤ b.content.op + length w.ps
  past_tail past = elim (cases_lt (b.content.op + length w.ps) b.content.pin) [
    | inl below ↦ let first_more = first_in (clients sh) (b.content.op + 1 + length w.ps) (last_checksum b.content.op_checksum w.ps)
        (last_mark 0 w.ps) (sessions_after b.parts.sessions w.ps) w.more w.chain_on (omega (arith, below, past, w.ends_on.op)) in
        absurd (omega
        (arith, w.in_pin first_more.0 first_more.1 (omega (arith, first_more.2, below)) past, open_more first_more.0 first_more.1, past))
    | inr above ↦ above
  ]

  pinned : b.content.pin ≤ at.last.op → last_checksum b.content.op_checksum (take (b.content.pin - b.content.op) w.ps) ≡ b.content.pin_checksum
  pinned past = let count : b.content.pin - b.content.op ≡ length known.read = omega (arith, known.count) in
      let taken : take (length known.read) w.ps ≡ known.read = known_taken (slots sh) image (clients sh) (b.content.op + 1) b.content.op_checksum 0 b.content.pin_checksum b.parts.sessions w.ps known.read w.chain (λ p there. (w.takes p there).shown) known.known (omega (arith, past_tail past, known.count)) in
      ap (λ (n : ℕ). last_checksum b.content.op_checksum (take n w.ps)) count
      ∙ ap (λ (l : List Units.Message). last_checksum b.content.op_checksum l) taken ∙ known_last (slots sh)
      image b.content.op b.content.pin b.content.pin_checksum b.content.op_checksum known.read known.known known.count starts.pin_checksum

  reaches : b.content.pin ≤ at.last.op → IsReach sh image b w.ps w.more
  reaches past = record {
    behind = record { room = room; shown = w.takes_on; chain = w.chain_on; grouped = w.grouped_on };
    longest = λ p beyond. let fits = chain_end (clients sh) (b.content.op + 1 + length w.ps)
        (last_checksum b.content.op_checksum w.ps) (last_mark 0 w.ps) (sessions_after b.parts.sessions w.ps) w.more p beyond.chain in
        not_next p (omega (arith, beyond.room, length-append w.more (p ∷ []), w.ends_on.op, starts.op_is, starts.slots_are)) (beyond.shown p (in_last w.more p)) fits ((w.next_group p).1 beyond.grouped) (λ at_pin. absurd (omega (arith, at_pin, fits.op_is, w.ends_on.op, past)));
  }

  pub walk_reaches : b.content.pin ≤ at.last.op → IsReached sh image b (record { tail = tail; op = at.last.op }) kept
  walk_reaches past = record {
    tail = w.ps;
    more = w.more;
    is = walk_law sh image b w.ps w.more (record {
      chain = w.chain;
      takes = w.takes;
      room = omega (arith, room);
      grouped = w.grouped;
      groups = w.groups;
      pin_ends = w.pin_ends;
      reaches = past_tail past;
      pinned = pinned past;
      reach = reaches past;
      goes_on = λ p there. omega (arith, open_more p there, w.ends_on.op);
    });
    goes_on = reaches past;
    ends = w.ends;
    op_is = w.ends_on.op;
  }

  -- ---- where one that is named doesn't

  all_fit : at.last.op < b.content.pin → AreFitting sh b all
  all_fit short = record {
    chain = chained;
    grouped = groups_join 0 b.content.op (b.content.op + 1) (b.content.op + length w.ps) w.ps w.more (omega arith) (λ p there.
        omega (arith, w.groups p there)) (omega arith) w.grouped w.grouped_on;
    ends = λ p there at_pin. absurd (omega (arith, at_pin, short, w.ends_on.op, size, chain_ops (clients sh) (b.content.op + 1) b.content.op_checksum 0 b.parts.sessions all p chained there));
  }

  not_fitting : at.last.op < b.content.pin → (next : Units.Message) (rest : List Units.Message)
      → AreKnown (slots sh) image (b.content.op + 1) b.content.pin_checksum (all ++ next ∷ rest) → AreFitting sh b (all ++ next ∷ []) → ⊥
  not_fitting short next rest shown bad =
      let at_end = chain_end (clients sh) (b.content.op + 1) b.content.op_checksum 0 b.parts.sessions all next bad.chain in
      let op : b.content.op + 1 + length all ≡ b.content.op + 1 + length w.ps + length w.more = omega (arith, size) in
      let fits = fits_same (clients sh) _ _ _ _ _ _ _ _ next.header op (last_checksum-append b.content.op_checksum w.ps w.more)
      (last_mark-append 0 w.ps w.more) (sessions-append b.parts.sessions w.ps w.more) at_end in
      let split : AreGroups 0 b.content.op (b.content.op + 1) (w.ps ++ (w.more ++ next ∷ [])) =
      rw (append_assoc w.ps w.more (next ∷ [])) at bad.grouped in let grouped = groups_split 0 b.content.op (b.content.op + 1) (b.content.op
      + length w.ps) w.ps (w.more ++ next ∷ []) (omega arith) (λ p there. omega (arith, w.groups p there)) (omega arith) split in
      not_next next (omega (arith, short, starts.pin_near, starts.op_is, starts.slots_are)) (record {
        shown = rw (sym at_end.op_is) at (known_here (slots sh) image (b.content.op + 1) b.content.pin_checksum all next rest shown);
        take = λ above. absurd (omega (arith, above, at_end.op_is, size, w.ends_on.op, short));
      }) fits ((w.next_group next).1 grouped) (λ at_pin. bad.ends next (in_last all next) at_pin)

  stops_by : at.last.op < b.content.pin → (rest : List Units.Message) → known.read ≡ all ++ rest → StopsAt sh image b at.last.op
  stops_by short [] same = absurd (omega (arith, short, known.count, w.ends_on.op, size, ap length same, length-append all []))
  stops_by short (next ∷ rest) same =
      let shown : AreKnown (slots sh) image (b.content.op + 1) b.content.pin_checksum (all ++ next ∷ rest) = rw same at known.known in
      record {
        front = all;
        unfit = record {
          next = next;
          rest = rest;
          known = shown;
          count = ap (λ (l : List Units.Message). b.content.op + length l) (sym same) ∙ known.count;
          fits = all_fit short;
          fails = not_fitting short next rest shown;
        };
        op_is = omega (arith, w.ends_on.op, size);
      }

  pub walk_stops : at.last.op < b.content.pin → StopsAt sh image b at.last.op
  walk_stops short = let more = known_front (slots sh) image (clients sh) (b.content.op + 1) b.content.op_checksum 0 b.content.pin_checksum
      b.parts.sessions all known.read chained placed known.known (omega (arith, short, known.count, w.ends_on.op, size)) in
      stops_by short more.0 more.1

-- a request leaves no reply stored where none was
pub still_unstored : (h : Header) (before after : List Session) (place : ℕ) → slice_get after place ≡ Some (requested
    h.client h.request h.op) → ((k : ℕ) → (k ≡ place → ⊥) → slice_get after k ≡ slice_get before k) → AreUnstored before → AreUnstored after
still_unstored h before after place there others none k s at = elim (cases_eq k place) [
  | inl here ↦ let both : Some s ≡ Some (requested h.client h.request h.op) = sym at ∙ ap (slice_get after) here ∙ there in
      let one : s ≡ requested h.client h.request h.op = cc in ap (λ (x : Session). x.reply) one
  | inr other ↦ none k s (sym (others k other) ∙ at)
]

-- a request within its limit leaves each session's so
pub still_numbered : (h : Header) (before after : List Session) (place : ℕ) → h.request ≤ 2 ^ 62 → slice_get after place ≡ Some (requested
    h.client h.request h.op) → ((k : ℕ) → (k ≡ place → ⊥) → slice_get after k ≡ slice_get before k) → AreNumbered before → AreNumbered after
still_numbered h before after place small there others within k s at = elim (cases_eq k place) [
  | inl here ↦ let both : Some s ≡ Some (requested h.client h.request h.op) = sym at ∙ ap (slice_get after) here ∙ there in
      let one : s ≡ requested h.client h.request h.op = cc in rw one small
  | inr other ↦ within k s (sym (others k other) ∙ at)
]
