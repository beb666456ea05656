-- Each next view is sound.
use Rattle.std.{proofs.{Common.{◌≡◌, ◌⊎◌, inl, inr, ℕ, Bool, true, false, if◌then◌else◌, ◌+◌, ◌-◌, ◌<◌, ◌≤◌, List, ◌++◌, length, take, drop, slice_index, nat_lt, Option, Some, None, refl, sym, ◌∙◌, ap, subst, arith, length-append, length-drop}, lemmas.List.{length-take, take-append-le}, lemmas.Bool.{cases_eq}, lemmas.Bool.Decides.{nat_tests}}, specs.List.{slice_get}}
use Rattle.df_theory.{specs.{Units.{Layout, Message, Session}, Sessions.{Answers, Tracks, sessions_after}, Tails.{AreGroups, AreWholeGroups, Chain, EndsAt, In, last_checksum, last_mark}, Shape.{Shape}, View.{Checkpoint, PassesTests, View, head, sessions}, Holds.{IsNamed, Sound}, Next.{IsFinish, IsReply, MayAppend, MayFinish, appended, checkpointed, kept, replied}}, proofs.{Tails.{in_either, in_dropped, turn_ops, turn_chain}, Grouped.{groups_append, groups_drop, turn_groups}, Sessions.{chain_append, last_mark-append, last_mark-each, after_get, sessions-append, chain_drop, last_mark-drop, sessions-drop, tracks_chain, chain_take, last_mark-take}, Appends.{kept_some}, Replies.{stored_at, stored_else}}}

kept_is : (s : Session) (op : ℕ) (old : Option Message) → s.op ≤ op → kept (Some s) op old ≡ old
kept_is s op old low = grind (arith, nat_tests)

kept_op : (s : Session) (op : ℕ) (old : Option Message) (r : Message) → kept (Some s) op old ≡ Some r → op < s.op → ⊥
kept_op s op old r is above = go (nat_lt op s.op) (lt_true op s.op above) is
  where
    go : (b : Bool) → b ≡ true → (if b then None else old) ≡ Some r → ⊥
    go true yes_true none = cc
    go false no_true none = cc

    lt_true : (a b : ℕ) → a < b → nat_lt a b ≡ true
    lt_true a b e = grind (arith, nat_tests)

-- the sessions of a sound view
pub tracks : (sh : Shape) (v : View) → Sound sh v → Tracks v.replies (head v) (sessions v)
tracks sh v sound = tracks_chain sh.layout.clients v.checkpoint.content.op v.checkpoint.content.op_checksum 0 v.checkpoint.content.replies
    v.replies v.checkpoint.parts.sessions v.tail sound.checkpoint.tracks sound.chain sound.replies_from.0 sound.replies_from.1

module _ (sh : Shape) (v : View) (ps : List Message) (sound : Sound sh v) (may : MayAppend sh v ps) where
  abbrev u : View
  u = appended v ps

  after_is : sessions u ≡ sessions_after (sessions v) ps
  after_is = sessions-append v.checkpoint.parts.sessions v.tail ps

  op_new : (p : Message) → In p ps → head v < p.header.op
  op_new p at = omega (arith, turn_ops (head v + 1) (last_checksum v.checkpoint.content.op_checksum v.tail) ps p may.is.turn at)

  session_is : (k : ℕ) (s : Session) → slice_get (sessions u) k ≡ Some s → (slice_get (sessions v) k ≡ Some s) ⊎ (head v < s.op)
  session_is k s at = elim (after_get (sessions v) ps k s (ap (λ (l : List Session). slice_get l k) (sym after_is) ∙ at)) [
    | inl old ↦ inl old
    | inr new ↦ inr (omega (arith, op_new new.0 new.1, ap (λ (t : Session). t.op) new.2))
  ]

  head_is : head u ≡ head v + length ps
  head_is = omega (arith, length-append v.tail ps)

  mark_is : last_mark 0 (v.tail ++ ps) ≡ v.replies
  mark_is = last_mark-append 0 v.tail ps ∙ last_mark-each (last_mark 0 v.tail) v.replies ps may.is.some (λ p at. (may.is.stamped p at).mark)

  answered_at : (k : ℕ) (r : Message) (o : Option Session) → slice_get (sessions u) k ≡ o
      → kept o (head v) (v.stored k) ≡ Some r → (s : Session) × (slice_get (sessions u) k ≡ Some s) × (s.op ≤ v.replies) × Answers s r
  answered_at k r None at is = absurd (cc)
  answered_at k r (Some s) at is = let old = sound.answered k r (kept_some (Some s) (head v) (v.stored k) r is) in
      elim (session_is k s at) [
        | inl there ↦ let same : old.0 ≡ s = (let two : Some old.0 ≡ Some s = sym old.1 ∙ there in cc) in
            (s, at, rw same at old.2, rw same at old.3)
        | inr new ↦ absurd (kept_op s (head v) (v.stored k) r is new)
      ]

  pub stores : (k : ℕ) (s : Session) → slice_get (sessions u) k ≡ Some s → s.op ≤ v.replies → (r : Message) × (u.stored k ≡ Some r)
  stores k s at low = let low_head : s.op ≤ head v = omega (arith, sound.pipeline.0) in elim (session_is k s at) [
    | inl old ↦ let r = sound.stores k s old low in
        (r.0, ap (λ (o : Option Session). kept o (head v) (v.stored k)) at ∙ kept_is s (head v) (v.stored k) low_head ∙ r.1)
    | inr new ↦ absurd (omega arith)
  ]

  pub groups : AreWholeGroups (head u) (v.tail ++ ps)
  groups p at = elim (in_either p v.tail ps at) [
    | inl old ↦ omega (arith, sound.groups p old, head_is)
    | inr new ↦ omega (arith, (may.is.stamped p new).group_last, head_is)
  ]

  grouped : AreGroups 0 v.checkpoint.content.op (v.checkpoint.content.op + 1) (v.tail ++ ps)
  grouped = let same : head v + 1 ≡ v.checkpoint.content.op + 1 + length v.tail = omega arith in
      let new : AreGroups 0 (head v) (head v + 1) ps = turn_groups (head v + 1) (head v + length ps) (head v) ps (λ p at.
      let stamped = may.is.stamped p at in (stamped.group, stamped.group_last)) (omega arith) (omega arith) in
      groups_append 0 v.checkpoint.content.op (v.checkpoint.content.op + 1) v.tail ps (head v) sound.grouped (omega arith) (λ p at.
      omega (arith, sound.groups p at)) (omega arith) (rw same at new)

  pin_ends : EndsAt v.checkpoint.content.pin (v.tail ++ ps)
  pin_ends p at low = elim (in_either p v.tail ps at) [
    | inl old ↦ sound.pin_ends p old low
    | inr new ↦ absurd (omega (arith, op_new p new, sound.records.pin_to))
  ]

  pub append_sound : Sound sh u
  append_sound = record {
    chain = chain_append sh.layout.clients
        (v.checkpoint.content.op + 1) v.checkpoint.content.op_checksum 0 v.checkpoint.parts.sessions v.tail ps sound.chain (
        let same : head v + 1 ≡ v.checkpoint.content.op + 1 + length v.tail = omega arith in rw same at
        (turn_chain sh.layout.clients (head v + 1) (last_checksum v.checkpoint.content.op_checksum v.tail)
        (last_mark 0 v.tail) v.replies (head v + length ps) (sessions v) ps may.is.turn
        (λ p at. let stamped = may.is.stamped p at in (stamped.mark, stamped.group_last))
        sound.replies_from.1 (omega (arith, sound.pipeline.0)) (omega (arith, may.pipeline)) (omega arith) may.asks)
        );
    room = omega (arith, may.room, length-append v.tail ps);
    grouped = grouped;
    groups = groups;
    pin_ends = pin_ends;
    checkpoint = sound.checkpoint;
    head_from = omega (arith, sound.head_from, head_is);
    head_to = omega (arith, may.unspent, head_is);
    pipeline = (omega (arith, sound.pipeline.0, head_is), omega (arith, may.pipeline, head_is));
    replies_from = (sound.replies_from.0, omega (arith, mark_is));
    answered = λ k r is. answered_at k r (slice_get (sessions u) k) refl is;
    stores = stores;
    records = record {
      pin_to = omega (arith, sound.records.pin_to, head_is);
      checksum = ap (λ (l : List Message). last_checksum v.checkpoint.content.op_checksum l) (take-append-le
          (v.checkpoint.content.pin - v.checkpoint.content.op) v.tail ps (omega (arith, sound.records.pin_to))) ∙ sound.records.checksum;
      tail = λ p at above. elim (in_either p v.tail ps at) [ inl old ↦ sound.records.tail p old above | inr new ↦ (may.is.stamped p new).boot ];
      stored = λ k r is. sound.records.stored k r (kept_some (slice_get (sessions u) k) (head v) (v.stored k) r is);
    };
  }

module _ (sh : Shape) (v : View) (place : ℕ) (r : Message) (sound : Sound sh v) (is : IsReply v place r) (waits : v.replies < head v) where
  reply_answered : (k : ℕ) (q : Message)
      → (replied v place r).stored k ≡ Some q → (s : Session) × (slice_get (sessions v) k ≡ Some s) × (s.op ≤ v.replies + 1) × Answers s q
  reply_answered k q at = elim (cases_eq k place) [
    | inl here ↦ let one : r ≡ q = (let two : Some r ≡ Some q = sym (stored_at k place r (v.stored k) here) ∙ at in cc) in
        (is.session.0, ap (λ (i : ℕ). slice_get (sessions v) i) here ∙ is.session.1, omega (arith, is.op, is.session.2.op), rw one at is.session.2)
    | inr away ↦ let old = sound.answered k q (sym (stored_else k place r (v.stored k) away) ∙ at) in
        (old.0, old.1, omega (arith, old.2), old.3)
  ]

  reply_stores : (k : ℕ) (s : Session)
      → slice_get (sessions v) k ≡ Some s → s.op ≤ v.replies + 1 → (q : Message) × ((replied v place r).stored k ≡ Some q)
  reply_stores k s at low = elim (cases_eq k place) [
    | inl here ↦ (r, stored_at k place r (v.stored k) here)
    | inr away ↦ elim (cases_eq s.op (v.replies + 1)) [
      | inl same ↦ absurd (away ((tracks sh v sound).apart k place s is.session.0 at is.session.1 (omega (arith, is.op, is.session.2.op))))
      | inr differs ↦ let old = sound.stores k s at (omega arith) in (old.0, stored_else k place r (v.stored k) away ∙ old.1)
    ]
  ]

  pub reply_sound : Sound sh (replied v place r)
  reply_sound = record {
    chain = sound.chain;
    room = sound.room;
    grouped = sound.grouped;
    groups = sound.groups;
    pin_ends = sound.pin_ends;
    checkpoint = sound.checkpoint;
    head_from = sound.head_from;
    head_to = sound.head_to;
    pipeline = (omega (arith, waits), omega (arith, sound.pipeline.1));
    replies_from = (omega (arith, sound.replies_from.0), omega (arith, sound.replies_from.1));
    answered = reply_answered;
    stores = reply_stores;
    records = record {
      pin_to = sound.records.pin_to;
      checksum = sound.records.checksum;
      tail = sound.records.tail;
      stored = λ k q at. elim (cases_eq k place) [
        | inl here ↦ let one : r ≡ q = (let two : Some r ≡ Some q = sym (stored_at k place r (v.stored k) here) ∙ at in cc) in
            rw (← one) (record { old = λ low. absurd (omega (arith, is.op, sound.checkpoint.tests.answered, sound.replies_from.0)); new = λ above. is.boot })
        | inr away ↦ sound.records.stored k q (sym (stored_else k place r (v.stored k) away) ∙ at)
      ];
    };
  }

module _ (sh : Shape) (v : View) (c : Checkpoint) (sound : Sound sh v) (may : MayFinish sh v c) where
  pub is : IsFinish v c
  is = may.is

  abbrev n : ℕ
  n = c.content.op - v.checkpoint.content.op

  same_sessions : sessions (checkpointed v c) ≡ sessions v
  same_sessions = ap (λ (l : List Session). sessions_after l (drop n v.tail)) is.sessions ∙ sessions-drop n v.checkpoint.parts.sessions v.tail

  chain_here : Chain sh.layout.clients (c.content.op + 1) c.content.op_checksum 0 c.parts.sessions (drop n v.tail)
  chain_here = let op : v.checkpoint.content.op + 1 + n ≡ c.content.op + 1 = omega (arith, is.op_from) in
      let chain = chain_drop n sh.layout.clients (v.checkpoint.content.op
      + 1) v.checkpoint.content.op_checksum 0 v.checkpoint.parts.sessions v.tail (omega (arith, is.op_to, is.op_from)) sound.chain in
      subst (λ (k : ℕ). Chain sh.layout.clients k c.content.op_checksum 0 c.parts.sessions (drop n v.tail)) op (rw (sym is.op_checksum) at
      (rw (sym is.sessions) at chain))

  tracks_here : Tracks c.content.replies c.content.op c.parts.sessions
  tracks_here = let chain = sound.chain in let last = last_mark-take
      n sh.layout.clients (v.checkpoint.content.op + 1) v.checkpoint.content.op_checksum 0 v.checkpoint.parts.sessions v.tail chain in
      let op : v.checkpoint.content.op + length (take n v.tail) ≡ c.content.op = omega (arith, length-take n v.tail, is.op_from, is.op_to) in
      let here = tracks_chain sh.layout.clients v.checkpoint.content.op v.checkpoint.content.op_checksum 0 v.checkpoint.content.replies v.replies v.checkpoint.parts.sessions (take n v.tail) sound.checkpoint.tracks (chain_take n sh.layout.clients (v.checkpoint.content.op + 1) v.checkpoint.content.op_checksum 0 v.checkpoint.parts.sessions v.tail chain) sound.replies_from.0 (omega (arith, sound.replies_from.1)) in
      subst (λ (l : List Session). Tracks c.content.replies c.content.op l) (sym is.sessions) (rw (sym is.replies) at (rw op at here))

  head_same : head (checkpointed v c) ≡ head v
  head_same = omega (arith, length-drop n v.tail, is.op_from, is.op_to)

  grouped_here : AreGroups 0 c.content.op (c.content.op + 1) (drop n v.tail)
  grouped_here = let op : v.checkpoint.content.op + 1 + n ≡ c.content.op + 1 = omega (arith, is.op_from) in
      subst (λ (k : ℕ). AreGroups 0 c.content.op k (drop n v.tail)) op (groups_drop n 0 v.checkpoint.content.op
      (v.checkpoint.content.op + 1) c.content.op v.tail sound.grouped (omega arith) (omega (arith, is.op_to, is.op_from))
      (λ p at low. omega (arith, may.ends p at (omega (arith, is.op_from)), is.op_from))
      sh.layout.clients v.checkpoint.content.op_checksum 0 v.checkpoint.parts.sessions sound.chain (omega (arith, is.op_from)))

  no_checksum : c.content.op ≡ 0 → c.content.op_checksum ≡ 0
  no_checksum zero_is = let none : n ≡ 0 = omega (arith, is.op_from) in
      is.op_checksum ∙ ap (λ (k : ℕ). last_checksum v.checkpoint.content.op_checksum (take k v.tail)) none
      ∙ sound.checkpoint.tests.op_checksum (omega (arith, is.op_from))

  tests_here : PassesTests sh c.content
  tests_here = let tests = sound.checkpoint.tests in record {
    version = is.file.0 ∙ tests.version;
    cluster = is.file.1 ∙ tests.cluster;
    layout = is.file.2 ∙ tests.layout;
    sequence = (omega (arith, is.sequence), omega (arith, is.sequence, may.unspent));
    boot = omega (arith, is.boot, tests.boot);
    op_checksum = no_checksum;
    head = (omega (arith, is.head, is.op_to), omega (arith, is.head, is.op_from, sound.room), omega (arith, is.head, sound.head_to));
    replies = (omega (arith, is.head, is.replies, sound.pipeline.0), omega (arith, is.head, is.replies, sound.pipeline.1));
    pin = (is.records.pin_from.1, omega (arith, is.records.pin_to, is.head));
    pin_checksum = λ same. let none : c.content.pin - c.content.op ≡ 0 = omega (arith, same) in
        sym is.records.checksum ∙ ap (λ (k : ℕ). last_checksum c.content.op_checksum (take k (drop n v.tail))) none;
    answered = omega (arith, is.records.answered.1, is.replies);
    spare = λ k low. is.records.spare k (omega (arith, low, ap (λ (l : Layout). l.clients) tests.layout));
    of = is.of;
    rest = λ i. ap (λ (l : List ℕ). slice_index l i) is.file.3 ∙ tests.rest i;
  }

  pub checkpoint_sound : Sound sh (checkpointed v c)
  checkpoint_sound = record {
    chain = chain_here;
    room = omega (arith, length-drop n v.tail, sound.room);
    grouped = grouped_here;
    groups = λ p at. omega (arith, sound.groups p (in_dropped n p v.tail at), head_same);
    pin_ends = λ p at low. may.pin_ends p (in_dropped n p v.tail at) low;
    checkpoint = record { tests = tests_here; tracks = tracks_here; trailer = may.trailer };
    head_from = omega (arith, is.head, head_same);
    head_to = omega (arith, sound.head_to, head_same);
    pipeline = (omega (arith, sound.pipeline.0, head_same), omega (arith, sound.pipeline.1, head_same));
    replies_from = (omega (arith, is.replies), omega (arith, last_mark-drop n 0 v.tail, sound.replies_from.1));
    answered = λ k r at. let before = sound.answered k r at in
        (before.0, ap (λ (l : List Session). slice_get l k) same_sessions ∙ before.1, before.2, before.3);
    stores = λ k s at low. sound.stores k s (old k (Some s) at) low;
    records = record {
      pin_to = omega (arith, is.records.pin_to, head_same);
      checksum = is.records.checksum;
      tail = λ p at above. sound.records.tail p (in_dropped n p v.tail at) (omega (arith, is.records.pin_from.0)) ∙ sym is.boot;
      stored = λ k r at. record { old = is.records.stored k r at; new = λ above. (sound.records.stored k r at).new (omega (arith, is.records.answered.0)) ∙ sym is.boot };
    };
  }
    where
      old : (k : ℕ) (o : Option Session) → slice_get (sessions (checkpointed v c)) k ≡ o → slice_get (sessions v) k ≡ o
      old k o at = ap (λ (l : List Session). slice_get l k) (sym same_sessions) ∙ at
