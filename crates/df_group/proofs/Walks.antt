-- A walk along prepares that are taken, one after the other, whatever they are taken by.
use Rattle.std.proofs.{Common.{◌≡◌, ◌↔◌, inl, inr, ℕ, ◌+◌, ◌<◌, ◌≤◌, List, [], ◌∷◌, ◌++◌, length, refl, sym, ◌∙◌, ap, subst, arith, length-append, append_assoc}, lemmas.Bool.{cases_lt}, lemmas.List.{append-nil}}
use Rattle.{df_format.specs.declared.header.Header.{Header}, df_units.specs.Meaning.{header_of, number_of}}
use Rattle.df_sessions.specs.{declared.session.Session.{Session}, Requests.{sessions_of}, Table.{Table, with_request}}
use Rattle.df_theory.specs.Units
use Rattle.df_theory.{specs.{Sessions.{noted, sessions_after}, Tails.{AreGroups, AreWholeGroups, Chain, EndsAt as EndsGroup, Fits, FitsGroup, In, last_checksum, last_mark}, View.{Checkpoint}}, proofs.Laws.{chain_append, last_mark-append, sessions-append, in_either, in_single, last_checksum-append, fits_closed}}
use Rattle.df_group.{specs.{declared.groups.Tail.{Tail}, declared.groups.Position.{Position}, Fitting.{FitsAt, position_of, tail_to}, Reached.{BeginsBehind, EndsAt}}, proofs.{Asks.{noted_is}, Grouping.{fits_same, groups_join, groups_next, in_some}}}

-- prepares after these, down to this end
pub record ReachesTo (b : Checkpoint) (ps more : List Units.Message) (last : Tail) (sessions : List Session) : Type 0 where
  pub op : last.op ≡ b.content.op + length ps + length more
  pub checksum : number_of last.checksum ≡ last_checksum (last_checksum b.content.op_checksum ps) more
  pub mark : last.mark ≡ last_mark (last_mark 0 ps) more
  pub sessions_are : sessions_of sessions ≡ sessions_after (sessions_after b.parts.sessions ps) more

-- prepares that are taken and fit: whole groups, which end here, and after them as much of a group as the walk has come to
pub record IsAhead (places : ℕ) (Taken : Units.Message → Type 0) (b : Checkpoint) (tail : Tail) (kept : List Session) (at : Position) (ahead : List Session) (passed : List Units.Message) : Type 0 where
  pub ps : List Units.Message
  pub more : List Units.Message
  pub are : ps ++ more ≡ passed
  pub chain : Chain places (b.content.op + 1) b.content.op_checksum 0 b.parts.sessions ps
  pub grouped : AreGroups 0 b.content.op (b.content.op + 1) ps
  pub groups : AreWholeGroups (b.content.op + length ps) ps
  pub pin_ends : EndsGroup b.content.pin ps
  pub takes : (p : Units.Message) → In p ps → Taken p
  pub ends : EndsAt b ps tail kept
  pub chain_on : Chain places
      (b.content.op + 1 + length ps) (last_checksum b.content.op_checksum ps) (last_mark 0 ps) (sessions_after b.parts.sessions ps) more
  pub grouped_on : AreGroups 0 (b.content.op + length ps) (b.content.op + 1 + length ps) more
  pub takes_on : (p : Units.Message) → In p more → Taken p
  pub ends_on : ReachesTo b ps more at.last ahead
  pub in_group : (p : Units.Message) → In p more → p.header.group_last ≡ at.group_last
  pub in_pin : (p : Units.Message) → In p more → p.header.op ≤ b.content.pin → b.content.pin ≤ at.last.op → p.header.group_last ≤ b.content.pin
  pub from : at.last.op ≤ at.group_last
  pub next_group : (p : Units.Message) → FitsGroup at.group
      at.group_last (at.last.op + 1) p.header ↔ AreGroups 0 (b.content.op + length ps) (b.content.op + 1 + length ps) (more ++ p ∷ [])

-- and where it stands the group is over exactly where none of its prepares is among them
pub record IsWalk (places : ℕ) (Taken : Units.Message → Type 0) (b : Checkpoint) (tail : Tail) (kept : List Session) (at : Position) (ahead : List Session) (passed : List Units.Message) : Type 0 where
  pub ahead_is : IsAhead places Taken b tail kept at ahead passed
  pub closed : length ahead_is.more ≡ 0 → at.group_last ≡ at.last.op
  pub opened : 0 < length ahead_is.more → at.last.op < at.group_last

-- after a checkpoint with this op and checksum, without prepares
abbrev pub end_at : ℕ → List ℕ → Tail
end_at op checksum = record { op = op; checksum = checksum; mark = 0 }

-- and where a walk stands there
abbrev pub behind : Tail → Position
behind end = record { last = end; group = 0; group_last = end.op }

walk_none : (places : ℕ) (Taken : Units.Message → Type 0) (b : Checkpoint) (op : ℕ) (checksum : List ℕ) (sessions : List Session)
    → BeginsBehind b op checksum sessions → IsWalk places Taken b (end_at op checksum) sessions (behind (end_at op checksum)) sessions []
walk_none places Taken b op checksum sessions begins = record {
  ahead_is = record {
    ps = [];
    more = [];
    are = refl;
    chain = tt;
    grouped = tt;
    groups = λ p none. absurd none;
    pin_ends = λ p none low. absurd none;
    takes = λ p none. absurd none;
    ends = record { op = omega (arith, begins.op_is); checksum = sym begins.checksum_is; mark = refl; sessions_are = sym begins.sessions_are };
    chain_on = tt;
    grouped_on = tt;
    takes_on = λ p none. absurd none;
    ends_on =
        record { op = omega (arith, begins.op_is); checksum = sym begins.checksum_is; mark = refl; sessions_are = sym begins.sessions_are };
    in_group = λ p none. absurd none;
    in_pin = λ p none low high. absurd none;
    from = omega arith;
    next_group = λ p. one p.header;
  };
  closed = λ none. refl;
  opened = λ some. absurd (omega arith);
}
  where
    one : (h : Units.Header) → FitsGroup 0 op (op + 1) h ↔ (FitsGroup 0 (b.content.op + 0) (b.content.op + 1 + 0) h × Unit {0})
    one h = let last : op ≡ b.content.op + 0 = omega (arith, begins.op_is) in
        let next : op + 1 ≡ b.content.op + 1 + 0 = omega (arith, begins.op_is) in (
          λ fits. (rw last at (rw next at fits), tt),
          λ fits. rw (sym last) at (rw (sym next) at fits.0),
        )

-- the same by what a loop begins with
pub walk_begins : (places : ℕ) (Taken : Units.Message → Type 0) (b : Checkpoint) (op : ℕ) (checksum : List ℕ) (sessions : List Session)
    → BeginsBehind b op checksum sessions → (tail : Tail) (at : Position) (ahead : List Session)
    → tail ≡ end_at op checksum → at ≡ behind tail → ahead ≡ sessions → IsWalk places Taken b tail sessions at ahead []
walk_begins places Taken b op checksum sessions begins tail at ahead tail_is at_is ahead_is = let end : Tail = end_at op checksum in
    let begin : Position = behind end in let there : at ≡ begin = at_is ∙ ap behind tail_is in
    let here : IsWalk places Taken b end sessions begin sessions [] = walk_none places Taken b op checksum sessions begins in
    subst (λ (t : Tail). IsWalk places Taken b t sessions at ahead []) (sym tail_is) (rw there (rw ahead_is here))

-- what fits by the words of the end fits after the prepares
pub fits_behind : (places : ℕ) (b : Checkpoint) (ps more : List Units.Message) (last : Tail) (sessions : List Session) (k : Units.Header)
    → ReachesTo b ps more last sessions → Fits places (last.op + 1) (number_of last.checksum) last.mark (sessions_of sessions) k
    ↔ Fits places (b.content.op + 1 + length ps + length more) (last_checksum (last_checksum b.content.op_checksum ps) more)
    (last_mark (last_mark 0 ps) more) (sessions_after (sessions_after b.parts.sessions ps) more) k
fits_behind places b ps more last sessions k ends =
    let op : last.op + 1 ≡ b.content.op + 1 + length ps + length more = omega (arith, ends.op) in (
      λ fits. fits_same places _ _ _ _ _ _ _ _ k op ends.checksum ends.mark ends.sessions_are fits,
      λ fits. fits_same places _ _ _ _ _ _ _ _ k (sym op) (sym ends.checksum) (sym ends.mark) (sym ends.sessions_are) fits,
    )

-- one prepare more
walk_more : (places : ℕ) (Taken : Units.Message → Type 0) (b : Checkpoint) (tail : Tail)
    (kept : List Session) (at : Position) (ahead : List Session) (passed : List Units.Message) (h : Header) (p : Units.Message)
    → IsWalk places Taken b tail kept at ahead passed → Taken p → p.header ≡ header_of h
    → h.op ≡ at.last.op + 1 → Fits places (at.last.op + 1) (number_of at.last.checksum) at.last.mark (sessions_of ahead) (header_of h)
    → FitsGroup at.group at.group_last (at.last.op + 1) (header_of h) → (h.op ≡ b.content.pin → (header_of h).group_last ≤ b.content.pin)
    → (next : IsAhead places Taken b tail kept (position_of h) (with_request h.client h.request h.op ahead) (passed ++ p ∷ []))
    × (0 < length next.more)
walk_more places Taken b tail kept at ahead passed h p walk taken same op_is fits group pin = (
  record {
    ps = w.ps;
    more = w.more ++ p ∷ [];
    are = sym (append_assoc w.ps w.more (p ∷ [])) ∙ ap (λ (l : List Units.Message). l ++ p ∷ []) w.are;
    chain = w.chain;
    grouped = w.grouped;
    groups = w.groups;
    pin_ends = w.pin_ends;
    takes = w.takes;
    ends = w.ends;
    chain_on = chain_append places (b.content.op + 1 + length w.ps) (last_checksum b.content.op_checksum w.ps)
        (last_mark 0 w.ps) (sessions_after b.parts.sessions w.ps) w.more (p ∷ []) w.chain_on (own_fits, tt);
    grouped_on = grouped;
    takes_on = λ q there.
        elim (in_either q w.more (p ∷ []) there) [ inl old ↦ w.takes_on q old | inr new ↦ subst Taken (sym (in_single q p new)) taken ];
    ends_on = record {
      op = omega (arith, op_is, w.ends_on.op, length-append w.more (p ∷ []));
      checksum = sym (ap (λ (k : Units.Header). k.checksum) same)
          ∙ sym (last_checksum-append (last_checksum b.content.op_checksum w.ps) w.more (p ∷ []));
      mark = sym (ap (λ (k : Units.Header). k.mark) same) ∙ sym (last_mark-append (last_mark 0 w.ps) w.more (p ∷ []));
      sessions_are = noted_is h ahead ∙ ap (noted (header_of h)) w.ends_on.sessions_are
          ∙ ap (λ (k : Units.Header). noted k (sessions_after (sessions_after b.parts.sessions w.ps) w.more)) (sym same)
          ∙ sym (sessions-append (sessions_after b.parts.sessions w.ps) w.more (p ∷ []));
    };
    in_group = λ q there. elim (in_either q w.more (p ∷ []) there) [ inl old ↦ w.in_group q old ∙ sym (goes q old) | inr new ↦ ap (λ (m : Units.Message). m.header.group_last) (in_single q p new) ∙ own_last ];
    in_pin = pinned;
    from = omega (arith, op_is, fits.group);
    next_group = λ q. following q;
  },
  omega (arith, length-append w.more (p ∷ [])),
)
  where
    w : IsAhead places Taken b tail kept at ahead passed
    w = walk.ahead_is

    own_op : p.header.op ≡ h.op
    own_op = ap (λ (k : Units.Header). k.op) same

    own_last : p.header.group_last ≡ (header_of h).group_last
    own_last = ap (λ (k : Units.Header). k.group_last) same

    own_fits : Fits places (b.content.op + 1 + length w.ps + length w.more) (last_checksum (last_checksum b.content.op_checksum w.ps)
        w.more) (last_mark (last_mark 0 w.ps) w.more) (sessions_after (sessions_after b.parts.sessions w.ps) w.more) p.header
    own_fits = subst (λ (k : Units.Header).
        Fits places (b.content.op + 1 + length w.ps + length w.more) (last_checksum (last_checksum b.content.op_checksum w.ps) w.more)
        (last_mark (last_mark 0 w.ps) w.more) (sessions_after (sessions_after b.parts.sessions w.ps) w.more) k) (sym same)
        ((fits_behind places b w.ps w.more at.last ahead (header_of h) w.ends_on).0 fits)

    grouped : AreGroups 0 (b.content.op + length w.ps) (b.content.op + 1 + length w.ps) (w.more ++ p ∷ [])
    grouped = (w.next_group p).0 (subst (λ (k : Units.Header). FitsGroup at.group at.group_last (at.last.op + 1) k) (sym same) group)

    -- an open group goes on
    goes : (q : Units.Message) → In q w.more → (header_of h).group_last ≡ at.group_last
    goes q old = let opened : at.last.op < at.group_last = walk.opened (in_some q w.more old) in
        elim group [ inl new ↦ absurd (omega (arith, new.0, opened)) | inr on ↦ on.2 ]

    pinned : (q : Units.Message)
        → In q (w.more ++ p ∷ []) → q.header.op ≤ b.content.pin → b.content.pin ≤ h.op → q.header.group_last ≤ b.content.pin
    pinned q there low high = elim (in_either q w.more (p ∷ []) there) [
      | inl old ↦ elim (cases_lt at.last.op b.content.pin) [
        | inl above ↦ omega (arith, w.in_group q old, goes q old, pin (omega (arith, above, high, op_is)))
        | inr within ↦ w.in_pin q old low within
      ]
      | inr new ↦ let one : q ≡ p = in_single q p new in
          let q_op : q.header.op ≡ p.header.op = ap (λ (m : Units.Message). m.header.op) one in
          let q_last : q.header.group_last ≡ p.header.group_last = ap (λ (m : Units.Message). m.header.group_last) one in
          omega (arith, q_last, own_last, pin (omega (arith, q_op, own_op, low, high)))
    ]

    following : (q : Units.Message) → FitsGroup (header_of h).group (header_of h).group_last
        (h.op + 1) q.header ↔ AreGroups 0 (b.content.op + length w.ps) (b.content.op + 1 + length w.ps) ((w.more ++ p ∷ []) ++ q ∷ [])
    following q = let iff = groups_next 0 (b.content.op + length w.ps) (b.content.op + 1 + length w.ps) w.more p q grouped in
        let op : b.content.op + 1 + length w.ps + length w.more + 1 ≡ h.op + 1 = omega (arith, op_is, w.ends_on.op) in
        let told = subst (λ (k : Units.Header). FitsGroup k.group k.group_last (b.content.op + 1 + length w.ps + length w.more + 1)
        q.header ↔ AreGroups 0 (b.content.op + length w.ps) (b.content.op + 1 + length w.ps) ((w.more ++ p ∷ []) ++ q ∷ [])) same iff in
        subst (λ (o : ℕ). FitsGroup (header_of h).group (header_of h).group_last
        o q.header ↔ AreGroups 0 (b.content.op + length w.ps) (b.content.op + 1 + length w.ps) ((w.more ++ p ∷ []) ++ q ∷ [])) op told

-- where its group isn't over, the tail stays
walk_open : (places : ℕ) (Taken : Units.Message → Type 0) (b : Checkpoint) (tail : Tail) (kept : List Session)
    (at : Position) (ahead : List Session) (passed : List Units.Message) (w : IsAhead places Taken b tail kept at ahead passed)
    → 0 < length w.more → at.last.op < at.group_last → IsWalk places Taken b tail kept at ahead passed
walk_open places Taken b tail kept at ahead passed w some open_yet =
    record { ahead_is = w; closed = λ none. absurd (omega (arith, some, none)); opened = λ more. open_yet }

-- and where it is, the tail ends there
walk_over : (places : ℕ) (Taken : Units.Message → Type 0)
    (b : Checkpoint) (tail : Tail) (kept : List Session) (at : Position) (ahead : List Session) (passed : List Units.Message)
    → IsAhead places Taken b tail kept at ahead passed → at.group_last ≤ at.last.op → IsWalk places Taken b at.last ahead at ahead passed
walk_over places Taken b tail kept at ahead passed w over = record {
  ahead_is = record {
    ps = all;
    more = [];
    are = append-nil all ∙ w.are;
    chain = chain_append places (b.content.op + 1) b.content.op_checksum 0 b.parts.sessions w.ps w.more w.chain w.chain_on;
    grouped = groups_join 0 b.content.op (b.content.op + 1) (b.content.op + length w.ps) w.ps w.more (omega arith) (λ p there.
        omega (arith, w.groups p there)) (omega arith) w.grouped w.grouped_on;
    groups = λ p there. elim (in_either
        p w.ps w.more there) [ inl old ↦ omega (arith, w.groups p old, size) | inr new ↦ omega (arith, w.in_group p new, over, end) ];
    pin_ends = λ p there low. elim (in_either p w.ps w.more there) [ inl old ↦ w.pin_ends p old low | inr new ↦ pinned p new low ];
    takes = λ p there. elim (in_either p w.ps w.more there) [ inl old ↦ w.takes p old | inr new ↦ w.takes_on p new ];
    ends = ended;
    chain_on = tt;
    grouped_on = tt;
    takes_on = λ p none. absurd none;
    ends_on = record { op = omega (arith, end); checksum = ended.checksum; mark = ended.mark; sessions_are = ended.sessions_are };
    in_group = λ p none. absurd none;
    in_pin = λ p none low high. absurd none;
    from = w.from;
    next_group = λ p. following p.header;
  };
  closed = λ none. omega (arith, over, w.from);
  opened = λ some. absurd (omega arith);
}
  where
    all : List Units.Message
    all = w.ps ++ w.more

    size : length all ≡ length w.ps + length w.more
    size = length-append w.ps w.more

    end : at.last.op ≡ b.content.op + length all
    end = omega (arith, w.ends_on.op, size)

    ended : EndsAt b all at.last ahead
    ended = record {
      op = end;
      checksum = w.ends_on.checksum ∙ sym (last_checksum-append b.content.op_checksum w.ps w.more);
      mark = w.ends_on.mark ∙ sym (last_mark-append 0 w.ps w.more);
      sessions_are = w.ends_on.sessions_are ∙ sym (sessions-append b.parts.sessions w.ps w.more);
    }

    pinned : (p : Units.Message) → In p w.more → p.header.op ≤ b.content.pin → p.header.group_last ≤ b.content.pin
    pinned p there low = elim (cases_lt at.last.op b.content.pin) [
      | inl above ↦ omega (arith, w.in_group p there, over, above)
      | inr within ↦ w.in_pin p there low within
    ]

    following : (h : Units.Header) → FitsGroup
        at.group at.group_last (at.last.op + 1) h ↔ (FitsGroup 0 (b.content.op + length all) (b.content.op + 1 + length all) h × Unit {0})
    following h = let next : at.last.op + 1 ≡ b.content.op + 1 + length all = omega (arith, end) in (
      λ fits. (fits_closed at.group 0 at.group_last (b.content.op + length all) (b.content.op + 1 + length all) h (omega (arith, over, end)) (omega arith) (rw next at fits), tt),
      λ fits. rw (sym next) at (fits_closed 0
          at.group (b.content.op + length all) at.group_last (b.content.op + 1 + length all) h (omega arith) (omega (arith, over, end)) fits.0),
    )

-- ---- a turn of a loop

-- a prepare that comes next leads on: the tail ends there where its group is over, and else stays
pub walk_on : (places : ℕ) (Taken : Units.Message → Type 0) (b : Checkpoint) (tail end : Tail) (kept new : List Session)
    (at : Position) (ahead : List Session) (passed : List Units.Message) (head : ℕ) (h : Header) (p : Units.Message)
    → IsWalk places Taken b tail kept at ahead passed
    → b.content.pin ≡ head → Taken p → p.header ≡ header_of h → FitsAt places head at ahead h
    → ((header_of h).group_last ≤ h.op → (end ≡ tail_to h) × (new ≡ with_request h.client h.request h.op ahead))
    → (h.op < (header_of h).group_last → (end ≡ tail) × (new ≡ kept))
    → IsWalk places Taken b end new (position_of h) (with_request h.client h.request h.op ahead) (passed ++ p ∷ [])
walk_on places Taken b tail end kept new at ahead passed head h p walk pin taken same fits over opened =
    let more = walk_more places Taken b tail kept at ahead passed h p walk taken same fits.0.op_is fits.0 fits.1.0 (λ at_pin.
    omega (arith, pin, fits.1.1 (omega (arith, at_pin, pin)))) in
    let sessions : List Session = with_request h.client h.request h.op ahead in let longer : List Units.Message = passed ++ p ∷ [] in
    elim (cases_lt h.op (header_of h).group_last) [
      | inl goes ↦ let stays = opened goes in let here : IsWalk places Taken b tail kept (position_of h) sessions longer =
          walk_open places Taken b tail kept (position_of h) sessions longer more.0 more.1 goes in
          rw (sym stays.0) at (rw (sym stays.1) at here)
      | inr ends ↦ let moves = over ends in let here : IsWalk places Taken b (tail_to h) sessions (position_of h) sessions longer =
          walk_over places Taken b tail kept (position_of h) sessions longer more.0 ends in rw moves.0 (rw moves.1 here)
    ]

-- what holds of both ends holds of the one that is kept
pub either_kept : (Q : Tail → Table → Type 0) (tail end : Tail) (kept new ahead : Table) (at : Position) → Q tail kept → Q at.last ahead →
    (at.group_last ≤ at.last.op → (end ≡ at.last) × (new ≡ ahead)) → (at.last.op < at.group_last → (end ≡ tail) × (new ≡ kept)) → Q end new
either_kept Q tail end kept new ahead at old next over opened = elim (cases_lt at.last.op at.group_last) [
  | inl goes ↦ let stays = opened goes in rw (sym stays.0) at (rw (sym stays.1) at old)
  | inr ends ↦ let moves = over ends in rw (sym moves.0) at (rw (sym moves.1) at next)
]
