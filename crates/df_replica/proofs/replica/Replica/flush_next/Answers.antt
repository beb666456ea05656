-- The rooms hold the group of all that is staged, and what is noted of them is the state after it.
use Rattle.{std.proofs.Common.{◌≡◌, ◌+◌, ◌∙◌, true, length, ℕ, List, sym, ap, subst, arith}, df_journal.specs.Flush.{with_headers}}
use Rattle.{df_format.specs.{declared.header.Header.{Header}, Message.{Message}}, df_opening.specs.Below.{IsState, State, state_in}}
use Rattle.df_replica.{specs.{declared.flush.Group.{Group}, Flushing.{AreHeld, HavePlaces, MaySeal, flush_units, flushed, group_in}}, proofs.{FlushState.{flushed_as, flushed_state, have_places}, FlushUnits.{lent_count, lent_held, lent_long, lent_made, lent_units, may_seal}}}
use Rattle.df_replica.proofs.replica.Replica.flush_next.Goals as goal

pub seal_all-requires-clause-may : goal.seal_all-requires-clause-may
seal_all-requires-clause-may g c = let s : State = state_in c.self.inside.parts in
    let live : s.live ≡ true = ap (λ (x : State). x.live) c.self.view_is ∙ c.requires.live in
    subst (λ (x : Group). MaySeal x x.first s.head_checksum s.staged)
    (ap group_in c.self.view_is ∙ sym c.group-group.ensures) (may_seal s c.self.invariant.state live)

pub flush_in-requires-clause-some : goal.flush_in-requires-clause-some
flush_in-requires-clause-some g c = let s : State = state_in c.self.inside.parts in
    let of : c.group-group.result ≡ group_in s = c.group-group.ensures ∙ ap group_in (sym c.self.view_is) in
    omega (arith, c.requires.some, ap (λ (x : State). length x.staged) c.self.view_is, lent_count s c.group-group.result c.seal_all.new.staging.sealed c.units.result.now of c.units.ensures c.seal_all.ensures.units)

pub flush_in-requires-clause-made : goal.flush_in-requires-clause-made
flush_in-requires-clause-made g c = let s : State = state_in c.self.inside.parts in
    let of : c.group-group.result ≡ group_in s = c.group-group.ensures ∙ ap group_in (sym c.self.view_is) in
    lent_made s c.group-group.result
    c.seal_all.new.staging.sealed c.units.result.now of c.units.ensures c.seal_all.ensures.units c.seal_all.ensures.made

pub returns-in_err-flush_in-clause-held : goal.returns-in_err-flush_in-clause-held
returns-in_err-flush_in-clause-held g c = let s : State = state_in c.self.inside.parts in
    let of : c.group-group.result ≡ group_in s = c.group-group.ensures ∙ ap group_in (sym c.self.view_is) in
    subst (λ (x : State). AreHeld x.file (flush_units x)) c.self.view_is (lent_held s c.group-group.result c.seal_all.new.staging.sealed
    c.units.result.now of c.units.ensures c.seal_all.ensures.units c.seal_all.ensures.made c.flush_in.ensures.own)

pub returns-clause-held : goal.returns-clause-held
returns-clause-held g c = let s : State = state_in c.self.inside.parts in
    let of : c.group-group.result ≡ group_in s = c.group-group.ensures ∙ ap group_in (sym c.self.view_is) in
    subst (λ (x : State). AreHeld x.file (flush_units x)) c.self.view_is (lent_held s c.group-group.result c.seal_all.new.staging.sealed
    c.units.result.now of c.units.ensures c.seal_all.ensures.units c.seal_all.ensures.made c.flush_in.ensures.own)

pub note_all-requires-clause-head : goal.note_all-requires-clause-head
note_all-requires-clause-head g c = let s : State = state_in c.self.inside.parts in
    let of : c.group-group.result ≡ group_in s = c.group-group.ensures ∙ ap group_in (sym c.self.view_is) in
    omega (arith, lent_count s c.group-group.result c.seal_all.new.staging.sealed c.units-2.result.now of c.units-2.ensures c.seal_all.ensures.units, c.self.invariant.state.staging.unspent)

pub note_all-requires-clause-few : goal.note_all-requires-clause-few
note_all-requires-clause-few g c = let s : State = state_in c.self.inside.parts in
    let of : c.group-group.result ≡ group_in s = c.group-group.ensures ∙ ap group_in (sym c.self.view_is) in
    let is = c.self.invariant.state in
    omega (arith, lent_count s c.group-group.result c.seal_all.new.staging.sealed c.units-2.result.now of c.units-2.ensures c.seal_all.ensures.units, is.staging.pipeline, is.waiting)

pub note_all-requires-clause-places : goal.note_all-requires-clause-places
note_all-requires-clause-places g c = let s : State = state_in c.self.inside.parts in
    let of : c.group-group.result ≡ group_in s = c.group-group.ensures ∙ ap group_in (sym c.self.view_is) in
    let is = c.self.invariant.state in subst (λ (us : List Message). HavePlaces s.table.max s.table.sessions us) (sym (lent_units
    s c.group-group.result c.seal_all.new.staging.sealed c.units-2.result.now of c.units-2.ensures c.seal_all.ensures.units))
    (subst (λ (max : ℕ). HavePlaces max s.table.sessions (flush_units s)) (sym is.places)
    (have_places s.file.layout (group_in s) s.replies (s.head + 1) s.head_checksum s.staged s.table.sessions is.staging.each is.staging.asks))

pub invariant_of-self-2 : goal.invariant_of-self-2
invariant_of-self-2 g c = let s : State = state_in c.self.inside.parts in
    let of : c.group-group.result ≡ group_in s = c.group-group.ensures ∙ ap group_in (sym c.self.view_is) in let units =
    lent_units s c.group-group.result c.seal_all.new.staging.sealed c.units-2.result.now of c.units-2.ensures c.seal_all.ensures.units in
    let noted = c.note_all.ensures in record {
      state = subst IsState
          (sym (flushed_as s (flush_units s) c.units-2.result.now c.note_all.new.head c.note_all.new.head_checksum c.note_all.new.waiting.items c.note_all.new.sessions c.flush_in.new.rooms.headers c.seal_all.new.staging.requests units noted.head noted.sum noted.waiting noted.sessions c.seal_all.ensures.requests (lent_long s c.group-group.result c.seal_all.new.staging.sealed c.units-2.result.now of c.units-2.ensures c.seal_all.ensures.units)))
          (flushed_state s c.flush_in.new.rooms.headers c.self.invariant.state c.flush_in.ensures.rooms.table);
      rooms = record {
        rooms_fit = c.flush_in.ensures.rooms.layout_is;
        trailer_fits = c.self.invariant.trailer_fits;
        scrub_fits = c.self.invariant.scrub_fits;
        staging_fits = c.seal_all.ensures.layout ∙ c.self.invariant.staging_fits;
      };
      grid = c.self.invariant.grid;
    }

pub returns-clause-state : goal.returns-clause-state
returns-clause-state g c = let s : State = state_in c.self.inside.parts in
    let of : c.group-group.result ≡ group_in s = c.group-group.ensures ∙ ap group_in (sym c.self.view_is) in let units =
    lent_units s c.group-group.result c.seal_all.new.staging.sealed c.units-2.result.now of c.units-2.ensures c.seal_all.ensures.units in
    let first = lent_units s c.group-group.result c.seal_all.new.staging.sealed c.units.result.now of c.units.ensures c.seal_all.ensures.units in
    let noted = c.note_all.ensures in let headers : c.flush_in.new.rooms.headers ≡ with_headers (flush_units s) s.headers =
    c.in_ok-flush_in.ensures.table ∙ ap (λ (us : List Message). with_headers us s.headers) first in
    flushed_as s (flush_units s) c.units-2.result.now c.note_all.new.head c.note_all.new.head_checksum c.note_all.new.waiting.items c.note_all.new.sessions c.flush_in.new.rooms.headers c.seal_all.new.staging.requests units noted.head noted.sum noted.waiting noted.sessions c.seal_all.ensures.requests (lent_long s c.group-group.result c.seal_all.new.staging.sealed c.units-2.result.now of c.units-2.ensures c.seal_all.ensures.units)
    ∙ ap (λ (hs : List Header). record (flushed s (flush_units s)) { headers = hs }) headers
    ∙ ap (λ (x : State). flushed x (flush_units x)) c.self.view_is
