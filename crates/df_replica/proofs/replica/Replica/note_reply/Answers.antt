-- The state after a reply that is noted makes sense.
use Rattle.{std.proofs.Common.{◌≡◌, ◌<◌, ◌+◌, length, refl, sym, subst, ◌∙◌, arith}, df_sessions.specs.Requests.{sessions_of}}
use Rattle.{df_theory.specs.Sessions.{Tracks}, df_opening.{specs.Below.{AreAsked, State, state_in}, proofs.Laws.{numbered_by, staging_on}}}
use Rattle.df_replica.proofs.replica.Replica.note_reply.Goals as goal

pub invariant_of-self : goal.invariant_of-self
invariant_of-self c = let waits = subst (λ (s : State). s.replies < s.head) (sym c.self.view_is) c.requires.waits in
    let old = c.self.invariant.state in
    let fewer : length c.remove.new.self.items + 1 ≡ length c.self.inside.parts.waiting.items = c.remove.ensures.len in
    let same : sessions_of c.store.new.self.sessions ≡ sessions_of c.self.inside.parts.sessions.sessions = c.store.ensures.unnoted in
    record {
      state = record {
        in_file = old.in_file;
        booted = old.booted;
        ends = old.ends;
        awaits = record {
          waiting = omega (arith, old.waiting, fewer);
          few = omega (arith, old.few, fewer);
          places = c.store.ensures.places ∙ old.places;
          requests = numbered_by c.self.inside.parts.sessions.sessions c.store.new.self.sessions same old.requests;
          asked = subst AreAsked (sym same) old.asked;
          tracks = subst (Tracks (c.self.inside.parts.replies + 1) c.self.inside.parts.head) (sym same)
              (record { below = old.tracks.below; apart = old.tracks.apart; pending = λ o above within. old.tracks.pending o (omega (arith, above)) within });
        };
        staging = staging_on (state_in c.self.inside.parts) (record (state_in
            c.self.inside.parts) { replies = c.self.inside.parts.replies + 1; waiting = c.remove.new.self.items; table = c.store.new.self })
            refl refl refl (omega arith) (omega arith) same old.staging;
        captured = old.captured;
        course = old.course;
      };
      rooms = c.self.invariant.rooms;
      grid = c.self.invariant.grid;
    }
