-- The state after a prepare that is noted makes sense.
use Rattle.std.proofs.{Common.{◌≡◌, ◌+◌, ℕ, List, [], length, refl, sym, ap, subst, ◌∙◌, arith}, lemmas.List.{length_push}}
use Rattle.{df_journal.specs.Tail.{AreNumbered}, df_replica.{specs.Appending.{MayNote}, proofs.AppendTests.{numbered_on}}}
use Rattle.df_opening.{specs.Below.{AreAsked, State, asker_of, running_of, state_in}, proofs.Laws.{asked_noted, course_on, level_beyond, staging_none}}
use Rattle.{df_sessions.specs.Requests.{sessions_of}, df_theory.{specs.Sessions.{Tracks, noted}, proofs.Laws.{tracks_noted}}}
use Rattle.df_theory.specs.Units
use Rattle.df_replica.proofs.replica.Replica.note.Goals as goal

pub invariant_of-self : goal.invariant_of-self
invariant_of-self c =
    let may = subst (λ (s : State). MayNote s c.args.made.now.client c.args.made.now.request) (sym c.self.view_is) c.requires.may in
    let op = subst (λ (s : State). c.args.made.now.op ≡ s.head + 1) (sym c.self.view_is) c.requires.op in
    let old = c.self.invariant.state in let h : Units.Header = asker_of c.self.inside.parts.replies
    c.args.made.now.op (record { client = c.args.made.now.client; request = c.args.made.now.request; body = [] }) in
    let sessions : sessions_of c.apply.new.self.sessions ≡ noted h (sessions_of c.self.inside.parts.sessions.sessions) =
    c.apply.ensures.noted h refl in let more : length c.push.new.self.items ≡ length c.self.inside.parts.waiting.items + 1 =
    ap length c.push.ensures.items ∙ length_push c.self.inside.parts.waiting.items c.args.made.now.checksum in record {
      state = record {
        in_file = old.in_file;
        booted = old.booted;
        ends = record {
          parent = c.requires.sum;
          order = omega (arith, op, old.order);
          room = omega (arith, op, may.room);
          head_to = omega (arith, op, may.op);
          first = λ zero_head. absurd (omega (arith, op, zero_head));
          level = λ same. absurd (omega (arith, op, same, old.order));
        };
        awaits = record {
          waiting = omega (arith, op, old.waiting, more);
          few = omega (arith, may.few, more);
          places = c.apply.ensures.places ∙ old.places;
          requests = subst AreNumbered (sym c.apply.ensures.sessions) (numbered_on c.args.made.now.client
              c.args.made.now.request c.args.made.now.op c.self.inside.parts.sessions.sessions old.requests may.request.1);
          asked = subst AreAsked (sym sessions) (asked_noted h (sessions_of c.self.inside.parts.sessions.sessions) old.asked may.request.0);
          tracks = subst (λ (ss : List Units.Session). Tracks c.self.inside.parts.replies c.args.made.now.op ss) (sym sessions)
              (subst (λ (top : ℕ).
              Tracks c.self.inside.parts.replies top (noted h (sessions_of c.self.inside.parts.sessions.sessions))) (sym op)
              (tracks_noted
              c.self.inside.parts.file.layout.clients c.self.inside.parts.replies c.self.inside.parts.replies c.self.inside.parts.head
              h (sessions_of c.self.inside.parts.sessions.sessions) old.tracks (may.asks h refl refl refl) op (omega arith) (omega arith)));
        };
        staging = staging_none (record (state_in c.self.inside.parts) { head = c.args.made.now.op; table = c.apply.new.self })
            may.unstaged (omega (arith, op, old.waiting, may.few)) (omega (arith, op, may.room)) (omega (arith, op, may.op));
        captured = level_beyond c.self.inside.parts.file c.self.inside.parts.content c.self.inside.parts.head c.args.made.now.op c.args.made.now.checksum c.self.inside.parts.grid.blocks (running_of c.self.inside.parts.running) (omega (arith, op)) old.course;
        course = course_on c.self.inside.parts.file c.self.inside.parts.content c.self.inside.parts.head
            c.args.made.now.op c.self.inside.parts.grid.blocks (running_of c.self.inside.parts.running) (omega (arith, op)) old.course;
      };
      rooms = c.self.invariant.rooms;
      grid = c.self.invariant.grid;
    }
