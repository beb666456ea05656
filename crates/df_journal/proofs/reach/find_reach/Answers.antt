-- Each turn takes the prepare that comes next; where there is none, or the ring is full, the walk ends.
use Rattle.std.proofs.Common.{◌≡◌, ◌≤◌, ◌<◌, ◌+◌, ◌^◌, ℕ, List, None, refl, sym, ◌∙◌, ap, subst, arith}
use Rattle.df_format.specs.{declared.header.Header.{Header}, Spelling.{IsCheck}}
use Rattle.df_sessions.specs.{declared.session.Session.{Session}, Table.{Table}}
use Rattle.df_journal.{specs.{Scan.{Scan}, declared.table.Start.{Start}, Tail.{AreNumbered, AreUnstored, IsNext, TailWalkGoesOn, position_of, tail_to}}, proofs.Walks.{EndsThere, IsTakenWalk, shape_walk, still_numbered, still_unstored, taken_begins, taken_on, walk_reaches, walk_stops}}
use Rattle.df_group.{specs.{declared.groups.Tail.{Tail}, declared.groups.Position.{Position}}, proofs.Laws.{either_kept, end_at}}
use Rattle.df_journal.proofs.reach.find_reach.Goals as goal

pub loop-at-init : goal.loop-at-init
loop-at-init c = let first : c.found.inside.start.op ≡ c.args.found.now.start.op = ap (λ (s : Scan). s.start.op) c.found.view_is in
    let tail : c.empty_tail-tail.result ≡ end_at c.args.found.now.start.op c.args.checksum.now =
    c.empty_tail-tail.ensures ∙ ap (λ (n : ℕ). end_at n c.args.checksum.now) first in
    let tail_op : c.empty_tail-tail.result.op ≡ c.args.found.now.start.op = ap (λ (t : Tail). t.op) tail in
    let tail_sum : c.empty_tail-tail.result.checksum ≡ c.args.checksum.now = ap (λ (t : Tail). t.checksum) tail in
    let last : c.position_behind-at.result.last ≡ c.empty_tail-tail.result = ap (λ (p : Position). p.last) c.position_behind-at.ensures in
    let last_op : c.position_behind-at.result.last.op ≡ c.args.found.now.start.op = ap (λ (t : Tail). t.op) last ∙ tail_op in
    let check : IsCheck c.empty_tail-tail.result.checksum = subst IsCheck (sym tail_sum) c.requires.checksum in
    let ahead : c.copied-ahead.result ≡ c.args.sessions.now = c.copied-ahead.ensures in record {
      from = omega (arith, tail_op);
      order = omega (arith, tail_op, last_op);
      within = omega (arith, last_op);
      most = omega (arith, last_op, c.requires.op);
      checksum = check;
      last_checksum = rw (sym last) at check;
      start = λ same. tail_sum;
      places = refl;
      places_on = ap (λ (t : Table). t.max) ahead;
      unstored = λ none. none;
      unstored_on = λ none. rw (sym ahead) at none;
      numbered = λ small. small;
      numbered_on = λ small. rw (sym ahead) at small;
      walk = λ sh image b tells starts. taken_begins image sh b c.args.layout.now c.args.found.now.start c.args.checksum.now c.args.sessions.now.sessions starts c.empty_tail-tail.result c.position_behind-at.result c.copied-ahead.result.sessions tail c.position_behind-at.ensures (ap (λ (t : Table). t.sessions) ahead);
    }

pub loop-at-preserved : goal.loop-at-preserved
loop-at-preserved c = let first : c.found.inside.start.op ≡ c.args.found.now.start.op = ap (λ (s : Scan). s.start.op) c.found.view_is in
    let h : Header = c.in-Some.header in let inv = c.loop-at.invariant in
    let start : c.found.inside.start ≡ c.args.found.now.start = ap (λ (s : Scan). s.start) c.found.view_is in
    let next : IsNext c.args.layout.now c.args.found.now.start c.args.found.now.slots c.loop-at.at c.loop-at.ahead.sessions h =
    rw start at c.in-Some.ensures.next in let at_is : position_of h ≡ c.position_of-at.result = sym c.position_of-at.ensures in
    let last_is : tail_to h ≡ c.position_of-at.result.last = ap (λ (p : Position). p.last) at_is in
    let op : c.position_of-at.result.last.op ≡ c.loop-at.at.last.op + 1 = sym (ap (λ (t : Tail). t.op) last_is) ∙ next.taken.op_is in
    let over = c.keep_whole.ensures.over in let open_yet = c.keep_whole.ensures.open in let either =
    λ (Q : Tail → Table → Type 0) (old : Q c.loop-at.tail c.loop-at.sessions) (new : Q c.position_of-at.result.last c.apply.new.self).
    either_kept Q c.loop-at.tail
    c.keep_whole.new.tail c.loop-at.sessions c.keep_whole.new.sessions c.apply.new.self c.position_of-at.result old new over open_yet in
    record {
      from = either (λ t s. c.args.found.now.start.op ≤ t.op) inv.from (omega (arith, op, inv.from, inv.order));
      order = either (λ t s. t.op ≤ c.position_of-at.result.last.op) (omega (arith, op, inv.order)) (omega arith);
      within = omega (arith, op, first, c.loop-at-test.true, c.from.ensures, inv.from, inv.order);
      most = rw (← last_is) c.in-Some.ensures.sound.op;
      checksum = either (λ t s. IsCheck t.checksum) inv.checksum (rw (← last_is) c.in-Some.ensures.sound.checksum);
      last_checksum = rw (← last_is) c.in-Some.ensures.sound.checksum;
      start = either (λ t s. t.op ≡ c.args.found.now.start.op
          → t.checksum ≡ c.args.checksum.now) inv.start (λ same. absurd (omega (arith, op, same, inv.from, inv.order)));
      places = either (λ t s. s.max ≡ c.args.sessions.now.max) inv.places (c.apply.ensures.places ∙ inv.places_on);
      places_on = c.apply.ensures.places ∙ inv.places_on;
      unstored = λ none. either (λ t s. AreUnstored s.sessions) (inv.unstored none)
          (still_unstored h c.loop-at.ahead.sessions _ c.apply.result c.apply.ensures.there c.apply.ensures.others (inv.unstored_on none));
      unstored_on = λ none.
          still_unstored h c.loop-at.ahead.sessions _ c.apply.result c.apply.ensures.there c.apply.ensures.others (inv.unstored_on none);
      numbered = λ small. either (λ t s. AreNumbered s.sessions) (inv.numbered small) (still_numbered h c.loop-at.ahead.sessions
          _ c.apply.result c.in-Some.ensures.sound.request c.apply.ensures.there c.apply.ensures.others (inv.numbered_on small));
      numbered_on = λ small. still_numbered h c.loop-at.ahead.sessions
          _ c.apply.result c.in-Some.ensures.sound.request c.apply.ensures.there c.apply.ensures.others (inv.numbered_on small);
      walk = λ sh image b tells starts.
          let more = taken_on c.args.layout.now c.args.found.now.start.cluster c.args.found.now.slots image b c.args.found.now.start c.loop-at.tail c.keep_whole.new.tail c.loop-at.sessions.sessions c.keep_whole.new.sessions.sessions c.loop-at.at c.loop-at.ahead.sessions h c.requires.table tells.shows
          (record { boot = starts.boot; pin = starts.pin }) (inv.walk sh image b tells starts) next
          (λ low. let moved = over (rw (← at_is) low) in
          (moved.0 ∙ sym last_is, ap (λ (t : Table). t.sessions) moved.1 ∙ c.apply.ensures.sessions))
          (λ up. let stayed = open_yet (rw (← at_is) up) in (stayed.0, ap (λ (t : Table). t.sessions) stayed.1)) in rw at_is at
          (rw (sym c.apply.ensures.sessions) at more);
    }

pub loop-at-smaller : goal.loop-at-smaller
loop-at-smaller c = let first : c.found.inside.start.op ≡ c.args.found.now.start.op = ap (λ (s : Scan). s.start.op) c.found.view_is in
    let last_is : tail_to c.in-Some.header ≡ c.position_of-at.result.last = ap (λ (p : Position). p.last) (sym c.position_of-at.ensures) in
    let op : c.position_of-at.result.last.op ≡ c.loop-at.at.last.op + 1 = sym (ap (λ (t : Tail). t.op) last_is) ∙ c.in-Some.ensures.op in
    omega (arith, op, first, c.loop-at-test.true, c.from.ensures, c.loop-at.invariant.from, c.loop-at.invariant.order)

pub returns-in-None-clause-reach : goal.returns-in-None-clause-reach
returns-in-None-clause-reach c = λ sh image b tells starts known.
    let start : c.found.inside.start ≡ c.args.found.now.start = ap (λ (s : Scan). s.start) c.found.view_is in
    let ends : TailWalkGoesOn c.args.layout.now c.args.found.now.start c.args.found.now.slots c.loop-at.at c.loop-at.ahead.sessions None =
    rw start at c.in-None.ensures.next in let walk = shape_walk sh image b c.args.layout.now c.loop-at.tail c.loop-at.sessions.sessions
    c.loop-at.at c.loop-at.ahead.sessions starts.slots_are starts.clients_are (c.loop-at.invariant.walk sh image b tells starts) in
    let none : EndsThere c.args.layout.now c.args.found.now.start c.args.found.now.slots c.loop-at.at c.loop-at.ahead.sessions =
    λ h room next. ends h next in record {
      stops = λ short. walk_stops c.args.layout.now c.args.found.now.start.cluster c.args.found.now.slots image c.requires.table tells.shows sh b c.args.found.now.start c.args.checksum.now c.args.sessions.now.sessions starts known c.loop-at.tail c.loop-at.sessions.sessions c.loop-at.at c.loop-at.ahead.sessions walk c.loop-at.invariant.within none short;
      reached = λ past. walk_reaches c.args.layout.now c.args.found.now.start.cluster c.args.found.now.slots image c.requires.table tells.shows sh b c.args.found.now.start c.args.checksum.now c.args.sessions.now.sessions starts known c.loop-at.tail c.loop-at.sessions.sessions c.loop-at.at c.loop-at.ahead.sessions walk c.loop-at.invariant.within none past;
    }

pub returns-clause-reach : goal.returns-clause-reach
returns-clause-reach c = λ sh image b tells starts known.
    let first : c.found.inside.start.op ≡ c.args.found.now.start.op = ap (λ (s : Scan). s.start.op) c.found.view_is in
    let walk = shape_walk sh image b c.args.layout.now c.loop-at.tail c.loop-at.sessions.sessions
    c.loop-at.at c.loop-at.ahead.sessions starts.slots_are starts.clients_are (c.loop-at.invariant.walk sh image b tells starts) in
    let none : EndsThere c.args.layout.now c.args.found.now.start c.args.found.now.slots c.loop-at.at c.loop-at.ahead.sessions =
    λ h room next. omega (arith, room, first, c.loop-at-test.false, c.from.ensures, c.loop-at.invariant.from, c.loop-at.invariant.order) in
    record {
      stops = λ short. walk_stops c.args.layout.now c.args.found.now.start.cluster c.args.found.now.slots image c.requires.table tells.shows sh b c.args.found.now.start c.args.checksum.now c.args.sessions.now.sessions starts known c.loop-at.tail c.loop-at.sessions.sessions c.loop-at.at c.loop-at.ahead.sessions walk c.loop-at.invariant.within none short;
      reached = λ past. walk_reaches c.args.layout.now c.args.found.now.start.cluster c.args.found.now.slots image c.requires.table tells.shows sh b c.args.found.now.start c.args.checksum.now c.args.sessions.now.sessions starts known c.loop-at.tail c.loop-at.sessions.sessions c.loop-at.at c.loop-at.ahead.sessions walk c.loop-at.invariant.within none past;
    }

pub returns-in-None-clause-bounds : goal.returns-in-None-clause-bounds
returns-in-None-clause-bounds c = record { from = c.loop-at.invariant.from; order = c.loop-at.invariant.order; within = c.loop-at.invariant.within; most = c.loop-at.invariant.most; checksum = c.loop-at.invariant.checksum; start = c.loop-at.invariant.start }

pub returns-in-None-clause-sessions : goal.returns-in-None-clause-sessions
returns-in-None-clause-sessions c =
    record { places = c.loop-at.invariant.places; unstored = c.loop-at.invariant.unstored; numbered = c.loop-at.invariant.numbered }

pub returns-clause-bounds : goal.returns-clause-bounds
returns-clause-bounds c = record { from = c.loop-at.invariant.from; order = c.loop-at.invariant.order; within = c.loop-at.invariant.within; most = c.loop-at.invariant.most; checksum = c.loop-at.invariant.checksum; start = c.loop-at.invariant.start }

pub returns-clause-sessions : goal.returns-clause-sessions
returns-clause-sessions c =
    record { places = c.loop-at.invariant.places; unstored = c.loop-at.invariant.unstored; numbered = c.loop-at.invariant.numbered }
