-- A flush of all that is staged.
use Rattle.std.{proofs.{Common.{◌≡◌, inl, inr, ℕ, zero, suc, ◌+◌, ◌<◌, ◌≤◌, List, [], ◌∷◌, ◌++◌, length, map, take, Some, None, refl, sym, ap, subst, arith, length-append, ltb-true}, lemmas.List.{length-map, take-append-le}, lemmas.Bool.{not-false}}, specs.{Prelude.{◌-◌}, List.{slice_get}}}
use Rattle.df_theory.{specs.{Units.{Message, Parts}, Tails.{In}, Shape.{Shape}, View.{View, head, sessions}, Holds.{Sound}, Next.{AreInTurn, MayAppend, appended}}, proofs.Laws.{append_sound, in_either, sessions-append}}
use Rattle.df_model.{specs.{Work.{Running, Work}, Codec.{AreLawful}, Memory.{Memory, memory_of, sum_of_message}, Making.{group_of}, Refusals.{first_refusal, flush_refusals, is_staged}, After.{with_group}, Sense.{AreStaged, AreWaiting, IsCapture, IsWork}, Laws.{FlushMayLaw}}, proofs.{Captures.{capture_on}, Groups.{in_turn, length_in, member, nothing_staged, staged_on}, Knows.{group_knows, one_fewer}, Tests.{all_pass, get_before, get_behind}}}

-- the ops and checksums of prepares in turn
turn_from : (op parent : ℕ) (ps : List Message) (q : Message) → AreInTurn op parent ps → In q ps → op ≤ q.header.op
turn_from op parent [] q turn at = absurd at
turn_from op parent (p ∷ ps) q turn (inl here) = omega (arith, turn.0, ap (λ (x : Message). x.header.op) here)
turn_from op parent (p ∷ ps) q turn (inr there) = omega (arith, turn_from (op + 1) p.header.checksum ps q turn.2 there)

turn_at : (op parent : ℕ) (ps : List Message) (q : Message) (j : ℕ)
    → AreInTurn op parent ps → In q ps → q.header.op ≡ op + j → slice_get (map sum_of_message ps) j ≡ Some q.header.checksum
turn_at op parent [] q j turn at is = absurd at
turn_at op parent (p ∷ ps) q zero turn (inl here) is = ap (λ (x : Message). Some x.header.checksum) (sym here)
turn_at op parent (p ∷ ps) q (suc j) turn (inl here) is = absurd (omega (arith, turn.0, ap (λ (x : Message). x.header.op) here, is))
turn_at op parent (p ∷ ps) q zero turn (inr there) is = absurd (omega (arith, turn_from (op + 1) p.header.checksum ps q turn.2 there, is))
turn_at op parent (p ∷ ps) q (suc j) turn (inr there) is = turn_at (op + 1) p.header.checksum ps q j turn.2 there (omega (arith, is))

module _ (sh : Shape) (spell : Parts → List ℕ)
    (w : Work) (sums : List ℕ) (work : IsWork sh spell w) (none : first_refusal (flush_refusals (memory_of sh spell w)) ≡ None) where
  abbrev v : View
  v = w.view

  abbrev m : Memory
  m = memory_of sh spell w

  abbrev ps : List Message
  ps = group_of m sums

  abbrev later : View
  later = appended v ps

  some : 0 < length w.staged
  some = ltb-true 0 (length w.staged) (not-false (is_staged m) (all_pass (flush_refusals m) none).0)

  long : length ps ≡ length w.staged
  long = length_in m (head v + 1) (head v + length w.staged) (head v + 1) m.head_checksum w.staged sums

  before : AreStaged sh v ps
  before = staged_on sh v v m m (head v + 1) (head v + length w.staged) (head v + 1) (head v + length w.staged) (head v + 1)
      (head v + 1) m.head_checksum m.head_checksum w.staged [] sums refl (omega arith) (omega arith) refl (omega arith) refl work.staged

  turn : AreInTurn (head v + 1) m.head_checksum ps
  turn = in_turn m (head v + 1) (head v + length w.staged) (head v + 1) m.head_checksum w.staged sums

  pub may_flush : MayAppend sh v ps
  may_flush = record {
    is = record {
      some = omega (arith, some, long);
      turn = turn;
      stamped = λ q at. let is = member m (head v + 1) (head v + length w.staged) (head v + 1) m.head_checksum w.staged sums q at in
          record { mark = is.mark; checkpoint = is.checkpoint; boot = is.boot; group = is.group; group_last = omega (arith, is.group_last, long) };
    };
    room = before.room;
    pipeline = before.pipeline;
    unspent = before.unspent;
    asks = before.asks;
  }

  head_is : head later ≡ head v + length ps
  head_is = omega (arith, length-append v.tail ps)

  sound : Sound sh later
  sound = append_sound sh v ps work.view may_flush

  lawful : AreLawful sh.layout.clients (sessions later)
  lawful = subst (AreLawful sh.layout.clients) (sym (sessions-append v.checkpoint.parts.sessions v.tail ps)) before.sessions

  waiting : AreWaiting later (w.waiting ++ map sum_of_message ps)
  waiting = record {
    count = omega (arith, work.waiting.count, length-append w.waiting (map sum_of_message ps), length-map ps sum_of_message, head_is);
    each = λ i q at op. elim (in_either q v.tail ps at) [
      | inl old ↦ get_before w.waiting (map sum_of_message ps) i q.header.checksum (work.waiting.each i q old op)
      | inr new ↦ let from = turn_from (head v + 1) m.head_checksum ps q turn new in let j : ℕ = i - length w.waiting in
          get_behind w.waiting (map sum_of_message ps) i j q.header.checksum (omega (arith, from, op, work.waiting.count))
          (turn_at (head v + 1) m.head_checksum ps q j turn new (omega (arith, from, op, work.waiting.count)))
    ];
  }

  capture : (r : Running) → IsCapture sh spell v r → IsCapture sh spell later r
  capture r old = let same : take (r.op - v.checkpoint.content.op) (v.tail ++ ps) ≡ take (r.op - v.checkpoint.content.op) v.tail =
      take-append-le (r.op - v.checkpoint.content.op) v.tail ps (omega (arith, old.op_to, old.op_from)) in
      capture_on sh spell v r old (v.tail ++ ps) v.replies later.stored same
      (λ q at low. elim (in_either q v.tail ps at) [ inl before ↦ old.ends q before low | inr new ↦ absurd (omega (arith, turn_from (head v + 1) m.head_checksum ps q turn new, old.op_to)) ])
      (omega (arith, old.op_to, head_is))

  pub flush_keeps : IsWork sh spell (with_group w ps)
  flush_keeps = record {
    codec = work.codec;
    version = record { version = work.version.version; places = work.version.places; names = work.version.names };
    view = sound;
    sessions = lawful;
    grid = work.grid;
    waiting = waiting;
    staged = nothing_staged sh later sound lawful;
    running = λ r at. capture r (work.running r at);
    one = one_fewer w (with_group w ps) (group_knows w ps) work.one;
    sums = work.sums;
    few = work.few;
    clear = work.clear;
  }

pub flush_may_law : FlushMayLaw
flush_may_law sh spell w sums work none = may_flush sh spell w sums work none
