-- A reply.
use Rattle.std.proofs.{Common.{◌≡◌, ℕ, suc, ◌+◌, ◌<◌, List, [], ◌∷◌, drop, length, None, refl, sym, ap, arith}, lemmas.Bool.{eqb-false}}
use Rattle.df_theory.{specs.{Units.{Message, Parts}, Shape.{Shape}, View.{View, head, sessions}, Next.{MayReply, replied}}, proofs.Laws.{reply_sound, tracks}}
use Rattle.df_model.{specs.{Work.{Work}, Refusals.{first_refusal, reply_refusals}, After.{with_reply}, Sense.{AreStaged, AreWaiting, IsWork}, Laws.{ReplyMayLaw}, Memory.{memory_of}, Making.{client_of, group_of, place_of_reply, reply_of, request_of}}, proofs.{Captures.{capture_on}, Tests.{all_pass}, Groups.{staged_on}, Knows.{one_fewer, reply_knows}, Sessions.{IsAtOp, op_found}}}

module _ (sh : Shape) (spell : Parts → List ℕ) (w : Work) (sum op : ℕ)
    (body : List ℕ) (work : IsWork sh spell w) (none : first_refusal (reply_refusals (memory_of sh spell w) op body) ≡ None) where
  abbrev v : View
  v = w.view

  abbrev r : Message
  r = reply_of (memory_of sh spell w) sum body

  waits : v.replies < head v
  waits = let tests = all_pass (reply_refusals (memory_of sh spell w) op body) none in
      let differs : v.replies ≡ head v → ⊥ = eqb-false v.replies (head v) tests.0 in omega (arith, work.view.pipeline)

  found : IsAtOp (v.replies + 1) (sessions v)
  found = op_found (v.replies + 1) (sessions v) ((tracks sh v work.view).pending (v.replies + 1) (omega arith) (omega (arith, waits)))

  pub may_reply : MayReply v (place_of_reply (memory_of sh spell w)) r
  may_reply = record {
    is = record {
      op = refl;
      mark = refl;
      checkpoint = refl;
      boot = refl;
      alone = record { first = refl; last = refl };
      session = (found.0, found.1, record { client = ap client_of found.1; request = ap request_of found.1; op = sym found.2 });
    };
    waits = waits;
  }

  waiting_of : (sums : List ℕ) → AreWaiting v sums → AreWaiting (replied v (place_of_reply (memory_of sh spell w)) r) (drop 1 sums)
  waiting_of [] old = absurd (omega (arith, old.count, waits))
  waiting_of (s ∷ sums) old = record {
    count = omega (arith, old.count);
    each = λ i p at is. old.each (suc i) p at (omega (arith, is));
  }

  -- what is staged has a later mark
  abbrev u : Work
  u = with_reply w (place_of_reply (memory_of sh spell w)) r

  staged : AreStaged sh u.view (group_of (memory_of sh spell u) [])
  staged = let m = memory_of sh spell w in let n = memory_of sh spell u in
      staged_on sh v u.view m n (head v + 1) (head v + length w.staged) (head v + 1) (head v + length w.staged) (head v
      + 1) (head v + 1) m.head_checksum n.head_checksum w.staged [] [] refl (omega arith) (omega arith) refl (omega arith) refl work.staged

  pub reply_keeps : IsWork sh spell (with_reply w (place_of_reply (memory_of sh spell w)) r)
  reply_keeps = record {
    codec = work.codec;
    version = record { version = work.version.version; places = work.version.places; names = work.version.names };
    view = reply_sound sh v (place_of_reply (memory_of sh spell w)) r work.view may_reply.is waits;
    sessions = work.sessions;
    grid = work.grid;
    waiting = waiting_of w.waiting work.waiting;
    staged = staged;
    running = λ q at. let old = work.running q at in
        capture_on sh spell v q old v.tail (v.replies + 1) (replied v (place_of_reply (memory_of sh spell w)) r).stored refl old.ends old.op_to;
    one = one_fewer
        w (with_reply w (place_of_reply (memory_of sh spell w)) r) (reply_knows w (place_of_reply (memory_of sh spell w)) r) work.one;
    sums = work.sums;
    few = work.few;
    clear = work.clear;
  }

pub reply_may_law : ReplyMayLaw
reply_may_law sh spell w sum op body work none = may_reply sh spell w sum op body work none
