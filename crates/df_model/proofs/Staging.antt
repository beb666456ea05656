-- A request that is staged.
use Rattle.std.{proofs.Common.{◌≡◌, ℕ, ◌+◌, ◌<◌, ◌≤◌, List, [], ◌∷◌, ◌++◌, length, None, refl, sym, subst, arith, length-append}, specs.Prelude.{◌^◌}}
use Rattle.df_layout.specs.declared.damage.Finding.{Finding}
use Rattle.df_theory.specs.{Units.{Message, Parts, Session}, Sessions.{MayAsk, noted, sessions_after}, Shape.{Shape}, View.{View, head, sessions}}
use Rattle.df_model.{specs.{Work.{Request, Tour, Work}, Codec.{AreLawful}, Memory.{Memory, memory_of}, Making.{group_of, prepare_in, prepares_in}, Refusals.{counted_staged, first_refusal, session_of_client, stage_refusals}, After.{with_staged}, Sense.{AreStaged, IsWork}}, proofs.{Appends.{IsAllowed, allowed, allowed_asks, some_request}, Groups.{alike_sessions, ask_on, asks_more, length_in, sessions_more, staged_on}, Knows.{aside_one}, Sessions.{noted_lawful}}}

-- ---- what is beside the view and the grid

-- no staged request, no tour and no finding knows a block
pub aside_keeps : (sh : Shape) (spell : Parts → List ℕ) (w : Work) (staged : List Request) (tour : Tour) (findings : List Finding)
    → AreStaged sh w.view (group_of (memory_of sh spell (record w { staged = staged; tour = tour; findings = findings })) [])
    → length findings ≤ 64 → IsWork sh spell w → IsWork sh spell (record w { staged = staged; tour = tour; findings = findings })
aside_keeps sh spell w staged tour findings fits few work = record {
  codec = work.codec;
  version = work.version;
  view = work.view;
  sessions = work.sessions;
  grid = work.grid;
  one = aside_one w (record w { staged = staged; tour = tour; findings = findings }) refl refl refl work.one;
  waiting = work.waiting;
  running = work.running;
  sums = work.sums;
  clear = work.clear;
  -- what is given anew
  staged = fits;
  few = few;
}

-- ---- a request is staged

module _ (sh : Shape) (spell : Parts → List ℕ) (w : Work) (client request : ℕ) (body : List ℕ)
    (work : IsWork sh spell w) (none : first_refusal (stage_refusals (memory_of sh spell w) client request body) ≡ None) where
  abbrev v : View
  v = w.view

  abbrev m : Memory
  m = memory_of sh spell w

  abbrev r : Request
  r = record { client = client; request = request; body = body }

  abbrev u : Work
  u = with_staged w r

  abbrev n : Memory
  n = memory_of sh spell u

  abbrev many : ℕ
  many = length (w.staged ++ r ∷ [])

  -- those that are staged already, with the numbers of the longer group
  abbrev ps : List Message
  ps = prepares_in n (head v + 1) (head v + many) (head v + 1) n.head_checksum w.staged []

  abbrev counts : List Session
  counts = sessions_after (sessions v) (group_of m [])

  is : IsAllowed (counted_staged m) client request (session_of_client client counts)
  is = allowed (counted_staged m) client request body none

  longer : many ≡ length w.staged + 1
  longer = length-append w.staged (r ∷ [])

  before : AreStaged sh v ps
  before = staged_on sh v v m n (head v + 1) (head v + length w.staged) (head v + 1) (head v + many) (head v
      + 1) (head v + 1) m.head_checksum n.head_checksum w.staged [] [] refl (omega arith) (omega arith) refl (omega arith) refl work.staged

  same : counts ≡ sessions_after (sessions v) ps
  same = alike_sessions m n (head v + 1) (head v + length w.staged)
      (head v + 1) (head v + many) (head v + 1) (head v + 1) m.head_checksum n.head_checksum w.staged [] [] (sessions v) refl

  abbrev q : ℕ → Message
  q op = prepare_in n (head v + 1) (head v + many) op 0 0 r

  asks : MayAsk sh.layout.clients (q (head v + 1 + length w.staged)).header (sessions_after (sessions v) ps)
  asks = subst (MayAsk sh.layout.clients (q (head v + 1 + length w.staged)).header)
      same (allowed_asks (counted_staged m) (q (head v + 1 + length w.staged)).header body work.staged.sessions.few (omega arith) is)

  lawful : client < 2 ^ 128 → AreLawful sh.layout.clients (noted (q (head v + 1 + length w.staged)).header (sessions_after (sessions v) ps))
  lawful fits = noted_lawful
      sh.layout.clients (q (head v + 1 + length w.staged)).header (sessions_after (sessions v) ps) before.sessions asks (record {
        client = ((let named = is.named in omega arith), fits);
        request = (omega (arith, is.next, some_request (session_of_client client counts)), is.request_to);
        op = (omega arith, omega (arith, is.op, before.unspent, length_in n (head v + 1) (head v + many) (head v + 1) n.head_checksum w.staged []));
      })

  staged : client < 2 ^ 128 → AreStaged sh v (group_of n [])
  staged fits = let long = length_in n (head v + 1) (head v + many) (head v + 1) n.head_checksum w.staged [] in
      let all = length_in n (head v + 1) (head v + many) (head v + 1) n.head_checksum (w.staged ++ r ∷ []) [] in record {
        room = omega (arith, is.room, all, longer);
        pipeline = omega (arith, is.pipeline, before.pipeline, long, all, longer);
        unspent = omega (arith, is.op, before.unspent, long, all, longer);
        asks = asks_more n (head v + 1) (head v + many) sh.layout.clients (head v + 1) n.head_checksum w.staged r [] (sessions v) before.asks
            (ask_on sh.layout.clients
            (q (head v + 1 + length w.staged)).header (q 0).header (sessions_after (sessions v) ps) refl refl (omega arith) asks);
        sessions = subst (AreLawful sh.layout.clients) (sym (sessions_more n (head v + 1)
            (head v + many) (head v + 1) n.head_checksum (head v + 1 + length w.staged) w.staged r [] (sessions v) refl)) (lawful fits);
      }

  pub stage_keeps : client < 2 ^ 128 → IsWork sh spell u
  stage_keeps fits = aside_keeps sh spell w u.staged w.tour w.findings (staged fits) work.few work
