-- What is staged stays so while no session asks: replies and checkpoints leave room for it.
use Rattle.std.proofs.Common.{◌≡◌, ℕ, ◌+◌, ◌≤◌, ◌^◌, ◌==◌, if◌then◌else◌, List, [], ◌∷◌, Some, None, refl, sym, subst, arith}
use Rattle.{df_layout.specs.declared.layout.Layout.{Layout}, df_sessions.specs.Requests.{sessions_of}}
use Rattle.{df_theory.specs.{Next.{MayAskInTurn}, Sessions.{noted}}, df_model.{specs.Work.{Request}, proofs.Laws.{ask_on}}}
use Rattle.df_theory.specs.Units
use Rattle.df_rooms.specs.{declared.file.DataFile.{DataFile}, State.{AreStaging, Stages, State, asker_of, asks_of}}

-- a table notes both alike
noted_as : (fewer more op : ℕ) (r : Request) (ss : List Units.Session) → noted (asker_of fewer op r) ss ≡ noted (asker_of more op r) ss
noted_as fewer more op r [] = refl
noted_as fewer more op r (x ∷ ss) =
    λ i. if x.client == r.client then record { client = r.client; request = r.request; op = op } ∷ ss else x ∷ noted_as fewer more op r ss i

asks_on : (room fewer more op : ℕ) (rs : List Request) (ss : List Units.Session)
    → fewer ≤ more → MayAskInTurn room ss (asks_of fewer op rs) → MayAskInTurn room ss (asks_of more op rs)
asks_on room fewer more op [] ss later asks = tt
asks_on room fewer more op (r ∷ rs) ss later asks = (
  ask_on room (asker_of fewer op r) (asker_of more op r) ss refl refl later asks.0,
  rw (noted_as fewer more op r ss) at (asks_on room fewer more (op + 1) rs (noted (asker_of fewer op r) ss) later asks.1),
)

-- ---- in a state

no_request : (layout : Layout) (op head replies : ℕ) (ss : List Units.Session)
    → head ≤ replies + 8 → head ≤ op + layout.slots → head ≤ 2 ^ 62 → Stages layout op head replies ss []
no_request layout op head replies ss few room unspent = record {
  pipeline = omega (arith, few);
  behind = omega (arith, room);
  unspent = omega (arith, unspent);
  each = λ i r at. absurd (let none : None ≡ Some r = at in cc);
  asks = tt;
}

-- where nothing is staged
pub staging_none : (s : State)
    → s.staged ≡ [] → s.head ≤ s.replies + 8 → s.head ≤ s.fields.op + s.file.layout.slots → s.head ≤ 2 ^ 62 → AreStaging s
staging_none s none few room unspent = subst (Stages s.file.layout s.fields.op s.head s.replies (sessions_of s.table.sessions))
    (sym none) (no_request s.file.layout s.fields.op s.head s.replies (sessions_of s.table.sessions) few room unspent)

later_on : (layout : Layout) (op later head fewer more : ℕ) (ss : List Units.Session) (rs : List Request)
    → op ≤ later → fewer ≤ more → Stages layout op head fewer ss rs → Stages layout later head more ss rs
later_on layout op later head fewer more ss rs further replies old = record {
  pipeline = omega (arith, old.pipeline, replies);
  behind = omega (arith, old.behind, further);
  unspent = old.unspent;
  each = old.each;
  asks = asks_on layout.clients fewer more (head + 1) rs ss replies old.asks;
}

-- the same is staged after replies and after a checkpoint
pub staging_on : (s t : State) → t.file ≡ s.file → t.staged ≡ s.staged → t.head ≡ s.head → s.fields.op ≤ t.fields.op
    → s.replies ≤ t.replies → sessions_of t.table.sessions ≡ sessions_of s.table.sessions → AreStaging s → AreStaging t
staging_on s t file staged head op replies sessions old =
    let later : Stages s.file.layout t.fields.op s.head t.replies (sessions_of s.table.sessions) s.staged =
    later_on s.file.layout s.fields.op t.fields.op s.head s.replies t.replies (sessions_of s.table.sessions) s.staged op replies old in
    rw (sym file) at (rw (sym head) at (rw (sym sessions) at (rw (sym staged) at later)))
