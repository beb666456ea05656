-- After an append of the client's and the reply to it a replica is as ready as before.
use Rattle.std.proofs.{Common.{◌≡◌, ℕ, zero, suc, ◌+◌, Bool, if◌then◌else◌, List, [], ◌∷◌, Option, Some, None, refl, sym, ◌∙◌, ap, subst, eq-eqb}, lemmas.Option.{none-some}}
use Rattle.{df_disk.specs.Told.{Told}, df_format.specs.declared.header.Header.{Header}, df_layout.specs.declared.layout.Layout.{Layout}}
use Rattle.df_sessions.specs.declared.session.Session as told
use Rattle.df_sessions.specs.{Requests.{session_of, sessions_of}, Table.{requested, with_reply_stored, with_request}}
use Rattle.{df_theory.specs.Units.{Session}, df_model.specs.{Commands.{Command}, Work.{Work}}}
use Rattle.df_session.specs.{Appending.{next_unit, with_prepare_appended}, Replying.{with_stored_reply}, Below.{State as Replica}, Links.{AreCalls, More, NoCalls}, Serving.{Firm, Keeps, next}, Session.{Exchange}}
use Rattle.df_table.{specs.{Policy.{the_client}, Ready.{IsReadyReplica}, Turns.{MakeAll}}, proofs.Fine.{AreOwn}}

-- ---- what calls lead to

-- after calls that were made the replica stands for a state of the machine
acts_keep : (xs : List Exchange) (s t : Replica) (old new : Option Told)
    → AreCalls s old xs t new → (w : Work) → Keeps Firm s w None → (u : Work) × Keeps Firm t u None
acts_keep [] s t old new NoCalls w keeps = (w, keeps)
acts_keep (x ∷ xs) s t old new (More u mid c rest) w keeps =
    acts_keep xs u t mid new rest (next s.file w x.act.given x.act.command).0 (c.call.answers Firm w keeps).1

pub makes_keep : (commands : List Command) (s t : Replica) (old new : Option Told)
    → MakeAll commands s t old new → (w : Work) → Keeps Firm s w None → (u : Work) × Keeps Firm t u None
makes_keep commands s t old new made w keeps = acts_keep made.exchanges s t old new made.calls w keeps

-- ---- sessions

abbrev AllOwn : List told.Session → Type 0
AllOwn [] = Unit {0}
AllOwn (x ∷ ss) = (x.client ≡ the_client) × AllOwn ss

own_each : (ss : List told.Session) → AreOwn (sessions_of ss) → AllOwn ss
own_each [] own = tt
own_each (x ∷ ss) own = (own zero (session_of x) refl, own_each ss (λ k s is. own (suc k) s is))

client_is : (x : told.Session) (s : Session) → Some (session_of x) ≡ Some s → x.client ≡ s.client
client_is x s is = let same : Some (session_of x) ≡ Some s = is in let one : session_of x ≡ s = cc in ap (λ (y : Session). y.client) one

own_all : (ss : List told.Session) → AllOwn ss → AreOwn (sessions_of ss)
own_all [] own k s is = absurd (none-some s is)
own_all (x ∷ ss) own zero s is = sym (client_is x s is) ∙ own.0
own_all (x ∷ ss) own (suc k) s is = own_all ss own.1 k s is

-- a request of the client's, and the reply to one
request_own : (request op : ℕ) (ss : List told.Session) → AllOwn ss → AllOwn (with_request the_client request op ss)
request_own request op [] own = (refl, tt)
request_own request op (x ∷ ss) own =
    subst (λ (b : Bool). AllOwn (if b then requested the_client request op ∷ ss else x ∷ with_request the_client request op ss))
    (sym (eq-eqb x.client the_client own.0)) (refl, own.1)

reply_own : (place : ℕ) (check : List ℕ) (ss : List told.Session) → AllOwn ss → AllOwn (with_reply_stored place check ss)
reply_own zero check [] own = tt
reply_own (suc place) check [] own = tt
reply_own zero check (x ∷ ss) own = (own.0, own.1)
reply_own (suc place) check (x ∷ ss) own = (own.0, reply_own place check ss own.1)

-- ---- the state after both

module _ (layout : Layout) (s : Replica) (ready : IsReadyReplica layout s) (request : ℕ) (body : List ℕ) (h : Header) where
  abbrev behind : Replica
  behind = with_stored_reply (with_prepare_appended s (next_unit s the_client request body)) h

  ready_behind : (u : Work) → Keeps Firm behind u None → IsReadyReplica layout behind
  ready_behind u keeps = record {
    live = ready.live;
    work = u;
    stands = keeps;
    layout_is = ready.layout_is;
    own = record {
      idle = ready.own.idle;
      answered = ap (λ (n : ℕ). n + 1) ready.own.answered;
      unstaged = ready.own.unstaged;
      alone = own_all
          _ (reply_own h.slot h.checksum _ (request_own request (s.head + 1) s.table.sessions (own_each s.table.sessions ready.own.alone)));
    };
    space = record { live = ready.space.live; few = ready.space.few; chain = ready.space.chain };
  }

  pub ready_stored : (v t : Replica) (old new : Option Told) (commands : List Command) → v ≡ with_prepare_appended
      s (next_unit s the_client request body) → t ≡ with_stored_reply v h → MakeAll commands s t old new → IsReadyReplica layout t
  ready_stored v t old new commands one two made = let is : t ≡ behind = two ∙ ap (λ (r : Replica). with_stored_reply r h) one in
      let keeps = makes_keep commands s t old new made ready.work ready.stands in subst (λ (r : Replica).
      IsReadyReplica layout r) (sym is) (ready_behind keeps.0 (subst (λ (r : Replica). Keeps Firm r keeps.0 None) is keeps.1))
