-- Kept notes are acts that were served, one append and one reply each.
use Rattle.{std.proofs.Common.{◌≡◌, ℕ, true, List, [], ◌∷◌, ◌++◌, append_assoc, append-nil, refl, sym, ◌∙◌, ap}, df_base.specs.Log.{Event}}
use Rattle.{df_model.specs.Commands.{Append, Command, Reply}, df_session.specs.Session.{Exchange, IsServed, acts_in}}
use Rattle.df_replica.proofs.Laws.{answered_is_there, nothing_is_served, one_more_is_served}
use Rattle.df_notes.specs.{Keeping.{AreKept, Begun, Kept, Moment, append_exchange, reply_exchange}, Staying.{AreNotesThere, note_in, notes_in}}

-- the notes of calls after others
notes_on : (xs ys : List Exchange) → notes_in (acts_in (xs ++ ys)) ≡ notes_in (acts_in xs) ++ notes_in (acts_in ys)
notes_on [] ys = refl
notes_on (x ∷ xs) ys = ap (λ (l : List (List ℕ)). note_in x.act.command ++ l) (notes_on xs ys)
    ∙ sym (append_assoc (note_in x.act.command) (notes_in (acts_in xs)) (notes_in (acts_in ys)))

record AreServed (notes : List (List ℕ)) (m n : Moment) : Type 0 where
  exchanges : List Exchange
  events : List Event
  are : notes_in (acts_in exchanges) ≡ notes
  served : IsServed m.replica n.replica m.told n.told exchanges events

-- that of one call
note_of : (command : Command) (x : Exchange) → x.act.command ≡ command → notes_in (acts_in (x ∷ [])) ≡ note_in command ++ []
note_of command x is = ap (λ (c : Command). note_in c ++ []) is

served : (m n : Moment) (notes : List (List ℕ)) → m.replica.live ≡ true → AreKept m notes n → AreServed notes m n
served m n notes live Begun = record { exchanges = []; events = []; are = refl; served = nothing_is_served m.replica m.told live }
served m n notes live (Kept before note mid last kept is) = let s = served m mid before live kept in
    let append = append_exchange is.receipt is.appended in let reply = reply_exchange is.replied in
    let appending = is.appended.1.calls.call in let replying = is.replied.1.calls.call in record {
      exchanges = (s.exchanges ++ append ∷ []) ++ reply ∷ [];
      events = (s.events ++ appending.events) ++ replying.events;
      are = notes_on (s.exchanges ++ append ∷ []) (reply ∷ []) ∙ ap (λ (l : List (List ℕ)).
          notes_in (acts_in (s.exchanges ++ append ∷ [])) ++ l) (note_of (Reply is.receipt.op []) reply is.replied.1.is)
          ∙ append-nil (notes_in (acts_in (s.exchanges ++ append ∷ []))) ∙ notes_on s.exchanges (append ∷ [])
          ∙ ap (λ (l : List (List ℕ)). notes_in (acts_in s.exchanges) ++ l) (note_of (Append 1 is.appended.0 note) append is.appended.1.is)
          ∙ ap (λ (l : List (List ℕ)). l ++ note ∷ []) s.are;
      served = one_more_is_served
          m.replica is.between n.replica m.told is.mid n.told (s.exchanges ++ append ∷ []) (s.events ++ appending.events) reply
          (one_more_is_served m.replica mid.replica is.between m.told mid.told is.mid s.exchanges s.events append s.served appending) replying;
    }

pub stays : (m n : Moment) (notes : List (List ℕ)) → m.replica.live ≡ true → AreKept m notes n → AreNotesThere notes m n
stays m n notes live kept = let s = served m n notes live kept in record {
  acts = acts_in s.exchanges;
  events = s.events;
  are = s.are;
  told = s.served.told_is;
  left = answered_is_there m.replica n.replica m.told n.told s.exchanges s.events s.served;
}
