-- The sessions that a trailer's text has, and the ops that wait for their replies.
use Rattle.std.{proofs.{Common.{◌≡◌, ℕ, ◌<◌, ◌≤◌, Option, Some, None, List, [], refl, sym, ap, ◌∙◌, subst, arith}, lemmas.Option.{slice_get-map}}, specs.{List.{slice_get}, Option.{option_map}}}
use Rattle.{df_format.specs.declared.superblock.SuperFields.{SuperFields}, df_theory.specs.Sessions.{Tracks}}
use Rattle.df_sessions.specs.{declared.session.Session.{Session}, Requests.{session_of, sessions_of}}
use Rattle.df_theory.specs.Units
use Rattle.{df_trailer.specs.Sessions.{AreReadSessions}, df_checkpoint.{specs.Waiting.{IsPendingReply}, proofs.Laws.{has_is}}}
use Rattle.df_recovery.specs.Checkpoints.{AreOfCheckpoint}

-- a session of the theory's list is one of the table
record IsOf (ss : List Session) (k : ℕ) (s : Units.Session) : Type 0 where
  from : Session
  at : slice_get ss k ≡ Some from
  is : session_of from ≡ s

of_list : (ss : List Session) (k : ℕ) (s : Units.Session) → slice_get (sessions_of ss) k ≡ Some s → IsOf ss k s
of_list ss k s at = pick (slice_get ss k) refl (sym (slice_get-map session_of ss k) ∙ at)
  where
    pick : (o : Option Session) → slice_get ss k ≡ o → option_map session_of (slice_get ss k) ≡ Some s → IsOf ss k s
    pick None there is = absurd (let no : option_map session_of None ≡ Some s = rw there at is in cc)
    pick (Some x) there is = let yes : option_map session_of (Some x) ≡ Some s = rw there at is in
        record { from = x; at = there; is = (let one : session_of x ≡ s = cc in one) }

pub tracked : (places replies op : ℕ) (ss : List Session)
    → AreReadSessions places op ss → IsPendingReply ss replies op None → Tracks replies op (sessions_of ss)
tracked places replies op ss read pending = record {
  below = λ k s at. let f = of_list ss k s at in rw (← f.is) (read.each k f.from f.at).op_is.1;
  apart = λ j k s t one two same. let f = of_list ss j s one in let g = of_list ss k t two in
      read.ops j k f.from g.from f.at g.at (ap (λ (x : Units.Session). x.op) f.is ∙ same ∙ sym (ap (λ (x : Units.Session). x.op) g.is));
  pending = λ o above reached. has_is o ss (pending o above reached);
}

-- so they make sense by themselves
pub of_checkpoint : (places : ℕ) (f : SuperFields) (ss : List Session)
    → AreReadSessions places f.op ss → IsPendingReply ss f.replies f.op None → AreOfCheckpoint f ss
of_checkpoint places f ss read pending = record {
  asked = λ k s at. let g = of_list ss k s at in rw (← g.is) (read.each k g.from g.at).request.0;
  numbered = λ k s at. (read.each k s at).request.1;
  unstored = λ k s at. (read.each k s at).reply;
  tracks = tracked places f.replies f.op ss read pending;
}

pub none_tracked : (replies op : ℕ) → op ≡ 0 → Tracks replies op []
none_tracked replies op first = record {
  below = λ k s at. absurd (cc);
  apart = λ j k s t one two same. absurd (cc);
  pending = λ o above within. absurd (omega (arith, first, above, within));
}

pub none_of_checkpoint : (f : SuperFields) (ss : List Session) → f.op ≡ 0 → ss ≡ [] → AreOfCheckpoint f ss
none_of_checkpoint f ss first none = subst (AreOfCheckpoint f) (sym none) (record {
  asked = λ k s at. absurd (cc);
  numbered = λ k s at. absurd (cc);
  unstored = λ k s at. absurd (cc);
  tracks = none_tracked f.replies f.op first;
})
