-- What was acknowledged stays in the view, whatever happens to it next.
use Rattle.std.{proofs.{Common.{◌≡◌, inl, inr, ℕ, ◌+◌, ◌-◌, ◌<◌, ◌≤◌, if◌then◌else◌, List, [], ◌∷◌, ◌++◌, drop, length-append, Option, Some, None, sym, ◌∙◌, ap, arith}, lemmas.Bool.{cases_eq}, lemmas.Bool.Decides.{nat_tests}, lemmas.List.{length-drop}}, specs.{Prelude.{nat_lt, Ok}, List.{slice_get}}}
use Rattle.df_theory.{specs.{Holds.{Sound}, Next.{Append, AreInTurn, Boot, Finish, Next, Reply, Same, checkpointed, kept}, Sessions.{noted, sessions_after}, Shape.{Shape}, Units.{Message, Session}, View.{View, head, sequence, sessions}}, proofs.Laws.{noted_get, sessions-append, sessions-drop, in_front, in_drop, stored_else}}
use Rattle.df_model.specs.Commands as commands
use Rattle.df_model.specs.{Commands.{Answer, Command, Given, ToAdvance, ToAppend, ToFlush, ToReply, supplied_sums}, Making.{first_of}, declared.answers.Progress.TheVariants.{Done}}
use Rattle.df_lifetime.specs.There.{HasPrepare, HasReply, HavePrepares, IsAnswerThere, Promised}

-- ---- prepares

module _ (sh : Shape) (op sum client request : ℕ) (body : List ℕ) where
  prepare_stays : (v u : View) → Sound sh v → Next v u → HasPrepare v op sum client request body → HasPrepare u op sum client request body
  prepare_stays v _ sound Same has = has
  prepare_stays v _ sound (Append ps is) has = record {
    reached = omega (arith, has.reached, length-append v.tail ps);
    there = λ above. let p = has.there above in (p.0, in_front p.0 v.tail ps p.1, p.2, p.3, p.4, p.5, p.6);
  }
  prepare_stays v _ sound (Reply place r is) has = record { reached = has.reached; there = has.there }
  prepare_stays v _ sound (Finish c is) has = record {
    reached = omega (arith, has.reached, length-drop (c.content.op - v.checkpoint.content.op) v.tail, is.op_from, is.op_to);
    there = λ above. let p = has.there (omega (arith, above, is.op_from)) in (
      p.0,
      in_drop (c.content.op - v.checkpoint.content.op) sh.layout.clients (v.checkpoint.content.op + 1)
          v.checkpoint.content.op_checksum 0 v.checkpoint.parts.sessions v.tail p.0 sound.chain p.1 (omega (arith, above, p.2, is.op_from)),
      p.2,
      p.3,
      p.4,
      p.5,
      p.6,
    );
  }
  prepare_stays v _ sound (Boot d is) has = record {
    reached = omega (arith, has.reached, is.same.op.0);
    there = λ above. has.there (omega (arith, above, is.same.op.0));
  }

-- ---- replies

-- a session with an older op stood there before
pub old_session : (ps : List Message) (op parent high : ℕ) (ss : List Session) → AreInTurn op parent ps
    → high < op → (k : ℕ) (s : Session) → slice_get (sessions_after ss ps) k ≡ Some s → s.op ≤ high → slice_get ss k ≡ Some s
old_session [] op parent high ss turn low k s at old = at
old_session (p ∷ ps) op parent high ss turn low k s at old = elim (noted_get
    p.header ss k s (old_session ps (op + 1) p.header.checksum high (noted p.header ss) turn.2 (omega (arith, low)) k s at old)) [
      | inl new ↦ absurd (omega (arith, old, low, turn.0, ap (λ (t : Session). t.op) new))
      | inr there ↦ there
    ]

kept_case : (s : Session) (op : ℕ) (old : Option Message) → s.op ≤ op → (if nat_lt op s.op then None else old) ≡ old
kept_case s op old low = grind (arith, nat_tests)

kept_is : (o : Option Session) (s : Session) (op : ℕ) (old : Option Message) → o ≡ Some s → s.op ≤ op → kept o op old ≡ old
kept_is o s op old is low = ap (λ (x : Option Session). kept x op old) is ∙ kept_case s op old low

pub same_op : (s t : Session) → Some s ≡ Some t → s.op ≡ t.op
same_op s t is = let same : s ≡ t = cc in ap (λ (x : Session). x.op) same

module _ (sh : Shape) (op sum : ℕ) (body : List ℕ) where
  reply_stays : (v u : View) → Sound sh v → Next v u → HasReply v op sum body → HasReply u op sum body
  reply_stays v _ sound Same has = has
  reply_stays v _ sound (Append ps is) has = record {
    counted = has.counted;
    stored = λ k s at same. let low : s.op ≤ head v = omega (arith, same, has.counted, sound.pipeline.0) in
        let split : slice_get (sessions_after (sessions v) ps) k ≡ Some s =
        ap (λ (ss : List Session). slice_get ss k) (sym (sessions-append v.checkpoint.parts.sessions v.tail ps)) ∙ at in
        let before = old_session ps (head v + 1) _ (head v) (sessions v) is.turn (omega arith) k s split low in
        let r = has.stored k s before same in
        (r.0, kept_is (slice_get (sessions_after v.checkpoint.parts.sessions (v.tail ++ ps)) k) s (head v) (v.stored k) at low ∙ r.1, r.2, r.3);
  }
  reply_stays v _ sound (Reply place q is) has = record {
    counted = omega (arith, has.counted);
    stored = λ k s at same. let r = has.stored k s at same in elim (cases_eq k place) [
      | inl here ↦
          let one : s.op ≡ is.session.0.op = same_op s is.session.0 (sym at ∙ ap (λ (n : ℕ). slice_get (sessions v) n) here ∙ is.session.1) in
          absurd (omega (arith, same, one, is.op, is.session.2.op, has.counted))
      | inr away ↦ (r.0, stored_else k place q (v.stored k) away ∙ r.1, r.2, r.3)
    ];
  }
  reply_stays v _ sound (Finish c is) has = record {
    counted = has.counted;
    stored = λ k s at same. let sessions_are : sessions (checkpointed v c) ≡ sessions v =
        ap (λ (ss : List Session). sessions_after ss (drop (c.content.op - v.checkpoint.content.op) v.tail)) is.sessions
        ∙ sessions-drop (c.content.op - v.checkpoint.content.op) v.checkpoint.parts.sessions v.tail in
        has.stored k s (ap (λ (ss : List Session). slice_get ss k) (sym sessions_are) ∙ at) same;
  }
  reply_stays v _ sound (Boot d is) has = record { counted = has.counted; stored = has.stored }

-- ---- checkpoints

sequence_stays : (n : ℕ) (v u : View) → Next v u → n ≤ sequence v → n ≤ sequence u
sequence_stays n v _ Same low = low
sequence_stays n v _ (Append ps is) low = low
sequence_stays n v _ (Reply place r is) low = low
sequence_stays n v _ (Finish c is) low = omega (arith, low, is.sequence)
sequence_stays n v _ (Boot d is) low = omega (arith, low, is.same.sequence)

-- ---- all of them

prepares_stay : (sh : Shape) (v u : View) (rs : List Promised) (sums : List ℕ)
    → Sound sh v → Next v u → HavePrepares v rs sums → HavePrepares u rs sums
prepares_stay sh v u [] sums sound next have = tt
prepares_stay sh v u (r ∷ rs) sums sound next have = (prepare_stays sh r.op (first_of sums) r.client r.request r.body v u sound next have.0, prepares_stay sh v u rs (drop 1 sums) sound next have.1)

pub stays : (sh : Shape) (v u : View) (rs : List Promised) (given : Given) (command : Command) (answer : Answer)
    → Sound sh v → Next v u → IsAnswerThere v rs given command answer → IsAnswerThere u rs given command answer
stays sh v u rs given (commands.Append client request body) (ToAppend (Ok x)) sound next there =
    prepare_stays sh x.0 x.1 client request body v u sound next there
stays sh v u rs given commands.Flush (ToFlush (Ok count)) sound next there =
    (there.0, prepares_stay sh v u rs (supplied_sums given) sound next there.1)
stays sh v u rs given (commands.Reply op body) (ToReply (Ok sum)) sound next there = reply_stays sh op sum body v u sound next there
stays sh v u rs given commands.Advance (ToAdvance (Ok (Done n))) sound next there = sequence_stays n v u next there
stays sh v u rs given command answer sound next there = tt
