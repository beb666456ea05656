-- Views that are the same but for the boot are one for a life: what a file has come to, and what was acknowledged, is there in each of
-- them.
use Rattle.std.{proofs.Common.{◌≡◌, inl, inr, ℕ, List, [], ◌∷◌, ◌++◌, sym, ◌∙◌, ap, subst, arith, refl}, specs.{Prelude.{drop, length, Ok}, List.{slice_get}}}
use Rattle.{df_base.specs.Image.{Image}, df_theory.specs.{Sessions.{sessions_after}, Tails.{In}, Units.{Session}, View.{View, sessions}}}
use Rattle.df_model.specs.Commands as commands
use Rattle.df_model.specs.{Commands.{Answer, Command, Given, ToAdvance, ToAppend, ToFlush, ToReply, supplied_sums}, Making.{first_of}, Views.{KeepsView}, Work.{Work, kept}, declared.answers.Progress.TheVariants.{Done}}
use Rattle.df_session.{specs.{Below.{DataFile}, Session.{Act, Exchange, acts_in, work_after}, Begun.{begun_work}}, proofs.Laws.{keeps_on}}
use Rattle.df_lifetime.specs.{Acknowledged.{AreThere}, Life.{Chapter, IdleSessionsLeaveIt, LeadsTo, MayHave}, There.{HasPrepare, HasReply, HavePrepares, IsAnswerThere, Promised, promised_by}}

-- ---- what a file may have come to

leads_on : (file : DataFile) (c : Chapter) (v u x : View) → LeadsTo file c v u → KeepsView u x → LeadsTo file c v x
leads_on file c v u x (inl is) keeps = inl (record { none = is.none; same = keeps_on v u x is.same keeps })
leads_on file c v u x (inr goes) keeps = let by = goes.1 in
    inr (goes.0, record { whole = by.whole; found = by.found; unspent = by.unspent; inputs = by.inputs; answers_are = by.answers_are; came = by.came; view = keeps_on (kept (work_after file (begun_work file c.shown v) goes.0)) u x by.view keeps })

pub had_on : (file : DataFile) (first : View) (chapters : List Chapter) (u x : View)
    → MayHave file first chapters u → KeepsView u x → MayHave file first chapters x
had_on file first [] u x had keeps = keeps_on first u x had keeps
had_on file first (c ∷ chapters) u x had keeps = (had.0, had.1, leads_on file c had.0 u x had.2 keeps)

-- a boot update keeps the view
pub begun_bare : (file : DataFile) (image : Image) (view : View) → KeepsView view (kept (begun_work file image view))
begun_bare file image view = record { content = record { file = (refl, refl, refl, refl); sequence = refl; op = (refl, refl); trailer = (refl, refl, refl) }; chain = refl; parts = refl; tail = refl; replies = refl; stored = λ k. refl }

-- a session in which no call was made leaves what the file may have come to
none_more : (more rest : List Act) → [] ≡ more ++ rest → more ≡ []
none_more [] rest are = refl
none_more (a ∷ more) rest are = absurd (let no = are in cc)

pub idle_sessions_leave_it : IdleSessionsLeaveIt
idle_sessions_leave_it file first chapters c view answered perhaps (v, had, inl same) = had_on file first chapters v view had same.same
idle_sessions_leave_it file first chapters c view answered perhaps (v, had, inr (acts, goes)) = let none : acts ≡ [] =
    goes.came.are ∙ ap (λ (xs : List Exchange). acts_in xs ++ goes.came.more) answered
    ∙ none_more goes.came.more goes.came.rest (sym perhaps ∙ goes.came.some) in
    let begun : Work = begun_work file c.shown v in let same : KeepsView (kept begun) view = rw none at goes.view in
    had_on file first chapters v view had (keeps_on v (kept begun) view (begun_bare file c.shown v) same)

-- ---- what was acknowledged

module _ (v u : View) (keeps : KeepsView v u) where
  prepare_there : (op sum client request : ℕ) (body : List ℕ) → HasPrepare v op sum client request body → HasPrepare u op sum client request body
  prepare_there op sum client request body has = record {
    reached = omega (arith, has.reached, keeps.content.op.0, ap length keeps.tail);
    there = λ above. let p = has.there (omega (arith, above, keeps.content.op.0)) in
        (p.0, subst (In p.0) (sym keeps.tail) p.1, p.2, p.3, p.4, p.5, p.6);
  }

  sessions_same : sessions u ≡ sessions v
  sessions_same = λ i. sessions_after (keeps.parts i).sessions (keeps.tail i)

  reply_there : (op sum : ℕ) (body : List ℕ) → HasReply v op sum body → HasReply u op sum body
  reply_there op sum body has = record {
    counted = omega (arith, has.counted, keeps.replies);
    stored = λ k s at same. let r = has.stored k s (ap (λ (ss : List Session). slice_get ss k) (sym sessions_same) ∙ at) same in
        (r.0, keeps.stored k ∙ r.1, r.2, r.3);
  }

  prepares_there : (rs : List Promised) (sums : List ℕ) → HavePrepares v rs sums → HavePrepares u rs sums
  prepares_there [] sums have = tt
  prepares_there (r ∷ rs) sums have =
      (prepare_there r.op (first_of sums) r.client r.request r.body have.0, prepares_there rs (drop 1 sums) have.1)

  one_there : (rs : List Promised) (given : Given) (command : Command) (answer : Answer)
      → IsAnswerThere v rs given command answer → IsAnswerThere u rs given command answer
  one_there rs given (commands.Append client request body) (ToAppend (Ok x)) there = prepare_there x.0 x.1 client request body there
  one_there rs given commands.Flush (ToFlush (Ok count)) there = (there.0, prepares_there rs (supplied_sums given) there.1)
  one_there rs given (commands.Reply op body) (ToReply (Ok sum)) there = reply_there op sum body there
  one_there rs given commands.Advance (ToAdvance (Ok (Done n))) there = omega (arith, there, keeps.content.sequence)
  one_there rs given command answer there = tt

  pub are_there : (rs : List Promised) (xs : List Exchange) → AreThere v rs xs → AreThere u rs xs
  are_there rs [] there = tt
  are_there rs (x ∷ xs) there =
      (one_there rs x.act.given x.act.command x.answer there.0, are_there (promised_by rs x.act.command x.answer) xs there.1)
