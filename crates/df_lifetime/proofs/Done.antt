-- What a command was answered is in the view after it, and stays there after later ones.
use Rattle.std.proofs.{Common.{◌≡◌, inl, inr, ℕ, ◌+◌, ◌≤◌, ◌==◌, not, false, List, [], ◌∷◌, ◌++◌, drop, length, length-append, Option, Some, None, refl, arith}, lemmas.Bool.Decides.{nat_tests}}
use Rattle.df_theory.{specs.{Next.{MayReply, appended}, Shape.{Shape}, Tails.{In}, Units.{Message, Parts}, View.{View, head}}, proofs.Laws.{tracks, stored_at, in_back}}
use Rattle.df_model.{specs.{After.{after_running, after_step_of, outcome, with_group, with_prepare, with_reply}, Commands.{Advance, Append, Command, Flush, Given, Reply, ToAdvance, ToAppend, ToFlush, ToReply, after, as_answer, supplied_sum, supplied_sums}, Making.{first_of, group_of, place_of_reply, prepare_in, prepare_of, prepares_in, reply_of}, Memory.{Memory, memory_of}, Refusals.{append_refusals, first_refusal, flush_refusals, reply_refusals}, Sense.{IsWork}, Work.{Request, Running, Work, kept}, declared.errors.AppendError.{AppendError}, declared.errors.FlushError.{FlushError}, declared.errors.ReplyError.{ReplyError}}, proofs.Laws.{all_pass, length_in, reply_may_law}}
use Rattle.df_lifetime.specs.There.{HavePrepares, IsAnswerThere, Promised, promised_from, promised_in}

at_end : (p : Message) (ps : List Message) → In p (ps ++ p ∷ [])
at_end p [] = inl refl
at_end p (x ∷ ps) = inr (at_end p ps)

same_number : (n m : ℕ) → not (n == m) ≡ false → n ≡ m
same_number n m is = grind (arith, nat_tests)

promised_count : (op : ℕ) (rs : List Request) → length (promised_from op rs) ≡ length rs
promised_count op [] = refl
promised_count op (r ∷ rs) = omega (arith, promised_count (op + 1) rs)

module _ (sh : Shape) (spell : Parts → List ℕ) (w : Work) where
  append_there : (rs : List Promised) (given : Given) (sum client request : ℕ) (body : List ℕ) (o : Option AppendError)
      → let p = prepare_of (memory_of sh spell w) sum client request body in let x : ℕ × ℕ = (p.header.op, sum) in
      let done = as_answer ToAppend (outcome o w (with_prepare w p) x) in
      IsAnswerThere (kept done.0) rs given (Append client request body) done.1
  append_there rs given sum client request body (Some e) = tt
  append_there rs given sum client request body None = let p = prepare_of (memory_of sh spell w) sum client request body in
      record { reached = omega (arith, length-append w.view.tail (p ∷ [])); there = λ above. (p, at_end p w.view.tail, refl, refl, refl, refl, refl) }

  -- each prepare of a group whose prepares are in the tail
  group_there : (u : View) (m : Memory) (first last op parent : ℕ) (rs : List Request) (sums : List ℕ) → op + length rs ≤ head u + 1
      → ((p : Message) → In p (prepares_in m first last op parent rs sums) → In p u.tail) → HavePrepares u (promised_from op rs) sums
  group_there u m first last op parent [] sums to all = tt
  group_there u m first last op parent (r ∷ rs) sums to all = (
    record { reached = omega (arith, to); there = λ above. (prepare_in m first last op parent (first_of sums) r, all (prepare_in m first last op parent (first_of sums) r) (inl refl), refl, refl, refl, refl, refl) },
    group_there u m first last (op + 1) (first_of sums) rs (drop 1 sums) (omega (arith, to)) (λ p at. all p (inr at)),
  )

  flush_there : (given : Given) (o : Option FlushError) → let m = memory_of sh spell w in
      let done = as_answer ToFlush (outcome o w (with_group w (group_of m (supplied_sums given))) (length w.staged)) in
      IsAnswerThere (kept done.0) (promised_in w) given Flush done.1
  flush_there given (Some e) = tt
  flush_there given None = let m = memory_of sh spell w in let sums = supplied_sums given in let ps = group_of m sums in
      let many = length_in m (m.head + 1) (m.head + length w.staged) (m.head + 1) m.head_checksum w.staged sums in (
        promised_count (m.head + 1) w.staged,
        group_there (appended w.view ps) m (m.head + 1) (m.head + length w.staged) (m.head
            + 1) m.head_checksum w.staged sums (omega (arith, length-append w.view.tail ps, many)) (λ p at. in_back p w.view.tail ps at),
      )

  reply_there : (rs : List Promised) (given : Given) (sum op : ℕ) (body : List ℕ) (o : Option ReplyError)
      → first_refusal (reply_refusals (memory_of sh spell w) op body) ≡ o → IsWork sh spell w → let m = memory_of sh spell w in
      let done = as_answer ToReply (outcome o w (with_reply w (place_of_reply m) (reply_of m sum body)) sum) in
      IsAnswerThere (kept done.0) rs given (Reply op body) done.1
  reply_there rs given sum op body (Some e) is work = tt
  reply_there rs given sum op body None is work = let m = memory_of sh spell w in
      let may : MayReply (kept w) (place_of_reply m) (reply_of m sum body) = reply_may_law sh spell w sum op body work is in
      let next : op ≡ w.view.replies + 1 = same_number op (w.view.replies + 1) (all_pass (reply_refusals m op body) is).1.0 in record {
        counted = omega (arith, next);
        stored = λ k s at same. (
          reply_of m sum body,
          stored_at k (place_of_reply m) (reply_of m sum body) (w.view.stored k) ((tracks sh w.view work.view).apart
              k (place_of_reply m) s may.is.session.0 at may.is.session.1 (omega (arith, same, next, may.is.op, may.is.session.2.op))),
          refl,
          refl,
        );
      }

  step_there : (rs : List Promised) (given : Given) (sum : ℕ) (left : List ℕ) (r : Running)
      → let done = as_answer ToAdvance (after_running sh spell w sum r left) in IsAnswerThere (kept done.0) rs given Advance done.1
  step_there rs given sum [] r = omega arith
  step_there rs given sum (a ∷ more) r = tt

  advance_there : (rs : List Promised) (given : Given) (sum : ℕ) (o : Option Running)
      → let done = as_answer ToAdvance (after_step_of sh spell w sum o) in IsAnswerThere (kept done.0) rs given Advance done.1
  advance_there rs given sum None = tt
  advance_there rs given sum (Some r) = step_there rs given sum r.left r

  pub just_there : (given : Given) (command : Command) → IsWork sh spell w → let done = after sh spell w given command in
      IsAnswerThere (kept done.0) (promised_in w) given command done.1
  just_there given (Append client request body) work = append_there (promised_in w)
      given (supplied_sum given) client request body (first_refusal (append_refusals (memory_of sh spell w) client request body))
  just_there given Flush work = flush_there given (first_refusal (flush_refusals (memory_of sh spell w)))
  just_there given (Reply op body) work = reply_there
      (promised_in w) given (supplied_sum given) op body (first_refusal (reply_refusals (memory_of sh spell w) op body)) refl work
  just_there given Advance work = advance_there (promised_in w) given (supplied_sum given) w.running
  just_there given command work = tt
