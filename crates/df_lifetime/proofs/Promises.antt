-- What is staged after an answer is what the answers so far say of it.
use Rattle.std.proofs.Common.{◌≡◌, ℕ, ◌+◌, ◌-◌, List, [], ◌∷◌, ◌++◌, length, Option, Some, None, refl, sym, ap, arith, length-drop}
use Rattle.df_theory.specs.{Shape.{Shape}, Units.{Message, Parts}, View.{head}}
use Rattle.df_model.{specs.{After.{finished, outcome, with_group, with_staged, with_verdict}, Change.{Appends, Change, Checks, Ends, One, Staged, Stages}, Commands.{Command, Flush, Given, Stage, ToFlush, ToStage, after, supplied_sum, supplied_sums, supplied_verdict}, Making.{group_of}, Memory.{memory_of}, Refusals.{first_refusal, flush_refusals, stage_refusals}, Sense.{IsWork}, Work.{Request, Work}, declared.answers.Verdict.{Verdict}, declared.answers.Verdict.TheVariants.{Sound, Failing}, declared.errors.AppendError.{AppendError}, declared.errors.FlushError.{FlushError}}, proofs.Laws.{one_thing_law}}
use Rattle.df_lifetime.specs.There.{Promised, promised_by, promised_from, promised_in}

-- with a request more
promised_more : (op n : ℕ) (rs : List Request) (r : Request) → op + length rs ≡ n
    → promised_from op (rs ++ r ∷ []) ≡ promised_from op rs ++ record { op = n; client = r.client; request = r.request; body = r.body } ∷ []
promised_more op n [] r same = let here : op ≡ n = omega (arith, same) in
    ap (λ (k : ℕ). record { op = k; client = r.client; request = r.request; body = r.body } ∷ []) here
promised_more op n (x ∷ rs) r same = ap (λ (l : List Promised).
    record { op = op; client = x.client; request = x.request; body = x.body } ∷ l) (promised_more (op + 1) n rs r (omega (arith, same)))

stage_promised : (o : Option AppendError) (w : Work) (client request op : ℕ) (body : List ℕ) → let r : Request =
    record { client = client; request = request; body = body } in
    promised_in (with_staged w r) ≡ promised_in w ++ record { op = op; client = client; request = request; body = body } ∷ []
    → promised_by (promised_in w) (Stage client request body) (ToStage (outcome o w (with_staged w r) op).1)
    ≡ promised_in (outcome o w (with_staged w r) op).0
stage_promised (Some e) w client request op body same = refl
stage_promised None w client request op body same = sym same

flush_promised : (o : Option FlushError) (w : Work) (ps : List Message) (count : ℕ) → promised_by
    (promised_in w) Flush (ToFlush (outcome o w (with_group w ps) count).1) ≡ promised_in (outcome o w (with_group w ps) count).0
flush_promised (Some e) w ps count = refl
flush_promised None w ps count = refl

-- neither a stage nor a flush
abbrev IsOther : Command → Type 0
IsOther (Stage client request body) = ⊥
IsOther Flush = ⊥
IsOther command = Unit {0}

module _ (sh : Shape) (spell : Parts → List ℕ) (w : Work) (given : Given) (work : IsWork sh spell w) where
  checked_promised : (a : ℕ) (verdict : Verdict) → promised_in w ≡ promised_in (with_verdict w a verdict)
  checked_promised a Sound = refl
  checked_promised a (Failing class) = refl

  -- an append is made where nothing is staged, and a checkpoint that ends keeps the head
  changed_promised : (c : Command) (u : Work) → IsOther c → Change sh spell w given c u → promised_in w ≡ promised_in u
  changed_promised c u other (Appends _ ps (One client request body none staged)) = ap (promised_from (head w.view + 1)) staged
  changed_promised c u other (Appends _ ps (Staged none)) = absurd other
  changed_promised c u other (Stages client request body none) = absurd other
  changed_promised c u other (Ends r running left) = let capture = work.running r running in
      let same : head w.view ≡ head (finished sh spell w r (supplied_sum given)).view =
      omega (arith, capture.op_from, capture.op_to, length-drop (r.op - w.view.checkpoint.content.op) w.view.tail) in
      ap (λ (h : ℕ). promised_from (h + 1) w.staged) same
  changed_promised c u other (Checks x more list) = checked_promised x.0 (supplied_verdict given)
  changed_promised c u other change = refl

  pub promised_on : (command : Command)
      → promised_by (promised_in w) command (after sh spell w given command).1 ≡ promised_in (after sh spell w given command).0
  promised_on (Stage client request body) = let m = memory_of sh spell w in
      stage_promised (first_refusal (stage_refusals m client request body)) w client request (m.head + length w.staged + 1) body
      (promised_more
      (m.head + 1) (m.head + length w.staged + 1) w.staged (record { client = client; request = request; body = body }) (omega arith))
  promised_on Flush = let m = memory_of sh spell w in
      flush_promised (first_refusal (flush_refusals m)) w (group_of m (supplied_sums given)) (length w.staged)
  promised_on command = changed_promised command (after sh spell w given command).0 tt (one_thing_law sh spell w given command)
