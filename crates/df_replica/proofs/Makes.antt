-- The units that a command makes, and that whatever the state after it needs was needed before it or is one of them.
use Rattle.std.proofs.{Common.{◌≡◌, ℕ, ◌==◌, ◌%◌, inl, inr, Bool, true, false, if◌then◌else◌, List, [], ◌∷◌, Option, Some, None, refl, sym, ◌∙◌, ap, subst}, lemmas.Bool.{eqb-true}, lemmas.Option.{same_Some}}
use Rattle.df_theory.{specs.{Next.{appended, replied}, Shape.{Shape, slots}, Shows.{Needs}, Tails.{In}, Trailer.{InChain}, Units.{AnyUnit, Block, BlockPlace, BlockUnit, CopyPlace, HeaderPlace, Message, Parts, Place, PreparePlace, PrepareUnit, ReplyPlace, ReplyUnit}, View.{head}}, proofs.Laws.{in_dropped, in_either, kept_some}}
use Rattle.df_model.{specs.{After.{begun, finished, next_trailer, with_group, with_reply, with_running, with_trailer_block, with_verdict}, Change.{Appends, Begins, Change, Checks, Ends, One, Replies, Staged, Stays, Writes}, Commands.{Advance, Append, Command, Flush, Given, Reply, after, supplied_sum, supplied_sums, supplied_verdict}, Making.{group_of, place_of_reply, prepare_of, reply_of}, Memory.{memory_of}, Refusals.{append_refusals, first_refusal, flush_refusals, reply_refusals}, Work.{Running, Work, kept}, declared.answers.Verdict.{Verdict}, declared.answers.Verdict.TheVariants.{Sound, Failing}}, proofs.Laws.{one_thing_law}}

-- ---- what a command makes

-- unless it is refused
abbrev pub Unless : {E : Type 0} → Option E → Type 0 → Type 0
Unless (Some e) P = Unit {0}
Unless None P = P

-- a fact of the next block of the running trailer, where one is to come
abbrev pub OfLeft : Shape → (Parts → List ℕ) → (Place → AnyUnit → Type 0) → Work → (sum : ℕ) → Running → List ℕ → Type 0
OfLeft sh spell P w sum r [] = Unit {0}
OfLeft sh spell P w sum r (a ∷ more) = P (BlockPlace a) (BlockUnit (next_trailer sh spell w r sum))

abbrev pub OfStep : Shape → (Parts → List ℕ) → (Place → AnyUnit → Type 0) → Work → (sum : ℕ) → Option Running → Type 0
OfStep sh spell P w sum None = Unit {0}
OfStep sh spell P w sum (Some r) = OfLeft sh spell P w sum r r.left

-- a fact of each of these prepares, with its place
abbrev pub OfPrepares : Shape → (Place → AnyUnit → Type 0) → List Message → Type 0
OfPrepares sh P [] = Unit {0}
OfPrepares sh P (p ∷ ps) = P (PreparePlace (p.header.op % slots sh)) (PrepareUnit p) × OfPrepares sh P ps

-- a fact of the prepares, the reply or the trailer block that the command makes, with its place
abbrev pub OfMade : Shape → (Parts → List ℕ) → (Place → AnyUnit → Type 0) → Work → Given → Command → Type 0
OfMade sh spell P w given (Append client request body) =
    let p = prepare_of (memory_of sh spell w) (supplied_sum given) client request body in Unless
    (first_refusal (append_refusals (memory_of sh spell w) client request body)) (P (PreparePlace (p.header.op % slots sh)) (PrepareUnit p))
OfMade sh spell P w given Flush =
    Unless (first_refusal (flush_refusals (memory_of sh spell w))) (OfPrepares sh P (group_of (memory_of sh spell w) (supplied_sums given)))
OfMade sh spell P w given (Reply op body) = let m = memory_of sh spell w in
    Unless (first_refusal (reply_refusals m op body)) (P (ReplyPlace (place_of_reply m)) (ReplyUnit (reply_of m (supplied_sum given) body)))
OfMade sh spell P w given Advance = OfStep sh spell P w (supplied_sum given) w.running
OfMade sh spell P w given command = Unit {0}

-- a weaker fact of it
module _ (sh : Shape) (spell : Parts → List ℕ)
    (P Q : Place → AnyUnit → Type 0) (weaker : (place : Place) (x : AnyUnit) → P place x → Q place x) (w : Work) where
  unless_weaker : {E : Type 0} (o : Option E) (place : Place) (x : AnyUnit) → Unless o (P place x) → Unless o (Q place x)
  unless_weaker (Some e) place x is = tt
  unless_weaker None place x is = weaker place x is

  each_weaker : (ps : List Message) → OfPrepares sh P ps → OfPrepares sh Q ps
  each_weaker [] all = tt
  each_weaker (p ∷ ps) all = (weaker (PreparePlace (p.header.op % slots sh)) (PrepareUnit p) all.0, each_weaker ps all.1)

  group_weaker : {E : Type 0} (o : Option E) (ps : List Message) → Unless o (OfPrepares sh P ps) → Unless o (OfPrepares sh Q ps)
  group_weaker (Some e) ps is = tt
  group_weaker None ps is = each_weaker ps is

  left_weaker : (sum : ℕ) (r : Running) (left : List ℕ) → OfLeft sh spell P w sum r left → OfLeft sh spell Q w sum r left
  left_weaker sum r [] is = tt
  left_weaker sum r (a ∷ more) is = weaker (BlockPlace a) (BlockUnit (next_trailer sh spell w r sum)) is

  step_weaker : (sum : ℕ) (o : Option Running) → OfStep sh spell P w sum o → OfStep sh spell Q w sum o
  step_weaker sum None is = tt
  step_weaker sum (Some r) is = left_weaker sum r r.left is

  pub made_weaker : (given : Given) (command : Command) → OfMade sh spell P w given command → OfMade sh spell Q w given command
  made_weaker given (Append client request body) is =
      unless_weaker (first_refusal (append_refusals (memory_of sh spell w) client request body)) _ _ is
  made_weaker given Flush is =
      group_weaker (first_refusal (flush_refusals (memory_of sh spell w))) (group_of (memory_of sh spell w) (supplied_sums given)) is
  made_weaker given (Reply op body) is = unless_weaker (first_refusal (reply_refusals (memory_of sh spell w) op body)) _ _ is
  made_weaker given Advance is = step_weaker (supplied_sum given) w.running is
  made_weaker given command is = tt

-- ---- what a state needs

-- a fact of each unit that the view needs, and of each block of the running trailer that is written
pub record HasEach (sh : Shape) (P : Place → AnyUnit → Type 0) (w : Work) : Type 0 where
  pub needs : (place : Place) (x : AnyUnit) → Needs sh (kept w) place x → P place x
  pub trailer : (r : Running) → w.running ≡ Some r → (a : ℕ) (b : Block) → InChain a b r.written → P (BlockPlace a) (BlockUnit b)

module _ (sh : Shape) (spell : Parts → List ℕ) (P : Place → AnyUnit → Type 0) (w : Work) (has : HasEach sh P w) where
  -- ---- an append, and a reply

  own_of : (ps : List Message) (q : Message) → In q ps → OfPrepares sh P ps → P (PreparePlace (q.header.op % slots sh)) (PrepareUnit q)
  own_of [] q at all = absurd at
  own_of (p ∷ ps) q (inl here) all = subst (λ (m : Message). P (PreparePlace (m.header.op % slots sh)) (PrepareUnit m)) (sym here) all.0
  own_of (p ∷ ps) q (inr there) all = own_of ps q there all.1

  -- with prepares more
  needs_more : (ps : List Message) → OfPrepares sh P ps → (place : Place) (x : AnyUnit) → Needs sh (appended w.view ps) place x → P place x
  needs_more ps made (CopyPlace n) x need = absurd need
  needs_more ps made (HeaderPlace s) x need = absurd need
  needs_more ps made (PreparePlace s) x (q, at, slot, is) = elim (in_either q w.view.tail ps at) [
    | inl old ↦ has.needs (PreparePlace s) x (q, old, slot, is)
    | inr new ↦ subst (λ (k : ℕ). P (PreparePlace k) x)
        (sym slot) (subst (λ (y : AnyUnit). P (PreparePlace (q.header.op % slots sh)) y) (sym is) (own_of ps q new made))
  ]
  needs_more ps made (ReplyPlace k) x (r, at, is) = has.needs (ReplyPlace k) x (r, kept_some _ (head w.view) (w.view.stored k) r at, is)
  needs_more ps made (BlockPlace a) x need = has.needs (BlockPlace a) x need

  flushed_has : (ps : List Message) → OfPrepares sh P ps → HasEach sh P (with_group w ps)
  flushed_has ps made = record { needs = λ place x need. needs_more ps made place x need; trailer = has.trailer }

  replied_has : (place : ℕ) (r : Message) → P (ReplyPlace place) (ReplyUnit r) → HasEach sh P (with_reply w place r)
  replied_has k r made = record { needs = needs; trailer = has.trailer }
    where
      stored : (j : ℕ) (x : AnyUnit) (q : Message)
          → x ≡ ReplyUnit q → (b : Bool) → (j == k) ≡ b → (if b then Some r else w.view.stored j) ≡ Some q → P (ReplyPlace j) x
      stored j x q is true same at = subst (λ (n : ℕ). P (ReplyPlace n) x)
          (sym (eqb-true j k same)) (subst (λ (y : AnyUnit). P (ReplyPlace k) y) (ap ReplyUnit (same_Some _ _ at) ∙ sym is) made)
      stored j x q is false same at = has.needs (ReplyPlace j) x (q, at, is)

      needs : (place : Place) (x : AnyUnit) → Needs sh (replied w.view k r) place x → P place x
      needs (CopyPlace n) x need = absurd need
      needs (HeaderPlace s) x need = absurd need
      needs (PreparePlace s) x need = has.needs (PreparePlace s) x need
      needs (ReplyPlace j) x (q, at, is) = stored j x q is (j == k) refl at
      needs (BlockPlace a) x need = has.needs (BlockPlace a) x need

  -- ---- a checkpoint

  begun_has : (root : List ℕ) → HasEach sh P (with_running w (Some (begun sh spell w root)))
  begun_has root = record {
    needs = has.needs;
    trailer = λ r is a b at.
        absurd (let none : InChain a b [] = subst (λ (q : Running). InChain a b q.written) (sym (same_Some _ _ is)) at in none);
  }

  wrote_has : (r : Running) → w.running ≡ Some r
      → (a : ℕ) (b : Block) (more : List ℕ) → P (BlockPlace a) (BlockUnit b) → HasEach sh P (with_trailer_block w r a b more)
  wrote_has r running a b more made = record {
    needs = has.needs;
    trailer = λ q is c d at. chain c d (subst (λ (k : Running). InChain c d k.written) (sym (same_Some _ _ is)) at);
  }
    where
      chain : (c : ℕ) (d : Block) → InChain c d ((a, b) ∷ r.written) → P (BlockPlace c) (BlockUnit d)
      chain c d (inl here) = subst (λ (n : ℕ).
          P (BlockPlace n) (BlockUnit d)) (sym here.0) (subst (λ (x : Block). P (BlockPlace a) (BlockUnit x)) (sym here.1) made)
      chain c d (inr older) = has.trailer r running c d older

  -- the running trailer is the durable one, and a front leaves the tail
  finished_has : (r : Running) → w.running ≡ Some r → (sum : ℕ) → HasEach sh P (finished sh spell w r sum)
  finished_has r running sum = record { needs = needs; trailer = λ q none a b at. absurd (let no : None ≡ Some q = none in cc) }
    where
      needs : (place : Place) (x : AnyUnit) → Needs sh (kept (finished sh spell w r sum)) place x → P place x
      needs (CopyPlace n) x need = absurd need
      needs (HeaderPlace s) x need = absurd need
      needs (PreparePlace s) x (q, at, slot, is) = has.needs (PreparePlace s) x (q, in_dropped _ q w.view.tail at, slot, is)
      needs (ReplyPlace k) x need = has.needs (ReplyPlace k) x need
      needs (BlockPlace a) x (b, at, is) = subst (λ (y : AnyUnit). P (BlockPlace a) y) (sym is) (has.trailer r running a b at)

  checked_has : (at : ℕ) (verdict : Verdict) → HasEach sh P (with_verdict w at verdict)
  checked_has at Sound = record { needs = has.needs; trailer = has.trailer }
  checked_has at (Failing class) = record { needs = has.needs; trailer = has.trailer }

  -- ---- any command

  -- what isn't refused is made
  made_now : {E : Type 0} (o : Option E) (Q : Type 0) → o ≡ None → Unless o Q → Q
  made_now (Some e) Q none made = absurd (cc)
  made_now None Q none made = made

  written_now : (sum : ℕ) (r : Running) (a : ℕ) (more : List ℕ) → w.running ≡ Some r
      → r.left ≡ a ∷ more → OfStep sh spell P w sum w.running → P (BlockPlace a) (BlockUnit (next_trailer sh spell w r sum))
  written_now sum r a more running left made =
      subst (λ (l : List ℕ). OfLeft sh spell P w sum r l) left (subst (λ (o : Option Running). OfStep sh spell P w sum o) running made)

  changed_has : (given : Given) (command : Command) (u : Work)
      → Change sh spell w given command u → OfMade sh spell P w given command → HasEach sh P u
  changed_has given command u (Stays _ idle) made = has
  changed_has given command u (Appends _ ps (One client request body none staged)) made =
      flushed_has ps (made_now (first_refusal (append_refusals (memory_of sh spell w) client request body)) _ none made, tt)
  changed_has given command u (Appends _ ps (Staged none)) made =
      flushed_has ps (made_now (first_refusal (flush_refusals (memory_of sh spell w))) _ none made)
  changed_has given command u (Replies op body none) made = replied_has (place_of_reply (memory_of sh spell w)) (reply_of (memory_of
      sh spell w) (supplied_sum given) body) (made_now (first_refusal (reply_refusals (memory_of sh spell w) op body)) _ none made)
  changed_has given command u (Begins root none) made = begun_has root
  changed_has given command u (Writes r a more running left) made = wrote_has
      r running a (next_trailer sh spell w r (supplied_sum given)) more (written_now (supplied_sum given) r a more running left made)
  changed_has given command u (Ends r running left) made = finished_has r running (supplied_sum given)
  changed_has given command u (Checks x more list) made = checked_has x.0 (supplied_verdict given)
  changed_has given command u case made = record { needs = has.needs; trailer = has.trailer }

  pub after_has : (given : Given) (command : Command) → OfMade sh spell P w given command → HasEach sh P (after sh spell w given command).0
  after_has given command made = changed_has given command (after sh spell w given command).0 (one_thing_law sh spell w given command) made
