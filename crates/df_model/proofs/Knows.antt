-- One block an address.
use Rattle.std.proofs.Common.{◌≡◌, ◌⊎◌, inl, inr, ℕ, ◌+◌, ◌==◌, Bool, true, false, if◌then◌else◌, List, ◌∷◌, Option, Some, None, refl, sym, ◌∙◌, ap, subst, arith, eqb-true}
use Rattle.df_theory.specs.{Units.{Block, Message, Parts}, Trailer.{InChain}, Shape.{Shape}, View.{View}, Holds.{Sound}}
use Rattle.df_model.{specs.{Work.{Running, Work}, After.{with_running, begun, finished, with_group, with_live, with_reply, with_trailer_block}, Sense.{AreOne, AtEachOf, Captured, Chained, Durable, IsCapture, IsClearAddress, IsKnown, IsSpare, Live, RiseFrom, Written}, Blocks.{addresses, entries, sum_at}}, proofs.{Grid.{IsNowhere}, Entries.{entry_in}}}

-- what was known is known
abbrev pub KnowsNoMore : Work → Work → Type 0
KnowsNoMore w u = (a c : ℕ) → IsKnown u a c → IsKnown w a c

pub one_fewer : (w u : Work) → KnowsNoMore w u → AreOne w → AreOne u
one_fewer w u fewer one a c d first second = one a c d (fewer a c first) (fewer a d second)

-- what is known is old, or this one block
abbrev pub KnowsOneMore : Work → Work → ℕ → ℕ → Type 0
KnowsOneMore w u at sum = (a c : ℕ) → IsKnown u a c → IsKnown w a c ⊎ ((a ≡ at) × (c ≡ sum))

pub one_more : (w u : Work) (at sum : ℕ) → KnowsOneMore w u at sum → ((c : ℕ) → IsKnown w at c → ⊥) → AreOne w → AreOne u
one_more w u at sum more new one a c d first second = go (more a c first) (more a d second)
  where
    go : IsKnown w a c ⊎ ((a ≡ at) × (c ≡ sum)) → IsKnown w a d ⊎ ((a ≡ at) × (d ≡ sum)) → c ≡ d
    go (inl x) (inl y) = one a c d x y
    go (inl x) (inr y) = absurd (new c (rw y.0 at x))
    go (inr x) (inl y) = absurd (new d (rw x.0 at y))
    go (inr x) (inr y) = x.1 ∙ sym y.1

-- nothing is known at an address that isn't held
pub nowhere_new : (w : Work) (a : ℕ) → IsNowhere w a → (c : ℕ) → IsKnown w a c → ⊥
nowhere_new w a none c (Live is) = cc (is, none.live)
nowhere_new w a none c (Captured r at is) = let empty = none.captured r at in cc (is, empty)
nowhere_new w a none c (Written r b at is sum) = none.written r b at is
nowhere_new w a none c (Durable is) = cc (is, none.durable)
nowhere_new w a none c (Chained b is sum) = none.chain b is

-- ---- the calls

pub group_knows : (w : Work) (ps : List Message) → KnowsNoMore w (with_group w ps)
group_knows w ps a c (Live is) = Live is
group_knows w ps a c (Captured r at is) = Captured r at is
group_knows w ps a c (Written r b at is sum) = Written r b at is sum
group_knows w ps a c (Durable is) = Durable is
group_knows w ps a c (Chained b is sum) = Chained b is sum

pub reply_knows : (w : Work) (place : ℕ) (r : Message) → KnowsNoMore w (with_reply w place r)
reply_knows w place m a c (Live is) = Live is
reply_knows w place m a c (Captured r at is) = Captured r at is
reply_knows w place m a c (Written r b at is sum) = Written r b at is sum
reply_knows w place m a c (Durable is) = Durable is
reply_knows w place m a c (Chained b is sum) = Chained b is sum

live_case : (w : Work) (at sum a c : ℕ) (b : Bool)
    → (a == at) ≡ b → (if b then Some sum else w.live a) ≡ Some c → IsKnown w a c ⊎ ((a ≡ at) × (c ≡ sum))
live_case w at sum a c true same is = inr (eqb-true a at same, (let both : Some sum ≡ Some c = is in cc))
live_case w at sum a c false same is = inl (Live is)

pub live_knows : (w : Work) (at sum : ℕ) → KnowsOneMore w (with_live w at (Some sum)) at sum
live_knows w at sum a c (Live is) = live_case w at sum a c (a == at) refl is
live_knows w at sum a c (Captured r now is) = inl (Captured r now is)
live_knows w at sum a c (Written r b now is same) = inl (Written r b now is same)
live_knows w at sum a c (Durable is) = inl (Durable is)
live_knows w at sum a c (Chained b is same) = inl (Chained b is same)

dead_case : (w : Work) (a c : ℕ) (b : Bool) → (if b then None else w.live a) ≡ Some c → IsKnown w a c
dead_case w a c true is = absurd (cc)
dead_case w a c false is = Live is

pub release_knows : (w : Work) (at : ℕ) → KnowsNoMore w (with_live w at None)
release_knows w at a c (Live is) = dead_case w a c (a == at) is
release_knows w at a c (Captured r now is) = Captured r now is
release_knows w at a c (Written r b now is same) = Written r b now is same
release_knows w at a c (Durable is) = Durable is
release_knows w at a c (Chained b is same) = Chained b is same

-- what a begin captures is live
entry_live : (sh : Shape) (w : Work) (a c : ℕ) → sum_at a (entries w.live (addresses sh.layout)) ≡ Some c → w.live a ≡ Some c
entry_live sh w a c is = entry_in w.live (addresses sh.layout) a c is

pub begin_knows : (sh : Shape) (spell : Parts → List ℕ) (w : Work) (root : List ℕ)
    → KnowsNoMore w (with_running w (Some (begun sh spell w root)))
begin_knows sh spell w root a c (Live is) = Live is
begin_knows sh spell w root a c (Captured r now is) = Live (entry_live sh w a c (ap (λ (x : Running).
    x.parts.references a) (let e : begun sh spell w root ≡ r = (let both : Some (begun sh spell w root) ≡ Some r = now in cc) in e) ∙ is))
begin_knows sh spell w root a c (Written r b now is same) =
    absurd (rw (sym (let e : begun sh spell w root ≡ r = (let both : Some (begun sh spell w root) ≡ Some r = now in cc) in e)) at is)
begin_knows sh spell w root a c (Durable is) = Durable is
begin_knows sh spell w root a c (Chained b is same) = Chained b is same

written_case : (w : Work) (r : Running) (at : ℕ) (new : Block) (a c : ℕ) (b : Block)
    → w.running ≡ Some r → InChain a b ((at, new) ∷ r.written) → b.checksum ≡ c → IsKnown w a c ⊎ ((a ≡ at) × (c ≡ new.checksum))
written_case w r at new a c b now (inl here) sum = inr (here.0, sym sum ∙ ap (λ (x : Block). x.checksum) here.1)
written_case w r at new a c b now (inr there) sum = inl (Written r b now there sum)

pub trailer_knows : (w : Work) (r : Running) (at : ℕ) (new : Block) (more : List ℕ)
    → w.running ≡ Some r → KnowsOneMore w (with_trailer_block w r at new more) at new.checksum
trailer_knows w r at new more now a c (Live is) = inl (Live is)
trailer_knows w r at new more now a c (Captured q is_now is) = let e : record r { written = (at, new) ∷ r.written; left = more } ≡ q =
    (let both : Some (record r { written = (at, new) ∷ r.written; left = more }) ≡ Some q = is_now in cc) in
    inl (Captured r now (ap (λ (x : Running). x.parts.references a) e ∙ is))
trailer_knows w r at new more now a c (Written q b is_now is sum) = let e : record r { written = (at, new) ∷ r.written; left = more } ≡ q =
    (let both : Some (record r { written = (at, new) ∷ r.written; left = more }) ≡ Some q = is_now in cc) in
    written_case w r at new a c b now (rw (sym e) at is) sum
trailer_knows w r at new more now a c (Durable is) = inl (Durable is)
trailer_knows w r at new more now a c (Chained b is sum) = inl (Chained b is sum)

-- the next address of the trailer has no block yet
pub trailer_new : (sh : Shape) (spell : Parts → List ℕ) (w : Work) (r : Running) (at : ℕ) (more : List ℕ) → w.running ≡ Some r → r.left
    ≡ at ∷ more → IsCapture sh spell w.view r → AtEachOf (IsClearAddress w.live w.view.checkpoint) r.left → (c : ℕ) → IsKnown w at c → ⊥
trailer_new sh spell w r at more now left capture clears c known = go known
  where
    clear : IsClearAddress w.live w.view.checkpoint at
    clear = (let all : AtEachOf (IsClearAddress w.live w.view.checkpoint) (at
        ∷ more) = subst (AtEachOf (IsClearAddress w.live w.view.checkpoint)) left clears in all.0)

    spare : r.parts.references at ≡ None
    spare = (let all : AtEachOf (IsSpare sh r) (at ∷ more) = subst (AtEachOf (IsSpare sh r)) left capture.left.0 in all.0.unreferenced)

    go : IsKnown w at c → ⊥
    go (Live is) = cc (is, clear.dead)
    go (Captured q is_now is) = let e : q ≡ r = (let both : Some q ≡ Some r = sym is_now ∙ now in cc) in
        let here : r.parts.references at ≡ Some c = ap (λ (x : Running). x.parts.references at) (sym e) ∙ is in cc (here, spare)
    go (Written q b is_now is sum) = let e : q ≡ r = (let both : Some q ≡ Some r = sym is_now ∙ now in cc) in
        let rise : RiseFrom (at + 1) (at ∷ more) = subst (RiseFrom (at + 1)) left (capture.written at b (rw e at is)).1 in
        omega (arith, rise.0)
    go (Durable is) = cc (is, clear.unreferenced)
    go (Chained b is sum) = clear.no_trailer b is

pub finish_knows : (sh : Shape) (spell : Parts → List ℕ) (w : Work) (r : Running) (sum : ℕ)
    → w.running ≡ Some r → KnowsNoMore w (finished sh spell w r sum)
finish_knows sh spell w r sum now a c (Live is) = Live is
finish_knows sh spell w r sum now a c (Captured q none is) = absurd (cc)
finish_knows sh spell w r sum now a c (Written q b none is same) = absurd (cc)
finish_knows sh spell w r sum now a c (Durable is) = Captured r now is
finish_knows sh spell w r sum now a c (Chained b is same) = Written r b now is same

-- a state that differs elsewhere
known_as : (w u : Work) (a c : ℕ) → u.view ≡ w.view → u.live ≡ w.live → u.running ≡ w.running → IsKnown u a c → IsKnown w a c
known_as w u a c view live running (Live is) = Live (ap (λ (f : ℕ → Option ℕ). f a) (sym live) ∙ is)
known_as w u a c view live running (Captured r at is) = Captured r (sym running ∙ at) is
known_as w u a c view live running (Written r b at is sum) = Written r b (sym running ∙ at) is sum
known_as w u a c view live running (Durable is) = Durable (ap (λ (v : View). v.checkpoint.parts.references a) (sym view) ∙ is)
known_as w u a c view live running (Chained b is sum) = Chained b (rw view at is) sum

pub aside_one : (w u : Work) → u.view ≡ w.view → u.live ≡ w.live → u.running ≡ w.running → AreOne w → AreOne u
aside_one w u view live running one = one_fewer w u (λ a c is. known_as w u a c view live running is) one

-- ---- the start

abbrev pub BlocksApart : View → Type 0
BlocksApart v = (a : ℕ) (b c : Block) → InChain a b v.checkpoint.chain → InChain a c v.checkpoint.chain → b ≡ c

-- only the durable checkpoint is known
opened_as : (v : View) (a c : ℕ) (w : Work) → w.view ≡ v → w.live ≡ v.checkpoint.parts.references → w.running ≡ None
    → IsKnown w a c → (v.checkpoint.parts.references a ≡ Some c) ⊎ ((b : Block) × InChain a b v.checkpoint.chain × (b.checksum ≡ c))
opened_as v a c w view live idle (Live is) = inl (ap (λ (f : ℕ → Option ℕ). f a) (sym live) ∙ is)
opened_as v a c w view live idle (Captured r at is) = absurd (cc (at, idle))
opened_as v a c w view live idle (Written r b at is sum) = absurd (cc (at, idle))
opened_as v a c w view live idle (Durable is) = inl (ap (λ (u : View). u.checkpoint.parts.references a) (sym view) ∙ is)
opened_as v a c w view live idle (Chained b is sum) = inr (b, rw view at is, sum)

pub opened_one : (sh : Shape) (v : View) (w : Work)
    → Sound sh v → BlocksApart v → w.view ≡ v → w.live ≡ v.checkpoint.parts.references → w.running ≡ None → AreOne w
opened_one sh v w sound apart view live idle a c d first second =
    go (opened_as v a c w view live idle first) (opened_as v a d w view live idle second)
  where
    spare : (b : Block) → InChain a b v.checkpoint.chain → v.checkpoint.parts.references a ≡ None
    spare b at = sound.checkpoint.trailer.spare a b at

    go : (v.checkpoint.parts.references a ≡ Some c) ⊎ ((b : Block) × InChain a b v.checkpoint.chain × (b.checksum ≡ c))
        → (v.checkpoint.parts.references a ≡ Some d) ⊎ ((b : Block) × InChain a b v.checkpoint.chain × (b.checksum ≡ d)) → c ≡ d
    go (inl x) (inl y) = (let both : Some c ≡ Some d = sym x ∙ y in cc)
    go (inl x) (inr y) = absurd (let none = spare y.0 y.1 in cc (x, none))
    go (inr x) (inl y) = absurd (let none = spare x.0 x.1 in cc (y, none))
    go (inr x) (inr y) = sym x.2 ∙ ap (λ (b : Block). b.checksum) (apart a x.0 y.0 x.1 y.1) ∙ y.2
