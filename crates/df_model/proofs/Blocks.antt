-- Blocks that are written and released.
use Rattle.std.{proofs.{Common.{◌≡◌, inl, inr, ℕ, zero, suc, ◌+◌, ◌<◌, ◌≤◌, ◌^◌, not, cond, [], ◌∷◌, ◌==◌, ◌||◌, Bool, true, false, if◌then◌else◌, List, length, Option, Some, None, refl, sym, ◌∙◌, ap, subst, arith, eqb-true}, lemmas.Bool.{cases_eq, or_right, eqb-false}}, specs.List.{filter, range_with_len}}
use Rattle.df_theory.{specs.{Units.{AnyUnit, BlockPlace, BlockUnit, CopyPlace, Parts, Place, PreparePlace, or_else, overlay}, Copies.{IsChosen}, Shows.{Agrees, Needs}, Holds.{Holds}, Shape.{Shape}}, proofs.Laws.{put_else, short_same, chosen_same}}
use Rattle.df_model.{specs.{Laws.{BlockAsideLaw, BlockMayLaw}, Work.{Work, is_captured, is_held, is_known, is_of}, Codec.{AreChecksums, InGrid, IsChecksum}, Refusals.{block_refusals, first_refusal}, After.{with_live}, Blocks.{blocks_of, is_held_in}, Sense.{IsClearAddress, IsWork}, Memory.{free_of, memory_of}, Making.{first_of, next_address}}, proofs.{Entries.{held_is}, Tests.{all_pass}, Grid.{IsFree, IsNowhere, are_free, each_weaker, each_with, first_each, left_held, nowhere}, Knows.{live_knows, nowhere_new, one_fewer, one_more, release_knows}}}

-- the next address is free
pub next_free : (sh : Shape) (spell : Parts → List ℕ) (w : Work) (kind : ℕ) (body : List ℕ)
    → first_refusal (block_refusals (memory_of sh spell w) kind body) ≡ None → IsFree sh w (next_address (memory_of sh spell w))
next_free sh spell w kind body none = let tests = all_pass (block_refusals (memory_of sh spell w) kind body) none in first_each
    (IsFree sh w) (free_of (memory_of sh spell w)) (are_free sh spell w) (eqb-false (length (free_of (memory_of sh spell w))) 0 tests.1.1.0)

-- and the block isn't a trailer's
pub kind_some : (sh : Shape) (spell : Parts → List ℕ) (w : Work) (kind : ℕ) (body : List ℕ)
    → first_refusal (block_refusals (memory_of sh spell w) kind body) ≡ None → 0 < kind
kind_some sh spell w kind body none =
    let named = eqb-false kind 0 (all_pass (block_refusals (memory_of sh spell w) kind body) none).0 in omega arith

-- the first address that passes: those below it don't
below_case : (held : ℕ → Bool) (a : ℕ) (rest : List ℕ) (h : Bool) → held a ≡ h → (x : ℕ)
    → a ≤ x → x < first_of (cond (not h) (a ∷ rest) rest) → ((x : ℕ) → a + 1 ≤ x → x < first_of rest → held x ≡ true) → held x ≡ true
below_case held a rest false is x from to more = absurd (omega arith)
below_case held a rest true is x from to more = elim (cases_eq a x) [
  | inl here ↦ ap held (sym here) ∙ is
  | inr apart ↦ more x (omega arith) to
]

below_first : (held : ℕ → Bool) (a n : ℕ) (x : ℕ) → a ≤ x → x < first_of (filter (λ y. not (held y)) (range_with_len a n)) → held x ≡ true
below_first held a zero x from to = absurd (omega arith)
below_first held a (suc n) x from to = below_case held a (filter (λ y. not (held y)) (range_with_len (a + 1) n))
    (held a) refl x from to (λ y above below. below_first held (a + 1) n y above below)

pub block_may_law : BlockMayLaw
block_may_law sh spell w kind body none = let free = next_free sh spell w kind body none in
    record { inside = free.inside; free = free.unheld; below = λ x some less. sym (held_is sh w x some (omega (arith, less, free.inside))) ∙ below_first (is_held_in (blocks_of sh w)) 1 sh.layout.blocks x some less }

-- the first of checksums in range is in range
pub first_small : (sums : List ℕ) → AreChecksums sums → IsChecksum (first_of sums)
first_small [] all = (let small : 0 < 2 ^ 128 = omega arith in small)
first_small (c ∷ cs) all = all.0

pub live_keeps : (sh : Shape) (spell : Parts → List ℕ) (w : Work) (a c : ℕ)
    → IsChecksum c → IsWork sh spell w → IsFree sh w a → IsWork sh spell (with_live w a (Some c))
live_keeps sh spell w a c fits work free = record {
  codec = work.codec;
  version = work.version;
  view = work.view;
  sessions = work.sessions;
  grid = λ k held. go k (k == a) refl held;
  waiting = work.waiting;
  staged = work.staged;
  running = work.running;
  one = one_more w (with_live w a (Some c)) a c (live_knows w a c) (nowhere_new w a (nowhere w a free.unheld)) work.one;
  sums = λ k d is. sums k d (k == a) is;
  few = work.few;
  clear = λ r at. each_with (IsClearAddress w.live w.view.checkpoint) (IsClearAddress (with_live w a (Some c)).live w.view.checkpoint) r.left (λ x there clear. record { dead = dead x (λ same. let held = left_held w r x at there in cc (held, ap (is_held w) same, free.unheld)) clear.dead (x == a) refl; unreferenced = clear.unreferenced; no_trailer = clear.no_trailer }) (work.clear r at);
}
  where
    sums : (k d : ℕ) (b : Bool) → (if b then Some c else w.live k) ≡ Some d → IsChecksum d
    sums k d true is = subst IsChecksum (let both : Some c ≡ Some d = is in (let e : c ≡ d = cc in e)) fits
    sums k d false is = work.sums k d is

    dead : (x : ℕ) → (x ≡ a → ⊥) → w.live x ≡ None → (b : Bool) → (x == a) ≡ b → (if b then Some c else w.live x) ≡ None
    dead x apart none true same = absurd (apart (eqb-true x a same))
    dead x apart none false same = none

    go : (k : ℕ) (b : Bool) → (k == a) ≡ b → (is_known (if b then Some c else w.live k) || (is_captured
        k w.running || (is_known (w.view.checkpoint.parts.references k) || is_of k w.view.checkpoint.chain))) ≡ true → InGrid sh.layout k
    go k true same held = subst (InGrid sh.layout) (sym (eqb-true k a same)) free.inside
    go k false same held = work.grid k held

pub release_keeps : (sh : Shape) (spell : Parts → List ℕ) (w : Work) (a : ℕ) → IsWork sh spell w → IsWork sh spell (with_live w a None)
release_keeps sh spell w a work = record {
  codec = work.codec;
  version = work.version;
  view = work.view;
  sessions = work.sessions;
  grid = λ k held. go k (k == a) held;
  waiting = work.waiting;
  staged = work.staged;
  running = work.running;
  one = one_fewer w (with_live w a None) (release_knows w a) work.one;
  sums = λ k d is. sums k d (k == a) is;
  few = work.few;
  clear = λ r at. each_weaker (IsClearAddress w.live w.view.checkpoint) (IsClearAddress (with_live w a None).live w.view.checkpoint) (λ x clear. record { dead = dead x clear.dead (x == a); unreferenced = clear.unreferenced; no_trailer = clear.no_trailer }) r.left (work.clear r at);
}
  where
    sums : (k d : ℕ) (b : Bool) → (if b then None else w.live k) ≡ Some d → IsChecksum d
    sums k d true is = absurd (cc)
    sums k d false is = work.sums k d is

    dead : (x : ℕ) → w.live x ≡ None → (b : Bool) → (if b then None else w.live x) ≡ None
    dead x none true = refl
    dead x none false = none

    go : (k : ℕ) (b : Bool) → (is_known (if b then None else w.live k) || (is_captured
        k w.running || (is_known (w.view.checkpoint.parts.references k) || is_of k w.view.checkpoint.chain))) ≡ true → InGrid sh.layout k
    go k true held = work.grid k (or_right (is_known (w.live k))
        (is_captured k w.running || (is_known (w.view.checkpoint.parts.references k) || is_of k w.view.checkpoint.chain)) held)
    go k false held = work.grid k held

-- ---- what stands at a free address is no matter

pub block_aside_law : BlockAsideLaw
block_aside_law sh w image put a b free one = (
  λ holds. record {
    bears = record {
      sound = holds.bears.sound;
      agrees = λ place x is. agrees holds place x (put place) refl is;
      needs = λ place x needed. keep place x (holds.bears.needs place x needed) (λ same. no_need x (rw same at needed));
    };
    chosen = chosen holds;
    short = short_same sh image (overlay put image) w.view (λ s.
        put_else put image (BlockPlace a) (PreparePlace s) (BlockUnit b) one (λ same. cc (same))) holds.short;
  },
  λ stands k c is. let shown = stands k c is in (shown.0, keep (BlockPlace k) (BlockUnit shown.0) shown.1 (λ same. no_reference k c is (let e : k ≡ a = cc (same) in e)), shown.2, shown.3),
)
  where
    none : IsNowhere w a
    none = nowhere w a free

    no_need : (x : AnyUnit) → Needs sh w.view (BlockPlace a) x → ⊥
    no_need x needed = none.chain needed.0 needed.1

    no_reference : (k c : ℕ) → w.view.checkpoint.parts.references k ≡ Some c → k ≡ a → ⊥
    no_reference k c is same = (let here = ap w.view.checkpoint.parts.references same in cc (is, here, none.durable))

    keep : (place : Place) (x : AnyUnit) → image place ≡ Some x → (place ≡ BlockPlace a → ⊥) → overlay put image place ≡ Some x
    keep place x is apart = put_else put image (BlockPlace a) place (BlockUnit b) one apart ∙ is

    agrees : Holds sh image w.view
        → (place : Place) (x : AnyUnit) (o : Option AnyUnit) → put place ≡ o → or_else o (image place) ≡ Some x → Agrees sh w.view place x
    agrees holds place x None is there = holds.bears.agrees place x there
    agrees holds place x (Some y) is there = subst (λ (p : Place). Agrees sh w.view p x) (sym (one.only place y is).0) tt

    chosen : Holds sh image w.view → IsChosen (overlay put image) w.view.checkpoint.content
    chosen holds = chosen_same image (overlay put image) w.view.checkpoint.content (λ n.
        put_else put image (BlockPlace a) (CopyPlace n) (BlockUnit b) one (λ same. cc (same))) holds.chosen
