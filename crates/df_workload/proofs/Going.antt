-- From one point of a run to the next: it stays sound, and what is still to come fits in what was left.
use Rattle.std.proofs.{Common.{◌≡◌, ◌≤◌, ◌<◌, ℕ, ◌+◌, ◌-◌, ◌*◌, ◌%◌, ◌^◌, ◌==◌, Bool, true, false, nat_lt, if◌then◌else◌, length, refl, arith, ltb-true, ltb-false, eqb-true}, lemmas.Bool.Decides.{nat_tests}}
use Rattle.df_workload.specs.{Rounds.{after_reply, at, first_op, is_replied_to, to_append, to_begin, to_block, to_next, to_release, to_replies, to_step, with_draw}, Sound.{HasPoint, IsSoundState, IsWithinRound, left, left_at}, declared.state.Point.{Point}, declared.state.Point.TheVariants.{Replying, Stepping, Writing, Releasing, Beginning, Ending}, declared.state.State.{State}}

-- sound, with at most n commands of the round of s to come
pub record Comes (n : ℕ) (s t : State) : Type 0 where
  pub sound : IsSoundState t
  pub fits : left t ≤ 12 * (s.count - s.round) + n

by_test : (P : State → Type 0) (b : Bool) (s t : State) → (b ≡ true → P s) → (b ≡ false → P t) → P (if b then s else t)
by_test P true s t holds fails = holds refl
by_test P false s t holds fails = fails refl

-- ---- the same with less to come, or at another point

pub less_to_come : (n m : ℕ) (s : State) → IsWithinRound n s → m ≤ n → IsWithinRound m s
less_to_come n m s w h = record { number = w.number; some = w.some; four = w.four; million = w.million; first = w.first; last = w.last; counted = omega arith; bytes = w.bytes }

wider : (n m : ℕ) (s t : State) → Comes n s t → n ≤ m → Comes m s t
wider n m s t c h = record { sound = c.sound; fits = omega arith }

go_at : (n : ℕ) (p : Point) (s : State) → IsWithinRound n s → left_at s.round p ≤ n → HasPoint p (at p s) → Comes n s (at p s)
go_at n p s w h has = record {
  sound = record {
    within = record { number = w.number; some = w.some; four = w.four; million = w.million; first = w.first; last = w.last; counted = omega arith; bytes = w.bytes };
    point = has;
  };
  fits = omega arith;
}

below : (x : ℕ) → (x * 1103515245 + 12345) % 2 ^ 31 < 2 ^ 31
below x = omega arith

drawn : (n : ℕ) (s : State) → IsWithinRound n s → IsWithinRound n (with_draw s)
drawn n s w = record { number = below s.number; some = w.some; four = w.four; million = w.million; first = w.first; last = w.last; counted = w.counted; bytes = w.bytes }

-- ---- tests

is_other : (a b : ℕ) → (a == b) ≡ false → a ≤ b → a < b
is_other a b is h = grind (arith, nat_tests)

-- ---- the points, from the last to the first

next_round : (s : State) → IsWithinRound 0 s → length s.held ≤ 8 → s.round < s.count → Comes 0 s (to_append (record s { round = s.round + 1 }))
next_round s w few more = record {
  sound = record {
    within = record { number = below s.number; some = w.some; four = w.four; million = w.million; first = omega arith; last = omega arith; counted = omega arith; bytes = w.bytes };
    point = few;
  };
  fits = omega arith;
}

pub comes_next : (s : State) → IsWithinRound 0 s → length s.held ≤ 8 → Comes 0 s (to_next s)
comes_next s w few = by_test (λ t. Comes 0 s t) (nat_lt s.round s.count) (to_append (record s { round = s.round + 1 })) (at Ending s)
    (λ holds. next_round s w few (ltb-true s.round s.count holds)) (λ fails.
    let over : s.count ≤ s.round = ltb-false s.round s.count fails in let same : s.round ≡ s.count = omega arith in
    go_at 0 Ending s w (omega arith) (same, few))

pub comes_begin : (s : State) → IsWithinRound 1 s → length s.held ≤ 8 → Comes 1 s (to_begin s)
comes_begin s w few = by_test (λ t. Comes 1 s t) (s.round % 16 == 0) (at Beginning s) (to_next s)
    (λ holds. go_at 1 Beginning s w (omega arith) few)
    (λ fails. wider 0 1 s (to_next s) (comes_next s (less_to_come 1 0 s w (omega arith)) few) (omega arith))

pub comes_release : (s : State) → IsWithinRound 2 s → length s.held ≤ 9 → Comes 2 s (to_release s)
comes_release s w some = by_test (λ t. Comes 2 s t) (length s.held == 9) (at Releasing s) (to_begin s)
    (λ holds. go_at 2 Releasing s w (omega arith) (eqb-true (length s.held) 9 holds)) (λ fails.
    let few : length s.held < 9 = is_other (length s.held) 9 fails some in
    wider 1 2 s (to_begin s) (comes_begin s (less_to_come 2 1 s w (omega arith)) (omega arith)) (omega arith))

pub comes_block : (s : State) → IsWithinRound 3 s → length s.held ≤ 8 → Comes 3 s (to_block s)
comes_block s w few = by_test (λ t. Comes 3 s t) (s.round % 4 == 0) (at Writing (with_draw s)) (to_begin s) (λ holds.
    let c = go_at 3 Writing (with_draw s) (drawn 3 s w) (omega arith) few in record { sound = c.sound; fits = c.fits })
    (λ fails. wider 1 3 s (to_begin s) (comes_begin s (less_to_come 3 1 s w (omega arith)) few) (omega arith))

pub comes_step : (s : State) → IsWithinRound 4 s → length s.held ≤ 8 → Comes 4 s (to_step s)
comes_step s w few = by_test (λ t. Comes 4 s t) s.running (at Stepping s) (to_block s) (λ holds. go_at 4 Stepping s w (omega arith) few)
    (λ fails. wider 3 4 s (to_block s) (comes_block s (less_to_come 4 3 s w (omega arith)) few) (omega arith))

-- a group of at most four ops
few_ops : (round clients : ℕ) → 1 ≤ clients → clients ≤ 4 → 5 + (round - (round - (round - 1) % clients)) ≤ 8
few_ops round clients some four = omega arith

pub comes_replies : (s : State) → IsWithinRound 8 s → length s.held ≤ 8 → Comes 8 s (to_replies s)
comes_replies s w few = by_test (λ t. Comes 8 s t) (is_replied_to s) (at (Replying (first_op s)) s) (to_step s)
    (λ holds. go_at 8 (Replying (first_op s)) s w (few_ops s.round s.clients w.some w.four) (omega arith, few))
    (λ fails. wider 4 8 s (to_step s) (comes_step s (less_to_come 8 4 s w (omega arith)) few) (omega arith))

pub comes_reply : (op : ℕ) (s : State)
    → IsWithinRound (4 + (s.round - op)) s → length s.held ≤ 8 → Comes (4 + (s.round - op)) s (after_reply op s)
comes_reply op s w few = by_test (λ t. Comes (4 + (s.round - op)) s t) (nat_lt op s.round) (at (Replying (op + 1)) s) (to_step s) (λ holds.
    let more : op < s.round = ltb-true op s.round holds in
    go_at (4 + (s.round - op)) (Replying (op + 1)) s w (omega arith) (omega arith, few)) (λ fails.
    wider 4 (4 + (s.round - op)) s (to_step s) (comes_step s (less_to_come (4 + (s.round - op)) 4 s w (omega arith)) few) (omega arith))
