-- Each answer leaves a run sound, and brings its end nearer.
use Rattle.std.proofs.Common.{ap, subst, sym, ◌≡◌, ◌≤◌, ◌<◌, ℕ, ◌+◌, ◌-◌, ◌*◌, ◌/◌, ◌%◌, true, false, List, [], ◌∷◌, ◌++◌, length, drop, length-append, length-drop, refl, arith}
use Rattle.df_workload.{specs.{Hearing.{append_heard, begin_heard, block_heard, refused, release_heard, reply_heard, stepped, told, told_at, without_first}, Rounds.{after_reply, to_begin, to_block, to_next, to_release, to_replies}, Sound.{HasPoint, IsSoundState, IsWithinRound, MayBeTold, flag, is_at_end, left, left_at}, declared.outcome.Outcome.{Outcome}, declared.outcome.Outcome.TheVariants.{Refused, Accepted, Wrote, Finished}, declared.state.Point.{Point}, declared.state.Point.TheVariants.{Appending, Replying, Stepping, Writing, Releasing, Beginning, Ending}, declared.state.State.{State}}, proofs.Going.{Comes, comes_begin, comes_block, comes_next, comes_release, comes_replies, comes_reply, less_to_come}}

-- ---- what was counted: one command more, and one less to come

below : (x : ℕ) → x / 65536 % 2048 ≤ 2047
below x = omega arith

module _ (n : ℕ) (s : State) (w : IsWithinRound (n + 1) s) where
  within_refused : IsWithinRound n (refused s)
  within_refused = record { number = w.number; some = w.some; four = w.four; million = w.million; first = w.first; last = w.last; counted = omega (arith, w.counted); bytes = w.bytes }

  within_appended : IsWithinRound n (append_heard Accepted s)
  within_appended = record { number = w.number; some = w.some; four = w.four; million = w.million; first = w.first; last = w.last; counted = omega (arith, w.counted); bytes = omega (arith, w.bytes, below s.number) }

  within_replied : IsWithinRound n (reply_heard Accepted s)
  within_replied = record { number = w.number; some = w.some; four = w.four; million = w.million; first = w.first; last = w.last; counted = omega (arith, w.counted); bytes = w.bytes }

  within_finished : IsWithinRound n (stepped Finished s)
  within_finished = record { number = w.number; some = w.some; four = w.four; million = w.million; first = w.first; last = w.last; counted = omega (arith, w.counted); bytes = w.bytes }

  within_wrote : (address : ℕ) → IsWithinRound n (block_heard (Wrote address) s)
  within_wrote address = record { number = w.number; some = w.some; four = w.four; million = w.million; first = w.first; last = w.last; counted = omega (arith, w.counted); bytes = w.bytes }

  within_released : IsWithinRound n (release_heard Accepted s)
  within_released = record { number = w.number; some = w.some; four = w.four; million = w.million; first = w.first; last = w.last; counted = omega (arith, w.counted); bytes = w.bytes }

  within_kept : IsWithinRound n (refused (without_first s))
  within_kept = record { number = w.number; some = w.some; four = w.four; million = w.million; first = w.first; last = w.last; counted = omega (arith, w.counted); bytes = w.bytes }

  within_begun : IsWithinRound n (begin_heard Accepted s)
  within_begun = record { number = w.number; some = w.some; four = w.four; million = w.million; first = w.first; last = w.last; counted = omega (arith, w.counted); bytes = w.bytes }

  within_same : IsWithinRound n s
  within_same = less_to_come (n + 1) n s w (omega arith)

-- at the end of a running checkpoint
finished_within : (s : State) → IsWithinRound 0 s → s.running ≡ true → IsWithinRound 0 (stepped Finished s)
finished_within s w runs = let set : flag s.running ≡ 1 = ap flag runs in
    record { number = w.number; some = w.some; four = w.four; million = w.million; first = w.first; last = w.last; counted = omega (arith, w.counted, set); bytes = w.bytes }

-- ---- each point

-- sound, and nearer to its end than s at a point with so much to come
pub record Nearer (n : ℕ) (s t : State) : Type 0 where
  pub sound : IsSoundState t
  pub less : 0 < 12 * (s.count - s.round) + n → left t < 12 * (s.count - s.round) + n

nearer : (n : ℕ) (s t : State) → Comes n s t → Nearer (n + 1) s t
nearer n s t c = record { sound = c.sound; less = λ some. omega (arith, c.fits) }

-- from a state with the same rounds
as_of : (n : ℕ) (s u t : State) → u.count ≡ s.count → u.round ≡ s.round → Nearer n u t → Nearer n s t
as_of n s u t count round is = record { sound = is.sound; less = λ some. omega (arith, is.less (omega arith), count, round) }

appending_done : (s : State) → IsWithinRound 9 s → length s.held ≤ 8 → Nearer 9 s (to_replies (append_heard Accepted s))
appending_done s w few = as_of 9 s (append_heard Accepted s)
    _ refl refl (nearer 8 (append_heard Accepted s) _ (comes_replies (append_heard Accepted s) (within_appended 8 s w) few))

appending : (o : Outcome) (s : State) → IsWithinRound 9 s → length s.held ≤ 8 → Nearer 9 s (to_replies (append_heard o s))
appending Refused s w few = as_of 9 s (refused s) _ refl refl (nearer 8 (refused s) _ (comes_replies (refused s) (within_refused 8 s w) few))
appending o s w few = appending_done s w few

replying_done : (op : ℕ) (s : State)
    → IsWithinRound (5 + (s.round - op)) s → length s.held ≤ 8 → Nearer (5 + (s.round - op)) s (after_reply op (reply_heard Accepted s))
replying_done op s w few = let c = comes_reply op (reply_heard Accepted s)
    (within_replied (4 + (s.round - op)) s (less_to_come (5 + (s.round - op)) (4 + (s.round - op) + 1) s w (omega arith))) few in
    record { sound = c.sound; less = λ some. omega (arith, c.fits) }

replying : (op : ℕ) (o : Outcome) (s : State)
    → IsWithinRound (5 + (s.round - op)) s → length s.held ≤ 8 → Nearer (5 + (s.round - op)) s (after_reply op (reply_heard o s))
replying op Refused s w few = let c = comes_reply op (refused s)
    (within_refused (4 + (s.round - op)) s (less_to_come (5 + (s.round - op)) (4 + (s.round - op) + 1) s w (omega arith))) few in
    record { sound = c.sound; less = λ some. omega (arith, c.fits) }
replying op o s w few = replying_done op s w few

stepping : (o : Outcome) (s : State) → IsWithinRound 4 s → length s.held ≤ 8 → Nearer 4 s (to_block (stepped o s))
stepping Refused s w few = as_of 4 s (refused s) _ refl refl (nearer 3 (refused s) _ (comes_block (refused s) (within_refused 3 s w) few))
stepping Finished s w few = as_of
    4 s (stepped Finished s) _ refl refl (nearer 3 (stepped Finished s) _ (comes_block (stepped Finished s) (within_finished 3 s w) few))
stepping Accepted s w few = nearer 3 s _ (comes_block s (within_same 3 s w) few)
stepping (Wrote a) s w few = nearer 3 s _ (comes_block s (within_same 3 s w) few)

one_more : (held : List ℕ) (a : ℕ) → length held ≤ 8 → length (held ++ a ∷ []) ≤ 9
one_more held a few = omega (arith, length-append held (a ∷ []))

writing : (o : Outcome) (s : State) → IsWithinRound 3 s → length s.held ≤ 8 → Nearer 3 s (to_release (block_heard o s))
writing Refused s w few =
    as_of 3 s (refused s) _ refl refl (nearer 2 (refused s) _ (comes_release (refused s) (within_refused 2 s w) (omega arith)))
writing (Wrote a) s w few = as_of 3 s (block_heard (Wrote a) s) _ refl
    refl (nearer 2 (block_heard (Wrote a) s) _ (comes_release (block_heard (Wrote a) s) (within_wrote 2 s w a) (one_more s.held a few)))
writing Accepted s w few = nearer 2 s _ (comes_release s (within_same 2 s w) (omega arith))
writing Finished s w few = nearer 2 s _ (comes_release s (within_same 2 s w) (omega arith))

one_less : (held : List ℕ) → length held ≡ 9 → length (drop 1 held) ≤ 8
one_less held nine = omega (arith, length-drop 1 held)

releasing_done : (s : State) → IsWithinRound 2 s → length s.held ≡ 9 → Nearer 2 s (to_begin (release_heard Accepted s))
releasing_done s w nine = as_of 2 s (release_heard Accepted s) _ refl
    refl (nearer 1 (release_heard Accepted s) _ (comes_begin (release_heard Accepted s) (within_released 1 s w) (one_less s.held nine)))

releasing : (o : Outcome) (s : State) → IsWithinRound 2 s → length s.held ≡ 9 → Nearer 2 s (to_begin (release_heard o s))
releasing Refused s w nine = as_of 2 s (refused (without_first s)) _
    refl refl (nearer 1 (refused (without_first s)) _ (comes_begin (refused (without_first s)) (within_kept 1 s w) (one_less s.held nine)))
releasing o s w nine = releasing_done s w nine

beginning_done : (s : State) → IsWithinRound 1 s → length s.held ≤ 8 → Nearer 1 s (to_next (begin_heard Accepted s))
beginning_done s w few = as_of 1 s (begin_heard Accepted s)
    _ refl refl (nearer 0 (begin_heard Accepted s) _ (comes_next (begin_heard Accepted s) (within_begun 0 s w) few))

beginning : (o : Outcome) (s : State) → IsWithinRound 1 s → length s.held ≤ 8 → Nearer 1 s (to_next (begin_heard o s))
beginning Refused s w few = as_of 1 s (refused s) _ refl refl (nearer 0 (refused s) _ (comes_next (refused s) (within_refused 0 s w) few))
beginning o s w few = beginning_done s w few

nothing_left : (s : State) → s.round ≡ s.count → 0 < 12 * (s.count - s.round) + 0 → ⊥
nothing_left s over some = omega arith

sound_ending : (t : State) → t.point ≡ Ending → IsWithinRound 0 t → t.round ≡ t.count → length t.held ≤ 8 → IsSoundState t
sound_ending t p w over few = record {
  within = subst (λ (q : Point). IsWithinRound (left_at t.round q) t) (sym p) w;
  point = rw p (over, few);
}

ending : (o : Outcome) (s : State) → s.point ≡ Ending
    → IsWithinRound 0 s → s.round ≡ s.count → length s.held ≤ 8 → s.running ≡ true → (o ≡ Refused → ⊥) → Nearer 0 s (stepped o s)
ending Refused s p w over few runs done = absurd (done refl)
ending Finished s p w over few runs done = record {
  sound = sound_ending (stepped Finished s) p (finished_within s w runs) over few;
  less = λ some. absurd (nothing_left s over some);
}
ending Accepted s p w over few runs done = record { sound = sound_ending s p w over few; less = λ some. absurd (nothing_left s over some) }
ending (Wrote a) s p w over few runs done = record { sound = sound_ending s p w over few; less = λ some. absurd (nothing_left s over some) }

pub nearer_at : (p : Point) (o : Outcome) (s : State)
    → s.point ≡ p → IsWithinRound (left_at s.round p) s → HasPoint p s → MayBeTold p o s → Nearer (left_at s.round p) s (told_at p o s)
nearer_at Appending o s is w has may = appending o s w has
nearer_at (Replying op) o s is w has may = replying op o s w has.1
nearer_at Stepping o s is w has may = stepping o s w has
nearer_at Writing o s is w has may = writing o s w has
nearer_at Releasing o s is w has may = releasing o s w has
nearer_at Beginning o s is w has may = beginning o s w has
nearer_at Ending o s is w has may = ending o s is w has.0 has.1 may.0 may.1

pub heard_on : (o : Outcome) (s : State) → IsSoundState s → MayBeTold s.point o s → Nearer (left_at s.round s.point) s (told o s)
heard_on o s sound may = nearer_at s.point o s refl sound.within sound.point may

-- ---- before the end

pub some_left : (p : Point) (s : State) → is_at_end p ≡ false → 0 < 12 * (s.count - s.round) + left_at s.round p
some_left Appending s is = omega arith
some_left (Replying op) s is = omega arith
some_left Stepping s is = omega arith
some_left Writing s is = omega arith
some_left Releasing s is = omega arith
some_left Beginning s is = omega arith
some_left Ending s is = absurd (cc)
