-- The flag of a running checkpoint follows the commands and their answers alone.
use Rattle.std.proofs.Common.{◌≡◌, ℕ, ◌+◌, ◌%◌, ◌==◌, Bool, true, false, nat_lt, if◌then◌else◌, List, length, Option, Some, None, refl, ◌∙◌, subst}
use Rattle.df_model.specs.Commands.{Advance, Begin, Command}
use Rattle.df_workload.specs.{Asking.{asks_at, number_body}, Hearing.{append_heard, begin_heard, block_heard, release_heard, reply_heard, runs_after, stepped, told_at}, Rounds.{after_reply, at, first_op, is_replied_to, to_append, to_begin, to_block, to_next, to_release, to_replies, to_step, with_draw}, declared.outcome.Outcome.{Outcome}, declared.outcome.Outcome.TheVariants.{Refused}, declared.state.Point.{Point}, declared.state.Point.TheVariants.{Appending, Replying, Stepping, Writing, Releasing, Beginning, Ending}, declared.state.State.{State}}

-- ---- no point on the way changes it

either : (b : Bool) (s t : State) (r : Bool) → s.running ≡ r → t.running ≡ r → (if b then s else t).running ≡ r
either true s t r one two = one
either false s t r one two = two

next_same : (s : State) → (to_next s).running ≡ s.running
next_same s = either (nat_lt s.round s.count) (to_append (record s { round = s.round + 1 })) (at Ending s) s.running refl refl

begin_same : (s : State) → (to_begin s).running ≡ s.running
begin_same s = either (s.round % 16 == 0) (at Beginning s) (to_next s) s.running refl (next_same s)

release_same : (s : State) → (to_release s).running ≡ s.running
release_same s = either (length s.held == 9) (at Releasing s) (to_begin s) s.running refl (begin_same s)

block_same : (s : State) → (to_block s).running ≡ s.running
block_same s = either (s.round % 4 == 0) (at Writing (with_draw s)) (to_begin s) s.running refl (begin_same s)

step_same : (s : State) → (to_step s).running ≡ s.running
step_same s = either s.running (at Stepping s) (to_block s) s.running refl (block_same s)

replies_same : (s : State) → (to_replies s).running ≡ s.running
replies_same s = either (is_replied_to s) (at (Replying (first_op s)) s) (to_step s) s.running refl (step_same s)

reply_same : (op : ℕ) (s : State) → (after_reply op s).running ≡ s.running
reply_same op s = either (nat_lt op s.round) (at (Replying (op + 1)) s) (to_step s) s.running refl (step_same s)

-- ---- an answer

-- neither an append, a reply, a block nor a release
others_same : (o : Outcome) (s : State) → ((append_heard o s).running ≡ s.running)
    × ((reply_heard o s).running ≡ s.running) × ((block_heard o s).running ≡ s.running) × ((release_heard o s).running ≡ s.running)
others_same Refused s = (refl, refl, refl, refl)
others_same o s = (refl, refl, refl, refl)

stepped_so : (o : Outcome) (s : State) → (stepped o s).running ≡ runs_after Advance o s.running
stepped_so Refused s = refl
stepped_so o s = refl

begun_so : (root : List ℕ) (o : Outcome) (s : State) → (begin_heard o s).running ≡ runs_after (Begin root) o s.running
begun_so root Refused s = refl
begun_so root o s = refl

some_is : (c d : Command) → Option.Some c ≡ Some d → c ≡ d
some_is c d is = cc

pub asks_end : (running : Bool) (c : Command) → (if running then Some Advance else None) ≡ Some c → Advance ≡ c
asks_end true c is = cc
asks_end false c is = absurd (cc)

pub runs_so : (p : Point) (o : Outcome) (s : State) (c : Command) → asks_at p s ≡ Some c → (told_at p o s).running ≡ runs_after c o s.running
runs_so Appending o s c is = subst (λ (d : Command).
    (told_at Appending o s).running ≡ runs_after d o s.running) (some_is _ c is) (replies_same (append_heard o s) ∙ (others_same o s).0)
runs_so (Replying op) o s c is = subst (λ (d : Command).
    (told_at (Replying op) o s).running ≡ runs_after d o s.running) (some_is _ c is) (reply_same op (reply_heard o s) ∙ (others_same o s).1)
runs_so Stepping o s c is = subst (λ (d : Command).
    (told_at Stepping o s).running ≡ runs_after d o s.running) (some_is _ c is) (block_same (stepped o s) ∙ stepped_so o s)
runs_so Writing o s c is = subst (λ (d : Command).
    (told_at Writing o s).running ≡ runs_after d o s.running) (some_is _ c is) (release_same (block_heard o s) ∙ (others_same o s).2)
runs_so Releasing o s c is = subst (λ (d : Command).
    (told_at Releasing o s).running ≡ runs_after d o s.running) (some_is _ c is) (begin_same (release_heard o s) ∙ (others_same o s).3)
runs_so Beginning o s c is = subst (λ (d : Command). (told_at Beginning o s).running
    ≡ runs_after d o s.running) (some_is _ c is) (next_same (begin_heard o s) ∙ begun_so (number_body s.round) o s)
runs_so Ending o s c is = rw (asks_end s.running c is) at (stepped_so o s)
