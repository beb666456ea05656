-- The rounds of a generated run: where each of them goes on, point by point.
use Rattle.std.specs.Prelude.{ℕ, ◌+◌, ◌-◌, ◌%◌, ◌==◌, ◌||◌, Bool, false, nat_lt, min, if◌then◌else◌, [], length}
use Rattle.df_workload.specs.{Draw.{first_number, next_number}, declared.counts.Counts.{Counts}, declared.state.Point.{Point}}
use Rattle.df_workload.specs.{declared.state.Point.TheVariants.{Appending, Replying, Stepping, Writing, Releasing, Beginning, Ending}, declared.state.State.{State}}

abbrev pub at : Point → State → State
at point s = record s { point = point }

abbrev pub with_draw : State → State
with_draw s = record s { number = next_number s.number }

-- ---- round k, its points from the last to the first

-- the next round, or after the last one the end
abbrev pub to_append : State → State
to_append s = at Appending (with_draw s)

abbrev pub to_next : State → State
to_next s = if nat_lt s.round s.count then to_append (record s { round = s.round + 1 }) else at Ending s

-- 5. if k mod 16 is 0, a checkpoint is begun
abbrev pub to_begin : State → State
to_begin s = if s.round % 16 == 0 then at Beginning s else to_next s

-- 4. if k mod 4 is 0, a body is drawn and a block is written with it; if nine addresses are held then, the first is released
abbrev pub to_release : State → State
to_release s = if length s.held == 9 then at Releasing s else to_begin s

abbrev pub to_block : State → State
to_block s = if s.round % 4 == 0 then at Writing (with_draw s) else to_begin s

-- 3. if a checkpoint runs, one step
abbrev pub to_step : State → State
to_step s = if s.running then at Stepping s else to_block s

-- 2. if k mod c is 0 or k is the last, a reply to each op of the round and those before it that have none, from the first to k
abbrev pub is_replied_to : State → Bool
is_replied_to s = (s.round % s.clients == 0) || (s.round == s.count)

abbrev pub first_op : State → ℕ
first_op s = s.round - (s.round - 1) % s.clients

abbrev pub to_replies : State → State
to_replies s = if is_replied_to s then at (Replying (first_op s)) s else to_step s

abbrev pub after_reply : (op : ℕ) → State → State
after_reply op s = if nat_lt op s.round then at (Replying (op + 1)) s else to_step s

-- ---- the start: round 1 of this many, for the lesser of 4 and this many clients, with nothing held and no checkpoint

abbrev pub no_counts : Counts
no_counts = record { appended = 0; replied = 0; wrote = 0; released = 0; checkpoints = 0; refused = 0; bytes = 0 }

abbrev pub start : (seed count clients : ℕ) → State
start seed count clients = to_append (record {
  number = first_number seed;
  count = count;
  clients = min 4 clients;
  round = 1;
  point = Appending;
  held = [];
  running = false;
  counts = no_counts;
})
