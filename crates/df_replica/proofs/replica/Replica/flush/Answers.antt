-- Each flush is the machine's.
use Rattle.std.{proofs.Common.{◌≡◌, ◌<◌, ℕ, Bool, nat_lt, not, length, Some, None, ap, subst, arith, lt-ltb, Err, refl}, specs.Prelude.{if◌then◌else◌}}
use Rattle.df_model.specs.{Commands.{Flush}, Faults.{is_flush_fault}, Refusals.{first_refusal, flush_refusals}, declared.errors.FlushError.TheVariants.{NothingStaged}}
use Rattle.df_opening.specs.Below.{IsState, State, memory}
use Rattle.df_replica.{specs.{Answering.{answer_of, as_flush}, Flushing.{flush_events}}, proofs.{FlushAnswers.{count_serves, fault_serves, refusal_serves}, Owns.{all_own, part_own, refused_own}}}
use Rattle.df_replica.proofs.replica.Replica.flush.Goals as goal

none_staged : (s : State) → length s.staged ≡ 0 → first_refusal (flush_refusals (memory s)) ≡ Some NothingStaged
none_staged s none = ap (λ (n : ℕ). if not (nat_lt 0 n) then Some NothingStaged else None) none

some_staged : (s : State) → 0 < length s.staged → first_refusal (flush_refusals (memory s)) ≡ None
some_staged s some = ap (λ (b : Bool). if not b then Some NothingStaged else None) (lt-ltb 0 (length s.staged) some)

pub returns-then-count-eq0-clause-call : goal.returns-then-count-eq0-clause-call
returns-then-count-eq0-clause-call g c = let s = c.args.self.now in let is = subst IsState c.self.view_is c.self.invariant.state in
    let none : length s.staged ≡ 0 =
    omega (arith, c.if-count-eq0.true, c.len-count.ensures.count, ap (λ (x : State). length x.staged) c.self.view_is) in
    refusal_serves s is c.requires.live NothingStaged (none_staged s none) (g.D.Disk.told c.args.disk.now)

pub returns-in-Ok-clause-call : goal.returns-in-Ok-clause-call
returns-in-Ok-clause-call g c = let s = c.args.self.now in let is = subst IsState c.self.view_is c.self.invariant.state in
    let count : c.len-count.result ≡ length s.staged =
    omega (arith, c.len-count.ensures.count, ap (λ (x : State). length x.staged) c.self.view_is) in
    count_serves s is c.requires.live
    (some_staged s (omega (arith, count, c.if-count-eq0.false))) c.flush_next.ensures.held c.flush_next.new.self c.len-count.result
    (g.D.Disk.told c.args.disk.now) (g.D.Disk.told c.flush_next.new.disk) count c.in-Ok.ensures.state c.in-Ok.ensures.events

pub returns-in-Err-clause-call : goal.returns-in-Err-clause-call
returns-in-Err-clause-call g c = let s = c.args.self.now in let is = subst IsState c.self.view_is c.self.invariant.state in
    let count : c.len-count.result ≡ length s.staged =
    omega (arith, c.len-count.ensures.count, ap (λ (x : State). length x.staged) c.self.view_is) in
    fault_serves s is c.requires.live (some_staged s (omega (arith, count, c.if-count-eq0.false))) c.flush_next.ensures.held c.stop.new.self (g.D.Disk.told c.args.disk.now) (g.D.Disk.told c.flush_next.new.disk) (ap (λ (x : State). x.live) c.stop.ensures) c.in-Err.ensures.events

pub returns-then-count-eq0-clause-own : goal.returns-then-count-eq0-clause-own
returns-then-count-eq0-clause-own g c = let s = c.args.self.now in let none : length s.staged ≡ 0 =
    omega (arith, c.if-count-eq0.true, c.len-count.ensures.count, ap (λ (x : State). length x.staged) c.self.view_is) in
    refused_own Flush s (g.D.Disk.told c.args.disk.now) (answer_of is_flush_fault as_flush (Err NothingStaged))
    (flush_events s) (first_refusal (flush_refusals (memory s))) NothingStaged refl (none_staged s none)

pub returns-in-Ok-clause-own : goal.returns-in-Ok-clause-own
returns-in-Ok-clause-own g c = let s = c.args.self.now in let count : c.len-count.result ≡ length s.staged =
    omega (arith, c.len-count.ensures.count, ap (λ (x : State). length x.staged) c.self.view_is) in
    all_own (flush_events s) (g.D.Disk.told c.args.disk.now) (g.D.Disk.told c.flush_next.new.disk)
    (first_refusal (flush_refusals (memory s))) (some_staged s (omega (arith, count, c.if-count-eq0.false))) c.in-Ok.ensures.events

pub returns-in-Err-clause-own : goal.returns-in-Err-clause-own
returns-in-Err-clause-own g c = let s = c.args.self.now in let count : c.len-count.result ≡ length s.staged =
    omega (arith, c.len-count.ensures.count, ap (λ (x : State). length x.staged) c.self.view_is) in
    part_own (flush_events s) (g.D.Disk.told c.args.disk.now) (g.D.Disk.told c.flush_next.new.disk)
    (first_refusal (flush_refusals (memory s))) (some_staged s (omega (arith, count, c.if-count-eq0.false))) c.in-Err.ensures.events
