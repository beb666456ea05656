-- What isn't counted is free.
use Rattle.std.{proofs.Common.{◌≡◌, arith}, specs.Prelude.{count_ones, sum_by}}
use Rattle.df_freeset.proofs.{Counts.{none_free, all_taken}, Views.{free_left}}
use Rattle.df_freeset.proofs.set.FreeSet.free.Goals as goal

pub overflow_sub-result : goal.overflow_sub-result
overflow_sub-result c = let s = c.self.inside in
    let counted : c.ones_in.result ≡ sum_by count_ones s.words.items = rw c.deref.ensures.value at c.ones_in.ensures in
    omega (arith, counted, c.from.ensures, free_left s.words.items s.blocks c.args.self.now c.self.invariant.room c.self.view_is)

pub returns : goal.returns
returns c = let s = c.self.inside in let now = c.args.self.now in
    let counted : c.ones_in.result ≡ sum_by count_ones s.words.items = rw c.deref.ensures.value at c.ones_in.ensures in
    let left = free_left s.words.items s.blocks now c.self.invariant.room c.self.view_is in record {
      value = omega (arith, counted, c.from.ensures, left);
      none = (λ zero. none_free now (omega (arith, counted, c.from.ensures, left)), λ all. omega (arith, counted, c.from.ensures, left, all_taken now all));
    }
