use Rattle.std.proofs.Common.{◌≡◌, ◌+◌, ◌-◌, ◌/◌, ◌∙◌, ℕ, sym, arith}
use Rattle.df_trailer.{specs.Rooms.{bits_in_words}, proofs.{References.{few_ones}, Spread.{rank_set, spread_first, spread_set, spread_unset}}}
use Rattle.df_trailer.proofs.parts.spread.Goals as goal

pub loop-place-init : goal.loop-place-init
loop-place-init c = spread_first (bits_in_words ((c.args.blocks + 7) / 8) c.args.bits.now)
    c.args.blocks c.args.checks.now c.count_set-rank.result c.requires.checks c.count_set-rank.ensures.value

pub overflow_sub-rank : goal.overflow_sub-rank
overflow_sub-rank c = let n : ℕ = (c.args.blocks + 7) / 8 in let x : ℕ = bits_in_words n c.args.bits.now in
    let p : ℕ = c.loop-place.place - 1 in let at : c.loop-place.place ≡ p + 1 = omega arith in let r = rank_set
    x p c.loop-place.rank (rw (sym at) c.loop-place.invariant.ranked) (sym (c.is_set.ensures n (omega arith)) ∙ c.if-is_set.true) in
    omega (arith, r)

-- the checksum that is moved stands among them
pub slice_copy_out-checks : goal.slice_copy_out-checks
slice_copy_out-checks c = let few = few_ones c.loop-place.place (bits_in_words ((c.args.blocks + 7) / 8) c.args.bits.now) in
    omega (arith, few, c.loop-place.invariant.ranked, c.loop-place.invariant.size)

pub offset_bounds-checks-rank : goal.offset_bounds-checks-rank
offset_bounds-checks-rank c = let few = few_ones c.loop-place.place (bits_in_words ((c.args.blocks + 7) / 8) c.args.bits.now) in
    omega (arith, few, c.loop-place.invariant.ranked)

pub loop-place-preserved-then-is_set : goal.loop-place-preserved-then-is_set
loop-place-preserved-then-is_set c = let n : ℕ = (c.args.blocks + 7) / 8 in let p : ℕ = c.loop-place.place - 1 in
    let at : c.loop-place.place ≡ p + 1 = omega arith in let r = rank_set (bits_in_words n c.args.bits.now)
    p c.loop-place.rank (rw (sym at) c.loop-place.invariant.ranked) (sym (c.is_set.ensures n (omega arith)) ∙ c.if-is_set.true) in
    spread_set (bits_in_words n c.args.bits.now) c.args.blocks
    c.args.checks.now c.loop-place.checks c.loop-place.rank c.loop-place.place (c.loop-place.place - 1) (c.loop-place.rank - 1)
    (omega arith) (omega (arith, r)) (omega arith) (sym (c.is_set.ensures n (omega arith)) ∙ c.if-is_set.true) c.loop-place.invariant

pub loop-place-preserved : goal.loop-place-preserved
loop-place-preserved c = let n : ℕ = (c.args.blocks + 7) / 8 in spread_unset (bits_in_words n c.args.bits.now)
    c.args.blocks c.args.checks.now c.loop-place.checks c.loop-place.rank c.loop-place.place (c.loop-place.place - 1)
    (omega arith) (omega arith) (sym (c.is_set.ensures n (omega arith)) ∙ c.if-is_set.false) c.loop-place.invariant
