use Rattle.std.proofs.{Common.{◌≡◌, ◌-◌, ◌+◌, ◌*◌, ◌/◌, ◌^◌, ◌<◌, ◌∙◌, ℕ, List, length, sym, arith}, lemmas.Bool.{le-leb, lt-leb, eqb-true}}
use Rattle.df_trailer.{specs.{Rooms.{bits_in_words, byte_in_words}, Spelling.{listed}}, proofs.{OneBit.{clear_is_small, number_fits, set_is_large}, Blocks.{length_listed}, Words.{words_fit}}}
use Rattle.df_trailer.proofs.bitmap.has_unused.Goals as goal

pub returns-then-is_set : goal.returns-then-is_set
returns-then-is_set c = let n : ℕ = (c.args.blocks + 7) / 8 in let x : ℕ = bits_in_words n c.args.words.now in sym (le-leb _ _ (set_is_large
    x c.args.blocks c.loop-place.place (omega arith) (eqb-true _ 1 (sym (c.is_set.ensures n (omega arith)) ∙ c.if-is_set.true))))

pub returns : goal.returns
returns c = let n : ℕ = (c.args.blocks + 7) / 8 in let bs : List ℕ = listed (byte_in_words c.args.words.now) n in
    let x : ℕ = bits_in_words n c.args.words.now in let size : length bs ≡ n = length_listed (byte_in_words c.args.words.now) n in
    let all : 8 * length bs ≡ c.args.blocks + (8 * n - c.args.blocks) = omega arith in
    let small : x < 2 ^ (c.args.blocks + (8 * n - c.args.blocks)) = rw all at (number_fits bs (words_fit c.args.words.now n)) in
    sym (lt-leb _ _ (clear_is_small (8 * n - c.args.blocks) x c.args.blocks small (λ k h g. c.loop-place.invariant k h (omega arith))))
