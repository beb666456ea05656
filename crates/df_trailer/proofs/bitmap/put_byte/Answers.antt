use Rattle.std.{proofs.{Common.{◌%◌, ◌/◌, ◌<◌, ◌∙◌, ℕ, List, ap, arith, rules}, lemmas.List.{get_or-set_same}}, specs.Prelude.{slice_index}}
use Rattle.df_trailer.{specs.Rooms.{byte_of_word}, proofs.Words.{byte_elsewhere, byte_there, word_set}}
use Rattle.df_trailer.proofs.bitmap.put_byte.Goals as goal

pub returns-clause-here : goal.returns-clause-here
returns-clause-here c = let words : List ℕ = c.args.words.now in let place : ℕ = c.args.place in
    ap (λ (w : ℕ). byte_of_word w (place % 8)) (get_or-set_same words (place / 8) c.from_le_bytes.result 0 (omega arith))
    ∙ byte_there (slice_index words (place / 8)) (place % 8) c.args.byte c.from_le_bytes.result (omega arith)
    (omega (arith, c.ranges.byte.fits)) (search rules)

pub returns-clause-others : goal.returns-clause-others
returns-clause-others c = λ other within apart. let words : List ℕ = c.args.words.now in let place : ℕ = c.args.place in
    let word : ℕ = slice_index words (place / 8) in let fits : c.args.byte < 256 = omega (arith, c.ranges.byte.fits) in
    word_set words place c.from_le_bytes.result other (λ j less differs.
    byte_elsewhere word (place % 8) c.args.byte c.from_le_bytes.result j (omega arith) fits differs (search rules)) c.requires apart
