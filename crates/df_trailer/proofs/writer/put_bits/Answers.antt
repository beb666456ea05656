use Rattle.std.proofs.{Common.{◌+◌, ◌/◌, ◌<◌, ◌≤◌, inl, inr, ◌∷◌, [], ◌++◌, ℕ, List, ap, sym, refl, ◌∙◌, arith, append_assoc, length-append}, lemmas.Bool.{cases_lt}}
use Rattle.df_base.{specs.Fields.{spelled}, proofs.Laws.{length-spelled}}
use Rattle.df_trailer.{specs.Writing.{captured_bits}, proofs.{BitBytes.{spelled_more}, Shown.{shown_all}, Skipped.{bytes_begun, bytes_shown}}}
use Rattle.df_trailer.proofs.writer.put_bits.Goals as goal

pub loop-number-init : goal.loop-number-init
loop-number-init g c = (
  refl,
  λ text size were. bytes_begun c.args.from c.args.start (captured_bits (g.G.CapturedBlocks.captured c.args.grid.now) c.args.blocks)
      c.saturating_sub-number.result c.args.room.now text size c.saturating_sub-number.ensures were,
)

pub loop-number-preserved : goal.loop-number-preserved
loop-number-preserved g c = let x : ℕ = captured_bits (g.G.CapturedBlocks.captured c.args.grid.now) c.args.blocks in
    let n : ℕ = c.loop-number.number in (
      c.put.ensures.length ∙ c.loop-number.invariant.0,
      λ text size were. shown_all c.args.from c.put.new.room ((text ++ spelled n x) ++ c.bits_byte-byte.result ∷ []) _
          (append_assoc text (spelled n x) (c.bits_byte-byte.result ∷ []) ∙ ap (λ (b : ℕ).
          text ++ (spelled n x ++ b ∷ [])) c.bits_byte-byte.ensures ∙ ap (λ (xs : List ℕ). text ++ xs) (sym (spelled_more n x)))
          (c.put.ensures.shown (text
          ++ spelled n x) (omega (arith, length-append text (spelled n x), length-spelled n x)) (c.loop-number.invariant.1 text size were)),
    )

-- no byte is put after the bits, unless the window begins after them
behind : (first last n size from start : ℕ)
    → (first ≤ last → n ≤ last) → last ≤ size → (last < first → start + size ≤ from) → size < n → start + size ≤ from
behind first last n size from start until most late past = elim (cases_lt last first) [
  | inl none ↦ late none
  | inr some ↦ absurd (omega (arith, until some))
]

pub returns-clause-shown : goal.returns-clause-shown
returns-clause-shown g c = λ text size were.
    bytes_shown c.args.from c.args.start (captured_bits (g.G.CapturedBlocks.captured c.args.grid.now) c.args.blocks)
    c.loop-number.number ((c.args.blocks + 7) / 8) c.loop-number.room text size (λ less. omega (arith, c.loop-number.invariant.0))
    (behind c.saturating_sub-number.result c.min-number-end.result c.loop-number.number
    ((c.args.blocks + 7) / 8) c.args.from c.args.start c.loop-number.auto.number-end (omega arith) (λ none. omega arith))
    (c.loop-number.invariant.1 text size were)
