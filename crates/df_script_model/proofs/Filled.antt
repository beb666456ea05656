-- As many lines as the grid has blocks fill it from its first address on.
use Rattle.std.{proofs.{Common.{◌≡◌, ℕ, zero, suc, ◌+◌, ◌<◌, ◌≤◌, List, [], ◌∷◌, ◌++◌, false, if◌then◌else◌, codes, Some, None, Ok, refl, sym, ◌∙◌, ap, arith}, lemmas.Bool.Decides.{nat_tests}}, specs.Fmt.{digits}}
use Rattle.df_layout.specs.declared.damage.Class.TheVariants.{Blank}
use Rattle.df_theory.specs.{Units.{BlockPlace, BlockUnit, Place, Units, overlay, CopyPlace, HeaderPlace, PreparePlace, ReplyPlace}, Shape.{Shape}}
use Rattle.df_model.specs.{Work.{Work}, Memory.{memory_of}, Making.{block_of}, Commands.{Advance, Begin, Command, ToWriteBlock, WriteBlock}, Supply.{Codec, Shown, last_shown, last_work, next, nothing, shown_after}}
use Rattle.df_script_model.{specs.{Script.{answer_text, printed}, Sessions.{FillLaw, LongTrailer, blank, equal_blocks, file, first_work, is_among, plain, with_live_blocks, with_units, wrote_from}}, proofs.Fills.{line_is, puts_are, units_over}}

-- ---- lines after lines

-- what follows some lines is printed over what they leave
pub printed_after : (sh : Shape) (codec : Codec) (cs ds : List Command) (shown : Shown) (w : Work) → printed sh codec shown w (cs ++ ds)
    ≡ printed sh codec shown w cs ++ printed sh codec (last_shown sh codec shown w cs) (last_work sh codec shown w cs) ds
printed_after sh codec [] ds shown w = refl
printed_after sh codec (c ∷ cs) ds shown w = ap (λ (more : List (List ℕ)). answer_text c (next sh codec shown w c).1
    ∷ more) (printed_after sh codec cs ds (shown_after codec shown (memory_of sh codec.spell w) c) (next sh codec shown w c).0)

-- ---- the grid fills

abbrev shown_of : ℕ → Shown
shown_of n = record { units = with_units n; damage = λ place. Blank }

-- n lines more, from k live blocks on
record FillsOn (sh : Shape) (k n : ℕ) : Type 0 where
  pub prints : printed sh (plain sh) (shown_of k) (with_live_blocks sh k) (equal_blocks [] n) ≡ wrote_from (k + 1) n
  pub leads : last_work sh (plain sh) (shown_of k) (with_live_blocks sh k) (equal_blocks [] n) ≡ with_live_blocks sh (k + n)
  pub shows : last_shown sh (plain sh) (shown_of k) (with_live_blocks sh k) (equal_blocks [] n) ≡ shown_of (k + n)

-- what the first of them leaves to be read
shown_is : (sh : Shape) (k : ℕ) → k < sh.layout.blocks
    → shown_after (plain sh) (shown_of k) (memory_of sh (plain sh).spell (with_live_blocks sh k)) (WriteBlock 1 []) ≡ shown_of (k + 1)
shown_is sh k room = (λ i. record { units = overlay (puts_are sh k room i) (with_units k); damage = λ place. Blank })
    ∙ ap (λ (units : Units). record { units = units; damage = λ place. Blank }) (units_over k)

fill_on : (sh : Shape) (n k : ℕ) → k + n ≤ sh.layout.blocks → FillsOn sh k n
fill_on sh zero k fits = let count : k ≡ k + 0 = omega arith in
    record { prints = refl; leads = ap (with_live_blocks sh) count; shows = ap shown_of count }
fill_on sh (suc n) k fits = let more = fill_on sh n (k + 1) (omega (arith, fits)) in
    let room : k < sh.layout.blocks = omega (arith, fits) in let count : k + 1 + n ≡ k + suc n = omega arith in record {
      prints = (λ i. answer_text (WriteBlock 1 []) (line_is sh k room (shown_of k) i).1
          ∷ printed sh (plain sh) (shown_is sh k room i) (line_is sh k room (shown_of k) i).0 (equal_blocks [] n))
          ∙ ap (λ (texts : List (List ℕ)). answer_text (WriteBlock 1 []) (ToWriteBlock (Ok (k + 1, 3000))) ∷ texts) more.prints;
      leads = (λ i. last_work sh (plain sh) (shown_is sh k room i) (line_is sh k room (shown_of k) i).0 (equal_blocks [] n))
          ∙ more.leads ∙ ap (with_live_blocks sh) count;
      shows = (λ i. last_shown sh (plain sh) (shown_is sh k room i) (line_is sh k room (shown_of k) i).0 (equal_blocks [] n))
          ∙ more.shows ∙ ap shown_of count;
    }

none_among : (a : ℕ) → is_among 0 a ≡ false
none_among a = grind (arith, nat_tests)

first_is : (sh : Shape) → first_work sh ≡ with_live_blocks sh 0
first_is sh = λ i. record (first_work sh) { live = λ a. if sym (none_among a) i then Some 3000 else None }

nothing_at : (place : Place) → nothing place ≡ with_units 0 place
nothing_at (CopyPlace n) = refl
nothing_at (HeaderPlace n) = refl
nothing_at (PreparePlace n) = refl
nothing_at (ReplyPlace n) = refl
nothing_at (BlockPlace a) = λ i. if sym (none_among a) i then Some (BlockUnit (block_of 1 3000 1 [])) else None

blank_is : blank ≡ shown_of 0
blank_is = λ i. record { units = λ place. nothing_at place i; damage = λ place. Blank }

pub fill_law : FillLaw
fill_law sh n fits = let all = fill_on sh n 0 (omega (arith, fits)) in let count : 0 + n ≡ n = omega arith in record {
  prints = (λ i. printed sh (plain sh) (blank_is i) (first_is sh i) (equal_blocks [] n)) ∙ all.prints;
  leads = (λ i. last_work sh (plain sh) (blank_is i) (first_is sh i) (equal_blocks [] n)) ∙ all.leads ∙ ap (with_live_blocks sh) count;
  shows = (λ i. (last_shown sh (plain sh) (blank_is i) (first_is sh i) (equal_blocks [] n)).units)
      ∙ ap (λ (shown : Shown). shown.units) all.shows ∙ ap with_units count;
}

-- ---- a long trailer

-- what is printed after the lines that fill the grid so far
rest_is : (sh : Shape) (n : ℕ) (ds : List Command)
    → n ≤ sh.layout.blocks → printed sh (plain sh) blank (first_work sh) (equal_blocks [] n ++ ds) ≡ wrote_from 1 n
    ++ printed sh (plain sh) (last_shown sh (plain sh) blank (first_work sh) (equal_blocks [] n)) (with_live_blocks sh n) ds
rest_is sh n ds fits = let fill = fill_law sh n fits in printed_after sh (plain sh) (equal_blocks [] n) ds blank (first_work sh)
    ∙ (λ i. fill.prints i ++ printed sh (plain sh) (last_shown sh (plain sh) blank (first_work sh) (equal_blocks [] n)) (fill.leads i) ds)

one_block : (named : 0 < 7) (some : 0 < 16) (shown : Shown) → let sh = file 16 4096 1 4096 1024 named some in
    printed sh (plain sh) shown (with_live_blocks sh 231) (Begin [] ∷ []) ≡ codes "begun 1\n" ∷ []
unfolding digits
one_block named some shown = refl

two_blocks : (named : 0 < 7) (some : 0 < 16) (shown : Shown) → let sh = file 16 4096 1 4096 1024 named some in
    printed sh (plain sh) shown (with_live_blocks sh 232) (Begin [] ∷ Advance ∷ Advance ∷ Advance ∷ [])
    ≡ codes "begun 2\n" ∷ codes "working 2\n" ∷ codes "working 1\n" ∷ codes "done 2\n" ∷ []
unfolding digits
two_blocks named some shown = refl

pub long_trailer : LongTrailer
long_trailer named some = let sh = file 16 4096 1 4096 1024 named some in (
  rest_is sh 231 (Begin [] ∷ []) (omega arith) ∙ ap (λ (texts : List (List ℕ)).
      wrote_from 1 231 ++ texts) (one_block named some (last_shown sh (plain sh) blank (first_work sh) (equal_blocks [] 231))),
  rest_is sh 232 (Begin [] ∷ Advance ∷ Advance ∷ Advance ∷ []) (omega arith) ∙ ap (λ (texts : List (List ℕ)).
      wrote_from 1 232 ++ texts) (two_blocks named some (last_shown sh (plain sh) blank (first_work sh) (equal_blocks [] 232))),
)
