-- Five numbers with commas between them, read from the front.
use Rattle.std.{proofs.{Common.{◌≡◌, ◌≢◌, ℕ, false, true, ◌^◌, ◌<◌, List, [], ◌∷◌, ◌++◌, ◌↔◌, length, get_or, refl, sym, ◌∙◌, arith}, lemmas.Str.Parse.{digit_from_value, digit_at}, lemmas.Fmt.{decimal_is_IsNumeral, decimal_injective}}, specs.{Prelude.{decimal, Option, IfSome, IfNone, Result, Ok, Err, IsOk, IfOk}, Result.{result_ok}, Str.Parse.{AllDigits}}}
use Rattle.df_layout.specs.{declared.layout.Layout.{Layout}, declared.fields.Field.{Field}, Limits.{AreWithinLimits}}
use Rattle.df_program.specs.Names.{numbers_of}

are_digits : (n : ℕ) → n < 2 ^ 32 → AllDigits 10 (decimal n)
are_digits n fits = (decimal_is_IsNumeral n (omega arith)).0.1

pub no_comma : (n : ℕ) → n < 2 ^ 32 → (i : ℕ) → i < length (decimal n) → get_or (decimal n) i 0 ≢ 44
no_comma n fits i within = let range = digit_at (decimal n) i (are_digits n fits) within in λ is. omega (arith, range.0, is)

-- a text has one first comma
one_comma : (xs a ys b : List ℕ) → AllDigits 10 xs → AllDigits 10 ys → xs ++ (44 ∷ a) ≡ ys ++ (44 ∷ b) → (xs ≡ ys) × (a ≡ b)
one_comma [] a [] b one other same = (refl, cc same)
one_comma [] a (y ∷ ys) b one other same = let head : 44 ≡ y = cc same in absurd (omega (arith, (digit_from_value y other.0).0, head))
one_comma (x ∷ xs) a [] b one other same = let head : x ≡ 44 = cc same in absurd (omega (arith, (digit_from_value x one.0).0, head))
one_comma (x ∷ xs) a (y ∷ ys) b one other same = let head : x ≡ y = cc same in let tail : xs ++ (44 ∷ a) ≡ ys ++ (44 ∷ b) = cc same in
    let rest = one_comma xs a ys b one.1 other.1 tail in (let parts = rest.0 in cc (head, parts), rest.1)

-- a text has one number before its first comma
pub behind : (text rest more : List ℕ) (m n : ℕ)
    → m < 2 ^ 32 → n < 2 ^ 32 → text ≡ decimal m ++ (44 ∷ rest) → text ≡ decimal n ++ (44 ∷ more) → (m ≡ n) × (rest ≡ more)
behind text rest more m n m_fits n_fits one other =
    let parts = one_comma (decimal m) rest (decimal n) more (are_digits m m_fits) (are_digits n n_fits) (sym one ∙ other) in
    (decimal_injective m n (omega arith) (omega arith) parts.0, parts.1)

-- ---- what is left of a layout's numbers after each comma

abbrev pub from_blocks : Layout → List ℕ
from_blocks l = decimal l.blocks

abbrev pub from_block_size : Layout → List ℕ
from_block_size l = decimal l.block_size ++ (44 ∷ from_blocks l)

abbrev pub from_clients : Layout → List ℕ
from_clients l = decimal l.clients ++ (44 ∷ from_block_size l)

abbrev pub from_message_size : Layout → List ℕ
from_message_size l = decimal l.message_size ++ (44 ∷ from_clients l)

-- the numbers of a layout are below 2^32
pub record Fit (l : Layout) : Type 0 where
  pub slots : l.slots < 2 ^ 32
  pub message_size : l.message_size < 2 ^ 32
  pub clients : l.clients < 2 ^ 32
  pub block_size : l.block_size < 2 ^ 32
  pub blocks : l.blocks < 2 ^ 32

pub fit : (l : Layout) → Fit l
fit l = record {
  slots = omega (arith, l.slots_within.1);
  message_size = omega (arith, l.message_size_within.1);
  clients = omega (arith, l.clients_within.1);
  block_size = omega (arith, l.block_size_within.1);
  blocks = omega (arith, l.blocks_within.1);
}

-- the text begins with this number and a comma, and this is after it
pub record Cuts (text : List ℕ) (n : ℕ) (rest : List ℕ) : Type 0 where
  pub is : text ≡ decimal n ++ (44 ∷ rest)
  pub fits : n < 2 ^ 32

pub past_slots : (text rest : List ℕ) (n : ℕ) (l : Layout)
    → Cuts text n rest → text ≡ numbers_of l → (n ≡ l.slots) × (rest ≡ from_message_size l)
unfolding numbers_of
past_slots text rest n l cuts is = behind text rest (from_message_size l) n l.slots cuts.fits (fit l).slots cuts.is is

pub past_message_size : (text rest : List ℕ) (n : ℕ) (l : Layout)
    → Cuts text n rest → text ≡ from_message_size l → (n ≡ l.message_size) × (rest ≡ from_clients l)
past_message_size text rest n l cuts is = behind text rest (from_clients l) n l.message_size cuts.fits (fit l).message_size cuts.is is

pub past_clients : (text rest : List ℕ) (n : ℕ) (l : Layout)
    → Cuts text n rest → text ≡ from_clients l → (n ≡ l.clients) × (rest ≡ from_block_size l)
past_clients text rest n l cuts is = behind text rest (from_block_size l) n l.clients cuts.fits (fit l).clients cuts.is is

pub past_block_size : (text rest : List ℕ) (n : ℕ) (l : Layout)
    → Cuts text n rest → text ≡ from_block_size l → (n ≡ l.block_size) × (rest ≡ from_blocks l)
past_block_size text rest n l cuts is = behind text rest (from_blocks l) n l.block_size cuts.fits (fit l).block_size cuts.is is

-- ---- a text in which a number is missing is no layout's

-- the text isn't what is left of a layout's numbers from one of them on
abbrev pub IsNone : (from : Layout → List ℕ) → List ℕ → Type 0
IsNone from text = (l : Layout) → text ≡ from l → ⊥

-- no number stands before a comma
abbrev pub NoNumber : List ℕ → Type 0
NoNumber text = (n : ℕ) (rest : List ℕ) → n < 2 ^ 32 → text ≡ decimal n ++ (44 ∷ rest) → ⊥

pub no_slots : (text : List ℕ) → NoNumber text → IsNone numbers_of text
unfolding numbers_of
no_slots text none l is = none l.slots (from_message_size l) (fit l).slots is

pub no_message_size : (text : List ℕ) → NoNumber text → IsNone from_message_size text
no_message_size text none l is = none l.message_size (from_clients l) (fit l).message_size is

pub no_clients : (text : List ℕ) → NoNumber text → IsNone from_clients text
no_clients text none l is = none l.clients (from_block_size l) (fit l).clients is

pub no_block_size : (text : List ℕ) → NoNumber text → IsNone from_block_size text
no_block_size text none l is = none l.block_size (from_blocks l) (fit l).block_size is

pub no_blocks : (text word : List ℕ) → ((n : ℕ) → n < 2 ^ 32 → word ≡ decimal n → ⊥) → word ≡ text → IsNone from_blocks text
no_blocks text word none is l blocks = none l.blocks (fit l).blocks (is ∙ blocks)

-- nor is one whose rest isn't
pub behind_slots : (text rest : List ℕ) (n : ℕ) → Cuts text n rest → IsNone from_message_size rest → IsNone numbers_of text
behind_slots text rest n cuts none l is = none l (past_slots text rest n l cuts is).1

pub behind_message_size : (text rest : List ℕ) (n : ℕ) → Cuts text n rest → IsNone from_clients rest → IsNone from_message_size text
behind_message_size text rest n cuts none l is = none l (past_message_size text rest n l cuts is).1

pub behind_clients : (text rest : List ℕ) (n : ℕ) → Cuts text n rest → IsNone from_block_size rest → IsNone from_clients text
behind_clients text rest n cuts none l is = none l (past_clients text rest n l cuts is).1

pub behind_block_size : (text rest : List ℕ) (n : ℕ) → Cuts text n rest → IsNone from_blocks rest → IsNone from_block_size text
behind_block_size text rest n cuts none l is = none l (past_block_size text rest n l cuts is).1

-- The text was cut at four commas, and the last number ends it.
pub record Five (text : List ℕ) (a b c d e : ℕ) : Type 0 where
  pub behind_a : List ℕ
  pub behind_b : List ℕ
  pub behind_c : List ℕ
  pub behind_d : List ℕ
  pub cuts_a : Cuts text a behind_a
  pub cuts_b : Cuts behind_a b behind_b
  pub cuts_c : Cuts behind_b c behind_c
  pub cuts_d : Cuts behind_c d behind_d
  pub last : behind_d ≡ decimal e
  pub last_fits : e < 2 ^ 32

pub five : (text p q r s word : List ℕ) (a b c d e : ℕ)
    → Cuts text a p → Cuts p b q → Cuts q c r → Cuts r d s → word ≡ s → word ≡ decimal e → e < 2 ^ 32 → Five text a b c d e
five text p q r s word a b c d e cuts_a cuts_b cuts_c cuts_d is last fits = record {
  behind_a = p;
  behind_b = q;
  behind_c = r;
  behind_d = s;
  cuts_a = cuts_a;
  cuts_b = cuts_b;
  cuts_c = cuts_c;
  cuts_d = cuts_d;
  last = sym is ∙ last;
  last_fits = fits;
}

-- a text has five numbers in one way
pub record Same (l : Layout) (a b c d e : ℕ) : Type 0 where
  pub slots : a ≡ l.slots
  pub message_size : b ≡ l.message_size
  pub clients : c ≡ l.clients
  pub block_size : d ≡ l.block_size
  pub blocks : e ≡ l.blocks

pub one_five : (text : List ℕ) (a b c d e : ℕ) (l : Layout) → Five text a b c d e → text ≡ numbers_of l → Same l a b c d e
one_five text a b c d e l five is = let first = past_slots text five.behind_a a l five.cuts_a is in
    let second = past_message_size five.behind_a five.behind_b b l five.cuts_b first.1 in
    let third = past_clients five.behind_b five.behind_c c l five.cuts_c second.1 in
    let fourth = past_block_size five.behind_c five.behind_d d l five.cuts_d third.1 in record {
      slots = first.0;
      message_size = second.0;
      clients = third.0;
      block_size = fourth.0;
      blocks = decimal_injective e l.blocks (omega (arith, five.last_fits)) (omega (arith, (fit l).blocks)) (sym five.last ∙ fourth.1);
    }

pub are_five : (text : List ℕ) (a b c d e : ℕ) (l : Layout) → Five text a b c d e → Same l a b c d e → text ≡ numbers_of l
unfolding numbers_of
are_five text a b c d e l five same = let a_is = five.cuts_a.is in let b_is = five.cuts_b.is in let c_is = five.cuts_c.is in
    let d_is = five.cuts_d.is in
    rw (a_is, b_is, c_is, d_is, five.last, same.slots, same.message_size, same.clients, same.block_size, same.blocks) refl

-- a layout's numbers are within their limits
pub within : (l : Layout) (a b c d e : ℕ) → Same l a b c d e → AreWithinLimits a b c d e
within l a b c d e same = rw (same.slots, same.message_size, same.clients, same.block_size, same.blocks) (record {
  slots_within = l.slots_within;
  message_size_within = l.message_size_within;
  clients_within = l.clients_within;
  block_size_within = l.block_size_within;
  blocks_within = l.blocks_within;
})

-- the layout that is made of five numbers has them
pub made : (text : List ℕ) (a b c d e : ℕ) (r : Result Layout Field) (o : Option Layout) → Five text a b c d e → o ≡ result_ok r
    → IfOk r (λ l. l.slots ≡ a)
    → IfOk r (λ l. l.message_size ≡ b) → IfOk r (λ l. l.clients ≡ c) → IfOk r (λ l. l.block_size ≡ d) → IfOk r (λ l. l.blocks ≡ e)
    → IfSome o (λ l. text ≡ numbers_of l)
made text a b c d e (Ok l) o five is slots message_size clients block_size blocks =
    let same : Same l a b c d e = record { slots = sym slots; message_size = sym message_size; clients = sym clients; block_size = sym block_size; blocks = sym blocks } in
    rw is (are_five text a b c d e l five same)
made text a b c d e (Err f) o five is slots message_size clients block_size blocks = rw is tt

-- where none is made there is none
pub unmade : (text : List ℕ) (a b c d e : ℕ) (r : Result Layout Field) (o : Option Layout) → Five text a b c d e → o ≡ result_ok r
    → IsOk r ↔ AreWithinLimits a b c d e → IfNone o ((l : Layout) → text ≡ numbers_of l → ⊥)
unmade text a b c d e (Ok l) o five is decides = rw is tt
unmade text a b c d e (Err f) o five is decides =
    rw is (λ l spelled. absurd (let clash : false ≡ true = decides.1 (within l a b c d e (one_five text a b c d e l five spelled)) in cc))
