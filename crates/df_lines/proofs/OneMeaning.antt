-- A line says one thing, a text has one list of lines, and one script.
use Rattle.std.{proofs.Common.{◌≡◌, ◌⊎◌, ℕ, ◌-◌, ◌^◌, ◌<◌, inl, inr, List, [], ◌∷◌, ◌++◌, refl, sym, ap, subst, ◌∙◌, arith}, specs.Prelude.{decimal, codes, Ok}}
use Rattle.hex.specs.Hex.{decode_of}
use Rattle.df_lines.{specs.{Grammar.{AreRequest, IsBody, Said, spaced, Append, Stage, Flush, Reply, Block, Release, Checkpoint, Step, Prepare, Lookup, Read, Scrub, Recent, SaysLine}, Laws.{OneLineMeaning, OneListOfLines, OneScript, WholeScript}, Script.{BeginsWithLines, IsLine, IsRefused}, Text.{line_of, after_line, taken}}, proofs.{Cutting.{decimal_no_space, one_split}, Decimals.{one_number}, WordsBehind.{appended, same_rest, staged}, Meanings.{begun, name_of, first_of, second_of, body_of, line_named, is_named, nothing_said}, Naming.{one_name}}}

dash_is_no_hex : (bytes : List ℕ) → decode_of (codes "-") ≡ Ok bytes → ⊥
dash_is_no_hex bytes is = cc is

one_body : (word a b : List ℕ) → IsBody word a → IsBody word b → a ≡ b
one_body word a b (inl x) (inl y) = x.1 ∙ sym y.1
one_body word a b (inl x) (inr y) = absurd (dash_is_no_hex b (ap decode_of (sym x.0) ∙ y.1))
one_body word a b (inr x) (inl y) = absurd (dash_is_no_hex a (ap decode_of (sym y.0) ∙ x.1))
one_body word a b (inr x) (inr y) = let same : ◌≡◌ {A = _} (Ok a) (Ok b) = sym x.1 ∙ y.1 in cc

-- a number and what stands after its space
number_split : (m n : ℕ) (a b : List ℕ) → m < 2 ^ 128 → n < 2 ^ 128 → decimal m ++ (32 ∷ a) ≡ decimal n ++ (32 ∷ b) → (m ≡ n) × (a ≡ b)
number_split m n a b m_fits n_fits same =
    let parts = one_split (decimal m) a (decimal n) b (decimal_no_space m m_fits) (decimal_no_space n n_fits) same in
    (one_number m n m_fits n_fits parts.0, parts.1)

body_split : (one other a b : List ℕ) → one ≡ other → IsBody one a → IsBody other b → a ≡ b
body_split one other a b same x y = one_body one a b x (rw (sym same) at y)

same_asked : (make : ℕ → ℕ → List ℕ → Said) (c d r s : ℕ) (x y : List ℕ) → c ≡ d → r ≡ s → x ≡ y → make c r x ≡ make d s y
same_asked make c d r s x y client request body = cc

same_sized : (make : ℕ → List ℕ → Said) (m n : ℕ) (x y : List ℕ) → m ≡ n → x ≡ y → make m x ≡ make n y
same_sized make m n x y number body = cc

-- the number of a line that has nothing else, and the number and the body of a line
pub one_word : (front : List ℕ) (m n : ℕ) (line : List ℕ)
    → line ≡ front ++ decimal m → line ≡ front ++ decimal n → m < 2 ^ 128 → n < 2 ^ 128 → m ≡ n
one_word front m n line one other fits fits' = one_number m n fits fits' (same_rest front (decimal m) (decimal n) (sym one ∙ other))

pub two_words : (front : List ℕ) (m n : ℕ) (line a b x y : List ℕ) → line ≡ front ++ (decimal m ++ (32 ∷ a))
    → line ≡ front ++ (decimal n ++ (32 ∷ b)) → m < 2 ^ 128 → n < 2 ^ 128 → IsBody a x → IsBody b y → (m ≡ n) × (x ≡ y)
two_words front m n line a b x y one other fits fits' body body' =
    let parts = number_split m n a b fits fits' (same_rest front (decimal m ++ (32 ∷ a)) (decimal n ++ (32 ∷ b)) (sym one ∙ other)) in
    (parts.0, body_split a b x y parts.1 body body')

one_request : (words : List ℕ) (c r d s : ℕ) (x y : List ℕ) → AreRequest words c r x → AreRequest words d s y → (c ≡ d) × (r ≡ s) × (x ≡ y)
one_request words c r d s x y one other = let first =
    number_split c d (decimal r ++ (32 ∷ one.word)) (decimal s ++ (32 ∷ other.word)) one.fits.0 other.fits.0 (sym one.is ∙ other.is) in
    let second = number_split r s one.word other.word (omega (arith, one.fits.1)) (omega (arith, other.fits.1)) first.1 in
    (first.0, second.0, body_split one.word other.word x y second.1 one.fits.2 other.fits.2)

-- two lines of one name say the same
one_of_name : (line : List ℕ) (one : Said) (first second : ℕ) (body : List ℕ)
    → SaysLine line one → SaysLine line (line_named (name_of one) first second body) → one ≡ line_named (name_of one) first second body
one_of_name line (Append c r x) m s y one other = let words = spaced (decimal c ∷ decimal r ∷ one.word ∷ []) in
    let parts = one_request words c r m s x y (appended words c r x (rw one.is at one)) (appended words m s y (rw one.is at other)) in
    same_asked Append c m r s x y parts.0 parts.1 parts.2
one_of_name line (Stage c r x) m s y one other = let words = spaced (decimal c ∷ decimal r ∷ one.word ∷ []) in
    let parts = one_request words c r m s x y (staged words c r x (rw one.is at one)) (staged words m s y (rw one.is at other)) in
    same_asked Stage c m r s x y parts.0 parts.1 parts.2
one_of_name line Flush m s y one other = refl
one_of_name line (Reply n x) m s y one other = let parts = two_words (codes "reply ")
    n m line one.word other.word x y one.is other.is (omega (arith, one.fits.0)) (omega (arith, other.fits.0)) one.fits.1 other.fits.1 in
    same_sized Reply n m x y parts.0 parts.1
one_of_name line (Block n x) m s y one other = let parts = two_words (codes "block ")
    n m line one.word other.word x y one.is other.is (omega (arith, one.fits.0)) (omega (arith, other.fits.0)) one.fits.1 other.fits.1 in
    same_sized Block n m x y parts.0 parts.1
one_of_name line (Release n) m s y one other =
    ap Release (one_word (codes "release ") n m line one.is other.is (omega (arith, one.fits)) (omega (arith, other.fits)))
one_of_name line (Checkpoint x) m s y one other = ap Checkpoint
    (body_split one.word other.word x y (same_rest (codes "checkpoint ") one.word other.word (sym one.is ∙ other.is)) one.fits other.fits)
one_of_name line Step m s y one other = refl
one_of_name line Scrub m s y one other = refl
one_of_name line Recent m s y one other = refl
one_of_name line (Prepare n) m s y one other =
    ap Prepare (one_word (codes "prepare ") n m line one.is other.is (omega (arith, one.fits)) (omega (arith, other.fits)))
one_of_name line (Lookup n) m s y one other = ap Lookup (one_word (codes "lookup ") n m line one.is other.is one.fits other.fits)
one_of_name line (Read n) m s y one other =
    ap Read (one_word (codes "read ") n m line one.is other.is (omega (arith, one.fits)) (omega (arith, other.fits)))

pub one_said : OneLineMeaning
one_said line one other says says' =
    let named = is_named other (name_of one) (one_name line (name_of one) (name_of other) (begun line one says) (begun line other says')) in
    one_of_name line one (first_of other) (second_of other) (body_of other) says (subst (SaysLine line) named says') ∙ sym named

-- ---- texts

same_lists : (a b : Said) (one other : List Said) → a ≡ b → one ≡ other → a ∷ one ≡ b ∷ other
same_lists a b one other same more = cc

pub one_text : OneListOfLines
one_text text [] [] one other = refl
one_text text [] (b ∷ other) one lines = absurd (lines.0 one)
one_text text (a ∷ one) [] lines other = absurd (lines.0 other)
one_text text (a ∷ one) (b ∷ other) lines others =
    same_lists a b one other (one_said (line_of text) a b lines.1 others.1) (one_text (after_line text) one other lines.2 others.2)

-- a line isn't refused, and doesn't stand in an empty text
pub no_line : (bound budget left : ℕ) (text rest : List ℕ) (said : Said)
    → IsLine bound budget text said → left ≡ budget → rest ≡ text → (rest ≡ []) ⊎ IsRefused bound left rest → ⊥
no_line bound budget left text rest said line same_left same_rest (inl none) = nothing_said said (rw (sym same_rest ∙ none) at line.says)
no_line bound budget left text rest said line same_left same_rest (inr refused) =
    refused.none said (rw (sym same_left) at (rw (sym same_rest) at line))

-- how much a text leaves after its lines is one
pub begins_one : (bound budget : ℕ) (text : List ℕ) (says : List Said) (left other : ℕ) (rest more : List ℕ)
    → BeginsWithLines bound budget text says left rest → BeginsWithLines bound budget text says other more → rest ≡ more
begins_one bound budget text [] left other rest more one two = one.1 ∙ sym two.1
begins_one bound budget text (said ∷ says) left other rest more one two =
    begins_one bound (budget - taken text) (after_line text) says left other rest more one.1 two.1

same_script : (bound budget : ℕ) (text : List ℕ) (one other : List Said) (left left' : ℕ) (rest rest' : List ℕ)
    → BeginsWithLines bound budget text one left rest → BeginsWithLines bound budget text other left' rest'
    → (rest ≡ []) ⊎ IsRefused bound left rest → (rest' ≡ []) ⊎ IsRefused bound left' rest' → one ≡ other
same_script bound budget text [] [] left left' rest rest' first second ends ends' = refl
same_script bound budget text [] (b ∷ other) left left' rest rest' first second ends ends' =
    absurd (no_line bound budget left text rest b second.0 first.0 first.1 ends)
same_script bound budget text (a ∷ one) [] left left' rest rest' first second ends ends' =
    absurd (no_line bound budget left' text rest' a first.0 second.0 second.1 ends')
same_script bound budget text (a ∷ one) (b ∷ other) left left' rest rest' first second ends ends' =
    same_lists a b one other (one_said (line_of text) a b first.0.says second.0.says)
    (same_script bound (budget - taken text) (after_line text) one other left left' rest rest' first.1 second.1 ends ends')

pub one_script : OneScript
one_script bound budget text one other first second =
    same_script bound budget text one other first.left second.left first.rest second.rest first.begins second.begins first.ends second.ends

pub whole_script : WholeScript
whole_script bound budget text [] left begins = sym begins.1
whole_script bound budget text (said ∷ more) left begins = (
  λ none. nothing_said said (rw none at begins.0.says),
  begins.0.says,
  whole_script bound (budget - taken text) (after_line text) more left begins.1,
)
