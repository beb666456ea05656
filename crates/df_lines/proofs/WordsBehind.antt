-- The words after a line's name.
use Rattle.std.{proofs.Common.{◌≡◌, ℕ, ◌+◌, ◌^◌, ◌<◌, ◌≤◌, List, [], ◌∷◌, ◌++◌, sym, arith}, specs.Prelude.{decimal, codes}}
use Rattle.df_lines.{specs.{Grammar.{AreRequest, AreSized, IsBody, Append, Block, Checkpoint, Reply, SaysLine, Stage}, Words.{HasNoSpace, Cuts}}, proofs.Cutting.{decimal_no_space, no_cut, one_cut}}

pub same_rest : (front a b : List ℕ) → front ++ a ≡ front ++ b → a ≡ b
same_rest [] a b same = same
same_rest (x ∷ front) a b same = same_rest front a b (cc same)

-- a number that ends before a space
pub record NumberFirst (words : List ℕ) (n : ℕ) (rest : List ℕ) : Type 0 where
  pub is : words ≡ decimal n ++ (32 ∷ rest)
  pub wide : n < 2 ^ 128

pub number_word : (words before after : List ℕ) (n : ℕ) (rest : List ℕ)
    → NumberFirst words n rest → Cuts words before after → (before ≡ decimal n) × (after ≡ rest)
number_word words before after n rest first cuts = one_cut words before after (decimal n) rest cuts first.is (decimal_no_space n first.wide)

pub no_number : (words : List ℕ) (n : ℕ) (rest : List ℕ) → NumberFirst words n rest → HasNoSpace words → ⊥
no_number words n rest first none = no_cut words (decimal n) rest none first.is (decimal_no_space n first.wide)

-- ---- a number and a body, and a request

pub sized_first : (words : List ℕ) (most n : ℕ) (body : List ℕ)
    → most < 2 ^ 128 → (are : AreSized words most n body) → NumberFirst words n are.word
sized_first words most n body wide are = record { is = are.is; wide = omega (arith, are.fits.0) }

pub client_first : (words : List ℕ) (client request : ℕ) (body : List ℕ)
    → (are : AreRequest words client request body) → NumberFirst words client (decimal request ++ (32 ∷ are.word))
client_first words client request body are = record { is = are.is; wide = are.fits.0 }

pub request_next : (words before rest : List ℕ) (most client request : ℕ) (body : List ℕ)
    → 2 ^ 64 ≤ most + 1 → Cuts words before rest → AreRequest words client request body → AreSized rest most request body
request_next words before rest most client request body wide cuts are = record {
  word = are.word;
  is = (number_word words before rest client _ (client_first words client request body are) cuts).1;
  fits = (omega (arith, are.fits.1), are.fits.2);
}

-- ---- what lines that have a body ask for

pub appended : (words : List ℕ) (client request : ℕ) (body : List ℕ)
    → SaysLine (codes "append " ++ words) (Append client request body) → AreRequest words client request body
appended words client request body says = record { word = says.word; is = same_rest (codes "append ") words _ says.is; fits = says.fits }

pub staged : (words : List ℕ) (client request : ℕ) (body : List ℕ)
    → SaysLine (codes "stage " ++ words) (Stage client request body) → AreRequest words client request body
staged words client request body says = record { word = says.word; is = same_rest (codes "stage ") words _ says.is; fits = says.fits }

pub replied : (words : List ℕ) (most op : ℕ) (body : List ℕ)
    → 2 ^ 64 ≤ most + 1 → SaysLine (codes "reply " ++ words) (Reply op body) → AreSized words most op body
replied words most op body wide says =
    record { word = says.word; is = same_rest (codes "reply ") words _ says.is; fits = (omega (arith, says.fits.0), says.fits.1) }

pub blocked : (words : List ℕ) (most kind : ℕ) (body : List ℕ)
    → 2 ^ 8 ≤ most + 1 → SaysLine (codes "block " ++ words) (Block kind body) → AreSized words most kind body
blocked words most kind body wide says =
    record { word = says.word; is = same_rest (codes "block ") words _ says.is; fits = (omega (arith, says.fits.0), says.fits.1) }

pub rooted : (word body : List ℕ) → SaysLine (codes "checkpoint " ++ word) (Checkpoint body) → IsBody word body
rooted word body says = rw (sym (same_rest (codes "checkpoint ") word says.word says.is)) at says.fits
