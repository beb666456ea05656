-- A kind has one code, and a code one kind; and what equal options hold.
use Rattle.std.proofs.{Common.{◌≡◌, ◌==◌, ℕ, Bool, true, false, Option, Some, None, cond, refl, ◌∙◌, ap}, lemmas.Bool.{eqb-true}, lemmas.Option.{same_Some}}
use Rattle.df_format.specs.{declared.kind.Kind.{Kind}, declared.kind.Kind.TheVariants.{Reserved, Prepare, Reply, Block, Trailer}, Spelling.{code_of}, Reading.{kind_of}}

pub kind_of-code : (kind : Kind) → kind_of (code_of kind) ≡ Some kind
unfolding kind_of
kind_of-code Reserved = refl
kind_of-code _ = refl

-- one test of a code: it has passed, or a later one
code_by : (code : ℕ) (b : Bool) (first kind : Kind) (o : Option Kind)
    → (code == code_of first) ≡ b → cond b (Some first) o ≡ Some kind → (o ≡ Some kind → code ≡ code_of kind) → code ≡ code_of kind
code_by code true first kind o is found later = eqb-true _ _ is ∙ ap code_of (same_Some _ _ found)
code_by code false first kind o is found later = later found

pub code_of-kind : (code : ℕ) (kind : Kind) → kind_of code ≡ Some kind → code ≡ code_of kind
unfolding kind_of
code_of-kind code kind is = let of_trailer = λ (found : cond (code == 5) (Some Trailer) None ≡ Some kind).
    code_by code (code == 5) Trailer kind None refl found (λ none. absurd (cc)) in
    let of_block = λ (found : cond (code == 4) (Some Block) (cond (code == 5) (Some Trailer) None) ≡ Some kind).
    code_by code (code == 4) Block kind _ refl found of_trailer in let of_reply = λ (found : cond (code == 3) (Some Reply) (cond (code == 4)
    (Some Block) (cond (code == 5) (Some Trailer) None)) ≡ Some kind). code_by code (code == 3) Reply kind _ refl found of_block in
    code_by code (code == 1) Reserved kind _ refl is (λ found. code_by code (code == 2) Prepare kind _ refl found of_reply)
