-- What a line of a table's script says, from its words.
use Rattle.std.{proofs.Common.{◌≡◌, inl, inr, ℕ, ◌+◌, ◌^◌, ◌≤◌, if◌then◌else◌, List, [], ◌∷◌, ◌++◌, refl, sym, ap, subst, ◌∙◌, arith}, specs.{Prelude.{codes}, Str.{bytes_eq}}}
use Rattle.df_lines.{specs.{Grammar.{AreSized}, Words.{Cuts}}, proofs.Laws.{Begun, cut_name, one_name, one_word, same_rest, two_words}}
use Rattle.df_rows.specs.{Grammar.{Said, Put, Drop, Get, Count, SaysTableLine}, Laws.{OneTableLineMeaning}}

-- ---- the first word

abbrev pub name_of : Said → List ℕ
name_of (Put key value) = codes "put"
name_of (Drop key) = codes "drop"
name_of (Get key) = codes "get"
name_of Count = codes "count"

abbrev pub key_of : Said → ℕ
key_of (Put key value) = key
key_of (Drop key) = key
key_of (Get key) = key
key_of Count = 0

abbrev pub value_of : Said → List ℕ
value_of (Put key value) = value
value_of said = []

-- the line of this name with this key and this value
abbrev pub line_named : List ℕ → ℕ → List ℕ → Said
line_named name key value = if bytes_eq name (codes "put") then Put key value else if bytes_eq name (codes "drop") then Drop key
    else if bytes_eq name (codes "get") then Get key else Count

is_named : (said : Said) (name : List ℕ) → name ≡ name_of said → said ≡ line_named name (key_of said) (value_of said)
is_named (Put key value) name is = rw is refl
is_named (Drop key) name is = rw is refl
is_named (Get key) name is = rw is refl
is_named Count name is = rw is refl

begun : (line : List ℕ) (said : Said) → SaysTableLine line said → Begun line (name_of said)
begun line (Put key value) says = record { rest = _; is = inr says.is; word = refl }
begun line (Drop key) says = record { rest = _; is = inr says.is; word = refl }
begun line (Get key) says = record { rest = _; is = inr says.is; word = refl }
begun line Count says = record { rest = []; is = inl says.is; word = refl }

-- a line of this name is the one that the name stands for
pub only : (line name words known : List ℕ) → Cuts line name words → name ≡ known → ((key : ℕ) (value : List ℕ)
    → SaysTableLine (known ++ (32 ∷ words)) (line_named known key value) → ⊥) → (said : Said) → SaysTableLine line said → ⊥
only line name words known cuts is none said says =
    let same = is_named said known (sym is ∙ cut_name line name words (name_of said) cuts (begun line said says)) in
    let whole : line ≡ known ++ (32 ∷ words) = cuts.whole ∙ ap (λ (l : List ℕ). l ++ (32 ∷ words)) is in
    none (key_of said) (value_of said) (rw same at (rw whole at says))

-- what a put says of the words after its name
pub putting : (words : List ℕ) (most key : ℕ) (value : List ℕ)
    → 2 ^ 128 ≤ most + 1 → SaysTableLine (codes "put " ++ words) (Put key value) → AreSized words most key value
putting words most key value wide says =
    record { word = says.word; is = same_rest (codes "put ") words _ says.is; fits = (omega (arith, says.fits.0), says.fits.1) }

-- ---- a line says one thing

same_put : (k l : ℕ) (x y : List ℕ) → k ≡ l → x ≡ y → Put k x ≡ Put l y
same_put k l x y keys values = cc

one_of_name : (line : List ℕ) (one : Said) (key : ℕ) (value : List ℕ)
    → SaysTableLine line one → SaysTableLine line (line_named (name_of one) key value) → one ≡ line_named (name_of one) key value
one_of_name line (Put k x) l y one other =
    let parts = two_words (codes "put ") k l line one.word other.word x y one.is other.is one.fits.0 other.fits.0 one.fits.1 other.fits.1 in
    same_put k l x y parts.0 parts.1
one_of_name line (Drop k) l y one other = ap Drop (one_word (codes "drop ") k l line one.is other.is one.fits other.fits)
one_of_name line (Get k) l y one other = ap Get (one_word (codes "get ") k l line one.is other.is one.fits other.fits)
one_of_name line Count l y one other = refl

pub one_said : OneTableLineMeaning
one_said line one other says says' =
    let named = is_named other (name_of one) (one_name line (name_of one) (name_of other) (begun line one says) (begun line other says')) in
    one_of_name line one (key_of other) (value_of other) says (subst (SaysTableLine line) named says') ∙ sym named
