-- The name that a line begins with: the line is its name, or its name with a space and further words after it.
use Rattle.std.proofs.{Common.{◌≡◌, ◌⊎◌, inl, inr, ℕ, List, ◌∷◌, ◌++◌, length, take, sym, ap, subst, ◌∙◌, arith, length-append}, lemmas.List.{take_all}}
use Rattle.df_lines.{specs.Words.{HasNoSpace, Cuts}, proofs.Cutting.{no_cut, one_cut, one_split}}

pub record Begun (line named : List ℕ) : Type 0 where
  pub rest : List ℕ
  pub is : (line ≡ named) ⊎ (line ≡ named ++ (32 ∷ rest))
  pub word : HasNoSpace named

-- a line of one word is its name
pub bare_name : (line named : List ℕ) → HasNoSpace line → Begun line named → line ≡ named
bare_name line named none b = elim b.is [ inl bare ↦ bare | inr worded ↦ absurd (no_cut line named b.rest none worded b.word) ]

-- a line that has a space isn't one without
pub cut_has_space : (line name words : List ℕ) → Cuts line name words → HasNoSpace line → ⊥
cut_has_space line name words cuts none =
    let all : name ≡ line = cuts.front ∙ ap (λ (n : ℕ). take n line) none ∙ take_all (length line) line (omega arith) in
    omega (arith, ap length cuts.whole, length-append name (32 ∷ words), ap length all)

-- what stands before the first space is the name
pub cut_name : (line name words named : List ℕ) → Cuts line name words → Begun line named → name ≡ named
cut_name line name words named cuts b = elim b.is [
  | inl bare ↦ absurd (cut_has_space line name words cuts (subst HasNoSpace (sym bare) b.word))
  | inr worded ↦ (one_cut line name words named b.rest cuts worded b.word).0
]

-- a line has one name
pub one_name : (line a b : List ℕ) → Begun line a → Begun line b → a ≡ b
one_name line a b x y = elim x.is [
  | inl bare ↦ sym bare ∙ bare_name line b (subst HasNoSpace (sym bare) x.word) y
  | inr worded ↦ elim y.is [
    | inl bare ↦ absurd (no_cut line a x.rest (subst HasNoSpace (sym bare) y.word) worded x.word)
    | inr words ↦ (one_split a x.rest b y.rest x.word y.word (sym worded ∙ words)).0
  ]
]
