-- Lines of a word and a number, put one after the other.
use Rattle.std.proofs.Common.{◌≡◌, ℕ, List, [], ◌∷◌, ◌++◌, codes, decimal, ap, sym, ◌∙◌, append_assoc}
use Rattle.df_layout.specs.declared.{layout.Layout.{Layout}, places.Place.{Place}, places.Zone.{Zone}}
use Rattle.df_script_model.specs.Texts.{line_of, numbered, place_text, spaced, zone_name}
use Rattle.df_inspect.specs.{Opening.{layout_text}, Reports.{row_text}}

-- what is put after a text that was put
pub behind : (old new last text rest : List ℕ) → new ≡ old ++ text → last ≡ new ++ rest → last ≡ old ++ (text ++ rest)
behind old new last text rest one two = two ∙ ap (λ (l : List ℕ). l ++ rest) one ∙ append_assoc old text rest

-- a number after a text, and a space and more after it
pub number_last : (old last : List ℕ) (n m : ℕ) → last ≡ old ++ decimal n → n ≡ m → last ≡ old ++ decimal m
number_last old last n m one same = one ∙ ap (λ (k : ℕ). old ++ decimal k) same

pub number_behind : (old new space last rest : List ℕ) (n m : ℕ) → new ≡ old ++ decimal n → n ≡ m → space ≡ new ++ codes " "
    → last ≡ space ++ rest → last ≡ old ++ spaced (decimal m) rest
number_behind old new space last rest n m one same two three =
    behind old new last (decimal m) (codes " " ++ rest) (number_last old new n m one same)
    (behind new space last (codes " ") rest two three)

-- a place after a text
pub zone_named : (old last : List ℕ) (place : Place) (zone : Zone) (n : ℕ) → place.zone ≡ zone → n ≡ place.index
    → last ≡ old ++ numbered (zone_name zone) n → last ≡ old ++ place_text place
zone_named old last place zone n is same put =
    put ∙ ap (λ (z : Zone). old ++ numbered (zone_name z) n) (sym is) ∙ ap (λ (k : ℕ). old ++ numbered (zone_name place.zone) k) same

-- a row after a text
pub row_last : (old last word : List ℕ) (n m : ℕ) → last ≡ old ++ row_text word n → n ≡ m → last ≡ old ++ row_text word m
row_last old last word n m one same = one ∙ ap (λ (k : ℕ). old ++ row_text word k) same

pub row_behind : (old new last word rest : List ℕ) (n m : ℕ)
    → new ≡ old ++ row_text word n → n ≡ m → last ≡ new ++ rest → last ≡ old ++ (row_text word m ++ rest)
row_behind old new last word rest n m one same two = behind old new last (row_text word m) rest (row_last old new word n m one same) two

-- a layout after its word
pub layout_behind : (old word numbers new last : List ℕ) (layout : Layout) (rest : List ℕ)
    → word ≡ old ++ codes "layout " → numbers ≡ word ++ layout_text layout → new ≡ numbers ++ 10 ∷ [] → last ≡ new ++ rest
    → last ≡ old ++ (line_of (spaced (codes "layout") (layout_text layout)) ++ rest)
layout_behind old word numbers new last layout rest one two three four =
    behind old new last (codes "layout " ++ (layout_text layout ++ 10 ∷ [])) rest (behind old
    word new (codes "layout ") (layout_text layout ++ 10 ∷ []) one (behind word numbers new (layout_text layout) (10 ∷ []) two three)) four

pub from_none : (old last text : List ℕ) → old ≡ [] → last ≡ old ++ text → last ≡ text
from_none old last text none one = one ∙ ap (λ (l : List ℕ). l ++ text) none
