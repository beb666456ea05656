-- Headers one after the other.
use Rattle.std.{proofs.{Common.{◌≡◌, ℕ, zero, suc, List, [], ◌∷◌, ◌++◌, take, Some, sym, ◌∙◌, ap}, lemmas.List.{append_assoc}}, specs.List.{slice_get}}
use Rattle.df_format.specs.{declared.header.Header.{Header}, Spelling.{spelling}, UnitLaws.{headers_bytes}}

pub bytes_more : (hs : List Header) (i : ℕ) (h : Header)
    → slice_get hs i ≡ Some h → headers_bytes (take (suc i) hs) ≡ headers_bytes (take i hs) ++ headers_bytes (h ∷ [])
bytes_more [] i h at = absurd (cc)
bytes_more (x ∷ hs) zero h at = ap (λ (y : Header). spelling y ++ []) (some_is x h at)
  where
    some_is : (x h : Header) → Some x ≡ Some h → x ≡ h
    some_is x h same = cc
bytes_more (x ∷ hs) (suc i) h at = ap (λ (l : List ℕ). spelling x ++ l) (bytes_more hs i h at)
    ∙ sym (append_assoc (spelling x) (headers_bytes (take i hs)) (headers_bytes (h ∷ [])))
