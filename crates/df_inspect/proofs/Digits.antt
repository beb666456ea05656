-- The digits of bytes, piece by piece.
use Rattle.std.proofs.{Common.{◌≡◌, ℕ, ◌+◌, List, [], ◌∷◌, ◌++◌, take, drop, Option, Result, IsErr, refl, sym, ◌∙◌, ap, subst}, lemmas.List.{take-append-drop}, Math.Seq.{take-add}}
use Rattle.hex.specs.Hex.{encode_lower, encode_with, lower_digits}
use Rattle.df_base.{specs.Streams.{Appends, AppendsPart}, proofs.Laws.{appends_more, appends_part}}
use Rattle.df_inspect.{proofs.Written.{appends_none, prints_front}, specs.Prints.{Prints}}

digits_append : (t x y : List ℕ) → encode_with t (x ++ y) ≡ encode_with t x ++ encode_with t y
unfolding encode_with
digits_append t [] y = refl
digits_append t (b ∷ x) y = rw (digits_append t x y)

-- no byte has no digit
pub none_printed : (old : Option (List ℕ)) → Appends old old (encode_lower [])
unfolding encode_with
none_printed old = appends_none old

-- one piece more, of m bytes
pub piece_printed : (old mid new : Option (List ℕ)) (n m k : ℕ) (bytes : List ℕ)
    → k ≡ m → Appends old mid (encode_lower (take n bytes)) → Appends mid new (encode_lower (take k (drop n bytes)))
    → Appends old new (encode_lower (take (n + m) bytes))
piece_printed old mid new n m k bytes is one two = subst (λ (l : List ℕ). Appends old new l)
    (sym (digits_append lower_digits (take n bytes) (take m (drop n bytes))) ∙ ap encode_lower (sym (take-add n m bytes)))
    (appends_more old mid new (encode_lower (take n bytes))
    (encode_lower (take m (drop n bytes))) one (subst (λ (i : ℕ). Appends mid new (encode_lower (take i (drop n bytes)))) is two))

-- the digits of all bytes: those gone over, those of the next piece, and the rest
digits_split : (n m : ℕ) (bytes : List ℕ)
    → encode_lower bytes ≡ (encode_lower (take n bytes) ++ encode_lower (take m (drop n bytes))) ++ encode_lower (drop (n + m) bytes)
digits_split n m bytes = ap encode_lower (sym (take-append-drop (n + m) bytes))
    ∙ digits_append lower_digits (take (n + m) bytes) (drop (n + m) bytes) ∙ ap (λ (l : List ℕ). l ++ encode_lower (drop (n + m) bytes))
    (ap encode_lower (take-add n m bytes) ∙ digits_append lower_digits (take n bytes) (take m (drop n bytes)))

-- where the next piece fails, a front of the digits is printed
pub piece_failed : {T E : Type 0} (old mid new : Option (List ℕ)) (n k : ℕ) (bytes : List ℕ) (result : Result T E)
    → IsErr result → Appends old mid (encode_lower (take n bytes))
    → AppendsPart mid new (encode_lower (take k (drop n bytes))) → Prints (encode_lower bytes) old new result
piece_failed old mid new n k bytes result failed one two =
    prints_front (encode_lower (take n bytes) ++ encode_lower (take k (drop n bytes)))
    (encode_lower (drop (n + k) bytes)) (encode_lower bytes) old new result failed (digits_split n k bytes)
    (appends_part old mid new (encode_lower (take n bytes)) (encode_lower (take k (drop n bytes))) one two)
