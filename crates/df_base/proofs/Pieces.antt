-- A piece that is written part by part.
use Rattle.std.{proofs.{Common.{◌≡◌, ℕ, ◌+◌, ◌-◌, List, Option, length, ◌++◌, take, drop, sym, ap, subst, ◌∙◌}, Math.Seq.{take-add}, lemmas.List.{take_rest}, KnownBytes.{Appends-trans}}, specs.Io.KnownBytes.{Appends}}

-- the front that was written, and a part of what is left
pub part_more : (a b c : Option (List ℕ)) (piece : List ℕ) (done n : ℕ) → Appends a b (take done piece)
    → Appends b c (take n (take (length piece - done) (drop done piece))) → Appends a c (take (done + n) piece)
part_more a b c piece done n first then =
    let whole : take done piece ++ take n (take (length piece - done) (drop done piece)) ≡ take (done + n) piece =
    ap (λ (rest : List ℕ). take done piece ++ take n rest) (take_rest piece done) ∙ sym (take-add done n piece) in
    subst (Appends a c) whole (Appends-trans a b c (take done piece) (take n (take (length piece - done) (drop done piece))) first then)
