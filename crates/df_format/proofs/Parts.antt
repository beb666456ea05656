-- Two lists of pieces that stand one after the other are both read.
use Rattle.std.proofs.Common.{◌≡◌, ℕ, ◌+◌, List, drop}
use Rattle.df_base.{specs.Text.{AreRead, Fit, Piece, text, total}, proofs.Laws.{behind, read_back}}

pub record AreBothRead {R : Type 0} (ps qs : List (Piece R)) (at : ℕ) (bytes rest : List ℕ) (r : R) : Type 0 where
  pub first : AreRead ps at bytes r
  pub after : drop (at + total ps) bytes ≡ text qs r rest
  pub second : AreRead qs (at + total ps) bytes r

pub read_both : {R : Type 0} (ps qs : List (Piece R)) (at : ℕ) (bytes rest : List ℕ) (r : R)
    → Fit ps r → Fit qs r → drop at bytes ≡ text ps r (text qs r rest) → AreBothRead ps qs at bytes rest r
read_both ps qs at bytes rest r fits others is =
    let after : drop (at + total ps) bytes ≡ text qs r rest = behind ps at bytes (text qs r rest) r fits is in
    record { first = read_back ps at bytes (text qs r rest) r fits is; after = after; second = read_back qs (at + total ps) bytes rest r others after }
