-- A piece after the head, byte by byte.
use Rattle.std.{proofs.{Common.{◌≡◌, ◌≢◌, ℕ, ◌+◌, ◌*◌, ◌/◌, ◌<◌, List, length, take, sym, ap, ◌∙◌, arith, inl, inr}, lemmas.{Bool.{cases_lt}, List.{get_or-take, length-take-le}}}, specs.Prelude.{slice_index}}
use Rattle.df_trailer.{specs.{declared.reader.Reader.{Reader}, Reading.{IsRestTaken}, Rooms.{byte_in_checks, byte_in_words}}, proofs.Spread.{clash}}

-- one byte more
pub record IsByteTaken (old new : Reader) (byte : ℕ) : Type 0 where
  pub bits : (place : ℕ) → place < (old.layout.blocks + 7) / 8
      → place ≢ old.behind → byte_in_words new.parts.bits.items place ≡ byte_in_words old.parts.bits.items place
  pub bit : old.behind < (old.layout.blocks + 7) / 8 → byte_in_words new.parts.bits.items old.behind ≡ byte
  pub checks : (place : ℕ) → place < 16 * old.layout.blocks → (old.layout.blocks + 7) / 8 + place ≢ old.behind
      → byte_in_checks new.parts.checks.items place ≡ byte_in_checks old.parts.checks.items place
  pub check : (place : ℕ) → place < 16 * old.layout.blocks
      → (old.layout.blocks + 7) / 8 + place ≡ old.behind → byte_in_checks new.parts.checks.items place ≡ byte

pub rest_more : (old mid new : Reader) (piece : List ℕ) (i : ℕ)
    → i < length piece → mid.behind ≡ old.behind + i → mid.layout.blocks ≡ old.layout.blocks
    → IsByteTaken mid new (slice_index piece i) → IsRestTaken old mid (take i piece) → IsRestTaken old new (take (i + 1) piece)
rest_more old mid new piece i within at same b was = let n : length (take i piece) ≡ i = length-take-le i piece (omega arith) in
    let m : length (take (i + 1) piece) ≡ i + 1 = length-take-le (i + 1) piece (omega arith) in record {
      bits_stay = λ k size before. b.bits k (omega arith) (λ e. clash (omega arith)) ∙ was.bits_stay k size before;
      bits_here = λ k inside size. elim (cases_lt k i) [
        | inl early ↦ b.bits (old.behind + k) (omega arith) (λ e. clash (omega arith))
            ∙ was.bits_here k (omega arith) size ∙ get_or-take i piece k 0 early ∙ sym (get_or-take (i + 1) piece k 0 (omega arith))
        | inr late ↦ let e : k ≡ i = omega arith in ap (λ (p : ℕ). byte_in_words new.parts.bits.items p) (omega arith)
            ∙ b.bit (omega arith) ∙ ap (λ (p : ℕ). slice_index piece p) (sym e) ∙ sym (get_or-take (i + 1) piece k 0 (omega arith))
      ];
      checks_stay = λ k size before. b.checks k (omega arith) (λ e. clash (omega arith)) ∙ was.checks_stay k size before;
      checks_here = λ k j inside there size. elim (cases_lt j i) [
        | inl early ↦ b.checks k (omega arith) (λ e. clash (omega arith)) ∙ was.checks_here k j (omega arith) there size
            ∙ get_or-take i piece j 0 early ∙ sym (get_or-take (i + 1) piece j 0 (omega arith))
        | inr late ↦ let e : j ≡ i = omega arith in b.check k (omega arith) (omega arith)
            ∙ ap (λ (p : ℕ). slice_index piece p) (sym e) ∙ sym (get_or-take (i + 1) piece j 0 (omega arith))
      ];
    }
