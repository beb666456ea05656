-- Writes of whole sectors and stops leave images of whole sectors, and a write leaves all others as they were.
use Rattle.std.proofs.{Common.{◌≡◌, inl, inr, ℕ, ◌+◌, ◌-◌, ◌*◌, ◌==◌, ◌<◌, ◌≤◌, Bool, true, false, cond, List, [], ◌∷◌, length, take, drop, if◌then◌else◌, refl, arith, length-drop}, lemmas.Bool.{cases_lt, cond-false}, lemmas.Bool.Decides.{nat_tests}, lemmas.List.{get_or-take, get_or-drop, get_or_past, length-replicate, length-take-le}}
use Rattle.df_base.{specs.{Image.{Image, IsSector, IsImage, IsPiece, blank, covers, written, changed}, Log.{Event, Write, Sync, Stop, AreLoose, AreEvents, now_of}}, proofs.FieldBytes.{AreBytes-zeros}}

pub blank_is_image : IsImage blank
unfolding blank
blank_is_image = record { sectors = λ sector. record { size = length-replicate {A = ℕ} 4096 0; each = AreBytes-zeros 4096 } }

pub written_else : (at : ℕ) (bytes : List ℕ) (image : Image) (sector : ℕ)
    → covers at bytes sector ≡ false → written at bytes image sector ≡ image sector
unfolding written
written_else at bytes image sector other = cond-false (covers at bytes sector) _ _ other

-- a sector of whole sectors
part_is_sector : (bytes : List ℕ) (k : ℕ) → IsPiece bytes → 4096 * k < length bytes → IsSector (take 4096 (drop (4096 * k) bytes))
part_is_sector bytes k piece inside = let whole : 4096 * k + 4096 ≤ length bytes = omega (arith, piece.whole) in
    let size : length (take 4096 (drop (4096 * k) bytes)) ≡ 4096 =
    length-take-le 4096 (drop (4096 * k) bytes) (omega (arith, length-drop (4096 * k) bytes)) in record {
      size = size;
      each = λ i. elim (cases_lt i 4096) [
        | inl low ↦ omega (arith, get_or-take 4096 (drop (4096 * k) bytes) i 0 low, get_or-drop (4096 * k) bytes i 0, piece.each (4096 * k + i))
        | inr past ↦ omega (arith, get_or_past (take 4096 (drop (4096 * k) bytes)) i 0 (omega arith))
      ];
    }

choice : (b : Bool) (one two : List ℕ) → (b ≡ true → IsSector one) → IsSector two → IsSector (cond b one two)
choice true one two is other = is refl
choice false one two is other = other

covered : (at : ℕ) (bytes : List ℕ) (sector : ℕ) → covers at bytes sector ≡ true → 4096 * (sector - at) < length bytes
unfolding covers
covered at bytes sector is = grind (arith, nat_tests)

pub written_is_image : (at : ℕ) (bytes : List ℕ) (image : Image) → IsPiece bytes → IsImage image → IsImage (written at bytes image)
unfolding written
written_is_image at bytes image piece whole = record {
  sectors = λ sector. choice (covers at bytes sector) (take 4096 (drop (4096 * (sector - at)) bytes)) (image sector) (λ is.
      part_is_sector bytes (sector - at) piece (covered at bytes sector is)) (whole.sectors sector);
}

pub changed_is_image : (es : List Event) (cs : List (ℕ × List ℕ)) (image : Image) → AreLoose es cs → IsImage image → IsImage (changed cs image)
changed_is_image es [] image are whole = whole
changed_is_image es (c ∷ cs) image are whole = changed_is_image es cs (λ sector. if sector == c.0 then c.1 else image sector)
    are.2 (record { sectors = λ sector. choice (sector == c.0) c.1 (image sector) (λ _. are.1) (whole.sectors sector) })

pub now_is_image : (start : Image) (es : List Event) → IsImage start → AreEvents es → IsImage (now_of start es)
now_is_image start [] whole are = whole
now_is_image start ((Write at bytes) ∷ es) whole are = written_is_image at bytes (now_of start es) are.0 (now_is_image start es whole are.1)
now_is_image start (Sync ∷ es) whole are = now_is_image start es whole are
now_is_image start ((Stop cs) ∷ es) whole are = changed_is_image es cs (now_of start es) are.0 (now_is_image start es whole are.1)
