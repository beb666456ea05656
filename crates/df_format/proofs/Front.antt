-- What is read of a place is a matter of the front that holds the unit.
use Rattle.std.{proofs.{Common.{◌≡◌, ◌≢◌, ℕ, ◌+◌, ◌-◌, ◌≤◌, List, ◌++◌, length, take, drop, refl, sym, ◌∙◌, ap, arith, append_assoc}, lemmas.List.{take-append-drop, take-append-le, drop-append-le, length-take-le, length-drop}}, specs.Str.{bytes_eq}}
use Rattle.{df_base.specs.Fields.{check_of}, df_layout.specs.declared.places.Zone.{Zone, TheVariants.{WalHeaders}}}
use Rattle.df_format.{specs.{declared.header.Header.{Header}, Message.{sectors_of, unit_bytes}, Reading.{header_in}, Whole.{body_in, has_body}, Brings.{FrontBrings, MadeBrings}}, proofs.{Units.{sectors_for_place}, Wholes.{begun_is_shown, found_unit, unit_found}}}

front_part : (k m n : ℕ) (xs rest : List ℕ) → k + m ≤ n → n ≤ length xs → take m (drop k (take n xs ++ rest)) ≡ take m (drop k (take n xs))
front_part k m n xs rest inside long = let size = length-take-le n xs long in
    ap (λ (l : List ℕ). take m l) (drop-append-le k (take n xs) rest (omega (arith, size)))
    ∙ take-append-le m (drop k (take n xs)) rest (omega (arith, size, length-drop k (take n xs)))

fronts : (k m n : ℕ) (xs rest : List ℕ) → k + m ≤ n → n ≤ length xs → take m (drop k (take n xs ++ rest)) ≡ take m (drop k xs)
fronts k m n xs rest inside long = front_part k m n xs rest inside long
    ∙ sym (front_part k m n xs (drop n xs) inside long) ∙ ap (λ (l : List ℕ). take m (drop k l)) (take-append-drop n xs)

body_same : (zone : Zone) (size : ℕ) (xs ys : List ℕ)
    → zone ≢ WalHeaders → take (size - 256) (drop 256 xs) ≡ take (size - 256) (drop 256 ys) → body_in zone size xs ≡ body_in zone size ys
body_same WalHeaders size xs ys other same = refl
body_same _ size xs ys other same = same

test_same : (zone : Zone) (h : Header) (xs ys : List ℕ)
    → take (h.size - 256) (drop 256 xs) ≡ take (h.size - 256) (drop 256 ys) → has_body zone h xs ≡ has_body zone h ys
test_same WalHeaders h xs ys same = refl
test_same _ h xs ys same = ap (λ (l : List ℕ). bytes_eq h.checksum_body (check_of l)) same

pub front_brings : FrontBrings
front_brings layout cluster place bytes n u other is shown size long for = record {
  for = for;
  read = λ rest. let least = is.sealed.rules.size in let f = unit_found layout cluster place bytes u shown in
      let head : take 256 (take n bytes ++ rest) ≡ take 256 bytes = fronts 0 256 n bytes rest (omega arith) long in
      let body : take (u.header.size - 256) (drop 256 (take n bytes ++ rest)) ≡ take (u.header.size - 256) (drop 256 bytes) =
      fronts 256 (u.header.size - 256) n bytes rest (omega arith) long in
      let tested = test_same place.zone u.header (take n bytes ++ rest) bytes body ∙ f.tested in
      let same = body_same place.zone u.header.size (take n bytes ++ rest) bytes other body ∙ f.body in
      found_unit layout cluster place (take n bytes ++ rest) u (assumption (ap header_in head ∙ f.header));
}

pub made_brings : MadeBrings
unfolding sectors_of
made_brings layout cluster place u other is = record {
  for = sectors_for_place layout cluster place u other is;
  read = λ rest. begun_is_shown
      layout cluster place (sectors_of u ++ rest) u (record { is = is; rest = _; spelled = append_assoc (unit_bytes u) _ rest });
}
