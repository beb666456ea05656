-- The sectors that bring a unit, with zeros after it, are the unit's own.
use Rattle.std.proofs.{Common.{◌≡◌, ◌≢◌, ℕ, ◌+◌, ◌-◌, ◌*◌, ◌≤◌, List, [], ◌++◌, length, take, drop, replicate, Some, refl, sym, ◌∙◌, ap, arith, append-nil, length-append, length-drop}, lemmas.List.{length-replicate, length-take, take-append-drop, take-append-le, take_at}}
use Rattle.{df_base.proofs.Laws.{AreBytes-append, AreBytes-zeros}, df_buffers.specs.Sounds.{EndsInZeros}}
use Rattle.df_layout.specs.{declared.layout.Layout.{Layout}, declared.places.Place.{Place}, declared.places.Zone.{Zone}, declared.places.Zone.TheVariants.{WalHeaders}, Spans.{place_sectors}}
use Rattle.df_format.{specs.{declared.header.Header.{Header}, Brings.{Brings}, Message.{Message, sectors_end, sectors_of, unit_bytes}, Shown.{unit_in}, UnitLaws.{place_size}, Valid.{BeginsWithUnit, HasBody, IsUnit}}, proofs.Laws.{body_follows, count_is, length-unit, one_unit}}

its_size : (zone : Zone) (h : Header) (body : List ℕ) → zone ≢ WalHeaders → HasBody zone h body → h.size ≡ 256 + length body
its_size WalHeaders h body other has = absurd (other refl)
its_size _ h body other has = has.size

slot_size : (layout : Layout) (zone : Zone) → zone ≢ WalHeaders → place_size layout zone ≡ 4096 * place_sectors layout zone
slot_size layout WalHeaders other = absurd (other refl)
slot_size layout _ other = refl

module _ (layout : Layout) (cluster : ℕ) (place : Place) (u : Message) (bytes : List ℕ)
    (other : place.zone ≢ WalHeaders) (is : IsUnit layout cluster place u) (brings : Brings layout cluster place u bytes) where
  size : u.header.size ≡ 256 + length u.body
  size = its_size place.zone u.header u.body other is.body

  -- they have the whole unit
  long : 256 + length u.body ≤ length bytes
  long = let shown : unit_in layout cluster place bytes ≡ Some u = rw (append-nil bytes) at (brings.read []) in
      let body = ap (λ (l : List ℕ). length l) (body_follows layout cluster place bytes u other shown) in
      omega (arith, body, length-take (u.header.size - 256) (drop 256 bytes), length-drop 256 bytes, brings.for.piece.some, brings.for.piece.whole, size)

  -- as many zeros as the place has left
  rest : List ℕ
  rest = replicate (place_size layout place.zone - length bytes) 0

  begun : BeginsWithUnit layout cluster place (bytes ++ rest) u
  unfolding rest
  begun =
      let all : length (bytes ++ rest) ≡ place_size layout place.zone = omega (arith, length-append bytes rest, length-replicate {A = ℕ} (place_size layout place.zone - length bytes) 0, brings.for.fits, ap (λ (n : ℕ). 4096 * n) (count_is layout place), slot_size layout place.zone other) in
      let are = AreBytes-append bytes rest brings.for.piece.each (AreBytes-zeros (place_size layout place.zone - length bytes)) in
      (one_unit layout cluster place (bytes ++ rest) u all are).0 (brings.read rest)

  front : take (256 + length u.body) bytes ≡ unit_bytes u
  front = let n : ℕ = 256 + length u.body in sym (take-append-le n bytes rest long)
      ∙ ap (λ (l : List ℕ). take n l) begun.spelled ∙ take_at (unit_bytes u) begun.rest n (length-unit u is.sealed)

  pub exact_sectors : length bytes ≤ sectors_end u.header.size → EndsInZeros (256 + length u.body) bytes → bytes ≡ sectors_of u
  unfolding sectors_of
  exact_sectors most zeros = let n : ℕ = 256 + length u.body in
      let all : length bytes ≡ sectors_end n = omega (arith, most, long, size, brings.for.piece.whole) in
      sym (take-append-drop n bytes) ∙ (λ i. front i ++ zeros i) ∙ ap (λ (k : ℕ). unit_bytes u ++ replicate (k - n) 0) all
