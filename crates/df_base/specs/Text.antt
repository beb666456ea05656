-- A text as a list of pieces: how many bytes each of them has, and how it is taken from what is spelled.
use Rattle.std.specs.Prelude.{◌≡◌, ◌<◌, ◌≤◌, ◌+◌, ◌^◌, ℕ, List, [], ◌∷◌, ◌++◌, length, take, drop, replicate, slice_index}
use Rattle.df_base.specs.Fields.{AreBytes, field_at, spelled, put_at}

-- a byte, a number of this many bytes, or as many bytes
pub data Piece (R : Type 0) : Type 0 where
  Byte : (R → ℕ) → Piece R
  Number : ℕ → (R → ℕ) → Piece R
  Bytes : ℕ → (R → List ℕ) → Piece R

-- zeros, whatever is spelled
abbrev pub zeros : {R : Type 0} → ℕ → Piece R
zeros n = Bytes n (λ _. replicate n 0)

abbrev pub width : {R : Type 0} → Piece R → ℕ
width (Byte get) = 1
width (Number n get) = n
width (Bytes n get) = n

-- the bytes of all of them
abbrev pub total : {R : Type 0} → List (Piece R) → ℕ
total [] = 0
total (p ∷ ps) = width p + total ps

abbrev pub spell : {R : Type 0} → Piece R → R → List ℕ
spell (Byte get) r = get r ∷ []
spell (Number n get) r = spelled n (get r)
spell (Bytes n get) r = get r

-- the pieces, one after the other, before a rest
abbrev pub text : {R : Type 0} → List (Piece R) → R → List ℕ → List ℕ
text [] r rest = rest
text (p ∷ ps) r rest = spell p r ++ text ps r rest

-- this many bytes
pub record AreSo (n : ℕ) (bytes : List ℕ) : Type 0 where
  pub size : length bytes ≡ n
  pub each : AreBytes bytes

-- what is spelled fits each piece
abbrev pub FitsIn : {R : Type 0} → Piece R → R → Type 0
FitsIn (Byte get) r = get r < 256
FitsIn (Number n get) r = get r < 256 ^ n
FitsIn (Bytes n get) r = AreSo n (get r)

abbrev pub Fit : {R : Type 0} → List (Piece R) → R → Type 0
Fit [] r = Unit {0}
Fit (p ∷ ps) r = FitsIn p r × Fit ps r

-- each piece is read from its offset
abbrev pub IsReadAt : {R : Type 0} → Piece R → ℕ → List ℕ → R → Type 0
IsReadAt (Byte get) at bytes r = slice_index bytes at ≡ get r
IsReadAt (Number n get) at bytes r = field_at n at bytes ≡ get r
IsReadAt (Bytes n get) at bytes r = take n (drop at bytes) ≡ get r

abbrev pub AreRead : {R : Type 0} → List (Piece R) → ℕ → List ℕ → R → Type 0
AreRead [] at bytes r = Unit {0}
AreRead (p ∷ ps) at bytes r = IsReadAt p at bytes r × AreRead ps (at + width p) bytes r

-- each piece is written at its offset, the one before it first
pub data Puts {R : Type 0} (r : R) : List (Piece R) → ℕ → List ℕ → List ℕ → Type 0 where
  Done : {at : ℕ} {bytes : List ℕ} → Puts r [] at bytes bytes
  Put : {n at : ℕ} {get : R → ℕ} {ps : List (Piece R)} {old mid new : List ℕ} → at + n ≤ length old → mid ≡ put_at n at (get r) old → Puts r ps (at + n) mid new → Puts r (Number n get ∷ ps) at old new
  PutBytes : {n at : ℕ} {get : R → List ℕ} {ps : List (Piece R)} {old mid new : List ℕ} → take (at + n) mid ≡ take at old ++ get r → Puts r ps (at + n) mid new → Puts r (Bytes n get ∷ ps) at old new
  PutText : {at : ℕ} (qs : List (Piece R)) {ps : List (Piece R)} {old mid new : List ℕ} → take (at + total qs) mid ≡ take at old ++ text qs r [] → Puts r ps (at + total qs) mid new → Puts r (qs ++ ps) at old new
