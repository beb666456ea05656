-- A text of pieces: its length, that it is bytes, and that it is read where it stands and is what was read there.
use Rattle.std.{proofs.{Common.{◌≡◌, ◌<◌, ◌≤◌, ◌+◌, ◌^◌, ℕ, List, [], ◌∷◌, ◌++◌, length, take, drop, replicate, refl, sym, ◌∙◌, ap, subst, arith, append_assoc, length-append, drop-cons}, lemmas.List.{take_at, append-nil, length-take-le, length-drop, length-replicate, get_or-drop, take-append-drop, drop-drop, drop_at}}, specs.Prelude.{slice_index}}
use Rattle.df_base.{specs.{Fields.{AreBytes, check_of, spelled, put_at}, Text.{Piece, width, total, spell, text, AreSo, FitsIn, Fit, IsReadAt, AreRead, Puts}, Text.Piece.{Byte, Number, Bytes}, Text.Puts.{Done, Put, PutBytes, PutText}}, proofs.FieldBytes.{length-check_of, AreBytes-check_of, AreBytes-nil, AreBytes-cons, length-spelled, AreBytes-spelled, field_spelled, field_at-lt, spelled-field_at, AreBytes-append, AreBytes-take, AreBytes-drop, AreBytes-zeros}}

-- ---- where a piece stands

-- what stands from an offset on is a piece and what stands after it
pub piece : (at n : ℕ) (bytes front rest : List ℕ) → front ≡ take n (drop at bytes) → drop (at + n) bytes ≡ rest → drop at bytes ≡ front ++ rest
piece at n bytes front rest is behind = sym (take-append-drop n (drop at bytes)) ∙ (λ i. sym is i ++ (drop-drop n at bytes ∙ behind) i)

-- what stands after a piece
pub past : (at n : ℕ) (bytes front rest : List ℕ) → drop at bytes ≡ front ++ rest → length front ≡ n → drop (at + n) bytes ≡ rest
past at n bytes front rest is size = sym (drop-drop n at bytes) ∙ ap (λ (l : List ℕ). drop n l) is ∙ drop_at front rest n size

-- a number that is written after what stands in front
pub number_behind : (at n x : ℕ) (old new front : List ℕ)
    → at + n ≤ length old → new ≡ put_at n at x old → take at old ≡ front → take (at + n) new ≡ front ++ spelled n x
number_behind at n x old new front fits is before = let size : length (take at old ++ spelled n x) ≡ at + n =
    length-append (take at old) (spelled n x) ∙ (λ i. length-take-le at old (omega arith) i + length-spelled n x i) in
    ap (λ (l : List ℕ). take (at + n) l) (is ∙ sym (append_assoc (take at old) (spelled n x) (drop (at + n) old)))
    ∙ take_at (take at old ++ spelled n x) (drop (at + n) old) (at + n) size ∙ ap (λ (l : List ℕ). l ++ spelled n x) before

-- ---- this many bytes

pub so_none : AreSo 0 []
so_none = record { size = refl; each = AreBytes-nil }

pub so_many_zeros : (n : ℕ) → AreSo n (replicate n 0)
so_many_zeros n = record { size = length-replicate {A = ℕ} n 0; each = AreBytes-zeros n }

pub so_spelled : (n x : ℕ) → AreSo n (spelled n x)
so_spelled n x = record { size = length-spelled n x; each = AreBytes-spelled n x }

pub so_check : (bytes : List ℕ) → AreSo 16 (check_of bytes)
so_check bytes = record { size = length-check_of bytes; each = AreBytes-check_of bytes }

pub so_both : {n m : ℕ} {xs ys : List ℕ} → AreSo n xs → AreSo m ys → AreSo (n + m) (xs ++ ys)
so_both {xs = xs} {ys = ys} one two =
    record { size = omega (arith, length-append xs ys, one.size, two.size); each = AreBytes-append xs ys one.each two.each }

-- ---- one piece

-- a piece has its bytes, whatever number it is
abbrev pub HasBytes : {R : Type 0} → Piece R → R → Type 0
HasBytes (Byte get) r = get r < 256
HasBytes (Number n get) r = Unit {0}
HasBytes (Bytes n get) r = AreSo n (get r)

abbrev pub HaveBytes : {R : Type 0} → List (Piece R) → R → Type 0
HaveBytes [] r = Unit {0}
HaveBytes (p ∷ ps) r = HasBytes p r × HaveBytes ps r

so_piece : {R : Type 0} (p : Piece R) (r : R) → HasBytes p r → AreSo (width p) (spell p r)
so_piece (Byte get) r has = record { size = refl; each = AreBytes-cons (get r) [] has AreBytes-nil }
so_piece (Number n get) r has = so_spelled n (get r)
so_piece (Bytes n get) r has = has

-- and the more where it fits
fitting : {R : Type 0} (p : Piece R) (r : R) → FitsIn p r → length (spell p r) ≡ width p
fitting (Byte get) r fits = refl
fitting (Number n get) r fits = length-spelled n (get r)
fitting (Bytes n get) r fits = fits.size

read_here : {R : Type 0} (p : Piece R) (at : ℕ) (bytes rest : List ℕ) (r : R)
    → FitsIn p r → drop at bytes ≡ spell p r ++ rest → IsReadAt p at bytes r
read_here (Byte get) at bytes rest r fits is = let here : at + 0 ≡ at = omega arith in
    ap (λ (n : ℕ). slice_index bytes n) (sym here) ∙ sym (get_or-drop at bytes 0 0) ∙ ap (λ (l : List ℕ). slice_index l 0) is
read_here (Number n get) at bytes rest r fits is = field_spelled n at (get r) bytes rest is fits
read_here (Bytes n get) at bytes rest r fits is = ap (λ (l : List ℕ). take n l) is ∙ take_at (get r) rest n fits.size

-- what is read is spelled as it stands there
spelled_here : {R : Type 0} (p : Piece R) (at : ℕ) (bytes : List ℕ) (r : R)
    → AreBytes bytes → at + width p ≤ length bytes → IsReadAt p at bytes r → spell p r ≡ take (width p) (drop at bytes)
spelled_here (Byte get) at bytes r are inside is =
    sym (ap (λ (l : List ℕ). take 1 l) (drop-cons bytes at 0 (omega arith)) ∙ (λ i. is i ∷ []))
spelled_here (Number n get) at bytes r are inside is = ap (λ (x : ℕ). spelled n x) (sym is) ∙ spelled-field_at n at bytes are inside
spelled_here (Bytes n get) at bytes r are inside is = sym is

fits_here : {R : Type 0} (p : Piece R) (at : ℕ) (bytes : List ℕ) (r : R)
    → AreBytes bytes → at + width p ≤ length bytes → IsReadAt p at bytes r → FitsIn p r
fits_here (Byte get) at bytes r are inside is = subst (λ (x : ℕ). x < 256) is (are at)
fits_here (Number n get) at bytes r are inside is = subst (λ (x : ℕ). x < 256 ^ n) is (field_at-lt n at bytes are)
fits_here (Bytes n get) at bytes r are inside is =
    subst (λ (l : List ℕ). AreSo n l) is (record { size = length-take-le n (drop at bytes) (omega (arith, length-drop at bytes)); each = AreBytes-take n (drop at bytes) (AreBytes-drop at bytes are) })

-- ---- all of them

-- pieces are as many bytes as they have together
pub so_text : {R : Type 0} (ps : List (Piece R)) (r : R) {n : ℕ} {rest : List ℕ}
    → HaveBytes ps r → AreSo n rest → AreSo (total ps + n) (text ps r rest)
so_text [] r has is = record { size = omega (arith, is.size); each = is.each }
so_text (p ∷ ps) r has is = let all = so_both (so_piece p r has.0) (so_text ps r has.1 is) in
    record { size = omega (arith, all.size); each = all.each }

total-append : {R : Type 0} (ps qs : List (Piece R)) → total (ps ++ qs) ≡ total ps + total qs
total-append [] qs = omega arith
total-append (p ∷ ps) qs = omega (arith, total-append ps qs)

text-more : {R : Type 0} (ps qs : List (Piece R)) (r : R) (rest : List ℕ) → text (ps ++ qs) r rest ≡ text ps r (text qs r rest)
text-more [] qs r rest = refl
text-more (p ∷ ps) qs r rest = ap (λ (l : List ℕ). spell p r ++ l) (text-more ps qs r rest)

pub text-append : {R : Type 0} (ps : List (Piece R)) (r : R) (one two : List ℕ) → text ps r one ++ two ≡ text ps r (one ++ two)
text-append [] r one two = refl
text-append (p ∷ ps) r one two = append_assoc (spell p r) (text ps r one) two ∙ ap (λ (l : List ℕ). spell p r ++ l) (text-append ps r one two)

-- what stands after them
pub behind : {R : Type 0} (ps : List (Piece R)) (at : ℕ) (bytes rest : List ℕ) (r : R)
    → Fit ps r → drop at bytes ≡ text ps r rest → drop (at + total ps) bytes ≡ rest
behind [] at bytes rest r fit is = ap (λ (n : ℕ). drop n bytes) (let here : at + 0 ≡ at = omega arith in here) ∙ is
behind (p ∷ ps) at bytes rest r fit is = let there : at + (width p + total ps) ≡ at + width p + total ps = omega arith in
    ap (λ (n : ℕ). drop n bytes) there
    ∙ behind ps (at + width p) bytes rest r fit.1 (past at (width p) bytes (spell p r) _ is (fitting p r fit.0))

-- each is read where it stands
pub read_back : {R : Type 0} (ps : List (Piece R)) (at : ℕ) (bytes rest : List ℕ) (r : R)
    → Fit ps r → drop at bytes ≡ text ps r rest → AreRead ps at bytes r
read_back [] at bytes rest r fit is = tt
read_back (p ∷ ps) at bytes rest r fit is = (
  read_here p at bytes _ r fit.0 is,
  read_back ps (at + width p) bytes rest r fit.1 (past at (width p) bytes (spell p r) _ is (fitting p r fit.0)),
)

-- and what is read stands there
pub spelled_back : {R : Type 0} (ps : List (Piece R)) (at : ℕ) (bytes rest : List ℕ) (r : R) → AreBytes bytes
    → at + total ps ≤ length bytes → AreRead ps at bytes r → drop (at + total ps) bytes ≡ rest → drop at bytes ≡ text ps r rest
spelled_back [] at bytes rest r are inside read is = ap (λ (n : ℕ). drop n bytes) (let here : at ≡ at + 0 = omega arith in here) ∙ is
spelled_back (p ∷ ps) at bytes rest r are inside read is = let there : at + width p + total ps ≡ at + (width p + total ps) = omega arith in
    let later = spelled_back ps (at + width p) bytes rest r are (omega arith) read.1 (ap (λ (n : ℕ). drop n bytes) there ∙ is) in
    piece at (width p) bytes (spell p r) _ (spelled_here p at bytes r are (omega arith) read.0) later

pub fit_back : {R : Type 0} (ps : List (Piece R)) (at : ℕ) (bytes : List ℕ) (r : R)
    → AreBytes bytes → at + total ps ≤ length bytes → AreRead ps at bytes r → Fit ps r
fit_back [] at bytes r are inside read = tt
fit_back (p ∷ ps) at bytes r are inside read =
    (fits_here p at bytes r are (omega arith) read.0, fit_back ps (at + width p) bytes r are (omega arith) read.1)

-- ---- how they are written

one_more : {R : Type 0} (p : Piece R) (ps : List (Piece R)) (r : R) (at : ℕ) (old mid new : List ℕ)
    → take (at + width p) mid ≡ take at old ++ spell p r → take (at + width p + total ps) new ≡ take (at + width p) mid ++ text ps r []
    → take (at + total (p ∷ ps)) new ≡ take at old ++ text (p ∷ ps) r []
one_more p ps r at old mid new here later = let there : at + (width p + total ps) ≡ at + width p + total ps = omega arith in
    ap (λ (n : ℕ). take n new) there
    ∙ later ∙ ap (λ (l : List ℕ). l ++ text ps r []) here ∙ append_assoc (take at old) (spell p r) (text ps r [])

-- what was before them stays in front of them
pub written : {R : Type 0} {r : R} {ps : List (Piece R)} {at : ℕ} {old new : List ℕ}
    → Puts r ps at old new → take (at + total ps) new ≡ take at old ++ text ps r []
written {at = at} {old = old} Done = ap (λ (n : ℕ). take n old) (let here : at + 0 ≡ at = omega arith in here) ∙ sym (append-nil (take at old))
written {r = r} {at = at} {old = old} {new = new} (Put {n = n} {get = get} {ps = ps} {mid = mid} inside is later) =
    one_more (Number n get) ps r at old mid new (number_behind at n (get r) old mid _ inside is refl) (written later)
written {r = r} {at = at} {old = old} {new = new} (PutBytes {n = n} {get = get} {ps = ps} {mid = mid} is later) =
    one_more (Bytes n get) ps r at old mid new is (written later)
written {r = r} {at = at} {old = old} {new = new} (PutText qs {ps = ps} {mid = mid} is later) =
    let there : at + total (qs ++ ps) ≡ at + total qs + total ps = omega (arith, total-append qs ps) in ap (λ (n : ℕ). take n new) there
    ∙ written later ∙ ap (λ (l : List ℕ). l ++ text ps r []) is ∙ append_assoc (take at old) (text qs r []) (text ps r [])
    ∙ ap (λ (l : List ℕ). take at old ++ l) (text-append qs r [] (text ps r []) ∙ sym (text-more qs ps r []))
