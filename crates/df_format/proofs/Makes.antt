-- What is made is a unit, and its sectors stand at the front of the buffer.
use Rattle.std.proofs.{Common.{inl, inr, ◌≡◌, ℕ, ◌+◌, ◌-◌, ◌≤◌, List, [], ◌++◌, length, take, drop, replicate, refl, sym, ◌∙◌, ap, subst, arith}, lemmas.List.{drop-drop, drop-take, drop_at, length-take-le}, Math.Seq.{take-add}}
use Rattle.{df_base.specs.Fields.{AreBytes}, df_layout.specs.declared.places.Zone.{Zone, TheVariants.{WalHeaders}}}
use Rattle.df_format.specs.{declared.header.Header.{Header}, Spelling.{spelling, spelling_rest, sealed, tail_of}, declared.kind.Kind.{Kind}, declared.kind.Kind.TheVariants.{Reserved}, Rules.{ObeysKind, ObeysFirst, ObeysSecond, ObeysVersion, ObeysRules, IsSealed}, Message.{Message, sectors_of, sectors_end}, Making.{for_body}, UnitLaws.{MadeIsUnit}, Valid.{IsBodyOf, HasBody}}

-- the rules don't speak of the header's own checksum
kind_sealed : (kind : Kind) (h : Header) → ObeysKind kind h → ObeysKind kind (sealed h)
kind_sealed Reserved h is = assumption
kind_sealed _ h is = assumption

version_sealed : (kind : Kind) (h : Header) → ObeysVersion kind h → ObeysVersion kind (sealed h)
version_sealed kind h is = elim is [ inl first ↦ (let one : ObeysFirst (sealed h) = assumption in inl one) | inr second ↦ (let two : ObeysSecond kind (sealed h) = assumption in inr two) ]

-- so a header that is sealed obeys them
pub sealed_is : (h : Header) → ObeysRules h → IsSealed (sealed h)
unfolding spelling_rest tail_of
sealed_is h is = assumption (kind_sealed h.kind h is.kind, version_sealed h.kind h is.version)

pub is_sealed : (h result : Header) → result ≡ sealed h → ObeysRules h → IsSealed result
is_sealed h result is rules = subst (λ (x : Header). IsSealed x) (sym is) (sealed_is h rules)

-- lists that are the same from an offset on are so from a later one on
pub further : (a b : ℕ) (xs ys : List ℕ) → a ≤ b → drop a xs ≡ drop a ys → drop b xs ≡ drop b ys
further a b xs ys order same = let there : a + (b - a) ≡ b = omega arith in ap (λ (n : ℕ). drop n xs) (sym there)
    ∙ sym (drop-drop (b - a) a xs) ∙ ap (λ (l : List ℕ). drop (b - a) l) same ∙ drop-drop (b - a) a ys ∙ ap (λ (n : ℕ). drop n ys) there

-- a body after the place of a header stays there when the header is written
pub body_behind : (count : ℕ) (old new : List ℕ)
    → drop 256 new ≡ drop 256 old → take (256 + count) new ≡ take 256 new ++ take count (drop 256 old)
body_behind count old new rest = take-add 256 count new ∙ ap (λ (l : List ℕ). take 256 new ++ take count l) rest

-- and is what was put there
pub body_put : (body old new : List ℕ)
    → 256 ≤ length old → take (256 + length body) new ≡ take 256 old ++ body → take (length body) (drop 256 new) ≡ body
body_put body old new room front = let size : length (take 256 old) ≡ 256 = length-take-le 256 old room in
    sym (drop-take 256 (length body) new) ∙ ap (drop 256) front ∙ drop_at (take 256 old) body 256 size

-- header, body and zeros, one after the other
pub sectors_made : (p : Message) (s1 s2 s3 : List ℕ) (end : ℕ)
    → take 256 s1 ≡ spelling p.header → take (256 + length p.body) s2 ≡ take 256 s1 ++ p.body
    → take end s3 ≡ take (256 + length p.body) s2 ++ replicate (end - (256 + length p.body)) 0
    → end ≡ sectors_end (256 + length p.body) → take end s3 ≡ sectors_of p
unfolding sectors_of
sectors_made p s1 s2 s3 end head body zeros is =
    zeros ∙ (λ i. (body ∙ ap (λ (l : List ℕ). l ++ p.body) head) i ++ replicate (is i - (256 + length p.body)) 0)

body_made : (zone : Zone) (h : Header) (body : List ℕ) → IsBodyOf h body → (zone ≡ WalHeaders → body ≡ []) → HasBody zone h body
body_made WalHeaders h body is none = none refl
body_made _ h body is none = is

pub made_is_unit : (h result : Header) (body : List ℕ)
    → result ≡ sealed (for_body h body) → IsSealed result → AreBytes body → MadeIsUnit (record { header = result; body = body })
made_is_unit h result body is good are layout place own fits none = let its : IsBodyOf result body =
    record { size = ap (λ (x : Header). x.size) is; checksum = ap (λ (x : Header). x.checksum_body) is; each = are } in
    record { sealed = good; owner = refl; fits = fits; body = body_made place.zone result body its none; own = own }
