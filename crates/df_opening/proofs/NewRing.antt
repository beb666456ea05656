-- The header ring of a new file: its sectors are written one after the other, and each is one of reserved headers.
use Rattle.std.proofs.Common.{◌≡◌, ℕ, zero, suc, ◌+◌, ◌-◌, ◌*◌, ◌<◌, List, ◌∷◌, ◌++◌, Option, sym, ◌∙◌, ap, subst, arith}
use Rattle.{df_base.{specs.Log.{Event, Write}, proofs.Laws.{zero_plus}}, df_layout.specs.declared.layout.Layout.{Layout}}
use Rattle.df_disk.{specs.{Told.{Told}, Adds.{AddsPart, after_all}}, proofs.Laws.{all_then, part_then, after_append}}
use Rattle.{df_format.specs.{declared.header.Header.{Header}, UnitLaws.{headers_bytes}}, df_theory.specs.Units.{HeaderPlace}}
use Rattle.{df_units.specs.{Bytes.{first_at}, Making.{header_writes}}, df_headers.specs.Ring.{in_sector, sector_events}}
use Rattle.df_opening.specs.Making.{sectors_of}

-- the writes of the first sectors, and those of the sectors after them
split : (layout : Layout) (t : List Header) (s k m e : ℕ) → s + k ≡ e → header_writes layout s (sectors_of s (k + m) t)
    ≡ header_writes layout s (sectors_of s k t) ++ header_writes layout e (sectors_of e m t)
split layout t s zero m e is = ap (λ (c : ℕ). header_writes layout s (sectors_of s c t)) (none m)
    ∙ ap (λ (n : ℕ). header_writes layout n (sectors_of n m t)) (here s e is)
  where
    none : (m : ℕ) → zero + m ≡ m
    none m = omega arith

    here : (s e : ℕ) → s + zero ≡ e → s ≡ e
    here s e is = omega (arith, is)
split layout t s (suc k) m e is = ap (λ (c : ℕ). header_writes layout s (sectors_of s c t)) (more k m) ∙ ap (λ (es : List Event).
    Write (first_at layout (HeaderPlace (16 * s))) (headers_bytes (in_sector s t)) ∷ es) (split layout t (s + 1) k m e (next s k e is))
  where
    more : (k m : ℕ) → suc k + m ≡ suc (k + m)
    more k m = omega arith

    next : (s k e : ℕ) → s + suc k ≡ e → (s + 1) + k ≡ e
    next s k e is = omega (arith, is)

-- one more sector is written
pub one_more : (layout : Layout) (t : List Header) (k : ℕ) (old mid new : Option Told)
    → mid ≡ after_all (header_writes layout 0 (sectors_of 0 k t)) old → new ≡ after_all (sector_events layout k t) mid
    → new ≡ after_all (header_writes layout 0 (sectors_of 0 (k + 1) t)) old
one_more layout t k old mid new before now = let first : List Event = header_writes layout 0 (sectors_of 0 k t) in
    let more : header_writes layout 0 (sectors_of 0 (k + 1) t) ≡ first ++ sector_events layout k t = split layout t 0 k 1 k (zero_plus k) in
    let all : after_all (header_writes layout 0 (sectors_of 0 (k + 1) t)) old ≡ after_all (sector_events layout k t) (after_all first old) =
    ap (λ (es : List Event). after_all es old) more ∙ after_append first (sector_events layout k t) old in
    now ∙ ap (λ (o : Option Told). after_all (sector_events layout k t) o) before ∙ sym all

-- the write of a sector fails
pub one_fails : (layout : Layout) (t : List Header) (k n : ℕ) (old mid new : Option Told)
    → k < n → mid ≡ after_all (header_writes layout 0 (sectors_of 0 k t)) old → AddsPart (sector_events layout k t) mid new
    → AddsPart (header_writes layout 0 (sectors_of 0 n t)) old new
one_fails layout t k n old mid new inside before part = let rest : ℕ = n - k - 1 in let all : k + suc rest ≡ n = omega (arith, inside) in
    let last : List Event = header_writes layout (k + 1) (sectors_of (k + 1) rest t) in
    subst (λ (c : ℕ). AddsPart (header_writes layout 0 (sectors_of 0 c t)) old new) all
    (subst (λ (es : List Event). AddsPart es old new) (sym (split layout t 0 k (suc rest) k (zero_plus k)))
    (all_then (header_writes layout 0 (sectors_of 0 k t))
    (sector_events layout k t ++ last) old mid new before (part_then (sector_events layout k t) last mid new part)))
