-- The device calls of a mending, sector by sector.
use Rattle.std.{proofs.Common.{◌≡◌, ℕ, zero, suc, ◌+◌, ◌-◌, ◌<◌, ◌||◌, List, [], ◌∷◌, ◌++◌, Bool, true, false, Option, refl, sym, ◌∙◌, ap, subst, append-nil, append_assoc, arith}, specs.List.{filter, range_with_len}}
use Rattle.{df_base.specs.Log.{Event, Sync}, df_layout.specs.declared.{damage.Mend.{Mend}, layout.Layout.{Layout}}}
use Rattle.df_disk.{specs.{Told.{Told}, Adds.{AddsPart, after_all}}, proofs.Laws.{all_then, part_then, after_append}}
use Rattle.{df_format.specs.declared.header.Header.{Header}, df_headers.specs.Ring.{sector_events, sector_writes}}
use Rattle.df_opening.specs.Mending.{header_events, needs_sector, sectors_to, some_of, wanted_writes}
use Rattle.df_damage.{specs.Plan.{if_wanted}, proofs.Laws.{filter_more}}

-- ---- sectors

writes_append : (layout : Layout) (table : List Header) (ks js : List ℕ)
    → sector_writes layout table (ks ++ js) ≡ sector_writes layout table ks ++ sector_writes layout table js
writes_append layout table [] js = refl
writes_append layout table (k ∷ ks) js = ap (λ (es : List Event). sector_events layout k table ++ es) (writes_append layout table ks js)

pub some_more : (ks : List ℕ) (b : Bool) (k : ℕ) → some_of (ks ++ if_wanted b k) ≡ (some_of ks || b)
some_more [] true k = refl
some_more [] false k = refl
some_more (j ∷ ks) b k = refl

pub sectors_more : (mends : List Mend) (k : ℕ) → sectors_to (k + 1) mends ≡ sectors_to k mends ++ if_wanted (needs_sector mends k) k
sectors_more mends k = filter_more (needs_sector mends) k

pub wrote_more : (mends : List Mend) (k : ℕ) (wrote done : Bool)
    → wrote ≡ some_of (sectors_to k mends) → done ≡ needs_sector mends k → (wrote || done) ≡ some_of (sectors_to (k + 1) mends)
wrote_more mends k wrote done before turn = ap (λ (b : Bool). b || done) before ∙ ap (λ (b : Bool). some_of (sectors_to k mends) || b) turn
    ∙ sym (some_more (sectors_to k mends) (needs_sector mends k) k) ∙ ap some_of (sym (sectors_more mends k))

-- the writes as far as sector k, and its own
writes_more : (layout : Layout) (table : List Header) (mends : List Mend) (k : ℕ) → sector_writes layout table (sectors_to (k + 1) mends)
    ≡ sector_writes layout table (sectors_to k mends) ++ wanted_writes layout table mends k
writes_more layout table mends k = ap (sector_writes layout table) (sectors_more mends k)
    ∙ writes_append layout table (sectors_to k mends) (if_wanted (needs_sector mends k) k)

pub turn_adds : (layout : Layout) (table : List Header) (mends : List Mend) (k : ℕ) (old mid new : Option Told)
    → mid ≡ after_all (sector_writes layout table (sectors_to k mends)) old → new ≡ after_all (wanted_writes layout table mends k) mid
    → new ≡ after_all (sector_writes layout table (sectors_to (k + 1) mends)) old
turn_adds layout table mends k old mid new before turn = turn ∙ ap (after_all (wanted_writes layout table mends k)) before
    ∙ sym (after_append (sector_writes layout table (sectors_to k mends)) (wanted_writes layout table mends k) old)
    ∙ ap (λ (es : List Event). after_all es old) (sym (writes_more layout table mends k))

-- those after it
rest_from : (p : ℕ → Bool) (k m : ℕ) → (rest : List ℕ) × (filter p (range_with_len 0 (k + m)) ≡ filter p (range_with_len 0 k) ++ rest)
rest_from p k zero = ([], ap (λ (n : ℕ). filter p (range_with_len 0 n)) (let same : k + 0 ≡ k = omega arith in same) ∙ sym (append-nil (filter p (range_with_len 0 k))))
rest_from p k (suc m) = let r = rest_from p k m in let one : k + suc m ≡ k + m + 1 = omega arith in (
  r.0 ++ if_wanted (p (k + m)) (k + m),
  ap (λ (n : ℕ). filter p (range_with_len 0 n)) one ∙ filter_more p (k + m) ∙ ap (λ (xs : List ℕ). xs ++ if_wanted (p (k + m)) (k + m)) r.1
      ∙ append_assoc (filter p (range_with_len 0 k)) r.0 (if_wanted (p (k + m)) (k + m)),
)

pub turn_fails : (layout : Layout) (table : List Header) (mends : List Mend) (k n : ℕ) (old mid new : Option Told)
    → k < n → mid ≡ after_all (sector_writes layout table (sectors_to k mends)) old → AddsPart (wanted_writes layout table mends k) mid new
    → AddsPart (sector_writes layout table (sectors_to n mends)) old new
turn_fails layout table mends k n old mid new inside before part = let rest = rest_from (needs_sector mends) (k + 1) (n - (k + 1)) in
    let all : k + 1 + (n - (k + 1)) ≡ n = omega (arith, inside) in let is : sector_writes layout table (sectors_to n mends)
    ≡ (sector_writes layout table (sectors_to k mends) ++ wanted_writes layout table mends k) ++ sector_writes layout table rest.0 =
    ap (λ (m : ℕ). sector_writes layout table (sectors_to m mends)) (sym all)
    ∙ ap (sector_writes layout table) rest.1 ∙ writes_append layout table (sectors_to (k + 1) mends) rest.0
    ∙ ap (λ (es : List Event). es ++ sector_writes layout table rest.0) (writes_more layout table mends k) in
    subst (λ (es : List Event). AddsPart es old new) (sym is) (part_then
    (sector_writes layout table (sectors_to k mends) ++ wanted_writes layout table mends k) (sector_writes layout table rest.0) old new
    (all_then (sector_writes layout table (sectors_to k mends)) (wanted_writes layout table mends k) old mid new before part))

-- ---- the sync after them

pub headers_some : (layout : Layout) (table : List Header) (ks : List ℕ)
    → true ≡ some_of ks → header_events layout table ks ≡ sector_writes layout table ks ++ Sync ∷ []
headers_some layout table [] some = absurd (cc)
headers_some layout table (k ∷ ks) some = refl

pub headers_fail : (layout : Layout) (table : List Header) (ks : List ℕ) (old new : Option Told)
    → AddsPart (sector_writes layout table ks) old new → AddsPart (header_events layout table ks) old new
headers_fail layout table [] old new part = part
headers_fail layout table (k ∷ ks) old new part = part_then (sector_writes layout table (k ∷ ks)) (Sync ∷ []) old new part
