-- Checksums and marks side by side are entries, and an entry is found again in its marks.
use Rattle.std.{proofs.{Common.{◌≡◌, ℕ, zero, suc, ◌+◌, ◌-◌, ◌*◌, ◌/◌, ◌%◌, ◌<◌, ◌≤◌, ◌==◌, ◌||◌, not, Bool, true, false, Some, List, [], ◌∷◌, length, set, refl, sym, ap, ◌∙◌, arith, ne_eqb}, lemmas.Option.{same_Some}}, specs.Prelude.{slice_get}}
use Rattle.df_grid.{specs.{declared.entry.Entry.{Entry}, Entries.{HasEntry, bit, entries_of, entry_of, is_marked, mark_of}, Table.{finishing}}, proofs.Single.{some_there}}

-- ---- marks

-- a number that is 1 where it is a bit
is_one : (b : Bool) (n : ℕ) → n ≡ bit b → (n == 1) ≡ b
is_one true n is = rw is refl
is_one false n is = rw is refl

small : (b : Bool) → bit b ≤ 1
small true = omega arith
small false = omega arith

module _ (l c w d h : Bool) where
  abbrev whole : ℕ
  whole = bit l + 2 * bit c + 4 * bit w + 8 * bit d + 16 * bit h

  first : whole % 2 ≡ bit l
  first = omega (arith, small l, small c, small w, small d, small h)

  second : whole / 2 % 2 ≡ bit c
  second = omega (arith, small l, small c, small w, small d, small h)

  third : whole / 4 % 2 ≡ bit w
  third = omega (arith, small l, small c, small w, small d, small h)

  fourth : whole / 8 % 2 ≡ bit d
  fourth = omega (arith, small l, small c, small w, small d, small h)

  fifth : whole / 16 % 2 ≡ bit h
  fifth = omega (arith, small l, small c, small w, small d, small h)

pub entry_back : (e : Entry) → entry_of e.checksum (mark_of e) ≡ e
entry_back e = let l = is_one e.live (mark_of e % 2) (first e.live e.captured e.written e.durable e.chained) in
    let c = is_one e.captured (mark_of e / 2 % 2) (second e.live e.captured e.written e.durable e.chained) in
    let w = is_one e.written (mark_of e / 4 % 2) (third e.live e.captured e.written e.durable e.chained) in
    let d = is_one e.durable (mark_of e / 8 % 2) (fourth e.live e.captured e.written e.durable e.chained) in
    let h = is_one e.chained (mark_of e / 16 % 2) (fifth e.live e.captured e.written e.durable e.chained) in
    ap (λ (b : Bool). record { checksum = e.checksum; live = b; captured = mark_of e / 2 % 2 == 1; written = mark_of e / 4 % 2 == 1; durable = mark_of e / 8 % 2 == 1; chained = mark_of e / 16 % 2 == 1 }) l
    ∙ ap (λ (b : Bool). record { checksum = e.checksum; live = e.live; captured = b; written = mark_of e / 4 % 2 == 1; durable = mark_of e / 8 % 2 == 1; chained = mark_of e / 16 % 2 == 1 }) c
    ∙ ap (λ (b : Bool). record { checksum = e.checksum; live = e.live; captured = e.captured; written = b; durable = mark_of e / 8 % 2 == 1; chained = mark_of e / 16 % 2 == 1 }) w
    ∙ ap (λ (b : Bool). record { checksum = e.checksum; live = e.live; captured = e.captured; written = e.written; durable = b; chained = mark_of e / 16 % 2 == 1 }) d
    ∙ ap (λ (b : Bool).
    record { checksum = e.checksum; live = e.live; captured = e.captured; written = e.written; durable = e.durable; chained = b }) h

-- the mark of a finished entry
entry_finished_of : (c : List ℕ) (m n : ℕ) → n ≡ m % 2 + 8 * (m / 2 % 4) → entry_of c n ≡ finishing (entry_of c m)
entry_finished_of c m n is = let live : n % 2 ≡ m % 2 = omega (arith, is) in let captured : n / 2 % 2 ≡ 0 = omega (arith, is) in
    let written : n / 4 % 2 ≡ 0 = omega (arith, is) in let durable : n / 8 % 2 ≡ m / 2 % 2 = omega (arith, is) in
    let chained : n / 16 % 2 ≡ m / 4 % 2 = omega (arith, is) in
    λ i. record { checksum = c; live = live i == 1; captured = captured i == 1; written = written i == 1; durable = durable i == 1; chained = chained i == 1 }

pub entry_finished : (c : List ℕ) (m : ℕ) → entry_of c (m % 2 + 8 * (m / 2 % 4)) ≡ finishing (entry_of c m)
entry_finished c m = entry_finished_of c m (m % 2 + 8 * (m / 2 % 4)) refl

nonzero : (n : ℕ) → 0 < n → true ≡ not (n == 0)
nonzero n some = sym (ap not (ne_eqb n 0 (λ none. absurd (omega (arith, none, some)))))

bits : (a b d n : ℕ)
    → a ≤ 1 → b ≤ 1 → d ≤ 1 → n ≡ a + 8 * (b + 2 * d) → ((a == 1) || (false || (false || ((b == 1) || (d == 1))))) ≡ not (n == 0)
bits zero zero zero n la lb ld is = rw is refl
bits (suc zero) b d n la lb ld is = nonzero n (omega (arith, is))
bits zero (suc zero) d n la lb ld is = nonzero n (omega (arith, is))
bits zero zero (suc zero) n la lb ld is = nonzero n (omega (arith, is))
bits (suc (suc a)) b d n la lb ld is = absurd (omega (arith, la))
bits zero (suc (suc b)) d n la lb ld is = absurd (omega (arith, lb))
bits zero zero (suc (suc d)) n la lb ld is = absurd (omega (arith, ld))

pub marked_finished : (c : List ℕ) (m : ℕ) → is_marked (entry_of c (m % 2 + 8 * (m / 2 % 4))) ≡ not (m % 2 + 8 * (m / 2 % 4) == 0)
marked_finished c m = ap is_marked (entry_finished c m)
    ∙ bits (m % 2) (m / 2 % 2) (m / 4 % 2) (m % 2 + 8 * (m / 2 % 4)) (omega arith) (omega arith) (omega arith) (omega arith)

-- ---- lists side by side

pub length_entries : (cs : List (List ℕ)) (ms : List ℕ) → length cs ≡ length ms → length (entries_of cs ms) ≡ length cs
length_entries [] ms same = refl
length_entries (c ∷ cs) [] same = absurd (omega arith)
length_entries (c ∷ cs) (m ∷ ms) same = omega (arith, length_entries cs ms (omega arith))

-- a place of the table is one of both lists
pub record IsPlace (checks : List (List ℕ)) (marks : List ℕ) (place : ℕ) : Type 0 where
  pub check : place < length checks
  pub mark : place < length marks

pub has_place : (checks : List (List ℕ)) (marks : List ℕ) (seen : List Entry) (address : ℕ) → length checks ≡ length marks
    → entries_of checks marks ≡ seen → HasEntry seen address → IsPlace checks marks (address - 1)
has_place checks marks seen address same is has = record {
  check = omega (arith, has.0, has.1, length_entries checks marks same, ap length is);
  mark = omega (arith, has.0, has.1, same, length_entries checks marks same, ap length is);
}

pub get_entries : (cs : List (List ℕ)) (ms : List ℕ) (i : ℕ) (c : List ℕ) (m : ℕ)
    → slice_get cs i ≡ Some c → slice_get ms i ≡ Some m → slice_get (entries_of cs ms) i ≡ Some (entry_of c m)
get_entries [] ms i c m has marked = cc
get_entries (x ∷ cs) [] i c m has marked = cc
get_entries (x ∷ cs) (y ∷ ms) zero c m has marked = let one : x ≡ c = cc in let two : y ≡ m = cc in
    ap (λ (z : List ℕ). Some (entry_of z y)) one ∙ ap (λ (z : ℕ). Some (entry_of c z)) two
get_entries (x ∷ cs) (y ∷ ms) (suc i) c m has marked = get_entries cs ms i c m has marked

pub set_entries : (cs : List (List ℕ)) (ms : List ℕ) (i : ℕ) (e : Entry)
    → length cs ≡ length ms → entries_of (set cs i e.checksum) (set ms i (mark_of e)) ≡ set (entries_of cs ms) i e
set_entries [] ms i e same = refl
set_entries (c ∷ cs) [] i e same = absurd (omega arith)
set_entries (c ∷ cs) (m ∷ ms) zero e same = ap (λ (x : Entry). x ∷ entries_of cs ms) (entry_back e)
set_entries (c ∷ cs) (m ∷ ms) (suc i) e same = ap (λ (es : List Entry). entry_of c m ∷ es) (set_entries cs ms i e (omega arith))

-- a mark alone is replaced
pub set_mark : (cs : List (List ℕ)) (ms : List ℕ) (i : ℕ) (c : List ℕ) (m : ℕ)
    → slice_get cs i ≡ Some c → entries_of cs (set ms i m) ≡ set (entries_of cs ms) i (entry_of c m)
set_mark [] ms i c m at = absurd (cc)
set_mark (x ∷ cs) [] i c m at = refl
set_mark (x ∷ cs) (y ∷ ms) zero c m at = let one : x ≡ c = cc in ap (λ (z : List ℕ). entry_of z m ∷ entries_of cs ms) one
set_mark (x ∷ cs) (y ∷ ms) (suc i) c m at = ap (λ (es : List Entry). entry_of x y ∷ es) (set_mark cs ms i c m at)

-- an entry whose mark alone is replaced, by the mark of what it is when it is finished
pub record IsReplaced (cs : List (List ℕ)) (ms : List ℕ) (i mark : ℕ) (e : Entry) : Type 0 where
  pub checksum : List ℕ
  pub is : finishing e ≡ entry_of checksum mark
  pub entries : entries_of cs (set ms i mark) ≡ set (entries_of cs ms) i (finishing e)

pub replaced : (cs : List (List ℕ)) (ms : List ℕ) (i before mark : ℕ) (e : Entry)
    → i < length cs → slice_get ms i ≡ Some before → ((c : List ℕ) → entry_of c mark ≡ finishing (entry_of c before))
    → slice_get (entries_of cs ms) i ≡ Some e → IsReplaced cs ms i mark e
replaced cs ms i before mark e less old new at = let some = some_there cs i less in
    let was : entry_of some.0 before ≡ e = same_Some _ _ (sym (get_entries cs ms i some.0 before some.1 old) ∙ at) in
    let done : entry_of some.0 mark ≡ finishing e = new some.0 ∙ ap finishing was in
    record { checksum = some.0; is = sym done; entries = set_mark cs ms i some.0 mark some.1 ∙ ap (λ (x : Entry). set (entries_of cs ms) i x) done }
