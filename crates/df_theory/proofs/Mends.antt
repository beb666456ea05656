-- An open's mending, step by step.
use Rattle.std.proofs.{Common.{◌≡◌, ◌⊎◌, inl, inr, ℕ, ◌<◌, List, [], ◌∷◌, ◌++◌, Option, Some, None, refl, sym, ◌∙◌, ap, subst}, lemmas.Bool.{cases_eq}}
use Rattle.df_theory.{specs.{Units.{AnyUnit, Content, CopyPlace, CopyUnit, Header, HeaderPlace, HeaderUnit, Place, Units, or_else, overlay}, Shape.{Shape}, View.{View}, UnitLog.{PutsOne, Synced, UnitLog, add, now, wrote}, Rests.{IsGoodLog, IsQuiet, RestsOn}, Runs.{AtEach, Puts, Step, Syncs, after_steps}, WriterLaws.{IsHeaderMend}, MakingLaws.{all_puts}, MendLaws.{AllPutCopy, AllPutTable, IsNumber, MendLaw, MendsWholeLaw, PutsTable, Reaches, copy_steps, header_steps, mend_steps, IsFromSlot}}, proofs.{Steps.{rests_safe}, Writes.{good_rests, sync_law, header_law, copy_law, quiet_synced, put_else}, Runs.{each_append, after_append}}}

-- what the table says of the slots still holds after some of its sectors were written
pub record IsUnderWay (sh : Shape) (image : Units) (v : View) (table : ℕ → Header) : Type 0 where
  pub each : (s : ℕ) → IsFromSlot sh image v s (table s)

-- a slot that shows the table's header still does so
shown_still : (table : ℕ → Header) (put image : Units) → PutsTable table put
    → (s : ℕ) → image (HeaderPlace s) ≡ Some (HeaderUnit (table s)) → overlay put image (HeaderPlace s) ≡ Some (HeaderUnit (table s))
shown_still table put image puts s shown = go (put (HeaderPlace s)) refl
  where
    go : (o : Option AnyUnit) → put (HeaderPlace s) ≡ o → overlay put image (HeaderPlace s) ≡ Some (HeaderUnit (table s))
    go None none = ap (λ (o : Option AnyUnit). or_else o (image (HeaderPlace s))) none ∙ shown
    go (Some y) some = let e = puts (HeaderPlace s) y some in let slot : e.0 ≡ s = (let at = e.1 in cc) in
        ap (λ (o : Option AnyUnit). or_else o (image (HeaderPlace s))) some ∙ ap Some (e.2 ∙ ap (λ (k : ℕ). HeaderUnit (table k)) slot)

shown_put : (table : ℕ → Header) (put image : Units) → PutsTable table put
    → (s : ℕ) (y : AnyUnit) → put (HeaderPlace s) ≡ Some y → overlay put image (HeaderPlace s) ≡ Some (HeaderUnit (table s))
shown_put table put image puts s y some = let e = puts (HeaderPlace s) y some in let slot : e.0 ≡ s = (let at = e.1 in cc) in
    ap (λ (o : Option AnyUnit). or_else o (image (HeaderPlace s))) some ∙ ap Some (e.2 ∙ ap (λ (k : ℕ). HeaderUnit (table k)) slot)

pub under_way_still : (sh : Shape) (v : View) (table : ℕ → Header) (put image : Units)
    → PutsTable table put → IsUnderWay sh image v table → IsUnderWay sh (overlay put image) v table
under_way_still sh v table put image puts way = record {
  each = λ s. elim (way.each s) [
    | inl shown ↦ inl (shown_still table put image puts s shown)
    | inr history ↦ inr history
  ];
}

pub is_mend : (sh : Shape) (v : View) (table : ℕ → Header) (put image : Units)
    → PutsTable table put → IsUnderWay sh image v table → IsHeaderMend sh image v put
is_mend sh v table put image puts way = record {
  each = λ place y is. let e = puts place y is in (e.0, table e.0, e.1, e.2, way.each e.0);
}

-- the header sectors
headers_rests : (sh : Shape) (v : View) (table : ℕ → Header) (puts : List Units) (log : UnitLog) → RestsOn sh log v → IsUnderWay sh (now
    log) v table → AllPutTable table puts → AtEach (IsGoodLog sh v v) log (all_puts puts) × RestsOn sh (after_steps (all_puts puts) log) v
headers_rests sh v table [] log rests way all = (good_rests sh log v v v rests (inl refl), rests)
headers_rests sh v table (put ∷ puts) log rests way all =
    let wrote_one = header_law sh log v put rests (is_mend sh v table put (now log) all.0 way) in
    let rest = headers_rests sh v table puts (wrote put log) wrote_one.0 (under_way_still sh v table put (now log) all.0 way) all.1 in
    ((good_rests sh log v v v rests (inl refl), rest.0), rest.1)

pub synced_after : (sh : Shape) (v : View) (log : UnitLog) → RestsOn sh log v → RestsOn sh (add Synced log) v
synced_after sh v log rests = sync_law sh log v (rests_safe sh log v rests).synced rests.holds

-- ---- what stays as it was

-- none of these writes reaches the place
abbrev pub AllMiss : Place → List Step → Type 0
AllMiss place [] = Unit {0}
AllMiss place ((Puts put) ∷ ss) = (put place ≡ None) × AllMiss place ss
AllMiss place (Syncs ∷ ss) = AllMiss place ss

pub missed : (place : Place) (ss : List Step) (log : UnitLog) → AllMiss place ss → now (after_steps ss log) place ≡ now log place
missed place [] log miss = refl
missed place ((Puts put) ∷ ss) log miss = missed place ss (wrote put log) miss.1 ∙ ap (λ (o : Option AnyUnit). or_else o (now log place)) miss.0
missed place (Syncs ∷ ss) log miss = missed place ss (add Synced log) miss

pub miss_append : (place : Place) (ss ts : List Step) → AllMiss place ss → AllMiss place ts → AllMiss place (ss ++ ts)
miss_append place [] ts one two = two
miss_append place ((Puts put) ∷ ss) ts one two = (one.0, miss_append place ss ts one.1 two)
miss_append place (Syncs ∷ ss) ts one two = miss_append place ss ts one two

pub no_copy : (table : ℕ → Header) (put : Units) → PutsTable table put → (n : ℕ) → put (CopyPlace n) ≡ None
no_copy table put puts n = go (put (CopyPlace n)) refl
  where
    go : (o : Option AnyUnit) → put (CopyPlace n) ≡ o → put (CopyPlace n) ≡ None
    go None none = none
    go (Some y) some = absurd (let at = (puts (CopyPlace n) y some).1 in cc)

pub headers_miss : (table : ℕ → Header) (puts : List Units) → AllPutTable table puts → (n : ℕ) → AllMiss (CopyPlace n) (all_puts puts)
headers_miss table [] all n = tt
headers_miss table (put ∷ puts) all n = (no_copy table put all.0 n, headers_miss table puts all.1 n)

pub header_steps_miss : (table : ℕ → Header) (puts : List Units) → AllPutTable table puts → (n : ℕ) → AllMiss (CopyPlace n) (header_steps puts)
header_steps_miss table [] all n = tt
header_steps_miss table (put ∷ puts) all n =
    (no_copy table put all.0 n, miss_append (CopyPlace n) (all_puts puts) (Syncs ∷ []) (headers_miss table puts all.1 n) tt)

no_header : (c : Content) (k : ℕ) (put : Units) → PutsOne put (CopyPlace k) (CopyUnit c) → (s : ℕ) → put (HeaderPlace s) ≡ None
no_header c k put one s = go (put (HeaderPlace s)) refl
  where
    go : (o : Option AnyUnit) → put (HeaderPlace s) ≡ o → put (HeaderPlace s) ≡ None
    go None none = none
    go (Some y) some = absurd (let at = (one.only (HeaderPlace s) y some).0 in cc)

pub copies_miss : (c : Content) (m n : ℕ) (ks : List (ℕ × Units)) → AllPutCopy c m n ks → (s : ℕ) → AllMiss (HeaderPlace s) (copy_steps ks)
copies_miss c m n [] all s = tt
copies_miss c m n (k ∷ ks) all s = (no_header c k.0 k.1 all.0 s, copies_miss c m n ks all.3 s)

-- ---- the copies

copies_rests : (sh : Shape) (v : View) (m n : ℕ) (ks : List (ℕ × Units)) (log : UnitLog) → m < n
    → n < 4 → now log (CopyPlace m) ≡ Some (CopyUnit v.checkpoint.content) → now log (CopyPlace n) ≡ Some (CopyUnit v.checkpoint.content)
    → RestsOn sh log v → IsQuiet log → AllPutCopy v.checkpoint.content m n ks
    → AtEach (IsGoodLog sh v v) log (copy_steps ks) × RestsOn sh (after_steps (copy_steps ks) log) v
copies_rests sh v m n [] log apart inside one two rests quiet all = (good_rests sh log v v v rests (inl refl), rests)
copies_rests sh v m n (k ∷ ks) log apart inside one two rests quiet all =
    let stepped = copy_law sh log v k.1 k.0 rests quiet all.0 (record { agreed = record { first = m; second = n; apart = apart; inside = inside; at_first = one; at_second = two }; no_first = all.1; no_second = all.2 }) in
    let next : UnitLog = add Synced (wrote k.1 log) in
    let first : now next (CopyPlace m) ≡ Some (CopyUnit v.checkpoint.content) = put_else k.1 (now log) (CopyPlace k.0)
    (CopyPlace m) (CopyUnit v.checkpoint.content) all.0 (λ same. all.1 (let at : CopyPlace m ≡ CopyPlace k.0 = same in cc)) ∙ one in
    let second : now next (CopyPlace n) ≡ Some (CopyUnit v.checkpoint.content) = put_else k.1 (now log) (CopyPlace k.0)
    (CopyPlace n) (CopyUnit v.checkpoint.content) all.0 (λ same. all.2 (let at : CopyPlace n ≡ CopyPlace k.0 = same in cc)) ∙ two in
    let rest = copies_rests sh v m n ks next apart inside first second stepped.rests (quiet_synced (wrote k.1 log)) all.3 in
    ((good_rests sh log v v v rests (inl refl), (stepped.good, rest.0)), rest.1)

-- ---- all of it

-- where the header sectors lead, with this at each moment
pub record IsHalfWay (P : UnitLog → Type 0) (sh : Shape) (log : UnitLog) (v : View) (headers : List Units) : Type 0 where
  pub moments : AtEach P log (header_steps headers)
  pub rests : RestsOn sh (after_steps (header_steps headers) log) v
  pub quiet : IsQuiet (after_steps (header_steps headers) log)

pub half_way :
    (P : UnitLog → Type 0) (sh : Shape) (log : UnitLog) (v : View) (headers : List Units)
    → ((l : UnitLog) → RestsOn sh l v → P l) → RestsOn sh log v → IsQuiet log
    → AtEach P log (all_puts headers) × RestsOn sh (after_steps (all_puts headers) log) v → IsHalfWay P sh log v headers
half_way P sh log v [] good rests quiet written = record { moments = good log rests; rests = rests; quiet = quiet }
half_way P sh log v (put ∷ puts) good rests quiet written = let after : UnitLog = after_steps (all_puts (put ∷ puts)) log in
    let synced : RestsOn sh (add Synced after) v = synced_after sh v after written.1 in
    let same : after_steps (header_steps (put ∷ puts)) log ≡ add Synced after = after_append (all_puts (put ∷ puts)) (Syncs ∷ []) log in
    record {
      moments = each_append P (all_puts (put ∷ puts)) (Syncs ∷ []) log written.0 (good after written.1, good (add Synced after) synced);
      rests = rw (sym same) at synced;
      quiet = subst IsQuiet (sym same) (quiet_synced after);
    }

pub mend_law : MendLaw
mend_law sh log v table headers copies may =
    let half = half_way (IsGoodLog sh v v) sh log v headers (λ l at. good_rests sh l v v v at (inl refl))
    may.rests may.quiet (headers_rests sh v table headers log may.rests (record { each = λ s. (may.tells s).from }) may.puts_headers) in
    let mid : UnitLog = after_steps (header_steps headers) log in let stays : (n : ℕ) → now mid (CopyPlace n) ≡ now log (CopyPlace n) =
    λ n. missed (CopyPlace n) (header_steps headers) log (header_steps_miss table headers may.puts_headers n) in let agreed = may.agreed in
    let rest = copies_rests sh v agreed.first agreed.second copies mid agreed.apart
    agreed.inside (stays agreed.first ∙ agreed.at_first) (stays agreed.second ∙ agreed.at_second) half.rests half.quiet may.puts_copies in (
      each_append (IsGoodLog sh v v) (header_steps headers) (copy_steps copies) log half.moments rest.0,
      rw (sym (after_append (header_steps headers) (copy_steps copies) log)) at rest.1,
    )

-- ---- nothing is left

pub headers_shown : (table : ℕ → Header) (puts : List Units) (log : UnitLog) → AllPutTable table puts → (s : ℕ) → (now log (HeaderPlace s) ≡ Some (HeaderUnit (table s))) ⊎ Reaches puts (HeaderPlace s) → now (after_steps (all_puts puts) log) (HeaderPlace s) ≡ Some (HeaderUnit (table s))
headers_shown table [] log all s (inl shown) = shown
headers_shown table [] log all s (inr none) = absurd none
headers_shown table (put ∷ puts) log all s (inl shown) =
    headers_shown table puts (wrote put log) all.1 s (inl (shown_still table put (now log) all.0 s shown))
headers_shown table (put ∷ puts) log all s (inr (inl here)) =
    headers_shown table puts (wrote put log) all.1 s (inl (shown_put table put (now log) all.0 s here.0 here.1))
headers_shown table (put ∷ puts) log all s (inr (inr there)) = headers_shown table puts (wrote put log) all.1 s (inr there)

pub steps_shown : (table : ℕ → Header) (puts : List Units) (log : UnitLog) → AllPutTable table puts → (s : ℕ) → (now log (HeaderPlace s) ≡ Some (HeaderUnit (table s))) ⊎ Reaches puts (HeaderPlace s) → now (after_steps (header_steps puts) log) (HeaderPlace s) ≡ Some (HeaderUnit (table s))
steps_shown table [] log all s (inl shown) = shown
steps_shown table [] log all s (inr none) = absurd none
steps_shown table (put ∷ puts) log all s either =
    ap (λ (l : UnitLog). now l (HeaderPlace s)) (after_append (all_puts (put ∷ puts)) (Syncs ∷ []) log)
    ∙ headers_shown table (put ∷ puts) log all s either

pub copies_shown : (c : Content) (m n : ℕ) (ks : List (ℕ × Units)) (log : UnitLog) → AllPutCopy c m n ks → (k : ℕ)
    → (now log (CopyPlace k) ≡ Some (CopyUnit c)) ⊎ IsNumber k ks → now (after_steps (copy_steps ks) log) (CopyPlace k) ≡ Some (CopyUnit c)
copies_shown c m n [] log all k (inl shown) = shown
copies_shown c m n [] log all k (inr none) = absurd none
copies_shown c m n (j ∷ ks) log all k either = copies_shown c m n ks (add Synced (wrote j.1 log)) all.3 k (elim (cases_eq k j.0) [
  | inl here ↦ inl
      (ap (λ (i : ℕ). overlay j.1 (now log) (CopyPlace i)) here ∙ ap (λ (o : Option AnyUnit). or_else o (now log (CopyPlace j.0))) all.0.at)
  | inr away ↦ elim either [
    | inl shown ↦ inl (put_else j.1 (now log) (CopyPlace j.0) (CopyPlace k) (CopyUnit c) all.0 (λ same.
        away (let at : CopyPlace k ≡ CopyPlace j.0 = same in cc)) ∙ shown)
    | inr number ↦ elim number [ inl here ↦ absurd (away here) | inr there ↦ inr there ]
  ]
])

pub mends_whole_law : MendsWholeLaw
mends_whole_law sh log v table headers copies may = let mid : UnitLog = after_steps (header_steps headers) log in
    let done : after_steps (mend_steps headers copies) log ≡ after_steps (copy_steps copies) mid =
    after_append (header_steps headers) (copy_steps copies) log in record {
      copies = λ k below. ap (λ (l : UnitLog). now l (CopyPlace k)) done ∙
          copies_shown v.checkpoint.content may.agreed.first may.agreed.second copies mid may.puts_copies k (elim (may.each_copy k below) [
            | inl shown ↦ inl (missed (CopyPlace k) (header_steps headers) log (header_steps_miss table headers may.puts_headers k) ∙ shown)
            | inr number ↦ inr number
          ]);
      headers = λ s below. (
        table s,
        ap (λ (l : UnitLog). now l (HeaderPlace s)) done ∙ missed (HeaderPlace s) (copy_steps copies) mid (copies_miss v.checkpoint.content may.agreed.first may.agreed.second copies may.puts_copies s) ∙ steps_shown table headers log may.puts_headers s (may.each_slot s below),
        (may.tells s).tail,
      );
    }
