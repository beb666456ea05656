-- What a capture and its end are for the machine, and that what holds of a table still does.
use Rattle.std.{proofs.{Common.{◌≡◌, ℕ, zero, suc, ◌+◌, ◌≤◌, ◌==◌, ◌||◌, Bool, true, false, cond, Some, None, List, [], ◌∷◌, length, map, take, refl, sym, ap, ◌∙◌, arith, eqb-true}, lemmas.List.{length-map, length-take}, lemmas.Option.{slice_get_within}, Math.Bool.{or-false}}, specs.Prelude.{slice_get}}
use Rattle.df_model.{specs.{Work.{is_in}, Blocks.{blocks_captured, capture_finished, sum_at}, Sense.{RiseFrom}}, proofs.Laws.{rise_take}}
use Rattle.df_units.specs.Meaning.{number_of}
use Rattle.df_grid.{specs.{declared.entry.Entry.{Entry}, Entries.{is_marked}, Table.{AreTaken, IsGridTable, blocks_in, capturing, finishing, is_captured, is_durable, is_live, open_from, paired, picked}}, proofs.{Picks.{pick_at, pick_map, pick_none}, Chains.{pair_same, sum_map}, Free.{open_rise}}}

-- an entry of a changed list is one of the list, changed
pub get_map : (f : Entry → Entry) (es : List Entry) (i : ℕ) (x : Entry)
    → slice_get (map f es) i ≡ Some x → (e : Entry) × (slice_get es i ≡ Some e) × (x ≡ f e)
get_map f [] i x at = absurd (cc)
get_map f (e ∷ es) zero x at = (e, refl, (let same : x ≡ f e = cc in same))
get_map f (e ∷ es) (suc i) x at = get_map f es i x at

pairs_map : (f : Entry → Entry) (es : List Entry) (xs : List ℕ)
    → ((e : Entry) → (f e).checksum ≡ e.checksum) → paired (map f es) xs ≡ paired es xs
pairs_map f es xs same = pair_same es (map f es) xs (λ a has. sum_map f a es same)

pub no_pairs : (es : List Entry) (xs : List ℕ) → paired es xs ≡ [] → xs ≡ []
no_pairs es [] none = refl
no_pairs es (x ∷ xs) none = absurd (cc)

-- ---- the addresses that a capture takes

in_take : (a n : ℕ) (xs : List ℕ) → is_in a (take n xs) ≡ true → is_in a xs ≡ true
in_take a zero xs has = absurd (cc)
in_take a (suc n) [] has = absurd (cc)
in_take a (suc n) (x ∷ xs) has = go (a == x) has (λ there. in_take a n xs there)
  where
    go : (b : Bool) → (b || is_in a (take n xs)) ≡ true → (is_in a (take n xs) ≡ true → is_in a xs ≡ true) → (b || is_in a xs) ≡ true
    go true has more = refl
    go false has more = more has

-- an address of the list is free
open_free : (a s : ℕ) (taken : List Bool) → is_in a (open_from s taken) ≡ true → (i : ℕ) × (a ≡ s + i) × (slice_get taken i ≡ Some false)
open_free a s [] has = absurd (cc)
open_free a s (true ∷ ts) has = let later = open_free a (s + 1) ts has in (suc later.0, omega (arith, later.1), later.2)
open_free a s (false ∷ ts) has = go (a == s) refl has (λ there. open_free a (s + 1) ts there)
  where
    go : (b : Bool) → (a == s) ≡ b → (b || is_in a (open_from (s + 1) ts)) ≡ true → (is_in a (open_from (s + 1) ts) ≡ true
        → (i : ℕ) × (a ≡ s + 1 + i) × (slice_get ts i ≡ Some false)) → (i : ℕ) × (a ≡ s + i) × (slice_get (false ∷ ts) i ≡ Some false)
    go true same has more = (0, (let e : a ≡ s = eqb-true a s same in omega (arith, e)), refl)
    go false same has more = let later = more has in (suc later.0, omega (arith, later.1), later.2)

unknown : (b : Bool) (n : ℕ) → cond b (Some n) None ≡ None → b ≡ false
unknown true n is = absurd (cc)
unknown false n is = refl

marks_stay : (l c w d h : Bool) → c ≡ false → w ≡ false → (l || (l || (w || (d || h)))) ≡ (l || (c || (w || (d || h))))
marks_stay true c w d h clear none = refl
marks_stay false true w d h clear none = absurd (cc)
marks_stay false false w d h clear none = refl

module _ (es : List Entry) (taken : List Bool) (chain : List ℕ) (is : IsGridTable es taken [] [] chain) (none : picked is_captured 1 es ≡ []) (n : ℕ) (few : n ≤ 70) (after : List Bool) (left : List ℕ) (so : AreTaken n taken after left) where
  not_captured : (i : ℕ) (e : Entry) → slice_get es i ≡ Some e → e.captured ≡ false
  not_captured i e at = unknown e.captured (number_of e.checksum) (sym (pick_at is_captured (1 + i) 1 i es e refl at) ∙ ap (sum_at (1 + i)) none)

  same_marks : (i : ℕ) (e : Entry) → slice_get es i ≡ Some e → is_marked (capturing e) ≡ is_marked e
  same_marks i e at = marks_stay e.live e.captured e.written e.durable e.chained (not_captured i e at) (is.writes (suc i) i e refl at)

  was_taken : (a i : ℕ) (e : Entry) → a ≡ suc i → slice_get es i ≡ Some e → slice_get taken i ≡ Some (is_marked e)
  was_taken a i e there at = is.holds a i e there at ∙ ap Some (or-false (is_marked e))

  left_free : (a : ℕ) → is_in a left ≡ true → (i : ℕ) × (a ≡ 1 + i) × (slice_get taken i ≡ Some false)
  left_free a has = open_free a 1 taken (in_take a n (open_from 1 taken) (rw so.least at has))

  pub captured_blocks : blocks_in (map capturing es) [] left chain ≡ blocks_captured (blocks_in es [] [] chain) (take n (open_from 1 taken))
  captured_blocks = rw (
    pick_map capturing is_live is_live 1 es (λ e. refl) (λ e. refl),
    pick_map capturing is_captured is_live 1 es (λ e. refl) (λ e. refl),
    pick_map capturing is_durable is_durable 1 es (λ e. refl) (λ e. refl),
    pairs_map capturing es chain (λ e. refl),
    so.least,
  ) refl

  pub captured_kept : IsGridTable (map capturing es) after [] left chain
  captured_kept = record {
    size = so.size ∙ is.size ∙ sym (length-map es capturing);
    holds = λ a j x there found. (let was = get_map capturing es j x found in
        so.each a j (is_marked was.0) there (was_taken a j was.0 there was.1) ∙ ap (λ (b : Bool).
        Some (b || is_in a left)) (sym (same_marks j was.0 was.1)) ∙ ap (λ (y : Entry). Some (is_marked y || is_in a left)) (sym was.2));
    writes = λ a j x there found.
        (let was = get_map capturing es j x found in ap (λ (y : Entry). y.written) was.2 ∙ is.writes a j was.0 there was.1);
    chains = λ a j x there found.
        (let was = get_map capturing es j x found in ap (λ (y : Entry). y.chained) was.2 ∙ is.chains a j was.0 there was.1);
    spare = λ a j x there found has. (let was = get_map capturing es j x found in let free = left_free a has in
        let at : slice_get taken j ≡ Some false =
        ap (λ (k : ℕ). slice_get taken k) (let e : j ≡ free.0 = omega (arith, there, free.1) in e) ∙ free.2 in
        let same : Some (is_marked was.0) ≡ Some false = sym (was_taken a j was.0 there was.1) ∙ at in
        let clear : is_marked was.0 ≡ false = cc in ap (λ (y : Entry). is_marked y) was.2 ∙ same_marks j was.0 was.1 ∙ clear);
    inside = λ a has. (let free = left_free a has in
        (omega (arith, free.1), omega (arith, free.1, slice_get_within taken free.0 false free.2, is.size, length-map es capturing)));
    once = rw (sym so.least) at (rise_take n 1 (open_from 1 taken) (open_rise 1 taken));
    room = omega (arith, few, ap length so.least, length-take n (open_from 1 taken));
  }

module _ (es : List Entry) (taken : List Bool) (written chain : List ℕ) (is : IsGridTable es taken written [] chain) (after : List Bool) (size : length after ≡ length es) (marks : (i : ℕ) (e : Entry) → slice_get (map finishing es) i ≡ Some e → slice_get after i ≡ Some (is_marked e)) where
  pub finished_blocks : blocks_in (map finishing es) [] [] written ≡ capture_finished (blocks_in es written [] chain)
  finished_blocks = rw (
    pick_map finishing is_live is_live 1 es (λ e. refl) (λ e. refl),
    pick_none is_captured 1 (map finishing es) (λ i x found. ap (λ (y : Entry). y.captured) (get_map finishing es i x found).2),
    pick_map finishing is_durable is_captured 1 es (λ e. refl) (λ e. refl),
    pairs_map finishing es written (λ e. refl),
  ) refl

  pub finished_kept : IsGridTable (map finishing es) after [] [] written
  finished_kept = record {
    size = size ∙ sym (length-map es finishing);
    holds = λ a j x there found. marks j x found ∙ ap Some (sym (or-false (is_marked x)));
    writes = λ a j x there found. ap (λ (y : Entry). y.written) (get_map finishing es j x found).2;
    chains = λ a j x there found.
        (let was = get_map finishing es j x found in ap (λ (y : Entry). y.chained) was.2 ∙ is.writes a j was.0 there was.1);
    spare = λ a j x there found has. absurd (cc);
    inside = λ a has. absurd (cc);
    once = tt;
    room = omega arith;
  }
