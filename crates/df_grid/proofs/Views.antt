-- A table's value after a change, and what its requirements say of its entries.
use Rattle.std.{proofs.{Common.{◌≡◌, ℕ, zero, suc, ◌-◌, ◌<◌, ◌≤◌, ◌==◌, ◌||◌, Bool, true, false, cond, Option, Some, None, List, [], ◌∷◌, length, drop, get_or, not, set, refl, sym, ap, subst, ◌∙◌, arith, eq-eqb}, lemmas.List.{length-replicate, length-set}, lemmas.Option.{slice_get_within}, lemmas.Bool.{or_left}}, specs.{Prelude.{IfSome, IsNone, ◌↔◌, slice_get, replicate}, Bool.{then_some}}}
use Rattle.{df_freeset.specs.Addresses.{AreAllTaken, IsLeastFree}, df_units.specs.Meaning.{number_of}, df_trailer.specs.Rooms.{number_in}}
use Rattle.df_model.{specs.{Work.{is_in, is_known}, Blocks.{Blocks, block_released, sum_at, trailer_written}}, proofs.Laws.{without_none}}
use Rattle.df_grid.{specs.{declared.entry.Entry.{Entry}, Entries.{HasEntry, entries_of, entry_of, is_marked}, Table.{IsGridTable, TableState, adopted, blocks_in, entry_at, is_captured, is_durable, is_live, next_written, no_blocks, paired, picked, unheld, written_of}}, proofs.{Zips.{length_entries}, Keeping.{HasNone, has_none}, Held.{look_some, unheld_open}, Free.{all_none, least_first}, Picks.{pick_none}, Chains.{sum_there}, Moves.{chained_blocks, chained_kept, dead_blocks, dead_kept, durable_blocks, durable_kept, next_inside, next_spare, written_blocks, written_kept}}}

abbrev pub state_of : ℕ → Blocks → TableState
state_of size blocks = record { size = size; blocks = blocks }

pub viewed : (es fs : List Entry) (written left chain : List ℕ) (b : Blocks) → length fs ≡ length es
    → blocks_in fs written left chain ≡ b → state_of (length fs) (blocks_in fs written left chain) ≡ state_of (length es) b
viewed es fs written left chain b size same = ap (λ (n : ℕ). state_of n (blocks_in fs written left chain)) size ∙ ap (state_of (length es)) same

-- ---- a new table

abbrev AreZero : List ℕ → Type 0
AreZero ms = (i : ℕ) (m : ℕ) → slice_get ms i ≡ Some m → m ≡ 0

new_entry : (cs : List (List ℕ)) (ms : List ℕ) (i : ℕ) (e : Entry) → AreZero ms → slice_get (entries_of cs ms) i ≡ Some e → is_marked e ≡ false
new_entry [] ms i e zeros at = absurd (cc)
new_entry (c ∷ cs) [] i e zeros at = absurd (cc)
new_entry (c ∷ cs) (m ∷ ms) zero e zeros at = let same : entry_of c m ≡ e = cc in
    ap (λ (x : Entry). is_marked x) (sym same) ∙ ap (λ (n : ℕ). is_marked (entry_of c n)) (zeros 0 m refl)
new_entry (c ∷ cs) (m ∷ ms) (suc i) e zeros at = new_entry cs ms i e (λ j x there. zeros (suc j) x there) at

all_same : (n i : ℕ) → i < n → slice_get (replicate n false) i ≡ Some false
all_same zero i less = absurd (omega arith)
all_same (suc n) zero less = refl
all_same (suc n) (suc i) less = all_same n i (omega arith)

module _ (cs : List (List ℕ)) (ms : List ℕ) (same : length cs ≡ length ms) (zeros : AreZero ms) where
  none : (i : ℕ) (e : Entry) → slice_get (entries_of cs ms) i ≡ Some e → HasNone e
  none i e at = has_none e (new_entry cs ms i e zeros at)

  pub new_table : IsGridTable (entries_of cs ms) (replicate (length cs) false) [] [] []
  new_table = record {
    size = length-replicate (length cs) false ∙ sym (length_entries cs ms same);
    holds = λ a i e there at. all_same (length cs) i (omega (arith, slice_get_within (entries_of cs ms) i e at, length_entries cs ms same))
        ∙ ap (λ (b : Bool). Some (b || false)) (sym (new_entry cs ms i e zeros at));
    writes = λ a i e there at. (none i e at).written;
    chains = λ a i e there at. (none i e at).chained;
    spare = λ a i e there at has. absurd (cc);
    inside = λ a has. absurd (cc);
    once = tt;
    room = omega arith;
  }

  pub new_blocks : blocks_in (entries_of cs ms) [] [] [] ≡ no_blocks
  new_blocks = rw (
    pick_none is_live 1 (entries_of cs ms) (λ i e at. (none i e at).live),
    pick_none is_captured 1 (entries_of cs ms) (λ i e at. (none i e at).captured),
    pick_none is_durable 1 (entries_of cs ms) (λ i e at. (none i e at).durable),
  ) refl

abbrev nothing : Option ℕ
nothing = None

-- ---- which addresses are free

module _ (es : List Entry) (taken : List Bool) (written left chain : List ℕ) (is : IsGridTable es taken written left chain) where
  pub least_unheld : (a : ℕ) → IsLeastFree taken a → Some a ≡ slice_get (unheld (length es) (blocks_in es written left chain)) 0
  least_unheld a least = sym (ap (λ (l : List ℕ). slice_get l 0) (unheld_open es taken written left chain is ∙ least_first taken a least))

  pub none_unheld : AreAllTaken taken → nothing ≡ slice_get (unheld (length es) (blocks_in es written left chain)) 0
  none_unheld all = sym (ap (λ (l : List ℕ). slice_get l 0) (unheld_open es taken written left chain is ∙ all_none taken all))

  pub next_is : (o : Option ℕ) → (IsNone o ↔ AreAllTaken taken)
      → IfSome o (IsLeastFree taken) → o ≡ slice_get (unheld (length es) (blocks_in es written left chain)) 0
  next_is None none least = none_unheld (none.0 refl)
  next_is (Some a) none least = least_unheld a least

-- ---- what is known

pub known_number : (b : Bool) (c : List ℕ) → number_in (then_some b c) ≡ cond b (Some (number_of c)) None
known_number true c = refl
known_number false c = refl

-- the entry of an address that has one
pub entry_is : (es : List Entry) (a : ℕ) (e : Entry)
    → entry_at es a ≡ Some e → HasEntry es a × (slice_get es (a - 1) ≡ Some e) × (a ≡ suc (a - 1))
entry_is es zero e at = absurd (cc)
entry_is es (suc i) e at = let index : suc i - 1 ≡ i = omega arith in
    ((omega arith, omega (arith, slice_get_within es i e at)), ap (λ (k : ℕ). slice_get es k) index ∙ at, ap suc (sym index))

-- ---- a list that isn't empty

pub first_rest : (xs : List ℕ) (a : ℕ) → a ≡ get_or xs 0 a → (xs ≡ [] → ⊥) → xs ≡ a ∷ drop 1 xs
first_rest [] a is some = absurd (some refl)
first_rest (x ∷ xs) a is some = ap (λ (k : ℕ). k ∷ xs) (sym is)

pub first_is : (xs : List ℕ) (a : ℕ) → slice_get xs 0 ≡ Some a → xs ≡ a ∷ drop 1 xs
first_is [] a is = absurd (cc)
first_is (x ∷ xs) a is = let same : x ≡ a = cc in ap (λ (k : ℕ). k ∷ xs) same

-- the last written block is one of the table's
pub written_inside : (es : List Entry) (taken : List Bool) (written left chain : List ℕ) (a : ℕ)
    → IsGridTable es taken written left chain → slice_get written 0 ≡ Some a → HasEntry es a
written_inside es taken written left chain a is first = is.inside a (or_left (is_in a written) (is_in a left)
    (ap (λ (l : List ℕ). is_in a l) (first_is written a first) ∙ or_left (a == a) (is_in a (drop 1 written)) (eq-eqb a a refl)))

pub written_first : (es : List Entry) (written : List ℕ) (a i : ℕ) (e : Entry)
    → slice_get written 0 ≡ Some a → a ≡ suc i → slice_get es i ≡ Some e → Some (a, number_of e.checksum) ≡ slice_get (paired es written) 0
written_first es written a i e first there at = ap (λ (n : ℕ). Some (a, n)) (sym (sum_there a i es e there at))
    ∙ sym (ap (λ (l : List ℕ). slice_get (paired es l) 0) (first_is written a first))

pub length_pairs : (es : List Entry) (xs : List ℕ) → length (paired es xs) ≡ length xs
length_pairs es [] = refl
length_pairs es (x ∷ xs) = omega (arith, length_pairs es xs)

-- ---- adopting

abbrev pub taking : Entry → List ℕ → Bool → Entry
taking old c b = record old { checksum = c; live = b; durable = b; chained = not b }

module _ (es : List Entry) (taken : List Bool) (written left chain : List ℕ) (is : IsGridTable es taken written left chain) (a i : ℕ) (old : Entry) (there : a ≡ suc i) (at : slice_get es i ≡ Some old) (unheld : (is_marked old ≡ false) × (is_in a left ≡ false)) (c : List ℕ) where
  pub adopt_live : (b : Bool) → b ≡ true → IsGridTable (set es i (taking old c b)) (set taken i (is_marked (taking old c b))) written left chain
  adopt_live b same =
      subst (λ (x : Bool). IsGridTable (set es i (taking old c x)) (set taken i (is_marked (taking old c x))) written left chain) (sym same)
      (durable_kept es taken written left chain is a i old there at unheld.0 c unheld.1)

  pub adopt_live_state : (b : Bool) → b ≡ true → state_of (length (set es i (taking old c b))) (blocks_in
      (set es i (taking old c b)) written left chain) ≡ state_of (length es) (adopted (blocks_in es written left chain) b a (number_of c))
  adopt_live_state b same = subst (λ (x : Bool). state_of (length (set es i (taking old c x))) (blocks_in (set es i (taking old c x))
      written left chain) ≡ state_of (length es) (adopted (blocks_in es written left chain) x a (number_of c))) (sym same)
      (viewed es (set es i (taking old c true)) written left chain (adopted (blocks_in es written left chain) true a (number_of c))
      (length-set es i (taking old c true)) (durable_blocks es taken written left chain is a i old there at unheld.0 c))

  pub adopt_chained : (b : Bool)
      → b ≡ false → IsGridTable (set es i (taking old c b)) (set taken i (is_marked (taking old c b))) written left (a ∷ chain)
  adopt_chained b same = subst (λ (x : Bool).
      IsGridTable (set es i (taking old c x)) (set taken i (is_marked (taking old c x))) written left (a ∷ chain)) (sym same)
      (chained_kept es taken written left chain is a i old there at unheld.0 c unheld.1)

  pub adopt_chained_state : (b : Bool) → b ≡ false → state_of (length (set es i (taking old c b))) (blocks_in (set es i (taking old c b))
      written left (a ∷ chain)) ≡ state_of (length es) (adopted (blocks_in es written left chain) b a (number_of c))
  adopt_chained_state b same = subst (λ (x : Bool). state_of (length (set es i (taking old c x))) (blocks_in (set es i (taking old c x))
      written left (a ∷ chain)) ≡ state_of (length es) (adopted (blocks_in es written left chain) x a (number_of c))) (sym same)
      (viewed es (set es i (taking old c false)) written left (a ∷ chain) (adopted (blocks_in es written left chain) false a (number_of c))
      (length-set es i (taking old c false)) (chained_blocks es taken written left chain is a i old there at unheld.0 c))

-- ---- the trailer's next block

module _ (es : List Entry) (taken : List Bool)
    (written left chain : List ℕ) (is : IsGridTable es taken written left chain) (a : ℕ) (shape : left ≡ a ∷ drop 1 left) where
  shaped : IsGridTable es taken written (a ∷ drop 1 left) chain
  shaped = subst (λ (l : List ℕ). IsGridTable es taken written l chain) shape is

  pub coming_inside : HasEntry es a
  coming_inside = next_inside es taken written (drop 1 left) chain a shaped

  module _ (i : ℕ) (old : Entry) (there : a ≡ suc i) (at : slice_get es i ≡ Some old) (c : List ℕ) where
    abbrev wrote : Entry
    wrote = record old { checksum = c; written = true }

    pub coming_kept : IsGridTable (set es i wrote) (set taken i (is_marked wrote)) (a ∷ written) (drop 1 left) chain
    coming_kept = written_kept es taken written (drop 1 left) chain a i old c shaped there at

    pub coming_state : state_of (length (set es i wrote)) (blocks_in (set es i wrote) (a ∷ written) (drop 1 left) chain)
        ≡ state_of (length es) (next_written (blocks_in es written left chain) (number_of c))
    coming_state = viewed es (set es i wrote) (a ∷ written) (drop 1 left)
        chain (trailer_written (blocks_in es written (a ∷ drop 1 left) chain) a (number_of c) (drop 1 left)) (length-set es i wrote)
        (written_blocks es taken written (a ∷ drop 1 left)
        chain shaped a i old there at (next_spare es taken written (drop 1 left) chain a i old shaped there at) c (drop 1 left))
        ∙ ap (λ (l : List ℕ). state_of (length es) (written_of (blocks_in es written l chain) (number_of c) l)) (sym shape)

    -- of lists that are those
    pub coming_whole : (fs : List Entry) (ws ls : List ℕ) → fs ≡ set es i wrote → ws ≡ a ∷ written → ls ≡ drop 1 left → state_of
        (length fs) (blocks_in fs ws ls chain) ≡ state_of (length es) (next_written (blocks_in es written left chain) (number_of c))
    coming_whole fs ws ls one two three = rw (one, two, three) coming_state

-- ---- releasing

-- where the address isn't live, nothing is taken away
pub not_live_state : (es : List Entry) (written left chain : List ℕ) (a : ℕ) → sum_at a (picked is_live 1 es) ≡ None
    → state_of (length es) (blocks_in es written left chain) ≡ state_of (length es) (block_released (blocks_in es written left chain) a)
not_live_state es written left chain a none = ap (λ (l : List (ℕ × ℕ)).
    state_of (length es) (record (blocks_in es written left chain) { live = l })) (sym (without_none a (picked is_live 1 es) none))

pub not_live : (es : List Entry) (a : ℕ) (e : Entry) → entry_at es a ≡ Some e → e.live ≡ false → sum_at a (picked is_live 1 es) ≡ None
not_live es a e at dead = look_some is_live es a e at ∙ ap (λ (b : Bool). cond b (Some (number_of e.checksum)) None) dead

pub is_live_there : (es : List Entry) (a : ℕ) (e : Entry)
    → entry_at es a ≡ Some e → e.live ≡ true → true ≡ is_known (sum_at a (picked is_live 1 es))
is_live_there es a e at live =
    sym (ap is_known (look_some is_live es a e at ∙ ap (λ (b : Bool). cond b (Some (number_of e.checksum)) None) live))

pub released_state : (es : List Entry) (taken : List Bool) (written left chain : List ℕ)
    → IsGridTable es taken written left chain → (a : ℕ) (e : Entry) → entry_at es a ≡ Some e
    → state_of (length (set es (a - 1) (record e { live = false }))) (blocks_in (set es (a - 1) (record e { live = false }))
    written left chain) ≡ state_of (length es) (block_released (blocks_in es written left chain) a)
released_state es taken written left chain is a e at = let there = entry_is es a e at in
    viewed es (set es (a - 1) (record e { live = false })) written left chain (block_released (blocks_in es written left chain) a)
    (length-set es (a - 1) (record e { live = false })) (dead_blocks es taken written left chain is a (a - 1) e there.2 there.1)

pub released_kept : (es : List Entry) (taken : List Bool) (written left chain : List ℕ)
    → IsGridTable es taken written left chain → (a : ℕ) (e : Entry) → entry_at es a ≡ Some e → e.live ≡ true
    → IsGridTable (set es (a - 1) (record e { live = false })) (set taken (a - 1) (is_marked (record e { live = false }))) written left chain
released_kept es taken written left chain is a e at live = let there = entry_is es a e at in
    dead_kept es taken written left chain is a (a - 1) e there.2 there.1 live

-- ---- what is said of an answer, if there is one

pub if_none : {X : Type 0} (P : Type 0) (o : Option X) → o ≡ None → IfSome o (λ _. P)
if_none P None is = tt
if_none P (Some x) is = absurd (cc)

pub if_some : {X : Type 0} (P : Type 0) (o : Option X) → P → IfSome o (λ _. P)
if_some P None fact = tt
if_some P (Some x) fact = fact

-- the next address of the running trailer is one of the table's
pub left_inside : (es : List Entry) (taken : List Bool) (written left chain : List ℕ)
    → IsGridTable es taken written left chain → (o : Option ℕ) → o ≡ slice_get left 0 → IfSome o (λ a. (1 ≤ a) × (a ≤ length es))
left_inside es taken written left chain is None at = tt
left_inside es taken written left chain is (Some a) at = coming_inside es taken written left chain is a (first_is left a (sym at))
