-- An address is held where its entry is marked or it is to come in the running trailer, and its checksum is the entry's.
use Rattle.std.{proofs.{Common.{◌≡◌, ℕ, zero, suc, ◌+◌, ◌<◌, ◌≤◌, ◌||◌, not, Bool, true, false, cond, Option, Some, None, List, [], ◌∷◌, length, refl, sym, ap, subst, ◌∙◌, arith}, lemmas.Option.{slice_get_within}}, specs.{Prelude.{slice_get}, List.{filter, range_with_len}}}
use Rattle.df_model.specs.{Work.{is_in, is_known, or_known}, Blocks.{entries, entry, is_held_in, reference_in, sum_at}}
use Rattle.df_units.specs.Meaning.{number_of}
use Rattle.df_grid.{specs.{declared.entry.Entry.{Entry}, Entries.{is_marked}, Table.{IsGridTable, blocks_in, entry_at, is_captured, is_durable, is_live, open_from, paired, picked, unheld}}, proofs.{Picks.{below, past, pick_at}, Chains.{pair_at, sum_there}}}

pub known_if : (b : Bool) (c : ℕ) → is_known (cond b (Some c) None) ≡ b
known_if true c = refl
known_if false c = refl

-- the reasons in the machine's order
shuffle : (l c w d h f : Bool) → (l || ((c || (w || f)) || (d || h))) ≡ ((l || (c || (w || (d || h)))) || f)
shuffle true c w d h f = refl
shuffle false true w d h f = refl
shuffle false false true d h f = refl
shuffle false false false true h true = refl
shuffle false false false true h false = refl
shuffle false false false false true true = refl
shuffle false false false false true false = refl
shuffle false false false false false true = refl
shuffle false false false false false false = refl

-- the known ones, all of one checksum, in the machine's order
chosen : (l c w d h : Bool) (n : ℕ) → or_known (cond l (Some n) None)
    (or_known (or_known (cond c (Some n) None) (cond w (Some n) None)) (or_known (cond d (Some n) None) (cond h (Some n) None)))
    ≡ cond (l || (c || (w || (d || h)))) (Some n) None
chosen true c w d h n = refl
chosen false true w d h n = refl
chosen false false true d h n = refl
chosen false false false true h n = refl
chosen false false false false true n = refl
chosen false false false false false n = refl

module _ (es : List Entry) (taken : List Bool) (written left chain : List ℕ)
    (is : IsGridTable es taken written left chain) (a i : ℕ) (e : Entry) (there : a ≡ suc i) (at : slice_get es i ≡ Some e) where
  picked_at : (test : Entry → Bool) → sum_at a (picked test 1 es) ≡ cond (test e) (Some (number_of e.checksum)) None
  picked_at test = pick_at test a 1 i es e (omega (arith, there)) at

  written_at : sum_at a (paired es written) ≡ cond e.written (Some (number_of e.checksum)) None
  written_at = pair_at es a written ∙ ap (λ (n : ℕ). cond (is_in a written) (Some n) None) (sum_there a i es e there at)
      ∙ ap (λ (b : Bool). cond b (Some (number_of e.checksum)) None) (sym (is.writes a i e there at))

  chain_at : sum_at a (paired es chain) ≡ cond e.chained (Some (number_of e.checksum)) None
  chain_at = pair_at es a chain ∙ ap (λ (n : ℕ). cond (is_in a chain) (Some n) None) (sum_there a i es e there at)
      ∙ ap (λ (b : Bool). cond b (Some (number_of e.checksum)) None) (sym (is.chains a i e there at))

  known : (o : Option ℕ) (b : Bool) → o ≡ cond b (Some (number_of e.checksum)) None → is_known o ≡ b
  known o b same = ap is_known same ∙ known_if b (number_of e.checksum)

  pub held_at : is_held_in (blocks_in es written left chain) a ≡ (is_marked e || is_in a left)
  held_at = let l = known (sum_at a (picked is_live 1 es)) e.live (picked_at is_live) in
      let c = known (sum_at a (picked is_captured 1 es)) e.captured (picked_at is_captured) in
      let w = known (sum_at a (paired es written)) e.written written_at in
      let d = known (sum_at a (picked is_durable 1 es)) e.durable (picked_at is_durable) in
      let h = known (sum_at a (paired es chain)) e.chained chain_at in
      rw (l, c, w, d, h) (shuffle e.live e.captured e.written e.durable e.chained (is_in a left))

  pub reference_at : reference_in (blocks_in es written left chain) a ≡ cond (is_marked e) (Some (number_of e.checksum)) None
  reference_at = rw (picked_at is_live, picked_at is_captured, written_at, picked_at is_durable, chain_at)
      (chosen e.live e.captured e.written e.durable e.chained (number_of e.checksum))

-- ---- lists of all addresses

-- the addresses that aren't taken are those that aren't held
pub open_unheld : (held : ℕ → Bool) (s : ℕ) (taken : List Bool) → ((i : ℕ) (b : Bool) → slice_get taken i ≡ Some b → b ≡ held (s + i))
    → filter (λ a. not (held a)) (range_with_len s (length taken)) ≡ open_from s taken
open_unheld held s [] each = refl
open_unheld held s (t ∷ ts) each = ap (λ (b : Bool). cond (not b) (s ∷ filter (λ a. not (held a)) (range_with_len (s + 1) (length ts))) (filter (λ a. not (held a)) (range_with_len (s + 1) (length ts)))) here ∙ go t ∙ ap (λ (l : List ℕ). cond t l (s ∷ l)) (open_unheld held (s + 1) ts (λ i b at. each (suc i) b at ∙ ap held (omega arith)))
  where
    here : held s ≡ t
    here = sym (each 0 t refl ∙ ap held (omega arith))

    go : (b : Bool) → cond (not b) (s ∷ filter (λ a. not (held a)) (range_with_len (s + 1) (length ts))) (filter (λ a. not (held a)) (range_with_len (s + 1) (length ts))) ≡ cond b (filter (λ a. not (held a)) (range_with_len (s + 1) (length ts))) (s ∷ filter (λ a. not (held a)) (range_with_len (s + 1) (length ts)))
    go true = refl
    go false = refl

-- what is known of each address is the list of the marked ones
pub referenced_picked : (f : ℕ → Option ℕ) (s : ℕ) (es : List Entry) → ((i : ℕ) (e : Entry) → slice_get es i ≡ Some e
    → f (s + i) ≡ cond (is_marked e) (Some (number_of e.checksum)) None) → entries f (range_with_len s (length es)) ≡ picked is_marked s es
referenced_picked f s [] each = refl
referenced_picked f s (e ∷ es) each =
    ap (λ (o : Option ℕ). entry s o (entries f (range_with_len (s + 1) (length es)))) (ap f (omega arith) ∙ each 0 e refl) ∙ go (is_marked e) ∙ ap (λ (l : List (ℕ × ℕ)). cond (is_marked e) ((s, number_of e.checksum) ∷ l) l) (referenced_picked f (s + 1) es (λ i x at. ap f (omega arith) ∙ each (suc i) x at))
  where
    go : (b : Bool) → entry s (cond b (Some (number_of e.checksum)) None) (entries f (range_with_len (s + 1) (length es))) ≡ cond
        b ((s, number_of e.checksum) ∷ entries f (range_with_len (s + 1) (length es))) (entries f (range_with_len (s + 1) (length es)))
    go true = refl
    go false = refl

-- an entry for each place of a list of the same length
pub entry_there : (es : List Entry) (i : ℕ) → i < length es → (e : Entry) × (slice_get es i ≡ Some e)
entry_there [] i less = absurd (omega arith)
entry_there (e ∷ es) zero less = (e, refl)
entry_there (e ∷ es) (suc i) less = entry_there es i (omega arith)

module _ (es : List Entry) (taken : List Bool) (written left chain : List ℕ) (is : IsGridTable es taken written left chain) where
  pub unheld_open : unheld (length es) (blocks_in es written left chain) ≡ open_from 1 taken
  unheld_open =
      subst (λ (n : ℕ). filter (λ a. not (is_held_in (blocks_in es written left chain) a)) (range_with_len 1 n) ≡ open_from 1 taken) is.size
      (open_unheld (is_held_in (blocks_in es written left chain)) 1 taken (λ i b at.
      let some = entry_there es i (omega (arith, slice_get_within taken i b at, is.size)) in
      let same : Some b ≡ Some (is_marked some.0 || is_in (1 + i) left) = sym at ∙ is.holds (1 + i) i some.0 (omega arith) some.1 in
      let b_is : b ≡ (is_marked some.0 || is_in (1 + i) left) = cc in
      b_is ∙ sym (held_at es taken written left chain is (1 + i) i some.0 (omega arith) some.1)))

  pub referenced_marked : entries (reference_in (blocks_in es written left chain)) (range_with_len 1 (length es)) ≡ picked is_marked 1 es
  referenced_marked = referenced_picked (reference_in (blocks_in es written left chain)) 1 es (λ i e at.
      reference_at es taken written left chain is (1 + i) i e (omega arith) at)

-- ---- what is looked up at an entry, or at none

pub look_some : (test : Entry → Bool) (es : List Entry) (a : ℕ) (e : Entry)
    → entry_at es a ≡ Some e → sum_at a (picked test 1 es) ≡ cond (test e) (Some (number_of e.checksum)) None
look_some test es zero e at = absurd (cc)
look_some test es (suc i) e at = pick_at test (suc i) 1 i es e (omega arith) at

pub look_none : (test : Entry → Bool) (es : List Entry) (a : ℕ) → entry_at es a ≡ None → sum_at a (picked test 1 es) ≡ None
look_none test es zero at = below test zero 1 es (omega arith)
look_none test es (suc i) at = past test (suc i) 1 es (outside es i at)
  where
    outside : (es : List Entry) (i : ℕ) → slice_get es i ≡ None → 1 + length es ≤ suc i
    outside [] i at = omega arith
    outside (e ∷ es) zero at = absurd (cc)
    outside (e ∷ es) (suc i) at = omega (arith, outside es i at)
