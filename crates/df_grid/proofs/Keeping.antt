-- What holds of a table does after one entry is changed, with its address taken where the entry is marked.
use Rattle.std.{proofs.{Common.{◌≡◌, ◌≢◌, ℕ, suc, ◌+◌, ◌≤◌, ◌==◌, ◌||◌, Bool, true, false, Some, List, length, set, refl, sym, ap, ◌∙◌, arith, eqb-true}, lemmas.List.{length-set}, lemmas.Bool.Decides.{nat_tests}, lemmas.Bool.{or_parts}, Math.Bool.{or-false}}, specs.Prelude.{slice_get}}
use Rattle.{df_base.proofs.Laws.{get_set_other}, df_model.specs.{Work.{is_in}, Sense.{RiseFrom}, Blocks.{is_held_in}}}
use Rattle.df_grid.{specs.{declared.entry.Entry.{Entry}, Entries.{HasEntry, is_marked}, Table.{IsGridTable, blocks_in}}, proofs.{Single.{get_set_same, not_both, one_there}, Held.{held_at}}}

-- the lists after the change say of the other addresses what they said before, and of this one what its entry says
pub record Agrees (es : List Entry) (written left chain : List ℕ) (a : ℕ) (e : Entry) (written2 left2 chain2 : List ℕ) : Type 0 where
  pub writes : e.written ≡ is_in a written2
  pub chains : e.chained ≡ is_in a chain2
  pub gone : is_in a left2 ≡ false
  pub others : (k : ℕ) → k ≢ a → (is_in k written2 ≡ is_in k written) × (is_in k left2 ≡ is_in k left) × (is_in k chain2 ≡ is_in k chain)
  pub inside : (k : ℕ) → (is_in k written2 || is_in k left2) ≡ true → HasEntry es k
  pub once : RiseFrom 1 left2
  pub room : length written2 + length left2 ≤ 70

module _ (es : List Entry) (taken : List Bool) (written left chain : List ℕ) (is : IsGridTable es taken written left chain) (a i : ℕ) (old e : Entry) (there : a ≡ suc i) (at : slice_get es i ≡ Some old) (written2 left2 chain2 : List ℕ) (agrees : Agrees es written left chain a e written2 left2 chain2) where
  at_place : {P : Type 0} (k j : ℕ) (x : Entry)
      → k ≡ suc j → slice_get (set es i e) j ≡ Some x → (k ≡ a → j ≡ i → x ≡ e → P) → (k ≢ a → j ≢ i → slice_get es j ≡ Some x → P) → P
  at_place {P} k j x here found same other = go (k == a) refl
    where
      go : (b : Bool) → (k == a) ≡ b → P
      go true equal = let one : k ≡ a = eqb-true k a equal in let index : j ≡ i = omega (arith, one, here, there) in
          same one index (one_there (set es i e) i x e (rw index at found) (get_set_same es i old e at))
      go false differs = let one : k ≢ a = λ eq. not_both (k == a) (grind (arith, nat_tests, eq)) differs in
          let index : j ≢ i = λ eq. one (omega (arith, eq, here, there)) in other one index (sym (get_set_other es i j e index) ∙ found)

  pub kept : IsGridTable (set es i e) (set taken i (is_marked e)) written2 left2 chain2
  kept = record {
    size = length-set taken i (is_marked e) ∙ is.size ∙ sym (length-set es i e);
    holds = λ k j x here found. at_place k j x here found (λ same index entry. rw (index, entry, same, agrees.gone, or-false (is_marked e))
        (get_set_same taken i (is_marked old || is_in a left) (is_marked e) (is.holds a i old there at)))
        (λ other index entry. get_set_other taken i j (is_marked e) index
        ∙ is.holds k j x here entry ∙ ap (λ (b : Bool). Some (is_marked x || b)) (sym (agrees.others k other).1));
    writes = λ k j x here found. at_place k j x here found (λ same index entry.
        rw (entry, same) agrees.writes) (λ other index entry. is.writes k j x here entry ∙ sym (agrees.others k other).0);
    chains = λ k j x here found. at_place k j x here found (λ same index entry.
        rw (entry, same) agrees.chains) (λ other index entry. is.chains k j x here entry ∙ sym (agrees.others k other).2);
    spare = λ k j x here found left_in. at_place k j x here found
        (λ same index entry. not_both (is_in k left2) left_in (rw same agrees.gone))
        (λ other index entry. is.spare k j x here entry (sym (agrees.others k other).1 ∙ left_in));
    inside = λ k one. let has = agrees.inside k one in (has.0, omega (arith, has.1, length-set es i e));
    once = agrees.once;
    room = agrees.room;
  }

-- an address that isn't held has no mark, and isn't to come
pub unheld_entry : (es : List Entry) (taken : List Bool) (written left chain : List ℕ) → IsGridTable es taken written left chain
    → (a i : ℕ) (e : Entry) → a ≡ suc i → slice_get es i ≡ Some e → is_held_in (blocks_in es written left chain) a ≡ false
    → (is_marked e ≡ false) × (is_in a left ≡ false)
unheld_entry es taken written left chain is a i e there at unheld =
    or_parts (is_marked e) (is_in a left) (sym (held_at es taken written left chain is a i e there at) ∙ unheld)

-- no mark, so none of the five
pub record HasNone (e : Entry) : Type 0 where
  pub live : e.live ≡ false
  pub captured : e.captured ≡ false
  pub written : e.written ≡ false
  pub durable : e.durable ≡ false
  pub chained : e.chained ≡ false

pub has_none : (e : Entry) → is_marked e ≡ false → HasNone e
has_none e none = let one = or_parts e.live (e.captured || (e.written || (e.durable || e.chained))) none in
    let two = or_parts e.captured (e.written || (e.durable || e.chained)) one.1 in
    let three = or_parts e.written (e.durable || e.chained) two.1 in let four = or_parts e.durable e.chained three.1 in
    record { live = one.0; captured = two.0; written = three.0; durable = four.0; chained = four.1 }
