-- What a change at one address is for the machine, and that what holds of a table still does.
use Rattle.std.{proofs.{Common.{◌≡◌, ℕ, suc, ◌+◌, ◌==◌, ◌||◌, Bool, true, false, Some, List, [], ◌∷◌, set, refl, sym, ap, ◌∙◌, arith, eq-eqb, ne_eqb}, lemmas.Bool.{or_left, false_from_ne_true, or_right}}, specs.Prelude.{slice_get}}
use Rattle.df_model.specs.{Work.{is_in}, Blocks.{block_released, block_written, trailer_written}, Sense.{RiseFrom}}
use Rattle.df_units.specs.Meaning.{number_of}
use Rattle.df_grid.{specs.{declared.entry.Entry.{Entry}, Entries.{HasEntry, is_marked}, Table.{IsGridTable, adopted, blocks_in, is_captured, is_durable, is_live, paired, sum_at_address}}, proofs.{Single.{get_set_same, not_both}, Picks.{pick_keep, pick_set, pick_unset}, Chains.{pair_same, rise_out, sum_keep, sum_other, sum_there}, Keeping.{Agrees, HasNone, has_none, kept}}}

falls : {P : Type 0} (b : Bool) → b ≡ false → b ≡ true → P
falls b clear is = not_both b is clear

module _ (es : List Entry) (taken : List Bool) (written left chain : List ℕ)
    (is : IsGridTable es taken written left chain) (a i : ℕ) (old : Entry) (there : a ≡ suc i) (at : slice_get es i ≡ Some old) where
  here : a ≡ 1 + i
  here = omega (arith, there)

  -- a marked address isn't to come
  pub marked_gone : is_marked old ≡ true → is_in a left ≡ false
  marked_gone marked = false_from_ne_true (is_in a left) (λ coming. not_both (is_marked old) marked (is.spare a i old there at coming))

  -- a list that doesn't have the address keeps its checksums
  pairs_keep : (e : Entry) (xs : List ℕ) → is_in a xs ≡ false → paired (set es i e) xs ≡ paired es xs
  pairs_keep e xs none = pair_same es (set es i e) xs (λ k has. sum_other a k i es e there (λ same. not_both (is_in a xs) (rw same at has) none))

  -- so does every list where the checksum stays
  pairs_same : (e : Entry) (xs : List ℕ) → e.checksum ≡ old.checksum → paired (set es i e) xs ≡ paired es xs
  pairs_same e xs same = pair_same es (set es i e) xs (λ k has. sum_keep i es e old k at same)

  same_lists : (e : Entry)
      → e.written ≡ old.written → e.chained ≡ old.chained → is_in a left ≡ false → Agrees es written left chain a e written left chain
  same_lists e writes chains gone = record {
    writes = writes ∙ is.writes a i old there at;
    chains = chains ∙ is.chains a i old there at;
    gone = gone;
    others = λ k other. (refl, refl, refl);
    inside = is.inside;
    once = is.once;
    room = is.room;
  }

  module _ (none : is_marked old ≡ false) where
    was : HasNone old
    was = has_none old none

    out_written : is_in a written ≡ false
    out_written = sym (is.writes a i old there at) ∙ was.written

    out_chain : is_in a chain ≡ false
    out_chain = sym (is.chains a i old there at) ∙ was.chained

    module _ (c : List ℕ) where
      -- ---- a block is written

      abbrev now_live : Entry
      now_live = record old { checksum = c; live = true }

      pub live_blocks : blocks_in (set es i now_live) written left chain ≡ block_written (blocks_in es written left chain) a (number_of c)
      live_blocks = rw (
        pick_set is_live a 1 i es now_live old here at refl,
        pick_keep is_captured 1 i es now_live old at refl (λ set. falls old.captured was.captured set),
        pick_keep is_durable 1 i es now_live old at refl (λ set. falls old.durable was.durable set),
        pairs_keep now_live written out_written,
        pairs_keep now_live chain out_chain,
      ) refl

      pub live_kept : is_in a left ≡ false → IsGridTable (set es i now_live) (set taken i (is_marked now_live)) written left chain
      live_kept gone = kept es taken written left chain is a i old now_live there at written left chain (same_lists now_live refl refl gone)

      -- ---- a block is adopted

      abbrev now_durable : Entry
      now_durable = record old { checksum = c; live = true; durable = true; chained = false }

      pub durable_blocks : blocks_in (set es i now_durable) written left chain ≡ adopted (blocks_in es written left chain) true a (number_of c)
      durable_blocks = rw (
        pick_set is_live a 1 i es now_durable old here at refl,
        pick_keep is_captured 1 i es now_durable old at refl (λ set. falls old.captured was.captured set),
        pick_set is_durable a 1 i es now_durable old here at refl,
        pairs_keep now_durable written out_written,
        pairs_keep now_durable chain out_chain,
      ) refl

      pub durable_kept : is_in a left ≡ false → IsGridTable (set es i now_durable) (set taken i (is_marked now_durable)) written left chain
      durable_kept gone = kept es
          taken written left chain is a i old now_durable there at written left chain (same_lists now_durable refl (sym was.chained) gone)

      abbrev now_chained : Entry
      now_chained = record old { checksum = c; live = false; durable = false; chained = true }

      sum_now : (e : Entry) → e.checksum ≡ c → sum_at_address (set es i e) a ≡ number_of c
      sum_now e same = sum_there a i (set es i e) e there (get_set_same es i old e at) ∙ ap number_of same

      pub chained_blocks : blocks_in (set es i now_chained) written left (a ∷ chain)
          ≡ adopted (blocks_in es written left chain) false a (number_of c)
      chained_blocks = rw (
        pick_keep is_live 1 i es now_chained old at (sym was.live) (λ set. falls old.live was.live set),
        pick_keep is_captured 1 i es now_chained old at refl (λ set. falls old.captured was.captured set),
        pick_keep is_durable 1 i es now_chained old at (sym was.durable) (λ set. falls old.durable was.durable set),
        pairs_keep now_chained written out_written,
        pairs_keep now_chained chain out_chain,
        sum_now now_chained refl,
      ) refl

      pub chained_kept : is_in a left ≡ false → IsGridTable (set es i now_chained) (set taken i (is_marked now_chained)) written left (a ∷ chain)
      chained_kept gone = kept es taken written left chain is a i old now_chained there at written left (a ∷ chain) (record {
        writes = is.writes a i old there at;
        chains = sym (or_left (a == a) (is_in a chain) (eq-eqb a a refl));
        gone = gone;
        others = λ k other. (refl, refl, ap (λ (b : Bool). b || is_in k chain) (ne_eqb k a other));
        inside = is.inside;
        once = is.once;
        room = is.room;
      })

      -- ---- a block of the trailer is written

      abbrev now_written : Entry
      now_written = record old { checksum = c; written = true }

      pub written_blocks : (more : List ℕ) → blocks_in (set es i now_written) (a ∷ written) more chain
          ≡ trailer_written (blocks_in es written left chain) a (number_of c) more
      written_blocks more = rw (
        pick_keep is_live 1 i es now_written old at refl (λ set. falls old.live was.live set),
        pick_keep is_captured 1 i es now_written old at refl (λ set. falls old.captured was.captured set),
        pick_keep is_durable 1 i es now_written old at refl (λ set. falls old.durable was.durable set),
        pairs_keep now_written written out_written,
        pairs_keep now_written chain out_chain,
        sum_now now_written refl,
      ) refl

  -- ---- a block is released

  abbrev now_dead : Entry
  now_dead = record old { live = false }

  pub dead_blocks : blocks_in (set es i now_dead) written left chain ≡ block_released (blocks_in es written left chain) a
  dead_blocks = rw (
    pick_unset is_live a 1 i es now_dead old here at refl,
    pick_keep is_captured 1 i es now_dead old at refl (λ set. refl),
    pick_keep is_durable 1 i es now_dead old at refl (λ set. refl),
    pairs_same now_dead written refl,
    pairs_same now_dead chain refl,
  ) refl

  pub dead_kept : old.live ≡ true → IsGridTable (set es i now_dead) (set taken i (is_marked now_dead)) written left chain
  dead_kept live = kept es taken written
      left chain is a i old now_dead there at written left chain (same_lists now_dead refl refl (marked_gone (or_left old.live _ live)))

lower : (s : ℕ) (xs : List ℕ) → RiseFrom (s + 1) xs → RiseFrom 1 xs
lower s [] rise = tt
lower s (x ∷ xs) rise = (omega (arith, rise.0), rise.1)

aside : (x w m : Bool) → ((x || w) || m) ≡ (w || (x || m))
aside true true m = refl
aside true false m = refl
aside false w m = refl

pub written_kept : (es : List Entry) (taken : List Bool) (written more chain : List ℕ) (a i : ℕ) (old : Entry) (c : List ℕ)
    → IsGridTable es taken written (a ∷ more) chain → a ≡ suc i → slice_get es i ≡ Some old
    → IsGridTable (set es i (record old { checksum = c; written = true }))
    (set taken i (is_marked (record old { checksum = c; written = true }))) (a ∷ written) more chain
written_kept es taken written more chain a i old c is there at = kept
    es taken written (a ∷ more) chain is a i old (record old { checksum = c; written = true }) there at (a ∷ written) more chain (record {
      writes = sym (or_left (a == a) (is_in a written) (eq-eqb a a refl));
      chains = is.chains a i old there at;
      gone = rise_out a (a + 1) more is.once.1 (omega arith);
      others = λ k other.
          (ap (λ (b : Bool). b || is_in k written) (ne_eqb k a other), sym (ap (λ (b : Bool). b || is_in k more) (ne_eqb k a other)), refl);
      inside = λ k one. is.inside k (sym (aside (k == a) (is_in k written) (is_in k more)) ∙ one);
      once = lower a more is.once.1;
      room = omega (arith, is.room);
    })

-- the address that is next isn't marked
pub next_spare : (es : List Entry) (taken : List Bool) (written more chain : List ℕ) (a i : ℕ) (old : Entry)
    → IsGridTable es taken written (a ∷ more) chain → a ≡ suc i → slice_get es i ≡ Some old → is_marked old ≡ false
next_spare es taken written more chain a i old is there at = is.spare a i old there at (or_left (a == a) (is_in a more) (eq-eqb a a refl))

-- and is one of the table's
pub next_inside : (es : List Entry) (taken : List Bool) (written more chain : List ℕ) (a : ℕ)
    → IsGridTable es taken written (a ∷ more) chain → HasEntry es a
next_inside es taken written more chain a is = is.inside a (or_right (is_in a written) _ (or_left (a == a) (is_in a more) (eq-eqb a a refl)))
