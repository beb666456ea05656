-- The device calls of a mending are the theory's steps, and what they leave is the theory's.
use Rattle.std.proofs.Common.{◌≡◌, ◌⊎◌, inl, inr, ℕ, zero, suc, ◌+◌, ◌/◌, ◌<◌, ◌≤◌, List, [], ◌∷◌, ◌++◌, length, Bool, true, false, Option, Some, None, refl, sym, ◌∙◌, ap, subst, append_assoc, arith}
use Rattle.{df_base.specs.Log.{Sync}, df_layout.specs.declared.{damage.Mend.{Mend}, layout.Layout.{Layout}}}
use Rattle.df_format.specs.{declared.header.Header.{Header}, declared.superblock.SuperFields.{SuperFields}, SuperRules.{IsUsable}}
use Rattle.df_theory.specs.Units
use Rattle.df_theory.{specs.{Units.{AnyUnit, HeaderPlace, HeaderUnit, Place, or_else}, Device.{AreSteps}, MakingLaws.{all_puts}, MendLaws.{AllPutTable, PutsTable, Reaches, copy_steps, header_steps, mend_steps}, Runs.{Puts, Step, Syncs, after_steps}, UnitLog.{Synced, UnitLog, add, now, wrote}}, proofs.Laws.{steps_join_law}}
use Rattle.{df_units.{specs.Format.{format_of}, proofs.Laws.{headers_put}}, df_damage.specs.{Below.{DataFile}, Plan.{if_wanted}}}
use Rattle.df_headers.{specs.Ring.{IsHeaderTable, in_sector, sector_writes}, proofs.Laws.{table_written}}
use Rattle.df_superblock.{specs.{Events.{repair_events}, Steps.{repaired}}, proofs.Laws.{repair_from}}
use Rattle.df_opening.{specs.{Mending.{header_events, mending_events, mending_steps, needs_sector, sector_puts, sectors_of, sectors_to}, Keeping.{format}}, proofs.MendEvents.{sectors_more}}

-- ---- the calls are steps

abbrev AreBelow : ℕ → List ℕ → Type 0
AreBelow n [] = Unit {0}
AreBelow n (k ∷ ks) = (k < n) × AreBelow n ks

below_more : (n : ℕ) (ks : List ℕ) (b : Bool) (k : ℕ) → k < n → AreBelow n ks → AreBelow n (ks ++ if_wanted b k)
below_more n [] true k less are = (less, tt)
below_more n [] false k less are = tt
below_more n (j ∷ ks) b k less are = (are.0, below_more n ks b k less are.1)

sectors_below : (n k : ℕ) (mends : List Mend) → k ≤ n → AreBelow n (sectors_to k mends)
sectors_below n zero mends within = tt
sectors_below n (suc k) mends within =
    subst (AreBelow n) (sym (ap (λ (m : ℕ). sectors_to m mends) (let one : suc k ≡ k + 1 = omega arith in one) ∙ sectors_more mends k))
    (below_more n (sectors_to k mends) (needs_sector mends k) k (omega (arith, within)) (sectors_below n k mends (omega (arith, within))))

writes_steps : (layout : Layout) (cluster : ℕ) (table : List Header) (ks : List ℕ) → IsHeaderTable layout cluster table →
    AreBelow (layout.slots / 16) ks → AreSteps (format_of layout cluster) (sector_writes layout table ks) (all_puts (sector_puts table ks))
writes_steps layout cluster table [] is below = tt
writes_steps layout cluster table (k ∷ ks) is below = (headers_put layout cluster k (in_sector k table) (table_written layout cluster k table is below.0), writes_steps layout cluster table ks is below.1)

headers_steps : (layout : Layout) (cluster : ℕ) (table : List Header) (ks : List ℕ) → IsHeaderTable layout cluster table → AreBelow
    (layout.slots / 16) ks → AreSteps (format_of layout cluster) (header_events layout table ks) (header_steps (sector_puts table ks))
headers_steps layout cluster table [] is below = tt
headers_steps layout cluster table (k ∷ ks) is below = steps_join_law (format_of layout cluster) (sector_writes layout table (k ∷ ks))
    (Sync ∷ []) (all_puts (sector_puts table (k ∷ ks))) (Syncs ∷ []) (writes_steps layout cluster table (k ∷ ks) is below) tt

pub mending_is_steps : (file : DataFile) (table : List Header) (mends : List Mend) (f : SuperFields) (members : List Bool)
    → IsHeaderTable file.layout file.cluster table → IsUsable f → length members ≡ 4
    → AreSteps (format file) (mending_events file.layout table mends f members) (mending_steps file.layout table mends f members)
mending_is_steps file table mends f members is usable four = let ks = sectors_of file.layout mends in
    steps_join_law (format file) (header_events file.layout table ks)
    (repair_events f 0 members) (header_steps (sector_puts table ks)) (copy_steps (repaired f 0 members))
    (headers_steps file.layout file.cluster table ks is (sectors_below (file.layout.slots / 16)
    (file.layout.slots / 16) mends (omega arith))) (repair_from file.layout file.cluster 0 f members (omega (arith, four)) usable)

-- ---- the header ring at their end

-- each step leaves the place as it is, or puts this unit there
abbrev AllKeep : Place → AnyUnit → List Step → Type 0
AllKeep place x [] = Unit {0}
AllKeep place x ((Puts put) ∷ ss) = ((put place ≡ None) ⊎ (put place ≡ Some x)) × AllKeep place x ss
AllKeep place x (Syncs ∷ ss) = AllKeep place x ss

keep_append : (place : Place) (x : AnyUnit) (ss ts : List Step) → AllKeep place x ss → AllKeep place x ts → AllKeep place x (ss ++ ts)
keep_append place x [] ts one two = two
keep_append place x ((Puts put) ∷ ss) ts one two = (one.0, keep_append place x ss ts one.1 two)
keep_append place x (Syncs ∷ ss) ts one two = keep_append place x ss ts one two

pub kept : (place : Place) (x : AnyUnit) (ss : List Step) (log : UnitLog)
    → AllKeep place x ss → now log place ≡ Some x → now (after_steps ss log) place ≡ Some x
kept place x [] log all is = is
kept place x ((Puts put) ∷ ss) log all is = kept place x ss (wrote put log) all.1 (elim all.0 [
  | inl none ↦ ap (λ (o : Option AnyUnit). or_else o (now log place)) none ∙ is
  | inr some ↦ ap (λ (o : Option AnyUnit). or_else o (now log place)) some
])
kept place x (Syncs ∷ ss) log all is = kept place x ss (add Synced log) all is

reached : (place : Place) (x : AnyUnit) (puts : List Units.Units) (ss : List Step) (log : UnitLog)
    → AllKeep place x (all_puts puts ++ ss) → Reaches puts place → now (after_steps (all_puts puts ++ ss) log) place ≡ Some x
reached place x [] ss log all none = absurd none
reached place x (put ∷ puts) ss log all (inl here) = kept place x (all_puts puts ++ ss) (wrote put log) all.1 (elim all.0 [
  | inl none ↦ let no : None ≡ Some here.0 = sym none ∙ here.1 in absurd (cc)
  | inr some ↦ ap (λ (o : Option AnyUnit). or_else o (now log place)) some
])
reached place x (put ∷ puts) ss log all (inr there) = reached place x puts ss (wrote put log) all.1 there

keep_put : (table : ℕ → Units.Header) (put : Units.Units) (s : ℕ)
    → PutsTable table put → (put (HeaderPlace s) ≡ None) ⊎ (put (HeaderPlace s) ≡ Some (HeaderUnit (table s)))
keep_put table put s puts = go (put (HeaderPlace s)) refl
  where
    go : (o : Option AnyUnit) → put (HeaderPlace s) ≡ o → (put (HeaderPlace s) ≡ None) ⊎ (put (HeaderPlace s) ≡ Some (HeaderUnit (table s)))
    go None none = inl none
    go (Some y) some = let e = puts (HeaderPlace s) y some in let slot : e.0 ≡ s = (let at = e.1 in cc) in
        inr (some ∙ ap Some (e.2 ∙ ap (λ (k : ℕ). HeaderUnit (table k)) slot))

keep_puts : (table : ℕ → Units.Header) (puts : List Units.Units) (s : ℕ)
    → AllPutTable table puts → AllKeep (HeaderPlace s) (HeaderUnit (table s)) (all_puts puts)
keep_puts table [] s all = tt
keep_puts table (put ∷ puts) s all = (keep_put table put s all.0, keep_puts table puts s all.1)

keep_copies : (f : SuperFields) (number s : ℕ) (x : AnyUnit) (members : List Bool)
    → AllKeep (HeaderPlace s) x (copy_steps (repaired f number members))
keep_copies f number s x [] = tt
keep_copies f number s x (true ∷ members) = keep_copies f (number + 1) s x members
keep_copies f number s x (false ∷ members) = (inl refl, keep_copies f (number + 1) s x members)

pub slot_ends : (table : ℕ → Units.Header) (puts : List Units.Units) (f : SuperFields) (members : List Bool) (log : UnitLog) (s : ℕ)
    → AllPutTable table puts → (now log (HeaderPlace s) ≡ Some (HeaderUnit (table s))) ⊎ Reaches puts (HeaderPlace s)
    → now (after_steps (mend_steps puts (repaired f 0 members)) log) (HeaderPlace s) ≡ Some (HeaderUnit (table s))
slot_ends table [] f members log s all (inl shown) = kept
    (HeaderPlace s) (HeaderUnit (table s)) (copy_steps (repaired f 0 members)) log (keep_copies f 0 s (HeaderUnit (table s)) members) shown
slot_ends table [] f members log s all (inr none) = absurd none
slot_ends table (put ∷ puts) f members log s all either = let x = HeaderUnit (table s) in let copies = copy_steps (repaired f 0 members) in
    let behind : List Step = Syncs ∷ copies in let keeps : AllKeep (HeaderPlace s) x (all_puts (put ∷ puts) ++ behind) =
    keep_append (HeaderPlace s) x (all_puts (put ∷ puts)) behind (keep_puts table (put ∷ puts) s all) (keep_copies f 0 s x members) in
    let same : mend_steps (put ∷ puts) (repaired f 0 members) ≡ all_puts (put ∷ puts) ++ behind =
    append_assoc (all_puts (put ∷ puts)) (Syncs ∷ []) copies in
    subst (λ (ss : List Step). now (after_steps ss log) (HeaderPlace s) ≡ Some x) (sym same) (elim either [
      | inl shown ↦ kept (HeaderPlace s) x (all_puts (put ∷ puts) ++ behind) log keeps shown
      | inr reaches ↦ reached (HeaderPlace s) x (put ∷ puts) behind log keeps reaches
    ])
