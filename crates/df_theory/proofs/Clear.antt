-- While nothing of the boot survives above the head, and after which steps that stays so.
use Rattle.std.proofs.Common.{◌≡◌, inl, inr, ℕ, ◌≤◌, List, [], ◌∷◌, ◌++◌, Option, Some, None, refl, sym, ◌∙◌, ap, subst, arith}
use Rattle.df_theory.{specs.{Units.{AnyUnit, Content, CopyPlace, CopyUnit, Header, Message, Place, PreparePlace, PrepareUnit, Units, or_else, overlay}, Shape.{Shape}, View.{View, boot_of, head}, UnitLog.{PutsOne, Synced, UnitLog, add, now, settled, wrote}, Chance.{InImages}, Grown.{IsClear}, Rests.{IsPrepare, IsQuiet, RestsOn}, CopyPuts.{PutsCopies, update_steps}, Runs.{Puts, Step, Syncs, after_steps}, MakingLaws.{all_puts}, MendLaws.{AllPutCopy, AllPutTable, copy_steps, header_steps}}, proofs.Writes.{clear_in}}

-- in a file without boots nothing survives
pub clear_one : (sh : Shape) (log : UnitLog) (v : View) → RestsOn sh log v → boot_of v ≡ 0 → IsClear (settled log) v
clear_one sh log v rests none s p at own = let a = rests.old (PreparePlace s) (PrepareUnit p) at in
    let same : a.0 ≡ p = (let e = a.1 in cc) in
    subst (λ (w : Message). w.header.op ≤ head v) same (elim (a.2.op (ap (λ (w : Message). w.header.boot) same ∙ own)) [
      | inl low ↦ low
      | inr cut ↦ let some = cut.boot in absurd (omega (arith, ap (λ (w : Message). w.header.boot) same, own))
    ])

-- no prepare of this boot above this op was settled, or is shown
pub record IsLow (b top : ℕ) (log : UnitLog) : Type 0 where
  pub settled : (s : ℕ) (p : Message) → InImages (settled log) (PreparePlace s) (PrepareUnit p) → p.header.boot ≡ b → p.header.op ≤ top
  pub shown : (s : ℕ) (p : Message) → now log (PreparePlace s) ≡ Some (PrepareUnit p) → p.header.boot ≡ b → p.header.op ≤ top

-- nor does one of these writes put one
abbrev pub PutsLow : ℕ → ℕ → Units → Type 0
PutsLow b top put = (s : ℕ) (p : Message) → put (PreparePlace s) ≡ Some (PrepareUnit p) → p.header.boot ≡ b → p.header.op ≤ top

abbrev pub AllLow : ℕ → ℕ → List Step → Type 0
AllLow b top [] = Unit {0}
AllLow b top ((Puts put) ∷ ss) = PutsLow b top put × AllLow b top ss
AllLow b top (Syncs ∷ ss) = AllLow b top ss

low_put : (b top : ℕ) (put : Units) (log : UnitLog) → PutsLow b top put → IsLow b top log → IsLow b top (wrote put log)
low_put b top put log puts low = record { settled = low.settled; shown = λ s p is. go s p (put (PreparePlace s)) refl is }
  where
    go : (s : ℕ) (p : Message) (o : Option AnyUnit)
        → put (PreparePlace s) ≡ o → overlay put (now log) (PreparePlace s) ≡ Some (PrepareUnit p) → p.header.boot ≡ b → p.header.op ≤ top
    go s p None none is = low.shown s p (ap (λ (o : Option AnyUnit). or_else o (now log (PreparePlace s))) (sym none) ∙ is)
    go s p (Some y) some is = puts s p (some ∙ ap (λ (o : Option AnyUnit). or_else o (now log (PreparePlace s))) (sym some) ∙ is)

pub low_steps : (b top : ℕ) (ss : List Step) (log : UnitLog) → AllLow b top ss → IsLow b top log → IsLow b top (after_steps ss log)
low_steps b top [] log all low = low
low_steps b top ((Puts put) ∷ ss) log all low = low_steps b top ss (wrote put log) all.1 (low_put b top put log all.0 low)
low_steps b top (Syncs ∷ ss) log all low = low_steps b top ss (add Synced log) all (record {
  settled = λ s p at own. elim at [ inl here ↦ low.shown s p here own | inr old ↦ low.settled s p old own ];
  shown = low.shown;
})

pub clear_steps : (sh : Shape) (log : UnitLog) (v u : View) (ss : List Step) → RestsOn sh log v → IsQuiet log → IsClear (settled log) v
    → boot_of u ≡ boot_of v → head v ≤ head u → AllLow (boot_of u) (head u) ss → IsClear (settled (after_steps ss log)) u
clear_steps sh log v u ss rests quiet clear boot up all = let low : IsLow (boot_of u) (head u) log = record {
  settled = λ s p at own. omega (arith, clear s p at (own ∙ boot));
  shown = λ s p is own. omega (arith, clear_in sh log v rests quiet clear s p is (own ∙ boot));
} in (low_steps (boot_of u) (head u) ss log all low).settled

-- ---- writes of other units

pub low_one : (b top : ℕ) (put : Units) (place : Place) (x : AnyUnit) → PutsOne put place x → (IsPrepare place → ⊥) → PutsLow b top put
low_one b top put place x one away s p is own = absurd (away (subst IsPrepare (one.only (PreparePlace s) (PrepareUnit p) is).0 tt))

pub low_append : (b top : ℕ) (ss ts : List Step) → AllLow b top ss → AllLow b top ts → AllLow b top (ss ++ ts)
low_append b top [] ts one two = two
low_append b top ((Puts put) ∷ ss) ts one two = (one.0, low_append b top ss ts one.1 two)
low_append b top (Syncs ∷ ss) ts one two = low_append b top ss ts one two

pub low_table : (b top : ℕ) (table : ℕ → Header) (puts : List Units) → AllPutTable table puts → AllLow b top (all_puts puts)
low_table b top table [] all = tt
low_table b top table (put ∷ puts) all =
    (λ s p is own. absurd (let at = (all.0 (PreparePlace s) (PrepareUnit p) is).1 in cc), low_table b top table puts all.1)

pub low_headers : (b top : ℕ) (table : ℕ → Header) (puts : List Units) → AllPutTable table puts → AllLow b top (header_steps puts)
low_headers b top table [] all = tt
low_headers b top table (put ∷ puts) all = low_append b top (all_puts (put ∷ puts)) (Syncs ∷ []) (low_table b top table (put ∷ puts) all) tt

pub low_copies : (b top : ℕ) (c : Content) (m n : ℕ) (ks : List (ℕ × Units)) → AllPutCopy c m n ks → AllLow b top (copy_steps ks)
low_copies b top c m n [] all = tt
low_copies b top c m n (k ∷ ks) all =
    (low_one b top k.1 (CopyPlace k.0) (CopyUnit c) all.0 (λ prepare. prepare), low_copies b top c m n ks all.3)

pub low_update : (b top : ℕ) (c : Content) (puts : PutsCopies c) → AllLow b top (update_steps puts)
low_update b top c puts = (
  low_one b top puts.put0 (CopyPlace 0) (CopyUnit c) puts.one0 (λ prepare. prepare),
  (
    low_one b top puts.put1 (CopyPlace 1) (CopyUnit c) puts.one1 (λ prepare. prepare),
    (low_one b top puts.put2 (CopyPlace 2) (CopyUnit c) puts.one2 (λ prepare. prepare), (low_one b top puts.put3 (CopyPlace 3) (CopyUnit c) puts.one3 (λ prepare. prepare), tt)),
  ),
)
