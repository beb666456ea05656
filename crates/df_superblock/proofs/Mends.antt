-- A repair, one copy after the other: which copies it writes, and what they show then.
use Rattle.std.proofs.{Common.{◌≡◌, ◌⊎◌, inl, inr, ℕ, zero, suc, ◌<◌, ◌≤◌, ◌+◌, Bool, true, false, List, [], ◌∷◌, length, get_or, Some, ◌∙◌, ap, subst, arith}, lemmas.Bool.{cases_eq}}
use Rattle.df_base.specs.{Image.{Image, written}, Log.{Write, Sync, Log, add, now}, Moments.{adds}}
use Rattle.df_format.specs.{Super.{copy_bytes}, Copies.{Content, content_at}, declared.superblock.SuperFields.{SuperFields}}
use Rattle.df_superblock.{specs.Events.{repair_events}, proofs.Sights.{PutsCopy, seen_apart}}

-- this copy isn't among those that are written, from a number on
abbrev pub Spares : ℕ → ℕ → List Bool → Type 0
Spares n number [] = Unit {0}
Spares n number (true ∷ members) = Spares n (number + 1) members
Spares n number (false ∷ members) = (n ≡ number → ⊥) × Spares n (number + 1) members

-- this one is
abbrev pub Writes : ℕ → ℕ → List Bool → Type 0
Writes n number [] = ⊥
Writes n number (true ∷ members) = Writes n (number + 1) members
Writes n number (false ∷ members) = (n ≡ number) ⊎ Writes n (number + 1) members

earlier_spared : (n number : ℕ) (members : List Bool) → n < number → Spares n number members
earlier_spared n number [] less = tt
earlier_spared n number (true ∷ members) less = earlier_spared n (number + 1) members (omega arith)
earlier_spared n number (false ∷ members) less = (λ e. omega arith, earlier_spared n (number + 1) members (omega arith))

-- no member is written
pub member_spared : (number k : ℕ) (members : List Bool) → get_or members k false ≡ true → Spares (number + k) number members
member_spared number k [] is = tt
member_spared number zero (true ∷ members) is = earlier_spared (number + zero) (number + 1) members (omega arith)
member_spared number zero (false ∷ members) is = absurd (let no : false ≡ true = is in cc)
member_spared number (suc k) (true ∷ members) is = let place : (number + 1) + k ≡ number + suc k = omega arith in
    subst (λ (n : ℕ). Spares n (number + 1) members) place (member_spared (number + 1) k members is)
member_spared number (suc k) (false ∷ members) is = let place : (number + 1) + k ≡ number + suc k = omega arith in
    (λ e. omega arith, rw place at (member_spared (number + 1) k members is))

-- and each other one is
pub other_written : (number k : ℕ) (members : List Bool)
    → k < length members → get_or members k false ≡ false → Writes (number + k) number members
other_written number k [] inside is = absurd (omega arith)
other_written number zero (true ∷ members) inside is = absurd (let no : true ≡ false = is in cc)
other_written number zero (false ∷ members) inside is = inl (omega arith)
other_written number (suc k) (true ∷ members) inside is = let place : (number + 1) + k ≡ number + suc k = omega arith in
    subst (λ (n : ℕ). Writes n (number + 1) members) place (other_written (number + 1) k members (omega arith) is)
other_written number (suc k) (false ∷ members) inside is = let place : (number + 1) + k ≡ number + suc k = omega arith in
    inr (rw place at (other_written (number + 1) k members (omega arith) is))

module _ (f : SuperFields) (c : Content) (puts : (n : ℕ) → n < 4 → PutsCopy n (copy_bytes n f) c) where
  -- the log with one copy more
  abbrev one_more : ℕ → Log → Log
  one_more n log = add Sync (add (Write n (copy_bytes n f)) log)

  -- a copy that shows the content goes on showing it
  one_stays : (n number : ℕ) (image : Image)
      → number < 4 → content_at image n ≡ Some c → content_at (written number (copy_bytes number f) image) n ≡ Some c
  one_stays n number image below is = elim (cases_eq n number) [
    | inl here ↦ ap (λ (m : ℕ). content_at (written number (copy_bytes number f) image) m) here ∙ (puts number below).shows image
    | inr away ↦ seen_apart number (copy_bytes number f) image n ((puts number below).alone n away) ∙ is
  ]

  pub shown_stays : (n number : ℕ) (members : List Bool) (log : Log) → number + length members ≤ 4
      → content_at (now log) n ≡ Some c → content_at (now (adds (repair_events f number members) log)) n ≡ Some c
  shown_stays n number [] log fits is = is
  shown_stays n number (true ∷ members) log fits is = shown_stays n (number + 1) members log (omega arith) is
  shown_stays n number (false ∷ members) log fits is =
      shown_stays n (number + 1) members (one_more number log) (omega arith) (one_stays n number (now log) (omega arith) is)

  -- and one that is written shows it then
  pub written_shows : (n number : ℕ) (members : List Bool) (log : Log)
      → number + length members ≤ 4 → Writes n number members → content_at (now (adds (repair_events f number members) log)) n ≡ Some c
  written_shows n number [] log fits is = absurd is
  written_shows n number (true ∷ members) log fits is = written_shows n (number + 1) members log (omega arith) is
  written_shows n number (false ∷ members) log fits (inl here) = shown_stays n (number + 1) members (one_more number log) (omega arith)
      (ap (λ (m : ℕ). content_at (written number (copy_bytes number f) (now log)) m) here ∙ (puts number (omega arith)).shows (now log))
  written_shows n number (false ∷ members) log fits (inr later) = written_shows n (number + 1) members (one_more number log) (omega arith) later
