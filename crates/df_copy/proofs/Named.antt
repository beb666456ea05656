-- The checksums of replies, as those of a list of messages: whatever was set at places of sessions.
use Rattle.std.{proofs.{Common.{◌≡◌, inl, inr, ℕ, zero, suc, ◌<◌, ◌≤◌, List, [], ◌∷◌, length, take, map, refl, sym, ◌∙◌, ap, arith}, lemmas.Bool.{cases_lt}, lemmas.List.{ext_get_or, get_or-set_other, length-set}, lemmas.List.FromFn.{get_or-map-range_with_len}}, specs.Prelude.{get_or, slice_get}}
use Rattle.{df_base.proofs.Laws.{zero_plus}, df_model.specs.Making.{named_places}}
use Rattle.df_format.specs.{Making.{blank_header}, Message.{Message}, Spelling.{no_checksum}, declared.kind.Kind.TheVariants.{Reply}}
use Rattle.df_copy.{specs.{Acts.{SetsCheck}, Targets.{check_of, checks_of}}, proofs.Listed.{many_checks}}

-- no place after the sessions has a checksum
pub record AreNamed (sessions : ℕ) (checks : List (List ℕ)) : Type 0 where
  pub count : length checks ≡ named_places
  pub spare : (k : ℕ) → sessions ≤ k → k < named_places → get_or checks k no_checksum ≡ no_checksum

check_there : (us : List Message) (k : ℕ) → k < named_places → get_or (checks_of us) k no_checksum ≡ check_of (slice_get us k)
check_there us k within = get_or-map-range_with_len (λ (i : ℕ). check_of (slice_get us i)) 0 named_places k k no_checksum within (zero_plus k)

pub named_none : (sessions : ℕ) (checks : List (List ℕ)) → checks ≡ checks_of [] → AreNamed sessions checks
named_none sessions checks is = record {
  count = ap (λ (l : List (List ℕ)). length l) is ∙ many_checks [];
  spare = λ k from within. ap (λ (l : List (List ℕ)). get_or l k no_checksum) is ∙ check_there [] k within;
}

pub named_more : (sessions : ℕ) (before behind : List (List ℕ))
    → AreNamed sessions before → SetsCheck sessions before behind → AreNamed sessions behind
named_more sessions before behind are sets = record {
  count = ap (λ (l : List (List ℕ)). length l) sets.set ∙ length-set before sets.place sets.check ∙ are.count;
  spare = λ k from within.
      ap (λ (l : List (List ℕ)). get_or l k no_checksum) sets.set ∙ get_or-set_other before sets.place k sets.check no_checksum (λ same.
      omega (arith, same, from, sets.inside)) ∙ are.spare k from within;
}

-- ---- a list that has them

-- a message with a checksum
abbrev with_check : List ℕ → Message
with_check check = record { header = record (blank_header Reply 0) { checksum = check }; body = [] }

abbrev front : ℕ → List (List ℕ) → List Message
front n checks = map with_check (take n checks)

front_length : (n : ℕ) (checks : List (List ℕ)) → n ≤ length checks → length (front n checks) ≡ n
front_length zero checks less = refl
front_length (suc n) [] less = absurd (omega (arith, less))
front_length (suc n) (c ∷ checks) less = let more = front_length n checks (omega (arith, less)) in omega (arith, more)

front_there : (n k : ℕ) (checks : List (List ℕ)) → k < n → check_of (slice_get (front n checks) k) ≡ get_or checks k no_checksum
front_there zero k checks less = absurd (omega (arith, less))
front_there (suc n) k [] less = refl
front_there (suc n) zero (c ∷ checks) less = refl
front_there (suc n) (suc k) (c ∷ checks) less = front_there n k checks (omega (arith, less))

front_past : (n k : ℕ) (checks : List (List ℕ)) → n ≤ k → check_of (slice_get (front n checks) k) ≡ no_checksum
front_past zero k checks past = refl
front_past (suc n) k [] past = refl
front_past (suc n) zero (c ∷ checks) past = absurd (omega (arith, past))
front_past (suc n) (suc k) (c ∷ checks) past = front_past n k checks (omega (arith, past))

pub named_by : (n : ℕ) (checks : List (List ℕ))
    → n ≤ named_places → AreNamed n checks → (us : List Message) × (length us ≡ n) × (checks ≡ checks_of us)
named_by n checks few are = (front n checks, front_length n checks (omega (arith, few, are.count)), ext_get_or no_checksum checks (checks_of (front n checks)) (are.count ∙ sym (many_checks (front n checks))) same)
  where
    same : (k : ℕ) → k < length checks → get_or checks k no_checksum ≡ get_or (checks_of (front n checks)) k no_checksum
    same k within = elim (cases_lt k n) [
      | inl inside ↦ sym (check_there (front n checks) k (omega (arith, within, are.count)) ∙ front_there n k checks inside)
      | inr past ↦ are.spare k past (omega (arith, within, are.count))
          ∙ sym (check_there (front n checks) k (omega (arith, within, are.count)) ∙ front_past n k checks past)
    ]
