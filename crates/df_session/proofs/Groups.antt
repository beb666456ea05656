-- The prepares of a group, each put into the slot of its op, tell the checksums that they were made with: these are the codec's.
use Rattle.std.proofs.{Common.{◌≡◌, ℕ, ◌+◌, ◌%◌, ◌<◌, ◌≤◌, ◌==◌, Bool, true, false, if◌then◌else◌, List, [], ◌∷◌, drop, length, Option, Some, None, refl, sym, ◌∙◌, ap, arith}, lemmas.Bool.Decides.{nat_tests}}
use Rattle.df_theory.{specs.{Units.{AnyUnit, Message, Place, PreparePlace, PrepareUnit, Units, or_else, overlay}, UnitLog.{put_one}}, proofs.Laws.{mod_apart, put_one_law}}
use Rattle.df_model.specs.{Making.{first_of, prepare_in, prepares_in}, Memory.{Memory}, Supply.{group_puts, group_sums}, Work.{Request}}
use Rattle.{df_replica.specs.Below.{DataFile}, df_session.specs.Codec.{HasCodecSum, codec}}

put_aside : (a s : ℕ) (x : AnyUnit) → (a ≡ s → ⊥) → put_one (PreparePlace a) x (PreparePlace s) ≡ None
put_aside a s x apart = go (a == s) refl
  where
    go : (b : Bool) → (a == s) ≡ b → (if b then Option.Some x else None) ≡ None
    go true is = let same : a ≡ s = grind (arith, nat_tests, is) in absurd (apart same)
    go false is = refl

-- each of these prepares is there, in the slot of its op
abbrev pub AreAt : (n : ℕ) → Units → List Message → Type 0
AreAt n units [] = Unit {0}
AreAt n units (p ∷ ps) = (units (PreparePlace (p.header.op % n)) ≡ Some (PrepareUnit p)) × AreAt n units ps

under_more : (n : ℕ) (put more : Units) (ps : List Message) → AreAt n more ps → AreAt n (overlay more put) ps
under_more n put more [] are = tt
under_more n put more (p ∷ ps) are =
    (ap (λ (o : Option AnyUnit). or_else o (put (PreparePlace (p.header.op % n)))) are.0, under_more n put more ps are.1)

pub at_more : (n : ℕ) (put units : Units) → ((s : ℕ) (x : AnyUnit) → put (PreparePlace s) ≡ Some x → units (PreparePlace s) ≡ Some x)
    → (ps : List Message) → AreAt n put ps → AreAt n units ps
at_more n put units there [] are = tt
at_more n put units there (p ∷ ps) are = (there (p.header.op % n) (PrepareUnit p) are.0, at_more n put units there ps are.1)

module _ (m : Memory) (first last n : ℕ) (some : 0 < n) where
  -- nothing is put into a slot of none of their ops
  puts_none : (op parent : ℕ) (rs : List Request) (sums : List ℕ) (s : ℕ)
      → ((k : ℕ) → k < length rs → (op + k) % n ≡ s → ⊥) → group_puts n (prepares_in m first last op parent rs sums) (PreparePlace s) ≡ None
  puts_none op parent [] sums s apart = refl
  puts_none op parent (r ∷ rs) sums s apart = let x : AnyUnit = PrepareUnit (prepare_in m first last op parent (first_of sums) r) in
      let here : op + 0 ≡ op = omega arith in let next : (k : ℕ) → op + (k + 1) ≡ op + 1 + k = λ k. omega arith in
      let rest = puts_none (op + 1) (first_of sums) rs (drop 1 sums) s (λ k less same.
      apart (k + 1) (omega (arith, less)) (ap (λ (o : ℕ). o % n) (next k) ∙ same)) in
      ap (λ (o : Option AnyUnit). or_else o (put_one (PreparePlace (op % n)) x (PreparePlace s))) rest
      ∙ put_aside (op % n) s x (λ same. apart 0 (omega arith) (ap (λ (o : ℕ). o % n) here ∙ same))

  -- each has a slot of its own
  pub puts_each : (op parent : ℕ) (rs : List Request) (sums : List ℕ)
      → length rs ≤ n → AreAt n (group_puts n (prepares_in m first last op parent rs sums)) (prepares_in m first last op parent rs sums)
  puts_each op parent [] sums few = tt
  puts_each op parent (r ∷ rs) sums few = let p = prepare_in m first last op parent (first_of sums) r in
      let place : Place = PreparePlace (op % n) in let rest = prepares_in m first last (op + 1) (first_of sums) rs (drop 1 sums) in
      let none : group_puts n rest place ≡ None =
      puts_none (op + 1) (first_of sums) rs (drop 1 sums) (op % n) (λ k less same.
      mod_apart n op (op + 1 + k) some (omega arith) (omega (arith, less, few)) (sym same)) in (
        ap (λ (o : Option AnyUnit). or_else o (put_one place (PrepareUnit p) place)) none ∙ (put_one_law place (PrepareUnit p)).at,
        under_more n
            (put_one place (PrepareUnit p)) (group_puts n rest) rest (puts_each (op + 1) (first_of sums) rs (drop 1 sums) (omega (arith, few))),
      )

  -- where each is shown, and has the checksum that the codec gives it, that is the one that the codec gives to each in turn
  module _ (file : DataFile) (shows : Units) (have : (s : ℕ) (p : Message) → shows (PreparePlace
      s) ≡ Some (PrepareUnit p) → HasCodecSum file (PreparePlace s) (PrepareUnit p)) where
    pub sums_in : (op parent : ℕ) (rs : List Request) (sums : List ℕ) → length sums ≡ length rs
        → AreAt n shows (prepares_in m first last op parent rs sums) → sums ≡ group_sums (codec file) m first last op parent rs
    sums_in op parent [] [] same at = refl
    sums_in op parent [] (x ∷ xs) same at = absurd (cc)
    sums_in op parent (r ∷ rs) [] same at = absurd (cc)
    sums_in op parent (r ∷ rs) (x ∷ xs) same at = let one : x ≡ (codec file).prepare (prepare_in m first last op parent 0 r) =
        have (op % n) (prepare_in m first last op parent x r) at.0 in let rest = sums_in (op + 1) x rs xs (omega (arith, same)) at.1 in
        ap (λ (l : List ℕ). x ∷ l) rest ∙ ap (λ (sum : ℕ). sum ∷ group_sums (codec file) m first last (op + 1) sum rs) one
