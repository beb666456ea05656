-- What a tour lists: exactly what is referenced and not shown.
use Rattle.std.{proofs.{Common.{◌≡◌, ◌⊎◌, inl, inr, ℕ, zero, suc, ◌+◌, ◌<◌, ◌≤◌, ◌==◌, Bool, true, false, List, [], ◌∷◌, map, Option, Some, None, refl, sym, ◌∙◌, ap, subst, arith, eqb-true}, lemmas.Bool.{eqb-false}}, specs.List.{range_with_len}}
use Rattle.df_layout.specs.{declared.damage.Class.{Class}, declared.damage.Finding.{Finding}}
use Rattle.df_theory.specs.Units.{AnyUnit, Block, BlockPlace, BlockUnit, CopyUnit, HeaderUnit, PrepareUnit, ReplyUnit}
use Rattle.df_model.{specs.{Work.{reference_of}, Codec.{InGrid}, Blocks.{blocks_of, reference_in, addresses, entries, entry}, Supply.{Shown, block_given, check_of, class_at, given_if, verdict_of}, Reading.{FailingLaw, InFindings, address_of, failing, with_finding}, Sense.{RiseFrom, ShowsBlock}, declared.answers.Verdict.{Verdict}, declared.answers.Verdict.TheVariants.{Sound, Failing}}, proofs.{Entries.{EachPair, reference_is, within}, Grid.{rise_lower}, Kept.{block_shown}, Rising.{RisePairs, entries_pairs}}}

-- ---- one check

-- what passes is shown, and what fails has the class of what is shown
abbrev pub Says : ℕ → Option AnyUnit → Class → Verdict → Type 0
Says c unit class Sound = (b : Block) × (unit ≡ Some (BlockUnit b)) × (b.checksum ≡ c)
Says c unit class (Failing k) = k ≡ class

sum_says : (c : ℕ) (b : Block) (class : Class) (e : Bool)
    → (b.checksum == c) ≡ e → Says c (Some (BlockUnit b)) class (verdict_of (given_if e b class))
sum_says c b class true is = (b, refl, eqb-true b.checksum c is)
sum_says c b class false is = refl

check_says : (c : ℕ) (unit : Option AnyUnit) (class : Class) → Says c unit class (verdict_of (block_given (Some c) unit class))
check_says c None class = refl
check_says c (Some (CopyUnit x)) class = refl
check_says c (Some (HeaderUnit x)) class = refl
check_says c (Some (PrepareUnit x)) class = refl
check_says c (Some (ReplyUnit x)) class = refl
check_says c (Some (BlockUnit b)) class = sum_says c b class (b.checksum == c) refl

module _ (shown : Shown) (x : ℕ × ℕ) where
  says : (v : Verdict) → check_of shown x ≡ v → Says x.1 (shown.units (BlockPlace x.0)) (class_at shown (BlockPlace x.0)) v
  says v is = subst (Says x.1 (shown.units (BlockPlace x.0)) (class_at shown (BlockPlace x.0)))
      is (check_says x.1 (shown.units (BlockPlace x.0)) (class_at shown (BlockPlace x.0)))

  fails : (k : Class) → check_of shown x ≡ Failing k → (ShowsBlock shown.units x.0 x.1 → ⊥) × (k ≡ class_at shown (BlockPlace x.0))
  fails k is = (λ shows. (let fine : check_of shown x ≡ Sound = ap verdict_of (block_shown (Some x.1) _ _ shows.0 shows.1 (ap Some (sym shows.2))) in cc (fine, is)), says (Failing k) is)

-- ---- the list

order_case : (a b : ℕ) (v : Verdict) (rest : List Finding)
    → a ≤ b → RiseFrom (b + 1) (map address_of rest) → RiseFrom a (map address_of (with_finding b v rest))
order_case a b Sound rest le rise = rise_lower a (b + 1) (map address_of rest) (omega arith) rise
order_case a b (Failing k) rest le rise = (le, rise)

in_order : (shown : Shown) (a : ℕ) (xs : List (ℕ × ℕ)) → RisePairs a xs → RiseFrom a (map address_of (failing shown xs))
in_order shown a [] rise = tt
in_order shown a (x ∷ xs) rise = order_case a x.0 (check_of shown x) (failing shown xs) rise.0 (in_order shown (x.0 + 1) xs rise.1)

-- what is known of a finding of these
abbrev pub IsOne : (ℕ × ℕ → Type 0) → Shown → Finding → Type 0
IsOne P shown f = (c : ℕ) × P (f.address, c) × (ShowsBlock shown.units f.address c → ⊥) × (f.«class» ≡ class_at shown (BlockPlace f.address))

each_case : (P : ℕ × ℕ → Type 0) (shown : Shown) (x : ℕ × ℕ) (rest : List Finding) (f : Finding) (v : Verdict)
    → check_of shown x ≡ v → P x → InFindings f (with_finding x.0 v rest) → (InFindings f rest → IsOne P shown f) → IsOne P shown f
each_case P shown x rest f Sound is here at more = more at
each_case P shown x rest f (Failing k) is here (inl same) more = let says = fails shown x k is in
    subst (IsOne P shown) (sym same) (x.1, here, says.0, says.1)
each_case P shown x rest f (Failing k) is here (inr there) more = more there

each_of : (P : ℕ × ℕ → Type 0) (shown : Shown) (xs : List (ℕ × ℕ)) (f : Finding)
    → EachPair P xs → InFindings f (failing shown xs) → IsOne P shown f
each_of P shown [] f each at = absurd at
each_of P shown (x ∷ xs) f each at =
    each_case P shown x (failing shown xs) f (check_of shown x) refl each.0 at (λ there. each_of P shown xs f each.1 there)

abbrev pub InPairs : ℕ × ℕ → List (ℕ × ℕ) → Type 0
InPairs x [] = ⊥
InPairs x (y ∷ ys) = (x ≡ y) ⊎ InPairs x ys

here_case : (shown : Shown) (x : ℕ × ℕ) (rest : List Finding) (v : Verdict) → check_of shown x ≡ v → (ShowsBlock shown.units x.0 x.1 → ⊥)
    → InFindings (record { address = x.0; «class» = class_at shown (BlockPlace x.0) }) (with_finding x.0 v rest)
here_case shown x rest Sound is hurt = absurd (hurt (says shown x Sound is))
here_case shown x rest (Failing k) is hurt = inl (ap (λ (c : Class). record { address = x.0; «class» = c }) (sym (fails shown x k is).1))

there_case : (f : Finding) (a : ℕ) (v : Verdict) (rest : List Finding) → InFindings f rest → InFindings f (with_finding a v rest)
there_case f a Sound rest at = at
there_case f a (Failing k) rest at = inr at

all_of : (shown : Shown) (xs : List (ℕ × ℕ)) (x : ℕ × ℕ) → InPairs x xs → (ShowsBlock shown.units x.0 x.1 → ⊥)
    → InFindings (record { address = x.0; «class» = class_at shown (BlockPlace x.0) }) (failing shown xs)
all_of shown [] x at hurt = absurd at
all_of shown (y ∷ ys) x (inl same) hurt =
    subst (λ (z : ℕ × ℕ). InFindings (record { address = x.0; «class» = class_at shown (BlockPlace x.0) })
    (with_finding z.0 (check_of shown z) (failing shown ys))) same (here_case shown x (failing shown ys) (check_of shown x) refl hurt)
all_of shown (y ∷ ys) x (inr there) hurt = there_case _ y.0 (check_of shown y) (failing shown ys) (all_of shown ys x there hurt)

-- ---- the entries

entry_member : (a : ℕ) (o : Option ℕ) (rest : List (ℕ × ℕ)) (c : ℕ) → o ≡ Some c → InPairs (a, c) (entry a o rest)
entry_member a None rest c is = absurd (cc)
entry_member a (Some d) rest c is = inl (ap (λ (k : ℕ). (a, k)) (let both : Some d ≡ Some c = is in (let e : c ≡ d = cc in e)))

entry_more : (x : ℕ × ℕ) (a : ℕ) (o : Option ℕ) (rest : List (ℕ × ℕ)) → InPairs x rest → InPairs x (entry a o rest)
entry_more x a None rest at = at
entry_more x a (Some d) rest at = inr at

member_case : (f : ℕ → Option ℕ) (s a c : ℕ) (rest : List (ℕ × ℕ)) (b : Bool)
    → (s == a) ≡ b → f a ≡ Some c → ((s ≡ a → ⊥) → InPairs (a, c) rest) → InPairs (a, c) (entry s (f s) rest)
member_case f s a c rest true same is more =
    subst (λ (k : ℕ). InPairs (k, c) (entry s (f s) rest)) (eqb-true s a same) (entry_member s (f s) rest c (ap f (eqb-true s a same) ∙ is))
member_case f s a c rest false same is more = entry_more (a, c) s (f s) rest (more (eqb-false s a same))

member : (f : ℕ → Option ℕ) (s n a c : ℕ) → s ≤ a → a < s + n → f a ≡ Some c → InPairs (a, c) (entries f (range_with_len s n))
member f s zero a c from to is = absurd (omega arith)
member f s (suc n) a c from to is = member_case f s a c (entries f (range_with_len (s + 1) n)) (s == a) refl is (λ apart.
    member f (s + 1) n a c (omega (arith, apart)) (omega arith) is)

pub failing_law : FailingLaw
failing_law sh codec shown w = let f = reference_in (blocks_of sh w) in let xs = entries f (addresses sh.layout) in
    let known = within (λ (x : ℕ × ℕ). InGrid sh.layout x.0 × (reference_of w x.0 ≡ Some x.1)) f 1 sh.layout.blocks (λ a c from to is.
    ((omega (arith, from), omega (arith, to)), sym (reference_is sh w a from to) ∙ is)) in record {
      order = in_order shown 1 xs (entries_pairs f 1 sh.layout.blocks);
      each = λ f at. let one = each_of (λ (x : ℕ × ℕ). InGrid sh.layout x.0 × (reference_of w x.0 ≡ Some x.1)) shown xs f known at in
          (one.1.0, (one.0, one.1.1, one.2), one.3);
      all = λ a c inside is hurt. all_of shown xs (a, c) (member f 1 sh.layout.blocks a c (omega (arith, inside.0))
          (omega (arith, inside.1)) (reference_is sh w a (omega (arith, inside.0)) (omega (arith, inside.1)) ∙ is)) hurt;
    }
