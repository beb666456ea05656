-- What an edit at a key's place makes of what is found, and that the keys still rise.
use Rattle.std.{proofs.{Common.{◌≡◌, ◌≢◌, ℕ, zero, suc, ◌+◌, ◌-◌, ◌<◌, ◌≤◌, eqb, cond, Bool, true, false, List, [], ◌∷◌, length, set, take, drop, Option, Some, None, refl, sym, ap, subst, ◌∙◌, inl, inr, arith}, lemmas.{Bool.{cases_eq, eq-eqb, ne_eqb}, List.{Elements.{All-append, All-cons, All-drop, All-take}, Edits.{length-insert, get_or-insert_below, get_or-insert_at, get_or-insert_above}}}}, specs.List.{insert, remove}}
use Rattle.df_rows.{specs.{Rows.{Entry, IsEntry}, Sorted.{AreRows, IsAt, IsGap, KeysRise, key_at}}, proofs.Found.{NoneBefore, at_tail, look, look_none, none_tail, none_before_at, none_behind_at}}

-- ---- what is found

-- a test that is asked twice, and two of which one passes at most
shadowed : {X : Type 0} (b : Bool) (x y z : X) → cond b x z ≡ cond b x (cond b y z)
shadowed true x y z = refl
shadowed false x y z = refl

turned : {X : Type 0} (a b : Bool) (x y z : X) → (a ≡ true → b ≡ true → ⊥) → cond a x (cond b y z) ≡ cond b y (cond a x z)
turned true true x y z apart = absurd (apart refl refl)
turned true false x y z apart = refl
turned false b x y z apart = refl

-- what is found with a value under this key
abbrev pub Puts : List Entry → List Entry → Entry → Type 0
Puts old new e = (q : ℕ) → look q new ≡ cond (eqb q e.0) (Some e.1) (look q old)

-- and with nothing there
abbrev pub Drops : List Entry → List Entry → ℕ → Type 0
Drops old new k = (q : ℕ) → look q new ≡ cond (eqb q k) None (look q old)

apart : (q x k : ℕ) → x ≢ k → eqb q x ≡ true → eqb q k ≡ true → ⊥
apart q x k differ one other = differ (sym (Rattle.std.proofs.lemmas.Bool.eqb-true q x one) ∙ Rattle.std.proofs.lemmas.Bool.eqb-true q k other)

pub look_set : (es : List Entry) (e : Entry) (i : ℕ) → IsAt es e.0 i → NoneBefore es e.0 i → Puts es (set es i e) e
look_set [] e i is none q = absurd (omega (arith, is.inside))
look_set (x ∷ es) e zero is none q = shadowed (eqb q e.0) (Some e.1) (Some x.1) (look q es)
    ∙ ap (λ (k : ℕ). cond (eqb q e.0) (Some e.1) (cond (eqb q k) (Some x.1) (look q es))) (sym is.has)
look_set (x ∷ es) e (suc i) is none q =
    ap (λ (o : Option (List ℕ)). cond (eqb q x.0) (Some x.1) o) (look_set es e i (at_tail x es e.0 i is) (none_tail x es e.0 i none) q)
    ∙ turned (eqb q x.0) (eqb q e.0) (Some x.1) (Some e.1) (look q es) (apart q x.0 e.0 (none 0 (omega arith)))

pub look_insert : (es : List Entry) (e : Entry) (i : ℕ) → i ≤ length es → NoneBefore es e.0 i → Puts es (insert es i e) e
look_insert es e zero inside none q = refl
look_insert [] e (suc i) inside none q = absurd (omega arith)
look_insert (x ∷ es) e (suc i) inside none q =
    ap (λ (o : Option (List ℕ)). cond (eqb q x.0) (Some x.1) o) (look_insert es e i (omega arith) (none_tail x es e.0 i none) q)
    ∙ turned (eqb q x.0) (eqb q e.0) (Some x.1) (Some e.1) (look q es) (apart q x.0 e.0 (none 0 (omega arith)))

-- no row has the key but that at its place
pub record IsOnly (es : List Entry) (k i : ℕ) : Type 0 where
  pub is : IsAt es k i
  pub before : NoneBefore es k i
  pub behind : (j : ℕ) → i < j → j < length es → key_at es j ≢ k

only_tail : (x : Entry) (es : List Entry) (k i : ℕ) → IsOnly (x ∷ es) k (suc i) → IsOnly es k i
only_tail x es k i only = record {
  is = at_tail x es k i only.is;
  before = none_tail x es k i only.before;
  behind = λ j lt inside. only.behind (suc j) (omega arith) (omega arith);
}

pub look_remove : (es : List Entry) (k i : ℕ) → IsOnly es k i → Drops es (remove es i) k
look_remove [] k i only q = absurd (omega (arith, only.is.inside))
look_remove (x ∷ es) k zero only q = elim (cases_eq q k) [
  | inl same ↦
      let none : look q es ≡ None = ap (λ (n : ℕ). look n es) same ∙ look_none es k (λ j lt. only.behind (suc j) (omega arith) (omega arith)) in
      none ∙ rw (eq-eqb q k same) refl
  | inr other ↦ rw (ne_eqb q k other, ne_eqb q x.0 (λ is. other (is ∙ only.is.has))) refl
]
look_remove (x ∷ es) k (suc i) only q =
    ap (λ (o : Option (List ℕ)). cond (eqb q x.0) (Some x.1) o) (look_remove es k i (only_tail x es k i only) q)
    ∙ turned (eqb q x.0) (eqb q k) (Some x.1) None (look q es) (apart q x.0 k (only.before 0 (omega arith)))

-- ---- the keys still rise

module _ (es : List Entry) (rise : KeysRise es) where
  pub rise_insert : (e : Entry) (i : ℕ) → IsGap es e.0 i → KeysRise (insert es i e)
  rise_insert e at gap i j lt inside = let new = insert es at e in let key = λ (x : Entry). x.0 in
      let count = length-insert es at e gap.inside in
      let below : (n : ℕ) → n < at → key_at new n ≡ key_at es n = λ n before. ap key (get_or-insert_below es at e (0, []) n before gap.inside) in
      let here : (n : ℕ)
      → n ≡ at → key_at new n ≡ e.0 = λ n same. ap (λ (m : ℕ). key_at new m) same ∙ ap key (get_or-insert_at es at e (0, []) gap.inside) in
      let above : (n : ℕ) → at < n → key_at new n ≡ key_at es (n - 1) = λ n behind. subst (λ q. key_at new q
      ≡ key_at es (n - 1)) {x = n - 1 + 1} (omega arith) (ap key (get_or-insert_above es at e (0, []) (n - 1) (omega arith) gap.inside)) in
      grind (arith, below i, here i, above i, below j, here j, above j, rise i j, rise i (j - 1), rise (i - 1) (j - 1), gap.before i, gap.behind (j - 1))

-- ---- rows that are edited are rows

module _ (max room : ℕ) (es : List Entry) (are : AreRows max room es) where
  pub rows_insert : (room' : ℕ) (e : Entry) (i : ℕ)
      → room ≤ room' → length es < max → IsEntry e → IsGap es e.0 i → AreRows max room' (insert es i e)
  rows_insert room' e i grows free fits gap = record {
    rise = rise_insert es are.rise e i gap;
    fit = All-append IsEntry
        (take i es) (e ∷ drop i es) (All-take IsEntry i es are.fit) (All-cons IsEntry e (drop i es) fits (All-drop IsEntry i es are.fit));
    few = omega (arith, length-insert es i e gap.inside);
    reserved = omega (arith, are.reserved);
  }

  pub only_at : (k i : ℕ) → IsAt es k i → IsOnly es k i
  only_at k i is =
      record { is = is; before = none_before_at es are.rise k i is; behind = λ j lt inside. none_behind_at es are.rise k i j is lt inside }
