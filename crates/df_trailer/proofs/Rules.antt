-- The rules of sessions, as a test finds them broken.
use Rattle.std.{proofs.{Common.{◌≡◌, ◌≢◌, ℕ, zero, suc, ◌^◌, ◌<◌, ◌≤◌, ◌==◌, false, nat_lt, Some, List, [], ◌∷◌, length, refl, sym, ap, ◌∙◌, arith, inl, inr}, lemmas.Bool.{ne_eqb, le-ltb, eqb-false, ltb-false, cases_Bool, or_parts}, lemmas.Option.{same_Some}}, specs.List.{slice_get}}
use Rattle.{df_theory.specs.Units.{Session}, df_trailer.specs.Text.{is_repeated, is_wrong, wrong_place}}

-- the sessions keep the rules after the earlier ones
pub record KeepRules (op : ℕ) (earlier ss : List Session) : Type 0 where
  pub each : (k : ℕ) (s : Session) → slice_get ss k ≡ Some s → (0 < s.client) × (0 < s.request) × (s.request ≤ 2 ^ 62) × (0 < s.op) × (s.op ≤ op)
  pub fresh : (k : ℕ) (s : Session) → slice_get ss k ≡ Some s → is_repeated s.client s.op earlier ≡ false
  pub clients : (j k : ℕ) (s t : Session) → slice_get ss j ≡ Some s → slice_get ss k ≡ Some t → s.client ≡ t.client → j ≡ k
  pub ops : (j k : ℕ) (s t : Session) → slice_get ss j ≡ Some s → slice_get ss k ≡ Some t → s.op ≡ t.op → j ≡ k

right_one : (op : ℕ) (earlier : List Session) (s : Session) → (0 < s.client) × (0 < s.request) × (s.request ≤ 2 ^ 62) × (0 < s.op) × (s.op ≤ op)
    → is_repeated s.client s.op earlier ≡ false → is_wrong op earlier s ≡ false
right_one op earlier s f fresh = let a : (s.client == 0) ≡ false = ne_eqb s.client 0 (λ e. omega (arith, f.0)) in
    let b : (s.request == 0) ≡ false = ne_eqb s.request 0 (λ e. omega (arith, f.1)) in
    let c : nat_lt (2 ^ 62) s.request ≡ false = le-ltb (2 ^ 62) s.request f.2 in
    let d : (s.op == 0) ≡ false = ne_eqb s.op 0 (λ e. omega (arith, f.3)) in let g : nat_lt op s.op ≡ false = le-ltb op s.op f.4 in
    rw (a, b, c, d, g) fresh

not_zero : (x : ℕ) → (x == 0) ≡ false → 0 < x
not_zero x is = let some : x ≢ 0 = eqb-false x 0 is in omega arith

-- what a test that finds nothing says
pub one_right : (op : ℕ) (earlier : List Session) (s : Session) → is_wrong op earlier s ≡ false
    → ((0 < s.client) × (0 < s.request) × (s.request ≤ 2 ^ 62) × (0 < s.op) × (s.op ≤ op)) × (is_repeated s.client s.op earlier ≡ false)
one_right op earlier s is = let a = or_parts (s.client == 0) _ is in let b = or_parts (s.request == 0) _ a.1 in
    let c = or_parts (nat_lt (2 ^ 62) s.request) _ b.1 in let d = or_parts (s.op == 0) _ c.1 in let g = or_parts (nat_lt op s.op) _ d.1 in
    ((not_zero s.client a.0, not_zero s.request b.0, ltb-false (2 ^ 62) s.request c.0, not_zero s.op d.0, ltb-false op s.op g.0), g.1)

pub none_wrong : (op : ℕ) (earlier ss : List Session) → KeepRules op earlier ss → wrong_place op earlier ss ≡ length ss
none_wrong op earlier [] keep = refl
none_wrong op earlier (s ∷ ss) keep =
    let here : is_wrong op earlier s ≡ false = right_one op earlier s (keep.each 0 s refl) (keep.fresh 0 s refl) in
    rw here (ap suc (none_wrong op (s ∷ earlier) ss (record {
      each = λ k t at. keep.each (suc k) t at;
      fresh = λ k t at. fresh_behind t (keep.fresh (suc k) t at)
          (λ e. omega (arith, keep.clients 0 (suc k) s t refl at e)) (λ e. omega (arith, keep.ops 0 (suc k) s t refl at e));
      clients = λ j k t u tj uk e. omega (arith, keep.clients (suc j) (suc k) t u tj uk e);
      ops = λ j k t u tj uk e. omega (arith, keep.ops (suc j) (suc k) t u tj uk e);
    })))
  where
    fresh_behind : (t : Session) → is_repeated t.client t.op earlier ≡ false
        → (s.client ≡ t.client → ⊥) → (s.op ≡ t.op → ⊥) → is_repeated t.client t.op (s ∷ earlier) ≡ false
    fresh_behind t fresh client other = let a : (s.client == t.client) ≡ false = ne_eqb s.client t.client client in
        let b : (s.op == t.op) ≡ false = ne_eqb s.op t.op other in rw (a, b) fresh

-- where the first is right and the others are right after it, all are
pub rules_behind : (op : ℕ) (earlier ss : List Session) (s : Session)
    → is_wrong op earlier s ≡ false → KeepRules op (s ∷ earlier) ss → KeepRules op earlier (s ∷ ss)
rules_behind op earlier ss s here keep = record { each = each; fresh = fresh; clients = clients; ops = ops }
  where
    mine : ((0 < s.client) × (0 < s.request) × (s.request ≤ 2 ^ 62) × (0 < s.op) × (s.op ≤ op)) × (is_repeated s.client s.op earlier ≡ false)
    mine = one_right op earlier s here

    parts : (k : ℕ) (t : Session) → slice_get ss k ≡ Some t
        → ((s.client == t.client) ≡ false) × (((s.op == t.op) ≡ false) × (is_repeated t.client t.op earlier ≡ false))
    parts k t at = let a = or_parts (s.client == t.client) _ (keep.fresh k t at) in let b = or_parts (s.op == t.op) _ a.1 in (a.0, (b.0, b.1))

    each : (k : ℕ) (t : Session)
        → slice_get (s ∷ ss) k ≡ Some t → (0 < t.client) × (0 < t.request) × (t.request ≤ 2 ^ 62) × (0 < t.op) × (t.op ≤ op)
    each zero t at = rw (sym (same_Some s t at)) mine.0
    each (suc k) t at = keep.each k t at

    fresh : (k : ℕ) (t : Session) → slice_get (s ∷ ss) k ≡ Some t → is_repeated t.client t.op earlier ≡ false
    fresh zero t at = rw (sym (same_Some s t at)) mine.1
    fresh (suc k) t at = (parts k t at).1.1

    clients : (j k : ℕ) (t u : Session) → slice_get (s ∷ ss) j ≡ Some t → slice_get (s ∷ ss) k ≡ Some u → t.client ≡ u.client → j ≡ k
    clients zero zero t u tj uk e = refl
    clients zero (suc k) t u tj uk e =
        absurd (eqb-false s.client u.client (parts k u uk).0 (ap (λ (v : Session). v.client) (same_Some s t tj) ∙ e))
    clients (suc j) zero t u tj uk e =
        absurd (eqb-false s.client t.client (parts j t tj).0 (ap (λ (v : Session). v.client) (same_Some s u uk) ∙ sym e))
    clients (suc j) (suc k) t u tj uk e = ap suc (keep.clients j k t u tj uk e)

    ops : (j k : ℕ) (t u : Session) → slice_get (s ∷ ss) j ≡ Some t → slice_get (s ∷ ss) k ≡ Some u → t.op ≡ u.op → j ≡ k
    ops zero zero t u tj uk e = refl
    ops zero (suc k) t u tj uk e = absurd (eqb-false s.op u.op (parts k u uk).1.0 (ap (λ (v : Session). v.op) (same_Some s t tj) ∙ e))
    ops (suc j) zero t u tj uk e = absurd (eqb-false s.op t.op (parts j t tj).1.0 (ap (λ (v : Session). v.op) (same_Some s u uk) ∙ sym e))
    ops (suc j) (suc k) t u tj uk e = ap suc (keep.ops j k t u tj uk e)

pub rules_kept : (op : ℕ) (earlier ss : List Session) → length ss ≤ wrong_place op earlier ss → KeepRules op earlier ss
rules_kept op earlier [] all = record {
  each = λ k s at. absurd (cc);
  fresh = λ k s at. absurd (cc);
  clients = λ j k s t sj tk e. absurd (cc);
  ops = λ j k s t sj tk e. absurd (cc);
}
rules_kept op earlier (s ∷ ss) all = elim (cases_Bool (is_wrong op earlier s)) [
  | inl wrong ↦ absurd (none (rw wrong at all))
  | inr right ↦ rules_behind op earlier ss s right (rules_kept op (s ∷ earlier) ss (less (rw right at all)))
]
  where
    none : suc (length ss) ≤ 0 → ⊥
    none h = omega arith

    less : suc (length ss) ≤ suc (wrong_place op (s ∷ earlier) ss) → length ss ≤ wrong_place op (s ∷ earlier) ss
    less h = omega arith
