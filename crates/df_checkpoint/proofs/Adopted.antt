-- What the grid holds after each block that is adopted, and which addresses are free then.
use Rattle.std.{proofs.{Common.{◌≡◌, ℕ, zero, suc, ◌+◌, ◌-◌, ◌<◌, ◌≤◌, ◌==◌, ◌||◌, Bool, true, false, Option, Some, None, List, [], ◌∷◌, length, map, drop, get_or, refl, sym, ap, ◌∙◌, subst, arith, le-ltb, ne_eqb}, lemmas.Bool.{eq-eqb}}, specs.{Prelude.{if◌then◌else◌, OnOk, Result, Ok, Err}, List.{range_with_len}}}
use Rattle.{df_layout.specs.declared.layout.Layout.{Layout}, df_units.specs.Meaning.{number_of}}
use Rattle.df_model.specs.{Blocks.{Blocks, entries, entry, is_held_in, sum_at, with_entry}, Work.{is_in, is_known}}
use Rattle.df_grid.specs.{Grid.{GridState, HasAddress, IsUnheld, with_blocks}, Table.{IsIdle, adopted}}
use Rattle.df_checkpoint.specs.{declared.links.Link.{Link}, Chain.{AreDistinctLinks, is_among}, declared.fault.TrailerFault.{TrailerFault}, declared.fault.TrailerFault.TheVariants.{Damaged, BadField, DiskFault}, Adopting.{AdoptAnswer, blocks_to, chained, link_pair}}
use Rattle.df_trailer.specs.declared.reader.Reader.{Reader}

-- blocks that are live and referenced
abbrev held_by : List (ℕ × ℕ) → Blocks
held_by xs = record { live = xs; captured = []; written = []; left = []; durable = xs; chain = [] }

-- an entry after a lower one
behind : (a c s : ℕ) (o : Option ℕ) (xs : List (ℕ × ℕ)) → s < a → with_entry a c (entry s o xs) ≡ entry s o (with_entry a c xs)
behind a c s None xs less = refl
behind a c s (Some d) xs less = ap (λ (b : Bool).
    if b then (a, c) ∷ (s, d) ∷ xs else (if s == a then (a, c) ∷ xs else (s, d) ∷ with_entry a c xs)) (le-ltb a s (omega arith))
    ∙ ap (λ (b : Bool). if b then (a, c) ∷ xs else (s, d) ∷ with_entry a c xs) (ne_eqb s a (λ same. omega (arith, same)))

last_some : (f : ℕ → Option ℕ) (s n c : ℕ)
    → f (s + n) ≡ Some c → with_entry (s + n) c (entries f (range_with_len s n)) ≡ entries f (range_with_len s (suc n))
last_some f s zero c is = let none : s + 0 ≡ s = omega arith in
    ap (λ (a : ℕ). (a, c) ∷ []) none ∙ ap (λ (o : Option ℕ). entry s o []) (sym is ∙ ap f none)
last_some f s (suc n) c is = let up : s + suc n ≡ (s + 1) + n = omega arith in
    behind (s + suc n) c s (f s) (entries f (range_with_len (s + 1) n)) (omega arith)
    ∙ ap (λ (a : ℕ). entry s (f s) (with_entry a c (entries f (range_with_len (s + 1) n)))) up
    ∙ ap (entry s (f s)) (last_some f (s + 1) n c (ap f (sym up) ∙ is))

last_none : (f : ℕ → Option ℕ) (s n : ℕ) → f (s + n) ≡ None → entries f (range_with_len s n) ≡ entries f (range_with_len s (suc n))
last_none f s zero is = let none : s + 0 ≡ s = omega arith in ap (λ (o : Option ℕ). entry s o []) (sym is ∙ ap f none)
last_none f s (suc n) is = let up : s + suc n ≡ (s + 1) + n = omega arith in ap (entry s (f s)) (last_none f (s + 1) n (ap f (sym up) ∙ is))

pub live_next : (said : ℕ → Option ℕ) (address c : ℕ)
    → 1 ≤ address → said address ≡ Some c → adopted (blocks_to said address) true address c ≡ blocks_to said (address + 1)
live_next said address c some is = let here : address ≡ 1 + (address - 1) = omega arith in
    let more : suc (address - 1) ≡ address + 1 - 1 = omega arith in
    ap (λ (a : ℕ). held_by (with_entry a c (entries said (range_with_len 1 (address - 1))))) here ∙ ap held_by
    (last_some said 1 (address - 1) c (ap said (sym here) ∙ is)) ∙ ap (λ (n : ℕ). held_by (entries said (range_with_len 1 n))) more

pub live_same : (said : ℕ → Option ℕ) (address : ℕ) → 1 ≤ address → said address ≡ None → blocks_to said address ≡ blocks_to said (address + 1)
live_same said address some is = let here : address ≡ 1 + (address - 1) = omega arith in
    let more : suc (address - 1) ≡ address + 1 - 1 = omega arith in
    ap held_by (last_none said 1 (address - 1) (ap said (sym here) ∙ is)) ∙ ap (λ (n : ℕ). held_by (entries said (range_with_len 1 n))) more

-- ---- which addresses are free

sum_none : (f : ℕ → Option ℕ) (s n a : ℕ) → (s ≤ a → a < s + n → f a ≡ None) → sum_at a (entries f (range_with_len s n)) ≡ None
sum_none f s zero a none = refl
sum_none f s (suc n) a none = go (f s) refl (sum_none f (s + 1) n a (λ from to. none (omega arith) (omega arith)))
  where
    go : (o : Option ℕ) → f s ≡ o
        → sum_at a (entries f (range_with_len (s + 1) n)) ≡ None → sum_at a (entry s o (entries f (range_with_len (s + 1) n))) ≡ None
    go None is rest = rest
    go (Some c) is rest = ap (λ (b : Bool). if b then Some c else sum_at a (entries f (range_with_len (s + 1) n))) (ne_eqb s a apart) ∙ rest
      where
        apart : s ≡ a → ⊥
        apart same = let e : f a ≡ None = none (omega (arith, same)) (omega (arith, same)) in let h : f a ≡ Some c = ap f (sym same) ∙ is in cc

pub live_free : (said : ℕ → Option ℕ) (address a : ℕ) → (a < address → 1 ≤ a → said a ≡ None) → is_held_in (blocks_to said address) a ≡ false
live_free said address a none = let free : sum_at a (entries said (range_with_len 1 (address - 1))) ≡ None =
    sum_none said 1 (address - 1) a (λ from to. none (omega arith) from) in
    ap (λ (o : Option ℕ). is_known o || (false || (is_known o || false))) free

pub live_unheld : (g : GridState) (said : ℕ → Option ℕ) (address : ℕ)
    → HasAddress g address → g.blocks ≡ blocks_to said address → IsUnheld g address
live_unheld g said address inside is = record { inside = inside; unheld = ap (λ (b : Blocks). is_held_in b address) is ∙ live_free said address address (λ less. absurd (omega arith)) }

sum_apart : (a : ℕ) (rs : List Link) → is_among a rs ≡ false → sum_at a (map link_pair rs) ≡ None
sum_apart a [] none = refl
sum_apart a (r ∷ rs) none = go (r.address == a) (λ rest. sum_apart a rs rest) none
  where
    go : (t : Bool) → (is_among a rs ≡ false → sum_at a (map link_pair rs) ≡ None)
        → (t || is_among a rs) ≡ false → (if t then Some (number_of r.checksum) else sum_at a (map link_pair rs)) ≡ None
    go true rest none = absurd (cc)
    go false rest none = rest none

-- the chain with one block more before the others
pub chain_free : (g : GridState) (b : Blocks) (rs : List Link) (a : ℕ)
    → g.blocks ≡ chained b rs → b.chain ≡ [] → HasAddress g a → is_held_in b a ≡ false → is_among a rs ≡ false → IsUnheld g a
chain_free g b rs a is none inside free apart = record {
  inside = inside;
  unheld = ap (λ (c : Blocks). is_held_in c a) is
      ∙ ap (λ (o : Option ℕ). is_known (sum_at a b.live) || ((is_known (sum_at a b.captured) || (is_known (sum_at a b.written) || is_in
      a b.left)) || (is_known (sum_at a b.durable) || is_known o))) (sum_apart a rs apart ∙ ap (sum_at a) (sym none)) ∙ free;
}

-- the links after one, in the order from the last block to the first
pub record IsNext (refs : List Link) (k : ℕ) (at : Link) : Type 0 where
  pub split : drop k refs ≡ at ∷ drop (suc k) refs
  pub apart : is_among at.address (drop (suc k) refs) ≡ false
  pub there : is_among at.address refs ≡ true

pub next_at : (g : GridState) (refs : List Link) (k : ℕ) (at : Link)
    → AreDistinctLinks g refs → k < length refs → at ≡ get_or refs k at → IsNext refs k at
next_at g [] k at apart less here = absurd (omega arith)
next_at g (r ∷ rs) zero at apart less here = record {
  split = ap (λ (l : Link). l ∷ rs) (sym here);
  apart = ap (λ (l : Link). is_among l.address rs) here ∙ apart.1;
  there = ap (λ (b : Bool). b || is_among at.address rs) (eq-eqb r.address at.address (ap (λ (l : Link). l.address) (sym here)));
}
next_at g (r ∷ rs) (suc k) at apart less here = let more = next_at g rs k at apart.2 (omega arith) here in
    record { split = more.split; apart = more.apart; there = later (r.address == at.address) more.there }
  where
    later : (b : Bool) → is_among at.address rs ≡ true → (b || is_among at.address rs) ≡ true
    later true is = refl
    later false is = is

-- so it is for the next block of the chain
pub chain_next : (g h : GridState) (refs : List Link) (done : ℕ) (at : Link) → AreDistinctLinks g refs → done < length refs → at
    ≡ get_or refs (length refs - 1 - done) at → h ≡ with_blocks g (chained g.blocks (drop (length refs - done) refs)) → g.blocks.chain ≡ []
    → ((a : ℕ) → is_among a refs ≡ true → is_held_in g.blocks a ≡ false) → HasAddress g at.address → IsUnheld h at.address
chain_next g h refs done at apart less here is none free inside =
    let n = next_at g refs (length refs - 1 - done) at apart (omega arith) here in
    let same : suc (length refs - 1 - done) ≡ length refs - done = omega arith in
    chain_free h g.blocks (drop (length refs - done) refs) at.address (ap (λ (x : GridState). x.blocks) is)
    none (rw is inside) (free at.address n.there) (ap (λ (k : ℕ). is_among at.address (drop k refs)) (sym same) ∙ n.apart)

-- addresses are apart in each grid of the layout
pub apart_same : (g h : GridState) (refs : List Link) → h.layout ≡ g.layout → AreDistinctLinks g refs → AreDistinctLinks h refs
apart_same g h [] same apart = tt
apart_same g h (r ∷ rs) same apart = (rw (sym same) at apart.0, apart.1, apart_same g h rs same apart.2)

-- no checkpoint runs in a grid that adopted one
pub adopted_idle : (old new : GridState) (reader : Reader) (refs : List Link) (result : Result (Unit {0}) TrailerFault)
    → AdoptAnswer old new reader refs result → OnOk result (IsIdle new.blocks)
adopted_idle old new reader refs (Ok x) answer =
    subst (λ (g : GridState). IsIdle g.blocks) (sym answer.0) (record { captured = refl; written = refl; left = refl })
adopted_idle old new reader refs (Err (Damaged address class)) answer = tt
adopted_idle old new reader refs (Err (BadField field value)) answer = tt
adopted_idle old new reader refs (Err DiskFault) answer = tt
