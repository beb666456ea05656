-- A checkpoint that may be finished may be begun.
use Rattle.std.{proofs.{Common.{◌≡◌, inl, inr, ℕ, zero, suc, ◌+◌, ◌-◌, ◌*◌, ◌^◌, ◌<◌, ◌≤◌, ◌==◌, ◌||◌, not, nat_lt, Bool, true, false, cond, if◌then◌else◌, List, [], ◌∷◌, length, refl, sym, ◌∙◌, ap, subst, arith, ne_eqb, le-ltb, eqb-true}, lemmas.Bool.Decides.{nat_tests}, Math.Nat.{mul-add}, lemmas.Bool.{eqb-false, or_right}}, specs.List.{filter, range_with_len}}
use Rattle.df_theory.specs.{Units.{Block, Parts}, Trailer.{InChain, IsCount, Says, text_of}, Shape.{Shape}, View.{sequence}}
use Rattle.df_model.{specs.{Work.{Work, is_in}, Codec.{AreBytes, IsLawful}, Memory.{free_of, block_room, course_of, memory_of}, Refusals.{begin_refusals, is_running}, Making.{needed_of, parts_of, pieces_of}, Blocks.{blocks_of, is_held_in}, Sense.{IsWork}, Answering.{AreDistinctBlocks, BeginExactLaw}}, proofs.{Entries.{held_is}, Exact.{pass_all}, Steps.{pieces_count}}}

-- ---- as many addresses as there are blocks

without : ℕ → List ℕ → List ℕ
without a [] = []
without a (y ∷ ys) = if a == y then ys else y ∷ without a ys

length_case : (a y : ℕ) (ys rest : List ℕ) (b : Bool) → (b || is_in a ys) ≡ true
    → (is_in a ys ≡ true → length ys ≡ length rest + 1) → length (y ∷ ys) ≡ length (if b then ys else y ∷ rest) + 1
length_case a y ys rest true there more = omega arith
length_case a y ys rest false there more = let shorter = more there in omega (arith, shorter)

length_without : (a : ℕ) (ys : List ℕ) → is_in a ys ≡ true → length ys ≡ length (without a ys) + 1
unfolding without
length_without a [] there = absurd (cc)
length_without a (y ∷ ys) there = length_case a y ys (without a ys) (a == y) there (λ more. length_without a ys more)

in_case : (a b y : ℕ) (ys rest : List ℕ) (e : Bool) → (a == y) ≡ e → (b ≡ a → ⊥) → (d : Bool)
    → (b == y) ≡ d → (d || is_in b ys) ≡ true → (is_in b ys ≡ true → is_in b rest ≡ true) → is_in b (if e then ys else y ∷ rest) ≡ true
in_case a b y ys rest true same apart true here there more =
    absurd (let one = eqb-true a y same in let two = eqb-true b y here in apart (two ∙ sym one))
in_case a b y ys rest true same apart false here there more = there
in_case a b y ys rest false same apart true here there more = ap (λ (d : Bool). d || is_in b rest) here
in_case a b y ys rest false same apart false here there more = ap (λ (d : Bool). d || is_in b rest) here ∙ more there

in_without : (a b : ℕ) (ys : List ℕ) → (b ≡ a → ⊥) → is_in b ys ≡ true → is_in b (without a ys) ≡ true
unfolding without
in_without a b [] apart there = absurd (cc)
in_without a b (y ∷ ys) apart there =
    in_case a b y ys (without a ys) (a == y) refl apart (b == y) refl there (λ more. in_without a b ys apart more)

-- blocks at addresses that differ, each one of these: there are no more of them
pub fits : (xs : List (ℕ × Block)) (ys : List ℕ)
    → AreDistinctBlocks xs → ((a : ℕ) (b : Block) → InChain a b xs → is_in a ys ≡ true) → length xs ≤ length ys
fits [] ys apart all = omega arith
fits (x ∷ xs) ys apart all = let shorter = length_without x.0 ys (all x.0 x.1 (inl (refl, refl))) in
    let rest = fits xs (without x.0 ys) apart.1 (λ a b at. in_without x.0 a ys (λ same. apart.0 b (rw same at at)) (all a b (inr at))) in
    omega (arith, shorter, rest)

free_case : (x a : ℕ) (rest : List ℕ) (h : Bool) → (a == x) ≡ true → h ≡ false → is_in a (cond (not h) (x ∷ rest) rest) ≡ true
free_case x a rest true same is = absurd (cc)
free_case x a rest false same is = ap (λ (d : Bool). d || is_in a rest) same

free_more : (x a : ℕ) (rest : List ℕ) (h : Bool) → is_in a rest ≡ true → is_in a (cond (not h) (x ∷ rest) rest) ≡ true
free_more x a rest true there = there
free_more x a rest false there = or_right (a == x) (is_in a rest) there

in_free : (held : ℕ → Bool) (s n a : ℕ) → s ≤ a → a < s + n → held a ≡ false → is_in a (filter (λ x. not (held x)) (range_with_len s n)) ≡ true
in_free held s zero a from to free = absurd (omega arith)
in_free held s (suc n) a from to free = in_at held s a (filter (λ x. not (held x)) (range_with_len (s + 1) n)) (a == s) refl free (λ apart.
    in_free held (s + 1) n a (omega (arith, apart)) (omega arith) free)
  where
    in_at : (held : ℕ → Bool) (s a : ℕ) (rest : List ℕ) (b : Bool)
        → (a == s) ≡ b → held a ≡ false → ((a ≡ s → ⊥) → is_in a rest ≡ true) → is_in a (cond (not (held s)) (s ∷ rest) rest) ≡ true
    in_at held s a rest true same free more = free_case s a rest (held s) same (ap held (sym (eqb-true a s same)) ∙ free)
    in_at held s a rest false same free more = free_more s a rest (held s) (more (eqb-false a s same))

-- ---- one count of pieces

pub count_le : (room size n k : ℕ) → IsCount room size n → IsCount room size k → n ≤ k
count_le room size n k one two = go (nat_lt k n) refl
  where
    go : (b : Bool) → nat_lt k n ≡ b → n ≤ k
    go false is = grind (arith, nat_tests)
    go true is = let less : k < n = grind (arith, nat_tests) in let before : n - 1 ≡ k + (n - k - 1) = omega (arith, less) in
        let needed : room * (k + (n - k - 1)) < size = rw before at (one.needed (omega (arith, less))) in
        absurd (omega (arith, needed, two.holds, mul-add room k (n - k - 1)))

-- ---- the begin

says_lawful : (sh : Shape) (spell : Parts → List ℕ) (w : Work) (op : ℕ) (chain : List (ℕ × Block)) (parts : Parts)
    → IsWork sh spell w → AreBytes (text_of chain) → 0 < length (text_of chain) → Says sh op chain parts → IsLawful sh.layout op parts
says_lawful sh spell w op [] parts work bytes some says = absurd (omega (arith, some))
says_lawful sh spell w op (x ∷ xs) parts work bytes some says = work.codec.lawful op (text_of (x ∷ xs)) parts bytes says

pub begin_exact_law : BeginExactLaw
begin_exact_law sh spell w root c work idle of =
    pass_all (begin_refusals (memory_of sh spell w) (needed_of spell (memory_of sh spell w) root) root) (
      ap (λ o. is_running (course_of spell o)) idle,
      (le-ltb 1024 (length root) (omega (arith, lawful.root.0, ap length of.rooted)), (le-ltb (length (free_of (memory_of sh spell w))) (needed_of spell (memory_of sh spell w) root) (omega (arith, needed, enough)), (ne_eqb (sequence w.view) (2 ^ 62) (λ same. omega (arith, of.may.unspent)), tt))),
    )
  where
    text : List ℕ
    text = spell (parts_of (memory_of sh spell w) root)

    some : 0 < length text
    some = work.codec.some (parts_of (memory_of sh spell w) root)

    lawful : IsLawful sh.layout c.content.op c.parts
    lawful = says_lawful sh spell w c.content.op c.chain c.parts work of.bytes (omega (arith, ap length of.text, some)) of.may.trailer.says

    count : IsCount (block_room sh.layout) (length text) (length c.chain)
    count = subst (λ (n : ℕ).
        IsCount (block_room sh.layout) n (length c.chain)) (sym of.may.trailer.size ∙ ap length of.text) of.may.trailer.count

    needed : pieces_of (block_room sh.layout) (length text) ≤ length c.chain
    needed = count_le (block_room sh.layout) (length text) (pieces_of (block_room sh.layout) (length text))
        (length c.chain) (pieces_count (block_room sh.layout) (length text) (omega (arith, work.codec.room)) some) count

    enough : length c.chain ≤ length (free_of (memory_of sh spell w))
    enough = fits c.chain (free_of (memory_of sh spell w)) of.apart (λ a b at. in_free
        (is_held_in (blocks_of sh w)) 1 sh.layout.blocks a (omega (arith, (of.free a b at).0)) (omega (arith, of.may.trailer.inside a b at))
        (held_is sh w a (omega (arith, (of.free a b at).0)) (omega (arith, of.may.trailer.inside a b at)) ∙ (of.free a b at).1))
