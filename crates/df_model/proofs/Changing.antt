-- How commands change what is kept of the grid.
use Rattle.std.{proofs.{Common.{◌≡◌, ℕ, zero, suc, ◌+◌, ◌<◌, ◌≤◌, ◌==◌, nat_lt, Bool, true, false, if◌then◌else◌, List, [], ◌∷◌, length, Option, Some, None, refl, sym, ◌∙◌, ap, arith, lt-ltb, le-ltb, eq-eqb, ne_eqb}, lemmas.Bool.Decides.{nat_tests}}, specs.List.{range_with_len}}
use Rattle.df_theory.specs.{Units.{Parts}, Shape.{Shape}}
use Rattle.df_model.{specs.{Work.{Running, Work}, Blocks.{Blocks, addresses, blocks_of, captured_of, entries, entry, left_of, sum_at, with_entry, without_entry, written_of}, Memory.{course_of, memory_of}, Refusals.{append_refusals, begin_refusals, block_refusals, first_refusal, flush_refusals, release_refusals, reply_refusals, stage_refusals}, Making.{group_of, needed_of, next_address, place_of_reply, prepare_of, reply_of}, After.{after_check, after_running, after_step_of, begun, outcome, to_check, with_group, with_live, with_prepare, with_reply, with_running, with_staged}, Commands.{Advance, Append, Begin, Command, Flush, Given, Release, Reply, Scrub, Stage, WriteBlock, after, supplied_sum, supplied_sums, supplied_verdict}, Changing.{BlocksLaw, after_step_in, blocks_after, trailer_step, unless_refused}, declared.answers.Verdict.{Verdict}, declared.answers.Verdict.TheVariants.{Sound, Failing}}, proofs.{Entries.{entry_at}, Blocks.{next_free}, Rising.{RisePairs, entries_pairs}}}

-- ---- a map that changes at one address

pub entries_same : (f g : ℕ → Option ℕ) (s n : ℕ)
    → ((a : ℕ) → s ≤ a → a < s + n → f a ≡ g a) → entries f (range_with_len s n) ≡ entries g (range_with_len s n)
entries_same f g s zero same = refl
entries_same f g s (suc n) same =
    ap (λ (o : Option ℕ). entry s o (entries f (range_with_len (s + 1) n))) (same s (omega arith) (omega arith))
    ∙ ap (entry s (g s)) (entries_same f g (s + 1) n (λ a from to. same a (omega arith) (omega arith)))

module _ (f : ℕ → Option ℕ) (a : ℕ) (new : Option ℕ) where
  abbrev g : ℕ → Option ℕ
  g k = if k == a then new else f k

  g_else : (k : ℕ) → (k ≡ a → ⊥) → g k ≡ f k
  g_else k apart = go (k == a) refl
    where
      go : (b : Bool) → (k == a) ≡ b → (if b then new else f k) ≡ f k
      go true same = absurd (apart (grind (arith, nat_tests)))
      go false same = refl

  g_there : (k : ℕ) → k ≡ a → g k ≡ new
  g_there k same = go (k == a) refl
    where
      go : (b : Bool) → (k == a) ≡ b → (if b then new else f k) ≡ new
      go true is = refl
      go false is = absurd (grind (arith, nat_tests))

  -- above the address nothing changes
  later_same : (s n : ℕ) → a < s → entries g (range_with_len s n) ≡ entries f (range_with_len s n)
  later_same s n above = entries_same g f s n (λ k from to. g_else k (λ same. omega arith))

if_yes : {X : Type 0} (b : Bool) (x y : X) → b ≡ true → (if b then x else y) ≡ x
if_yes true x y is = refl
if_yes false x y is = absurd (cc)

if_no : {X : Type 0} (b : Bool) (x y : X) → b ≡ false → (if b then x else y) ≡ y
if_no true x y is = absurd (cc)
if_no false x y is = refl

-- ---- a new entry

in_front : (a c : ℕ) (rest : List (ℕ × ℕ)) → RisePairs (a + 1) rest → with_entry a c rest ≡ (a, c) ∷ rest
in_front a c [] rise = refl
in_front a c (x ∷ xs) rise =
    if_yes (nat_lt a x.0) ((a, c) ∷ x ∷ xs) (if x.0 == a then (a, c) ∷ xs else x ∷ with_entry a c xs) (lt-ltb a x.0 (omega (arith, rise.0)))

behind : (a c : ℕ) (x : ℕ × ℕ) (xs : List (ℕ × ℕ)) → x.0 < a → with_entry a c (x ∷ xs) ≡ x ∷ with_entry a c xs
behind a c x xs less = if_no (nat_lt a x.0) ((a, c) ∷ x ∷ xs) (if x.0 == a then (a, c) ∷ xs else x ∷ with_entry a c xs)
    (le-ltb a x.0 (omega arith)) ∙ if_no (x.0 == a) ((a, c) ∷ xs) (x ∷ with_entry a c xs) (ne_eqb x.0 a (λ same. omega arith))

over : (a c : ℕ) (x : ℕ × ℕ) (xs : List (ℕ × ℕ)) → x.0 ≡ a → with_entry a c (x ∷ xs) ≡ (a, c) ∷ xs
over a c x xs same = if_no (nat_lt a x.0) ((a, c) ∷ x ∷ xs) (if x.0 == a then (a, c) ∷ xs else x
    ∷ with_entry a c xs) (le-ltb a x.0 (omega arith)) ∙ if_yes (x.0 == a) ((a, c) ∷ xs) (x ∷ with_entry a c xs) (eq-eqb x.0 a same)

here_case : (s a c : ℕ) (o : Option ℕ) (rest : List (ℕ × ℕ)) → s ≡ a → RisePairs (a + 1) rest → (a, c) ∷ rest ≡ with_entry a c (entry s o rest)
here_case s a c None rest same rise = sym (in_front a c rest rise)
here_case s a c (Some d) rest same rise = sym (over a c (s, d) rest same)

there_case : (s a c : ℕ) (o : Option ℕ) (rest : List (ℕ × ℕ)) → s < a → entry s o (with_entry a c rest) ≡ with_entry a c (entry s o rest)
there_case s a c None rest less = refl
there_case s a c (Some d) rest less = sym (behind a c (s, d) rest less)

rise_at : (s a : ℕ) (rest : List (ℕ × ℕ)) → s ≡ a → RisePairs (s + 1) rest → RisePairs (a + 1) rest
rise_at s a [] same rise = tt
rise_at s a (x ∷ xs) same rise = (omega (arith, rise.0), rise.1)

entered : (f : ℕ → Option ℕ) (a c s n : ℕ) → s ≤ a
    → a < s + n → entries (λ k. if k == a then Some c else f k) (range_with_len s n) ≡ with_entry a c (entries f (range_with_len s n))
entered f a c s zero from to = absurd (omega arith)
entered f a c s (suc n) from to = entered_case f a c s n (s == a) refl from (λ less. entered f a c (s + 1) n (omega (arith, less)) (omega arith))
  where
    entered_case : (f : ℕ → Option ℕ) (a c s n : ℕ) (b : Bool) → (s == a) ≡ b → s ≤ a → (s < a
        → entries (λ k. if k == a then Some c else f k) (range_with_len (s + 1) n) ≡ with_entry a c (entries f (range_with_len (s + 1) n)))
        → entry s (if s == a then Some c else f s) (entries (λ k. if k == a then Some c else f k) (range_with_len (s + 1) n))
        ≡ with_entry a c (entry s (f s) (entries f (range_with_len (s + 1) n)))
    entered_case f a c s n true is from more = let same : s ≡ a = grind (arith, nat_tests) in
        ap (λ (o : Option ℕ). entry s o (entries (λ k. if k == a then Some c else f k) (range_with_len (s + 1) n))) (g_there f a (Some c) s same)
        ∙ ap (λ (k : ℕ). (k, c) ∷ entries (λ k. if k == a then Some c else f k) (range_with_len (s + 1) n)) same
        ∙ ap (λ (l : List (ℕ × ℕ)). (a, c) ∷ l) (later_same f a (Some c) (s + 1) n (omega arith)) ∙ here_case s a c (f s)
        (entries f (range_with_len (s + 1) n)) same (rise_at s a (entries f (range_with_len (s + 1) n)) same (entries_pairs f (s + 1) n))
    entered_case f a c s n false is from more = let apart : s ≡ a → ⊥ = λ same. grind (arith, nat_tests) in
        ap (λ (o : Option ℕ). entry s o (entries (λ k. if k == a then Some c else f k) (range_with_len (s + 1) n))) (g_else f a (Some c) s apart)
        ∙ ap (entry s (f s)) (more (omega (arith, apart)))
        ∙ there_case s a c (f s) (entries f (range_with_len (s + 1) n)) (omega (arith, apart))

-- ---- an entry less

not_among : (a : ℕ) (rest : List (ℕ × ℕ)) → RisePairs (a + 1) rest → without_entry a rest ≡ rest
not_among a [] rise = refl
not_among a (x ∷ xs) rise = if_no (x.0 == a) xs (x ∷ without_entry a xs) (ne_eqb x.0 a (λ same. omega (arith, rise.0)))
    ∙ ap (λ (l : List (ℕ × ℕ)). x ∷ l) (not_among a xs (lift a x.0 xs (omega (arith, rise.0)) rise.1))
  where
    lift : (a b : ℕ) (rest : List (ℕ × ℕ)) → a ≤ b → RisePairs (b + 1) rest → RisePairs (a + 1) rest
    lift a b [] le rise = tt
    lift a b (x ∷ xs) le rise = (omega (arith, rise.0), rise.1)

gone_case : (s a : ℕ) (o : Option ℕ) (rest : List (ℕ × ℕ)) → s ≡ a → RisePairs (a + 1) rest → rest ≡ without_entry a (entry s o rest)
gone_case s a None rest same rise = sym (not_among a rest rise)
gone_case s a (Some d) rest same rise = sym (if_yes (s == a) rest ((s, d) ∷ without_entry a rest) (eq-eqb s a same))

stays_case : (s a : ℕ) (o : Option ℕ) (rest : List (ℕ × ℕ)) → (s ≡ a → ⊥) → entry s o (without_entry a rest) ≡ without_entry a (entry s o rest)
stays_case s a None rest apart = refl
stays_case s a (Some d) rest apart = sym (if_no (s == a) rest ((s, d) ∷ without_entry a rest) (ne_eqb s a apart))

removed_case : (f : ℕ → Option ℕ) (a s n : ℕ) (b : Bool) → (s == a) ≡ b
    → entries (λ k. if k == a then None else f k) (range_with_len (s + 1) n) ≡ without_entry a (entries f (range_with_len (s + 1) n))
    → entry s (if s == a then None else f s) (entries (λ k. if k == a then None else f k) (range_with_len (s + 1) n))
    ≡ without_entry a (entry s (f s) (entries f (range_with_len (s + 1) n)))
removed_case f a s n true is more = let same : s ≡ a = grind (arith, nat_tests) in
    ap (λ (o : Option ℕ). entry s o (entries (λ k. if k == a then None else f k) (range_with_len (s + 1) n))) (g_there f a None s same)
    ∙ later_same f a None (s + 1) n (omega arith) ∙ gone_case s a
    (f s) (entries f (range_with_len (s + 1) n)) same (rise_at s a (entries f (range_with_len (s + 1) n)) same (entries_pairs f (s + 1) n))
removed_case f a s n false is more = let apart : s ≡ a → ⊥ = λ same. grind (arith, nat_tests) in
    ap (λ (o : Option ℕ). entry s o (entries (λ k. if k == a then None else f k) (range_with_len (s + 1) n))) (g_else f a None s apart)
    ∙ ap (entry s (f s)) more ∙ stays_case s a (f s) (entries f (range_with_len (s + 1) n)) apart

removed : (f : ℕ → Option ℕ) (a s n : ℕ)
    → entries (λ k. if k == a then None else f k) (range_with_len s n) ≡ without_entry a (entries f (range_with_len s n))
removed f a s zero = refl
removed f a s (suc n) = removed_case f a s n (s == a) refl (removed f a (s + 1) n)

-- ---- the commands

outcome_blocks : {E A : Type 0} (sh : Shape) (o : Option E) (w u : Work) (answer : A) (later : Blocks)
    → (o ≡ None → blocks_of sh u ≡ later) → blocks_of sh (outcome o w u answer).0 ≡ unless_refused o (blocks_of sh w) later
outcome_blocks sh (Some e) w u answer later is = refl
outcome_blocks sh None w u answer later is = is refl

-- a command that leaves the grid as it was, whether it is refused or not
outcome_same : {E A : Type 0} (sh : Shape) (o : Option E) (w u : Work) (answer : A)
    → blocks_of sh u ≡ blocks_of sh w → blocks_of sh (outcome o w u answer).0 ≡ blocks_of sh w
outcome_same sh (Some e) w u answer is = refl
outcome_same sh None w u answer is = is

module _ (sh : Shape) (spell : Parts → List ℕ) (w : Work) (given : Given) where
  abbrev b : Blocks
  b = blocks_of sh w

  written_blocks : (a : ℕ) → (0 < a) × (a ≤ sh.layout.blocks)
      → blocks_of sh (with_live w a (Some (supplied_sum given))) ≡ record b { live = with_entry a (supplied_sum given) b.live }
  written_blocks a inside = ap (λ (l : List (ℕ × ℕ)).
      record b { live = l }) (entered w.live a (supplied_sum given) 1 sh.layout.blocks (omega (arith, inside.0)) (omega (arith, inside.1)))

  released_blocks : (a : ℕ) → blocks_of sh (with_live w a None) ≡ record b { live = without_entry a b.live }
  released_blocks a = ap (λ (l : List (ℕ × ℕ)). record b { live = l }) (removed w.live a 1 sh.layout.blocks)

  begun_blocks : (root : List ℕ) → blocks_of sh (with_running w (Some (begun sh spell w root)))
      ≡ record b { captured = b.live; written = []; left = (begun sh spell w root).left }
  begun_blocks root = ap (λ (l : List (ℕ × ℕ)). record b { captured = l; written = []; left = (begun sh spell w root).left })
      (entries_same (λ a. sum_at a (entries w.live (addresses sh.layout))) w.live 1 sh.layout.blocks (λ a from to.
      entry_at w.live 1 sh.layout.blocks a from to))

  abbrev with_run : Option Running → Blocks
  with_run o = record b { captured = captured_of sh.layout o; written = written_of o; left = left_of o }

  running_blocks : (r : Running) (l : List ℕ) → w.running ≡ Some r
      → blocks_of sh (after_running sh spell w (supplied_sum given) r l).0 ≡ trailer_step (with_run (Some r)) (supplied_sum given) l
  running_blocks r [] at = refl
  running_blocks r (a ∷ more) at = refl

  step_blocks : (o : Option Running) → w.running ≡ o → blocks_of sh (after_step_of sh spell w (supplied_sum given) o).0
      ≡ after_step_in (with_run o) (supplied_sum given) (course_of spell o)
  step_blocks None at = ap with_run at
  step_blocks (Some r) at = running_blocks r r.left at

  check_blocks : (verdict : Verdict) (xs : List (ℕ × ℕ)) → blocks_of sh (after_check w verdict xs).0 ≡ b
  check_blocks verdict [] = refl
  check_blocks Sound (x ∷ more) = refl
  check_blocks (Failing kind) (x ∷ more) = refl

  blocks_is : (c : Command) → blocks_of sh (after sh spell w given c).0 ≡ blocks_after spell (memory_of sh spell w) given c
  blocks_is (Append client request body) = let p = prepare_of (memory_of sh spell w) (supplied_sum given) client request body in
      outcome_same sh (first_refusal (append_refusals (memory_of sh spell w) client request body))
      w (with_prepare w p) (p.header.op, supplied_sum given) refl
  blocks_is (Stage client request body) = let m = memory_of sh spell w in
      outcome_same sh (first_refusal (stage_refusals m client request body))
      w (with_staged w (record { client = client; request = request; body = body })) (m.head + length m.staged + 1) refl
  blocks_is Flush = let m = memory_of sh spell w in
      outcome_same sh (first_refusal (flush_refusals m)) w (with_group w (group_of m (supplied_sums given))) (length m.staged) refl
  blocks_is (Reply op body) = outcome_same sh (first_refusal (reply_refusals (memory_of sh spell w) op body)) w (with_reply
      w (place_of_reply (memory_of sh spell w)) (reply_of (memory_of sh spell w) (supplied_sum given) body)) (supplied_sum given) refl
  blocks_is (WriteBlock kind body) = let a = next_address (memory_of sh spell w) in
      outcome_blocks sh (first_refusal (block_refusals (memory_of sh spell w) kind body)) w (with_live w a (Some (supplied_sum given)))
      (a, supplied_sum given) _ (λ none. written_blocks a (next_free sh spell w kind body none).inside)
  blocks_is (Release address) = outcome_blocks {A = Unit {0}} sh
      (first_refusal (release_refusals (memory_of sh spell w) address)) w (with_live w address None) tt _ (λ none. released_blocks address)
  blocks_is (Begin root) =
      outcome_blocks sh (first_refusal (begin_refusals (memory_of sh spell w) (needed_of spell (memory_of sh spell w) root) root))
      w (with_running w (Some (begun sh spell w root))) (needed_of spell (memory_of sh spell w) root) _ (λ none. begun_blocks root)
  blocks_is Advance = step_blocks w.running refl
  blocks_is Scrub = check_blocks (supplied_verdict given) (to_check (memory_of sh spell w))
  blocks_is command = refl

pub blocks_law : BlocksLaw
blocks_law sh spell w given c = blocks_is sh spell w given c
