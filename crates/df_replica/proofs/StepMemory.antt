-- What a step leaves in memory is what the machine's step leaves there.
use Rattle.std.{proofs.Common.{◌≡◌, ◌∙◌, ℕ, zero, suc, ◌+◌, ◌-◌, ◌≤◌, List, [], ◌∷◌, drop, length, map, Option, Some, None, sym, ap, arith}, specs.List.{range_with_len}}
use Rattle.{df_format.specs.Copies.{content_with}, df_units.specs.Meaning.{content_of, number_of}, df_grid.specs.Table.{written_of}}
use Rattle.df_theory.specs.Units as theory
use Rattle.df_model.specs.{Blocks.{Blocks, capture_finished, trailer_written}, Changing.{after_step_in, course_on, step_in, trailer_step}, Memory.{Course, Memory}}
use Rattle.df_model.specs.Making as making
use Rattle.df_opening.specs.Below.{RunningState, State, course_in, course_of, memory, prepare_sum}
use Rattle.df_replica.specs.Stepping.{advanced, block_sum, finished, next_fields}

-- what a step makes of the memory
abbrev pub step_memory : Memory → (sum : ℕ) → Memory
step_memory m sum = record (step_in m sum m.running) { blocks = after_step_in m.blocks sum m.running }

module _ (s : State) (r : RunningState) (running : s.running ≡ Some r) where
  abbrev pub course : Course
  course = course_of s.file s.blocks r

  pub course_is : (memory s).running ≡ Some course
  course_is = ap (course_in s.file s.blocks) running

  -- where these addresses are to come
  pub step_is : (sum : ℕ) (l : List ℕ)
      → s.blocks.left ≡ l → step_memory (memory s) sum ≡ record (course_on (memory s) sum course l) { blocks = trailer_step s.blocks sum l }
  step_is sum l left = ap (λ (o : Option Course). record (step_in (memory s) sum o) { blocks = after_step_in s.blocks sum o }) course_is
      ∙ ap (λ (k : List ℕ). record (course_on (memory s) sum course k) { blocks = trailer_step s.blocks sum k }) left

  -- ---- a trailer block

  pub block_memory : (a : ℕ) (more : List ℕ) → s.blocks.left ≡ a ∷ more → memory (advanced s r) ≡ step_memory (memory s) (block_sum s r)
  block_memory a more left = let sum : ℕ = block_sum s r in let on : RunningState = record r { written = r.written + 1 } in
      let M : Blocks → Option Course → Memory = λ b o. record (memory s) { blocks = b; running = o } in
      let one : suc (length s.blocks.written) ≡ length s.blocks.written + 1 = omega arith in
      ap (λ (l : List ℕ). M (written_of s.blocks sum l) (Some (course_of s.file (written_of s.blocks sum l) on))) left ∙ ap (λ (n : ℕ).
      M (trailer_written s.blocks a sum more) (Some (record course { count = n; last = a; last_checksum = sum; left = more }))) one
      ∙ sym (step_is sum (a ∷ more) left)

-- ---- the last step

dropped : (f : ℕ → ℕ) (k a n : ℕ) → k ≤ n → map f (range_with_len (a + k) (n - k)) ≡ drop k (map f (range_with_len a n))
dropped f zero a n within = (λ i. map f (range_with_len (from i) (all i)))
  where
    from : a + 0 ≡ a
    from = omega arith

    all : n - 0 ≡ n
    all = omega arith
dropped f (suc k) a zero within = absurd (omega arith)
dropped f (suc k) a (suc n) within = (λ i. map f (range_with_len (from i) (all i))) ∙ dropped f k (a + 1) n (omega (arith, within))
  where
    from : a + suc k ≡ a + 1 + k
    from = omega arith

    all : suc n - suc k ≡ n - k
    all = omega arith

module _ (s : State) (r : RunningState) (running : s.running ≡ Some r) (from : s.fields.op ≤ r.op) (to : r.op ≤ s.head) where
  prepares_are : map (prepare_sum s) (range_with_len (r.op + 1) (s.head - r.op)) ≡ drop (r.op - s.fields.op) (memory s).prepares
  prepares_are = let start : r.op + 1 ≡ s.fields.op + 1 + (r.op - s.fields.op) = omega (arith, from) in
      let count : s.head - r.op ≡ s.head - s.fields.op - (r.op - s.fields.op) = omega (arith, from, to) in
      (λ i. map (prepare_sum s) (range_with_len (start i) (count i)))
      ∙ dropped (prepare_sum s) (r.op - s.fields.op) (s.fields.op + 1) (s.head - s.fields.op) (omega (arith, to))

  pub last_memory : content_of (content_with (next_fields s r)) ≡ making.finishing_content
      (memory s) (course_of s.file s.blocks r) (number_of (content_with (next_fields s r)).checksum) → s.blocks.left ≡ []
      → memory (finished s r) ≡ step_memory (memory s) (number_of (content_with (next_fields s r)).checksum)
  last_memory same left = let M : theory.Content → List ℕ → Memory =
      λ c ps. record (memory s) { content = c; root = r.root; prepares = ps; blocks = capture_finished s.blocks; running = None } in
      ap (λ (c : theory.Content). M c (map (prepare_sum s) (range_with_len (r.op + 1) (s.head - r.op)))) same
      ∙ ap (M (making.finishing_content (memory s) (course_of s.file s.blocks r) (number_of (content_with (next_fields s r)).checksum)))
      prepares_are ∙ sym (step_is s r running (number_of (content_with (next_fields s r)).checksum) [] left)
