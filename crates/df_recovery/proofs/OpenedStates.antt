-- What is kept of a view that an open finds stands for what the machine begins with.
use Rattle.std.{proofs.{Common.{◌≡◌, inl, inr, ℕ, zero, suc, ◌+◌, ◌-◌, ◌%◌, ◌<◌, ◌≤◌, Bool, true, false, List, [], ◌∷◌, length, map, Option, Some, refl, sym, ◌∙◌, ap, arith}, lemmas.Bool.{cases_lt, le-ltb}, lemmas.List.{length-map}, lemmas.Option.{slice_get_cases}, lemmas.Nat.{mod_below}}, specs.{List.{range_with_len, slice_get}, Prelude.{nat_lt, if◌then◌else◌}}}
use Rattle.{df_format.specs.declared.header.Header.{Header}, df_sessions.specs.{declared.session.Session.{Session}, Requests.{session_of}}}
use Rattle.df_theory.specs.Units
use Rattle.df_theory.specs.{Units.{Content, Message, PreparePlace}, Found.{IsFound}, Sessions.{noted}, Tails.{Chain, In}, View.{View, head, sessions}}
use Rattle.df_model.specs.Memory
use Rattle.df_model.specs.{Memory.{sum_of_message}, Work.{checksum_of_op, opened, prepare_checksum, waiting_checksum}}
use Rattle.df_units.specs.Meaning.{layout_of, number_of}
use Rattle.df_recovery.specs.{Finding.{StateIsOpened, StateKeepsView}, Waiting.{waiting_sum}}
use Rattle.df_rooms.specs.State.{State, course_in, memory, prepare_sum, shape, spelling, stored_sum, sum_of_header}

-- ---- lists

-- equal numbers make equal lists
map_range : (f g : ℕ → ℕ) (a n : ℕ) → ((o : ℕ) → a ≤ o → o < a + n → f o ≡ g o) → map f (range_with_len a n) ≡ map g (range_with_len a n)
map_range f g a zero same = refl
map_range f g a (suc n) same = let first : f a ≡ g a = same a (omega arith) (omega arith) in
    let rest : map f (range_with_len (a + 1) n) ≡ map g (range_with_len (a + 1) n) =
    map_range f g (a + 1) n (λ o from to. same o (omega (arith, from)) (omega (arith, to))) in λ i. first i ∷ rest i

-- the checksums of a list of prepares, by op
sums_of : (ps : List Message) (a : ℕ)
    → map (λ o. prepare_checksum (slice_get ps (o - a))) (range_with_len a (length ps)) ≡ map sum_of_message ps
sums_of [] a = refl
sums_of (p ∷ ps) a = let first : prepare_checksum (slice_get (p ∷ ps) (a - a)) ≡ p.header.checksum =
    (let none : a - a ≡ 0 = omega arith in ap (λ (n : ℕ). prepare_checksum (slice_get (p ∷ ps) n)) none) in
    let turn : map (λ o. prepare_checksum (slice_get (p ∷ ps) (o - a))) (range_with_len (a + 1) (length ps))
    ≡ map (λ o. prepare_checksum (slice_get ps (o - (a + 1)))) (range_with_len (a + 1) (length ps)) =
    map_range (λ o. prepare_checksum (slice_get (p ∷ ps) (o - a))) (λ o. prepare_checksum (slice_get ps (o - (a + 1)))) (a + 1) (length ps)
    (λ o from to. let one : o - a ≡ suc (o - (a + 1)) = omega (arith, from) in ap (λ (n : ℕ). prepare_checksum (slice_get (p ∷ ps) n)) one) in
    let rest : map (λ o. prepare_checksum (slice_get (p ∷ ps) (o - a))) (range_with_len (a + 1) (length ps)) ≡ map sum_of_message ps =
    turn ∙ sums_of ps (a + 1) in λ i. first i ∷ rest i

-- what is stored, place by place
stored_of : (ss : List Session) (g : ℕ → Option ℕ) (a : ℕ) → ((k : ℕ) (t : Session) → slice_get ss k ≡ Some t → stored_sum t ≡ g (a + k))
    → map stored_sum ss ≡ map g (range_with_len a (length ss))
stored_of [] g a same = refl
stored_of (s ∷ ss) g a same = let first : stored_sum s ≡ g a = same 0 s refl ∙ ap g (omega arith) in
    let rest : map stored_sum ss ≡ map g (range_with_len (a + 1) (length ss)) =
    stored_of ss g (a + 1) (λ k t at. same (suc k) t at ∙ ap g (omega arith)) in λ i. first i ∷ rest i

-- ---- the tail

in_at : (ps : List Message) (k : ℕ) (p : Message) → slice_get ps k ≡ Some p → In p ps
in_at [] k p at = absurd (cc)
in_at (q ∷ ps) zero p at = let one : p ≡ q = cc in inl one
in_at (q ∷ ps) (suc k) p at = inr (in_at ps k p at)

op_at : (clients op parent mark : ℕ) (ss : List Units.Session) (ps : List Message) (k : ℕ) (p : Message)
    → Chain clients op parent mark ss ps → slice_get ps k ≡ Some p → p.header.op ≡ op + k
op_at clients op parent mark ss [] k p chain at = absurd (cc)
op_at clients op parent mark ss (q ∷ ps) zero p chain at = let one : q ≡ p = cc in
    let same : q.header.op ≡ p.header.op = ap (λ (m : Message). m.header.op) one in omega (arith, same, chain.0.op_is)
op_at clients op parent mark ss (q ∷ ps) (suc k) p chain at =
    omega (arith, op_at clients (op + 1) q.header.checksum q.header.mark (noted q.header ss) ps k p chain.1 at)

sum_here : (headers : List Header) (slot c : ℕ) → slot < length headers
    → ((h : Header) → slice_get headers slot ≡ Some h → number_of h.checksum ≡ c) → sum_of_header (slice_get headers slot) ≡ c
sum_here headers slot c within same = elim (slice_get_cases headers slot).1 [
  | inl there ↦ ap sum_of_header there.2 ∙ same there.0 there.2
  | inr past ↦ absurd (omega (arith, past.0, within))
]

module _ (image : Units.Units)
    (v : View) (s : State) (found : IsFound (shape s.file) image v) (keeps : StateKeepsView (shape s.file) image v s) where
  op_is : s.fields.op ≡ v.checkpoint.content.op
  op_is = ap (λ (c : Content). c.op) (sym keeps.content)

  -- the header table knows each prepare of the tail
  tail_sum : (o : ℕ) → v.checkpoint.content.op + 1 ≤ o → o < v.checkpoint.content.op + 1 + length v.tail
      → prepare_sum s o ≡ prepare_checksum (slice_get v.tail (o - (v.checkpoint.content.op + 1)))
  tail_sum o from to = elim (slice_get_cases v.tail (o - (v.checkpoint.content.op + 1))).1 [
    | inl there ↦ let p = there.0 in
        let op : p.header.op ≡ v.checkpoint.content.op + 1 + (o - (v.checkpoint.content.op + 1)) =
        op_at s.file.layout.clients (v.checkpoint.content.op + 1) v.checkpoint.content.op_checksum
        0 v.checkpoint.parts.sessions v.tail (o - (v.checkpoint.content.op + 1)) p found.tail.chain there.2 in
        let same : o ≡ p.header.op = omega (arith, op, from) in let here : o % s.file.layout.slots < length s.headers =
        omega (arith, keeps.count, mod_below o s.file.layout.slots (shape s.file).some) in
        sum_here s.headers (o % s.file.layout.slots) p.header.checksum here (λ h at.
        sym (ap (λ (x : Units.Header). x.checksum) ((keeps.headers (o % s.file.layout.slots) h at).tail
        p (in_at v.tail (o - (v.checkpoint.content.op + 1)) p there.2) (ap (λ (n : ℕ). n % s.file.layout.slots) same))))
        ∙ sym (ap prepare_checksum there.2)
    | inr past ↦ absurd (omega (arith, past.0, from, to))
  ]

  prepares_are : map (prepare_sum s) (range_with_len (s.fields.op + 1) (s.head - s.fields.op)) ≡ map sum_of_message v.tail
  prepares_are = let count : s.head - s.fields.op ≡ length v.tail = omega (arith, keeps.head_is, op_is) in
      ap (λ (n : ℕ). map (prepare_sum s) (range_with_len (n + 1) (s.head - s.fields.op))) op_is
      ∙ ap (λ (n : ℕ). map (prepare_sum s) (range_with_len (v.checkpoint.content.op + 1) n)) count
      ∙ map_range (prepare_sum s) (λ o. prepare_checksum (slice_get v.tail (o - (v.checkpoint.content.op + 1))))
      (v.checkpoint.content.op + 1) (length v.tail) tail_sum ∙ sums_of v.tail (v.checkpoint.content.op + 1)

  -- a prepare that waits for its reply
  waits : (o : ℕ)
      → v.replies + 1 ≤ o → o < v.replies + 1 + (head v - v.replies) → waiting_sum s image o ≡ waiting_checksum (shape s.file) image v o
  waits o from to = ap (λ (n : ℕ). if nat_lt n o then prepare_sum
      s o else checksum_of_op o (image (PreparePlace (o % s.file.layout.slots)))) op_is ∙ pick (nat_lt v.checkpoint.content.op o) refl
    where
      above : nat_lt v.checkpoint.content.op o ≡ true → v.checkpoint.content.op < o
      above is = elim (cases_lt v.checkpoint.content.op o) [
        | inl less ↦ less
        | inr more ↦ absurd (let no : nat_lt v.checkpoint.content.op o ≡ false = le-ltb v.checkpoint.content.op o more in
            let both : true ≡ false = sym is ∙ no in cc)
      ]

      pick : (b : Bool) → nat_lt v.checkpoint.content.op o ≡ b
          → (if b then prepare_sum s o else checksum_of_op o (image (PreparePlace (o % s.file.layout.slots)))) ≡ (if b then prepare_checksum
          (slice_get v.tail (o - v.checkpoint.content.op - 1)) else checksum_of_op o (image (PreparePlace (o % s.file.layout.slots))))
      pick true is = let one : o - (v.checkpoint.content.op + 1) ≡ o - v.checkpoint.content.op - 1 = omega arith in
          tail_sum o (omega (arith, above is)) (omega (arith, from, to, above is)) ∙ ap (λ (n : ℕ). prepare_checksum (slice_get v.tail n)) one
      pick false is = refl

  waiting_are : map number_of s.waiting ≡ map (waiting_checksum (shape s.file) image v) (range_with_len (v.replies + 1) (head v - v.replies))
  waiting_are = keeps.waiting ∙ ap (λ (n : ℕ). map (waiting_sum s image) (range_with_len (n + 1) (s.head - n))) keeps.replies
      ∙ ap (λ (n : ℕ). map (waiting_sum s image) (range_with_len (v.replies + 1) (n - v.replies))) keeps.head_is
      ∙ map_range (waiting_sum s image) (waiting_checksum (shape s.file) image v) (v.replies + 1) (head v - v.replies) waits

  stored_are : map stored_sum s.table.sessions ≡ map (λ k. Memory.stored_sum (v.stored k)) (range_with_len 0 (length (sessions v)))
  stored_are =
      let count : length s.table.sessions ≡ length (sessions v) = sym (length-map s.table.sessions session_of) ∙ ap length keeps.sessions_are in
      stored_of s.table.sessions (λ k. Memory.stored_sum (v.stored k)) 0 (λ k t at. keeps.stored k t at ∙ ap (λ (n : ℕ).
      Memory.stored_sum (v.stored n)) (omega arith)) ∙ ap (λ (n : ℕ). map (λ k. Memory.stored_sum (v.stored k)) (range_with_len 0 n)) count

  pub opened_is : memory s ≡ Memory.memory_of (shape s.file) (spelling s.file) (opened (shape s.file) image v)
  opened_is = let content = sym keeps.content in let running = ap (course_in s.file s.blocks) keeps.starts.running in λ i. record {
    layout = layout_of s.file.layout;
    content = content i;
    root = keeps.root_is i;
    head = keeps.head_is i;
    head_checksum = keeps.head_checksum i;
    replies = keeps.replies i;
    sessions = keeps.sessions_are i;
    prepares = prepares_are i;
    stored = stored_are i;
    waiting = waiting_are i;
    staged = keeps.starts.staged i;
    blocks = keeps.blocks_are i;
    running = running i;
    tour = keeps.starts.tour i;
    findings = keeps.starts.findings i;
  }

pub state_is_opened : StateIsOpened
state_is_opened image v s found keeps = opened_is image v s found keeps
