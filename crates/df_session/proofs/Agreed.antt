-- No command tells two things apart that a device may show and that agree: it answers the same and leaves the same, and what it leaves
-- shown agrees.
use Rattle.std.{proofs.{Common.{◌≡◌, ℕ, zero, suc, ◌+◌, ◌%◌, ◌<◌, ◌≤◌, ◌==◌, Bool, true, false, if◌then◌else◌, cond, List, [], ◌∷◌, Option, Some, None, Result, refl, ◌∙◌, ap, arith, mod-lt}, lemmas.Bool.{and_from, le-leb, lt-ltb, not-false}, lemmas.Bool.Decides.{nat_tests}}, specs.{Prelude.{nat_lt}, List.{filter, range_with_len}}}
use Rattle.df_layout.{specs.{declared.damage.Class.{Class}, declared.layout.Layout.{Layout}}, proofs.Laws.{some_slots}}
use Rattle.df_theory.specs.{Units.{AnyUnit, BlockPlace, Message, Place, PreparePlace, ReplyPlace}, View.{sessions}}
use Rattle.df_model.{specs.{After.{after_check, lookup_answer, place_of_client, prepare_answer, read_answer, shown_or, to_check}, Blocks.{addresses, entries, entry, reference_in, sum_at}, Commands.{Command, ReadBlock, ReadPrepare, ReadReply, Scrub, ToReadBlock, ToReadPrepare, ToReadReply, ToScrub, Answer, as_answer}, Memory.{Memory, memory_of, prepare_sum, reply_sum}, Refusals.{first_refusal, lookup_refusals, read_refusals}, Sense.{IsWork}, Supply.{Shown, block_at, block_given, class_at, class_or, first_check, next, no_trailer, prepare_at, prepare_given, reply_at, reply_given, verdict_of}, Work.{Work, is_known}, declared.answers.Verdict.{Verdict}}, proofs.Laws.{all_pass, place_known}}
use Rattle.df_replica.specs.{Below.{DataFile, shape, spelling}, Leaving.{IsReadPlace}}
use Rattle.df_session.specs.{Agreeing.{AgreeShown}, Results.{NextAgrees}, Codec.{codec}}

-- ---- which places are read

-- an address that is looked up in a map of these addresses is one of them
sum_case : (f : ℕ → Option ℕ) (s n a : ℕ) (o : Option ℕ) → (is_known (sum_at a (entries f (range_with_len (s + 1) n))) ≡ true
    → (s + 1 ≤ a) × (a < s + 1 + n)) → is_known (sum_at a (entry s o (entries f (range_with_len (s + 1) n)))) ≡ true
    → (s ≤ a) × (a < s + suc n)
sum_case f s n a None more known = let there = more known in (omega (arith, there.0), omega (arith, there.1))
sum_case f s n a (Some c) more known = go (s == a) refl known
  where
    go : (b : Bool)
        → (s == a) ≡ b → is_known (if b then Some c else sum_at a (entries f (range_with_len (s + 1) n))) ≡ true → (s ≤ a) × (a < s + suc n)
    go true same is = let here : s ≡ a = grind (arith, nat_tests) in (omega (arith, here), omega (arith, here))
    go false same is = let there = more is in (omega (arith, there.0), omega (arith, there.1))

sum_inside : (f : ℕ → Option ℕ) (s n a : ℕ) → is_known (sum_at a (entries f (range_with_len s n))) ≡ true → (s ≤ a) × (a < s + n)
sum_inside f s zero a known = absurd (cc)
sum_inside f s (suc n) a known = sum_case f s n a (f s) (sum_inside f (s + 1) n a) known

-- each address of a list is one of these
abbrev pub Within : (s n : ℕ) → List (ℕ × ℕ) → Type 0
Within s n [] = Unit {0}
Within s n (x ∷ xs) = (s ≤ x.0) × (x.0 < s + n) × Within s n xs

within_more : (s n : ℕ) (xs : List (ℕ × ℕ)) → Within (s + 1) n xs → Within s (suc n) xs
within_more s n [] are = tt
within_more s n (x ∷ xs) are = (omega (arith, are.0), omega (arith, are.1), within_more s n xs are.2)

entry_within : (s n : ℕ) (o : Option ℕ) (xs : List (ℕ × ℕ)) → Within s (suc n) xs → Within s (suc n) (entry s o xs)
entry_within s n None xs are = are
entry_within s n (Some c) xs are = (omega arith, omega arith, are)

entries_within : (f : ℕ → Option ℕ) (s n : ℕ) → Within s n (entries f (range_with_len s n))
entries_within f s zero = tt
entries_within f s (suc n) = entry_within
    s n (f s) (entries f (range_with_len (s + 1) n)) (within_more s n (entries f (range_with_len (s + 1) n)) (entries_within f (s + 1) n))

filter_case : (s n : ℕ) (p : ℕ × ℕ → Bool) (x : ℕ × ℕ) (xs : List (ℕ × ℕ)) (b : Bool)
    → (s ≤ x.0) × (x.0 < s + n) → Within s n (filter p xs) → Within s n (cond b (x ∷ filter p xs) (filter p xs))
filter_case s n p x xs true here rest = (here.0, here.1, rest)
filter_case s n p x xs false here rest = rest

filter_within : (s n : ℕ) (p : ℕ × ℕ → Bool) (xs : List (ℕ × ℕ)) → Within s n xs → Within s n (filter p xs)
filter_within s n p [] are = tt
filter_within s n p (x ∷ xs) are = filter_case s n p x xs (p x) (are.0, are.1) (filter_within s n p xs are.2)

-- ---- what is read

shown_same : {X E : Type 0} (o : Option E) (damaged : Class → E) (a b : Result X Class)
    → (o ≡ None → a ≡ b) → shown_or o damaged a ≡ shown_or o damaged b
shown_same None damaged a b same = ap (shown_or None damaged) (same refl)
shown_same (Some e) damaged a b same = refl

module _ (layout : Layout) (one other : Shown) (agree : AgreeShown layout one other) where
  class_case : (place : Place) → IsReadPlace layout place
      → (o : Option AnyUnit) → one.units place ≡ o → class_or o (one.damage place) ≡ class_or o (other.damage place)
  class_case place read None is = agree.classes place read is
  class_case place read (Some x) is = refl

  class_same : (place : Place) → IsReadPlace layout place → one.units place ≡ other.units place → class_at one place ≡ class_at other place
  class_same place read same = class_case place read (one.units place) refl ∙ ap (λ (o : Option AnyUnit). class_or o (other.damage place)) same

  prepare_same : (known : Option ℕ) (slot : ℕ) → slot < layout.slots → prepare_at one known slot ≡ prepare_at other known slot
  prepare_same known slot inside =
      let class = class_same (PreparePlace slot) (lt-ltb slot layout.slots inside) (agree.units.prepare slot) in
      λ i. prepare_given known (agree.units.prepare slot i) (class i)

  reply_same : (known : Option ℕ) (place : ℕ) → place < layout.clients → reply_at one known place ≡ reply_at other known place
  reply_same known place inside =
      let class = class_same (ReplyPlace place) (lt-ltb place layout.clients inside) (agree.units.reply place) in
      λ i. reply_given known (agree.units.reply place i) (class i)

  block_same : (known : Option ℕ) (a : ℕ) → 1 ≤ a → a < 1 + layout.blocks → block_at one known a ≡ block_at other known a
  block_same known a from to =
      let class = class_same (BlockPlace a) (and_from _ _ (le-leb 1 a from) (le-leb a layout.blocks (omega arith))) (agree.units.block a) in
      λ i. block_given known (agree.units.block a i) (class i)

  check_same : (xs : List (ℕ × ℕ)) → Within 1 layout.blocks xs → first_check one xs ≡ first_check other xs
  check_same [] are = refl
  check_same (x ∷ more) are = ap verdict_of (block_same (Some x.1) x.0 are.0 are.1)

-- ---- every command

module _ (file : DataFile)
    (one other : Shown) (agree : AgreeShown file.layout one other) (w : Work) (work : IsWork (shape file) (spelling file) w) where
  abbrev m : Memory
  m = memory_of (shape file) (spelling file) w

  abbrev by : Shown → Command → Work × Answer
  by shown c = next (shape file) (codec file) shown w c

  prepare_agrees : (op : ℕ) → by one (ReadPrepare op) ≡ by other (ReadPrepare op)
  prepare_agrees op = ap (λ (x : Result Message Class). let y : Work × Answer = (w, ToReadPrepare (prepare_answer m x op)) in y)
      (prepare_same file.layout one other agree (prepare_sum m op) (op % m.layout.slots) (mod-lt op (some_slots file.layout)))

  reply_agrees : (client : ℕ) → by one (ReadReply client) ≡ by other (ReadReply client)
  reply_agrees client = let place = place_of_client client m.sessions in
      let same : lookup_answer m (reply_at one (reply_sum m place) place) client
      ≡ lookup_answer m (reply_at other (reply_sum m place) place) client =
      shown_same (first_refusal (lookup_refusals m client)) _ _ _ (λ none.
      let inside = place_known client (sessions w.view) (all_pass (lookup_refusals m client) none).0 in
      reply_same file.layout one other agree (reply_sum m place) place (omega (arith, inside, work.sessions.few))) in
      ap (λ x. let y : Work × Answer = (w, ToReadReply x) in y) same

  block_agrees : (address : ℕ) → by one (ReadBlock address) ≡ by other (ReadBlock address)
  block_agrees address = let known = sum_at address m.blocks.live in
      let same : read_answer m (no_trailer (block_at one known address)) address
      ≡ read_answer m (no_trailer (block_at other known address)) address =
      shown_same (first_refusal (read_refusals m address)) _ _ _ (λ none.
      let inside = sum_inside w.live 1 file.layout.blocks address (not-false (is_known known) (all_pass (read_refusals m address) none).0) in
      ap no_trailer (block_same file.layout one other agree known address inside.0 inside.1)) in
      ap (λ x. let y : Work × Answer = (w, ToReadBlock x) in y) same

  scrub_agrees : by one Scrub ≡ by other Scrub
  scrub_agrees = let l = to_check m in ap (λ (v : Verdict). as_answer ToScrub (after_check w v l))
      (check_same file.layout one other agree l (filter_within 1 file.layout.blocks (λ x. nat_lt m.tour.last x.0)
      (entries (reference_in m.blocks) (addresses m.layout)) (entries_within (reference_in m.blocks) 1 file.layout.blocks)))

  pub next_agrees : (c : Command) → by one c ≡ by other c
  next_agrees (ReadPrepare op) = prepare_agrees op
  next_agrees (ReadReply client) = reply_agrees client
  next_agrees (ReadBlock address) = block_agrees address
  next_agrees Scrub = scrub_agrees
  next_agrees command = refl

pub next_same : NextAgrees
next_same file one other w command agree work = next_agrees file one other agree w work command
