-- What a flush does to the disk is the machine's flush, and after it the header ring shows the table.
use Rattle.std.{specs.{Prelude.{Ok}, List.{slice_get}}, proofs.{Common.{◌≡◌, inl, inr, ℕ, zero, suc, ◌+◌, ◌%◌, ◌<◌, ◌==◌, true, List, [], ◌∷◌, ◌++◌, length, Option, Some, None, refl, sym, ◌∙◌, ap, subst, arith, ne_eqb, ltb-true}, lemmas.Bool.{cond-false, not-false}, lemmas.Option.{same_Some}}}
use Rattle.{df_base.specs.Log.{Event, now}, df_disk.specs.{Told.{Told}, Adds.{after_all}}, df_trailer.specs.Text.{parse_of}}
use Rattle.{df_format.specs.{declared.header.Header.{Header}, Message.{Message}}, df_headers.specs.Ring.{header_write_steps, in_sector}}
use Rattle.df_theory.{specs.{Device.{AreSteps, units_log}, Next.{MayAppend}, Runs.{Step, Syncs}, Shape.{Shape}, TidyLaws.{IsTidy}, UnitLog.{put_one}, Units.{AnyUnit, BlockPlace, CopyPlace, Place, PreparePlace, PrepareUnit, ReplyPlace, or_else}, View.{boot_of}}, proofs.Laws.{put_one_law, else_join}}
use Rattle.df_theory.specs.Units as theory
use Rattle.df_units.specs.{Bytes.{unit_at}, Format.{format_of, shape_as, shape_of}, Meaning.{layout_of, message_of, number_of, number_or}, Puts.{put_headers}}
use Rattle.df_journal.{specs.{Append.{ShowsRing, settle_events, settle_steps}, Flush.{EndsFlushed, MayFlushOn, MayPutGroup, flush_steps, group_steps, held_prepares, messages_of, with_headers}}, proofs.Laws.{GroupPuts, flush_are_steps, flush_puts, group_ends, length_of_units}}
use Rattle.df_journal.specs.Flush as journal
use Rattle.df_model.{specs.{Commands.{Flush, ForFlush, Given, supplied_sums}, Laws.{DoesFlush, UnlessRefused}, Making.{group_of, prepares_in}, Memory.{Memory, memory_of}, OnDisk.{DoesOnDisk}, Refusals.{first_refusal, flush_refusals, is_staged}, Supply.{group_puts, puts_of, unless}, Work.{Request, Work}, declared.errors.FlushError.{FlushError}}, proofs.Laws.{all_pass, flush_may_law}}
use Rattle.df_opening.{specs.Below.{IsState, Represents, State, memory, shape, spelling}, proofs.Laws.{boot_made, firmly, unit_after, after_join}}
use Rattle.df_replica.{specs.{declared.flush.Group.{Group}, Appending.{unit_made}, Flushing.{AreHeld, flush_events, flush_units, group_events, group_in, group_prepares, header_in, sums_of}, Serving.{Grade, IsKept, format}}, proofs.{Calls.{AreCalls}, FlushUnits.{length_units, puts_same}, Leaves.{Makes, makes_nothing}, Makes.{OfMade, OfPrepares, Unless}, WritesOn.{PutsIn, StandsIn, steps_stand}}}

-- ---- the machine's group

number_is : (n other : ℕ) → 0 < n → number_or n other ≡ n
number_is n other some = cond-false (n == 0) other n (ne_eqb n 0 (λ none. omega (arith, some, none)))

-- with the checksums of the prepares that are made, the machine's group is these prepares
group_same : (s : State) (op : ℕ) (parent : List ℕ) (rs : List Request) → 0 < s.head + length s.staged
    → prepares_in (memory s) (s.head + 1) (s.head + length s.staged)
    op (number_of parent) rs (sums_of (group_prepares (group_in s) op parent rs)) ≡ messages_of (group_prepares (group_in s) op parent rs)
group_same s op parent [] some = refl
group_same s op parent (r ∷ rs) some = let g = group_in s in let u = unit_made (header_in g op parent r) r.body in let m = memory s in
    let first = number_is (s.head + 1) op (omega arith) in let last = number_is (s.head + length s.staged) op some in
    ap (λ (ps : List theory.Message).
    record { header = record (message_of u).header { group = s.head + 1; group_last = s.head + length s.staged }; body = r.body }
    ∷ ps) (group_same s (op + 1) u.header.checksum rs some)
    ∙ (λ i. record { header = record (message_of u).header { group = sym first i; group_last = sym last i }; body = r.body }
    ∷ messages_of (group_prepares g (op + 1) u.header.checksum rs))

-- ---- what its steps put

-- the puts leave the prepares, each in its slot
puts_leave : (n : ℕ) (us : List Message) (place : Place) (o : Option AnyUnit) → ((i : ℕ) (u : Message) → slice_get us i ≡ Some u
    → u.header.slot ≡ u.header.op % n) → unit_after (group_steps us) place o ≡ or_else (group_puts n (messages_of us) place) o
puts_leave n [] place o slots = refl
puts_leave n (u ∷ us) place o slots = let one = λ (s : ℕ). put_one (PreparePlace s) (PrepareUnit (message_of u)) place in
    puts_leave n us place (or_else (one u.header.slot) o) (λ i x at. slots (suc i) x at)
    ∙ ap (λ (s : ℕ). or_else (group_puts n (messages_of us) place) (or_else (one s) o)) (slots 0 u refl)
    ∙ else_join (group_puts n (messages_of us) place) (one (u.header.op % n)) o

-- and a settling leaves what isn't a header
abbrev IsNoHeader : Place → Type 0
IsNoHeader place = (sector : ℕ) (headers : List Header) → put_headers sector headers place ≡ None

writes_leave : (table : List Header) (sectors : List ℕ) (place : Place) (o : Option AnyUnit)
    → IsNoHeader place → unit_after (header_write_steps table sectors ++ Syncs ∷ []) place o ≡ o
writes_leave table [] place o none = refl
writes_leave table (sector ∷ sectors) place o none =
    ap (λ (p : Option AnyUnit). unit_after (header_write_steps table sectors ++ Syncs ∷ []) place (or_else p o))
    (none sector (in_sector sector table)) ∙ writes_leave table sectors place o none

flush_leaves : (n : ℕ) (us : List Message) (table : List Header) (place : Place) (o : Option AnyUnit)
    → ((i : ℕ) (u : Message) → slice_get us i ≡ Some u → u.header.slot ≡ u.header.op % n) → IsNoHeader place
    → unit_after (flush_steps us table) place o ≡ or_else (group_puts n (messages_of us) place) o
flush_leaves n us table place o slots none =
    after_join (group_steps us) (settle_steps (with_headers us table) (journal.sectors_of us)) place o
    ∙ writes_leave (with_headers us table) (journal.sectors_of us) place (unit_after (group_steps us) place o) none
    ∙ puts_leave n us place o slots

-- each prepare is put
put_in : (us : List Message) (rest : List Step) (i : ℕ) (u : Message)
    → slice_get us i ≡ Some u → PutsIn (group_steps us ++ rest) (PreparePlace u.header.slot) (PrepareUnit (message_of u))
put_in [] rest i u at = absurd (cc)
put_in (x ∷ us) rest zero u at =
    inl (subst (λ (y : Message). put_one (PreparePlace x.header.slot) (PrepareUnit (message_of x)) (PreparePlace y.header.slot)
    ≡ Some (PrepareUnit (message_of y))) (same_Some _ _ at) (put_one_law (PreparePlace x.header.slot) (PrepareUnit (message_of x))).at)
put_in (x ∷ us) rest (suc i) u at = inr (put_in us rest i u at)

each_of : (sh : Shape) (P : Place → AnyUnit → Type 0) (us : List Message) → ((i : ℕ) (u : Message) → slice_get us i ≡ Some u
    → P (PreparePlace (u.header.op % sh.layout.slots)) (PrepareUnit (message_of u))) → OfPrepares sh P (messages_of us)
each_of sh P [] all = tt
each_of sh P (u ∷ us) all = (all 0 u refl, each_of sh P us (λ i x at. all (suc i) x at))

-- a prepare stands in the slot of its op
in_slots : (g : Group) (op : ℕ) (parent : List ℕ) (rs : List Request) (i : ℕ) (u : Message)
    → slice_get (group_prepares g op parent rs) i ≡ Some u → u.header.slot ≡ u.header.op % g.file.layout.slots
in_slots g op parent [] i u at = absurd (cc)
in_slots g op parent (r ∷ rs) zero u at = subst (λ (x : Message). x.header.slot ≡ x.header.op % g.file.layout.slots) (same_Some _ _ at) refl
in_slots g op parent (r ∷ rs) (suc i) u at = in_slots g (op + 1) (unit_made (header_in g op parent r) r.body).header.checksum rs i u at

-- ---- a flush

module _ (s : State) (given : Given) (is : IsState s) (sum : given ≡ ForFlush (sums_of (flush_units s))) where
  abbrev us : List Message
  us = flush_units s

  abbrev steps : List Step
  steps = flush_steps us s.headers

  module _ (w : Work) (rep : Represents s w) where
    pub test_is : (o : Option FlushError)
        → first_refusal (flush_refusals (memory s)) ≡ o → first_refusal (flush_refusals (memory_of (shape s.file) (spelling s.file) w)) ≡ o
    test_is o there = ap (λ (x : Memory). first_refusal (flush_refusals x)) (sym rep) ∙ there

  -- what is refused does nothing
  pub refused_does : (e : FlushError) → first_refusal (flush_refusals (memory s)) ≡ Some e → AreCalls given Flush s []
  refused_does e some g w t k = let m = memory_of (shape s.file) (spelling s.file) w in
      let does = subst (λ (o : Option FlushError). UnlessRefused
      o [] (DoesFlush (shape s.file) (unit_at s.file.layout s.file.cluster (now t.log)) w.view (group_of m (supplied_sums given)) []))
      (sym (test_is w k.stands (Some e) some)) refl in record { steps = []; are = tt; does = does }

  -- and makes nothing
  pub refused_makes : (e : FlushError) → first_refusal (flush_refusals (memory s)) ≡ Some e
      → (P : Place → AnyUnit → Type 0) (w : Work) → Represents s w → OfMade (shape s.file) (spelling s.file) P w given Flush
  refused_makes e some P w rep = let m = memory_of (shape s.file) (spelling s.file) w in subst (λ (o : Option FlushError).
      Unless o (OfPrepares (shape s.file) P (group_of m (supplied_sums given)))) (sym (test_is w rep (Some e) some)) tt

  pub refused_puts : (e : FlushError) → first_refusal (flush_refusals (memory s)) ≡ Some e → Makes given Flush s []
  refused_puts e some = let m = memory s in makes_nothing given Flush s (λ place.
      ap (λ (o : Option FlushError). unless o (group_puts m.layout.slots (group_of m (supplied_sums given))) place) some) (λ no. no)

  module _ (live : s.live ≡ true) (none : first_refusal (flush_refusals (memory s)) ≡ None) (held : AreHeld s.file us) where
    some_staged : 0 < length s.staged
    some_staged = ltb-true 0 (length s.staged) (not-false (is_staged (memory s)) (all_pass (flush_refusals (memory s)) none).0)

    pub some_there : 0 < length held.helds
    some_there = omega (arith, some_staged, length_of_units held.helds, length_units (group_in s) (s.head + 1) s.head_checksum s.staged, ap (λ (xs : List Message). length xs) held.units)

    -- the prepares that the machine makes
    made_is : group_of (memory s) (sums_of us) ≡ messages_of us
    made_is = group_same s (s.head + 1) s.head_checksum s.staged (omega (arith, some_staged))

    pub group_is : (w : Work) → Represents s w → group_of (memory_of (shape s.file) (spelling s.file) w) (supplied_sums given) ≡ messages_of us
    group_is w rep = (λ i. group_of (sym rep i) (supplied_sums (sum i))) ∙ made_is

    put : MayPutGroup s.file.layout s.file.cluster held.helds s.headers
    put = record { table_is = is.ring; each = λ i one at. ((held.made i one at).layout_is, (held.made i one at).cluster) }

    events_same : journal.flush_events s.file.layout held.helds s.headers ≡ flush_events s
    events_same = ap (λ (es : List Event). es ++ settle_events s.file.layout (with_headers (held_prepares held.helds) s.headers)
        (journal.sectors_of (held_prepares held.helds))) (puts_same s.file held.helds held.made)
        ∙ ap (λ (xs : List Message). group_events s.file.layout xs s.headers) held.units

    are_steps : AreSteps (format s.file) (flush_events s) steps
    are_steps = subst (λ (es : List Event). AreSteps (format s.file) es steps) events_same (subst (λ (xs : List Message).
        AreSteps (format s.file) (journal.flush_events s.file.layout held.helds s.headers) (flush_steps xs s.headers)) held.units
        (flush_are_steps s.file.layout s.file.cluster held.helds s.headers some_there put held.own))

    -- the prepares that it makes are those that it writes
    pub allowed_makes : (w : Work)
        → Represents s w → OfMade (shape s.file) (spelling s.file) (StandsIn (format s.file) (flush_events s)) w given Flush
    allowed_makes w rep = let f = format s.file in let P = StandsIn f (flush_events s) in let g = group_in s in
        let wrote : OfPrepares (shape s.file) P (messages_of us) = each_of (shape s.file) P us (λ i u at.
        subst (λ (k : ℕ). P (PreparePlace k) (PrepareUnit (message_of u))) (in_slots g (s.head + 1) s.head_checksum s.staged i u at)
        (steps_stand f (flush_events s) steps (PreparePlace u.header.slot)
        (PrepareUnit (message_of u)) are_steps (put_in us (settle_steps (with_headers us s.headers) (journal.sectors_of us)) i u at))) in
        subst (λ (o : Option FlushError). Unless o (OfPrepares
        (shape s.file) P (group_of (memory_of (shape s.file) (spelling s.file) w) (supplied_sums given)))) (sym (test_is w rep None none))
        (subst (λ (ps : List theory.Message). OfPrepares (shape s.file) P ps) (sym (group_is w rep)) wrote)

    -- its steps put the prepares, and headers, which no call reads
    put_is : (place : Place) (o : Option AnyUnit)
        → IsNoHeader place → unit_after steps place o ≡ or_else (puts_of (memory s) (supplied_sums given) Flush place) o
    put_is place o aside = let m = memory s in let n = s.file.layout.slots in
        let same : messages_of us ≡ group_of m (supplied_sums given) = sym ((λ i. group_of m (supplied_sums (sum i))) ∙ made_is) in
        flush_leaves n us s.headers place o (λ i u at. in_slots (group_in s) (s.head + 1) s.head_checksum s.staged i u at) aside
        ∙ ap (λ (ps : List theory.Message). or_else (group_puts n ps place) o) same
        ∙ ap (λ (e : Option FlushError). or_else (unless e (group_puts n (group_of m (supplied_sums given))) place) o) (sym none)

    pub allowed_puts : Makes given Flush s (flush_events s)
    allowed_puts = record {
      steps = steps;
      are = are_steps;
      prepare = λ k o. put_is (PreparePlace k) o (λ sector headers. refl);
      reply = λ k o. put_is (ReplyPlace k) o (λ sector headers. refl);
      block = λ k o. put_is (BlockPlace k) o (λ sector headers. refl);
      copy = λ w work rep k o. put_is (CopyPlace k) o (λ sector headers. refl);
      last = λ no. absurd no;
    }

    -- of version 2, as its superblock is
    first_shape : shape s.file ≡ shape_of s.file.layout s.file.cluster s.file.named (parse_of (layout_of s.file.layout))
    first_shape = ap (λ (version : ℕ). shape_as version s.file.layout s.file.cluster s.file.named (parse_of (layout_of s.file.layout)))
        (sym is.version ∙ is.second.rules.version)

    module _ (g : Grade) (w : Work) (t : Told) (k : IsKept g s w t.log) where
      abbrev parse : ℕ → List ℕ → Option theory.Parts
      parse = parse_of (layout_of s.file.layout)

      booted : 0 < boot_of w.view
      booted = subst (λ (boot : ℕ). 0 < boot) (ap (λ (m : Memory). m.content.boot) k.stands) (boot_made s (is.booted live))

      may : MayAppend (shape_of s.file.layout s.file.cluster s.file.named parse) w.view (messages_of us)
      may = subst (λ (sh : Shape). MayAppend sh w.view (messages_of us)) first_shape
          (subst (MayAppend (shape s.file) w.view) (group_is w k.stands) (flush_may_law
          (shape s.file) (spelling s.file) w (supplied_sums given) (firmly g s w t.log k).sense (test_is w k.stands None none)))

      abbrev may_held : MayFlushOn s.file.layout s.file.cluster (held_prepares held.helds) s.headers t
      may_held = record {
        named = s.file.named;
        parse = parse;
        view = w.view;
        is_log = k.log_is;
        tidy = subst (λ (sh : Shape).
            IsTidy sh (units_log (format_of s.file.layout s.file.cluster) t.log) w.view) first_shape (firmly g s w t.log k).tidy;
        may = subst (λ (xs : List Message).
            MayAppend (shape_of s.file.layout s.file.cluster s.file.named parse) w.view (messages_of xs)) (sym held.units) may;
        booted = λ several. booted;
        ring = k.ring;
      }

      abbrev DoesPuts : Shape → List Message → Type 0
      DoesPuts sh xs = GroupPuts sh (unit_at s.file.layout s.file.cluster (now t.log)) xs (flush_steps xs s.headers)

      puts : DoesPuts (shape s.file) us
      puts = subst (λ (sh : Shape). DoesPuts sh us) (sym first_shape)
          (subst (λ (xs : List Message). DoesPuts (shape_of s.file.layout s.file.cluster s.file.named parse) xs) held.units
          (flush_puts s.file.layout s.file.cluster held.helds s.headers t put held.own some_there may_held))

      does_flush : DoesFlush (shape s.file) (unit_at s.file.layout s.file.cluster (now t.log)) w.view (messages_of us) steps
      does_flush = record {
        prepares = puts.prepares;
        table = puts.table;
        headers = puts.headers;
        puts = puts.puts;
        sectors = puts.sectors;
        is_table = puts.is_table;
        booted = λ several. booted;
        are = puts.are;
      }

      pub allowed_does : DoesOnDisk (format s.file) (shape s.file) (spelling s.file) t.log w given Flush (flush_events s)
      allowed_does = let m = memory_of (shape s.file) (spelling s.file) w in record {
        steps = steps;
        are = are_steps;
        does = subst (λ (o : Option FlushError). UnlessRefused o steps
            (DoesFlush (shape s.file) (unit_at s.file.layout s.file.cluster (now t.log)) w.view (group_of m (supplied_sums given)) steps))
            (sym (test_is w k.stands None none)) (subst (λ (ps : List theory.Message). DoesFlush
            (shape s.file) (unit_at s.file.layout s.file.cluster (now t.log)) w.view ps steps) (sym (group_is w k.stands)) does_flush);
      }

      pub ring_then : (n : Told)
          → Some n ≡ after_all (flush_events s) (Some t) → ShowsRing s.file.layout s.file.cluster (now n.log) (with_headers us s.headers)
      ring_then n all = let ends : EndsFlushed s.file.layout
          s.file.cluster (held_prepares held.helds) s.headers t may_held n (with_headers (held_prepares held.helds) s.headers) =
          group_ends s.file.layout s.file.cluster
          held.helds s.headers put held.own some_there (Some t) (Some n) (with_headers (held_prepares held.helds) s.headers) (Ok tt)
          (subst (λ (es : List Event). Some n ≡ after_all es (Some t)) (sym events_same) all) refl t n refl refl may_held in
          subst (λ (xs : List Message). ShowsRing s.file.layout s.file.cluster (now n.log) (with_headers xs s.headers)) held.units ends.ring
