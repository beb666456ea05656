-- What an append does to the disk is the machine's append, and after it the header ring shows the table.
use Rattle.std.{specs.Prelude.{Ok, if◌then◌else◌, slice_get}, proofs.{Common.{◌≡◌, inl, inr, ℕ, ◌+◌, ◌/◌, ◌%◌, ◌==◌, Bool, true, false, List, [], ◌∷◌, Option, Some, None, refl, sym, ◌∙◌, ap, subst}, lemmas.Bool.{cond-true, eq-eqb}, lemmas.Option.{same_Some}}}
use Rattle.{df_base.specs.{Image.{Image}, Log.{now}}, df_disk.specs.{Told.{Told}, Adds.{after_all}}, df_trailer.specs.Text.{parse_of}}
use Rattle.df_layout.specs.{declared.layout.Layout.{Layout}, declared.places.Zone.TheVariants.{WalPrepares}}
use Rattle.df_format.{specs.{Brings.{Brings}, declared.header.Header.{Header}, Message.{Message, sectors_of}, Own.{place_in}}, proofs.Laws.{made_brings}}
use Rattle.df_journal.{specs.{Below.{IsInOwnSlot}, Append.{EndsAppended, MayAppendOn, ShowsRing, journal_steps, new_sector, with_header}}, proofs.Laws.{append_steps, ends_appended, next_sector}}
use Rattle.df_theory.specs.Units as theory
use Rattle.df_theory.{specs.{Units.{AnyUnit, BlockPlace, CopyPlace, HeaderPlace, HeaderUnit, Place, PreparePlace, PrepareUnit, ReplyPlace, or_else}, Next.{MayAppend}, Device.{units_log}, Shape.{Shape}, TidyLaws.{IsTidy}, UnitLog.{put_one}, WriterLaws.{IsHeaderSector}}, proofs.Laws.{put_one_law}}
use Rattle.df_units.{specs.{Format.{format_of, shape_as, shape_of}, Bytes.{unit_at}, Meaning.{header_of, layout_of, message_of, number_of, number_or}, Puts.{IsNextSector, header_unit, put_headers}}, proofs.Laws.{sector_puts}}
use Rattle.df_model.{specs.{Commands.{Append, Command, ForAppend, Given, supplied_sum, supplied_sums}, Laws.{DoesAppend, UnlessRefused}, Making.{prepare_of}, Memory.{Memory, memory_of}, OnDisk.{DoesOnDisk}, Refusals.{append_refusals, first_refusal}, Supply.{puts_of, unless}, Work.{Work}, declared.errors.AppendError.{AppendError}}, proofs.Laws.{append_may_law}}
use Rattle.df_opening.{specs.Below.{IsState, Represents, State, memory, shape, spelling}, proofs.Laws.{firmly}}
use Rattle.df_replica.{specs.{Appending.{append_events, next_unit}, Serving.{Grade, IsKept, format}}, proofs.{Calls.{AreCalls}, Leaves.{Makes, makes_nothing}, Makes.{OfMade, Unless}, WritesOn.{StandsIn, steps_stand}}}

-- ---- a header sector with one new header, in the words of the theory

module _ (layout : Layout) (cluster : ℕ) (sh : Shape) (u : Message) (sector : ℕ) (headers : List Header) (image : Image)
    (slot : u.header.slot ≡ u.header.op % sh.layout.slots) (is : IsNextSector layout cluster image u.header sector headers) where
  is_header_sector : IsHeaderSector sh (unit_at layout cluster image) (message_of u) (put_headers sector headers)
  is_header_sector = record {
    each = λ place y put. let one = sector_puts sector headers place y put in (
      one.0,
      header_of one.1,
      one.2,
      one.3,
      elim (is.others one.0 one.1 one.4 one.5) [
        | inr shown ↦ inl shown
        | inl own ↦ let same : one.1 ≡ u.header = same_Some _ _ (sym one.5 ∙ ap (λ (s : ℕ). slice_get headers (s % 16)) own ∙ is.has) in
            inr (own ∙ slot, ap header_of same)
      ],
    );
  }

  puts_new : put_headers sector headers (HeaderPlace (u.header.op % sh.layout.slots)) ≡ Some (HeaderUnit (header_of u.header))
  puts_new = subst (λ (s : ℕ). put_headers sector headers (HeaderPlace s) ≡ Some (HeaderUnit (header_of u.header))) slot
      (cond-true (u.header.slot / 16 == sector)
      (header_unit (slice_get headers (u.header.slot % 16))) None (eq-eqb (u.header.slot / 16) sector is.here) ∙ ap header_unit is.has)

-- ---- an append

-- a group that is told is that
own_number : (n : ℕ) → number_or n n ≡ n
own_number n = go (n == 0)
  where
    go : (b : Bool) → (if b then n else n) ≡ n
    go true = refl
    go false = refl

module _ (s : State) (client request : ℕ) (body : List ℕ)
    (given : Given) (is : IsState s) (sum : given ≡ ForAppend (number_of (next_unit s client request body).header.checksum ∷ [])) where
  abbrev u : Message
  u = next_unit s client request body

  abbrev command : Command
  command = Append client request body

  -- the prepare that the machine makes: a group of its own
  made_is : prepare_of (memory s) (number_of u.header.checksum) client request body ≡ message_of u
  made_is = λ i. record { header = record (message_of u).header { group = sym (own_number (s.head + 1)) i; group_last = sym (own_number (s.head + 1)) i }; body = body }

  module _ (w : Work) (rep : Represents s w) where
    pub test_is : (o : Option AppendError) → first_refusal (append_refusals (memory s) client request body) ≡ o
        → first_refusal (append_refusals (memory_of (shape s.file) (spelling s.file) w) client request body) ≡ o
    test_is o there = ap (λ (x : Memory). first_refusal (append_refusals x client request body)) (sym rep) ∙ there

    pub prepare_is : prepare_of (memory_of (shape s.file) (spelling s.file) w) (supplied_sum given) client request body ≡ message_of u
    prepare_is = (λ i. prepare_of (sym rep i) (supplied_sum (sum i)) client request body) ∙ made_is

  -- what is refused does nothing
  pub refused_does : (e : AppendError) → first_refusal (append_refusals (memory s) client request body) ≡ Some e → AreCalls given command s []
  refused_does e some g w t k = let m = memory_of (shape s.file) (spelling s.file) w in let does =
      subst (λ (o : Option AppendError). UnlessRefused o [] (DoesAppend
      (shape s.file) (unit_at s.file.layout s.file.cluster (now t.log)) w.view (prepare_of m (supplied_sum given) client request body) []))
      (sym (test_is w k.stands (Some e) some)) refl in record { steps = []; are = tt; does = does }

  -- and makes nothing
  pub refused_makes : (e : AppendError)
      → first_refusal (append_refusals (memory s) client request body) ≡ Some e → (P : Place → AnyUnit → Type 0) (w : Work) → Represents s w
      → OfMade (shape s.file) (spelling s.file) P w given command
  refused_makes e some P w rep =
      let p = prepare_of (memory_of (shape s.file) (spelling s.file) w) (supplied_sum given) client request body in
      subst (λ (o : Option AppendError).
      Unless o (P (PreparePlace (p.header.op % s.file.layout.slots)) (PrepareUnit p))) (sym (test_is w rep (Some e) some)) tt

  pub refused_puts : (e : AppendError) → first_refusal (append_refusals (memory s) client request body) ≡ Some e → Makes given command s []
  refused_puts e some = let m = memory s in makes_nothing given command s
      (λ place. ap (λ (o : Option AppendError). unless o (put_one (PreparePlace ((m.head + 1) % m.layout.slots))
      (PrepareUnit (prepare_of m (supplied_sum given) client request body))) place) some) (λ no. no)

  module _ (none : first_refusal (append_refusals (memory s) client request body) ≡ None) (own : IsInOwnSlot s.file.layout u) where
    brings : Brings s.file.layout s.file.cluster (place_in WalPrepares u.header.slot) u (sectors_of u)
    brings = made_brings s.file.layout s.file.cluster (place_in WalPrepares u.header.slot) u (λ same. cc) own

    -- the prepare that it makes is the one that it writes
    pub allowed_makes : (w : Work)
        → Represents s w → OfMade (shape s.file) (spelling s.file) (StandsIn (format s.file) (append_events s u)) w given command
    allowed_makes w rep = let f = format s.file in let events = append_events s u in
        let p = prepare_of (memory_of (shape s.file) (spelling s.file) w) (supplied_sum given) client request body in
        let wrote : StandsIn f events (PreparePlace u.header.slot) (PrepareUnit (message_of u)) =
        steps_stand f events (journal_steps u s.headers)
        (PreparePlace u.header.slot) (PrepareUnit (message_of u)) (append_steps s.file.layout u s.headers own is.ring (sectors_of u) brings)
        (inl (put_one_law (PreparePlace u.header.slot) (PrepareUnit (message_of u))).at) in subst (λ (o : Option AppendError).
        Unless o (StandsIn f events (PreparePlace (p.header.op % s.file.layout.slots)) (PrepareUnit p))) (sym (test_is w rep None none))
        (subst (λ (q : theory.Message).
        StandsIn f events (PreparePlace (q.header.op % s.file.layout.slots)) (PrepareUnit q)) (sym (prepare_is w rep)) wrote)

    -- its steps put the prepare, and headers, which no call reads
    put_is : (place : Place)
        → put_one (PreparePlace u.header.slot) (PrepareUnit (message_of u)) place ≡ puts_of (memory s) (supplied_sums given) command place
    put_is place = let m = memory s in let p : theory.Message = prepare_of m (supplied_sum given) client request body in
        let same : p ≡ message_of u = (λ i. prepare_of m (supplied_sum (sum i)) client request body) ∙ made_is in
        ap (λ (x : theory.Message). put_one (PreparePlace u.header.slot) (PrepareUnit x) place) (sym same)
        ∙ ap (λ (o : Option AppendError). unless o (put_one (PreparePlace ((m.head + 1) % m.layout.slots)) (PrepareUnit p)) place) (sym none)

    pub allowed_puts : Makes given command s (append_events s u)
    allowed_puts = record {
      steps = journal_steps u s.headers;
      are = append_steps s.file.layout u s.headers own is.ring (sectors_of u) brings;
      prepare = λ k o. ap (λ (p : Option AnyUnit). or_else p o) (put_is (PreparePlace k));
      reply = λ k o. ap (λ (p : Option AnyUnit). or_else p o) (put_is (ReplyPlace k));
      block = λ k o. ap (λ (p : Option AnyUnit). or_else p o) (put_is (BlockPlace k));
      copy = λ w work rep k o. ap (λ (p : Option AnyUnit). or_else p o) (put_is (CopyPlace k));
      last = λ no. absurd no;
    }

    -- of version 2, as its superblock is
    first_shape : shape s.file ≡ shape_of s.file.layout s.file.cluster s.file.named (parse_of (layout_of s.file.layout))
    first_shape = ap (λ (version : ℕ). shape_as version s.file.layout s.file.cluster s.file.named (parse_of (layout_of s.file.layout)))
        (sym is.version ∙ is.second.rules.version)

    module _ (g : Grade) (w : Work) (t : Told) (k : IsKept g s w t.log) where
      next_is : IsNextSector s.file.layout s.file.cluster (now t.log) u.header (u.header.slot / 16) (new_sector u s.headers)
      next_is = next_sector s.file.layout u s.headers (now t.log) own is.ring k.ring

      does_append : DoesAppend
          (shape s.file) (unit_at s.file.layout s.file.cluster (now t.log)) w.view (message_of u) (journal_steps u s.headers)
      does_append = record {
        prepare = put_one (PreparePlace u.header.slot) (PrepareUnit (message_of u));
        headers = put_headers (u.header.slot / 16) (new_sector u s.headers);
        one = put_one_law (PreparePlace u.header.slot) (PrepareUnit (message_of u));
        sector = is_header_sector
            s.file.layout s.file.cluster (shape s.file) u (u.header.slot / 16) (new_sector u s.headers) (now t.log) refl next_is;
        there = puts_new s.file.layout s.file.cluster (shape s.file) u (u.header.slot / 16) (new_sector u s.headers) (now t.log) refl next_is;
        are = refl;
      }

      pub allowed_does : DoesOnDisk (format s.file) (shape s.file) (spelling s.file) t.log w given command (append_events s u)
      allowed_does = let m = memory_of (shape s.file) (spelling s.file) w in let steps = journal_steps u s.headers in record {
        steps = steps;
        are = append_steps s.file.layout u s.headers own is.ring (sectors_of u) brings;
        does = subst (λ (o : Option AppendError). UnlessRefused o steps (DoesAppend (shape s.file)
            (unit_at s.file.layout s.file.cluster (now t.log)) w.view (prepare_of m (supplied_sum given) client request body) steps))
            (sym (test_is w k.stands None none))
            (subst (λ (p : theory.Message). DoesAppend (shape s.file) (unit_at s.file.layout s.file.cluster (now t.log)) w.view p steps)
            (sym (prepare_is w k.stands)) does_append);
      }

      may : MayAppendOn s.file.layout u s.headers t
      may = let by = firmly g s w t.log k in record {
        named = s.file.named;
        parse = parse_of (layout_of s.file.layout);
        view = w.view;
        is_log = k.log_is;
        tidy = subst (λ (sh : Shape). IsTidy sh (units_log (format_of s.file.layout s.file.cluster) t.log) w.view) first_shape by.tidy;
        may = subst (λ (sh : Shape). MayAppend sh w.view (message_of u ∷ [])) first_shape
            (subst (λ (p : theory.Message). MayAppend (shape s.file) w.view (p ∷ [])) (prepare_is w k.stands) (append_may_law
            (shape s.file) (spelling s.file) w (supplied_sum given) client request body by.sense (test_is w k.stands None none)));
        ring = k.ring;
      }

      pub ring_then : (n : Told)
          → Some n ≡ after_all (append_events s u) (Some t) → ShowsRing s.file.layout s.file.cluster (now n.log) (with_header u s.headers)
      ring_then n all = let ends : EndsAppended s.file.layout u s.headers t may n (with_header u s.headers) =
          ends_appended s.file.layout u s.headers t may own is.ring (sectors_of u) brings n (with_header u s.headers) (Ok tt) all refl in
          ends.ring
