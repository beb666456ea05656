-- After the open of its source a copy spares the sectors of the target's superblock until the first copy of it, and the target holds it
-- whole where it is made.
use Rattle.std.{proofs.{Common.{◌≡◌, ◌⊎◌, inl, inr, ℕ, ◌<◌, ◌≤◌, ◌++◌, true, List, [], length, Option, Some, None, Result, Ok, Err, sym, ◌∙◌, ap, subst, arith}, lemmas.Bool.{cases_lt}, lemmas.Option.{same_Some}}, specs.Prelude.{slice_get}}
use Rattle.{df_base.specs.{Fields.{AreBytes}, Image.{Image, IsImage}, Log.{Log, Sync, now}, Moments.{adds}}, df_program.specs.Two.{around}}
use Rattle.{df_disk.{specs.{Told.{Told, did}, Adds.{AddsPart, after_all}}, proofs.Laws.{all_is_part}}, df_replica.specs.Reading.{shown_of}}
use Rattle.{df_layout.specs.declared.layout.Layout.{Layout}, df_format.specs.{Message.{Message}, SuperRules.{IsUsable}}}
use Rattle.df_sessions.specs.{Requests.{session_of, sessions_of}, Table.{AreDistinctClients}}
use Rattle.df_sessions.specs.declared.session.Session as told
use Rattle.df_theory.specs.{Copies.{Agree}, Found.{IsClean, IsFound}, Holds.{IsWhole}, Rests.{IsCopy}, Units.{BlockPlace, Content, CopyPlace, CopyUnit, Place, ReplyPlace, ReplyUnit, Units}, View.{View}}
use Rattle.df_units.{specs.{Bytes.{unit_at}, Meaning.{block_of, layout_of, message_of}}, proofs.Laws.{all_added}}
use Rattle.df_model.specs.{Codec.{AreLawful}, Memory.{reply_sum}, Refusals.{first_refusal}, Supply.{Shown}, Work.{kept}}
use Rattle.df_opening.{specs.{Below.{IsOpened, IsState, State, memory, shape, told_after}, Opened.{Mends, MendsAll, begun_state, raised_state}, Sparing.{image_after}}, proofs.Laws.{added_is_told, clean_beyond, shown_after, now_adds}}
use Rattle.df_copy.{specs.{declared.ending.Ending.{Ending}, declared.ending.Ending.TheVariants.{BlockTooLong, Damaged, NotAtRest, NotBlank, ReplyTooLong, Source, Target, TooFewBlocks, TooFewClients}, declared.status.Status.{Status}, Copying.{Copied, CopiesInto, IsAll, WritesCopy}, Run.{CopiesFile, PrintsCopy, SparesCopies}, Stops.{StopsCopy}, Targets.{copy_events, events_before_trailer}, Tests.{blank_tests, tests, unit_tests}, Views.{HoldsCopy, IsEmptyImage, ShowsCopy, file_in}}, proofs.{Alike.{WereRead, alike_on, copy_alike}, Holding.{copies_shown, copy_found, copy_image, copy_older, copy_stands, copy_view, copy_whole, mapped, own_version, place_shows, shown}, Planning.{Passes, passes_tests}, Seen.{block_seen, reply_seen}, Sources.{IsSource, opened_lawful, rest_source}, Spares.{spare_units, spares_all, spares_copy, spares_part}, Stopped.{part_stops}, Untouched.{stops_spare}, Usables.{IsNamed}, Written.{blocks_in_row, replies_in_row}}}

-- ---- the sectors of the superblock

-- it ended before the trailer, and not by the target's disk
unbegun : (layout : Layout) (s : State) (from : Option Told) (o : Told) (new : Option Told) → (new ≡ Some o) ⊎ ((c : Copied layout s from)
    × (new ≡ after_all (events_before_trailer layout s.file.cluster c.replies c.blocks) (Some o))) → SparesCopies o new
unbegun layout s from o new (inl same) = spares_all o new [] tt same
unbegun layout s from o new (inr some) = spares_all o new (events_before_trailer layout s.file.cluster some.0.replies some.0.blocks)
    (spare_units layout s.file.cluster some.0.replies some.0.blocks) some.1

pub copy_spares : {T : Type 0} (layout : Layout) (s : State) (from : Option Told) (o : Told) (new : Option Told) (r : Result T Ending)
    → WritesCopy layout s from (Some o) new r → SparesCopies o new
copy_spares layout s from o new (Ok x) writes = spares_copy layout
    s writes.0.replies writes.0.blocks o new (all_is_part (copy_events layout s writes.0.replies writes.0.blocks) (Some o) new writes.2)
copy_spares layout s from o new (Err Target) writes = elim writes.1 [
  | inl units ↦ spares_part o new (events_before_trailer layout s.file.cluster writes.0.replies writes.0.blocks)
      (spare_units layout s.file.cluster writes.0.replies writes.0.blocks) units
  | inr all ↦ spares_copy layout s writes.0.replies writes.0.blocks o new all.1
]
copy_spares layout s from o new (Err Source) writes = unbegun layout s from o new writes
copy_spares layout s from o new (Err (NotAtRest a b c)) writes = unbegun layout s from o new writes
copy_spares layout s from o new (Err (TooFewClients a b)) writes = unbegun layout s from o new writes
copy_spares layout s from o new (Err (TooFewBlocks a b)) writes = unbegun layout s from o new writes
copy_spares layout s from o new (Err (NotBlank a)) writes = unbegun layout s from o new writes
copy_spares layout s from o new (Err (ReplyTooLong a b)) writes = unbegun layout s from o new writes
copy_spares layout s from o new (Err (BlockTooLong a b)) writes = unbegun layout s from o new writes
copy_spares layout s from o new (Err (Damaged a b)) writes = unbegun layout s from o new writes

-- ---- the tests

pub passes_all : (layout : Layout) (s : State) (seen : Shown) (image : Image)
    → first_refusal (tests layout seen (memory s) image) ≡ None → Passes layout s
passes_all layout s seen image none = passes_tests layout s (blank_tests image ++ unit_tests layout seen (memory s)) none

-- ---- the target

module _ (layout : Layout) (t m : Told) (whole : IsImage t.shown) where
  -- what is asked of a source all of which is copied
  pub record MayHold (s : State) : Type 0 where
    pub state : IsState s
    pub usable : IsUsable s.fields
    pub live : s.live ≡ true
    pub mending : Mends s.file (Some (did Sync t)) (Some m)
    pub passes : Passes layout s
    pub copied : Copied layout s (Some m)
    pub all : IsAll copied

  module _ (found : State) (opened_as : IsOpened found.file.layout t.shown found) (view : View) (is : IsFound (shape
      found.file) (unit_at found.file.layout found.file.cluster t.shown) view) (may : MayHold (raised_state found)) where
    abbrev s : State
    s = raised_state found

    abbrev rs : List Message
    rs = may.copied.replies

    abbrev bs : List Message
    bs = may.copied.blocks

    abbrev v : View
    v = kept (begun_state s.file t view s.fields)

    abbrev image : Units
    image = unit_at s.file.layout s.file.cluster t.shown

    abbrev seen : Units
    seen = unit_at s.file.layout s.file.cluster m.shown

    source : IsSource s image v
    source = rest_source found t view whole opened_as is may.passes.rest

    shown_then : m.shown ≡ image_after may.mending.events t.shown
    shown_then = ap (λ (u : Told). u.shown) (same_Some m (told_after may.mending.events (did Sync t))
        (may.mending.told ∙ added_is_told may.mending.events (did Sync t))) ∙ shown_after may.mending.events (did Sync t)

    reply_kept : (k : ℕ) → image (ReplyPlace k) ≡ seen (ReplyPlace k)
    reply_kept k = sym (ap (λ (i : Image). unit_at s.file.layout s.file.cluster i (ReplyPlace k)) shown_then
        ∙ (may.mending.spares t.shown whole).units.reply k)

    read : (k : ℕ) (u : Message) → slice_get rs k ≡ Some u → image (ReplyPlace k) ≡ Some (ReplyUnit (message_of u))
    read k u at = reply_kept k
        ∙ reply_seen (shown_of s.file m.shown) (reply_sum (memory s) k) k (message_of u) (may.copied.are_replies.are.each k u at).shown

    root : AreBytes s.root
    root = subst AreBytes source.root source.lawful.root.1

    room_replies : length rs ≤ layout.clients
    room_replies = omega (arith, may.all.replies, may.passes.fits)

    room_blocks : length bs ≤ layout.blocks
    room_blocks = omega (arith, may.all.blocks, may.passes.room)

    named : IsNamed layout s rs bs
    named = record {
      writable = record {
        live = may.live;
        state = may.state;
        root = root;
        replies = replies_in_row layout s (Some m) rs may.copied.are_replies room_replies;
        blocks = blocks_in_row layout s (Some m) bs may.copied.are_blocks room_blocks;
        all = may.all.blocks;
        room = may.passes.room;
      };
      usable = may.usable;
      fits = may.passes.fits;
      each = may.all.replies;
    }

    were_read : WereRead s seen bs
    were_read = record {
      each = λ i b at. let there = may.copied.are_blocks.are.each i b at in
          (there.0, there.1, block_seen (shown_of s.file m.shown) (memory s) there.0.0 (block_of b) there.2.shown, there.2.known.sum);
    }

    abbrev u : View
    u = copy_view layout s rs bs image v named source read

    abbrev then : Units
    then = shown layout s rs bs image v named source read

    -- an image that shows all that was written, but for some of the copies
    module _ (target : Image) (has_sectors : IsImage target) (same : (place : Place) → (IsCopy place → ⊥) → unit_at
        layout s.file.cluster target place ≡ then place) (agreed : Agree (unit_at layout s.file.cluster target) u.checkpoint.content)
        (only : (n : ℕ) (d : Content) → n < 4 → unit_at layout s.file.cluster target (CopyPlace
        n) ≡ Some (CopyUnit d) → d ≡ u.checkpoint.content) where
      abbrev there : Units
      there = unit_at layout s.file.cluster target

      clean : IsClean there u
      clean n d at away = elim (cases_lt n 4) [
        | inl inside ↦ inl (only n d inside at)
        | inr past ↦ clean_beyond (file_in layout s.file) target u n d past at away
      ]

      shows_there : ShowsCopy layout s.file m.shown v target
      shows_there = record {
        view = u;
        copy = alike_on (layout_of layout) seen v then there u (λ a. same (BlockPlace a) (λ no. no)) (copy_alike
            layout s rs bs image v named source read (λ k r at. (may.copied.are_replies.are.each k r at).known.sum) seen were_read);
        found = copy_found layout s rs bs image v named source read there same agreed only;
        clean = clean;
        stands = copy_stands layout s rs bs image v named source read there same agreed only (λ i b at.
            let here = may.copied.are_blocks.are.each i b at in here.2.known.of_kind);
        older = copy_older layout s rs bs image v named source read there same agreed only;
        image = has_sectors;
        version = own_version layout s rs bs image v named source read;
      }

    -- ---- at the end

    module _ (o n : Told) (empty : IsEmptyImage (now o.log)) (written : Some n ≡ after_all (copy_events layout s rs bs) (Some o)) where
      log_is : n.log ≡ adds (copy_events layout s rs bs) o.log
      log_is = all_added (copy_events layout s rs bs) o n written

      now_is : now n.log ≡ image_after (copy_events layout s rs bs) (now o.log)
      now_is = ap (λ (l : Log). now l) log_is ∙ now_adds (copy_events layout s rs bs) o.log

      target_is : (place : Place) → unit_at layout s.file.cluster (now n.log) place ≡ then place
      target_is place = ap (λ (w : Image). unit_at layout s.file.cluster w place) now_is
          ∙ place_shows layout s rs bs image v named source read (now o.log) empty place

      copies : (k : ℕ) → k < 4 → unit_at layout s.file.cluster (now n.log) (CopyPlace k) ≡ Some (CopyUnit u.checkpoint.content)
      copies k inside = target_is (CopyPlace k) ∙ copies_shown layout s rs bs image v named source read k inside

      raised_holds : HoldsCopy layout s.file m.shown v (now n.log)
      unfolding shows_there
      raised_holds = record {
        shows = shows_there (now n.log) (subst IsImage (sym now_is) (copy_image layout s rs bs image v named source read (now o.log) empty))
            (λ place other. target_is place)
            (record { first = 0; second = 1; apart = omega arith; inside = omega arith; at_first = copies 0 (omega arith); at_second = copies 1 (omega arith) })
            (λ k d inside at. let both : Some (CopyUnit d) ≡ Some (CopyUnit u.checkpoint.content) = sym at ∙ copies k inside in cc);
        whole = subst (λ (w : Units). IsWhole (shape (file_in layout s.file)) w u) (λ i place.
            sym (target_is place) i) (copy_whole layout s rs bs image v named source read);
      }

    -- ---- and where it was stopped

    raised_stops : (o : Told) (new : Option Told)
        → IsEmptyImage o.shown → AddsPart (copy_events layout s rs bs) (Some o) new → StopsCopy layout s.file m.shown v o new
    raised_stops o new empty part = part_stops layout s rs bs image v named source read m.shown v shows_there o empty new part

  -- the state that calls begin with is held whole, and shown where the copy was stopped
  pub copy_holds : (s : State) → MendsAll t s (Some m)
      → (view : View) → IsFound (shape s.file) (unit_at s.file.layout s.file.cluster t.shown) view → (may : MayHold s)
      → ((o n : Told) → IsEmptyImage (now o.log) → Some n ≡ after_all (copy_events layout s may.copied.replies may.copied.blocks) (Some o)
      → HoldsCopy layout s.file m.shown (kept (begun_state s.file t view s.fields)) (now n.log))
      × ((o : Told) (new : Option Told) → IsEmptyImage o.shown → AddsPart (copy_events layout s may.copied.replies may.copied.blocks)
      (Some o) new → StopsCopy layout s.file m.shown (kept (begun_state s.file t view s.fields)) o new)
  copy_holds s mends = subst EachHolds (sym mends.raised) (λ view is may.
      (raised_holds mends.found (mends.opened whole) view is may, raised_stops mends.found (mends.opened whole) view is may))
    where
      EachHolds : State → Type 0
      EachHolds s = (view : View) → IsFound (shape s.file) (unit_at s.file.layout s.file.cluster t.shown) view → (may : MayHold s)
          → ((o n : Told) → IsEmptyImage (now o.log) → Some n ≡ after_all (copy_events layout s may.copied.replies may.copied.blocks)
          (Some o) → HoldsCopy layout s.file m.shown (kept (begun_state s.file t view s.fields)) (now n.log))
          × ((o : Told) (new : Option Told) → IsEmptyImage o.shown → AddsPart (copy_events layout s may.copied.replies may.copied.blocks)
          (Some o) new → StopsCopy layout s.file m.shown (kept (begun_state s.file t view s.fields)) o new)

-- ---- the source's sessions

apart_of : (clients : ℕ) (ss : List told.Session) → AreLawful clients (sessions_of ss) → AreDistinctClients ss
apart_of clients ss lawful j k x y at other same =
    lawful.apart j k (session_of x) (session_of y) (mapped session_of ss j x at) (mapped session_of ss k y other) same

pub opened_apart : (t : Told) (s : State) (later : Option Told) → IsImage t.shown → MendsAll t s later → AreDistinctClients s.table.sessions
opened_apart t s later whole mends = let opened_as = mends.opened whole in
    subst (λ (q : State). AreDistinctClients q.table.sessions) (sym mends.raised) (apart_of
    mends.found.file.layout.clients mends.found.table.sessions (opened_lawful mends.found t opened_as.view whole opened_as opened_as.found))

-- ---- the target, wherever it is stopped

module _ (layout : Layout) (t m : Told) (whole : IsImage t.shown)
    (s : State) (state : IsState s) (usable : IsUsable s.fields) (live : s.live ≡ true) (mends : MendsAll t s (Some m)) (view : View)
    (found : IsFound (shape s.file) (unit_at s.file.layout s.file.cluster t.shown) view) where
  holding : (copied : Copied layout s (Some m)) → IsAll copied → Passes layout s → MayHold layout t m whole s
  holding copied all passes =
      record { state = state; usable = usable; live = live; mending = mends.mending; passes = passes; copied = copied; all = all }

  pub all_holds : (o n : Told) → IsEmptyImage (now o.log) → CopiesInto {T = Unit {0}} layout s (Some m) (Some o) (Some n) (Ok tt)
      → HoldsCopy layout s.file m.shown (kept (begun_state s.file t view s.fields)) (now n.log)
  unfolding holding
  all_holds o n empty copies = let w = copies.writes in (copy_holds layout
      t m whole s mends view found (holding w.0 w.1 (passes_all layout s (shown_of s.file m.shown) o.shown copies.judged))).0 o n empty w.2

  module _ (o : Told) (new : Option Told) (empty : IsEmptyImage o.shown) where
    abbrev Stops : Type 0
    Stops = StopsCopy layout s.file m.shown (kept (begun_state s.file t view s.fields)) o new

    units_stop : (c : Copied layout s (Some m)) → AddsPart (events_before_trailer layout s.file.cluster c.replies c.blocks) (Some o) new → Stops
    units_stop c part = stops_spare layout s.file m.shown (kept (begun_state s.file t view s.fields)) o new
        (events_before_trailer layout s.file.cluster c.replies c.blocks) empty (spare_units layout s.file.cluster c.replies c.blocks) part

    nothing_stops : new ≡ Some o → Stops
    nothing_stops same = stops_spare layout s.file m.shown (kept (begun_state s.file t view s.fields)) o new [] empty tt same

    unbegun_stops : (new ≡ Some o) ⊎ ((c : Copied layout s (Some m))
        × (new ≡ after_all (events_before_trailer layout s.file.cluster c.replies c.blocks) (Some o))) → Stops
    unbegun_stops (inl same) = nothing_stops same
    unbegun_stops (inr some) =
        units_stop some.0 (all_is_part (events_before_trailer layout s.file.cluster some.0.replies some.0.blocks) (Some o) new some.1)

    module _ (passes : Passes layout s) where
      all_stop : (c : Copied layout s (Some m)) → IsAll c → AddsPart (copy_events layout s c.replies c.blocks) (Some o) new → Stops
      unfolding holding
      all_stop c all part = (copy_holds layout t m whole s mends view found (holding c all passes)).1 o new empty part

      passed_stops : {T : Type 0} (r : Result T Ending) → WritesCopy layout s (Some m) (Some o) new r → Stops
      passed_stops (Ok x) writes =
          all_stop writes.0 writes.1 (all_is_part (copy_events layout s writes.0.replies writes.0.blocks) (Some o) new writes.2)
      passed_stops (Err Target) writes = elim writes.1 [
        | inl units ↦ units_stop writes.0 units
        | inr all ↦ all_stop writes.0 all.0 all.1
      ]
      passed_stops (Err Source) writes = unbegun_stops writes
      passed_stops (Err (NotAtRest a b c)) writes = unbegun_stops writes
      passed_stops (Err (TooFewClients a b)) writes = unbegun_stops writes
      passed_stops (Err (TooFewBlocks a b)) writes = unbegun_stops writes
      passed_stops (Err (NotBlank a)) writes = unbegun_stops writes
      passed_stops (Err (ReplyTooLong a b)) writes = unbegun_stops writes
      passed_stops (Err (BlockTooLong a b)) writes = unbegun_stops writes
      passed_stops (Err (Damaged a b)) writes = unbegun_stops writes

    pub each_stops : (r : Result (Unit {0}) Ending) → CopiesInto layout s (Some m) (Some o) new r → Stops
    each_stops r copies = elim copies.tested [
      | inl same ↦ nothing_stops same
      | inr none ↦ passed_stops (passes_tests layout s [] none) r copies.writes
    ]

-- ---- what is said of it

pub file_copied : (layout : Layout) (t : Told) (s : State) (r : Result (Unit {0}) Ending) (first second later : Option Told)
    (written wrote : Option (List ℕ)) (status : Status) → IsImage t.shown → IsState s → IsUsable s.fields → s.live ≡ true
    → MendsAll t s first → CopiesInto layout s first second later r
    → PrintsCopy layout r written wrote status → CopiesFile layout t (around (Some t) second written) (around first later wrote) status
file_copied layout t s r first second later written wrote status whole state usable live mends copies prints = record {
  state = s;
  opened = mends;
  result = r;
  copies = copies;
  prints = prints;
  spares = λ o is. copy_spares layout s first o later r (rw is at copies.writes);
  holds = λ m o n done one two three empty view found. let copied : CopiesInto layout s (Some m) (Some o) (Some n) (Ok tt) =
      subst (CopiesInto layout s (Some m) (Some o) (Some n)) done (rw three at (rw two at (rw one at copies))) in
      all_holds layout t m whole s state usable live (subst (MendsAll t s) one mends) view found o n empty copied;
  stops = λ m o one two empty view found.
      each_stops layout t m whole s state usable live (subst (MendsAll t s) one mends) view found o later empty r
      (rw two at (rw one at copies));
}
