-- What an open does after its survey leads, in one log, to a file that is kept by the state after the boot update.
use Rattle.std.proofs.{Common.{◌≡◌, inl, ℕ, ◌+◌, ◌<◌, ◌^◌, List, ◌∷◌, length, Option, Some, refl, sym, ◌∙◌, ap, subst, arith}, lemmas.Option.{slice_get_within}}
use Rattle.df_base.specs.Log as Log
use Rattle.{df_base.{specs.Moments.{EachMoment, Extends, adds}, proofs.Laws.{adds_extends, extends_self}}, df_disk.specs.Told.{Told}}
use Rattle.{df_format.specs.{declared.header.Header.{Header}, Copies.{content_with}}, df_headers.specs.Ring.{IsHeaderTable}}
use Rattle.{df_journal.specs.Append.{ShowsRing}, df_trailer.specs.Text.{parse_of}}
use Rattle.df_theory.specs.Units
use Rattle.df_theory.{specs.{Units.{Content, HeaderPlace, HeaderUnit}, CopyPuts.{PutsCopies, update_steps}, Device.{AreSteps, IsGoodDisk, IsGoodWholeDisk, units_log}, Next.{IsSameBare, booted}, MendLaws.{mend_steps}, Runs.{Step, after_steps}, Upgrades.{raise_steps}, UnitLog.{UnitLog, now}, View.{View, boot_of}, WholeLaws.{IsStanding}}, proofs.Laws.{after_append, moments, now_units, steps_join_law}}
use Rattle.df_units.{specs.{Bytes.{unit_at}, Meaning.{content_of, layout_of, number_of}, Puts.{put_copies}}, proofs.Laws.{all_added, call_ends, is_format, of_places}}
use Rattle.df_superblock.specs.{Events.{update_events}, Steps.{AreStepsOfCopies, repaired}}
use Rattle.df_model.{specs.{Boots.{DoesOpenOnDisk, MayOpenFor, Raises}, Making.{boot_content}, Memory.{Memory, memory_of}, OnDisk.{BacksOnDisk, LeadsOnDisk}, Sense.{IsBacked, IsWork}, Work.{Work, raised}}, proofs.Laws.{disk_open_law, found_law as sense_found, raised_law}}
use Rattle.df_history.{specs.{Awakened.{IsAwakened}, Histories.{IsLivedMoment}}, proofs.Laws.{raise_lived_law}}
use Rattle.df_damage.{specs.{Anew.{told_after}, Histories.{HasLived, IsLivedDisk, LivesOn, unit_log_in, units_logs}, Below.{DataFile, IsState, Represents, State, boot_fields, memory, shape, spelling}, Plan.{header_or_none, headers_in}}, proofs.Laws.{added_is_told, moment_on_disk, recorded_content}}
use Rattle.df_opening.{specs.{Keeping.{Firm, Grade, IsGoodFor, KeptFor, StandingFor, Whole, format}, Mending.{RestsOnDisk, begun_state, first_state, mending_events, mending_steps, raised_state, sector_puts, sectors_of}, Raising.{IsPlannedOf, RaisesOver, opening_events, opening_steps, raised_content}, Survey.{Survey}}, proofs.{Mendable.{content_is, planned_may_mend, rest_distinct, rest_found, rest_whole}, MendSteps.{kept as kept_there, slot_ends}, KeptFiles.{firm_of, good_safe}, Opens.{codec_of, second_found}}}

-- ---- the calls are steps

pub opening_is_steps : (s : Survey) → AreSteps (format s.state.file) (mending_events s.state.file.layout s.state.headers
    s.mends s.state.fields s.chosen.members) (mending_steps s.state.file.layout s.state.headers s.mends s.state.fields s.chosen.members)
    → AreStepsOfCopies (update_events (boot_fields s.state)) (update_steps (put_copies (boot_fields s.state)))
    → AreSteps (format s.state.file) (opening_events s) (opening_steps s)
opening_is_steps s mending update =
    steps_join_law (format s.state.file) (mending_events s.state.file.layout s.state.headers s.mends s.state.fields s.chosen.members) (update_events (boot_fields s.state)) (mending_steps s.state.file.layout s.state.headers s.mends s.state.fields s.chosen.members) (update_steps (put_copies (boot_fields s.state))) mending (update s.state.file.layout s.state.file.cluster)

-- ---- the superblock

abbrev pub sum_of : State → ℕ
sum_of s = number_of (content_with (boot_fields s)).checksum

-- what is written is what the machine records
pub raised_is : (s : State) → s.fields.version ≡ 2 → raised_content s ≡ boot_content (memory s) (sum_of s)
raised_is s second = recorded_content s (record s.fields { boot = s.fields.boot + 1 }) second

-- ---- in one log

module _ (g : Grade) (view : View)
    (s : Survey) (base : Told) (four : length s.chosen.members ≡ 4) (is : IsState s.state) (unspent : s.state.fields.boot < 2 ^ 62)
    (plan : IsPlannedOf s base) (on : RestsOnDisk g s.state.file view base) (stands : Represents s.state (first_state
    s.state.file base view)) (steps : AreSteps (format s.state.file) (opening_events s) (opening_steps s)) where
  abbrev file : DataFile
  file = s.state.file

  abbrev w : Work
  w = first_state file base view

  abbrev log : UnitLog
  log = units_log (format file) base.log

  abbrev headers : List Units.Units
  headers = sector_puts s.state.headers (sectors_of file.layout s.mends)

  abbrev copies : List (ℕ × Units.Units)
  copies = repaired s.state.fields 0 s.chosen.members

  abbrev end : Told
  end = told_after (opening_events s) base

  -- the superblock that the machine writes
  abbrev d : Content
  d = boot_content (memory_of (shape file) (spelling file) w) (sum_of s.state)

  content_is_d : raised_content s.state ≡ d
  content_is_d = raised_is s.state is.second.rules.version ∙ ap (λ (m : Memory). boot_content m (sum_of s.state)) stands

  own_content : view.checkpoint.content ≡ content_of (content_with s.state.fields)
  own_content = content_is file view s.state.headers s.mends s.state.fields
      s.chosen.members base four plan (rest_whole g file view base on) (rest_found g file view base on) (rest_distinct g file view base on)

  sense : IsWork (shape file) (spelling file) w
  sense = sense_found (shape file) (spelling file) (unit_at file.layout file.cluster base.shown)
      view (codec_of file) (second_found file base.shown view (rest_whole g file view base on) on.version (rest_found g file view base on))
      (of_places file.layout file.cluster file.named (parse_of (layout_of file.layout)) base.shown (rest_whole g file view base on))
      (rest_found g file view base on)

  left : boot_of view < 2 ^ 62
  left = omega (arith, ap (λ (c : Content). c.boot) own_content, unspent)

  raises : Raises (shape file) (spelling file) w d
  raises = raised_law (shape file) (spelling file) w (sum_of s.state) sense left

  opens : MayOpenFor (shape file) (spelling file) log w (headers_in s.state.headers) headers copies
  opens = record {
    sense = sense;
    may = planned_may_mend g file view s.state.headers s.mends s.state.fields s.chosen.members base four plan on;
    dry = on.dry;
    written = λ r at. absurd (cc);
  }

  there : (puts : PutsCopies d) × (opening_steps s ≡ raise_steps headers copies puts)
  there = subst (λ (c : Content).
      (puts : PutsCopies c) × (opening_steps s ≡ raise_steps headers copies puts)) content_is_d (put_copies (boot_fields s.state), refl)

  does : DoesOpenOnDisk (format file) d headers copies (opening_events s)
  does = record { steps = opening_steps s; are = steps; does = record { puts = there.0; are = there.1 } }

  law : LeadsOnDisk (format file) (shape file) (spelling file) base.log w (raised w d) (opening_events s)
      × (IsBacked log w → BacksOnDisk (format file) (shape file) base.log w (raised w d) (opening_events s))
  law = disk_open_law (format file) (shape file) (spelling file) base.log w (headers_in s.state.headers)
      headers copies (sum_of s.state) (opening_events s) (is_format file.layout file.cluster) on.is_log opens left does

  added : end.log ≡ adds (opening_events s) base.log
  added = all_added (opening_events s) base end (sym (added_is_told (opening_events s) base))

  backed : IsStanding log view → IsBacked log w
  backed standing = record { standing = standing; live = standing.shown; captured = λ r at. absurd (cc) }

  moments_of : (h : Grade) → StandingFor h log view
      → EachMoment base.log end.log (IsGoodFor h (format file) (shape file) view (booted view (raised_content s.state)))
  moments_of Firm standing =
      subst (λ (c : Content). EachMoment base.log end.log (IsGoodDisk (format file) (shape file) view (booted view c))) (sym content_is_d)
      (subst (λ (l : Log.Log). EachMoment base.log l (IsGoodDisk (format file) (shape file) view (booted view d))) (sym added) law.0.moments)
  moments_of Whole standing =
      subst (λ (c : Content). EachMoment base.log end.log (IsGoodWholeDisk (format file) (shape file) view (booted view c))) (sym content_is_d)
      (subst (λ (l : Log.Log). EachMoment base.log l (IsGoodWholeDisk (format file) (shape file) view (booted view d)))
      (sym added) (law.1 (backed standing)).moments)

  pub opening_moments : EachMoment base.log end.log (IsGoodFor g (format file) (shape file) view (booted view (raised_content s.state)))
  opening_moments = moments_of g on.standing

  kept_of : (h : Grade) → StandingFor h log view
      → KeptFor h (shape file) (spelling file) (units_log (format file) (adds (opening_events s) base.log)) (raised w d)
  kept_of Firm standing = law.0.keeps
  kept_of Whole standing = (law.0.keeps, (law.1 (backed standing)).backed)

  pub opening_keeps : KeptFor g (shape file) (spelling file) (units_log (format file) end.log) (begun_state file base view (boot_fields s.state))
  opening_keeps =
      subst (λ (c : Content). KeptFor g (shape file) (spelling file) (units_log (format file) end.log) (raised w c)) (sym content_is_d)
      (subst (λ (l : Log.Log).
      KeptFor g (shape file) (spelling file) (units_log (format file) l) (raised w d)) (sym added) (kept_of g on.standing))

  -- the state after it stands for the machine's
  pub opening_stands : Represents (raised_state s.state) (begun_state file base view (boot_fields s.state))
  opening_stands =
      subst (λ (c : Content). record (memory s.state) { content = c } ≡ memory_of (shape file) (spelling file) (raised w c)) (sym content_is_d)
      (ap (λ (m : Memory). record m { content = d }) stands ∙ sym raises.memory)

  -- the header ring is as the table has it
  ends : units_log (format file) end.log
      ≡ after_steps (update_steps (put_copies (boot_fields s.state))) (after_steps (mend_steps headers copies) log)
  ends = call_ends (format file) (opening_events s) (opening_steps s) base end on.is_log steps (sym (added_is_told (opening_events s) base))
      ∙ after_append (mend_steps headers copies) (update_steps (put_copies (boot_fields s.state))) log

  opening_ring : IsHeaderTable file.layout file.cluster s.state.headers → ShowsRing file.layout file.cluster (Log.now end.log) s.state.headers
  opening_ring table k h at = let below : k < file.layout.slots = omega (arith, slice_get_within s.state.headers k h at, table.count) in
      let shown = slot_ends
      (headers_in s.state.headers) headers s.state.fields s.chosen.members log k opens.may.puts_headers (opens.may.each_slot k below) in
      let behind = kept_there (HeaderPlace k) (HeaderUnit (headers_in s.state.headers k)) (update_steps (put_copies (boot_fields s.state)))
      (after_steps (mend_steps headers copies) log) (inl refl, (inl refl, (inl refl, (inl refl, tt)))) shown in
      ap (λ (u : Units.Units). u (HeaderPlace k)) (sym (now_units (format file) end.log.start end.log.events))
      ∙ ap (λ (l : UnitLog). now l (HeaderPlace k)) ends ∙ behind ∙ ap (λ (o : Option Header). Some (HeaderUnit (header_or_none o))) at

  standing_of : (h : Grade) → KeptFor h (shape file) (spelling file) (units_log (format file) end.log) (begun_state
      file base view (boot_fields s.state)) → StandingFor h (units_log (format file) end.log) (booted view (raised_content s.state))
  standing_of Firm keeps = tt
  standing_of Whole keeps = keeps.1.standing

  -- the last moment is the log at the end
  end_is_log : Log.IsLog end.log
  end_is_log =
      (good_safe file g view (booted view (raised_content s.state)) end.log (opening_moments end.log (record { since = subst (λ (l : Log.Log). Extends l base.log) (sym added) (adds_extends (opening_events s) base.log); until = extends_self end.log }))).is_log

  -- ---- in a lived history

  lives_on : (before : Log.Log) (older : List Log.Log) → HasLived file (base.log ∷ before ∷ older) → LivesOn file before older base.log end.log
  lives_on before older lived = let law = raise_lived_law (shape file) log (unit_log_in file before)
      (units_logs file older) view (headers_in s.state.headers) headers copies d there.0 lived opens.may on.dry raises.may in
      let each = moments (format file) (IsLivedMoment (shape file) (units_logs file (before ∷ older)))
      (IsLivedDisk file (before ∷ older)) (λ l is moment. moment_on_disk file (before ∷ older) l moment) (opening_events s)
      (raise_steps headers copies there.0) base.log on.is_log (subst (AreSteps (format file) (opening_events s)) there.1 steps) law.0 in
      let ends : unit_log_in file end.log ≡ after_steps (raise_steps headers copies there.0) log =
      call_ends (format file) (opening_events s) (opening_steps s) base end on.is_log steps (sym (added_is_told (opening_events s) base))
      ∙ ap (λ (ss : List Step). after_steps ss log) there.1 in record {
        moments = subst (λ (l : Log.Log). EachMoment base.log l (IsLivedDisk file (before ∷ older))) (sym added) each;
        raised = subst (λ (l : UnitLog). IsAwakened (shape file) l (unit_log_in file before) (units_logs file older)) (sym ends) law.1;
      }

  pub raises_over : RaisesOver g view s base
  raises_over = let by = firm_of
      g (shape file) (spelling file) (units_log (format file) end.log) (begun_state file base view (boot_fields s.state)) opening_keeps in
      let ring = opening_ring is.ring in record {
        moments = opening_moments;
        bare = subst (λ (c : Content). IsSameBare view (booted view c)) (sym content_is_d) raises.bare;
        raised = record { tidy = by.tidy; standing = standing_of g opening_keeps; ring = ring };
        kept_for = record { log_is = end_is_log; stands = opening_stands; kept_by = opening_keeps; ring = ring };
        lived = lives_on;
      }
