-- What an open does after its survey keeps the bare view in a log that is restarted, whatever the copies showed.
use Rattle.std.proofs.{Common.{◌≡◌, ◌⊎◌, inl, inr, ℕ, ◌<◌, ◌≤◌, ◌^◌, List, [], ◌∷◌, length, Option, Some, None, ◌∙◌, ap, subst, arith, refl, sym}, lemmas.Bool.{and_parts, cases_lt, ltb-true}, lemmas.Option.{slice_get_within}}
use Rattle.df_base.specs.Log as Log
use Rattle.df_base.{specs.{Image.{Image, IsImage, blank}, Moments.{EachMoment, Extends, adds}}, proofs.Laws.{adds_extends, extends_self, now_is_image}}
use Rattle.{df_disk.specs.Told.{Told}, df_format.specs.{Copies.{content_with}, declared.header.Header.{Header}}}
use Rattle.df_theory.specs.Units
use Rattle.df_theory.{specs.{Units.{AnyUnit, BlockPlace, Content, CopyPlace, CopyUnit, HeaderPlace, HeaderUnit, Place, or_else}, CopyPuts.{PutsCopies, update_steps}, Device.{AreSteps, NoChanceOf, units_log}, Found.{AreOfPlaces, IsFound}, Holds.{Stands}, Next.{IsSameBare, booted}, Chance.{EachLeft}, MendLaws.{mend_steps}, Runs.{AtEach, Puts, Step, Syncs, after_steps}, Shape.{Shape}, Upgrades.{BeginsRaised, EndsRaised, IsCleanBeyond, MayRaise, of_version, raise_steps}, UnitLog.{UnitLog, now}, View.{View}, WholeLaws.{AllSpare, IsStanding}}, proofs.Laws.{after_append, firm_units, moments, now_units, open_law, raise_ends_law, stands_law}}
use Rattle.df_theory.specs.Upgrades as UnitsUpgrades
use Rattle.{df_history.specs.{Lives.{Starts}, OpenLaws.{BeginsHistory}}, df_trailer.specs.Text.{parse_of}}
use Rattle.df_units.{specs.{Bytes.{unit_at}, Meaning.{content_of, layout_of}, Puts.{put_copies}}, proofs.Laws.{all_added, blank_empty, call_ends, is_format, of_places}}
use Rattle.{df_superblock.specs.Steps.{repaired}, df_journal.specs.Append.{ShowsRing}}
use Rattle.df_model.{specs.{Boots.{Raises}, Making.{boot_content}, Memory.{Memory, memory_of}, Sense.{IsBacked, IsVersionTwo, IsWork}, Laws.{IsKeptBy}, Work.{Work, raised}}, proofs.Laws.{found_law as sense_found, raised_kept_law, raised_law}}
use Rattle.df_damage.{specs.{Anew.{restarted, told_after}, Below.{DataFile, IsState, Represents, boot_fields, memory, shape, spelling}, Plan.{AreDistinctUnits, header_or_none, headers_in}}, proofs.Laws.{added_is_told, begun_is_honest, honest_stays}}
use Rattle.df_opening.{specs.{Keeping.{Firm, Grade, KeptFor, StandsFor, Whole, format}, Mending.{StaysFound, begun_state, first_state, raised_state, sector_puts, sectors_of}, Raising.{IsPlannedOf, RaisesAnew, opening_events, opening_steps, raised_content}, Survey.{Survey}}, proofs.{Mendable.{IsPlannedIn, content_is, planned_in}, MendSteps.{kept as kept_there, slot_ends}, Opens.{codec_of, opening_aside, second_found}, RaiseSteps.{raised_is, sum_of}, StepShows.{some_stays, unit_after}}}

-- there are four copies
beyond_four : (file : DataFile) (image : Image) (n : ℕ) → 4 ≤ n → unit_at file.layout file.cluster image (CopyPlace n) ≡ None
beyond_four file image n past =
    (is_format file.layout file.cluster).local image blank (CopyPlace n) (λ sector has. let inside : n < 4 = ltb-true n 4 (and_parts
    _ _ has).0 in absurd (omega (arith, inside, past))) ∙ blank_empty file.layout file.cluster (CopyPlace n)

-- so beside them none is later
pub clean_beyond : (file : DataFile) (image : Image) (view : View) → IsCleanBeyond (unit_at file.layout file.cluster image) view
clean_beyond file image view n c past is = let none : None ≡ Some (CopyUnit c) = sym (beyond_four file image n past) ∙ is in absurd (cc)

-- steps that put no unit at a place
no_put : (ss : List Step) (place : Place) (o : Option AnyUnit)
    → unit_after ss place (or_else o None) ≡ None → (o ≡ None) × (unit_after ss place None ≡ None)
no_put ss place None none = (refl, none)
no_put ss place (Some y) none = absurd (some_stays ss place y none)

-- spare what a view references, where they put no block
spared : (v : View) (ss : List Step) → ((a : ℕ) → unit_after ss (BlockPlace a) None ≡ None) → AllSpare v ss
spared v [] none = tt
spared v ((Puts put) ∷ ss) none = (λ a c is. (no_put ss (BlockPlace a) (put (BlockPlace a)) (none a)).0, spared v ss (λ a. (no_put ss (BlockPlace a) (put (BlockPlace a)) (none a)).1))
spared v (Syncs ∷ ss) none = spared v ss none

same_unit : (c d : Content) → Some (CopyUnit c) ≡ Some (CopyUnit d) → c ≡ d
same_unit c d is = cc

module _ (g : Grade) (view : View) (s : Survey) (base : Told) (four : length s.chosen.members ≡ 4)
    (version : s.state.file.version ≡ 2) (is : IsState s.state) (unspent : s.state.fields.boot < 2 ^ 62)
    (plan : IsPlannedOf s (restarted base)) (whole : IsImage base.shown)
    (found : IsFound (shape s.state.file) (unit_at s.state.file.layout s.state.file.cluster base.shown) view)
    (distinct : AreDistinctUnits (unit_at s.state.file.layout s.state.file.cluster base.shown))
    (referenced : StandsFor g (unit_at s.state.file.layout s.state.file.cluster base.shown) view)
    (stands : Represents s.state (first_state s.state.file base view))
    (steps : AreSteps (format s.state.file) (opening_events s) (opening_steps s)) where
  abbrev file : DataFile
  file = s.state.file

  abbrev sh : Shape
  sh = shape file

  abbrev w : Work
  w = first_state file base view

  abbrev image : Units.Units
  image = unit_at file.layout file.cluster base.shown

  abbrev headers : List Units.Units
  headers = sector_puts s.state.headers (sectors_of file.layout s.mends)

  abbrev copies : List (ℕ × Units.Units)
  copies = repaired s.state.fields 0 s.chosen.members

  abbrev d : Content
  d = boot_content (memory_of sh (spelling file) w) (sum_of s.state)

  content_is_d : raised_content s.state ≡ d
  content_is_d = raised_is s.state is.second.rules.version ∙ ap (λ (m : Memory). boot_content m (sum_of s.state)) stands

  own_content : view.checkpoint.content ≡ content_of (content_with s.state.fields)
  own_content = content_is file view s.state.headers s.mends s.state.fields s.chosen.members (restarted base) four plan whole found distinct

  places : AreOfPlaces sh image
  places = of_places file.layout file.cluster file.named (parse_of (layout_of file.layout)) base.shown whole

  two : IsVersionTwo sh view
  two = second_found file base.shown view whole version found

  sense : IsWork sh (spelling file) w
  sense = sense_found sh (spelling file) image view (codec_of file) two places found

  raises : Raises sh (spelling file) w d
  raises = raised_law sh (spelling file) w (sum_of s.state) sense (omega (arith, ap (λ (c : Content). c.boot) own_content, unspent))

  planned : IsPlannedIn sh image view (headers_in s.state.headers) headers copies
  planned = planned_in file view s.state.headers s.mends s.state.fields s.chosen.members (restarted base) four plan whole found distinct

  may : MayRaise sh view.checkpoint.content.version image view (headers_in s.state.headers) headers copies d
  may = record { places = places; found = found; tells = planned.tells; puts_headers = planned.puts_headers; agreed = planned.agreed; puts_copies = planned.puts_copies; each_slot = planned.each_slot; each_copy = planned.each_copy; boot = raises.may }

  there : (puts : PutsCopies d) × (opening_steps s ≡ raise_steps headers copies puts)
  there = subst (λ (c : Content).
      (puts : PutsCopies c) × (opening_steps s ≡ raise_steps headers copies puts)) content_is_d (put_copies (boot_fields s.state), refl)

  abbrev puts : PutsCopies d
  puts = there.0

  -- at each moment of the log of units
  each : AtEach (λ log. EachLeft log (λ left. IsFound sh left view ⊎ IsFound sh left (booted view d)))
      (UnitsUpgrades.restarted_at image) (raise_steps headers copies puts)
  each = (open_law sh image view (headers_in s.state.headers) headers copies d puts may).0

  abbrev end : Told
  end = told_after (opening_events s) (restarted base)

  added : end.log ≡ adds (opening_events s) (restarted base).log
  added = all_added (opening_events s) (restarted base) end (sym (added_is_told (opening_events s) (restarted base)))

  -- at a moment of the log of sectors each image left has the bare view
  abbrev Found : Log.Log → Type 0
  Found l = (m : Image) → Log.IsLeft l m → NoChanceOf (format file) l m → IsFound sh (unit_at file.layout file.cluster m) view
      ⊎ IsFound sh (unit_at file.layout file.cluster m) (booted view (raised_content s.state))

  -- and shows what it references
  abbrev Shown : Grade → Log.Log → Type 0
  Shown grade l = (m : Image) → Log.IsLeft l m → NoChanceOf (format file) l m → StandsFor grade (unit_at file.layout file.cluster m) view

  -- so it is, and each is a log of a disk
  moments_both : EachMoment (restarted base).log end.log (λ l. Log.IsLog l × Found l)
  moments_both = subst (λ (l : Log.Log). EachMoment (restarted base).log l (λ m. Log.IsLog m × Found m)) (sym added)
      (moments (format file) (λ log.
      EachLeft log (λ left. IsFound sh left view ⊎ IsFound sh left (booted view d))) (λ l. Log.IsLog l × Found l) (λ l is left. (
        is,
        λ m gone chance. subst (λ (c : Content). IsFound sh (unit_at file.layout file.cluster m) view
            ⊎ IsFound sh (unit_at file.layout file.cluster m) (booted view c)) (sym content_is_d)
            (left (unit_at file.layout file.cluster m) (firm_units (format file) (is_format file.layout file.cluster) l m gone.kept) chance),
      )) (opening_events s) (raise_steps headers copies puts)
      (restarted base).log (record { start = whole; events = tt }) (subst (AreSteps (format file) (opening_events s)) there.1 steps) each)

  shown_moments : (grade : Grade) → StandsFor grade image view → EachMoment (restarted base).log end.log (Shown grade)
  shown_moments Firm shown = λ l moment m gone chance. tt
  shown_moments Whole shown = subst (λ (l : Log.Log). EachMoment (restarted base).log l (Shown Whole)) (sym added)
      (moments (format file) (λ log. IsStanding log view × EachLeft log (λ left. Stands left view)) (Shown Whole)
      (λ l is standing m gone chance.
      standing.1 (unit_at file.layout file.cluster m) (firm_units (format file) (is_format file.layout file.cluster) l m gone.kept) chance)
      (opening_events s) (opening_steps s) (restarted base).log (record { start = whole; events = tt }) steps
      (stands_law (UnitsUpgrades.restarted_at image)
      view (opening_steps s) (record { shown = shown; firm = λ a c is. refl }) (spared view (opening_steps s) (opening_aside s))))

  pub anew_moments : EachMoment (restarted base).log end.log (StaysFound g file view (boot_fields s.state))
  anew_moments = λ l moment.
      record { left = λ m gone chance. ((moments_both l moment).1 m gone chance, shown_moments g referenced l moment m gone chance) }

  pub anew_bare : IsSameBare view (booted view (raised_content s.state))
  anew_bare = subst (λ (c : Content). IsSameBare view (booted view c)) (sym content_is_d) raises.bare

  -- ---- what is restarted after it

  end_is_log : Log.IsLog end.log
  end_is_log = (moments_both end.log (record { since = subst (λ (l : Log.Log). Extends l (restarted base).log) (sym added) (adds_extends (opening_events s) (restarted base).log); until = extends_self end.log })).0

  shown_is : end.shown ≡ Log.now end.log
  shown_is = λ i sector. (honest_stays (opening_events s) (restarted base) (begun_is_honest base)).shows sector i

  end_is_image : IsImage end.shown
  end_is_image = subst IsImage (sym shown_is) (now_is_image end.log.start end.log.events end_is_log.start end_is_log.events)

  -- what is shown there is what the steps leave
  image_is : unit_at file.layout file.cluster end.shown ≡ now (after_steps (opening_steps s) (UnitsUpgrades.restarted_at image))
  image_is = ap (unit_at file.layout file.cluster) shown_is ∙ sym (now_units (format file) end.log.start end.log.events)
      ∙ ap (λ (l : UnitLog). now l) (call_ends (format file) (opening_events s) (opening_steps s)
      (restarted base) end (record { start = whole; events = tt }) steps (sym (added_is_told (opening_events s) (restarted base))))

  image_raised : unit_at file.layout file.cluster end.shown
      ≡ now (after_steps (raise_steps headers copies puts) (UnitsUpgrades.restarted_at image))
  image_raised = image_is ∙ ap (λ (ss : List Step). now (after_steps ss (UnitsUpgrades.restarted_at image))) there.1

  anew_keeps : IsKeptBy sh (spelling file) (units_log (format file) (restarted end).log) (begun_state file base view (boot_fields s.state))
  anew_keeps =
      subst (λ (c : Content). IsKeptBy sh (spelling file) (units_log (format file) (restarted end).log) (raised w c)) (sym content_is_d)
      (subst (λ (u : Units.Units). IsKeptBy sh (spelling file) (UnitsUpgrades.restarted_at u) (raised w d)) (sym image_raised)
      (raised_kept_law sh (spelling file) image
      view (headers_in s.state.headers) headers copies (sum_of s.state) puts (codec_of file) two may (clean_beyond file base.shown view)).0)

  anew_backed : Stands image view → IsBacked (units_log (format file) (restarted end).log) (begun_state file base view (boot_fields s.state))
  anew_backed shown = subst (λ (c : Content). IsBacked (units_log (format file) (restarted end).log) (raised w c)) (sym content_is_d)
      (subst (λ (u : Units.Units). IsBacked (UnitsUpgrades.restarted_at u) (raised w d)) (sym image_raised)
      ((raised_kept_law sh (spelling file) image view (headers_in s.state.headers)
      headers copies (sum_of s.state) puts (codec_of file) two may (clean_beyond file base.shown view)).1 shown))

  kept_at : (grade : Grade) → StandsFor grade image view
      → KeptFor grade sh (spelling file) (units_log (format file) (restarted end).log) (begun_state file base view (boot_fields s.state))
  kept_at Firm shown = anew_keeps
  kept_at Whole shown = (anew_keeps, anew_backed shown)

  anew_stands : Represents (raised_state s.state) (begun_state file base view (boot_fields s.state))
  anew_stands =
      subst (λ (c : Content). record (memory s.state) { content = c } ≡ memory_of sh (spelling file) (raised w c)) (sym content_is_d)
      (ap (λ (m : Memory). record m { content = d }) stands ∙ sym raises.memory)

  -- the header ring is as the table has it
  anew_ring : ShowsRing file.layout file.cluster end.shown s.state.headers
  anew_ring k h at = let below : k < file.layout.slots = omega (arith, slice_get_within s.state.headers k h at, is.ring.count) in
      let shown = slot_ends (headers_in s.state.headers)
      headers s.state.fields s.chosen.members (UnitsUpgrades.restarted_at image) k planned.puts_headers (planned.each_slot k below) in
      let behind = kept_there (HeaderPlace k) (HeaderUnit (headers_in s.state.headers k)) (update_steps (put_copies (boot_fields s.state))) (after_steps (mend_steps headers copies) (UnitsUpgrades.restarted_at image)) (inl refl, (inl refl, (inl refl, (inl refl, tt)))) shown in
      ap (λ (u : Units.Units). u (HeaderPlace k)) image_is ∙ ap (λ (l : UnitLog). now l (HeaderPlace k)) (after_append
      (mend_steps headers copies) (update_steps (put_copies (boot_fields s.state))) (UnitsUpgrades.restarted_at image)) ∙ behind
      ∙ ap (λ (o : Option Header). Some (HeaderUnit (header_or_none o))) at

  -- ---- a history may begin there, too

  abbrev last : Units.Units
  last = unit_at file.layout file.cluster end.shown

  -- the version that is written is the one of before
  same_version : of_version view.checkpoint.content.version sh ≡ sh
  same_version = ap (λ (n : ℕ). of_version n sh) found.checkpoint.tests.version

  ends_raised : EndsRaised sh (after_steps (raise_steps headers copies puts) (UnitsUpgrades.restarted_at image)) (booted view d)
      × BeginsRaised sh last (booted view d)
  ends_raised =
      let all = raise_ends_law sh view.checkpoint.content.version image view (headers_in s.state.headers) headers copies d puts may in
      let begins = all.1 (clean_beyond file base.shown view) in (
        subst (λ (shape : Shape). EndsRaised
            shape (after_steps (raise_steps headers copies puts) (UnitsUpgrades.restarted_at image)) (booted view d)) same_version all.0,
        subst (λ (u : Units.Units). BeginsRaised sh u (booted view d)) (sym image_raised) (subst (λ (shape : Shape). BeginsRaised shape
            (now (after_steps (raise_steps headers copies puts) (UnitsUpgrades.restarted_at image))) (booted view d)) same_version begins),
      )

  -- there are four copies, and they are equal
  one_copy : (n : ℕ) (c : Content) → last (CopyPlace n) ≡ Some (CopyUnit c) → c ≡ d
  one_copy n c at = elim (cases_lt n 4) [
    | inl below ↦ let whole_there : last (CopyPlace n) ≡ Some (CopyUnit d) =
        ap (λ (u : Units.Units). u (CopyPlace n)) image_raised ∙ ends_raised.0.whole.copies n below in same_unit c d (sym at ∙ whole_there)
    | inr past ↦ absurd (let none : None ≡ Some (CopyUnit c) = sym (beyond_four file end.shown n past) ∙ at in cc)
  ]

  starts : Starts last [] (booted view d)
  starts = let raised_there = ends_raised.1.raised in record {
    prepares = λ k p at. elim at [ inl there ↦ raised_there.prepares k p there | inr none ↦ absurd none ];
    replies = λ k r at. elim at [ inl there ↦ raised_there.replies k r there | inr none ↦ absurd none ];
    copies = λ n c differs at. elim at [ inl there ↦ inl (one_copy n c there) | inr none ↦ absurd none ];
    counted = (omega (arith, raises.may.is.same.op.0, raises.may.is.head), sym raises.may.is.replies);
  }

  anew_history : BeginsHistory sh last
  anew_history = inr (booted view d, ends_raised.1.raised.holds, starts)

  pub raises_anew : RaisesAnew g view s (restarted base)
  raises_anew = record {
    moments = anew_moments;
    bare = anew_bare;
    kept_for = record { log_is = record { start = end_is_image; events = tt }; stands = anew_stands; kept_by = kept_at g referenced; ring = anew_ring };
    begins = anew_history;
  }
