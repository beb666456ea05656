-- What an upgrade does after its survey keeps the bare view in a log that is restarted, whatever the copies showed, and leaves a file of
-- version 2.
use Rattle.std.{proofs.Common.{◌≡◌, ◌⊎◌, inl, inr, ℕ, ◌||◌, false, List, [], ◌∷◌, length, slice_index, Option, Some, None, ◌∙◌, ap, subst, arith, refl, sym}, specs.Prelude.{Ok}}
use Rattle.df_base.specs.Log as Log
use Rattle.{df_base.specs.{Image.{Image, IsImage}, Moments.{EachMoment, adds}}, df_trailer.specs.Text.{parse_of}}
use Rattle.df_disk.{specs.{Adds.{after_all}, Told.{Told}}, proofs.Laws.{after_append}}
use Rattle.df_format.specs.{Copies.{content_with}, SuperRules.{IsUsable}}
use Rattle.df_theory.{specs.{Chance.{EachLeft}, Device.{AreSteps, NoChanceOf, units_log}, Found.{AreOfPlaces, IsClean, IsFound}, Holds.{Holds, IsWhole}, Next.{IsSameBare, MayBoot, booted}, Runs.{AtEach, Puts, Step, Syncs, after_steps}, Shape.{Shape}, Shows.{AgreesCopy}, Units.{AnyUnit, BlockPlace, Content, CopyPlace, CopyUnit, Place, PreparePlace, ReplyPlace, is_some, or_else}, UnitLog.{UnitLog, now}, Upgrades.{BeginsRaised, EndsRaised, HasBare, IsRaised, MayRaise, as_version, of_version}, View.{View, boot_of}}, proofs.Laws.{firm_units, moments, now_units, one_chosen_law, raise_anew_law, raise_ends_law, upgrade_law}}
use Rattle.df_theory.specs.Units
use Rattle.df_theory.specs.UnitLog as units
use Rattle.df_theory.specs.Upgrades as upgrades
use Rattle.df_units.{specs.{Bytes.{unit_at}, Meaning.{content_of, layout_of, number_of, offset_list}, Puts.{put_copies}}, proofs.Laws.{all_added, call_ends, is_format, no_rest, of_places}}
use Rattle.df_superblock.{specs.{Copies.{AreEqual}, Events.{update_events}, Steps.{repaired}}, proofs.Laws.{ends_equal}}
use Rattle.df_model.{specs.Result.{AgreeReads}, proofs.Laws.{boot_may_law}}
use Rattle.df_damage.{specs.{Anew.{IsStill, restarted, told_after}, Below.{DataFile, Represents, shape, spelling}, Plan.{AreDistinctUnits, headers_in}}, proofs.Laws.{added_is_told}}
use Rattle.df_opening.{specs.{Keeping.{format}, Mending.{first_state, sector_puts, sectors_of}, Raising.{IsPlannedOf}, Survey.{Survey}}, proofs.Laws.{IsPlannedIn, clean_beyond, codec_of, content_is, planned_in, put_nothing, raising_aside, unit_after}}
use Rattle.df_upgrade.{specs.{Base.{base_fields}, Upgrading.{EndsUpgraded, IsLeftByUpgrade, UpgradeStaysBare, UpgradesAnew, restoring_events, second, upgraded, upgrading_events, upgrading_steps}}, proofs.Records.{base_content}}

-- ---- what steps leave alone

module _ (place : Place) (shown : Option AnyUnit) where
  -- nothing is loose there, and this is shown
  abbrev IsFirm : UnitLog → Type 0
  IsFirm log = (units.loose log place ≡ false) × (now log place ≡ shown)

  stays_firm : (ss : List Step) (log : UnitLog) → unit_after ss place None ≡ None → IsFirm log → AtEach IsFirm log ss
  stays_firm [] log none firm = firm
  stays_firm ((Puts put) ∷ ss) log none firm = let parts = put_nothing put ss place none in
      (firm, stays_firm ss (units.wrote put log) parts.1 (ap (λ (o : Option AnyUnit). is_some o || units.loose log place) parts.0 ∙ firm.0, ap (λ (o : Option AnyUnit). or_else o (now log place)) parts.0 ∙ firm.1))
  stays_firm (Syncs ∷ ss) log none firm = (firm, stays_firm ss (units.add units.Synced log) none (refl, firm.1))

-- an image that holds a view is a clean start
clean_of : (sh : Shape) (image : Units.Units) (v : View) → Holds sh image v → IsClean image v
clean_of sh image v holds n c there = let agrees = holds.bears.agrees (CopyPlace n) (CopyUnit c) there in
    let same : c ≡ agrees.0 = (let both : CopyUnit c ≡ CopyUnit agrees.0 = agrees.1 in cc) in subst (AgreesCopy v n) (sym same) agrees.2

module _ (view : View) (s : Survey)
    (base : Told) (four : length s.chosen.members ≡ 4) (one : s.state.file.version ≡ 1) (usable : IsUsable (base_fields s.state))
    (plan : IsPlannedOf s (restarted base)) (whole : IsImage base.shown)
    (found : IsFound (shape s.state.file) (unit_at s.state.file.layout s.state.file.cluster base.shown) view)
    (distinct : AreDistinctUnits (unit_at s.state.file.layout s.state.file.cluster base.shown)) (stands : Represents s.state (first_state
    s.state.file base view)) (steps : AreSteps (format s.state.file) (upgrading_events s) (upgrading_steps s)) where
  abbrev file : DataFile
  file = s.state.file

  abbrev c : Content
  c = view.checkpoint.content

  abbrev d : Content
  d = content_of (content_with (base_fields s.state))

  abbrev headers : List Units.Units
  headers = sector_puts s.state.headers (sectors_of file.layout s.mends)

  abbrev sh : Shape
  sh = shape file

  abbrev later : Shape
  later = shape (second file)

  abbrev copies : List (ℕ × Units.Units)
  copies = repaired s.state.fields 0 s.chosen.members

  abbrev image : Units.Units
  image = unit_at file.layout file.cluster base.shown

  own_content : c ≡ content_of (content_with s.state.fields)
  own_content = content_is file view s.state.headers s.mends s.state.fields s.chosen.members (restarted base) four plan whole found distinct

  first : c.version ≡ 1
  first = found.checkpoint.tests.version ∙ one

  unbooted : boot_of view ≡ 0
  unbooted = (found.checkpoint.tests.of.one first).0

  places : AreOfPlaces sh image
  places = of_places file.layout file.cluster file.named (parse_of (layout_of file.layout)) base.shown whole

  planned : IsPlannedIn sh image view (headers_in s.state.headers) headers copies
  planned = planned_in file view s.state.headers s.mends s.state.fields s.chosen.members (restarted base) four plan whole found distinct

  -- ---- the content

  -- version 1 leaves nothing there, and version 2 does
  same_rest : d.rest ≡ c.rest
  same_rest = let nothing : d.rest ≡ [] = ap offset_list usable.rules.zero in nothing ∙ sym (ap (λ (x : Content). x.rest) own_content
      ∙ no_rest s.state.fields (λ i. ap (λ (x : Content). slice_index x.rest i) (sym own_content) ∙ found.checkpoint.tests.rest i))

  may_boot : MayBoot (as_version 2 view) d
  may_boot = subst (MayBoot (as_version 2 view))
      (sym ((λ i. record d { rest = same_rest i }) ∙ base_content s.state sh (spelling file) image view unbooted stands))
      (boot_may_law sh (spelling file) image view (number_of (content_with (base_fields s.state)).checksum)
      (codec_of file) (omega (arith, file.layout.clients_within.1)) places found (omega (arith, unbooted)))

  may : MayRaise sh 2 image view (headers_in s.state.headers) headers copies d
  may = record { places = places; found = found; tells = planned.tells; puts_headers = planned.puts_headers; agreed = planned.agreed; puts_copies = planned.puts_copies; each_slot = planned.each_slot; each_copy = planned.each_copy; boot = may_boot }

  -- ---- the law

  abbrev ss : List Step
  ss = upgrading_steps s

  law : AtEach (λ log. EachLeft log (λ left. HasBare sh 2 left view d)) (upgrades.restarted_at image) ss
      × IsSameBare (as_version 2 view) (booted view d)
      × EndsRaised (of_version 2 sh) (after_steps ss (upgrades.restarted_at image)) (booted view d)
      × (c.version ≡ 1) × (d.version ≡ 2) × (d.boot ≡ 1)
  law = upgrade_law sh image view (headers_in s.state.headers) headers copies d (put_copies (base_fields s.state)) one may

  -- ---- its moments

  abbrev end : Told
  end = told_after (upgrading_events s) (restarted base)

  added : end.log ≡ adds (upgrading_events s) (restarted base).log
  added = all_added (upgrading_events s) (restarted base) end (sym (added_is_told (upgrading_events s) (restarted base)))

  -- what each image left has by the steps, it has by the device calls
  module _ (P : UnitLog → Type 0) (Q : Log.Log → Type 0)
      (implies : (l : Log.Log) → Log.IsLog l → P (units_log (format file) l) → Q l) (each : AtEach P (upgrades.restarted_at image) ss) where
    at_moments : EachMoment (restarted base).log end.log Q
    at_moments = subst (λ (l : Log.Log). EachMoment (restarted base).log l Q) (sym added)
        (moments (format file) P Q implies (upgrading_events s) ss (restarted base).log (record { start = whole; events = tt }) steps each)

  left_by : (l : Log.Log) (m : Image) → Log.IsLeft l m → units.IsLeftBy (units_log (format file) l) (unit_at file.layout file.cluster m)
  left_by l m gone = firm_units (format file) (is_format file.layout file.cluster) l m gone.kept

  -- of the images left
  abbrev OfLeft : (Units.Units → Type 0) → Log.Log → Type 0
  OfLeft R l = (m : Image) → Log.IsLeft l m → NoChanceOf (format file) l m → R (unit_at file.layout file.cluster m)

  have_bare : EachMoment (restarted base).log end.log (OfLeft (λ left. HasBare sh 2 left view d))
  have_bare = at_moments (λ log. EachLeft log (λ left. HasBare sh 2 left view d)) (OfLeft (λ left. HasBare sh 2 left view d))
      (λ l is each m gone chance. each (unit_at file.layout file.cluster m) (left_by l m gone) chance) law.0

  hold : IsClean image view
      → EachMoment (restarted base).log end.log (OfLeft (λ left. Holds sh left view ⊎ IsRaised (of_version 2 sh) left (booted view d)))
  hold clean = at_moments (λ log. EachLeft log (λ left. Holds sh left view ⊎ IsRaised (of_version 2 sh) left (booted view d)))
      (OfLeft (λ left. Holds sh left view ⊎ IsRaised (of_version 2 sh) left (booted view d)))
      (λ l is each m gone chance. each (unit_at file.layout file.cluster m) (left_by l m gone) chance)
      (raise_anew_law sh 2 image view (headers_in s.state.headers) headers copies d (put_copies (base_fields s.state)) may clean)

  same_at : (place : Place) → unit_after ss place None ≡ None
      → EachMoment (restarted base).log end.log (λ l. (m : Image) → Log.IsLeft l m → unit_at file.layout file.cluster m place ≡ image place)
  same_at place aside = at_moments (IsFirm place (image place)) (λ l. (m : Image) → Log.IsLeft l m
      → unit_at file.layout file.cluster m place ≡ image place) (λ l is firm m gone. left_by l m gone place firm.0 ∙ firm.1)
      (stays_firm place (image place) ss (upgrades.restarted_at image) aside (refl, refl))

  same_reads : EachMoment (restarted base).log end.log (λ l. (m : Image)
      → Log.IsLeft l m → AgreeReads (unit_at file.layout file.cluster m) image)
  same_reads l moment m gone = record {
    prepare = λ k. same_at (PreparePlace k) (raising_aside (PreparePlace k) file.layout
        s.state.headers s.mends s.state.fields s.chosen.members (base_fields s.state) (λ n. refl) (λ n g. refl) None) l moment m gone;
    reply = λ k. same_at (ReplyPlace k) (raising_aside (ReplyPlace k) file.layout
        s.state.headers s.mends s.state.fields s.chosen.members (base_fields s.state) (λ n. refl) (λ n g. refl) None) l moment m gone;
    block = λ a. same_at (BlockPlace a) (raising_aside (BlockPlace a) file.layout
        s.state.headers s.mends s.state.fields s.chosen.members (base_fields s.state) (λ n. refl) (λ n g. refl) None) l moment m gone;
  }

  -- the two superblocks aren't one
  not_both : (u : Units.Units) → IsFound sh u view → Holds (of_version 2 sh) u (booted view d) → ⊥
  not_both u old new = let same : c ≡ d = one_chosen_law u c d old.chosen new.chosen in
      omega (arith, ap (λ (x : Content). x.version) same, law.3, law.4)

  nor_both : (u : Units.Units) → Holds sh u view → IsFound later u (booted view d) → ⊥
  nor_both u old new = let same : c ≡ d = one_chosen_law u c d old.chosen new.chosen in
      omega (arith, ap (λ (x : Content). x.version) same, law.3, law.4)

  moments_bare : EachMoment (restarted base).log end.log (UpgradeStaysBare file view (base_fields s.state))
  moments_bare l moment = record {
    left = subst (λ (start : Image). (m : Image) → Log.IsLeft l m → NoChanceOf (format file) l m → IsLeftByUpgrade file view view start m
        ⊎ IsLeftByUpgrade (second file) view (upgraded view (base_fields s.state)) start m) (sym moment.since.2)
        (λ m gone chance. elim (have_bare l moment m gone chance) [
          | inl old ↦ inl (record {
            found = old;
            reads = same_reads l moment m gone;
            clean = λ clean. elim (hold clean l moment m gone chance) [ inl holds ↦ clean_of sh (unit_at file.layout file.cluster m) view holds | inr raised ↦ absurd (not_both (unit_at file.layout file.cluster m) old raised.holds) ];
          })
          | inr new ↦ inr (record {
            found = new;
            reads = same_reads l moment m gone;
            clean = λ clean. elim (hold clean l moment m gone chance) [ inl holds ↦ absurd (nor_both (unit_at file.layout file.cluster m) holds new) | inr raised ↦ clean_of later (unit_at file.layout file.cluster m) (booted view d) raised.holds ];
          })
        ]);
  }

  -- ---- its end

  abbrev mid : Told
  mid = told_after (restoring_events s) (restarted base)

  update : Some end ≡ after_all (update_events (base_fields s.state)) (Some mid)
  update = sym (added_is_told (upgrading_events s) (restarted base))
      ∙ after_append (restoring_events s) (update_events (base_fields s.state)) (Some (restarted base))
      ∙ ap (after_all (update_events (base_fields s.state))) (added_is_told (restoring_events s) (restarted base))

  still : IsStill end.log
  still = subst IsStill (sym (all_added (update_events (base_fields s.state)) mid end update)) (λ sector. refl)

  equal : AreEqual (Log.now end.log) (content_with (base_fields s.state))
  equal = ends_equal {T = Unit {0}} {E = Unit {0}} (base_fields s.state) (Some mid) (Some end) (Ok tt) usable update

  -- what is there is what the steps leave
  image_is : unit_at file.layout file.cluster (Log.now end.log) ≡ now (after_steps ss (upgrades.restarted_at image))
  image_is = sym (now_units (format file) end.log.start end.log.events)
      ∙ ap (λ (l : UnitLog). now l) (call_ends (format file) (upgrading_events s)
      ss (restarted base) end (record { start = whole; events = tt }) steps (sym (added_is_told (upgrading_events s) (restarted base))))

  begins : BeginsRaised (of_version 2 sh) (now (after_steps ss (upgrades.restarted_at image))) (booted view d)
  begins = (raise_ends_law sh 2 image view (headers_in s.state.headers) headers copies d (put_copies (base_fields s.state)) may).1
      (clean_beyond file base.shown view)

  ends : EndsUpgraded file view (base_fields s.state) end.log
  ends = record {
    still = still;
    equal = equal;
    version = refl;
    boot = refl;
    whole = subst (λ (u : Units.Units). IsWhole later u (booted view d)) (sym image_is) law.2.whole;
    found = subst (λ (u : Units.Units). IsFound later u (booted view d)) (sym image_is) law.2.found;
    clean = subst (λ (u : Units.Units). IsClean u (booted view d))
        (sym image_is) (clean_of later (now (after_steps ss (upgrades.restarted_at image))) (booted view d) begins.raised.holds);
  }

  pub upgrades_anew : UpgradesAnew view s.state (upgrading_events s) (restarted base)
  upgrades_anew = record { moments = moments_bare; bare = law.1; ends = ends }
