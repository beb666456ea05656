-- Where the word `upgrade` ends, a file of version 2 may be taken; and where it is stopped, too, or the file of version 1 is there.
use Rattle.std.{proofs.Common.{◌≡◌, ◌⊎◌, inl, inr, ℕ, List, [], ◌∷◌, ◌++◌, Some, length-append, refl, sym, ◌∙◌, ap, subst, arith}, specs.Prelude.{length}}
use Rattle.df_base.{specs.{Image.{Image, IsImage}, Log.{Event, IsLeft, Log, Sync, now}, Moments.{EachMoment, Extends}}, proofs.Laws.{started, one_some}}
use Rattle.{df_disk.specs.{Told.{Told, did}, Adds.{after_all}}, df_layout.specs.declared.layout.Layout.{Layout}}
use Rattle.df_theory.specs.{Device.{NoChanceOf}, Found.{IsClean, IsFound}, Holds.{Stands}, Next.{IsSameBare}, Units.{BlockPlace, Units}, Upgrades.{as_version}, View.{View}}
use Rattle.{df_units.specs.Bytes.{unit_at}, df_model.specs.Result.{AgreeReads}}
use Rattle.df_session.{specs.{Below.{AreDistinctUnits, DataFile, State as Replica, restarted, shape, told_after}, Leaving.{SparesReads, image_after}, Serving.{format}}, proofs.Laws.{added_is_told, honest_stays, shown_after}}
use Rattle.df_upgrade.specs.{Base.{base_fields}, Below.{IsOpenedAs}, Upgraded.{UpgradesAll}, Upgrading.{IsLeftByUpgrade, UpgradeStaysBare, UpgradesAnew, second, upgraded}}
use Rattle.df_top.specs.{Upgrading.{ComesToUpgrade, UpgradesOwn}, declared.status.Status.{Status}, declared.status.Status.TheVariants.{Done}}
use Rattle.df_lifetime.{specs.{Life.{GoesAlong}, Life.Life.{Taken}, Upgraded.{DoneIsUpgraded, IsOld, IsUpgraded, StoppedIsUpgraded, UpgradedBegins}, Words.{UpgradeWord}}, proofs.{Along.{after_along, moment_along}, Reborn.{begins_history}, Files.{one_file}, Openings.{distinct_left}}}

-- ---- blocks

-- they are there where the same are shown
stands_on : (image start : Units) (v : View) → ((a : ℕ) → image (BlockPlace a) ≡ start (BlockPlace a)) → Stands start v → Stands image v
stands_on image start v same stands a c is = let there = stands a c is in (there.0, same a ∙ there.1, there.2, there.3)

-- ---- what an image is then

-- the old file is there, from which an upgrade may be stopped again, or the new one may be taken
abbrev IsEither : DataFile → View → Image → Type 0
IsEither file view image = (IsOld file view image × IsClean (unit_at file.layout file.cluster image) view) ⊎ IsUpgraded file view image

module _ (t : Told)
    (s : Replica) (view : View) (old : IsOld s.file view t.shown) (opened : IsOpenedAs 1 s.file.layout t.shown s) (es : List Event) where
  -- at its end
  module _ (n : Told) (is : told_after es (did Sync t) ≡ n) (anew : UpgradesAnew view s es (restarted t))
      (spares : (image : Image) → IsImage image → SparesReads s.file image (image_after es image)) where
    abbrev end : Told
    end = told_after es (restarted t)

    shown : image_after es t.shown ≡ n.shown
    shown = sym (shown_after es (did Sync t)) ∙ ap (λ (x : Told). x.shown) is

    shows_now : now end.log ≡ n.shown
    shows_now = (λ i sector. sym ((honest_stays es (restarted t) (record { shows = λ k. refl })).shows sector) i)
        ∙ shown_after es (restarted t) ∙ shown

    -- what is there at the end
    there : IsImage n.shown
    there = subst IsImage shown (spares t.shown old.whole).whole

    reads : AgreeReads (unit_at s.file.layout s.file.cluster n.shown) (unit_at s.file.layout s.file.cluster t.shown)
    reads = subst (λ (image : Image). AgreeReads
        (unit_at s.file.layout s.file.cluster image) (unit_at s.file.layout s.file.cluster t.shown)) shown (spares t.shown old.whole).units

    found : IsFound (shape (second s.file)) (unit_at s.file.layout s.file.cluster n.shown) (upgraded view (base_fields s))
    found = subst (λ (image : Image). IsFound
        (shape (second s.file)) (unit_at s.file.layout s.file.cluster image) (upgraded view (base_fields s))) shows_now anew.ends.found

    clean_there : IsClean (unit_at s.file.layout s.file.cluster n.shown) (upgraded view (base_fields s))
    clean_there = subst (λ (image : Image).
        IsClean (unit_at s.file.layout s.file.cluster image) (upgraded view (base_fields s))) shows_now anew.ends.clean

    pub ends_upgraded : AreDistinctUnits (unit_at s.file.layout s.file.cluster n.shown) → IsUpgraded s.file view n.shown
    ends_upgraded distinct = record {
      first = upgraded view (base_fields s);
      bare = anew.bare;
      may = record {
        version = refl;
        begins = record { whole = there; found = found; clean = clean_there; distinct = distinct };
        stands = stands_on
            (unit_at s.file.layout s.file.cluster n.shown) (unit_at s.file.layout s.file.cluster t.shown) view reads.block old.stands;
      };
      begins = begins_history t s view old opened n.shown there reads found clean_there;
    }

  -- after a stop
  module _ (clean : IsClean (unit_at s.file.layout s.file.cluster t.shown) view)
      (bare : IsSameBare (as_version 2 view) (upgraded view (base_fields s))) where
    stays_either : (log : Log) → log.start ≡ t.shown → UpgradeStaysBare s.file view (base_fields s) log
        → (image : Image) → IsLeft log image → NoChanceOf (format s.file) log image → IsEither s.file view image
    stays_either log starts stays image left chance = elim (stays.left image left chance) [
      | inl before ↦ let is : IsLeftByUpgrade s.file view view t.shown image = rw starts at before in inl (
        record {
          version = old.version;
          whole = left.whole;
          found = is.found;
          stands = stands_on
              (unit_at s.file.layout s.file.cluster image) (unit_at s.file.layout s.file.cluster t.shown) view is.reads.block old.stands;
          distinct = distinct_left s.file log image chance;
        },
        is.clean clean,
      )
      | inr after ↦ let is : IsLeftByUpgrade (second s.file) view (upgraded view (base_fields s)) t.shown image = rw starts at after in
          inr (record {
            first = upgraded view (base_fields s);
            bare = bare;
            may = record {
              version = refl;
              begins = record { whole = left.whole; found = is.found; clean = is.clean clean; distinct = distinct_left s.file log image chance };
              stands = stands_on (unit_at s.file.layout s.file.cluster image)
                  (unit_at s.file.layout s.file.cluster t.shown) view is.reads.block old.stands;
            };
            begins = begins_history t s view old opened image left.whole is.reads is.found (is.clean clean);
          })
    ]

-- ---- the word

-- with rooms of its own layout
own_rooms : (layout : Layout) (t : Told) (s : Replica) → IsOpenedAs 1 layout t.shown s → IsOpenedAs 1 s.file.layout t.shown s
own_rooms layout t s opened = subst (λ (l : Layout). IsOpenedAs 1 l t.shown s) (sym opened.of.layout_is) opened

-- what was opened is the file
opened_one : (file : DataFile) (view : View) (t : Told) (layout : Layout) (s : Replica)
    → IsOld file view t.shown → IsOpenedAs 1 layout t.shown s → s.file ≡ file
opened_one file view t layout s old opened = one_file 1 file layout t.shown view s old.found opened

at_file : (file : DataFile) (view : View) (t : Told) (s : Replica) → s.file ≡ file → IsOld file view t.shown → IsOld s.file view t.shown
at_file file view t s one old = subst (λ (f : DataFile). IsOld f view t.shown) (sym one) old

module _ (file : DataFile) (view : View) (t n : Told) (status : Status) (old : IsOld file view t.shown) (word : UpgradeWord t n status) where
  -- the disk told no more than that it was synced, and these events
  told_is : (es : List Event) → word.new.told ≡ after_all es (Some (did Sync t)) → told_after es (did Sync t) ≡ n
  told_is es told = one_some word.new.told (told_after es (did Sync t)) n (told ∙ added_is_told es (did Sync t)) word.to

  comes_done : (layout : Layout)
      → status ≡ Done → ComesToUpgrade layout t word.old word.new status → (sequence : ℕ) × UpgradesAll layout t sequence word.new.told
  comes_done layout done (inl refuses) = absurd
      (elim refuses.refusal.prints [ inl printed ↦ (let no = sym done ∙ printed.0 in cc) | inr part ↦ (let no = sym done ∙ part.0 in cc) ])
  comes_done layout done (inr (inl fails)) = absurd (let no = sym done ∙ fails.fault in cc)
  comes_done layout done (inr (inr upgrades)) = (upgrades.sequence, upgrades.upgraded)

  own_done : status ≡ Done
      → UpgradesOwn t word.old word.new status → (layout : Layout) × (sequence : ℕ) × UpgradesAll layout t sequence word.new.told
  own_done done own = let all = comes_done own.layout done own.comes in (own.layout, all.0, all.1)

  all_done : status ≡ Done → (layout : Layout) × (sequence : ℕ) × UpgradesAll layout t sequence word.new.told
  all_done done = elim (word.runs t word.from old.whole) [
    | inl nothing ↦
        absurd (elim nothing.why [ inl wanting ↦ (let no = sym done ∙ wanting in cc) | inr failed ↦ (let no = sym done ∙ failed in cc) ])
    | inr (inl refuses) ↦ absurd (elim
        refuses.refusal.prints [ inl printed ↦ (let no = sym done ∙ printed.0 in cc) | inr part ↦ (let no = sym done ∙ part.0 in cc) ])
    | inr (inr own) ↦ own_done done own
  ]

  pub done_upgraded : status ≡ Done → AreDistinctUnits (unit_at file.layout file.cluster n.shown) → IsUpgraded file view n.shown
  done_upgraded done distinct = let there = all_done done in let all = there.2 in let s : Replica = all.found in
      let one : s.file ≡ file = opened_one file view t there.0 s old (all.opened old.whole) in
      let own : IsOld s.file view t.shown = at_file file view t s one old in subst (λ (f : DataFile). IsUpgraded f view n.shown) one
      (ends_upgraded t s view own (own_rooms there.0 t s (all.opened old.whole))
      all.writes.events n (told_is all.writes.events all.writes.told) (all.anew view own.whole own.found own.distinct) all.writes.spares
      (rw (sym one) at distinct))

  -- ---- after a stop

  module _ (clean : IsClean (unit_at file.layout file.cluster t.shown) view)
      (p m : Told) (until : Extends n.log p.log) (along : GoesAlong (did Sync t) p (restarted t) m) where
    abbrev IsKeptBy : Log → Type 0
    IsKeptBy log = (image : Image) → IsLeft log image → NoChanceOf (format file) log image → IsEither file view image

    -- it was no moment after the barrier
    too_long : n ≡ t → ⊥
    too_long same = let events : t.log.events ≡ until.0 ++ (along.events ++ Sync ∷ t.log.events) =
        ap (λ (x : Told). x.log.events) (sym same) ∙ until.1 ∙ ap (λ (l : List Event). until.0 ++ l) along.disk in
        omega (arith, ap length events, length-append until.0 (along.events ++ Sync ∷ t.log.events), length-append along.events (Sync ∷ t.log.events))

    -- at each moment after it
    by_moments : (es : List Event)
        → told_after es (did Sync t) ≡ n → EachMoment (restarted t).log (told_after es (restarted t)).log IsKeptBy → IsKeptBy m.log
    by_moments es is each = let all : GoesAlong (did Sync t) n (restarted t) (told_after es (restarted t)) =
        rw is at (after_along es (did Sync t) (restarted t) refl) in
        each m.log (moment_along (did Sync t) p n (restarted t) m (told_after es (restarted t)) all along until)

    -- nothing was done after it
    by_barrier : did Sync t ≡ n → IsKeptBy m.log
    by_barrier is = by_moments [] is (started (restarted t).log IsKeptBy (λ image left chance.
        subst (IsEither file view) (λ i sector. sym (left.kept sector refl) i) (inl (old, clean))))

    by_upgrade : (layout : Layout) (s : Replica) (es : List Event) → IsOpenedAs 1 layout t.shown s → told_after es (did Sync t) ≡ n
        → (IsOld s.file view t.shown → EachMoment (restarted t).log (told_after es (restarted t)).log
        (UpgradeStaysBare s.file view (base_fields s)) × IsSameBare (as_version 2 view) (upgraded view (base_fields s))) → IsKeptBy m.log
    by_upgrade layout s es opened is anew = let one : s.file ≡ file = opened_one file view t layout s old opened in
        let own : IsOld s.file view t.shown = at_file file view t s one old in let both = anew own in
        by_moments es is (λ log moment image left chance. rw one at
        (stays_either t s view own (own_rooms layout t s opened) es (subst (λ (f : DataFile).
        IsClean (unit_at f.layout f.cluster t.shown) view) (sym one) clean) both.1 log moment.since.2 (both.0 log moment) image left
        (rw (sym one) at chance)))

    comes_kept : (layout : Layout) → ComesToUpgrade layout t word.old word.new status → IsKeptBy m.log
    comes_kept layout (inl refuses) = by_barrier (one_some word.new.told (did Sync t) n refuses.barrier word.to)
    comes_kept layout (inr (inl fails)) = elim fails.disk [
      | inl same ↦ absurd (too_long (one_some word.new.told n t word.to same))
      | inr (inl synced) ↦ by_barrier (one_some word.new.told (did Sync t) n synced word.to)
      | inr (inr part) ↦ by_upgrade layout part.found part.writes.events part.opened (told_is part.writes.events part.writes.told) (λ own.
          part.anew view own.whole own.found own.distinct)
    ]
    comes_kept layout (inr (inr upgrades)) = let all = upgrades.upgraded in
        by_upgrade layout all.found all.writes.events (all.opened old.whole) (told_is all.writes.events all.writes.told) (λ own.
        let anew = all.anew view own.whole own.found own.distinct in (anew.moments, anew.bare))

    pub stopped_kept : IsKeptBy m.log
    stopped_kept = elim (word.runs t word.from old.whole) [
      | inl nothing ↦ absurd (too_long (one_some word.new.told n t word.to (nothing.without.same ∙ word.from)))
      | inr (inl refuses) ↦ absurd (too_long (one_some word.new.told n t word.to (refuses.same ∙ word.from)))
      | inr (inr own) ↦ comes_kept own.layout own.comes
    ]

-- ---- the laws

pub upgraded_begins : UpgradedBegins
upgraded_begins file view t new = Taken (second file) new.first t new.may

pub done_is_upgraded : DoneIsUpgraded
done_is_upgraded file view t n old word distinct = done_upgraded file view t n Done old word refl distinct

pub stopped_is_upgraded : StoppedIsUpgraded
stopped_is_upgraded file view t p n m status image old clean word until along left chance =
    stopped_kept file view t n status old word clean p m until along image left chance
