-- A disk that may be hurt, seen from after the barrier of an open: its log rests on the view, its history began with the empty image, and
-- what is shown was settled.
use Rattle.{std.proofs.Common.{◌≡◌, inl, inr, ℕ, ◌<◌, List, ◌∷◌, Some, sym, ◌∙◌, ap, subst, arith}, df_disk.specs.Told.{Told}}
use Rattle.{df_base.specs.{Image.{Image}, Log.{Sync}}, df_layout.specs.declared.places.Zone.TheVariants.{Superblock}}
use Rattle.df_base.specs.Log as logs
use Rattle.df_theory.{specs.{Copies.{Agree}, DamageLaws.{ShowsPool}, Device.{units_log}, Found.{IsFound}, Holds.{Holds}, HistoryLaws.{AreDistinct, ShowsSettled}, Past.{FromEmpty, Was}, Rests.{RestsOn}, UnitLog.{UnitLog, now, settled}, Units.{Content, CopyPlace, CopyUnit, Place, Units}, View.{View}}, proofs.Laws.{disk_barrier_law, found_was_of_log_law, now_units, settled_law, pool_pools}}
use Rattle.df_units.{specs.{Bytes.{unit_at}, Format.{format_of}, Meaning.{place_of}}, proofs.Laws.{blank_empty, is_format}}
use Rattle.df_recovery.specs.Below.{DataFile, shape}
use Rattle.df_damage.{specs.{Disks.{HasEqualCopies, MayBeHurtAs}, Hurt.{HasTwoCopies, IsUnhurtZone}, Past.{WasHad}}, proofs.{Pasts.{AreAmong, among_images, from_blank, settled_blank, was_held}, Sectors.{in_zone, same_copies}}}

module _ {version : ℕ} (file : DataFile) (view : View) (t : Told) (may : MayBeHurtAs version file view t) where
  -- the log of units after the barrier, and what is shown
  abbrev pub log : UnitLog
  log = units_log (format_of file.layout file.cluster) (logs.add Sync t.log)

  abbrev pub shown : Units
  shown = unit_at file.layout file.cluster t.shown

  pub rests : RestsOn (shape file) (units_log (format_of file.layout file.cluster) (logs.add Sync t.log)) view
  rests = disk_barrier_law (format_of file.layout file.cluster) (shape file) view t.log may.safe may.found

  -- what the log leaves
  pub left : now (units_log (format_of file.layout file.cluster) (logs.add Sync t.log)) ≡ unit_at file.layout file.cluster (logs.now t.log)
  left = now_units (format_of file.layout file.cluster) t.log.start (Sync ∷ t.log.events)

  pub pooled : ShowsPool (units_log (format_of file.layout file.cluster) (logs.add Sync t.log)) (unit_at file.layout file.cluster t.shown)
  pooled = may.no_chance.pooled

  -- ---- the history

  pub empty : FromEmpty (shape file) (settled (units_log (format_of file.layout file.cluster) (logs.add Sync t.log))) view rests.grows
  empty = from_blank (shape file) (settled log) view rests.grows (settled_blank log.start log.events (λ place.
      ap (λ (image : Image). unit_at file.layout file.cluster image place) may.empty ∙ blank_empty file.layout file.cluster place))

  pub distinct : AreDistinct (settled (units_log (format_of file.layout file.cluster) (logs.add Sync t.log)))
  distinct place other x y one two = may.no_chance.distinct
      place other x y (pool_pools log.start log.events place x (inl one)) (pool_pools log.start log.events other y (inl two))

  pub shows_settled : ShowsSettled
      (settled (units_log (format_of file.layout file.cluster) (logs.add Sync t.log))) (unit_at file.layout file.cluster t.shown)
  shows_settled place x is = elim (pooled place x is) [
    | inl old ↦ old
    | inr none ↦ absurd none
  ]

  pub was : (w : View) → IsFound (shape file) (unit_at file.layout file.cluster t.shown) w
      → Was (shape file) (settled (units_log (format_of file.layout file.cluster) (logs.add Sync t.log))) view rests.grows w
  was w found = found_was_of_log_law (shape file) log view (record { fair = rests.fair; grows = rests.grows }) empty (λ place x is.
      is) shown may.no_chance w found

  pub had : (w : View) → IsFound (shape file) (unit_at file.layout file.cluster t.shown) w → WasHad file (logs.add Sync t.log) w
  had w found = let held = was_held (shape file) (settled log) view rests.grows w (was w found) in
      let there = among_images (format_of file.layout file.cluster) (logs.settled (logs.add Sync t.log)) held.0
      (subst (λ (us : List Units). AreAmong us held.0) (settled_law (format_of file.layout file.cluster) (logs.add Sync t.log)) held.1) in
      record { image = there.0; durable = there.1; holds = rw there.2 at held.2 }

  -- ---- what isn't hurt

  -- a place none of whose sectors is hurt shows what it should
  pub unhurt_zone : (place : Place) → IsUnhurtZone file.layout t (place_of place).zone
      → unit_at file.layout file.cluster t.shown place ≡ now (units_log (format_of file.layout file.cluster) (logs.add Sync t.log)) place
  unhurt_zone place unhurt = (is_format file.layout file.cluster).local t.shown (logs.now t.log) place (λ sector here.
      let zone = in_zone file.layout place sector here in unhurt sector zone.0 zone.1) ∙ ap (λ (u : Units). u place) (sym left)

  pub unhurt_copy : (n : ℕ) → t.shown n ≡ logs.now t.log n
      → unit_at file.layout file.cluster t.shown (CopyPlace n) ≡ unit_at file.layout file.cluster (logs.now t.log) (CopyPlace n)
  unhurt_copy n same = same_copies file.layout file.cluster t.shown (logs.now t.log) n same

  -- ---- two copies show the choice

  pub agreed_zone : IsUnhurtZone file.layout t Superblock → Agree (unit_at file.layout file.cluster t.shown) view.checkpoint.content
  agreed_zone unhurt = let here = rests.holds.chosen.agreed in record {
    first = here.first;
    second = here.second;
    apart = here.apart;
    inside = here.inside;
    at_first = unhurt_zone (CopyPlace here.first) unhurt ∙ here.at_first;
    at_second = unhurt_zone (CopyPlace here.second) unhurt ∙ here.at_second;
  }

  -- four equal copies are of the view's content
  rest_content : (rest : HasEqualCopies file t.log) → rest.content ≡ view.checkpoint.content
  rest_content rest = let here = may.found.chosen.agreed in
      let one : unit_at file.layout file.cluster (logs.now t.log) (CopyPlace here.second) ≡ Some (CopyUnit rest.content) =
      rest.copies here.second here.inside in let two : unit_at file.layout file.cluster (logs.now t.log) (CopyPlace here.second)
      ≡ Some (CopyUnit view.checkpoint.content) = here.at_second in cc

  copy_stands : (rest : HasEqualCopies file t.log) (n : ℕ) → n < 4
      → t.shown n ≡ logs.now t.log n → unit_at file.layout file.cluster t.shown (CopyPlace n) ≡ Some (CopyUnit view.checkpoint.content)
  copy_stands rest n inside same = unhurt_copy n same ∙ rest.copies n inside ∙ ap (λ (c : Content). Some (CopyUnit c)) (rest_content rest)

  pub agreed_rest : HasEqualCopies file t.log → HasTwoCopies t → Agree (unit_at file.layout file.cluster t.shown) view.checkpoint.content
  agreed_rest rest two = record {
    first = two.first;
    second = two.second;
    apart = two.apart;
    inside = two.inside;
    at_first = copy_stands rest two.first (omega (arith, two.apart, two.inside)) two.at_first;
    at_second = copy_stands rest two.second two.inside two.at_second;
  }
