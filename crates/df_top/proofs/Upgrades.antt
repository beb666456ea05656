-- A file of version 1 that is upgraded, or isn't: what is said of it, what is written of it, and how the word ends where nothing fails.
use Rattle.std.{proofs.Common.{◌≡◌, ◌⊎◌, ◌<◌, ◌^◌, inl, inr, ℕ, Option, Some, refl, sym, ◌∙◌, subst, Ok, Err, arith}, specs.Prelude.{◌==◌, if◌then◌else◌}}
use Rattle.{df_base.specs.{Image.{Image, IsImage}, Log.{Sync}}, df_disk.specs.Told.{Told, after}, df_program.proofs.Laws.{open_fault}}
use Rattle.df_format.specs.{SuperRules.{fault_of}, declared.superblock.SuperFault.TheVariants.{Version as OtherVersion}, declared.superblock.SuperFields.{SuperFields}}
use Rattle.{df_layout.specs.declared.layout.Layout.{Layout}, df_model.specs.declared.errors.OpenError.{OpenError}}
use Rattle.df_model.specs.declared.errors.OpenError.TheVariants as opens
use Rattle.df_session.{specs.Below.{DataFile, IsNeedless, shape}, proofs.Laws.{found_is_usable}}
use Rattle.df_theory.specs.{Found.{IsFound}, View.{View, boot_of}}
use Rattle.df_units.{specs.{Bytes.{unit_at}, Within.{AddsWithin}}, proofs.Laws.{none_within}}
use Rattle.df_upgrade.{specs.{Below.{HasSuperAs, IsNotRefusedAs, MayBeHurtAs, RefusesAs, TellsSurveyAs, fault_as}, Upgraded.{StopsUpgrading}}, proofs.Laws.{answer_is_of_hurt_as, found_is_not_refused_as, headers_may_be_hurt_as, probe_is_of_hurt_as, super_as, two_copies_are_enough_as}}
use Rattle.df_top.{specs.{Completeness.{OldIsUpgraded, SecondIsLeft}, Hurting.{RefusesCopiesAs}, Outside.{Faults, HasCauses, NoneFailed, Outside}, Refusing.{PrintsOpenError}, Run.{DidNothing, RefusesSuperblockAs}, Upgrading.{ComesToUpgrade, FailsToUpgrade, RunsUpgrade, UpgradeIsOfHurt, UpgradesHurt, UpgradesOverHurt, UpgradesOwn}, Within.{WritesOwnAs}, declared.status.Status.{Status}, declared.status.Status.TheVariants.{DiskFault, Done, Memory}}, proofs.{Served.{refuses}, Within.{barrier_within, mends_within}}}

-- ---- it isn't upgraded

abbrev failing : (layout : Layout) (t : Told) (old new : Outside) (status : Status) (e : OpenError) → e ≡ opens.DiskFault → StopsUpgrading
    layout t new.told → new.left ≡ old.left → PrintsOpenError e old.written new.written status → FailsToUpgrade layout t old new status
failing layout t old new status e is stops unread prints =
    record { fault = (prints.failing is).0; silent = record { written = (prints.failing is).1; unread = unread }; disk = stops }

pub not_upgraded : (layout : Layout) (t : Told) (old new : Outside) (status : Status) (e : OpenError) → IsImage t.shown → old.told ≡ Some t
    → TellsSurveyAs 1 layout old.told (Err e) → new.left ≡ old.left → ((e ≡ opens.DiskFault → ⊥) → new.told ≡ after Sync old.told)
    → (IsImage t.shown → e ≡ opens.DiskFault → StopsUpgrading layout t new.told)
    → PrintsOpenError e old.written new.written status → ComesToUpgrade layout t old new status
not_upgraded layout t old new status e whole told answer unread barrier stops prints = elim (open_fault e) [
  | inl is ↦ inr (inl (failing layout t old new status e is (stops whole is) unread prints))
  | inr other ↦ inl (refuses 1 layout t old new status e other.0 whole told answer unread (barrier other.0) prints)
]

-- ---- what is written

stops_within : (layout : Layout) (t : Told) (new : Option Told) → StopsUpgrading layout t new → AddsWithin layout (Some t) new
stops_within layout t new (inl same) = none_within layout (Some t) new same
stops_within layout t new (inr (inl synced)) = barrier_within layout t new synced
stops_within layout t new (inr (inr part)) = mends_within layout t part.found.file new part.opened.of.layout_is part.writes

comes_within : (layout : Layout) (t : Told) (old new : Outside) (status : Status)
    → IsImage t.shown → ComesToUpgrade layout t old new status → AddsWithin layout (Some t) new.told
comes_within layout t old new status whole (inl refuses) = barrier_within layout t new.told refuses.barrier
comes_within layout t old new status whole (inr (inl fails)) = stops_within layout t new.told fails.disk
comes_within layout t old new status whole (inr (inr upgrades)) =
    mends_within layout t upgrades.upgraded.found.file new.told (upgrades.upgraded.opened whole).of.layout_is upgrades.upgraded.writes

pub upgrades_within : (old new : Outside) (status : Status) → RunsUpgrade old new status → WritesOwnAs 1 old.told new.told
upgrades_within old new status runs t told whole = elim (runs t told whole) [
  | inl nothing ↦ inl (nothing.without.same ∙ told)
  | inr other ↦ elim other [
    | inl refuses ↦ inl (refuses.same ∙ told)
    | inr own ↦ inr (own.layout, own.shown, comes_within own.layout t old new status whole own.comes)
  ]
]

-- ---- a file that may be hurt

-- version 1 has no boot that could be spent
unspent : (view : View) → ◌≡◌ {A = ℕ} 1 2 → boot_of view < 2 ^ 62
unspent view is = absurd (omega (arith, is))

module _ (file : DataFile) (view : View) (t : Told) (may : MayBeHurtAs 1 file view t) (old new : Outside) (status : Status) where
  usable : IsNeedless file t → (e : OpenError) → RefusesAs 1 t.shown e → ⊥
  usable (inl copies) = (two_copies_are_enough_as 1 file view t may (unspent view) copies.0 copies.1 copies.2).opens.usable
  usable (inr headers) = (headers_may_be_hurt_as 1 file view t may (unspent view) headers).opens.usable

  copies : RefusesSuperblockAs 1 t old new status → RefusesCopiesAs 1 file view t old new status
  copies r = let probes = probe_is_of_hurt_as 1 file view t may in let both = probes.refused r.error r.is in
      record { refuses = r; damage = both.0; hurt = both.1; stood = λ rest two. probes.usable rest two r.error r.is; needed = λ none. usable none r.error r.is }

  of_hurt : (comes : ComesToUpgrade file.layout t old new status) → UpgradeIsOfHurt file view t file.layout old new status comes
  of_hurt (inl r) = answer_is_of_hurt_as 1 file view t (Err r.error) may (unspent view) r.is.why r.is.other
  of_hurt (inr (inl fails)) = tt
  of_hurt (inr (inr upgrades)) =
      answer_is_of_hurt_as 1 file view t (Ok upgrades.upgraded.found) may (unspent view) (upgrades.upgraded.opened may.whole)

  own : UpgradesOwn t old new status → UpgradesHurt file view t old new status
  own u = let comes : ComesToUpgrade file.layout t old new status =
      rw ((probe_is_of_hurt_as 1 file view t may).layout u.layout u.shown) at u.comes in record { comes = comes; of_hurt = of_hurt comes }

pub upgrades_over_hurt : (old new : Outside) (status : Status) → RunsUpgrade old new status → UpgradesOverHurt old new status
upgrades_over_hurt old new status runs = λ file view t told may. elim (runs t told may.whole) [
  | inl nothing ↦ inl nothing
  | inr (inl refuses) ↦ inr (inl (copies file view t may old new status refuses))
  | inr (inr serves) ↦ inr (inr (own file view t may old new status serves))
]

-- ---- where nothing fails

module _ (file : DataFile) (view : View) (t : Told) (old new : Outside) (before now : Faults) (status : Status)
    (version : file.version ≡ 1) (whole : IsImage t.shown) (found : IsFound (shape file) (unit_at file.layout file.cluster t.shown) view)
    (causes : HasCauses before now status) (none : NoneFailed before now) where
  abbrev answers : IsNotRefusedAs 1 file t.shown
  answers = found_is_not_refused_as 1 file t.shown view (inl refl) version (unspent view) whole found

  no_disk : status ≡ DiskFault → ⊥
  no_disk is = none.disk (causes.disk.rose is)

  done : ComesToUpgrade file.layout t old new status → status ≡ Done
  done (inl refuses) = absurd (refuses.is.other (answers.answered refuses.error refuses.is.why))
  done (inr (inl fails)) = absurd (no_disk fails.fault)
  done (inr (inr upgrades)) = elim upgrades.prints [
    | inl printed ↦ printed.0
    | inr part ↦ absurd (none.sink (causes.sink.rose part.0))
  ]

  ran : DidNothing old new status ⊎ RefusesSuperblockAs 1 t old new status ⊎ UpgradesOwn t old new status → (status ≡ Memory) ⊎ (status ≡ Done)
  ran (inl nothing) = elim nothing.why [
    | inl wanting ↦ inl wanting
    | inr failed ↦ absurd (no_disk failed)
  ]
  ran (inr (inl refuses)) = absurd (answers.usable refuses.error refuses.is)
  ran (inr (inr own)) = inr (done (rw (answers.layout own.layout own.shown) at own.comes))

pub old_is_upgraded : OldIsUpgraded
old_is_upgraded file view t old new before now status version whole found told causes none runs =
    ran file view t old new before now status version whole found causes none (runs t told whole)

-- ---- a file of version 2

-- the superblock of version 1 is one of another version, where 2 is asked for
other_version : (f : SuperFields) → f.version ≡ 1 → fault_as 2 f ≡ Some (OtherVersion f.version)
other_version f one = subst (λ (n : ℕ). (if n == 2 then fault_of f else Some (OtherVersion n)) ≡ Some (OtherVersion n)) (sym one) refl

refuses_second : (image : Image) (f : SuperFields) → HasSuperAs 1 image f → RefusesAs 2 image (opens.Version f.version)
refuses_second image f s = record {
  content = s.content;
  chosen = s.chosen;
  broken = rw s.fields (other_version f (super_as 1 f s.usable).0);
}

pub second_is_left : SecondIsLeft
second_is_left file view t old new status version whole found told runs = elim (runs t told whole) [
  | inl nothing ↦ nothing.without.same
  | inr (inl refuses) ↦ refuses.same
  | inr (inr own) ↦ absurd (found_is_usable file
      t.shown view version whole found (opens.Version own.shown.fields.version) (refuses_second t.shown own.shown.fields own.shown.super))
]
