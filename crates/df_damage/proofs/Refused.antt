-- Why an open refuses a disk that may be hurt.
use Rattle.std.{proofs.{Common.{◌≡◌, ◌⊎◌, inl, inr, ℕ, ◌+◌, ◌%◌, ◌<◌, List, [], ◌∷◌, refl, sym, ◌∙◌, ap, subst, arith}, lemmas.Bool.{cases_eq}}, specs.Prelude.{Err}}
use Rattle.{df_base.{specs.Image.{IsImage}, proofs.Laws.{now_is_image}}, df_disk.specs.Told.{Told}}
use Rattle.df_base.specs.Log as logs
use Rattle.df_layout.specs.{declared.damage.Class.{Class}, declared.places.Place.{Place}, declared.places.Zone.{Zone}, Zones.{file_sectors}}
use Rattle.df_format.specs.declared.superblock.SuperFault.TheVariants.{BadField as BrokenField, Version as OtherVersion}
use Rattle.df_model.specs.{declared.errors.OpenError.{OpenError}, declared.errors.OpenError.TheVariants.{BadField, BootSpent, Damaged, DiskFault, LayoutDiffers, NoQuorum, NotFormatted, Version}}
use Rattle.df_theory.{specs.{Copies.{Agree}, Found.{IsFound}, Tails.{In}, UnitLog.{now}, Units.{BlockPlace, CopyPlace, HeaderPlace, PreparePlace, ReplyPlace}, View.{View}}, proofs.Laws.{blame_law, in_one, never_behind_law}}
use Rattle.df_theory.specs.DamageLaws as laws
use Rattle.df_theory.specs.Opens as opens
use Rattle.df_theory.specs.Units
use Rattle.df_units.{specs.{Bytes.{unit_at}, Meaning.{place_of}}, proofs.Laws.{chosen_choice, is_format, unbooted_alone}}
use Rattle.df_recovery.{specs.{Opening.{RefusesAs}, Surveys.{SurveysAs}, Below.{DataFile, shape}}, proofs.Laws.{as_none, super_or_refusal_as}}
use Rattle.df_damage.{specs.{Disks.{MayBeHurtAs}, Hurt.{IsHurtFile, IsHurtPlace, IsUnhurt}, Refusals.{BlamesHurt, IsBlamedPlace, MayBeOfDamage, NamesSuperblock, ProbeIsOfHurt, RefusalsAreOfDamage, RefusalsBlameHurt, SpentIsTheFiles, SuperblockIsHurt}, Versions.{IsUnspent}}, proofs.{Barriers.{agreed_rest, left, log, pooled, rests, shown}, Files.{no_bad_field, no_fault, own_layout, refused_here, rules, spent_here, tests}, NotRefused.{found_is_not_refused_as, found_is_usable}, Sectors.{in_zone, place_differs, search}, Versions.{below_spent}}}

pub spent_is_the_files : SpentIsTheFiles
spent_is_the_files version file view t may is =
    spent_here file view t may (refused_here file view t may is.file is.fields opens.BootSpent is.has is.of is.opens)

module _ {version : ℕ} (file : DataFile) (view : View) (t : Told) (may : MayBeHurtAs version file view t) where
  -- ---- where no sector of the file is hurt, none comes

  unhurt_found : ((sector : ℕ) → sector < file_sectors file.layout → IsUnhurt t sector)
      → IsFound (shape file) (unit_at file.layout file.cluster t.shown) view
  unhurt_found unhurt = subst (λ (u : Units.Units). IsFound (shape file) u view)
      (λ i place. (is_format file.layout file.cluster).local (logs.now t.log) t.shown place (λ sector here.
      sym (unhurt sector (in_zone file.layout place sector here).2)) i) may.found

  -- a sector of the file is hurt, or its view is found
  hurt_or_found : IsHurtFile file.layout t ⊎ IsFound (shape file) (unit_at file.layout file.cluster t.shown) view
  hurt_or_found = elim (search t.shown (logs.now t.log) 0 (file_sectors file.layout)) [
    | inl found ↦ inl (record { sector = found.sector; inside = omega (arith, found.below); hurt = found.differs })
    | inr same ↦ inr (unhurt_found (λ sector inside. same sector (omega arith) (omega (arith, inside))))
  ]

  -- ---- which refusals come

  -- of the superblock
  copies_of_damage : (e : OpenError) → RefusesAs version t.shown e → MayBeOfDamage e
  copies_of_damage NotFormatted is = tt
  copies_of_damage (NoQuorum classes) is = tt
  copies_of_damage (Version found) is = absurd (no_fault file view t may (OtherVersion found) is)
  copies_of_damage (BadField field value) is = absurd (no_fault file view t may (BrokenField field value) is)
  copies_of_damage (LayoutDiffers reserved found) is = absurd is
  copies_of_damage (Damaged place class) is = absurd is
  copies_of_damage DiskFault is = absurd is
  copies_of_damage BootSpent is = absurd is

  copies_hurt : (e : OpenError) → RefusesAs version t.shown e → IsHurtFile file.layout t
  copies_hurt e is = elim hurt_or_found [
    | inl hurt ↦ hurt
    | inr found ↦ absurd (found_is_usable version file t.shown view may.known may.version_is may.whole found e is)
  ]

  module _ (unspent : IsUnspent version view) where
    of_damage : (e : OpenError) → SurveysAs version file.layout t.shown (Err e) → (e ≡ DiskFault → ⊥) → MayBeOfDamage e
    of_damage NotFormatted is other = tt
    of_damage (NoQuorum classes) is other = tt
    of_damage (Version found) is other = absurd (no_fault file view t may (OtherVersion found) is)
    of_damage (BadField field value) (inl is) other = absurd (no_fault file view t may (BrokenField field value) is)
    of_damage (BadField field value) (inr is) other =
        absurd (no_bad_field file view t may (refused_here file view t may is.file is.fields opens.BadField is.has is.of is.opens))
    of_damage (LayoutDiffers reserved found) is other = absurd (is.differ (own_layout file view t may found is.fields is.super is.found_is))
    of_damage (Damaged place class) is other = tt
    of_damage DiskFault is other = absurd (other refl)
    of_damage BootSpent is other = absurd (omega (arith, spent_is_the_files version file view t may is, below_spent version file view may.known may.version_is unspent may.found.checkpoint.tests))

    some_hurt : (e : OpenError) → SurveysAs version file.layout t.shown (Err e) → (e ≡ DiskFault → ⊥) → IsHurtFile file.layout t
    some_hurt e is other = elim hurt_or_found [
      | inl hurt ↦ hurt
      | inr found ↦ absurd (other ((found_is_not_refused_as version file t.shown view may.known may.version_is unspent may.whole found).answered e is))
    ]

    pub are_of_damage : (e : OpenError)
        → SurveysAs version file.layout t.shown (Err e) → (e ≡ DiskFault → ⊥) → MayBeOfDamage e × IsHurtFile file.layout t
    are_of_damage e is other = (of_damage e is other, some_hurt e is other)

  -- ---- whom they blame

  -- a place that is hurt, or that shows what it should
  hurt_or : (place : Units.Place)
      → IsHurtPlace file.layout t place ⊎ (unit_at file.layout file.cluster t.shown place ≡ now (log file view t may) place)
  hurt_or place = elim (place_differs file.layout file.cluster place t.shown (logs.now t.log)) [
    | inl found ↦ inl (record { sector = found.sector; inside = found.inside; hurt = found.differs })
    | inr same ↦ inr (same ∙ ap (λ (u : Units.Units). u place) (sym (left file view t may)))
  ]

  hurt_there : (place : Units.Place) → laws.IsHurt (log file view t may) (shown file view t may) place → IsHurtPlace file.layout t place
  hurt_there place hurt = elim (hurt_or place) [
    | inl there ↦ there
    | inr same ↦ absurd (hurt same)
  ]

  -- of a group of the tail one slot is hurt, or each shows what it should
  record IsHurtOf (group : ℕ) (ps : List Units.Message) : Type 0 where
    prepare : Units.Message
    there : In prepare ps
    own : prepare.header.group ≡ group
    hurt : IsHurtPlace file.layout t (PreparePlace (prepare.header.op % file.layout.slots))

  abbrev AreUnhurtOf : ℕ → List Units.Message → Type 0
  AreUnhurtOf group ps = (q : Units.Message) → In q ps → q.header.group ≡ group → unit_at file.layout file.cluster
      t.shown (PreparePlace (q.header.op % file.layout.slots)) ≡ now (log file view t may) (PreparePlace (q.header.op % file.layout.slots))

  one_of : (group : ℕ) (ps : List Units.Message) → IsHurtOf group ps ⊎ AreUnhurtOf group ps
  one_of group [] = inr (λ q at own. absurd at)
  one_of group (p ∷ ps) = elim (one_of group ps) [
    | inl found ↦ inl (record { prepare = found.prepare; there = inr found.there; own = found.own; hurt = found.hurt })
    | inr rest ↦ elim (hurt_or (PreparePlace (p.header.op % file.layout.slots))) [
      | inr same ↦ inr (λ q at own. elim at [
        | inl here ↦ rw (sym here) at same
        | inr later ↦ rest q later own
      ])
      | inl hurt ↦ elim (cases_eq p.header.group group) [
        | inl is ↦ inl (record { prepare = p; there = inl refl; own = is; hurt = hurt })
        | inr other ↦ inr (λ q at own. elim at [
          | inl here ↦ absurd (other (ap (λ (x : Units.Message). x.header.group) (sym here) ∙ own))
          | inr later ↦ rest q later own
        ])
      ]
    ]
  ]

  lost_of : (p : Units.Message)
      → (laws.IsGroupUnhurt (shape file) (log file view t may) view (shown file view t may) p → ⊥) → IsHurtOf p.header.group view.tail
  lost_of p none = elim (one_of p.header.group view.tail) [
    | inl found ↦ found
    | inr unhurt ↦ absurd (none unhurt)
  ]

  -- in version 1 each prepare of the tail was appended alone, so that its slot is all there is of its group: no boot made it
  alone : file.version ≡ 1 → (p : Units.Message) → In p view.tail → p.header.group ≡ p.header.op
  alone one p at = let slot = p.header.op % file.layout.slots in let here = (may.found.tail.takes p at).shown in
      let first = may.found.checkpoint.tests.of.one (may.found.checkpoint.tests.version ∙ one) in
      let whole : IsImage (logs.now t.log) = now_is_image t.log.start t.log.events may.safe.is_log.start may.safe.is_log.events in
      (unbooted_alone file.layout
      file.cluster (logs.now t.log) whole slot p here (omega (arith, (may.found.not_behind.prepare slot p here).2, first.0))).first

  group_of_one : (p q : Units.Message) → In p view.tail → In q view.tail → q.header.group ≡ p.header.group → file.version ≡ 1 → q ≡ p
  group_of_one p q at there group one = in_one file.layout.clients (view.checkpoint.content.op + 1) view.checkpoint.content.op_checksum
      0 view.checkpoint.parts.sessions view.tail q p may.found.tail.chain there at (sym (alone one q there) ∙ group ∙ alone one p at)

  blamed : (at : Units.Place) → laws.RefusalBlamesHurt (shape file) (log file view t may) view (shown file view t may) (opens.Damaged at)
      → IsBlamedPlace file view t (place_of at).zone (place_of at).index
  blamed (CopyPlace n) blames = blames
  blamed (HeaderPlace s) blames = blames
  blamed (PreparePlace s) blames = hurt_there (PreparePlace s) blames
  blamed (BlockPlace a) blames = hurt_there (BlockPlace a) blames
  blamed (ReplyPlace k) blames = elim (hurt_or (ReplyPlace k)) [
    | inl there ↦ inl there
    | inr same ↦ let lacks = blames same in let one = lost_of lacks.1 lacks.8 in inr (record {
      session = lacks.0;
      at = lacks.3;
      prepare = lacks.1;
      in_tail = lacks.4;
      client = lacks.5;
      found = lacks.2;
      is_tail = lacks.6;
      later = lacks.7;
      lost = one.prepare;
      lost_in_tail = one.there;
      group = one.own;
      alone = group_of_one lacks.1 one.prepare lacks.4 one.there one.own;
      hurt = one.hurt;
    })
  ]

  module _ (agreed : Agree (unit_at file.layout file.cluster t.shown) view.checkpoint.content) where
    -- a superblock is chosen that can be used
    usable : (e : OpenError) → RefusesAs version t.shown e → ⊥
    usable e refuses = let chosen = (never_behind_law
        (shape file) (log file view t may) view (shown file view t may) (rests file view t may) (pooled file view t may) agreed).0 in
        let choice = chosen_choice file.layout file.cluster t.shown view.checkpoint.content may.whole chosen in
        super_or_refusal_as version t.shown choice.0.fields e (record {
          content = choice.0;
          chosen = choice.2;
          fields = refl;
          usable = as_none version choice.0.fields
              ((tests file view t may choice.0 choice.2).0.version ∙ may.version_is) (rules file view t may choice.0 choice.2).1;
        }) refuses

    blames_place : (place : Place) (class : Class)
        → SurveysAs version file.layout t.shown (Err (Damaged place class)) → IsBlamedPlace file view t place.zone place.index
    blames_place place class is =
        let refused = refused_here file view t may is.file is.fields (opens.Damaged is.at) is.has is.of is.opens in
        let who = blame_law (shape file)
        (log file view t may) view (shown file view t may) (opens.Damaged is.at) (rests file view t may) may.no_chance agreed refused in
        subst (λ (p : Place). IsBlamedPlace file view t p.zone p.index) is.at_is (blamed is.at who)

    -- the superblock is never named
    unnamed : (e : OpenError) → SurveysAs version file.layout t.shown (Err e) → NamesSuperblock e → ⊥
    unnamed NotFormatted is names = usable NotFormatted is
    unnamed (NoQuorum classes) is names = usable (NoQuorum classes) is
    unnamed (Version found) is names = names
    unnamed (BadField field value) is names = names
    unnamed (LayoutDiffers reserved found) is names = names
    unnamed (Damaged place class) is names =
        subst (λ (zone : Zone). IsBlamedPlace file view t zone place.index) names (blames_place place class is)
    unnamed DiskFault is names = names
    unnamed BootSpent is names = names

    pub blames : IsUnspent version view
        → (e : OpenError) → SurveysAs version file.layout t.shown (Err e) → (e ≡ DiskFault → ⊥) → BlamesHurt file view t e
    blames unspent NotFormatted is other = usable NotFormatted is
    blames unspent (NoQuorum classes) is other = usable (NoQuorum classes) is
    blames unspent (Version found) is other = of_damage unspent (Version found) is other
    blames unspent (BadField field value) is other = of_damage unspent (BadField field value) is other
    blames unspent (LayoutDiffers reserved found) is other = of_damage unspent (LayoutDiffers reserved found) is other
    blames unspent (Damaged place class) is other = blames_place place class is
    blames unspent DiskFault is other = other refl
    blames unspent BootSpent is other = of_damage unspent BootSpent is other

  -- one of two copies that agree is hurt, or both show what they should
  copy_hurt_or : ((n : ℕ) × IsHurtPlace file.layout t (CopyPlace n)) ⊎ Agree (unit_at file.layout file.cluster t.shown) view.checkpoint.content
  copy_hurt_or = let here = (rests file view t may).holds.chosen.agreed in elim (hurt_or (CopyPlace here.first)) [
    | inl first ↦ inl (here.first, first)
    | inr at_first ↦ elim (hurt_or (CopyPlace here.second)) [
      | inl second ↦ inl (here.second, second)
      | inr at_second ↦ inr (record { first = here.first; second = here.second; apart = here.apart; inside = here.inside; at_first = at_first ∙ here.at_first; at_second = at_second ∙ here.at_second })
    ]
  ]

-- ---- the laws

pub superblock_is_hurt : SuperblockIsHurt
superblock_is_hurt version file view t e may is names = elim (copy_hurt_or file view t may) [
  | inl hurt ↦ hurt
  | inr agreed ↦ absurd (unnamed file view t may agreed e is names)
]

pub probe_is_of_hurt_as : ProbeIsOfHurt
probe_is_of_hurt_as version file view t may = record {
  layout = λ shown_layout is. own_layout file view t may shown_layout is.fields is.super is.numbers;
  refused = λ e refuses. (copies_of_damage file view t may e refuses, copies_hurt file view t may e refuses);
  usable = λ rest two e refuses. usable file view t may (agreed_rest file view t may rest two) e refuses;
}

pub refusals_are_of_damage : RefusalsAreOfDamage
refusals_are_of_damage version file view t e may unspent is other = are_of_damage file view t may unspent e is other

pub refusals_blame_hurt : RefusalsBlameHurt
refusals_blame_hurt version file view t e may unspent rest two is other =
    blames file view t may (agreed_rest file view t may rest two) unspent e is other
