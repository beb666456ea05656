-- A stop within the write of a prepare, with every premise on chance shown.
use Rattle.std.proofs.Common.{◌≡◌, inl, inr, ◌||◌, false, true, [], ◌∷◌, Option, Some, None, refl, sym, ◌∙◌, ap, arith}
use Rattle.df_theory.{specs.{Units.{AnyUnit, PreparePlace, PrepareUnit, Units, is_some, or_else, overlay}, View.{View}, Next.{MayAppend, appended}, UnitLog.{IsLeftBy, UnitLog, loose, now, put_one, wrote}, Chance.{NoChance}, Rests.{Stepped}, Sample.{StopSampleLaw}}, proofs.{PutOne.{put_one_law}, AllOf.{All}, Ours.{IsOurs, distinct_in, log1_all, prepare_other}, SampleSteps.{may_append}, SampleUnits.{put_all, wrote_pooled}, Samples.{shape, view1, log1, leads1}, Flushes.{prepare_step}}}

abbrev put2 : Units
put2 = put_one (PreparePlace 2) (PrepareUnit prepare_other)

abbrev log2 : UnitLog
log2 = wrote put2 log1

abbrev view2 : View
view2 = appended view1 (prepare_other ∷ [])

log2_all : All IsOurs log2.start log2.events
log2_all = put_all IsOurs (PreparePlace 2) (PrepareUnit prepare_other) log1 (refl, refl) log1_all

may2 : MayAppend shape view1 (prepare_other ∷ [])
may2 = may_append shape view1 (prepare_other ∷ []) (omega arith) (refl, refl, tt)
    (record { mark = refl; checkpoint = refl; boot = refl; group = refl; group_last = refl }, tt) (omega arith, omega arith, omega arith)
    (inr (λ same. omega arith, 3, refl, (refl, omega arith)), tt)

stepped : Stepped shape log1 put2 view1 view2
stepped = prepare_step shape log1 view1 put2 prepare_other leads1.0.leads.rests (λ place wet.
    absurd (let no_unit : false ≡ true = wet in cc)) leads1.0.tidy.clear may2 (put_one_law (PreparePlace 2) (PrepareUnit prepare_other))

before_left : IsLeftBy log2 (now log1)
before_left place firm = go (put2 place) refl
  where
    go : (o : Option AnyUnit) → put2 place ≡ o → now log1 place ≡ overlay put2 (now log1) place
    go None none = sym (ap (λ (o : Option AnyUnit). or_else o (now log1 place)) none)
    go (Some y) some = absurd (let wet : true ≡ false = ap (λ (o : Option AnyUnit). is_some o || loose log1 place) (sym some) ∙ firm in cc)

before_chance : NoChance log2 (now log1)
before_chance = record {
  pooled = λ place x is. elim (leads1.0.leads.rests.pooled place x is) [ inl old ↦ inl old | inr new ↦ inr (inr new) ];
  distinct = distinct_in log2 log2_all;
}

after_chance : NoChance log2 (now log2)
after_chance = record { pooled = wrote_pooled put2 log1 leads1.0.leads.rests.pooled; distinct = distinct_in log2 log2_all }

pub stop_sample_law : StopSampleLaw
stop_sample_law = record { shape = shape; log = log2; view = view1; next = view2; before = now log1; after = now log2; safe = stepped.good.safe; before_left = (before_left, before_chance, leads1.0.leads.rests.holds); after_left = (λ place firm. refl, after_chance, stepped.rests.holds); one_more = refl }
