-- A sample: a file is stopped within a group, of which the second prepare alone is left. It is opened again, and the survivor passed over.
use Rattle.std.proofs.Common.{◌≡◌, inl, inr, List, [], ◌∷◌, Some, None, refl, ap, arith}
use Rattle.df_theory.{specs.{Units.{HeaderPlace, HeaderUnit, Message, PreparePlace, PrepareUnit, Units}, Trailer.{no_parts}, View.{View}, Next.{appended}, Holds.{Holds}, UnitLog.{IsLeftBy, Stopped, Synced, UnitLog, add, now, settled, wrote}, Chance.{NoChance}, Grown.{IsClear, IsSafe}, Rests.{IsGoodLog, RestsOn}, Runs.{AtEach, Puts, Step, after_steps}, WriterLaws.{AreSame, Flushes, flush_steps}, Found.{AreOfPlaces, IsFound}}, proofs.Laws.{each_weaker, flush_law, put_one_law, holds_found, without, without_shows, All, now_all, copies_are, header_put, may_append_pair, prepare_put, quiet_updated, copies_all, left_without, no_chance, put_all, wrote_pooled}}
use Rattle.df_history.{specs.{Histories.{IsLived, IsLivedMoment, MayStart}, Sample.{PassedSampleLaw}}, proofs.{Mendings.{each_last}, Since.{found_since_law, stopped_settled, synced_settled}, Samples.{IsOurs, anew, anew_last, booted1, booted1_ours, booted_of, clear1, clear_of, content, distinct, first, lost, made, made_ours, of_places, opened1, opens, quiet1, shape, starts, survivor}}}

abbrev puts : List Step
puts = Puts (prepare_put lost) ∷ Puts (prepare_put survivor) ∷ []

abbrev half : UnitLog
half = after_steps puts booted1

halves : AtEach (IsGoodLog shape (first 1) (appended (first 1) (lost ∷ survivor ∷ []))) booted1 puts
halves = (flush_law shape booted1 (first 1) (lost ∷ survivor ∷ []) (lost ∷ survivor ∷ []) (prepare_put lost ∷ prepare_put survivor ∷ []) [] opened1.0 quiet1 clear1 (may_append_pair (λ op text. Some no_parts) 1 41 42 1) (λ several. omega arith) (record { there = λ p at. at; back = λ p at. at })
    (put_one_law (PreparePlace 1) (PrepareUnit lost), (put_one_law (PreparePlace 2) (PrepareUnit survivor), tt)) tt).loose

abbrev image : Units
image = without (PreparePlace 1) (now half)

left : IsLeftBy half image
left = left_without (PreparePlace 1) half refl

half_ours : All IsOurs half.start half.events
half_ours = put_all IsOurs (PreparePlace 2) (PrepareUnit survivor)
    (wrote (prepare_put lost) booted1) (refl, refl) (put_all IsOurs (PreparePlace 1) (PrepareUnit lost) booted1 (refl, refl) booted1_ours)

chance : NoChance half image
chance = no_chance IsOurs distinct half half_ours image
    (λ place x is. wrote_pooled (prepare_put survivor) (wrote (prepare_put lost) booted1)
    (wrote_pooled (prepare_put lost) booted1 opened1.0.pooled) place x (without_shows (PreparePlace 1) place (now half) x is))

held : Holds shape image (first 1)
held = elim (halves.1.1.left image left chance) [
  | inl before ↦ before
  | inr after ↦ absurd
      (let gone : None ≡ Some (PrepareUnit lost) = after.bears.needs (PreparePlace 1) (PrepareUnit lost) (lost, inl refl, refl, refl) in cc)
]

abbrev stopped : UnitLog
stopped = add (Stopped image) half

lived_stopped : IsLived shape (stopped ∷ made ∷ [])
lived_stopped = (opened1.1 puts (each_weaker (IsGoodLog shape (first 1) (appended (first 1) (lost ∷ survivor ∷ [])))
    (IsSafe shape) (λ l good. good.safe) puts booted1 halves)).1.1.stopped image left chance

stopped_ours : All IsOurs stopped.start stopped.events
stopped_ours = (λ place x is. now_all IsOurs half.start half.events half_ours place x (without_shows (PreparePlace 1) place (now half) x is), half_ours)

-- ---- the file is opened again

places3 : AreOfPlaces shape image
places3 = of_places image (first 1) held stopped_ours.0 (λ s. refl) (λ k. refl) (λ a. refl)

start3 : MayStart stopped (made ∷ []) image
start3 = starts stopped (made ∷ []) image (stopped_ours, (made_ours, tt)) (stopped_settled half image) (λ place x is.
    inl (inl (inl is))) (inl (λ n below. refl))

abbrev booted3 : UnitLog
booted3 = booted_of 1 image

opened3 : RestsOn shape booted3 (first 2)
    × ((ss : List Step) → AtEach (IsSafe shape) booted3 ss → AtEach (IsLivedMoment shape (stopped ∷ made ∷ [])) booted3 ss)
opened3 = let all = opens 1 (omega arith) image held (copies_are (content 1) image refl refl refl refl) (λ s.
    refl) stopped (made ∷ []) lived_stopped start3 places3 in (all.1, all.2)

-- ---- and the ops of the group are written anew

clear3 : IsClear (settled booted3) (first 2)
clear3 = clear_of 2 image (λ s p is own. let a = held.bears.agrees (PreparePlace s) (PrepareUnit p) is in
    let same : a.0 ≡ p = (let e = a.1 in cc) in absurd (omega (arith, a.2.boot, ap (λ (w : Message). w.header.boot) same, own)))

abbrev prepares : List Units
prepares = prepare_put anew_last ∷ prepare_put anew ∷ []

abbrev headers : List Units
headers = header_put anew ∷ header_put anew_last ∷ []

abbrev written3 : UnitLog
written3 = wrote (header_put anew_last) (wrote (header_put anew) (add Synced (wrote (prepare_put anew) (wrote (prepare_put anew_last) booted3))))

abbrev again : UnitLog
again = add Synced written3

abbrev kept3 : View
kept3 = appended (first 2) (anew ∷ anew_last ∷ [])

flushes : Flushes shape booted3 (first 2) kept3 prepares headers
flushes = flush_law shape booted3 (first 2) (anew ∷ anew_last ∷ []) (anew_last ∷ anew ∷ []) prepares headers opened3.0 (quiet_updated (content 2) (record { start = image; events = [] })) clear3 (may_append_pair (λ op text. Some no_parts) 2 43 44 2) (λ several. omega arith) turned
    (put_one_law (PreparePlace 2) (PrepareUnit anew_last), (put_one_law (PreparePlace 1) (PrepareUnit anew), tt)) (
      record { each = λ place y is. let at = (put_one_law (HeaderPlace 1) (HeaderUnit anew.header)).only place y is in (1, anew.header, at.0, at.1, inr (anew, inl refl, refl, refl)) },
      (record { each = λ place y is. let at = (put_one_law (HeaderPlace 2) (HeaderUnit anew_last.header)).only place y is in (2, anew_last.header, at.0, at.1, inr (anew_last, inr (inl refl), refl, refl)) }, tt),
    )
  where
    turned : AreSame (anew_last ∷ anew ∷ []) (anew ∷ anew_last ∷ [])
    turned = record {
      there = λ p at. elim at [ inl is ↦ inr (inl is) | inr (inl is) ↦ inl is | inr (inr none) ↦ absurd none ];
      back = λ p at. elim at [ inl is ↦ inr (inl is) | inr (inl is) ↦ inl is | inr (inr none) ↦ absurd none ];
    }

lived3 : IsLived shape (again ∷ stopped ∷ made ∷ [])
lived3 = (each_last (IsLivedMoment shape (stopped ∷ made ∷ [])) (flush_steps prepares headers) booted3
    (opened3.1 (flush_steps prepares headers) (each_weaker (IsGoodLog shape (first 2) kept3) (IsSafe shape) (λ l good.
    good.safe) (flush_steps prepares headers) booted3 flushes.leads.moments))).lived

-- ---- whose every trace is lost: the survivor is shown again

again_ours : All IsOurs again.start again.events
again_ours = let l0 : UnitLog = wrote (prepare_put anew_last) booted3 in let l1 : UnitLog = wrote (prepare_put anew) l0 in
    let l2 : UnitLog = wrote (header_put anew) (add Synced l1) in
    let a0 : All IsOurs l0.start l0.events = put_all IsOurs (PreparePlace 2) (PrepareUnit anew_last)
    booted3 (refl, refl) (copies_all IsOurs (content 2) (refl, omega arith) (record { start = image; events = [] }) stopped_ours.0) in
    let a1 : All IsOurs l1.start l1.events = put_all IsOurs (PreparePlace 1) (PrepareUnit anew) l0 (refl, refl) a0 in put_all IsOurs
    (HeaderPlace 2) (HeaderUnit anew_last.header) l2 refl (put_all IsOurs (HeaderPlace 1) (HeaderUnit anew.header) (add Synced l1) refl a1)

start4 : MayStart again (stopped ∷ made ∷ []) (now booted3)
start4 = starts again (stopped ∷ made ∷ []) (now booted3) (again_ours, (stopped_ours, (made_ours, tt)))
    (synced_settled written3) (λ place x is. inl (inl (inr (inr (inl is))))) (inl (λ n below. refl))

found4 : IsFound shape (now booted3) (first 2)
found4 = holds_found shape (now booted3) (first 2) opened3.0.holds

pub passed_sample_law : PassedSampleLaw
passed_sample_law = record {
  shape = shape;
  made = made;
  stopped = stopped;
  view = first 1;
  survivor = survivor;
  again = again;
  kept = kept3;
  shown = now booted3;
  found = first 2;
  lived = lived_stopped;
  start = start3;
  finds = holds_found shape image (first 1) held;
  survives = (refl, omega arith, refl);
  goes = lived3;
  rests = flushes.leads.rests;
  anew = (anew_last, inr (inl refl), refl, omega arith);
  next_start = start4;
  shows = (refl, omega arith);
  next_finds = found4;
  had = found_since_law shape again (stopped ∷ made ∷ []) (now booted3) (first 2) lived3 start4 found4;
}
