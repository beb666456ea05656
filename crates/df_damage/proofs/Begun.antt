-- A log restarted goes on as the whole one does.
use Rattle.std.proofs.{Common.{◌≡◌, inl, inr, ℕ, Bool, ◌||◌, List, [], ◌∷◌, Some, refl, sym, ◌∙◌, ap}, lemmas.Option.{same_Some}}
use Rattle.df_base.specs.{Image.{Image, changed, covers, written}, Log.{AreLoose, Event, IsLeft, Log, Stop, Sync, Write, add, after_event, loose, loose_of, now}}
use Rattle.df_disk.{specs.{Told.{Told, did}, Adds.{AddsPart}}, proofs.Laws.{honest_did}}
use Rattle.df_damage.specs.Anew.{AddedIsTold, BarrierBegins, BegunIsHonest, HonestStays, LeavesTheSame, PartIsEvents, SameGoesOn, StopsAlike, restarted, told_after}

pub begun_is_honest : BegunIsHonest
begun_is_honest t = record { shows = λ sector. refl }

pub honest_stays : HonestStays
honest_stays [] t honest = honest
honest_stays (e ∷ es) t honest = honest_stays es (did e t) (honest_did e t honest)

pub barrier_begins : BarrierBegins
barrier_begins t = refl

pub added_is_told : AddedIsTold
added_is_told [] t = refl
added_is_told (e ∷ es) t = added_is_told es (did e t)

pub same_goes_on : SameGoesOn
same_goes_on [] t b same = same
same_goes_on (e ∷ es) t b same = same_goes_on es (did e t) (did e b) (ap (after_event e) same)

-- all of it, or a front of it
again_none : (events : List Event) (b : Told) → AddsPart events (Some b) (Some b)
again_none [] b = refl
again_none (e ∷ es) b = inl refl

pub part_is_events : PartIsEvents
part_is_events [] t n is = record { part = []; is = same_Some n t is; again = λ b. refl }
part_is_events (e ∷ es) t n (inl is) = record { part = []; is = same_Some n t is; again = again_none (e ∷ es) }
part_is_events (e ∷ es) t n (inr more) = let rest = part_is_events es (did e t) n more in
    record { part = e ∷ rest.part; is = rest.is; again = λ b. inr (rest.again (did e b)) }

-- ---- what stops leave

-- two logs leave the same images
record Alike (a b : Log) : Type 0 where
  pub wet : (sector : ℕ) → loose a sector ≡ loose b sector
  pub image : now a ≡ now b

alike_add : (e : Event) (a b : Log) → Alike a b → Alike (add e a) (add e b)
alike_add (Write at bytes) a b alike =
    record { wet = λ sector. ap (λ (x : Bool). covers at bytes sector || x) (alike.wet sector); image = ap (written at bytes) alike.image }
alike_add Sync a b alike = record { wet = λ sector. refl; image = alike.image }
alike_add (Stop changes) a b alike = record { wet = λ sector. refl; image = ap (changed changes) alike.image }

alike_after : (events : List Event) (t b : Told) → Alike t.log b.log → Alike (told_after events t).log (told_after events b).log
alike_after [] t b alike = alike
alike_after (e ∷ es) t b alike = alike_after es (did e t) (did e b) (alike_add e t.log b.log alike)

left_alike : (a b : Log) (image : Image) → Alike a b → IsLeft a image → IsLeft b image
left_alike a b image alike left = record {
  whole = left.whole;
  kept = λ sector dry. left.kept sector (alike.wet sector ∙ dry) ∙ ap (λ (x : Image). x sector) alike.image;
}

alike_back : (a b : Log) → Alike a b → Alike b a
alike_back a b alike = record { wet = λ sector. sym (alike.wet sector); image = sym alike.image }

pub leaves_the_same : LeavesTheSame
leaves_the_same events t image honest still =
    let start : Alike t.log (restarted t).log = record { wet = still; image = λ i sector. sym (honest.shows sector) i } in
    let then = alike_after events t (restarted t) start in
    (left_alike (told_after events t).log (told_after events (restarted t)).log image then, left_alike (told_after events (restarted t)).log (told_after events t).log image (alike_back (told_after events t).log (told_after events (restarted t)).log then))

-- ---- after a barrier

wet_add : (e : Event) (a b : Log)
    → ((sector : ℕ) → loose a sector ≡ loose b sector) → (sector : ℕ) → loose (add e a) sector ≡ loose (add e b) sector
wet_add (Write at bytes) a b same sector = ap (λ (x : Bool). covers at bytes sector || x) (same sector)
wet_add Sync a b same sector = refl
wet_add (Stop changes) a b same sector = refl

wet_after : (events : List Event) (t b : Told) → ((sector : ℕ) → loose t.log sector ≡ loose b.log sector)
    → (sector : ℕ) → loose (told_after events t).log sector ≡ loose (told_after events b).log sector
wet_after [] t b same sector = same sector
wet_after (e ∷ es) t b same sector = wet_after es (did e t) (did e b) (wet_add e t.log b.log same) sector

loose_too : (es fs : List Event)
    → ((sector : ℕ) → loose_of es sector ≡ loose_of fs sector) → (changes : List (ℕ × List ℕ)) → AreLoose es changes → AreLoose fs changes
loose_too es fs same [] are = tt
loose_too es fs same (c ∷ cs) are = (sym (same c.0) ∙ are.0, are.1, loose_too es fs same cs are.2)

pub stops_alike : StopsAlike
stops_alike events t b changes same are = (
  loose_too (told_after events (did Sync t)).log.events
      (told_after events (did Sync b)).log.events (wet_after events (did Sync t) (did Sync b) (λ sector. refl)) changes are,
  ap (changed changes) (same_goes_on events (did Sync t) (did Sync b) same),
)
