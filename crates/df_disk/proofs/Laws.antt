-- What a call says of its moments that added some events, or a part of them; and events that are told one after the other.
use Rattle.std.{proofs.{Common.{◌≡◌, inl, inr, List, [], ◌∷◌, ◌++◌, Option, Some, None, refl, sym, ap, ◌∙◌, subst, Result, Ok, Err}, lemmas.Bool.{false≢true}}, specs.Prelude.{IsErr}}
use Rattle.df_base.{specs.{Image.{changed, written}, Log.{Event, Log, Stop, Sync, Write}, Moments.{Extends, adds}}, proofs.Laws.{AtEach, extends_on, extends_self, stands, goes_on}}
use Rattle.df_disk.specs.{Told.{IsHonest, Told, after, did}, Adds.{Adds, AddsPart, PassedTo, after_all}}

-- all events are a part of them
pub all_is_part : (es : List Event) (old new : Option Told) → new ≡ after_all es old → AddsPart es old new
all_is_part [] old new is = is
all_is_part (e ∷ es) old new is = inr (all_is_part es (after e old) new is)

pub adds_part : {T E : Type 0} → (es : List Event) (old new : Option Told) (result : Result T E) → Adds es old new result → AddsPart es old new
adds_part es old new (Ok x) is = all_is_part es old new is
adds_part es old new (Err e) is = is

part_passes : (P : Log → Type 0) (es : List Event) (t : Told) (new : Option Told)
    → AtEach P t.log es → AddsPart es (Some t) new → PassedTo t new P
part_passes P [] t new each is = subst (λ (o : Option Told). PassedTo t o P) (sym is) (stands P t.log each)
part_passes P (e ∷ es) t new each (inl is) = subst (λ (o : Option Told). PassedTo t o P) (sym is) (stands P t.log each.0)
part_passes P (e ∷ es) t None each (inr is) = part_passes P es (did e t) None each.1 is
part_passes P (e ∷ es) t (Some u) each (inr is) = goes_on P e t.log u.log each.0 (part_passes P es (did e t) (Some u) each.1 is)

-- a fact at each moment of some events is one of each moment of a call that adds them or a part of them
pub passes : {T E : Type 0} → (P : Log → Type 0) (es : List Event) (t : Told) (new : Option Told) (result : Result T E)
    → AtEach P t.log es → Adds es (Some t) new result → PassedTo t new P
passes P es t new result each is = part_passes P es t new each (adds_part es (Some t) new result is)

-- some of these events, and the others after them
pub part_then : (es fs : List Event) (old new : Option Told) → AddsPart es old new → AddsPart (es ++ fs) old new
part_then [] [] old new is = is
part_then [] (f ∷ fs) old new is = inl is
part_then (e ∷ es) fs old new (inl is) = inl is
part_then (e ∷ es) fs old new (inr is) = inr (part_then es fs (after e old) new is)

pub all_then : (es fs : List Event) (old mid new : Option Told) → mid ≡ after_all es old → AddsPart fs mid new → AddsPart (es ++ fs) old new
all_then [] fs old mid new is later = subst (λ (o : Option Told). AddsPart fs o new) is later
all_then (e ∷ es) fs old mid new is later = inr (all_then es fs (after e old) mid new is later)

-- the log that is told after events
pub told_log : (es : List Event) (t : Told) → (u : Told) × (after_all es (Some t) ≡ Some u) × (u.log ≡ adds es t.log)
told_log [] t = (t, refl, refl)
told_log (e ∷ es) t = told_log es (did e t)

pub after_append : (es fs : List Event) (old : Option Told) → after_all (es ++ fs) old ≡ after_all fs (after_all es old)
after_append [] fs old = refl
after_append (e ∷ es) fs old = after_append es fs (after e old)

-- events, and a call that adds others after them
pub adds_then : {T E : Type 0} → (es fs : List Event) (old mid new : Option Told) (result : Result T E)
    → mid ≡ after_all es old → Adds fs mid new result → Adds (es ++ fs) old new result
adds_then es fs old mid new (Ok x) is adds = adds ∙ ap (after_all fs) is ∙ sym (after_append es fs old)
adds_then es fs old mid new (Err e) is adds = all_then es fs old mid new is adds

-- a disk that tells goes on telling
pub tells_on : (es : List Event) (t : Told) → AddsPart es (Some t) None → ⊥
tells_on [] t part = cc
tells_on (e ∷ es) t (inl same) = cc
tells_on (e ∷ es) t (inr more) = tells_on es (did e t) more

-- an honest disk stays honest over an event
pub honest_did : (e : Event) (t : Told) → IsHonest t → IsHonest (did e t)
honest_did (Write at bytes) t honest = record { shows = λ sector i. written at bytes (λ s. honest.shows s i) sector }
honest_did Sync t honest = record { shows = honest.shows }
honest_did (Stop changes) t honest = record { shows = λ sector i. changed changes (λ s. honest.shows s i) sector }

-- what a disk that tells comes to: the log went on, and an honest disk stayed so
pub record Goes (t n : Told) : Type 0 where
  pub grew : Extends n.log t.log
  pub honest : IsHonest t → IsHonest n

pub goes_by : (es : List Event) (t : Told) (new : Option Told) → new ≡ after_all es (Some t) → (n : Told) × (new ≡ Some n) × Goes t n
goes_by [] t new is = (t, is, record { grew = extends_self t.log; honest = λ h. h })
goes_by (e ∷ es) t new is = let rest = goes_by es (did e t) new is in
    (rest.0, rest.1, record { grew = extends_on rest.0.log (did e t).log t.log rest.2.grew (e ∷ [], refl, refl); honest = λ h. rest.2.honest (honest_did e t h) })

pub goes_told : (t : Told) (new : Option Told) → (es : List Event) × (new ≡ after_all es (Some t)) → (n : Told) × (new ≡ Some n) × Goes t n
goes_told t new told = goes_by told.0 t new told.1

-- a device that isn't told stays one
pub none_after : (es : List Event) → after_all es None ≡ None
none_after [] = refl
none_after (e ∷ es) = none_after es

-- no events are a part of any
pub nothing_is_part : (es : List Event) (old new : Option Told) → new ≡ old → AddsPart es old new
nothing_is_part [] old new is = is
nothing_is_part (e ∷ es) old new is = inl is

-- a call that fails adds a part of its events
pub adds_failed : {T E : Type 0}
    → (es : List Event) (old new : Option Told) (result : Result T E) → IsErr result → AddsPart es old new → Adds es old new result
adds_failed es old new (Ok x) failed part = absurd (false≢true failed)
adds_failed es old new (Err e) failed part = part
