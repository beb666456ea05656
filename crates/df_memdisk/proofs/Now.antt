-- What is shown is what the newest event that changed a sector gave it.
use Rattle.std.{proofs.Common.{◌≡◌, ℕ, ◌==◌, List, [], ◌∷◌, Option, Some, None, Bool, true, false, unwrap_or, refl, sym, ap, ◌∙◌}, specs.Prelude.{if◌then◌else◌}}
use Rattle.df_base.specs.{Image.{Image, covers, written, changed}, Log.{Event, Write, Sync, Stop, now_of, after_event}}
use Rattle.df_memdisk.specs.Newest.{first_some, last_change, given_by, newest_of}

unwrap-first : (a b : Option (List ℕ)) (rest : List ℕ) → unwrap_or (first_some a b) rest ≡ unwrap_or a (unwrap_or b rest)
unwrap-first None b rest = refl
unwrap-first (Some x) b rest = refl

unwrap-if : (test : Bool) (bytes rest : List ℕ) → (if test then bytes else rest) ≡ unwrap_or (if test then Some bytes else None) rest
unwrap-if true bytes rest = refl
unwrap-if false bytes rest = refl

changed_is : (cs : List (ℕ × List ℕ)) (image : Image) (sector : ℕ) → changed cs image sector ≡ unwrap_or (last_change cs sector) (image sector)
changed_is [] image sector = refl
changed_is (c ∷ cs) image sector = changed_is cs (λ s. if s == c.0 then c.1 else image s) sector
    ∙ ap (λ (rest : List ℕ). unwrap_or (last_change cs sector) rest) (unwrap-if (sector == c.0) c.1 (image sector))
    ∙ sym (unwrap-first (last_change cs sector) (if sector == c.0 then Some c.1 else None) (image sector))

pub after_is : (e : Event) (image : Image) (sector : ℕ) → after_event e image sector ≡ unwrap_or (given_by e sector) (image sector)
unfolding written
after_is (Write at bytes) image sector = unwrap-if (covers at bytes sector) _ (image sector)
after_is Sync image sector = refl
after_is (Stop cs) image sector = changed_is cs image sector

pub now_is : (start : Image) (es : List Event) (sector : ℕ) → now_of start es sector ≡ unwrap_or (newest_of es sector) (start sector)
now_is start [] sector = refl
now_is start (e ∷ es) sector = after_is e (now_of start es) sector
    ∙ ap (λ (rest : List ℕ). unwrap_or (given_by e sector) rest) (now_is start es sector)
    ∙ sym (unwrap-first (given_by e sector) (newest_of es sector) (start sector))
