-- Device calls that put no header leave the header ring as it was shown.
use Rattle.std.proofs.{Common.{◌≡◌, ◌∙◌, ℕ, List, [], ◌∷◌, Some, None, sym, ap, subst}, lemmas.Option.{same_Some}}
use Rattle.df_base.{proofs.Laws.{now_is_image, written_is_image}, specs.{Image.{IsImage}, Log.{Event, IsLog, Stop, Sync, Write, now}}}
use Rattle.{df_disk.specs.{Told.{Told, did}, Adds.{after_all}}, df_format.specs.declared.header.Header.{Header}}
use Rattle.{df_journal.specs.Append.{ShowsRing}, df_layout.specs.declared.layout.Layout.{Layout}}
use Rattle.df_theory.specs.{Device.{AreSteps}, Runs.{Puts, Step, Syncs}, Units.{HeaderPlace, or_else}}
use Rattle.df_units.specs.{Bytes.{unit_at}, Format.{format_of}}

-- none of these steps puts a header
abbrev pub SpareRing : List Step → Type 0
SpareRing [] = Unit {0}
SpareRing ((Puts put) ∷ steps) = ((slot : ℕ) → put (HeaderPlace slot) ≡ None) × SpareRing steps
SpareRing (Syncs ∷ steps) = SpareRing steps

module _ (layout : Layout) (cluster : ℕ) (hs : List Header) where
  spared : (events : List Event) (steps : List Step) (t n : Told) → AreSteps (format_of layout cluster) events steps
      → SpareRing steps → IsImage (now t.log) → ShowsRing layout cluster (now t.log) hs → Some n ≡ after_all events (Some t)
      → ShowsRing layout cluster (now n.log) hs
  spared [] [] t n are spare image ring all = subst (λ (x : Told). ShowsRing layout cluster (now x.log) hs) (sym (same_Some _ _ all)) ring
  spared [] (p ∷ ss) t n are spare image ring all = absurd are
  spared ((Write at bytes) ∷ es) ((Puts put) ∷ ss) t n are spare image ring all =
      spared es ss (did (Write at bytes) t) n are.1 spare.1 (written_is_image at bytes (now t.log) are.0.piece image)
      (λ slot h there. are.0.shows (now t.log) (HeaderPlace slot) image
      ∙ ap (λ o. or_else o (unit_at layout cluster (now t.log) (HeaderPlace slot))) (spare.0 slot) ∙ ring slot h there) all
  spared ((Write at bytes) ∷ es) [] t n are spare image ring all = absurd are
  spared ((Write at bytes) ∷ es) (Syncs ∷ ss) t n are spare image ring all = absurd are
  spared (Sync ∷ es) (Syncs ∷ ss) t n are spare image ring all = spared es ss (did Sync t) n are spare image ring all
  spared (Sync ∷ es) [] t n are spare image ring all = absurd are
  spared (Sync ∷ es) ((Puts put) ∷ ss) t n are spare image ring all = absurd are
  spared ((Stop cs) ∷ es) ss t n are spare image ring all = absurd are

  pub ring_spared : (events : List Event) (steps : List Step) (t n : Told) → IsLog t.log → AreSteps (format_of layout cluster) events steps
      → SpareRing steps → ShowsRing layout cluster (now t.log) hs → Some n ≡ after_all events (Some t)
      → ShowsRing layout cluster (now n.log) hs
  ring_spared events steps t n log are spare ring all =
      spared events steps t n are spare (now_is_image t.log.start t.log.events log.start log.events) ring all
