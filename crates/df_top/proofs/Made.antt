-- A file that is made on an honest disk.
use Rattle.{std.proofs.Common.{◌≡◌, ℕ, List, Option, Some, [], refl, subst, Result, Ok, Err, OnOk}, df_base.specs.Log.{Event}}
use Rattle.{df_disk.{specs.Told.{IsHonest, Told}, proofs.Laws.{goes_told}}, df_layout.specs.declared.layout.Layout.{Layout}}
use Rattle.{df_model.specs.declared.errors.FormatError.{FormatError}, df_program.proofs.Laws.{text_ends}}
use Rattle.df_model.specs.declared.errors.FormatError.TheVariants as formats
use Rattle.df_session.{specs.{Formatting.{AddsFormat}, Making.{MakingLeaves, MayMakeOn, making_events}, Opened.{ToldBy}}, proofs.Laws.{part_told}}
use Rattle.df_top.specs.{Formats.{MakesOn}, Refusing.{PrintsFormatError}, declared.status.Status.{Status}, declared.status.Status.TheVariants.{Done, Refused, WriteFault}}

format_told : {T : Type 0} (es : List Event) (old new : Option Told) (r : Result T FormatError) → AddsFormat es old new r → ToldBy old new
format_told es old new (Ok x) is = (es, is)
format_told es old new (Err formats.DiskFault) is = part_told es old new is.0
format_told es old new (Err formats.ClusterZero) is = ([], is)
format_told es old new (Err (formats.NotBlank copy)) is = ([], is)

on_ok : (T P : Type 0) (r : Result T FormatError) (x : T) → r ≡ Ok x → OnOk r P → P
on_ok T P r x is has = subst (λ (q : Result T FormatError). OnOk q P) is has

module _ (layout : Layout) (cluster : ℕ) (before : Told) (may : MayMakeOn layout cluster before)
    (told new : Option Told) (status : Status) (is : told ≡ Some before) (honest : IsHonest before) where
  pub makes_on : {T : Type 0} (r : Result T FormatError) → AddsFormat (making_events layout cluster) told new r → ((n : Told) → new ≡ Some n
      → MakingLeaves layout cluster before may n r) → (status ≡ Done → (x : T) × (r ≡ Ok x)) → MakesOn layout cluster before may new status
  makes_on {T} r events makes done =
      let by : ToldBy (Some before) new = rw is at (format_told (making_events layout cluster) told new r events) in
      let goes = goes_told before new by in let made = makes goes.0 goes.1 in record {
        after = goes.0;
        is = goes.1;
        honest = goes.2.honest honest;
        moments = made.moments;
        made = λ yes. on_ok T _ r (done yes).0 (done yes).1 made.made;
      }

-- a format that is refused, or in which the disk failed, doesn't end with Done
pub not_done : (e : FormatError) (old new : Option (List ℕ)) (status : Status) → PrintsFormatError e old new status → status ≡ Done → ⊥
not_done formats.DiskFault old new status prints is = absurd (cc ((prints.fault refl).0, is))
not_done formats.ClusterZero old new status prints is =
    text_ends WriteFault _ Refused Done old new status (prints.other (λ no. cc)) (λ no. cc) (λ no. cc) is
not_done (formats.NotBlank copy) old new status prints is =
    text_ends WriteFault _ Refused Done old new status (prints.other (λ no. cc)) (λ no. cc) (λ no. cc) is
