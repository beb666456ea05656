-- What the word `format` does, and each call that makes a file, is a making.
use Rattle.std.proofs.Common.{◌≡◌, inl, inr, ℕ, List, [], Option, Some, Result, Ok, Err, refl, subst}
use Rattle.{df_base.{specs.{Log.{Event}, Moments.{Extends}}, proofs.Laws.{one_some}}, df_layout.specs.declared.layout.Layout.{Layout}}
use Rattle.{df_disk.{specs.Told.{IsHonest, Told}, proofs.Laws.{goes_told}}, df_model.specs.declared.errors.FormatError.{FormatError}}
use Rattle.df_model.specs.declared.errors.FormatError.TheVariants as formats
use Rattle.df_session.{specs.{Formatting.{AddsFormat}, Making.{MakingLeaves, MayMakeOn, making_events}, Opened.{ToldBy}}, proofs.Laws.{part_told}}
use Rattle.df_top.specs.{Formats.{Formats, MakesOn}, declared.status.Status.{Status}, declared.status.Status.TheVariants.{Done, Found, Words, Script, Refused, DiskFault, ReadFault, WriteFault, Memory}}
use Rattle.df_lifetime.specs.Programs.{CallIsMaking, WordIsMaking}

-- what was told by events goes on from what was told
module _ (t n : Told) (by : ToldBy (Some t) (Some n)) where
  told_grew : Extends n.log t.log
  told_grew = let goes = goes_told t (Some n) by in
      subst (λ (x : Told). Extends x.log t.log) (one_some (Some n) goes.0 n goes.1 refl) goes.2.grew

  told_honest : IsHonest t → IsHonest n
  told_honest honest = let goes = goes_told t (Some n) by in subst IsHonest (one_some (Some n) goes.0 n goes.1 refl) (goes.2.honest honest)

-- ---- a call

call_told : (es : List Event) (old new : Option Told) (r : Result (Unit {0}) FormatError) → AddsFormat es old new r → ToldBy old new
call_told es old new (Ok x) is = (es, is)
call_told es old new (Err formats.DiskFault) is = part_told es old new is.0
call_told es old new (Err formats.ClusterZero) is = ([], is)
call_told es old new (Err (formats.NotBlank copy)) is = ([], is)

pub call_is_making : CallIsMaking
call_is_making layout cluster t n result makable honest made =
    let by = call_told (making_events layout cluster) (Some t) (Some n) result made.events in
    record { grew = told_grew t n by; honest = told_honest t n by honest; leaves = made.makes t n refl refl makable }

-- ---- the word

module _ (layout : Layout) (cluster : ℕ) (t n : Told) where
  abbrev events : List Event
  events = making_events layout cluster

  word_told : (old new : Option (List ℕ)) (status : Status)
      → Formats layout cluster (Some t) (Some n) old new status → ToldBy (Some t) (Some n)
  word_told old new Done made = (events, made.0.events)
  word_told old new Refused refuses = ([], refuses.1.same)
  word_told old new DiskFault part = part_told events (Some t) (Some n) part.1
  word_told old new WriteFault (inl made) = (events, made.0.events)
  word_told old new WriteFault (inr refuses) = ([], refuses.1.same)
  word_told old new Memory nothing = ([], nothing.0)
  word_told old new Found none = absurd none
  word_told old new Words none = absurd none
  word_told old new Script none = absurd none
  word_told old new ReadFault none = absurd none

  module _ (makable : MayMakeOn layout cluster t) where
    abbrev Ends : Status → Type 0
    Ends status = (result : Result (Unit {0}) FormatError) × (status ≡ Done → result ≡ Ok tt) × MakingLeaves layout cluster t makable n result

    failed : (status : Status) → (status ≡ Done → ⊥) → MakesOn layout cluster t makable (Some n) status → Ends status
    failed status other makes = (
      Err formats.DiskFault,
      (λ done. absurd (other done)),
      rw (← (one_some (Some n) makes.after n makes.is refl)) (record { moments = makes.moments; made = tt }),
    )

    ends_as : (status : Status) → MakesOn layout cluster t makable (Some n) status → Ends status
    ends_as Done makes =
        (Ok tt, (λ done. refl), rw (← (one_some (Some n) makes.after n makes.is refl)) (record { moments = makes.moments; made = makes.made refl }))
    ends_as Refused makes = failed Refused (λ no. cc) makes
    ends_as DiskFault makes = failed DiskFault (λ no. cc) makes
    ends_as WriteFault makes = failed WriteFault (λ no. cc) makes
    ends_as Memory makes = failed Memory (λ no. cc) makes
    ends_as Found makes = failed Found (λ no. cc) makes
    ends_as Words makes = failed Words (λ no. cc) makes
    ends_as Script makes = failed Script (λ no. cc) makes
    ends_as ReadFault makes = failed ReadFault (λ no. cc) makes

pub word_is_making : WordIsMaking
word_is_making layout cluster t n status makable honest word wanting =
    let by = word_told layout cluster t n word.old word.new status word.formats in
    let ends = ends_as layout cluster t n makable status (word.makes t makable wanting refl honest) in
    (ends.0, ends.1, record { grew = told_grew t n by; honest = told_honest t n by honest; leaves = ends.2 })
