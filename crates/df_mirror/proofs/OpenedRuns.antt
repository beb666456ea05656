-- A run that ends as Done or Found mended known units, and shows them all.
use Rattle.std.{proofs.{Common.{◌≡◌, ◌⊎◌, inl, inr, ℕ, List, Option, refl, sym, ◌∙◌, ap}, lemmas.Option.{same_Some}}, specs.Prelude.{Result, Ok, Err}}
use Rattle.{df_base.specs.{Image.{Image, IsImage}, Log.{Sync}}, df_disk.specs.Told.{Told, did}, df_format.specs.Copies.{content_with}}
use Rattle.{df_theory.specs.{Copies.{IsChosen}, Found.{IsFound}}, df_units.proofs.Laws.{choice_chosen}, df_opening.specs.Below.{shape}}
use Rattle.df_damage.{specs.{Anew.{told_after}, Histories.{MayReopen}, Unrefused.{IsNotRefused}}, proofs.Laws.{same_goes_on, super_is_written_as}}
use Rattle.df_program.proofs.Laws.{refusal_ends, text_ends}
use Rattle.df_mirror.{specs.{declared.ending.Ending.{Ending}, declared.ending.Ending.TheVariants.{First, Neither, Second, Sink, Unopened}, declared.status.Status.{Status}, Known.{AllShown}, Laws.{HasWoken, MendedIsOpened, NoneCameBack}, Mends.{AnswersMending, AreInOrder, Came, mirrored_events, units_shown}, Run.{TellsEnd}, Texts.{neither_text}, Walks.{content_of_superblock}}, proofs.{OpenedFiles.{mirrored_is_opened}, Runs.{mends_alike}}}
use Rattle.df_mirror.specs.declared.status.Status.TheVariants as ends

-- the two statuses of a run that came to its end
abbrev pub EndsWell : Status → Type 0
EndsWell status = (status ≡ ends.Done) ⊎ (status ≡ ends.Found)

neither : (status : Status) → EndsWell status → (status ≡ ends.Done → ⊥) → (status ≡ ends.Found → ⊥) → ⊥
neither status (inl done) one two = one done
neither status (inr found) one two = two found

-- only of this many units
pub ends_well : (result : Result ℕ Ending) (old new : Option (List ℕ)) (status : Status)
    → TellsEnd result old new status → EndsWell status → (count : ℕ) × (result ≡ Ok count)
ends_well (Ok count) old new status tells well = (count, refl)
ends_well (Err (Neither place class)) old new status tells well = absurd (neither
    status well (text_ends ends.WriteFault (neither_text place class) ends.Refused ends.Done old new status tells (λ no. cc) (λ no. cc))
    (text_ends ends.WriteFault (neither_text place class) ends.Refused ends.Found old new status tells (λ no. cc) (λ no. cc)))
ends_well (Err (Unopened e)) old new status tells well = absurd (neither
    status well (refusal_ends ends.Refused ends.DiskFault ends.WriteFault ends.Done e old new status tells (λ no. cc) (λ no. cc) (λ no. cc))
    (refusal_ends ends.Refused ends.DiskFault ends.WriteFault ends.Found e old new status tells (λ no. cc) (λ no. cc) (λ no. cc)))
ends_well (Err First) old new status tells well = let is = tells.0 in
    absurd (neither status well (λ done. cc (is, done)) (λ found. cc (is, found)))
ends_well (Err Second) old new status tells well = let is = tells.0 in
    absurd (neither status well (λ done. cc (is, done)) (λ found. cc (is, found)))
ends_well (Err Sink) old new status tells well = let is = tells.0 in
    absurd (neither status well (λ done. cc (is, done)) (λ found. cc (is, found)))

pub mended_is_opened : MendedIsOpened
mended_is_opened view base t o n logs old new status is tell shows well told found unspent hurt may own = let b = is.base in
    let c = content_of_superblock b in let end = ends_well is.mirrored.result is.mirrored.text new.written status is.mirrored.tells well in
    let came : Came b.file c AreInOrder (did Sync t) o new.first old.written is.mirrored.text (λ ms after. end.0 ≡ _) =
    rw end.1 at is.mirrored.answers in let after : came.after ≡ n = same_Some came.after n (sym came.after_is ∙ told) in
    let m : Told = told_after (mirrored_events b.file came.mends) (did Sync base) in
    let same : n.shown ≡ m.shown = ap (λ (x : Told). x.shown) (sym after ∙ came.does.told)
    ∙ sym (same_goes_on (mirrored_events b.file came.mends) (did Sync t) (did Sync base) shows) in
    let chosen : IsChosen (units_shown b.file t.shown) c = choice_chosen b.file.layout b.file.cluster
    t.shown (content_with b.content) tell.whole (super_is_written_as b.file.version t.shown b.content tell.whole is.has.super) in
    let opened : IsFound (shape b.file) (units_shown b.file m.shown) view × IsNotRefused b.file m.shown =
    mirrored_is_opened b.file view c o.shown base m logs came.mends found unspent hurt (rw same at may)
    (rw same at own) (rw (sym shows) at tell.whole) (rw (sym shows) at chosen)
    (mends_alike b.file c o.shown (did Sync t) (did Sync base) came.mends shows came.does.are)
    refl (rw same at (is.mirrored.shown end.0 n end.1 told)) in rw (sym same) at opened
