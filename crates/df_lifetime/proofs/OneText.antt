-- A word that is carried out twice, over disks that show the same, prints one text.
use Rattle.{std.proofs.Common.{◌≡◌, inl, inr, ℕ, List, Option, refl, sym, ◌∙◌, ap, subst}, df_base.specs.{Image.{Image}, Streams.{Appends}}}
use Rattle.{df_disk.specs.Told.{Told}, df_inspect.specs.Reports.{summary_text}, df_layout.specs.declared.layout.Layout.{Layout}}
use Rattle.df_session.specs.{Below.{IsOpened, State as Replica}, Replica.{summary_of}, Found.{FoundFile}}
use Rattle.df_top.{specs.{OneText.{ShowSame}, Outside.{Outside, PrintsLine}, Reporting.{Recovers}, declared.status.Status.{Status}, declared.status.Status.TheVariants.{Done}}, proofs.Laws.{summary_same}}
use Rattle.df_lifetime.{specs.Printed.{Carried, HasEnded, OnFile, PrintsOne, RecoverHasOneText}, proofs.Alike.{fields_alike, file_alike, memory_alike, summary_there}}

-- ---- a text that is printed

-- the sink didn't fail
ended_whole : (line : List ℕ) (given status : Status) (old new : Option (List ℕ))
    → HasEnded status → PrintsLine line given old new status → (status ≡ given) × Appends old new line
ended_whole line given status old new ended (inl whole) = whole
ended_whole line given status old new ended (inr part) = absurd (subst HasEnded part.0 ended)

-- where one text with one status is printed twice
pub same_prints : (line text : List ℕ) (given wanted : Status) (Word : Told → Outside → Outside → Status → Type 0)
    (one other : Carried Word) → line ≡ text → given ≡ wanted → HasEnded one.status → HasEnded other.status
    → PrintsLine line given one.old.written one.new.written one.status
    → PrintsLine text wanted other.old.written other.new.written other.status → PrintsOne one other
same_prints line text given wanted Word one other same is ended ending first second =
    let here = ended_whole line given one.status one.old.written one.new.written ended first in
    let there = ended_whole text wanted other.status other.old.written other.new.written ending second in
    record { status = here.0 ∙ is ∙ sym there.0; text = text; first = rw same at here.1; second = there.1 }

-- ---- the summary

summary_alike : (layout : Layout) (a b : Image)
    → ShowSame layout a b → (s u : Replica) → IsOpened layout a s → IsOpened layout b u → summary_of s ≡ summary_of u
summary_alike layout a b same s u one other = summary_same
    s u (file_alike layout a b same s u one other) (fields_alike layout a b same s u one other) (memory_alike layout a b same s u one other)

pub recover_has_one_text : RecoverHasOneText
recover_has_one_text layout runs = let first : FoundFile layout runs.one.told = runs.one.does.0 in
    let second : FoundFile layout runs.other.told = runs.other.does.0 in same_prints (summary_text (summary_of first.replica))
    (summary_text (summary_of second.replica)) Done Done (OnFile layout (Recovers layout)) runs.one runs.other
    (ap summary_text (summary_there layout runs.one.told first ∙ summary_alike layout runs.one.told.shown runs.other.told.shown runs.same first.found second.found first.is_opened second.is_opened ∙ sym (summary_there layout runs.other.told second))) refl runs.ended.0 runs.ended.1 runs.one.does.1.prints runs.other.does.1.prints
