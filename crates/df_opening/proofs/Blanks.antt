-- Whether the sectors of the copies are blank, by the slots that they were read into.
use Rattle.std.{specs.Prelude.{Ok, Err}, proofs.{Common.{◌≡◌, inr, ◌∙◌, ℕ, ◌<◌, List, get_or, Option, Some, None, sym, arith}, lemmas.Bool.{false_from_ne_true}}}
use Rattle.{df_base.specs.Image.{Image}, df_disk.specs.Told.{Told}, df_model.specs.declared.errors.FormatError.TheVariants.{NotBlank}}
use Rattle.df_quorum.specs.{declared.slot.Slot.{Slot}, Quorum.{nothing}}
use Rattle.df_superblock.{specs.{Calls.{slot_at, ShowsSlots}, Blank.{AreBlank, IsFirstWrittenOf}}, proofs.Laws.{blank_shown, shown_blank, unformatted}}
use Rattle.df_opening.specs.Formatting.{IsFirstWritten, OnlyOnBlank, TellsBlank}

first_written : (image : Image) (slots : List Slot) (copy : ℕ)
    → ((n : ℕ) → n < 4 → get_or slots n nothing ≡ slot_at image n) → IsFirstWrittenOf slots copy → IsFirstWritten image copy
first_written image slots copy shown is = record {
  inside = is.inside;
  written = false_from_ne_true _ (λ zeros. is.written (shown copy is.inside ∙ shown_blank image copy zeros));
  before = λ n below. let inside : n < 4 = (let low : copy < 4 = is.inside in omega arith) in
      blank_shown image n (sym (shown n inside) ∙ is.before n below);
}

pub tells_written : (T : Type 0) (told : Option Told) (slots : List Slot) (copy : ℕ)
    → ShowsSlots told slots → IsFirstWrittenOf slots copy → TellsBlank {T = T} told (Err (NotBlank copy))
tells_written T None slots copy shown is = tt
tells_written T (Some t) slots copy shown is = first_written t.shown slots copy shown is

pub tells_blank : (T : Type 0) (told : Option Told) (slots : List Slot) (x : T)
    → ShowsSlots told slots → AreBlank slots 4 → TellsBlank {T = T} told (Ok x)
tells_blank T None slots x shown blank = tt
tells_blank T (Some t) slots x shown blank = unformatted t.shown slots shown blank

-- where they are blank, whatever is done is done to a blank disk
pub blank_alone : (T : Type 0) (old new : Option Told) (x : T) → TellsBlank {T = T} old (Ok x) → OnlyOnBlank old new
blank_alone T None new x blank = tt
blank_alone T (Some t) new x blank = inr blank
