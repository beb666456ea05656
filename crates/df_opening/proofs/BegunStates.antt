-- The state after the boot update of what an open finds stands for what the machine begins calls with, whatever was done to the image.
use Rattle.{std.proofs.Common.{◌≡◌, ◌∙◌, ◌<◌, ◌^◌, None, ap, subst, sym}, df_base.specs.Image.{IsImage}, df_disk.specs.Told.{Told}}
use Rattle.df_theory.{specs.{Found.{IsFound}, Units.{Content}, View.{View, boot_of}}, proofs.Laws.{one_found_law}}
use Rattle.df_units.specs.Bytes.{unit_at}
use Rattle.df_model.{specs.{Making.{boot_content}, Memory.{Memory, memory_of}, Sense.{IsWork}, Work.{Work, raised}}, proofs.Laws.{raised_law}}
use Rattle.df_damage.{specs.{Below.{State, boot_fields, memory, shape, spelling}, Surveys.{IsOpenedAs}}, proofs.Laws.{super_as}}
use Rattle.df_opening.{specs.{Keeping.{Firm, Keeps}, Mending.{begun_state, first_state, raised_state}, Raising.{raised_content}}, proofs.{Opens.{found_keeps}, RaiseSteps.{raised_is, sum_of}}}

pub begun_keeps : (s : State) (t : Told) (view : View) → IsImage t.shown → IsOpenedAs 2 s.file.layout t.shown s → IsFound (shape s.file)
    (unit_at s.file.layout s.file.cluster t.shown) view → Keeps Firm (raised_state s) (begun_state s.file t view (boot_fields s)) None
begun_keeps s t view whole is found = let sh = shape s.file in let w : Work = first_state s.file t view in
    let keeps = found_keeps s t.shown view whole is found in
    let one : is.view ≡ view = one_found_law sh (unit_at s.file.layout s.file.cluster t.shown) is.view view is.found found in
    let d : Content = boot_content (memory_of sh (spelling s.file) w) (sum_of s) in
    let content : raised_content s ≡ d = raised_is s ((super_as s.file.version s.fields is.has.super.usable).0 ∙ is.of.version_is)
    ∙ ap (λ (m : Memory). boot_content m (sum_of s)) keeps.1 in
    let raises = raised_law sh (spelling s.file) w (sum_of s) keeps.0 (subst (λ (v : View). boot_of v < 2 ^ 62) one is.unspent) in (
      subst (λ (c : Content). IsWork sh (spelling s.file) (raised w c)) (sym content) raises.sense,
      subst (λ (c : Content). record (memory s) { content = c } ≡ memory_of sh (spelling s.file) (raised w c))
          (sym content) (ap (λ (m : Memory). record m { content = d }) keeps.1 ∙ sym raises.memory),
    )
