-- The laws of damage where version 2 is asked for, as an open does, of a view whose boot can be raised; and one of any view: its superblock
-- can be used.
use Rattle.{std.{proofs.Common.{◌≡◌, ◌<◌, ◌^◌, inr, refl}, specs.Prelude.{Result}}, df_base.specs.Image.{Image, IsImage}}
use Rattle.{df_disk.specs.Told.{Told}, df_layout.specs.declared.places.Zone.TheVariants.{Superblock, WalHeaders}}
use Rattle.{df_model.specs.declared.errors.OpenError.{OpenError}, df_theory.specs.{Found.{IsFound}, View.{View, boot_of}}}
use Rattle.{df_units.specs.Bytes.{unit_at}, df_recovery.specs.{Below.{DataFile, State, shape}, Opening.{Refuses}, Surveys.{Surveys}}}
use Rattle.df_damage.{specs.{Answers.{AnswersHurt}, Disks.{HasEqualCopies, MayBeHurt}, Hurt.{HasTwoCopies, IsHurtInside}, Openings.{OpensAsLeft}, Refusals.{ProbesHurt}, Unrefused.{IsNotRefused}}, proofs.{Answered.{answer_is_of_hurt_as}, NotRefused.{found_is_not_refused_as, found_is_usable as usable_as}, Opened.{headers_may_be_hurt_as, two_copies_are_enough_as}, Refused.{probe_is_of_hurt_as}}}

pub found_is_not_refused : (file : DataFile) (image : Image) (view : View) → file.version ≡ 2
    → boot_of view < 2 ^ 62 → IsImage image → IsFound (shape file) (unit_at file.layout file.cluster image) view → IsNotRefused file image
found_is_not_refused file image view version unspent whole found =
    found_is_not_refused_as 2 file image view (inr refl) version (λ two. unspent) whole found

pub found_is_usable : (file : DataFile) (image : Image) (view : View) → file.version ≡ 2
    → IsImage image → IsFound (shape file) (unit_at file.layout file.cluster image) view → (error : OpenError) → Refuses image error → ⊥
found_is_usable file image view version whole found error refuses = usable_as 2 file image view (inr refl) version whole found error refuses

pub two_copies_are_enough : (file : DataFile) (view : View) (t : Told) → MayBeHurt file view t
    → boot_of view < 2 ^ 62 → HasEqualCopies file t.log → HasTwoCopies t → IsHurtInside file.layout t Superblock → OpensAsLeft file view t
two_copies_are_enough file view t may unspent rest two inside = two_copies_are_enough_as 2 file view t may (λ same. unspent) rest two inside

pub headers_may_be_hurt : (file : DataFile) (view : View) (t : Told)
    → MayBeHurt file view t → boot_of view < 2 ^ 62 → IsHurtInside file.layout t WalHeaders → OpensAsLeft file view t
headers_may_be_hurt file view t may unspent inside = headers_may_be_hurt_as 2 file view t may (λ same. unspent) inside

pub probe_is_of_hurt : (file : DataFile) (view : View) (t : Told) → MayBeHurt file view t → ProbesHurt 2 file t
probe_is_of_hurt file view t may = probe_is_of_hurt_as 2 file view t may

pub answer_is_of_hurt : (file : DataFile) (view : View) (t : Told) (result : Result State OpenError)
    → MayBeHurt file view t → boot_of view < 2 ^ 62 → Surveys file.layout t.shown result → AnswersHurt file view t result
answer_is_of_hurt file view t result may unspent is = answer_is_of_hurt_as 2 file view t result may (λ same. unspent) is
