-- A disk on which a file may be opened shows an image in which its view is found.
use Rattle.{std.proofs.Common.{◌≡◌, sym, subst}, df_base.{specs.{Image.{Image, IsImage}, Log.{now}}, proofs.Laws.{now_is_image}}}
use Rattle.{df_damage.{proofs.Laws.{found_is_not_refused}, specs.Below.{shape}}, df_theory.specs.Found.{IsFound}}
use Rattle.{df_units.specs.Bytes.{unit_at}, df_opening.specs.Completeness.{SafeIsNotRefused}}

pub safe_is_not_refused : SafeIsNotRefused
safe_is_not_refused file view t may unspent = let shows : now t.log ≡ t.shown = λ i sector. sym (may.honest.shows sector) i in
    let whole : IsImage t.shown = subst IsImage shows (now_is_image t.log.start t.log.events may.safe.is_log.start may.safe.is_log.events) in
    (whole, found_is_not_refused file t.shown view may.version unspent whole (subst (λ (image : Image). IsFound (shape file) (unit_at file.layout file.cluster image) view) shows may.found))
