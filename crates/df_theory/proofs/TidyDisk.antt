-- A command from one tidy file to the next, on a disk.
use Rattle.std.proofs.Common.{sym}
use Rattle.df_theory.{specs.{Shape.{Shape}, View.{View}, UnitLog.{UnitLog}, Device.{Format, IsFormat, IsGoodWholeDisk, units_log}, TidyLaws.{IsGoodWhole, IsTidy}, WholeLaws.{IsStanding}, DeviceLaws.{StandingMomentsLaw, TidyMomentsLaw}}, proofs.Bridge.{safe_disk_law, firm_units, moments, moments_law, same_log}}
use Rattle.df_base.specs.Log

on_disk : (f : Format) (sh : Shape) (v u : View)
    → IsFormat f → (log : Log.Log) → Log.IsLog log → IsGoodWhole sh v u (units_log f log) → IsGoodWholeDisk f sh v u log
on_disk f sh v u is log whole good = record {
  safe = safe_disk_law f sh log is whole good.safe;
  left = λ image left chance. good.left (f.unit_at image) (firm_units f is log image left.kept) chance;
}

pub tidy_moments_law : TidyMomentsLaw
tidy_moments_law f sh v c log es is whole are leads = (
  (moments_law f sh v c.view log es c.steps is whole are).1 leads.leads.moments,
  rw (sym (same_log f es c.steps log whole are)) at leads.tidy,
)

pub standing_moments_law : StandingMomentsLaw
standing_moments_law f sh v c log es is whole are keeps = (
  moments f (IsGoodWhole sh v c.view) (IsGoodWholeDisk f sh v c.view) (on_disk f sh v c.view is) es c.steps log whole are keeps.moments,
  rw (sym (same_log f es c.steps log whole are)) at keeps.standing,
)
