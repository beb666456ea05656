-- An image has one refusal: whatever was done to the disk, an open with rooms of a layout is refused in one way, with one text.
use Rattle.std.specs.Prelude.{◌≡◌, ◌≢◌, ℕ, Err}
use Rattle.df_base.specs.Image.{Image}
use Rattle.df_layout.specs.declared.layout.Layout.{Layout}
use Rattle.df_model.specs.{declared.errors.OpenError.{OpenError}, declared.errors.OpenError.TheVariants.{DiskFault}}
use Rattle.df_recovery.specs.Surveys.{SurveysAs}

-- two refusals of one image are one, with all that is told of it: classes, version, field and value, layouts, place and class; a fault of the disk is of no image
abbrev pub OneSurvey : Type 0
OneSurvey = (version : ℕ) (layout : Layout) (image : Image) (e d : OpenError) → e ≢ DiskFault → d ≢ DiskFault → SurveysAs version layout image (Err e) → SurveysAs version layout image (Err d) → e ≡ d
