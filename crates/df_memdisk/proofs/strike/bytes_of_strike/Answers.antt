-- Each kind of strike shows its bytes.
use Rattle.{std.proofs.Common.{List, ap, ◌∙◌}, df_base.specs.{Image.{blank}, Log.{Event, now_of}}, df_memdisk.specs.Strikes.{filled}}
use Rattle.df_memdisk.proofs.strike.bytes_of_strike.Goals as goal

pub returns-in-Fill : goal.returns-in-Fill
unfolding filled
returns-in-Fill c = rw c.in-Fill.is (c.fill.ensures.after (λ y is. is))

pub returns-in-Earlier : goal.returns-in-Earlier
unfolding blank
returns-in-Earlier c = rw c.in-Earlier.is
    (c.left_in_sector.ensures.bytes ∙ ap (λ (es : List Event). now_of blank es c.args.sector) c.first_of.ensures)
