-- The newest bytes of the sector are those that the events left there, and there are none where nothing changed it.
use Rattle.std.proofs.Common.{◌≡◌, List, ℕ, Option, Some, None, ap, sym, ◌∙◌, unwrap_or}
use Rattle.df_memdisk.{specs.{History.{events_of}, Newest.{newest_of}}, proofs.Now.{now_is}}
use Rattle.df_memdisk.proofs.history.left_in_sector.Goals as goal

pub returns-in-Some-clause-bytes : goal.returns-in-Some-clause-bytes
returns-in-Some-clause-bytes c =
    let newest : newest_of (events_of c.args.past.now) c.args.sector ≡ Some c.in-Some.bytes.now = sym c.in-Some.ensures.bytes in
    c.copy_from_slice.ensures.after ∙ sym (now_is (λ s. c.args.start.now) (events_of c.args.past.now) c.args.sector
    ∙ ap (λ (b : Option (List ℕ)). unwrap_or b c.args.start.now) newest)

pub returns-in-None-clause-bytes : goal.returns-in-None-clause-bytes
returns-in-None-clause-bytes c = let newest : newest_of (events_of c.args.past.now) c.args.sector ≡ None = sym c.in-None.ensures.bytes in
    c.copy_from_slice-in-None.ensures.after ∙ sym (now_is (λ s. c.args.start.now) (events_of c.args.past.now) c.args.sector
    ∙ ap (λ (b : Option (List ℕ)). unwrap_or b c.args.start.now) newest)
