-- The checkpoint was begun, or no sequence is left.
use Rattle.{std.proofs.Common.{Option, None, [], Err, Ok, refl}, df_disk.specs.Told.{Told}, df_session.proofs.Laws.{begin_called}}
use Rattle.df_table.proofs.Called.{begin_takes}
use Rattle.df_table.proofs.calls.begin.Goals as goal

pub returns-in-Ok : goal.returns-in-Ok
returns-in-Ok c = let s = c.args.replica.now in let t = c.checkpoint_begin.new.self in let r = Ok c.in-Ok.field-0 in
    let takes = λ (told : Option Told). begin_takes
    s t told told 0 0 r c.in-Ok.ensures.exact (begin_called s t told 0 [] r c.in-Ok.ensures.exact (c.in-Ok.ensures.call told)).makes refl in
    record { makes = λ told. (takes told).comes; state = c.in-Ok.ensures.exact.2; live = (takes None).live; spent = tt }

pub returns-in-Err-clause-makes : goal.returns-in-Err-clause-makes
returns-in-Err-clause-makes c = λ told. let s = c.args.replica.now in let t = c.checkpoint_begin.new.self in let r = Err c.in-Err.field-0 in
    (begin_takes s t told
    told 0 0 r c.in-Err.ensures.exact (begin_called s t told 0 [] r c.in-Err.ensures.exact (c.in-Err.ensures.call told)).makes refl).comes
