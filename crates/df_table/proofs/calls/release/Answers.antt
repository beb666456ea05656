-- The call was made and accepted.
use Rattle.{std.proofs.Common.{Option, ap, ◌∙◌}, df_disk.specs.Told.{Told}, df_table.proofs.Called.{release_takes}}
use Rattle.df_session.{specs.Below.{State as Replica}, proofs.Laws.{release_called}}
use Rattle.df_table.proofs.calls.release.Goals as goal

pub returns : goal.returns
returns c = let s = c.args.replica.now in let t = c.release.new.self in let r = c.release.result in
    let takes = release_takes s t c.args.address r c.release.ensures.exact c.requires.known (λ (told : Option Told).
    (release_called s t told 0 c.args.address r c.release.ensures.exact (c.release.ensures.call told)).makes) in
    record { makes = takes.0; state = takes.1; live = ap (λ (x : Replica). x.live) takes.1 ∙ c.requires.live }
