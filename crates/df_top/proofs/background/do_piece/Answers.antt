-- Each piece has its own call.
use Rattle.{std.proofs.Common.{subst, sym}, df_pace.specs.{Beats.{command_of_piece}, declared.beat.Piece.{Piece}}}
use Rattle.df_top.specs.Turning.{DoesPiece}
use Rattle.df_top.proofs.background.do_piece.Goals as goal

pub returns-in-Begin-clause-does : goal.returns-in-Begin-clause-does
returns-in-Begin-clause-does g c =
    subst (λ (p : Piece). DoesPiece (command_of_piece p c.args.replica.now.root) c.args.replica.now c.begin.new.replica
    (g.D.Disk.told c.args.disk.now) (g.D.Disk.told c.begin.new.disk) c.begin.result) (sym c.in-Begin.is) c.begin.ensures.does

pub returns-in-Step-clause-does : goal.returns-in-Step-clause-does
returns-in-Step-clause-does g c =
    subst (λ (p : Piece). DoesPiece (command_of_piece p c.args.replica.now.root) c.args.replica.now c.make_piece.new.replica
    (g.D.Disk.told c.args.disk.now) (g.D.Disk.told c.make_piece.new.disk) c.make_piece.result) (sym c.in-Step.is) c.make_piece.ensures.does

pub returns-in-Scrub-clause-does : goal.returns-in-Scrub-clause-does
returns-in-Scrub-clause-does g c = rw c.in-Scrub.is c.make_piece-in-Scrub.ensures.does
