-- The block is let go where one is live, and else nothing is done.
use Rattle.{std.proofs.Common.{ap, sym}, df_model.specs.Work.{is_known}}
use Rattle.df_table.proofs.{Changed.{goes_or_ends}, Released.{release_none, release_some, released_none}}
use Rattle.df_table.proofs.checkpointing.release_at.Goals as goal

pub release-requires : goal.release-requires
release-requires c = record { live = c.requires.live; known = ap is_known (sym (rw c.in-Some.is at c.reference.ensures)) }

pub returns-in-Some-clause-makes : goal.returns-in-Some-clause-makes
returns-in-Some-clause-makes c = λ told. release_some c.args.address
    c.args.replica.now c.release.new.replica told _ (sym (rw c.in-Some.is at c.reference.ensures)) (c.release.ensures.makes told)

pub returns-in-None-clause-makes : goal.returns-in-None-clause-makes
returns-in-None-clause-makes c = λ told. release_none c.args.address c.args.replica.now told (sym (rw c.in-None.is at c.reference.ensures))

pub returns-in-None-clause-state : goal.returns-in-None-clause-state
returns-in-None-clause-state c = released_none c.args.address c.args.replica.now (sym (rw c.in-None.is at c.reference.ensures))
