-- Both rooms have the words of their bits.
use Rattle.{std.proofs.Common.{arith, length, ap}, df_freeset.proofs.Words.{length_taken}}
use Rattle.df_freeset.proofs.set.FreeSet.into_room.Goals as goal

pub returns-clause-room : goal.returns-clause-room
returns-clause-room c = let s = c.self.inside in
    omega (arith, c.self.invariant.room.size, length_taken s.words.items s.blocks, ap length c.self.view_is)
