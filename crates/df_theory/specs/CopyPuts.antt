-- The four copies of a superblock, as they are written one after the other.
use Rattle.std.specs.Prelude.{List, [], ◌∷◌}
use Rattle.df_theory.specs.{Units.{CopyPlace, Content, CopyUnit, Units}, UnitLog.{PutsOne}, Runs.{Puts, Step, Syncs}}

-- the writes of the four copies of a content
pub record PutsCopies (c : Content) : Type 0 where
  pub put0 : Units
  pub put1 : Units
  pub put2 : Units
  pub put3 : Units
  pub one0 : PutsOne put0 (CopyPlace 0) (CopyUnit c)
  pub one1 : PutsOne put1 (CopyPlace 1) (CopyUnit c)
  pub one2 : PutsOne put2 (CopyPlace 2) (CopyUnit c)
  pub one3 : PutsOne put3 (CopyPlace 3) (CopyUnit c)

-- an update: the copies 0, 1, 2 and 3 in this order, a sync after each
abbrev pub update_steps : {c : Content} → PutsCopies c → List Step
update_steps puts = Puts puts.put0 ∷ Syncs ∷ Puts puts.put1 ∷ Syncs ∷ Puts puts.put2 ∷ Syncs ∷ Puts puts.put3 ∷ Syncs ∷ []
