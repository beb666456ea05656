-- Each call of a session spares the blocks that are held.
use Rattle.{std.proofs.Common.{◌≡◌, true, List, [], ◌∷◌, Option, Some, None, refl, ◌∙◌}, df_disk.specs.Told.{Told}}
use Rattle.df_model.specs.Work.{Work}
use Rattle.df_replica.specs.{Below.{DataFile, State as Replica}, Leaving.{SparesHeld}, Serving.{Firm, Keeps, next}, Session.{Act, Exchange, acts_in, work_after}}
use Rattle.df_session.{specs.{Links.{AreCalls, CallsMade, EndsCalls, More}, Sparing.{AllSpareHeld, SpareHeld, SparesBlocks}}, proofs.Kept.{all_served}}

module _ (file : DataFile) where
  all_spare : (w : Work) (s t : Replica) (old new : Option Told) (xs : List Exchange)
      → s.file ≡ file → Keeps Firm s w None → (are : AreCalls s old xs t new) → SpareHeld file w xs are
  all_spare w s t old new [] same keeps are = tt
  all_spare w s t old new (x ∷ xs) same keeps (More u mid made rest) = let call = made.call in
      let then : Keeps Firm u (next file w x.act.given x.act.command).0 None = rw same at (call.answers Firm w keeps).1 in (
        rw same at (call.spares w keeps),
        all_spare (next file w x.act.given x.act.command).0 u t mid new xs (call.file ∙ same) then rest,
      )

ends_spare : (w : Work) (s t : Replica) (old new : Option Told) (xs : List Exchange) (failed : Option Act)
    → s.live ≡ true → Keeps Firm s w None → (ends : EndsCalls s t old new xs failed) → AllSpareHeld s.file s t old new w xs failed ends
ends_spare w s t old new xs None live keeps ends = all_spare s.file w s t old new xs refl keeps ends
ends_spare w s t old new xs (Some a) live keeps ends = let served = all_served s ends.0 old ends.1 xs live ends.2 in (
  all_spare s.file w s ends.0 old ends.1 xs refl keeps ends.2,
  rw served.file at (ends.3.call.spares (work_after s.file w (acts_in xs)) (served.answered Firm w keeps).1),
)

pub spares_blocks : (w : Work) (c : CallsMade) → c.from.live ≡ true → Keeps Firm c.from w None → SparesBlocks c.from.file w c
spares_blocks w c live keeps = ends_spare w c.from c.to c.old c.new c.exchanges c.failed live keeps c.calls
