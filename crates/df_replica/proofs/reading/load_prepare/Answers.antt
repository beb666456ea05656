-- What was found is held, and shown.
use Rattle.{std.{proofs.Common.{Option, Result, Ok, Err, subst}, specs.Prelude.{IfOk}}, df_base.specs.declared.Failed.{Failed}}
use Rattle.{df_disk.specs.Told.{Told}, df_layout.specs.declared.damage.Class.{Class}, df_places.specs.Shelves.{HoldsFound, IsRead}}
use Rattle.{df_format.specs.declared.kind.Kind.{Kind, TheVariants.{Prepare}}, df_replica.specs.Reading.{IsLoaded}}
use Rattle.df_buffers.specs.{declared.identity.Identity.{Identity}, Sounds.{Holding}}
use Rattle.df_replica.proofs.reading.load_prepare.Goals as goal

if_loaded : (kind : Kind) (identity : Identity) (told : Option Told) (held : Option Holding) (r : Result (Option Class) Failed)
    → IfOk r (λ wrong. HoldsFound kind identity wrong held) → IfOk r (λ wrong. IsRead kind identity told wrong held)
    → IfOk r (λ wrong. IsLoaded kind identity told wrong held)
if_loaded kind identity told held (Ok wrong) holds read = record { holds = holds; read = read }
if_loaded kind identity told held (Err failed) holds read = tt

pub returns-clause-loaded : goal.returns-clause-loaded
returns-clause-loaded g c = let told = g.D.Disk.told c.args.disk.now in let held = c.load.new.self.held in subst (λ (identity : Identity).
    IfOk c.load.result (λ wrong. IsLoaded Prepare identity told wrong held)) c.prepare_wanted-identity.ensures.identity
    (if_loaded Prepare c.prepare_wanted-identity.result told held c.load.result c.load.ensures.holds c.load.ensures.read)
