-- The trailer, and then the superblock.
use Rattle.{std.proofs.Common.{◌≡◌, ◌++◌, ◌∷◌, List, length, Option, Result, Ok, Err, subst}, df_base.specs.Log.{Sync}}
use Rattle.{df_disk.{specs.{Told.{Told}, Adds.{Adds}}, proofs.Laws.{adds_then, part_then}}, df_grid.specs.Writes.{made_events}}
use Rattle.{df_format.specs.{Message.{Message}, declared.superblock.SuperFields.{SuperFields}}, df_superblock.specs.Events.{update_events}}
use Rattle.{df_layout.specs.declared.layout.Layout.{Layout}, df_opening.specs.Below.{State, memory}}
use Rattle.df_copy.specs.{declared.ending.Ending.{Ending}, declared.target.Target.{Target}, Acts.{IsTrailerWritten}, Targets.{superblock_events, superblock_of, trailer_of}, Tests.{references}, Trailers.{AddsTrailer}, Units.{all_events, moved_from}}
use Rattle.df_copy.proofs.copying.finish.Goals as goal

-- what the superblock says, over the layout of the target as it was
says : (layout l : Layout) (s : State) (rs bs : List Message) (n : Target) (f : SuperFields) → l ≡ layout
    → ((rs bs : List Message) → IsTrailerWritten l s rs bs n → length bs ≡ length (references (memory s)) → f ≡ superblock_of l s rs bs)
    → IsTrailerWritten layout s rs bs n → length bs ≡ length (references (memory s)) → f ≡ superblock_of layout s rs bs
says layout l s rs bs n f same is = subst (λ (x : Layout). (rs bs : List Message)
    → IsTrailerWritten x s rs bs n → length bs ≡ length (references (memory s)) → f ≡ superblock_of x s rs bs) same is rs bs

-- however it is written after the trailer
ends : {T E : Type 0} (s : State) (rs bs : List Message) (t n : Target) (f : SuperFields)
    (old mid new : Option Told) (x : Unit {0}) (r : Result T E) → n.layout ≡ t.layout → AddsTrailer s rs bs t n old mid (Ok x)
    → ((rs bs : List Message) → IsTrailerWritten n.layout s rs bs n → length bs ≡ length (references (memory s))
    → f ≡ superblock_of n.layout s rs bs) → length bs ≡ length (references (memory s)) → Adds (Sync ∷ update_events f) mid new r
    → Adds (all_events (made_events t.layout) (trailer_of t.layout s (moved_from 1 bs)) ++ superblock_events t.layout s rs bs) old new r
ends {T = T} {E = E} s rs bs t n f old mid new x r layouts trailer is all adds =
    adds_then (all_events (made_events t.layout) (trailer_of t.layout s (moved_from 1 bs)))
    (superblock_events t.layout s rs bs) old mid new r trailer.events
    (rw (says t.layout n.layout s rs bs n f layouts is trailer.written all) at adds)

pub returns-in-Err-clause-finishes : goal.returns-in-Err-clause-finishes
returns-in-Err-clause-finishes g c = λ rs bs is all. let layout : Layout = c.args.target.now.layout in let s : State = c.args.replica.now in
    part_then (all_events (made_events layout) (trailer_of layout s (moved_from 1 bs))) (superblock_events layout s rs bs)
    (g.B.Disk.told c.args.to.now) (g.B.Disk.told c.write_trailer.new.to) (c.in-Err.ensures.trailer rs bs is).events

pub returns-in-Ok-write_synced-clause-finishes : goal.returns-in-Ok-write_synced-clause-finishes
returns-in-Ok-write_synced-clause-finishes g c = λ rs bs is all.
    ends {E = Ending} c.args.replica.now rs bs c.args.target.now c.write_trailer.new.target c.copied_superblock-content.result
    (g.B.Disk.told c.args.to.now) (g.B.Disk.told c.write_trailer.new.to) (g.B.Disk.told c.write_synced.new.disk) c.in-Ok.field-0
    (Ok c.in-Ok-write_synced.field-0)
    c.in-Ok.ensures.layout (c.in-Ok.ensures.trailer rs bs is) c.copied_superblock-content.ensures all c.in-Ok-write_synced.ensures.events

pub returns-in-Err-write_synced-clause-finishes : goal.returns-in-Err-write_synced-clause-finishes
returns-in-Err-write_synced-clause-finishes g c = λ rs bs is all.
    ends {T = Unit {0}} c.args.replica.now rs bs c.args.target.now c.write_trailer.new.target c.copied_superblock-content.result
    (g.B.Disk.told c.args.to.now) (g.B.Disk.told c.write_trailer.new.to) (g.B.Disk.told c.write_synced.new.disk)
    c.in-Ok.field-0 (Err c.in-Err-write_synced.field-0)
    c.in-Ok.ensures.layout (c.in-Ok.ensures.trailer rs bs is) c.copied_superblock-content.ensures all c.in-Err-write_synced.ensures.events
