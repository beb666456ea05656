-- What a state has was written, where a file is kept for it, and where an open found it on a disk that may be hurt.
use Rattle.{std.proofs.Common.{◌≡◌, Some, None, sym, subst}, df_base.specs.Log.{Sync, add}}
use Rattle.df_opening.{specs.Below.{DataFile, IsWritten, WasWritten, shape, spelling}, proofs.Laws.{had_is_written, firm_of}}
use Rattle.df_theory.{specs.{Device.{units_log}, Next.{booted}, Shape.{Shape}, Shows.{Needs}, UnitLog.{now}, Units.{AnyUnit, BlockPlace, BlockUnit, Content, CopyPlace, Place}, View.{View}}, proofs.Laws.{pool_pools}}
use Rattle.df_replica.specs.{Lending.{KeptIsWritten, OpenedIsWrittenFor}, Serving.{format}}

pub kept_is_written : KeptIsWritten
kept_is_written g s w log is = let units = units_log (format s.file) log in
    let by = firm_of g (shape s.file) (spelling s.file) units w is.kept_by in
    let shown : (place : Place) (x : AnyUnit) → now units place ≡ Some x
    → IsWritten units place x = λ place x at. pool_pools units.start units.events place x (by.tidy.rests.pooled place x at) in record {
      view = record { sound = by.tidy.rests.holds.bears.sound; needs = λ place x need. shown place x (by.tidy.rests.holds.bears.needs place x need) };
      trailer = λ r running a b at. shown (BlockPlace a) (BlockUnit b) (by.written r running a b at);
    }

-- what a view needs it needs with another content of the same checkpoint
needs_alike : (sh : Shape) (v : View) (d : Content) (place : Place) (x : AnyUnit) → Needs sh (booted v d) place x → Needs sh v place x
needs_alike sh v d (CopyPlace n) x need = need
needs_alike sh v d case x need = need

pub opened_is_written_for : OpenedIsWrittenFor
opened_is_written_for file view t s later d finds grew work = let was : WasWritten s.file later finds.found = subst (λ (x : DataFile).
    WasWritten x later finds.found) (sym finds.of) (had_is_written file (add Sync t.log) later finds.found finds.had grew) in record {
      view = record { sound = work.view; needs = λ place x need. was.needs place x (needs_alike (shape s.file) finds.found d place x need) };
      trailer = λ r none a b at. absurd (let no : None ≡ Some r = none in cc);
    }
