-- A life begins where a copy was made, or where it was stopped after the second copy of its superblock.
use Rattle.{std.proofs.Common.{◌≡◌, inl, inr, [], refl, sym, ◌∙◌}, df_disk.specs.Told.{Told}, df_theory.specs.View.{View}}
use Rattle.{df_base.{specs.{Image.{Image}, Log.{now}, Moments.{IsMoment}}, proofs.Laws.{one_some}}, df_units.specs.Bytes.{unit_at}}
use Rattle.df_layout.specs.declared.layout.Layout.{Layout}
use Rattle.df_session.{specs.Below.{AreDistinctUnits, DataFile, restarted, told_after}, proofs.Laws.{added_is_told}}
use Rattle.df_copy.{specs.{Lives.{MayGoOn}, Views.{HoldsCopy, ShowsCopy, file_in}}, proofs.Laws.{copied_begins, left_or_shows}}
use Rattle.df_lifetime.{specs.{Again.Again.{Once}, Copied.{CopiedBegins, IsCopiedImage, MadeIsCopied, StoppedIsCopied, file_of, view_of}, Life.{GoesAlong}, Life.Life.{Taken}}, proofs.{Along.{after_along, moment_along}, Openings.{distinct_left}}}

-- what shows the copy may be taken
is_copied : (layout : Layout) (file : DataFile) (source : Image) (v : View) (image : Image)
    → ShowsCopy layout file source v image → AreDistinctUnits (unit_at layout file.cluster image) → IsCopiedImage layout file source v image
is_copied layout file source v image shows distinct =
    let may : MayGoOn (file_in layout file) shows.view image = copied_begins layout file source v image shows distinct in
    record { first = shows.view; copy = shows.copy; may = record { version = may.version; begins = may.begins; stands = may.stands }; begins = may.history }

pub copied_life : CopiedBegins
copied_life layout file source v t new = let life = Taken (file_in layout file) new.first t new.may in
    (life, Once (file_in layout file) new.first (restarted t) [] life new.begins)

pub made_is_copied : MadeIsCopied
made_is_copied layout t read o n run done empty honest distinct =
    let shown_is : now n.log ≡ n.shown = λ i sector. sym (honest.shows sector) i in
    let holds : HoldsCopy layout (file_of run) read.shown (view_of run) (now n.log) =
    run.copies.holds read o n done run.source run.target run.later empty run.view run.found in
    is_copied layout (file_of run) read.shown (view_of run) n.shown (rw shown_is at holds.shows) distinct

pub stopped_is_copied : StoppedIsCopied
stopped_is_copied layout t read o n p m run image empty until along left chance =
    let stops = run.copies.stops read o run.source run.target empty run.view run.found in let told : told_after stops.events o ≡ n =
    one_some run.new.second (told_after stops.events o) n (stops.told ∙ added_is_told stops.events o) run.later in
    let all : GoesAlong o n (restarted o) (told_after stops.events (restarted o)) = rw told at (after_along stops.events o (restarted o) refl) in
    let moment : IsMoment (restarted o).log (told_after stops.events (restarted o)).log m.log =
    moment_along o p n (restarted o) m (told_after stops.events (restarted o)) all along until in
    elim (left_or_shows layout (file_of run) read.shown (view_of run) image left.whole m.log (stops.moments m.log moment image left chance)) [
      | inl split ↦ inl split
      | inr shows ↦ inr (is_copied
          layout (file_of run) read.shown (view_of run) image shows (distinct_left (file_in layout (file_of run)) m.log image chance))
    ]
