-- The trailer is read, or there is none.
use Rattle.std.{proofs.Common.{◌≡◌, ◌∙◌, ◌≤◌, List, Some, None, ap, arith, length, refl, subst, sym}, specs.Prelude.{Ok, Err}}
use Rattle.{df_format.specs.declared.superblock.SuperFields.{SuperFields}, df_model.specs.declared.errors.OpenError.{OpenError}}
use Rattle.{df_grid.specs.Grid.{GridState}, df_sessions.specs.{Table.{Table}, declared.session.Session.{Session}}}
use Rattle.df_checkpoint.proofs.Laws.{has_is, pending_of}
use Rattle.df_mirror.specs.{declared.ending.Ending.TheVariants.{Unopened}, Walks.{HasTrailerText, HasWaiting, ReadsChainText, superblock_units}}
use Rattle.df_mirror.proofs.Trailers.{empty_grid, grid_is, no_text, sessions_read, text_read_there, text_refused_there, text_untracked}
use Rattle.df_mirror.proofs.trailer.read_trailer.Goals as goal

-- ---- no trailer is named

pub returns-then-fields-eq0-clause-reads : goal.returns-then-fields-eq0-clause-reads
returns-then-fields-eq0-clause-reads g c = λ t told whole shown. let b = c.args.base.now in let units = superblock_units b t.shown in
    let none : b.content.trailer_address ≡ 0 = rw c.fields-fields.ensures.value at c.if-fields-eq0.true in
    let rules = c.fields-fields.ensures.usable.rules in
    let empty = grid_is b c.into_grid-grid.result c.args.grid.layout c.into_grid-grid.ensures c.requires.grid in (
      subst (λ (x : GridState). HasTrailerText b units x c.new-sessions.result.sessions) (sym empty)
          (subst (λ (l : List Session). HasTrailerText b units (empty_grid b) l) (sym c.new-sessions.ensures.empty)
          (no_text b units rules none)),
      λ n above within. absurd (rules.trailer.1 (λ zero. omega (arith, zero, above, within)) none),
    )

-- ---- it is read

pub over-requires-clause-few : goal.over-requires-clause-few
over-requires-clause-few g c = let b = c.args.base.now in
    let empty = grid_is b c.into_grid-grid.result c.args.grid.layout c.into_grid-grid.ensures c.requires.grid in
    (sessions_read b c.into_grid-grid.result c.read_chain.new.reader _ empty c.in-Ok.ensures.complete
    c.into_parts-sessions.ensures.sessions).few

pub over-requires-clause-named : goal.over-requires-clause-named
over-requires-clause-named g c = λ k s at zero. let b = c.args.base.now in
    let empty = grid_is b c.into_grid-grid.result c.args.grid.layout c.into_grid-grid.ensures c.requires.grid in
    let read = sessions_read b c.into_grid-grid.result c.read_chain.new.reader _ empty c.in-Ok.ensures.complete
    c.into_parts-sessions.ensures.sessions in omega (arith, (read.each k s at).client, zero)

pub over-requires-clause-apart : goal.over-requires-clause-apart
over-requires-clause-apart g c = let b = c.args.base.now in
    let empty = grid_is b c.into_grid-grid.result c.args.grid.layout c.into_grid-grid.ensures c.requires.grid in
    (sessions_read b c.into_grid-grid.result c.read_chain.new.reader _ empty c.in-Ok.ensures.complete
    c.into_parts-sessions.ensures.sessions).clients

pub returns-in-None-clause-reads : goal.returns-in-None-clause-reads
returns-in-None-clause-reads g c = λ t told whole shown. let b = c.args.base.now in let lent = c.fields-fields.ensures in
    let parts = c.into_parts-sessions.result in
    let text = text_read_there b c.into_grid-grid.result c.read_chain.new.grid c.read_chain.new.reader (Ok tt)
    (g.A.Disk.told c.args.first.now)
    (grid_is b c.into_grid-grid.result c.args.grid.layout c.into_grid-grid.ensures c.requires.grid) c.in-Ok.ensures.answer t told
    c.fields-fields.result.now lent.value c.if-fields-eq0.false
    refl lent.usable.rules whole c.in-Ok.ensures.grid.layout parts c.into_parts-sessions.ensures.parts in
    let pending = pending_of c.deref.result.now parts.sessions.items c.fields-fields.result.now b.content None c.deref.ensures.0
    lent.value c.in-None.ensures in
    subst (λ (x : Table). HasTrailerText b (superblock_units b t.shown) c.read_chain.new.grid x.sessions × HasWaiting b x.sessions)
    (sym c.over.ensures) (text, λ n above within. has_is n parts.sessions.items (pending n above within))

pub returns-in-None-clause-fits : goal.returns-in-None-clause-fits
returns-in-None-clause-fits g c = let b = c.args.base.now in
    let empty = grid_is b c.into_grid-grid.result c.args.grid.layout c.into_grid-grid.ensures c.requires.grid in
    let read = sessions_read b c.into_grid-grid.result c.read_chain.new.reader _ empty c.in-Ok.ensures.complete
    c.into_parts-sessions.ensures.sessions in (
      c.in-Ok.ensures.grid.layout ∙ ap (λ (x : GridState). x.layout) empty,
      ap (λ (x : Table). x.max) c.over.ensures,
      subst (λ (x : Table). length x.sessions ≤ b.file.layout.clients) (sym c.over.ensures) read.few,
    )

-- ---- it is refused

pub returns-in-Some-clause-reads : goal.returns-in-Some-clause-reads
returns-in-Some-clause-reads g c = λ t told whole shown. let b = c.args.base.now in let fields = c.fields-fields.result.now in
    let same = c.fields-fields.ensures.value in let sessions = c.into_parts-sessions.result.sessions.items in
    let empty = grid_is b c.into_grid-grid.result c.args.grid.layout c.into_grid-grid.ensures c.requires.grid in
    let text = text_read_there b c.into_grid-grid.result c.read_chain.new.grid c.read_chain.new.reader (Ok tt)
    (g.A.Disk.told c.args.first.now) empty c.in-Ok.ensures.answer t told
    fields same c.if-fields-eq0.false refl c.fields-fields.ensures.usable.rules whole c.in-Ok.ensures.grid.layout
    c.into_parts-sessions.result c.into_parts-sessions.ensures.parts in
    let pending = pending_of c.deref.result.now sessions fields b.content (Some c.in-Some.op) c.deref.ensures.0 same c.in-Some.ensures in
    rw c.from.ensures (text_untracked b t.shown c.read_chain.new.grid sessions c.in-Some.op fields same c.if-fields-eq0.false text pending)

pub returns-in_default-clause-reads : goal.returns-in_default-clause-reads
returns-in_default-clause-reads g c = λ t told whole shown. let b = c.args.base.now in
    let empty = grid_is b c.into_grid-grid.result c.args.grid.layout c.into_grid-grid.ensures c.requires.grid in
    subst (λ (e : OpenError). ReadsChainText b t.shown (Err (Unopened e))) (sym c.refusal.ensures)
    (text_refused_there b c.into_grid-grid.result c.read_chain.new.grid c.read_chain.new.reader (Err c.in-Err.fault)
    (g.A.Disk.told c.args.first.now) empty c.in-Err.ensures.answer t told
    c.fields-fields.result.now c.fields-fields.ensures.value c.if-fields-eq0.false c.in-Err.fault refl shown c.in_default.not-DiskFault)
