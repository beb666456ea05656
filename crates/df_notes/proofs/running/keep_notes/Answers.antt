-- The file is found, made first, or refused.
use Rattle.std.{proofs.Common.{◌∙◌, inl, inr, refl, subst}, specs.Prelude.{map, string_bytes}}
use Rattle.df_layout.specs.declared.layout.Layout.{Layout}
use Rattle.df_notes.{specs.{Run.{NotesOutcome}, Serving.{around}}, proofs.{Opened.{served, unopened}, Served.{error_of_run, serving_of_run}}}
use Rattle.df_notes.specs.declared.ended.Ended.TheVariants as ends
use Rattle.df_notes.proofs.running.keep_notes.Goals as goal

pub returns-in_default-clause-runs : goal.returns-in_default-clause-runs
returns-in_default-clause-runs g c = λ t told whole. let is = c.small.ensures in
    (c.small.result, record { slots = is.slots; message_size = is.message_size; clients = is.clients; block_size = is.block_size; blocks = is.blocks }, inl (record { same = refl; ended = refl }))

pub returns-in-Ok-open-clause-runs : goal.returns-in-Ok-open-clause-runs
returns-in-Ok-open-clause-runs g c = λ t told whole. let is = c.small.ensures in (
  c.small.result,
  record { slots = is.slots; message_size = is.message_size; clients = is.clients; block_size = is.block_size; blocks = is.blocks },
  inr (inr (inr (inr (served c.small.result t c.in-Ok-open.replica (g.D.Disk.told c.open.new.disk) whole c.in-Ok-open.ensures.live
      (c.in-Ok-open.ensures.kept ∙ c.in-Ok.ensures) (c.in-Ok-open.ensures.opened t told) (map string_bytes c.args.notes.now)
      (around (g.D.Disk.told c.args.disk.now) (g.W.Sink.written c.args.sink.now)) (around (g.D.Disk.told c.serve_notes.new.disk)
      (g.W.Sink.written c.serve_notes.new.sink)) c.serve_notes.result c.serve_notes.ensures.serves)))),
)

pub returns-in-Ok-open-clause-memory : goal.returns-in-Ok-open-clause-memory
returns-in-Ok-open-clause-memory g c = λ is. absurd (serving_of_run _ _ _ _ c.serve_notes.result c.serve_notes.ensures.serves ends.Memory is)

pub returns-in-Ok-open-clause-read : goal.returns-in-Ok-open-clause-read
returns-in-Ok-open-clause-read g c = λ is. serving_of_run _ _ _ _ c.serve_notes.result c.serve_notes.ensures.serves ends.ReadFault is

pub returns-in-Err-clause-runs : goal.returns-in-Err-clause-runs
returns-in-Err-clause-runs g c = λ t told whole. let is = c.small.ensures in
    let old = around (g.D.Disk.told c.args.disk.now) (g.W.Sink.written c.args.sink.now) in
    let new = around (g.D.Disk.told c.make_or_refuse.new.disk) (g.W.Sink.written c.make_or_refuse.new.sink) in
    let notes = map string_bytes c.args.notes.now in (
      c.small.result,
      record { slots = is.slots; message_size = is.message_size; clients = is.clients; block_size = is.block_size; blocks = is.blocks },
      subst (λ (l : Layout). NotesOutcome l t notes old new c.make_or_refuse.result) c.in-Ok.ensures
          (unopened
          c.in-Ok.rooms.layout c.in-Err.rooms.layout t old new (g.D.Disk.told c.open.new.disk) notes c.make_or_refuse.result c.in-Err.error
          c.in-Err.ensures.given_back whole told c.in-Err.ensures.answer c.in-Err.ensures.refused (c.in-Err.ensures.stopped t told)
          c.make_or_refuse.ensures.makes c.make_or_refuse.ensures.refuses),
    )

pub returns-in-Err-clause-memory : goal.returns-in-Err-clause-memory
returns-in-Err-clause-memory g c = λ is. absurd (error_of_run c.make_or_refuse.result ends.Memory c.make_or_refuse.ensures.ends is)

pub returns-in-Err-clause-read : goal.returns-in-Err-clause-read
returns-in-Err-clause-read g c = λ is. error_of_run c.make_or_refuse.result ends.ReadFault c.make_or_refuse.ensures.ends is

pub returns-in-Err-clause-disk : goal.returns-in-Err-clause-disk
returns-in-Err-clause-disk g c = c.make_or_refuse.ensures.disk _ c.in-Err.ensures.cause
