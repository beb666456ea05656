-- The words have one meaning, so that what is said of it is said of what they ask for.
use Rattle.std.{proofs.Common.{subst}, specs.Prelude.{map, string_bytes}}
use Rattle.df_top.{specs.{Outside.{Outside}, Run.{ServesIn}, declared.mode.Mode.{Mode}, declared.mode.Mode.TheVariants.{Inspect}}, proofs.{Hurts.{serves_over_hurt}, Modes.{one_mode}, Reopens.{serves_over_history}, Within.{does_within}, Words.{of_file_asked, runnable}}}
use Rattle.df_top.proofs.serving.serve.Goals as goal

pub carry_out-requires : goal.carry_out-requires
carry_out-requires g c = let words = map string_bytes c.args.words.now in let means = c.in-Some.ensures.found in
    record { runnable = runnable words c.in-Some.mode means (of_file_asked words c.in-Some.mode c.requires.words means); lines = c.requires.lines }

pub returns-clause-serves : goal.returns-clause-serves
returns-clause-serves g c = λ mode asks. let old : Outside =
    record { told = g.D.Disk.told c.args.disk.now; left = g.S.Source.left c.args.source.now; written = g.W.Sink.written c.args.sink.now } in
    let new : Outside = record { told = g.D.Disk.told c.carry_out.new.outside.0; left = g.S.Source.left c.carry_out.new.outside.1.0; written = g.W.Sink.written c.carry_out.new.outside.1.1.0 } in
    subst (λ (m : Mode). ServesIn m c.args.rooms.layout old new c.carry_out.result)
    (one_mode (map string_bytes c.args.words.now) c.in-Some.mode mode c.in-Some.ensures.found asks) c.carry_out.ensures.serves

pub returns-clause-inspects : goal.returns-clause-inspects
returns-clause-inspects g c =
    λ asks. c.carry_out.ensures.inspects (one_mode (map string_bytes c.args.words.now) c.in-Some.mode Inspect c.in-Some.ensures.found asks)

pub returns-clause-hurt : goal.returns-clause-hurt
returns-clause-hurt g c = λ mode asks. serves_over_hurt mode _ _ _ _ (returns-clause-serves g c mode asks)

pub returns-clause-lived : goal.returns-clause-lived
returns-clause-lived g c = λ mode asks. serves_over_history mode _ _ _ _ (returns-clause-serves g c mode asks)

pub returns-clause-within : goal.returns-clause-within
returns-clause-within g c = λ t told whole. does_within c.args.rooms.layout t _ _ _ c.in-Some.mode (c.carry_out.ensures.serves t told whole)

pub returns-clause-unread : goal.returns-clause-unread
returns-clause-unread g c = λ no. c.carry_out.ensures.unread (λ reads. no (c.in-Some.mode, c.in-Some.ensures.found, reads))
