-- Words ask for one thing at most, so that the clauses of the others say nothing.
use Rattle.{std.{proofs.Common.{ℕ, refl, sym, ◌∙◌, subst}, specs.Prelude.{map, string_bytes}}, df_units.specs.Within.{AddsWithin}}
use Rattle.df_layout.specs.declared.layout.Layout.{Layout}
use Rattle.df_top.{specs.{Mode.{Means}, Formats.{Formats, MakesFile}, Outside.{Outside}, Run.{Runs}, Usage.{usage}, declared.mode.Mode.{Mode}, declared.mode.Mode.TheVariants.{Format, Inspect, Upgrade}}, proofs.{Hurts.{runs_over_hurt}, Modes.{one_mode}, Reopens.{runs_over_history}, Upgrades.{upgrades_over_hurt, upgrades_within}, Within.{runs_within}, Words.{makes_alone, makes_file, makes_none, no_upgrade_asked, none_asked, opens_file, runnable, same_cluster_asked, same_layout_asked, upgrades_alone, upgrades_file}}}
use Rattle.df_top.proofs.engine.run.Goals as goal

-- ---- a word on a file

pub run_file-requires : goal.run_file-requires
run_file-requires g c = record {
  runnable = runnable (map string_bytes c.args.words.now)
      c.in-Some.mode c.in-Some.ensures.found (opens_file c.in-Some.mode (sym c.task_of.ensures ∙ c.in-Open.is));
}

pub returns-in-Open : goal.returns-in-Open
returns-in-Open g c = let words = map string_bytes c.args.words.now in let mode = c.in-Some.mode in let mine = c.in-Some.ensures.found in
    let of = opens_file mode (sym c.task_of.ensures ∙ c.in-Open.is) in let old : Outside =
    record { told = g.D.Disk.told c.args.disk.now; left = g.S.Source.left c.args.source.now; written = g.W.Sink.written c.args.sink.now } in
    let new : Outside = record { told = g.D.Disk.told c.run_file.new.outside.0; left = g.S.Source.left c.run_file.new.outside.1.0; written = g.W.Sink.written c.run_file.new.outside.1.1.0 } in
    record {
      usage = λ nothing. absurd (nothing mode mine);
      untouched = λ nothing. absurd (nothing mode mine);
      unread = λ no. c.run_file.ensures.unread (λ reads. no (mode, mine, reads));
      words = λ is. absurd (c.run_file.ensures.usage is);
      formats = λ layout cluster asks. absurd (makes_alone words layout cluster mode asks mine of);
      makes = λ layout cluster asks. absurd (makes_alone words layout cluster mode asks mine of);
      runs = λ other of_other asks. rw (one_mode words mode other mine asks) at c.run_file.ensures.runs;
      inspects = λ asks. c.run_file.ensures.inspects (one_mode words mode Inspect mine asks);
      made_within = λ layout cluster asks. absurd (makes_alone words layout cluster mode asks mine of);
      within = λ other of_other asks. runs_within mode old new c.run_file.result c.run_file.ensures.runs;
      hurt = λ other of_other asks.
          runs_over_hurt other old new c.run_file.result (rw (one_mode words mode other mine asks) at c.run_file.ensures.runs);
      lived = λ other of_other asks.
          runs_over_history other old new c.run_file.result (rw (one_mode words mode other mine asks) at c.run_file.ensures.runs);
      upgrades = λ asks. absurd (upgrades_alone words mode asks mine of);
      upgraded_within = λ asks. absurd (upgrades_alone words mode asks mine of);
      upgraded_hurt = λ asks. absurd (upgrades_alone words mode asks mine of);
      causes = c.run_file.ensures.causes;
      memory = c.run_file.ensures.memory;
    }

-- ---- `upgrade`

pub returns-in-Upgrade : goal.returns-in-Upgrade
returns-in-Upgrade g c = let words = map string_bytes c.args.words.now in let left = g.S.Source.left c.args.source.now in
    let mine = subst (Means words) (upgrades_file c.in-Some.mode (sym c.task_of.ensures ∙ c.in-Upgrade.is)) c.in-Some.ensures.found in
    let old : Outside = record { told = g.D.Disk.told c.args.disk.now; left = left; written = g.W.Sink.written c.args.sink.now } in
    let new : Outside = record { told = g.D.Disk.told c.upgrade_old.new.disk; left = left; written = g.W.Sink.written c.upgrade_old.new.sink } in
    record {
      usage = λ nothing. absurd (nothing Upgrade mine);
      untouched = λ nothing. absurd (nothing Upgrade mine);
      unread = λ no. refl;
      words = λ is. absurd (c.upgrade_old.ensures.usage is);
      formats = λ layout cluster asks. absurd (makes_none words layout cluster asks mine);
      makes = λ layout cluster asks. absurd (makes_none words layout cluster asks mine);
      runs = λ mode of asks. absurd (upgrades_alone words mode mine asks of);
      inspects = λ asks. absurd (upgrades_alone words Inspect mine asks tt);
      upgrades = λ asks. c.upgrade_old.ensures.upgrades left;
      made_within = λ layout cluster asks. absurd (makes_none words layout cluster asks mine);
      within = λ mode of asks. absurd (upgrades_alone words mode mine asks of);
      upgraded_within = λ asks. upgrades_within old new c.upgrade_old.result (c.upgrade_old.ensures.upgrades left);
      hurt = λ mode of asks. absurd (upgrades_alone words mode mine asks of);
      lived = λ mode of asks. absurd (upgrades_alone words mode mine asks of);
      upgraded_hurt = λ asks. upgrades_over_hurt old new c.upgrade_old.result (c.upgrade_old.ensures.upgrades left);
      causes = c.upgrade_old.ensures.causes (g.S.Source.faults c.args.source.now);
      memory = c.upgrade_old.ensures.memory left;
    }

-- ---- `format`

pub returns-in-Make-clause-usage : goal.returns-in-Make-clause-usage
returns-in-Make-clause-usage g c = λ nothing. absurd (nothing c.in-Some.mode c.in-Some.ensures.found)

pub returns-in-Make-clause-untouched : goal.returns-in-Make-clause-untouched
returns-in-Make-clause-untouched g c = λ nothing. absurd (nothing c.in-Some.mode c.in-Some.ensures.found)

pub returns-in-Make-clause-formats : goal.returns-in-Make-clause-formats
returns-in-Make-clause-formats g c = λ layout cluster asks. let words = map string_bytes c.args.words.now in let file = c.in-Make.file in
    let mine = subst (Means (map string_bytes c.args.words.now))
    (makes_file c.in-Some.mode file (sym c.task_of.ensures ∙ c.in-Make.is)) c.in-Some.ensures.found in
    subst (λ (l : Layout). Formats l cluster (g.D.Disk.told c.args.disk.now)
    (g.D.Disk.told c.make_file.new.disk) (g.W.Sink.written c.args.sink.now) (g.W.Sink.written c.make_file.new.sink) c.make_file.result)
    (same_layout_asked words file.layout layout file.cluster cluster mine asks) (rw
    (same_cluster_asked words file.layout layout file.cluster cluster mine asks) at c.make_file.ensures.formats)

pub returns-in-Make-clause-makes : goal.returns-in-Make-clause-makes
returns-in-Make-clause-makes g c = λ layout cluster asks. let words = map string_bytes c.args.words.now in let file = c.in-Make.file in
    let mine = subst (Means (map string_bytes c.args.words.now))
    (makes_file c.in-Some.mode file (sym c.task_of.ensures ∙ c.in-Make.is)) c.in-Some.ensures.found in
    subst (λ (l : Layout). MakesFile l cluster (g.D.Disk.told c.args.disk.now) (g.D.Disk.told c.make_file.new.disk) c.make_file.result)
    (same_layout_asked words file.layout layout file.cluster cluster mine asks) (rw
    (same_cluster_asked words file.layout layout file.cluster cluster mine asks) at c.make_file.ensures.makes)

pub returns-in-Make-clause-made_within : goal.returns-in-Make-clause-made_within
returns-in-Make-clause-made_within g c = λ layout cluster asks. let file = c.in-Make.file in
    let mine = subst (Means (map string_bytes c.args.words.now))
    (makes_file c.in-Some.mode file (sym c.task_of.ensures ∙ c.in-Make.is)) c.in-Some.ensures.found in
    subst (λ (l : Layout). AddsWithin l (g.D.Disk.told c.args.disk.now) (g.D.Disk.told c.make_file.new.disk))
    (same_layout_asked (map string_bytes c.args.words.now) file.layout layout file.cluster cluster mine asks) c.make_file.ensures.within

pub returns-in-Make-clause-runs : goal.returns-in-Make-clause-runs
returns-in-Make-clause-runs g c = λ mode of asks. absurd (none_asked (map string_bytes c.args.words.now)
    c.in-Some.mode c.in-Make.file (sym c.task_of.ensures ∙ c.in-Make.is) c.in-Some.ensures.found mode asks of)

pub returns-in-Make-clause-inspects : goal.returns-in-Make-clause-inspects
returns-in-Make-clause-inspects g c = λ asks. absurd (none_asked (map string_bytes c.args.words.now)
    c.in-Some.mode c.in-Make.file (sym c.task_of.ensures ∙ c.in-Make.is) c.in-Some.ensures.found Inspect asks tt)

pub returns-in-Make-clause-within : goal.returns-in-Make-clause-within
returns-in-Make-clause-within g c = λ mode of asks. absurd (none_asked (map string_bytes c.args.words.now)
    c.in-Some.mode c.in-Make.file (sym c.task_of.ensures ∙ c.in-Make.is) c.in-Some.ensures.found mode asks of)

pub returns-in-Make-clause-hurt : goal.returns-in-Make-clause-hurt
returns-in-Make-clause-hurt g c = λ mode of asks. absurd (none_asked (map string_bytes c.args.words.now)
    c.in-Some.mode c.in-Make.file (sym c.task_of.ensures ∙ c.in-Make.is) c.in-Some.ensures.found mode asks of)

pub returns-in-Make-clause-lived : goal.returns-in-Make-clause-lived
returns-in-Make-clause-lived g c = λ mode of asks. absurd (none_asked (map string_bytes c.args.words.now)
    c.in-Some.mode c.in-Make.file (sym c.task_of.ensures ∙ c.in-Make.is) c.in-Some.ensures.found mode asks of)

pub returns-in-Make-clause-upgrades : goal.returns-in-Make-clause-upgrades
returns-in-Make-clause-upgrades g c = λ asks. absurd (no_upgrade_asked
    (map string_bytes c.args.words.now) c.in-Some.mode c.in-Make.file (sym c.task_of.ensures ∙ c.in-Make.is) c.in-Some.ensures.found asks)

pub returns-in-Make-clause-upgraded_within : goal.returns-in-Make-clause-upgraded_within
returns-in-Make-clause-upgraded_within g c = λ asks. absurd (no_upgrade_asked
    (map string_bytes c.args.words.now) c.in-Some.mode c.in-Make.file (sym c.task_of.ensures ∙ c.in-Make.is) c.in-Some.ensures.found asks)

pub returns-in-Make-clause-upgraded_hurt : goal.returns-in-Make-clause-upgraded_hurt
returns-in-Make-clause-upgraded_hurt g c = λ asks. absurd (no_upgrade_asked
    (map string_bytes c.args.words.now) c.in-Some.mode c.in-Make.file (sym c.task_of.ensures ∙ c.in-Make.is) c.in-Some.ensures.found asks)

-- ---- words without a meaning

pub returns-in-None-clause-usage : goal.returns-in-None-clause-usage
unfolding usage
returns-in-None-clause-usage g c = λ nothing. c.print_usage.ensures.writes

pub returns-in-None-clause-formats : goal.returns-in-None-clause-formats
returns-in-None-clause-formats g c = λ layout cluster asks. absurd (c.in-None.ensures.none (Format layout cluster) asks)

pub returns-in-None-clause-makes : goal.returns-in-None-clause-makes
returns-in-None-clause-makes g c = λ layout cluster asks. absurd (c.in-None.ensures.none (Format layout cluster) asks)

pub returns-in-None-clause-made_within : goal.returns-in-None-clause-made_within
returns-in-None-clause-made_within g c = λ layout cluster asks. absurd (c.in-None.ensures.none (Format layout cluster) asks)

pub returns-in-None-clause-runs : goal.returns-in-None-clause-runs
returns-in-None-clause-runs g c = λ mode of asks. absurd (c.in-None.ensures.none mode asks)

pub returns-in-None-clause-inspects : goal.returns-in-None-clause-inspects
returns-in-None-clause-inspects g c = λ asks. absurd (c.in-None.ensures.none Inspect asks)

pub returns-in-None-clause-hurt : goal.returns-in-None-clause-hurt
returns-in-None-clause-hurt g c = λ mode of asks. absurd (c.in-None.ensures.none mode asks)

pub returns-in-None-clause-lived : goal.returns-in-None-clause-lived
returns-in-None-clause-lived g c = λ mode of asks. absurd (c.in-None.ensures.none mode asks)

pub returns-in-None-clause-within : goal.returns-in-None-clause-within
returns-in-None-clause-within g c = λ mode of asks. absurd (c.in-None.ensures.none mode asks)

pub returns-in-None-clause-upgrades : goal.returns-in-None-clause-upgrades
returns-in-None-clause-upgrades g c = λ asks. absurd (c.in-None.ensures.none Upgrade asks)

pub returns-in-None-clause-upgraded_within : goal.returns-in-None-clause-upgraded_within
returns-in-None-clause-upgraded_within g c = λ asks. absurd (c.in-None.ensures.none Upgrade asks)

pub returns-in-None-clause-upgraded_hurt : goal.returns-in-None-clause-upgraded_hurt
returns-in-None-clause-upgraded_hurt g c = λ asks. absurd (c.in-None.ensures.none Upgrade asks)
