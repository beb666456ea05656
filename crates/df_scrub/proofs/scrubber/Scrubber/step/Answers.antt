-- The next referenced block lies in the grid, and its test is the machine's verdict.
use Rattle.{std.proofs.Common.{Some}, df_scrub.proofs.Checks.{is_left, machines, next_inside, noted}}
use Rattle.df_scrub.proofs.scrubber.Scrubber.step.Goals as goal

pub test-requires : goal.test-requires
test-requires g c = record { inside = (next_inside c.args.grid.now c.args.self.now c.in-Some.reference (is_left c.args.grid.now c.args.self.now c.last.result (Some c.in-Some.reference) c.last.ensures c.in-Some.ensures)).0 }

pub note-requires : goal.note-requires
note-requires g c = record { above = (next_inside c.args.grid.now c.args.self.now c.in-Some.reference (is_left c.args.grid.now c.args.self.now c.last.result (Some c.in-Some.reference) c.last.ensures c.in-Some.ensures)).1 }

pub returns-clause-step : goal.returns-clause-step
returns-clause-step g c =
    noted c.args.grid.now c.args.self.now c.note.new.self (g.D.Disk.told c.args.disk.now) c.in-Some.reference c.in_ok-wrong.wrong c.note.result
    (is_left c.args.grid.now c.args.self.now c.last.result (Some c.in-Some.reference) c.last.ensures c.in-Some.ensures)
    c.in_ok-wrong.ensures.tested c.note.ensures.noted c.note.ensures.answer

pub returns-clause-machine : goal.returns-clause-machine
returns-clause-machine g c =
    machines c.args.grid.now c.args.self.now c.note.new.self (g.D.Disk.told c.args.disk.now) c.note.result (returns-clause-step g c)
