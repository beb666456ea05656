-- Each line by its kind.
use Rattle.std.proofs.Common.{◌≡◌, ◌≤◌, length, None, refl, sym, subst}
use Rattle.df_rows.specs.{declared.line.Line.{Line}, Answers.{refusal_of}, Grammar.{Count, Get, said_with, value_length}}
use Rattle.df_table.{specs.Serving.{ExecutesLine}, proofs.{Behind.{told_executes}, Blamed.{tells_disk}, Executed.{fine_text, get_has, get_none}}}
use Rattle.df_table.proofs.turns.perform.Goals as goal

pub put-requires : goal.put-requires
put-requires g c = record {
  serving = c.requires.serving;
  size = rw c.in-Put.is at c.requires.size;
  fine = rw c.in-Put.is at c.requires.fine;
}

pub drop_key-requires : goal.drop_key-requires
drop_key-requires g c = record { serving = c.requires.serving; fine = rw c.in-Drop.is at c.requires.fine }

pub get-requires : goal.get-requires
get-requires g c = get_has c.args.session.now.table c.in-Get.key (rw c.in-Get.is at c.requires.fine)

pub returns-in-Put-clause-executes : goal.returns-in-Put-clause-executes
returns-in-Put-clause-executes g c = let s = c.args.session.now in
    subst (λ (l : Line). ExecutesLine s.layout (said_with s.lines.body l) s c.put.new.session (g.D.Disk.told c.args.disk.now) (g.D.Disk.told c.put.new.disk) (g.W.Sink.written c.args.sink.now) (g.W.Sink.written c.put.new.sink) c.put.result) (sym c.in-Put.is) c.put.ensures.executes

pub returns-in-Drop-clause-executes : goal.returns-in-Drop-clause-executes
returns-in-Drop-clause-executes g c = let s = c.args.session.now in
    subst (λ (l : Line). ExecutesLine s.layout (said_with s.lines.body l) s c.drop_key.new.session (g.D.Disk.told c.args.disk.now)
    (g.D.Disk.told c.drop_key.new.disk) (g.W.Sink.written c.args.sink.now) (g.W.Sink.written c.drop_key.new.sink) c.drop_key.result)
    (sym c.in-Drop.is) c.drop_key.ensures.executes

pub returns-in-Get-clause-executes : goal.returns-in-Get-clause-executes
returns-in-Get-clause-executes g c = let s = c.args.session.now in let told = g.D.Disk.told c.args.disk.now in
    let fine = rw c.in-Get.is at c.requires.fine in subst (λ (l : Line). ExecutesLine s.layout (said_with s.lines.body l)
    s s told told (g.W.Sink.written c.args.sink.now) (g.W.Sink.written c.get.new.sink) c.get.result) (sym c.in-Get.is)
    (told_executes s.layout (Get c.in-Get.key) s told (g.W.Sink.written c.args.sink.now) (g.W.Sink.written c.get.new.sink)
    _ c.get.result (get_none s.table c.in-Get.key) (fine_text s.table s.replica.head (Get c.in-Get.key) fine)
    (c.get.ensures.tells s.replica.head) c.requires.serving.1.live)

pub returns-in-Get-clause-disk : goal.returns-in-Get-clause-disk
returns-in-Get-clause-disk g c = tells_disk _ (g.W.Sink.written c.args.sink.now) (g.W.Sink.written c.get.new.sink)
    c.get.result (g.D.Disk.faults c.args.disk.now) (g.D.Disk.faults c.args.disk.now) (c.get.ensures.tells 0) refl

pub returns-in-Count-clause-executes : goal.returns-in-Count-clause-executes
returns-in-Count-clause-executes g c = let s = c.args.session.now in let told = g.D.Disk.told c.args.disk.now in
    subst (λ (l : Line). ExecutesLine s.layout (said_with s.lines.body l)
    s s told told (g.W.Sink.written c.args.sink.now) (g.W.Sink.written c.count.new.sink) c.count.result) (sym c.in-Count.is)
    (told_executes s.layout Count s told (g.W.Sink.written c.args.sink.now)
    (g.W.Sink.written c.count.new.sink) _ c.count.result refl refl (c.count.ensures.tells s.replica.head) c.requires.serving.1.live)

pub returns-in-Count-clause-disk : goal.returns-in-Count-clause-disk
returns-in-Count-clause-disk g c = tells_disk _ (g.W.Sink.written c.args.sink.now) (g.W.Sink.written c.count.new.sink)
    c.count.result (g.D.Disk.faults c.args.disk.now) (g.D.Disk.faults c.args.disk.now) (c.count.ensures.tells 0) refl
