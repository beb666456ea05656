-- What the making leaves is what is promised of the word.
use Rattle.df_top.proofs.{Made.{makes_on, not_done}, Within.{making_within}}
use Rattle.df_top.proofs.making.make.Goals as goal

pub returns-in-Ok-clause-makes : goal.returns-in-Ok-clause-makes
returns-in-Ok-clause-makes g c = λ before may some is honest.
    makes_on c.args.rooms.now.layout c.args.cluster before may (g.D.Disk.told c.args.disk.now)
    (g.D.Disk.told c.format.new.disk) c.tell_formatted.result is honest c.format.result c.format.ensures.formats.events (λ n told.
    c.format.ensures.formats.makes before n is told may)
    (λ yes. (c.in-Ok.field-0, c.in-Ok.is))

pub returns-in-Err-clause-makes : goal.returns-in-Err-clause-makes
returns-in-Err-clause-makes g c = λ before may some is honest.
    makes_on c.args.rooms.now.layout c.args.cluster before may (g.D.Disk.told c.args.disk.now)
    (g.D.Disk.told c.format.new.disk) c.refuse_format.result is honest c.format.result c.format.ensures.formats.events (λ n told.
    c.format.ensures.formats.makes before n is told may)
    (λ yes. absurd (not_done c.in-Err.error (g.W.Sink.written c.args.sink.now)
    (g.W.Sink.written c.refuse_format.new.sink) c.refuse_format.result c.refuse_format.ensures.prints yes))

pub returns-in-Ok-clause-within : goal.returns-in-Ok-clause-within
returns-in-Ok-clause-within g c =
    making_within c.args.rooms.now.layout c.args.cluster (g.D.Disk.told c.args.disk.now) (g.D.Disk.told c.format.new.disk)
    c.format.result c.format.ensures.formats.named c.format.ensures.formats.events c.format.ensures.formats.steps

pub returns-in-Err-clause-within : goal.returns-in-Err-clause-within
returns-in-Err-clause-within g c =
    making_within c.args.rooms.now.layout c.args.cluster (g.D.Disk.told c.args.disk.now) (g.D.Disk.told c.format.new.disk)
    c.format.result c.format.ensures.formats.named c.format.ensures.formats.events c.format.ensures.formats.steps
