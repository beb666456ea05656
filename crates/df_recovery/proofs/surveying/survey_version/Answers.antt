-- What was settled is of what the disk tells.
use Rattle.{std.proofs.Common.{◌≡◌, ◌∙◌, ap}, df_rooms.specs.declared.file.DataFile.{DataFile}}
use Rattle.df_recovery.{specs.{Surveying.{IsReadOf, KeepsScannedFile, found_or_refused}, declared.surveying.Surveyed.{Surveyed}}, proofs.Settled.{if_ok_more, lawful, read_kept, told_answer, told_mends, version_is}}
use Rattle.df_recovery.proofs.surveying.survey_version.Goals as goal

pub settle-requires-clause-scanned : goal.settle-requires-clause-scanned
settle-requires-clause-scanned g c =
    lawful c.args.version c.args.rooms.layout (g.D.Disk.told c.args.disk.now) c.in-Ok.scanned c.in-Ok.ensures.scanned

pub returns-in-Ok-clause-layout : goal.returns-in-Ok-clause-layout
returns-in-Ok-clause-layout g c =
    if_ok_more (λ (y : Surveyed).
    KeepsScannedFile c.in-Ok.scanned y.scanned) (λ (y : Surveyed). y.scanned.file.layout ≡ c.args.rooms.layout) c.settle.result (λ y of.
    ap (λ (file : DataFile). file.layout) of.file ∙ c.in-Ok.ensures.scanned.behind.file.layout_is) c.settle.ensures.kept

pub returns-in-Ok-clause-version : goal.returns-in-Ok-clause-version
returns-in-Ok-clause-version g c = if_ok_more (λ (y : Surveyed).
    KeepsScannedFile c.in-Ok.scanned y.scanned) (λ (y : Surveyed). y.scanned.file.version ≡ c.args.version) c.settle.result
    (λ y of. ap (λ (file : DataFile). file.version) of.file ∙ version_is
    c.args.version c.in-Ok.scanned c.args.rooms.layout (g.D.Disk.told c.args.disk.now) c.in-Ok.ensures.scanned) c.settle.ensures.kept

pub returns-in-Ok-clause-answer : goal.returns-in-Ok-clause-answer
returns-in-Ok-clause-answer g c = told_answer c.args.version c.in-Ok.scanned c.args.rooms.layout (found_or_refused c.settle.result)
    (g.D.Disk.told c.args.disk.now) c.in-Ok.ensures.answer c.in-Ok.ensures.scanned c.settle.ensures.answer

pub returns-in-Ok-clause-read : goal.returns-in-Ok-clause-read
returns-in-Ok-clause-read g c = if_ok_more (λ (y : Surveyed). KeepsScannedFile c.in-Ok.scanned y.scanned) (λ (y : Surveyed).
    IsReadOf c.args.version c.args.rooms.layout (g.D.Disk.told c.args.disk.now) y.scanned) c.settle.result
    (λ y of. read_kept c.args.version c.args.rooms.layout
    (g.D.Disk.told c.args.disk.now) c.in-Ok.scanned y.scanned c.in-Ok.ensures.answer c.in-Ok.ensures.scanned of) c.settle.ensures.kept

pub returns-in-Ok-clause-mends : goal.returns-in-Ok-clause-mends
returns-in-Ok-clause-mends g c = told_mends c.args.version c.in-Ok.scanned c.args.rooms.layout c.settle.result
    (g.D.Disk.told c.args.disk.now) c.in-Ok.ensures.answer c.in-Ok.ensures.scanned c.settle.ensures.planned c.settle.ensures.kept
