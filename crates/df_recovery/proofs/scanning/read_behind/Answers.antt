-- The tables are of the file, after its superblock; a failing disk says nothing of the trailer.
use Rattle.{std.proofs.Common.{◌∙◌, ap}, df_journal.specs.Starting.{start_of}, df_recovery.proofs.{Bases.{told_fault}, Scans.{tables_of}}}
use Rattle.df_recovery.proofs.scanning.read_behind.Goals as goal

pub returns-in-Ok-clause-reads : goal.returns-in-Ok-clause-reads
returns-in-Ok-clause-reads g c = let file = c.args.file.now in let f = c.args.content.now in let told = g.D.Disk.told c.args.disk.now in
    let from = c.of.ensures ∙ ap start_of c.fields.ensures.value in record {
      checkpoint = c.in_ok-base.ensures.reads;
      start = c.scan_zones.ensures.start ∙ from;
      tables = tables_of c.args.rooms.now.log.layout file.layout c.of.result f (g.D.Disk.told c.read_checkpoint.new.disk)
          told c.scan_zones.new.rooms.slots c.scan_zones.new.rooms.replies c.in-Ok.ensures.scanned
          (c.args.rooms.now.log_fits ∙ c.requires.rooms.rooms_are) from c.read_checkpoint.ensures.same;
    }

pub returns-in-Err-clause-reads : goal.returns-in-Err-clause-reads
returns-in-Err-clause-reads g c = told_fault c.args.file.now (g.D.Disk.told c.args.disk.now) c.args.content.now
