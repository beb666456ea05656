-- What was read after the barrier, which changes nothing of what is shown, stands after the superblock; a refusal is the trailer's, or the
-- disk's.
use Rattle.{std.proofs.Common.{refl, ap}, df_format.specs.declared.superblock.SuperFields.{SuperFields}}
use Rattle.df_recovery.proofs.Scans.{scan_found, scan_read, scan_refused}
use Rattle.df_recovery.proofs.scanning.scan_file.Goals as goal

pub returns-in-Ok-read_behind-clause-scanned : goal.returns-in-Ok-read_behind-clause-scanned
returns-in-Ok-read_behind-clause-scanned g c = let behind = c.in-Ok-read_behind.ensures.reads in
    scan_read c.args.version c.args.rooms.layout (g.D.Disk.told c.args.disk.now) (g.D.Disk.told c.find_served.new.disk) _
    c.in-Ok.ensures.barrier c.in-Ok.ensures.copies c.in-Ok.ensures.served (record {
      file = record {
        layout_is = refl;
        cluster_is = ap (λ (f : SuperFields). f.cluster) c.fields.ensures.value;
        version_is = ap (λ (f : SuperFields). f.version) c.fields-2.ensures.value;
      };
      checkpoint = behind.checkpoint.tells;
      sessions = behind.checkpoint.sessions;
      places = behind.checkpoint.places;
      idle = c.in-Ok-read_behind.ensures.fits.idle;
      start = behind.start;
      tables = behind.tables;
    })

pub returns-in-Ok-read_behind-clause-answer : goal.returns-in-Ok-read_behind-clause-answer
returns-in-Ok-read_behind-clause-answer g c = scan_found c.args.version c.args.rooms.layout (g.D.Disk.told c.args.disk.now) c.in-Ok.copies
    _ refl c.in-Ok.ensures.answer

pub returns-in-Err-read_behind-clause-answer : goal.returns-in-Err-read_behind-clause-answer
returns-in-Err-read_behind-clause-answer g c =
    scan_refused c.args.version c.args.rooms.layout c.in-Ok.copies (g.D.Disk.told c.args.disk.now) (g.D.Disk.told c.find_served.new.disk)
    _ c.in-Err-read_behind.refusal c.in-Ok.ensures.barrier c.in-Ok.ensures.served c.in-Ok.ensures.answer (record {
      layout_is = refl;
      cluster_is = ap (λ (f : SuperFields). f.cluster) c.fields.ensures.value;
      version_is = ap (λ (f : SuperFields). f.version) c.fields-2.ensures.value;
    }) c.in-Err-read_behind.ensures.reads
