-- What is read after the barrier is what the disk showed before it, and a refusal is the answer to the open.
use Rattle.std.proofs.Common.{◌≡◌, ◌∙◌, ℕ, List, Option, Some, None, Result, Ok, Err, refl, sym, ap, subst}
use Rattle.{df_base.specs.{Image.{Image, IsImage}, Log.{Sync}}, df_disk.specs.Told.{Told, after}}
use Rattle.{df_layout.specs.declared.{layout.Layout.{Layout}, damage.Class.{Class}}, df_model.specs.declared.errors.OpenError.{OpenError}}
use Rattle.df_format.specs.{declared.superblock.SuperFields.{SuperFields}, declared.header.Header.{Header}}
use Rattle.df_journal.specs.{Scan.{Scan}, declared.table.Start.{Start}, Starting.{start_of}}
use Rattle.df_journal.specs.Scanned as rings
use Rattle.df_replies.specs.Shown as slots
use Rattle.df_rooms.specs.declared.file.DataFile.{DataFile}
use Rattle.df_recovery.{specs.{Checkpoints.{Base, TellsCheckpoint}, Finding.{IsOfFile, read_of}, Found.{IsFoundAs}, Opening.{HasSuperAs, IsLayoutOf}, Scanning.{AreCopies, AreScanned, IsFileOf, IsReadBehind, IsScanAs, IsServed, TellsReadAs, base_scanned}, Surveys.{SurveysAs}, declared.{scanned.Scanned.{Scanned}, scanning.Copies.{Copies}}}, proofs.{Asked.{super_as}, Refusals.{trailer_refused}, Synced.{synced}}}

-- the tables have what the file shows
pub tables_of : (l layout : Layout) (start : Start) (f : SuperFields)
    (now told : Option Told) (scan : Scan) (replies : List (Result Header Class)) → AreScanned l start.cluster now scan replies
    → l ≡ layout → start ≡ start_of f → now ≡ told → AreScanned layout f.cluster told scan replies
tables_of l layout start f now told scan replies are same from still = subst (λ (k : Layout). AreScanned k f.cluster told scan replies) same
    (rw from at (rw still at are))

tells_synced : (file : DataFile) (told : Option Told) (f : SuperFields) (result : Result Base OpenError)
    → TellsCheckpoint file (after Sync told) f result → TellsCheckpoint file told f result
tells_synced file None f result tells = tt
tells_synced file (Some t) f (Ok base) tells = tells
tells_synced file (Some t) f (Err e) tells = tells

behind_synced : (layout : Layout) (told : Option Told) (s : Scanned) → IsReadBehind layout (after Sync told) s → IsReadBehind layout told s
behind_synced layout told s read = record {
  file = read.file;
  checkpoint = tells_synced s.file told s.copies.found.content (Ok (base_scanned s)) read.checkpoint;
  sessions = read.sessions;
  places = read.places;
  idle = read.idle;
  start = read.start;
  tables = synced layout s.copies.found.content.cluster told s.rooms.log.slots s.rooms.log.replies read.tables;
}

pub scan_read : (version : ℕ) (layout : Layout) (old new : Option Told) (s : Scanned) → new ≡ after Sync old
    → AreCopies version old s.copies → IsServed layout s.copies.found.content → IsReadBehind layout new s → IsScanAs version layout old s
scan_read version layout old new s barrier found served read = record {
  copies = found;
  served = served;
  behind = behind_synced layout old s (rw barrier at read);
}

-- the superblock that was asked for is of a file of its version
file_asked : (version : ℕ) (image : Image) (f : SuperFields) (file : DataFile)
    → HasSuperAs version image f → file.version ≡ f.version → (file.version ≡ version) × HasSuperAs file.version image f
file_asked version image f file has of = let same : file.version ≡ version = of ∙ (super_as version f has.usable).0 in
    (same, rw (sym same) at has)

-- the superblock is the answer so far
pub scan_found : (version : ℕ) (layout : Layout) (told : Option Told) (copies : Copies) (s : Scanned) → s.copies ≡ copies
    → TellsReadAs version (λ (c : Copies). c.found) layout told (Ok copies) → TellsReadAs version (λ (x : Scanned). x.copies.found) layout
    told (Ok s)
scan_found version layout None copies s same answer = tt
scan_found version layout (Some t) copies s same answer = subst (λ (c : Copies). IsFoundAs version t.shown c.found) (sym same) answer

-- and so is a refusal of the trailer after it
pub scan_refused : (version : ℕ) (layout : Layout) (copies : Copies) (old new : Option Told) (file : DataFile) (e : OpenError)
    → new ≡ after Sync old → IsServed layout copies.found.content → TellsReadAs version (λ (c : Copies). c.found) layout old (Ok copies)
    → IsFileOf layout copies.found.content file → TellsCheckpoint file new copies.found.content (Err e)
    → TellsReadAs version (λ (s : Scanned). s.copies.found) layout old (Err e)
scan_refused version layout copies None new file e barrier served answer of refused = tt
scan_refused version layout copies (Some t) new file e barrier served answer of refused = λ whole. let f = copies.found.content in
    let asked = file_asked version t.shown f file answer.super of.version_is in
    let tells : TellsCheckpoint file (Some t) f (Err e) = tells_synced file (Some t) f (Err e)
    (subst (λ (u : Option Told). TellsCheckpoint file u f (Err e)) barrier refused) in
    subst (λ (l : Layout). SurveysAs version l t.shown (Err e)) of.layout_is
    (subst (λ (v : ℕ). SurveysAs v file.layout t.shown (Err e)) asked.0 (trailer_refused file t.shown f (record {
      super = asked.1;
      layout = subst (λ (l : Layout). IsLayoutOf l f) (sym of.layout_is) served.layout_is;
      cluster = sym of.cluster_is;
    }) whole e tells))

-- ---- what was scanned is of its file

pub scanned_as : (version : ℕ) (t : Told) (layout : Layout) (s : Scanned) → IsImage t.shown
    → IsFoundAs version t.shown s.copies.found → IsScanAs version layout (Some t) s → IsOfFile t s.file (read_of s) (base_scanned s)
scanned_as version t layout s whole found scan = let read = scan.behind in
    let asked = file_asked version t.shown s.copies.found.content s.file found.super read.file.version_is in
    let cluster : s.rooms.log.slots.start.cluster ≡ s.copies.found.content.cluster = ap (λ (x : Start). x.cluster) read.start in record {
      image = whole;
      has = record { super = asked.1; layout = rw (sym read.file.layout_is) at scan.served.layout_is; cluster = sym read.file.cluster_is };
      choice = found.choice;
      chosen_is = found.content;
      layout = refl;
      cluster = cluster ∙ sym read.file.cluster_is;
      start = read.start;
      scanned = record {
        slots = rw (sym read.file.layout_is) at read.tables.rings;
        replies = rw (sym read.file.layout_is) at (rw (sym cluster) at read.tables.replies_are);
      };
      checkpoint = read.checkpoint;
      sessions = refl;
    }
