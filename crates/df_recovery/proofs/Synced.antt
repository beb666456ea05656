-- A sync changes nothing of what a disk shows.
use Rattle.{std.proofs.Common.{ℕ, List, Option, Some, None, Result}, df_base.specs.Log.{Sync}, df_disk.specs.Told.{Told, after}}
use Rattle.{df_layout.specs.declared.{damage.Class.{Class}, layout.Layout.{Layout}}, df_format.specs.declared.header.Header.{Header}}
use Rattle.{df_journal.specs.Scan.{Scan}, df_recovery.specs.Scanning.{AreScanned}}

pub synced : (layout : Layout) (cluster : ℕ) (told : Option Told) (slots : Scan) (replies : List (Result Header Class))
    → AreScanned layout cluster (after Sync told) slots replies → AreScanned layout cluster told slots replies
synced layout cluster None slots replies scanned = scanned
synced layout cluster (Some t) slots replies scanned = record {
  rings = record { seen = scanned.rings.seen; is_table = scanned.rings.is_table };
  replies_are = record { size = scanned.replies_are.size; seen = scanned.replies_are.seen };
}
