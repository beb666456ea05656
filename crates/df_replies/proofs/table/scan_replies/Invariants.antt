-- The slots before this one are in the list.
use Rattle.{std.proofs.Common.{◌≡◌, ◌-◌, ◌≤◌, length}, df_replies.specs.Shown.{AreSeenReplies}}
use Rattle.df_replies.proofs.table.scan_replies.Given as goal

abbrev pub invariant-loop-place : goal.invariant-loop-place
invariant-loop-place g l = record {
  within : l.place ≤ l.layout.clients;
  size : length l.replies ≡ l.layout.clients;
  shelf : l.shelf.layout ≡ l.layout;
  same : g.D.Disk.told l.disk ≡ g.D.Disk.told l.initial.disk;
  faults : g.D.Disk.faults l.disk ≡ g.D.Disk.faults l.initial.disk;
  seen : AreSeenReplies l.layout l.cluster (g.D.Disk.told l.initial.disk) l.place l.replies;
}

abbrev pub decreases-loop-place : goal.decreases-loop-place
decreases-loop-place g l = l.layout.clients - l.place
