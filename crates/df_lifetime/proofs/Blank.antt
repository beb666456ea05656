-- A file may be made on a disk that was never written.
use Rattle.std.proofs.{Common.{◌<◌, ◌^◌, ℕ, List, [], ◌∷◌, sym, subst, arith}, lemmas.List.{length-replicate}}
use Rattle.df_base.{specs.{Image.{Image, IsImage}, Log.{AreEvents, AreSyncs, Event, Stop, Sync, Write}}, proofs.Laws.{blank_is_image}}
use Rattle.{df_layout.specs.declared.layout.Layout.{Layout}, df_theory.specs.{Device.{units_log}, MakingLaws.{IsMaking}}}
use Rattle.df_format.{specs.{First.{first_content, first_super}, Spelling.{IsCheck, no_checksum}, Super.{AreChecks, FitsSuper, no_checksums}}, proofs.Laws.{no_names, no_check}}
use Rattle.df_units.{specs.{Format.{format_of}, Meaning.{content_of}}, proofs.Laws.{new_is_making}}
use Rattle.df_session.{specs.{Below.{shape}, Making.{file_of}}, proofs.Laws.{first_is_super}}
use Rattle.df_lifetime.specs.NewDisks.{NewDisksAreMadeOn}

-- ---- its superblock can be used

no_checks : AreChecks no_checksums
unfolding no_checksums
no_checks = record { size = length-replicate {A = List ℕ} 64 no_checksum; each = λ k past inside. subst IsCheck (sym (no_names k past inside)) no_check }

first_fits : (layout : Layout) (cluster : ℕ) → cluster < 2 ^ 128 → FitsSuper (first_super layout cluster)
unfolding first_super
first_fits layout cluster below = record {
  version = omega arith;
  slots = omega (arith, layout.slots_within);
  message_size = omega (arith, layout.message_size_within);
  clients = omega (arith, layout.clients_within);
  block_size = omega (arith, layout.block_size_within);
  blocks = omega (arith, layout.blocks_within);
  cluster = below;
  sequence = omega arith;
  op = omega arith;
  op_checksum = no_check;
  head = omega arith;
  replies = omega arith;
  trailer_address = omega arith;
  trailer_checksum = no_check;
  trailer_size = omega arith;
  boot = omega arith;
  head_checksum = no_check;
  reply_checksums = no_checks;
}

-- ---- a blank disk

syncs_are_events : (es : List Event) → AreSyncs es → AreEvents es
syncs_are_events [] syncs = tt
syncs_are_events ((Write at bytes) ∷ es) syncs = absurd syncs
syncs_are_events (Sync ∷ es) syncs = syncs_are_events es syncs
syncs_are_events ((Stop changes) ∷ es) syncs = absurd syncs

pub new_disks_are_made_on : NewDisksAreMadeOn
new_disks_are_made_on layout cluster t named below blank_start syncs = record {
  named = named;
  is_log = record { start = subst IsImage (sym blank_start) blank_is_image; events = syncs_are_events t.log.events syncs };
  making = rw (sym blank_start) at (new_is_making layout cluster named (shape (file_of layout cluster named)).parse
      t.log.events (record { rules = first_is_super layout cluster named; fits = first_fits layout cluster below }) syncs);
}
