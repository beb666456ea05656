-- What a superblock records of the state as it is: by the update that ends a checkpoint, and by that of an open.
use Rattle.std.specs.{Prelude.{◌≡◌, ◌≢◌, ◌<◌, ◌≤◌, ◌+◌, ℕ, List, map, slice_get, Option, Some, None}, List.{range_with_len}}
use Rattle.df_base.specs.declared.TheConstants.{GREATEST, VERSION}
use Rattle.df_layout.specs.Limits.{AreWithinLimits}
use Rattle.df_format.specs.{Spelling.{no_checksum}, SuperRules.{greatest_trailer}, declared.superblock.SuperFields.{SuperFields}}
use Rattle.df_sessions.specs.declared.session.Session.{Session}
use Rattle.df_model.specs.Making.{named_places}
use Rattle.df_rooms.specs.State.{State}

-- the checksum of a stored reply, zeros where none is stored
abbrev pub check_or_zeros : Option (List ℕ) → List ℕ
check_or_zeros None = no_checksum
check_or_zeros (Some check) = check

-- that of a session's, and zeros where there is no session
abbrev pub stored_check : Option Session → List ℕ
stored_check None = no_checksum
stored_check (Some s) = check_or_zeros s.reply

-- by place
unfoldable pub stored_checks : List Session → List (List ℕ)
stored_checks sessions = map (λ k. stored_check (slice_get sessions k)) (range_with_len 0 named_places)

-- these fields, with the state as it is now: its head and that prepare's checksum, its replies and the checksum of each that is stored
abbrev pub recorded : State → SuperFields → SuperFields
recorded s f = record f { head = s.head; head_checksum = s.head_checksum; replies = s.replies; reply_checksums = stored_checks s.table.sessions }

-- the superblock of a boot update: of the same checkpoint, with the next boot
abbrev pub boot_fields : State → SuperFields
boot_fields s = recorded s (record s.fields { boot = s.fields.boot + 1 })

-- fields of version 2 whose checkpoint is in order with a state
pub record MayRecord (s : State) (f : SuperFields) : Type 0 where
  pub version : f.version ≡ VERSION
  pub boot : f.boot ≤ GREATEST
  pub layout : AreWithinLimits f.slots f.message_size f.clients f.block_size f.blocks
  pub places : f.clients ≡ s.file.layout.clients
  pub cluster : 0 < f.cluster
  pub sequence : (0 < f.sequence) × (f.sequence ≤ GREATEST)
  pub op : f.op ≤ s.head
  pub room : s.head ≤ f.op + f.slots
  pub op_checksum : f.op ≡ 0 → f.op_checksum ≡ no_checksum
  pub level : s.head ≡ f.op → s.head_checksum ≡ f.op_checksum
  pub trailer : (f.trailer_address ≤ f.blocks) × (f.op ≢ 0 → f.trailer_address ≢ 0)
  pub trailer_checksum : f.trailer_address ≡ 0 → f.trailer_checksum ≡ no_checksum
  pub no_trailer : f.trailer_address ≡ 0 → f.trailer_size ≡ 0
  pub trailer_size : f.trailer_address ≢ 0 → (0 < f.trailer_size) × (f.trailer_size ≤ greatest_trailer f)
  pub zero : f.first_nonzero ≡ None
