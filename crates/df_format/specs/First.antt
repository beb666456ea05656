-- The fields that a superblock has by its file alone, and the first superblock of a file, which every copy of a new file says.
use Rattle.std.specs.Prelude.{ℕ, None}
use Rattle.df_base.specs.declared.TheConstants.{VERSION}
use Rattle.df_layout.specs.declared.layout.Layout.{Layout}
use Rattle.df_format.specs.{Spelling.{no_checksum}, Super.{no_checksums}, Copies.{Content, content_with}, declared.superblock.SuperFields.{SuperFields}}

-- the fields of a file of this layout and cluster, of version 2 and with nothing else
abbrev pub blank_super : Layout → ℕ → SuperFields
blank_super layout cluster = record {
  version = VERSION;
  slots = layout.slots;
  message_size = layout.message_size;
  clients = layout.clients;
  block_size = layout.block_size;
  blocks = layout.blocks;
  cluster = cluster;
  sequence = 0;
  op = 0;
  op_checksum = no_checksum;
  head = 0;
  replies = 0;
  trailer_address = 0;
  trailer_checksum = no_checksum;
  trailer_size = 0;
  boot = 0;
  head_checksum = no_checksum;
  reply_checksums = no_checksums;
  first_nonzero = None;
}

-- the fields of a new file: sequence 1, and no checkpoint, before the first boot
unfoldable pub first_super : Layout → ℕ → SuperFields
first_super layout cluster = record (blank_super layout cluster) { sequence = 1 }

-- what its copies agree on
abbrev pub first_content : Layout → ℕ → Content
first_content layout cluster = content_with (first_super layout cluster)
