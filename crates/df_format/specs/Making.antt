-- What the maker of a unit says of it: what its kind names, and nothing else; and what follows from the body.
use Rattle.std.specs.Prelude.{◌+◌, ℕ, List, length}
use Rattle.df_base.specs.{declared.TheConstants.{FIRST_VERSION, HEADER}, Fields.{check_of}}
use Rattle.df_format.specs.{declared.header.Header.{Header}, declared.kind.Kind.{Kind}, declared.kind.Kind.TheVariants.{Reserved, Prepare, Reply, Block, Trailer}, Spelling.{no_checksum}}

-- a header of version 1, this kind and this cluster that says nothing else: all other fields are zero
abbrev pub blank_header : Kind → ℕ → Header
blank_header kind cluster = record {
  checksum = no_checksum;
  checksum_body = no_checksum;
  cluster = cluster;
  parent = no_checksum;
  client = 0;
  op = 0;
  request = 0;
  mark = 0;
  checkpoint = 0;
  size = 0;
  slot = 0;
  kind = kind;
  block_kind = 0;
  version = FIRST_VERSION;
  boot = 0;
  group = 0;
  group_last = 0;
}

-- what a prepare and its reply say of their request
abbrev pub of_request : Kind → ℕ → Header → Header
of_request kind cluster h = record (blank_header kind cluster) {
  parent = h.parent;
  client = h.client;
  op = h.op;
  request = h.request;
  mark = h.mark;
  checkpoint = h.checkpoint;
  slot = h.slot;
  version = h.version;
  boot = h.boot;
}

-- the fields that each kind names, as a header has them; size and checksums follow from these and the body, and all others are zero
abbrev pub of_kind : Kind → ℕ → Header → Header
of_kind Reserved cluster h = record (blank_header Reserved cluster) { slot = h.slot; version = h.version }
of_kind Prepare cluster h = record (of_request Prepare cluster h) { group = h.group; group_last = h.group_last }
of_kind Reply cluster h = of_request Reply cluster h
of_kind Block cluster h = record (blank_header Block cluster) { op = h.op; block_kind = h.block_kind; version = h.version; boot = h.boot }
of_kind Trailer cluster h =
    record (blank_header Trailer cluster) { parent = h.parent; op = h.op; request = h.request; mark = h.mark; checkpoint = h.checkpoint; version = h.version; boot = h.boot }

-- a header with the fields that follow from the body
abbrev pub for_body : Header → List ℕ → Header
for_body h body = record h { checksum_body = check_of body; size = HEADER + length body }
