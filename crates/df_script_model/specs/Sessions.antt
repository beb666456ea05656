-- Worked sessions on files that were just made, line by line as they are printed.
use Rattle.std.specs.Prelude.{◌≡◌, ◌<◌, ◌≤◌, ◌+◌, ◌*◌, ◌/◌, ◌==◌, ◌&&◌, ◌||◌, nat_le, nat_lt, Bool, ℕ, zero, suc, if◌then◌else◌, List, [], ◌∷◌, ◌++◌, codes, decimal, drop, length, Some, None, replicate}
use Rattle.std.specs.List.{range_with_len}
use Rattle.df_layout.specs.declared.damage.Class.TheVariants.{Blank, Garbled}
use Rattle.df_theory.specs.{Units.{BlockPlace, BlockUnit, Parts, Units}, Trailer.{no_parts}, Shape.{Shape}, View.{View}}
use Rattle.df_model.specs.{Work.{Work, kept, opened}, Blocks.{entries}, Making.{block_of, named_places}}
use Rattle.df_model.specs.Commands.{Advance, Append, Begin, Command, Flush, ReadBlock, ReadPrepare, ReadReply, Recent, Release, Reply, Scrub, Stage, WriteBlock}
use Rattle.df_model.specs.Supply.{Codec, Shown, begun_from, last_shown, last_work, nothing}
use Rattle.df_script_model.specs.Script.{printed}

-- ---- the file

-- a file of cluster 7 in this layout; its trailers aren't read in these sessions
abbrev pub file : (slots message_size clients block_size blocks : ℕ) → 0 < 7 → 0 < slots → Shape
file slots message_size clients block_size blocks named some =
    record { version = 2; cluster = 7; layout = record { slots = slots; message_size = message_size; clients = clients; block_size = block_size; blocks = blocks }; named = named; some = some; parse = λ op text. None }

abbrev pub small : 0 < 7 → 0 < 32 → Shape
small named some = file 32 8192 4 16384 64 named some

abbrev pub first_view : Shape → View
first_view sh = record {
  checkpoint = record {
    content = record {
      checksum = 0;
      version = 2;
      cluster = sh.cluster;
      layout = sh.layout;
      sequence = 1;
      boot = 0;
      op = 0;
      op_checksum = 0;
      head = 0;
      replies = 0;
      pin = 0;
      pin_checksum = 0;
      answered = 1;
      reply_checksums = replicate named_places 0;
      trailer = 0;
      trailer_checksum = 0;
      trailer_size = 0;
      rest = [];
    };
    chain = [];
    parts = no_parts;
  };
  tail = [];
  replies = 0;
  stored = λ k. None;
}

abbrev pub blank : Shown
blank = record { units = nothing; damage = λ place. Blank }

-- the size of a trailer's text: root, sessions, a bit for each block and a checksum for each that is referenced
abbrev pub text_size : Shape → Parts → ℕ
text_size sh parts = 4 + length parts.root + 4 + 32 * length parts.sessions + (sh.layout.blocks + 7) / 8 + 16 * length (entries parts.references (range_with_len 1 sh.layout.blocks))

-- texts of their true size, and a checksum of its own for each unit of these sessions
abbrev pub plain : Shape → Codec
plain sh = record {
  spell = λ parts. replicate (text_size sh parts) 0;
  prepare = λ p. 1000 + p.header.op;
  reply = λ place r. 2000 + r.header.op;
  block = λ address b. 3000 + b.sequence + length b.body;
  content = λ c. c.sequence;
}

-- the state that calls begin with after the first open, in boot 1
abbrev pub first_work : Shape → Work
first_work sh = begun_from sh (plain sh) (opened sh nothing (first_view sh))

abbrev pub session : Shape → List Command → List (List ℕ)
session sh lines = printed sh (plain sh) blank (first_work sh) lines

-- ---- sessions

abbrev pub FirstSession : Type 0
FirstSession =
    (named : 0 < 7) (some : 0 < 32)
    → session (small named some) (
    Append 5 1 [] ∷ Reply 1 (170 ∷ []) ∷ ReadReply 5 ∷ Append 5 1 [] ∷ Append 5 3 (0 ∷ []) ∷ Append 5 2 (1 ∷ 2 ∷ []) ∷ Append 5 2 (1 ∷ 2 ∷ [])
    ∷ ReadReply 5 ∷ ReadReply 6 ∷ ReadPrepare 2 ∷ ReadPrepare 3 ∷ Reply 1 [] ∷ Append 0 1 [] ∷ []
    )
    ≡ codes "appended 1\n" ∷ codes "replied 1\n" ∷ codes "reply 1 client 5 request 1 mark 1 checkpoint 1 body aa\n" ∷ codes "refused Repeated op 1\n" ∷ codes "refused RequestOrder expected 2\n" ∷ codes "appended 2\n" ∷ codes "refused ReplyPending op 2\n"
    ∷ codes "refused ReplyPending op 2\n" ∷ codes "refused NoClient\n" ∷ codes "prepare 2 client 5 request 2 mark 1 checkpoint 1 body 0102\n" ∷ codes "refused NotKept first 1 last 2\n" ∷ codes "refused ReplyOrder expected 2\n" ∷ codes "refused ClientZero\n" ∷ []

-- requests are staged, and flushed as one group
abbrev pub GroupSession : Type 0
GroupSession =
    (named : 0 < 7) (some : 0 < 32)
    → session (small named some) (
    Stage 1 1 (170 ∷ []) ∷ Stage 2 1 [] ∷ Stage 1 2 [] ∷ Append 3 1 [] ∷ ReadPrepare 1 ∷ Flush ∷ Flush ∷ ReadPrepare 2 ∷ Reply 1 [] ∷ Stage 1 2 [] ∷ Reply 2 [] ∷ Flush ∷ ReadPrepare 3 ∷ Append 3 1 [] ∷ []
    )
    ≡ codes "staged 1\n" ∷ codes "staged 2\n" ∷ codes "refused ReplyPending op 1\n" ∷ codes "refused Staged count 2\n" ∷ codes "refused NotKept first 1 last 0\n" ∷ codes "flushed 2\n" ∷ codes "refused NothingStaged\n"
    ∷ codes "prepare 2 client 2 request 1 mark 0 checkpoint 1 body -\n" ∷ codes "replied 1\n" ∷ codes "staged 3\n" ∷ codes "replied 2\n" ∷ codes "flushed 1\n" ∷ codes "prepare 3 client 1 request 2 mark 2 checkpoint 1 body -\n" ∷ codes "appended 4\n" ∷ []

-- the first request of n clients, from this one on, is staged
abbrev pub stages_from : ℕ → ℕ → List Command
stages_from k zero = []
stages_from k (suc n) = Stage k 1 [] ∷ stages_from (k + 1) n

-- what is staged has its place among the sessions, and waits for its reply
abbrev pub FullStaged : Type 0
FullStaged =
    (named : 0 < 7) (some : 0 < 32)
    → (drop 4 (session (small named some) (stages_from 1 5)) ≡ codes "refused ClientsFull max 4\n" ∷ [])
    × (drop 8 (session (file 32 8192 16 16384 64 named some) (stages_from 1 9 ++ Flush ∷ [])) ≡ codes "refused PipelineFull waiting 8\n" ∷ codes "flushed 8\n" ∷ [])

-- n requests of client 1 from this one on, each with its reply
abbrev pub requests_from : ℕ → ℕ → List Command
requests_from k zero = []
requests_from k (suc n) = Append 1 k [] ∷ Reply k [] ∷ requests_from (k + 1) n

-- a full ring is free again once a checkpoint is done, and not when it is begun
abbrev pub RingSession : Type 0
RingSession =
    (named : 0 < 7) (some : 0 < 32)
    → drop 64 (session (small named some) (requests_from 1 32 ++ (Append 1 33 [] ∷ Begin [] ∷ Append 1 33 [] ∷ Advance ∷ Advance ∷ Append 1 33 [] ∷ ReadPrepare 32 ∷ Advance ∷ ReadPrepare 33 ∷ [])))
    ≡ codes "refused WalFull op 33 checkpoint_op 0\n" ∷ codes "begun 1\n" ∷ codes "refused WalFull op 33 checkpoint_op 0\n" ∷ codes "working 1\n" ∷ codes "done 2\n" ∷ codes "appended 33\n" ∷ codes "refused NotKept first 33 last 33\n" ∷ codes "refused NotRunning\n" ∷ codes "prepare 33 client 1 request 33 mark 32 checkpoint 2 body -\n" ∷ []

-- the first request of n clients, from this one on
abbrev pub clients_from : ℕ → ℕ → List Command
clients_from k zero = []
clients_from k (suc n) = Append k 1 [] ∷ clients_from (k + 1) n

-- a table that is full of sessions, and a pipeline that is full of prepares
abbrev pub FullTable : Type 0
FullTable = (named : 0 < 7) (some : 0 < 32) → drop 4 (session (small named some) (clients_from 1 5)) ≡ codes "refused ClientsFull max 4\n" ∷ []

abbrev pub FullPipeline : Type 0
FullPipeline = (named : 0 < 7) (some : 0 < 32) → drop 8 (session (file 32 8192 16 16384 64 named some) (clients_from 1 9)) ≡ codes "refused PipelineFull waiting 8\n" ∷ []

-- blocks, and when their addresses are given out again
abbrev pub BlockSession : Type 0
BlockSession =
    (named : 0 < 7) (some : 0 < 32)
    → session (small named some) (
    WriteBlock 1 (170 ∷ []) ∷ Begin [] ∷ Advance ∷ Advance ∷ Release 1 ∷ Release 1 ∷ Begin [] ∷ Begin [] ∷ WriteBlock 1 (187 ∷ []) ∷ Advance ∷ Advance ∷ WriteBlock 1 (204 ∷ []) ∷ ReadBlock 4 ∷ WriteBlock 0 [] ∷ []
    )
    ≡ codes "wrote 1\n" ∷ codes "begun 1\n" ∷ codes "working 1\n" ∷ codes "done 2\n" ∷ codes "released 1\n" ∷ codes "refused NotLive\n" ∷ codes "begun 1\n" ∷ codes "refused Running left 2\n" ∷ codes "wrote 4\n" ∷ codes "working 1\n" ∷ codes "done 3\n"
    ∷ codes "wrote 1\n" ∷ codes "block 4 kind 1 body bb\n" ∷ codes "refused KindZero\n" ∷ []

-- the same block n times
abbrev pub equal_blocks : List ℕ → ℕ → List Command
equal_blocks body zero = []
equal_blocks body (suc n) = WriteBlock 1 body ∷ equal_blocks body n

-- the lines `wrote K` for n numbers, from this one on
abbrev pub wrote_from : ℕ → ℕ → List (List ℕ)
wrote_from k zero = []
wrote_from k (suc n) = (codes "wrote " ++ (decimal k ++ 10 ∷ [])) ∷ wrote_from (k + 1) n

-- a full grid has no block for a trailer either
abbrev pub FullGrid : Type 0
FullGrid =
    (named : 0 < 7) (some : 0 < 32)
    → session (small named some) (equal_blocks [] 64 ++ (WriteBlock 1 [] ∷ Begin [] ∷ [])) ≡ wrote_from 1 64 ++ (codes "refused GridFull blocks 64\n" ∷ codes "refused GridFull needed 1 free 0\n" ∷ [])

-- ---- a grid that fills

-- an address is one of the first n of the grid
abbrev pub is_among : (n a : ℕ) → Bool
is_among n a = nat_lt 0 a && nat_le a n

-- the state in which the first n addresses are live, each with a block that has no body
abbrev pub with_live_blocks : Shape → ℕ → Work
with_live_blocks sh n = record (first_work sh) { live = λ a. if is_among n a then Some 3000 else None }

-- and what is shown there
abbrev pub with_units : ℕ → Units
with_units n (BlockPlace a) = if is_among n a then Some (BlockUnit (block_of 1 3000 1 [])) else None
with_units n place = None

-- n lines that write a block, on a file that was just made: each is answered with the least address that isn't held, which is the next number, and they lead to the state with n live blocks
pub record FillsGrid (sh : Shape) (n : ℕ) : Type 0 where
  pub prints : session sh (equal_blocks [] n) ≡ wrote_from 1 n
  pub leads : last_work sh (plain sh) blank (first_work sh) (equal_blocks [] n) ≡ with_live_blocks sh n
  pub shows : (last_shown sh (plain sh) blank (first_work sh) (equal_blocks [] n)).units ≡ with_units n

-- in every layout, up to its last block
abbrev pub FillLaw : Type 0
FillLaw = (sh : Shape) (n : ℕ) → n ≤ sh.layout.blocks → FillsGrid sh n

-- a trailer of one block for 231 references, and of two for 232
abbrev pub LongTrailer : Type 0
LongTrailer =
    (named : 0 < 7) (some : 0 < 16)
    → let sh = file 16 4096 1 4096 1024 named some in
    (session sh (equal_blocks [] 231 ++ (Begin [] ∷ [])) ≡ wrote_from 1 231 ++ (codes "begun 1\n" ∷ []))
    × (session sh (equal_blocks [] 232 ++ (Begin [] ∷ Advance ∷ Advance ∷ Advance ∷ [])) ≡ wrote_from 1 232 ++ (codes "begun 2\n" ∷ codes "working 2\n" ∷ codes "working 1\n" ∷ codes "done 2\n" ∷ []))

-- five blocks, of which the second and the fourth are overwritten between two runs, and a block that nothing references
abbrev pub hurt : Units → Units
hurt image (BlockPlace a) = if (a == 2) || ((a == 4) || (a == 7)) then None else image (BlockPlace a)
hurt image place = image place

abbrev pub five_blocks : List Command
five_blocks = equal_blocks (0 ∷ []) 5 ++ (Begin [] ∷ Advance ∷ Advance ∷ [])

abbrev pub ScrubSession : Type 0
ScrubSession =
    (named : 0 < 7) (some : 0 < 32)
    → let sh = small named some in
    let codec = plain sh in
    let shown : Shown = record { units = hurt (last_shown sh codec blank (first_work sh) five_blocks).units; damage = λ place. Garbled } in
    let w = begun_from sh codec (opened sh shown.units (kept (last_work sh codec blank (first_work sh) five_blocks))) in
    printed sh codec shown w (Scrub ∷ Scrub ∷ Scrub ∷ Scrub ∷ Scrub ∷ Scrub ∷ Scrub ∷ Recent ∷ [])
    ≡ codes "checked 1 Sound\n" ∷ codes "checked 2 Garbled\n" ∷ codes "checked 3 Sound\n" ∷ codes "checked 4 Garbled\n" ∷ codes "checked 5 Sound\n" ∷ codes "checked 6 Sound\n" ∷ codes "tour 6 2\n" ∷ codes "recent 2 2 Garbled 4 Garbled\n" ∷ []
