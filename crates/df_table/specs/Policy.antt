-- The machine's commands that a table's program asks for: all of a session is a list of them.
use Rattle.std.specs.{Prelude.{ℕ, ◌+◌, ◌-◌, Bool, nat_lt, if◌then◌else◌, List, [], ◌∷◌, ◌++◌, map, replicate}, Fork.{slice_chunk}, List.{range_with_len}}
use Rattle.std.specs.FinMap as maps
use Rattle.df_layout.specs.declared.layout.Layout.{Layout}
use Rattle.df_model.specs.{Blocks.{entry, sum_at}, Commands.{Advance, Append, Begin, Command, ReadBlock, ReadPrepare, Release, Reply, WriteBlock}, Memory.{Memory}}
use Rattle.df_model.specs.Refusals.{next_request, session_of_client}
use Rattle.df_rows.specs.{declared.command.Command.{Command as Change}, Blocks.{bodies_of}, Commands.{Map, body_of}, Limits.{rows_in_block}, Rows.{rows_of}}

-- the client whose requests the puts and drops are
abbrev pub the_client : ℕ
the_client = 1

-- ---- the opening

-- the live blocks are read, in order of address, and the prepares after the checkpoint, in order of op
abbrev pub block_reads : Memory → List Command
block_reads m = map (λ x. ReadBlock x.0) m.blocks.live

abbrev pub prepare_reads : Memory → List Command
prepare_reads m = map ReadPrepare (range_with_len (m.content.op + 1) (m.head - m.content.op))

-- the read of the block at one address, where one is live
abbrev pub reads_at : ℕ → Memory → List Command
reads_at address m = map (λ x. ReadBlock x.0) (entry address (sum_at address m.blocks.live) [])

-- what waits is replied to
abbrev pub replies : Memory → List Command
replies m = map (λ op. Reply op []) (range_with_len (m.replies + 1) (m.head - m.replies))

abbrev pub opening : Memory → List Command
opening m = block_reads m ++ (prepare_reads m ++ replies m)

-- ---- a checkpoint of the table

-- all live blocks go
abbrev pub releases : Memory → List Command
releases m = map (λ x. Release x.0) m.blocks.live

-- that of the block at one address, where one is live
abbrev pub releases_at : ℕ → Memory → List Command
releases_at address m = map (λ x. Release x.0) (entry address (sum_at address m.blocks.live) [])

-- the body of a block of the table, counted from 0
abbrev pub body_at : Layout → Map → (block : ℕ) → List ℕ
body_at layout rows block = rows_of (slice_chunk (maps.entries rows) (rows_in_block layout) block)

-- the blocks of the table are written, in order of its rows
abbrev pub writes : Layout → Map → List Command
writes layout rows = map (WriteBlock 1) (bodies_of (rows_in_block layout) (maps.entries rows))

-- and a checkpoint without a root is begun, and stepped so often
abbrev pub checkpoint : Layout → Memory → Map → (steps : ℕ) → List Command
checkpoint layout m rows steps = releases m ++ (writes layout rows ++ (Begin [] ∷ replicate steps Advance))

-- ---- a put or a drop

-- the ring has no slot for the next op
abbrev pub is_full : Memory → Bool
is_full m = nat_lt (m.content.op + m.layout.slots) (m.head + 1)

-- where it has none, a checkpoint of the table comes first
abbrev pub room_for : Layout → Memory → Map → (steps : ℕ) → List Command
room_for layout m rows steps = if is_full m then checkpoint layout m rows steps else []

-- then the append of the client's next request, and an empty reply to it
abbrev pub request : Memory → Change → List Command
request m c = Append the_client (next_request (session_of_client the_client m.sessions)) (body_of c) ∷ Reply (m.head + 1) [] ∷ []

-- the commands of a line: none where it asks for none
abbrev pub line_commands : Layout → Memory → Map → (steps : ℕ) → List Change → List Command
line_commands layout m rows steps [] = []
line_commands layout m rows steps (c ∷ more) = room_for layout m rows steps ++ request m c
