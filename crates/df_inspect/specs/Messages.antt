-- The lines that show a prepare, a reply or a block, in the units of the format.
use Rattle.std.specs.Prelude.{ℕ, List, codes}
use Rattle.df_format.specs.declared.header.Header.{Header}
use Rattle.df_script_model.specs.Texts.{block_text, message_text, numbered, spaced}
use Rattle.df_units.specs.Meaning.{block_of, message_of}

-- a message of the format, shown after this word
abbrev pub shown_text : List ℕ → Header → List ℕ → List ℕ
shown_text word header body = message_text word (message_of (record { header = header; body = body }))

-- the front of such a line, up to its body
abbrev pub message_front : List ℕ → Header → List ℕ
message_front word h =
    spaced (numbered word h.op) (spaced (numbered (codes "client") h.client) (spaced (numbered (codes "request") h.request)
    (spaced (numbered (codes "mark") h.mark) (spaced (numbered (codes "checkpoint") h.checkpoint) (codes "body ")))))

-- a block of the format, shown at its address
abbrev pub shown_block : ℕ → Header → List ℕ → List ℕ
shown_block address header body = block_text address (block_of (record { header = header; body = body }))

-- the front of such a line, up to its body
abbrev pub block_front : ℕ → Header → List ℕ
block_front address h = spaced (numbered (codes "block") address) (spaced (numbered (codes "kind") h.block_kind) (codes "body "))
