-- What a copy is refused for, in this order, as one list of tests: over what is kept in memory of the source and what its disk shows, the layout, and what the target shows.
use Rattle.std.specs.{Prelude.{ℕ, ◌+◌, ◌-◌, ◌==◌, nat_lt, Bool, true, ◌&&◌, not, if◌then◌else◌, List, [], ◌∷◌, ◌++◌, length, map, Result, Ok, Err}, Int.{div_ceil}, List.{range_with_len}}
use Rattle.df_base.specs.{declared.TheConstants.{HEADER}, Image.{Image}}
use Rattle.df_layout.specs.{declared.damage.Class.{Class}, declared.layout.Layout.{Layout}, declared.places.Zone.TheVariants.{ClientReplies, Grid}}
use Rattle.df_format.specs.{Copies.{is_blank_copy}, Own.{place_in}}
use Rattle.df_theory.specs.Units.{Block, Message}
use Rattle.df_units.specs.Meaning.{layout_of}
use Rattle.df_model.specs.{Blocks.{entries, sum_at}, Commands.{ReadBlock}, Memory.{Memory, reply_sum}, Supply.{Shown, block_read, reply_at}}
use Rattle.df_trailer.specs.Spelling.{text_size}
use Rattle.df_copy.specs.{declared.ending.Ending.{Ending}, declared.ending.Ending.TheVariants.{BlockTooLong, Damaged, NotAtRest, NotBlank, ReplyTooLong, TooFewBlocks, TooFewClients}}

-- ---- the source, by what is kept in memory of it

-- no prepare is after its checkpoint, and none waits for its reply
abbrev pub is_at_rest : Memory → Bool
is_at_rest m = (m.content.op == m.head) && (m.head == m.replies)

-- the live blocks among n addresses from this one on, in order of address, each with its checksum
abbrev pub references_from : Memory → (address n : ℕ) → List (ℕ × ℕ)
references_from m address n = entries (λ a. sum_at a m.blocks.live) (range_with_len address n)

-- all of them
abbrev pub references : Memory → List (ℕ × ℕ)
references m = references_from m 1 m.layout.blocks

-- it has a trailer, as each that isn't new has
abbrev pub has_trailer : Memory → Bool
has_trailer m = not (m.content.trailer == 0)

-- ---- the layout

-- bytes of the text of the copy's trailer, which it has where the source has one
abbrev pub trailer_size : Layout → Memory → ℕ
trailer_size layout m = if has_trailer m then text_size (layout_of layout) (length m.root) (length m.sessions) (length (references m)) else 0

-- how many pieces a text of this many bytes is cut into, where a block has room for this many
abbrev pub pieces : ℕ → ℕ → ℕ
pieces room size = div_ceil size room

-- how many blocks the copy's trailer has
abbrev pub trailer_blocks : Layout → Memory → ℕ
trailer_blocks layout m = pieces (layout.block_size - HEADER) (trailer_size layout m)

-- how many blocks the copy has
abbrev pub needed : Layout → Memory → ℕ
needed layout m = length (references m) + trailer_blocks layout m

-- ---- the tests

-- those that read nothing
abbrev pub rest_tests : Layout → Memory → List (Bool × Ending)
rest_tests layout m =
    (not (is_at_rest m), NotAtRest m.content.op m.head m.replies)
    ∷ (nat_lt layout.clients (length m.sessions), TooFewClients (length m.sessions) layout.clients)
    ∷ (nat_lt layout.blocks (needed layout m), TooFewBlocks (needed layout m) layout.blocks)
    ∷ []

-- the sectors of the target's four copies
abbrev pub blank_tests : Image → List (Bool × Ending)
blank_tests image = map (λ n. (not (is_blank_copy (image n)), NotBlank n)) (range_with_len 0 4)

-- what is found of the reply of a session: one that is shown has to fit
abbrev pub reply_test : Layout → (place : ℕ) → Result Message Class → Bool × Ending
reply_test layout place (Ok r) = (nat_lt layout.message_size (HEADER + length r.body), ReplyTooLong place (HEADER + length r.body))
reply_test layout place (Err class) = (true, Damaged (place_in ClientReplies place) class)

-- of the replies of n places from this one on, in order
abbrev pub reply_tests_from : Layout → Shown → Memory → (place n : ℕ) → List (Bool × Ending)
reply_tests_from layout shown m place n = map (λ k. reply_test layout k (reply_at shown (reply_sum m k) k)) (range_with_len place n)

abbrev pub reply_tests : Layout → Shown → Memory → List (Bool × Ending)
reply_tests layout shown m = reply_tests_from layout shown m 0 (length m.sessions)

-- what is found of a block: one that is shown has to fit
abbrev pub block_test : Layout → (address : ℕ) → Result Block Class → Bool × Ending
block_test layout address (Ok b) = (nat_lt layout.block_size (HEADER + length b.body), BlockTooLong address (HEADER + length b.body))
block_test layout address (Err class) = (true, Damaged (place_in Grid address) class)

-- of these live blocks, in order
abbrev pub block_tests_of : Layout → Shown → Memory → List (ℕ × ℕ) → List (Bool × Ending)
block_tests_of layout shown m xs = map (λ x. block_test layout x.0 (block_read shown m (ReadBlock x.0))) xs

abbrev pub block_tests : Layout → Shown → Memory → List (Bool × Ending)
block_tests layout shown m = block_tests_of layout shown m (references m)

-- those of the units, and all of them
abbrev pub unit_tests : Layout → Shown → Memory → List (Bool × Ending)
unit_tests layout shown m = reply_tests layout shown m ++ block_tests layout shown m

abbrev pub tests : Layout → Shown → Memory → Image → List (Bool × Ending)
tests layout shown m image = rest_tests layout m ++ (blank_tests image ++ unit_tests layout shown m)
