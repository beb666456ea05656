-- The lines that a copy prints.
use Rattle.std.specs.Prelude.{ℕ, List, [], codes}
use Rattle.df_script_model.specs.Texts.{damaged_text, line_of, numbered, spaced}
use Rattle.df_copy.specs.{declared.ending.Ending.{Ending}, declared.ending.Ending.TheVariants.{BlockTooLong, Damaged, NotAtRest, NotBlank, ReplyTooLong, Source, Target, TooFewBlocks, TooFewClients}}

abbrev pub copy_usage : List ℕ
copy_usage = codes "usage: filecopy FROM TO LAYOUT\n"

-- the target has this many sectors
abbrev pub copied_text : ℕ → List ℕ
copied_text sectors = line_of (numbered (codes "copied") sectors)

-- words and a number, a word and a number
abbrev pub two_numbers : List ℕ → ℕ → List ℕ → ℕ → List ℕ
two_numbers words number word other = line_of (spaced (numbered words number) (numbered word other))

-- and a word and a number more
abbrev pub three_numbers : List ℕ → ℕ → List ℕ → ℕ → List ℕ → ℕ → List ℕ
three_numbers words number word other last third = line_of (spaced (spaced (numbered words number) (numbered word other)) (numbered last third))

-- the line of an ending; a failing disk has none
abbrev pub ending_text : Ending → List ℕ
ending_text Source = []
ending_text Target = []
ending_text (NotAtRest checkpoint_op head replies) = three_numbers (codes "refused NotAtRest checkpoint_op") checkpoint_op (codes "head") head (codes "replies") replies
ending_text (TooFewClients sessions clients) = two_numbers (codes "refused TooFewClients sessions") sessions (codes "clients") clients
ending_text (TooFewBlocks needed blocks) = two_numbers (codes "refused TooFewBlocks needed") needed (codes "blocks") blocks
ending_text (NotBlank copy) = line_of (numbered (codes "refused NotBlank copy") copy)
ending_text (ReplyTooLong place size) = two_numbers (codes "refused ReplyTooLong place") place (codes "size") size
ending_text (BlockTooLong address size) = two_numbers (codes "refused BlockTooLong address") address (codes "size") size
ending_text (Damaged place class) = damaged_text place class
