-- The lines that say why a file can't be made or opened, that one was made or upgraded, and which line of a script is none.
use Rattle.std.specs.Prelude.{ℕ, List, [], ◌∷◌, ◌++◌, codes, decimal}
use Rattle.df_layout.specs.{declared.damage.Class.{Class}, declared.fields.Field.{Field}}
use Rattle.df_layout.specs.declared.fields.Field.TheVariants.{Slots, MessageSize, Clients, BlockSize, Blocks, Cluster, Sequence, Op, OpChecksum, Head, Replies, TrailerAddress, TrailerChecksum, TrailerSize, Boot, Zero, TrailerChain, TrailerRoot, TrailerSessions, TrailerBits, TrailerEnd, Pending}
use Rattle.df_layout.specs.declared.layout.Layout.{Layout}
use Rattle.df_model.specs.{declared.errors.FormatError.{FormatError}, declared.errors.OpenError.{OpenError}}
use Rattle.df_model.specs.declared.errors.FormatError.TheVariants as formats
use Rattle.df_model.specs.declared.errors.OpenError.TheVariants as opens
use Rattle.df_script_model.specs.Texts.{class_text, damaged_text, line_of, numbered, spaced}

-- a field, by its name in the format
abbrev pub field_name : Field → List ℕ
field_name Slots = codes "Slots"
field_name MessageSize = codes "MessageSize"
field_name Clients = codes "Clients"
field_name BlockSize = codes "BlockSize"
field_name Blocks = codes "Blocks"
field_name Cluster = codes "Cluster"
field_name Sequence = codes "Sequence"
field_name Op = codes "Op"
field_name OpChecksum = codes "OpChecksum"
field_name Head = codes "Head"
field_name Replies = codes "Replies"
field_name TrailerAddress = codes "TrailerAddress"
field_name TrailerChecksum = codes "TrailerChecksum"
field_name TrailerSize = codes "TrailerSize"
field_name Boot = codes "Boot"
field_name Zero = codes "Zero"
field_name TrailerChain = codes "TrailerChain"
field_name TrailerRoot = codes "TrailerRoot"
field_name TrailerSessions = codes "TrailerSessions"
field_name TrailerBits = codes "TrailerBits"
field_name TrailerEnd = codes "TrailerEnd"
field_name Pending = codes "Pending"

-- each of these classes after a space
abbrev pub classes_text : List Class → List ℕ
classes_text [] = []
classes_text (class ∷ more) = 32 ∷ (class_text class ++ classes_text more)

-- the five numbers of a layout
abbrev pub layout_text : Layout → List ℕ
layout_text layout =
    spaced (decimal layout.slots) (spaced (decimal layout.message_size) (spaced (decimal layout.clients)
    (spaced (decimal layout.block_size) (decimal layout.blocks))))

-- why a file isn't opened; a failing disk has no line
abbrev pub open_refusal : OpenError → List ℕ
open_refusal opens.NotFormatted = codes "refused NotFormatted\n"
open_refusal (opens.NoQuorum classes) = line_of (codes "refused NoQuorum" ++ classes_text classes)
open_refusal (opens.Version found) = line_of (numbered (codes "refused Version found") found)
open_refusal (opens.BadField field value) = line_of (spaced (codes "refused BadField") (numbered (field_name field) value))
open_refusal (opens.LayoutDiffers reserved found) = line_of (spaced (codes "refused LayoutDiffers") (spaced (layout_text reserved) (layout_text found)))
open_refusal (opens.Damaged place class) = damaged_text place class
open_refusal opens.DiskFault = []
open_refusal opens.BootSpent = codes "refused BootSpent\n"

-- why a file isn't made; a failing disk has no line
abbrev pub format_refusal : FormatError → List ℕ
format_refusal formats.ClusterZero = codes "refused ClusterZero\n"
format_refusal (formats.NotBlank copy) = line_of (numbered (codes "refused NotBlank copy") copy)
format_refusal formats.DiskFault = []

-- a file of this many sectors was made
abbrev pub formatted_text : ℕ → List ℕ
formatted_text sectors = line_of (numbered (codes "formatted") sectors)

-- a file with this sequence is of version 2 now
abbrev pub upgraded_text : ℕ → List ℕ
upgraded_text sequence = line_of (numbered (codes "upgraded") sequence)

-- line n of a script, counted from 1, is none, or is too long, or is past the budget
abbrev pub script_text : ℕ → List ℕ
script_text n = line_of (numbered (codes "script") n)
