-- The choice among the four copies is the theory's, both ways, and a superblock can be used exactly where it passes the theory's tests.
use Rattle.std.specs.Prelude.{◌≡◌, ◌⊎◌, ◌↔◌, ◌<◌, ℕ, List, Option, Some}
use Rattle.df_base.specs.{declared.TheConstants.{FIRST_VERSION, VERSION}, Image.{Image, IsImage}}
use Rattle.df_layout.specs.declared.layout.Layout.{Layout}
use Rattle.df_format.specs.{declared.superblock.SuperFields.{SuperFields}, Spelling.{IsCheck}, Super.{AreChecks}, SuperRules.{IsSuper}, Copies.{Content, content_at}}
use Rattle.df_quorum.specs.Quorum
use Rattle.df_theory.specs.Units
use Rattle.df_theory.specs.Copies
use Rattle.df_theory.specs.{Trailer.{IsReference}, View.{PassesTests}}
use Rattle.df_units.specs.{Meaning.{content_of, layout_of}, Bytes.{unit_at}, Format.{shape_as}}

-- the choice among the copies is the theory's
abbrev pub ChoiceIsChosen : Type 0
ChoiceIsChosen =
    (layout : Layout) (cluster : ℕ) (image : Image) (c : Content) → IsImage image
    → Quorum.IsChosenContent (content_at image) c → Copies.IsChosen (unit_at layout cluster image) (content_of c)

-- and each choice of the theory is one among the copies
abbrev pub ChosenIsChoice : Type 0
ChosenIsChoice =
    (layout : Layout) (cluster : ℕ) (image : Image) (d : Units.Content) → IsImage image → Copies.IsChosen (unit_at layout cluster image) d
    → (c : Content) × (content_of c ≡ d) × Quorum.IsChosenContent (content_at image) c

-- so no choice is none
abbrev pub SplitIsSplit : Type 0
SplitIsSplit = (layout : Layout) (cluster : ℕ) (image : Image) → IsImage image → Quorum.CopiesAreSplit (content_at image) ↔ Copies.IsSplit (unit_at layout cluster image)

-- the fields are those of a file of this layout and cluster
pub record AreFieldsOf (layout : Layout) (cluster : ℕ) (f : SuperFields) : Type 0 where
  pub slots : f.slots ≡ layout.slots
  pub message_size : f.message_size ≡ layout.message_size
  pub clients : f.clients ≡ layout.clients
  pub block_size : f.block_size ≡ layout.block_size
  pub blocks : f.blocks ≡ layout.blocks
  pub cluster_is : f.cluster ≡ cluster

-- a superblock that can be used passes the theory's tests for its version, and so do its fields on the trailer
abbrev pub UsablePasses : Type 0
UsablePasses =
    (layout : Layout) (cluster : ℕ) (named : 0 < cluster) (parse : ℕ → List ℕ → Option Units.Parts) (c : Content) → AreFieldsOf layout cluster c.fields → IsSuper c.fields
    → PassesTests (shape_as c.fields.version layout cluster named parse) (content_of c) × IsReference (layout_of layout) (content_of c)

-- each checksum of a content has sixteen bytes
pub record ContentHasChecks (c : Content) : Type 0 where
  pub checksum : IsCheck c.checksum
  pub op_checksum : IsCheck c.fields.op_checksum
  pub trailer_checksum : IsCheck c.fields.trailer_checksum
  pub head_checksum : IsCheck c.fields.head_checksum
  pub reply_checksums : AreChecks c.fields.reply_checksums

-- as one that is shown has
abbrev pub ShownHasChecks : Type 0
ShownHasChecks = (image : Image) (n : ℕ) (c : Content) → IsImage image → content_at image n ≡ Some c → ContentHasChecks c

-- and one that passes the theory's tests for one of the two versions can be used
abbrev pub PassingIsUsable : Type 0
PassingIsUsable =
    (version : ℕ) (layout : Layout) (cluster : ℕ) (named : 0 < cluster) (parse : ℕ → List ℕ → Option Units.Parts) (c : Content) → (version ≡ FIRST_VERSION) ⊎ (version ≡ VERSION) → ContentHasChecks c → PassesTests (shape_as version layout cluster named parse) (content_of c) → IsReference (layout_of layout) (content_of c)
    → AreFieldsOf layout cluster c.fields × IsSuper c.fields
