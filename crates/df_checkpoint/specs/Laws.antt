-- What a refusal of a trailer says of the theory's checkpoint.
use Rattle.std.specs.Prelude.{◌≡◌, ◌<◌, ◌≤◌, ℕ, List}
use Rattle.df_base.specs.declared.TheConstants.{GREATEST}
use Rattle.df_layout.specs.{declared.damage.Class.{Class}, declared.fields.Field.{Field}}
use Rattle.df_theory.specs.{Units.{Block, Content}, Shape.{Shape}, Opens.{IsReadable, IsShown, ReadsTo}, View.{Checkpoint}}
use Rattle.df_model.specs.Supply.{Shown}
use Rattle.df_trailer.specs.Text.{parse_of}
use Rattle.df_checkpoint.specs.{Chain.{IsBroken, IsLacking}, Reads.{IsBadText, IsReferenced, IsWholeChain}, Tests.{FailsTest}, Waiting.{IsUntracked}}

-- a block that is wanted and not shown
pub record IsMissed (sh : Shape) (shown : Shown) (c : Content) (a : ℕ) : Type 0 where
  pub sum : ℕ
  pub reads : ReadsTo sh shown.units c a sum
  pub missed : IsShown shown.units a sum → ⊥

-- a block that is refused as damaged is one that the theory misses
abbrev pub DamageIsMissed : Type 0
DamageIsMissed = (sh : Shape) (shown : Shown) (c : Content) (a : ℕ) (class : Class) → IsLacking sh shown c a class → IsMissed sh shown c a

-- a text that is refused is that of no checkpoint that can be read
abbrev pub BadTextIsUnreadable : Type 0
BadTextIsUnreadable = (sh : Shape) (shown : Shown) (c : Content) (field : Field) (value : ℕ) → sh.parse ≡ parse_of sh.layout → 0 < c.trailer → c.op ≤ GREATEST → IsBadText sh shown c field value → (b : Checkpoint) → b.content ≡ c → IsReadable sh shown.units b → ⊥

-- and so is a chain that is refused, for a link or for an address that is referenced
abbrev pub ReferencedIsUnreadable : Type 0
ReferencedIsUnreadable = (sh : Shape) (shown : Shown) (c : Content) (at : ℕ) → 0 < c.trailer → IsReferenced sh shown c at → (b : Checkpoint) → b.content ≡ c → IsReadable sh shown.units b → ⊥

abbrev pub BrokenIsUnreadable : Type 0
BrokenIsUnreadable = (sh : Shape) (shown : Shown) (c : Content) (at : ℕ) → IsBroken sh shown c at → (b : Checkpoint) → b.content ≡ c → IsReadable sh shown.units b → ⊥

abbrev pub UntrackedIsUnreadable : Type 0
UntrackedIsUnreadable = (sh : Shape) (shown : Shown) (c : Content) (n : ℕ) → 0 < c.trailer → IsUntracked sh shown c n → (b : Checkpoint) → b.content ≡ c → IsReadable sh shown.units b → ⊥

-- what is shown of a trailer fails one test first, which tells one value
abbrev pub OneTestFails : Type 0
OneTestFails = (sh : Shape) (shown : Shown) (c : Content) (field other : Field) (value number : ℕ) → sh.parse ≡ parse_of sh.layout → c.op ≤ GREATEST → FailsTest sh shown c field value → FailsTest sh shown c other number → (field ≡ other) × (value ≡ number)

-- each block that is wanted is shown
abbrev pub AllChainShown : Shape → Shown → Content → Type 0
AllChainShown sh shown c = (a k : ℕ) → ReadsTo sh shown.units c a k → IsShown shown.units a k

-- where a link breaks the chain, or the chain is whole, no block is missed
abbrev pub BrokenIsShown : Type 0
BrokenIsShown = (sh : Shape) (shown : Shown) (c : Content) (at : ℕ) → IsBroken sh shown c at → AllChainShown sh shown c

abbrev pub WholeIsShown : Type 0
WholeIsShown = (sh : Shape) (shown : Shown) (c : Content) (chain : List (ℕ × Block)) → IsWholeChain sh shown c chain → AllChainShown sh shown c
