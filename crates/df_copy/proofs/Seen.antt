-- What a read of the source finds is what stands there.
use Rattle.std.proofs.Common.{◌≡◌, ◌==◌, Bool, true, false, not, ℕ, Option, Some, None, Result, Ok, Err}
use Rattle.df_layout.specs.{declared.damage.Class.{Class}, declared.damage.Class.TheVariants.{Stale}}
use Rattle.df_theory.specs.Units.{AnyUnit, Block, BlockPlace, BlockUnit, CopyUnit, HeaderUnit, Message, PrepareUnit, ReplyPlace, ReplyUnit}
use Rattle.df_model.specs.{Blocks.{sum_at}, Commands.{ReadBlock}, Memory.{Memory}, Supply.{Shown, block_at, block_given, block_read, class_at, given_if, is_sum, no_trailer, reply_at, reply_given}}

given_some : {X : Type 0} (b : Bool) (x y : X) (class : Class) → given_if b x class ≡ Ok y → x ≡ y
given_some true x y class is = cc
given_some false x y class is = absurd (cc)

reply_unit_given : (known : Option ℕ) (o : Option AnyUnit) (class : Class) (r : Message)
    → reply_given known o class ≡ Ok r → o ≡ Some (ReplyUnit r)
reply_unit_given known None class r is = absurd (cc)
reply_unit_given known (Some (ReplyUnit q)) class r is = let same : q ≡ r = given_some (is_sum known q.header.checksum) q r class is in
    λ i. Some (ReplyUnit (same i))
reply_unit_given known (Some (CopyUnit c)) class r is = absurd (cc)
reply_unit_given known (Some (HeaderUnit h)) class r is = absurd (cc)
reply_unit_given known (Some (PrepareUnit p)) class r is = absurd (cc)
reply_unit_given known (Some (BlockUnit b)) class r is = absurd (cc)

-- the reply that a read finds stands at the place
pub reply_seen : (shown : Shown) (known : Option ℕ) (place : ℕ) (r : Message)
    → reply_at shown known place ≡ Ok r → shown.units (ReplyPlace place) ≡ Some (ReplyUnit r)
reply_seen shown known place r is = reply_unit_given known (shown.units (ReplyPlace place)) (class_at shown (ReplyPlace place)) r is

block_unit_given : (known : Option ℕ) (o : Option AnyUnit) (class : Class) (b : Block)
    → block_given known o class ≡ Ok b → o ≡ Some (BlockUnit b)
block_unit_given known None class b is = absurd (cc)
block_unit_given known (Some (BlockUnit c)) class b is = let same : c ≡ b = given_some (is_sum known c.checksum) c b class is in
    λ i. Some (BlockUnit (same i))
block_unit_given known (Some (CopyUnit c)) class b is = absurd (cc)
block_unit_given known (Some (HeaderUnit h)) class b is = absurd (cc)
block_unit_given known (Some (PrepareUnit p)) class b is = absurd (cc)
block_unit_given known (Some (ReplyUnit r)) class b is = absurd (cc)

no_trailer_given : (found : Result Block Class) (b : Block) → no_trailer found ≡ Ok b → found ≡ Ok b
no_trailer_given (Ok c) b is = let same : c ≡ b = given_some (not (c.kind == 0)) c b Stale is in λ i. Ok (same i)
no_trailer_given (Err class) b is = absurd (cc)

-- and the block at its address
pub block_seen : (shown : Shown) (m : Memory) (address : ℕ) (b : Block)
    → block_read shown m (ReadBlock address) ≡ Ok b → shown.units (BlockPlace address) ≡ Some (BlockUnit b)
block_seen shown m address b is = block_unit_given (sum_at address m.blocks.live) (shown.units (BlockPlace address))
    (class_at shown (BlockPlace address)) b (no_trailer_given (block_at shown (sum_at address m.blocks.live) address) b is)
