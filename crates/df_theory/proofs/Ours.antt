-- The units of the sample: one checksum, one unit.
use Rattle.std.proofs.Common.{◌≡◌, ℕ, ◌==◌, if◌then◌else◌, refl, []}
use Rattle.df_theory.{specs.{Units.{AnyUnit, Block, BlockPlace, BlockUnit, Content, CopyUnit, Header, HeaderPlace, HeaderUnit, Message, Place, PreparePlace, PrepareUnit, ReplyPlace, ReplyUnit}, UnitLog.{Synced, UnitLog, add, wrote}, Chance.{Distinct, InPools}}, proofs.{AllOf.{All, pools_all}, SampleFiles.{reserved}, SampleSteps.{prepare_put}, SampleUnits.{AreTold, distinct_of, made_all, put_all}, Samples.{block, content1, log1, log4, made, prepare1, put2, put_block, reply1, trailer}, SampleEnds.{content2}}}

-- another prepare of op 2, of another client
abbrev pub prepare_other : Message
prepare_other = record { header = record { checksum = 7; parent = 5; client = 8; op = 2; request = 1; mark = 0; checkpoint = 1; boot = 0; group = 2; group_last = 2 }; body = [] }

abbrev pub header_with : ℕ → Header
header_with n = if n == 5 then prepare1.header else (if n == 7 then prepare_other.header else reserved)

abbrev pub prepare_with : ℕ → Message
prepare_with n = if n == 7 then prepare_other else prepare1

abbrev pub content_with : ℕ → Content
content_with n = if n == 22 then content2 else content1

abbrev pub block_with : ℕ → Block
block_with n = if n == 11 then trailer else block

abbrev pub IsOurs : AnyUnit → Type 0
IsOurs (CopyUnit c) = c ≡ content_with c.checksum
IsOurs (HeaderUnit h) = h ≡ header_with h.checksum
IsOurs (PrepareUnit p) = (p ≡ prepare_with p.header.checksum) × (p.header ≡ header_with p.header.checksum)
IsOurs (ReplyUnit r) = r ≡ reply1
IsOurs (BlockUnit b) = b ≡ block_with b.checksum

told : AreTold IsOurs
told = record { contents = content_with; headers = header_with; prepares = prepare_with; replies = λ n. reply1; blocks = block_with; content = λ c is. is; header = λ h is. is; prepare = λ p is. is; reply = λ r is. is; block = λ b is. is }

pub distinct : (x y : AnyUnit) → IsOurs x → IsOurs y → Distinct x y
distinct = distinct_of IsOurs told

-- units of the pools of such a log
pub distinct_in : (log : UnitLog) → All IsOurs log.start log.events
    → (place other : Place) (x y : AnyUnit) → InPools log.start log.events place x → InPools log.start log.events other y → Distinct x y
distinct_in log all place other x y one two =
    distinct x y (pools_all IsOurs log.start log.events all place x one) (pools_all IsOurs log.start log.events all other y two)

pub log1_all : All IsOurs log1.start log1.events
log1_all = let a : All IsOurs made.start (add Synced (wrote (prepare_put prepare1) made)).events =
    put_all IsOurs (PreparePlace 1) (PrepareUnit prepare1) made (refl, refl) (made_all IsOurs content1 refl refl) in
    put_all IsOurs (HeaderPlace 1) (HeaderUnit prepare1.header) (add Synced (wrote (prepare_put prepare1) made)) refl a

pub log4_all : All IsOurs log4.start log4.events
log4_all = let l2 : UnitLog = add Synced (wrote put2 log1) in
    let a2 : All IsOurs l2.start l2.events = put_all IsOurs (ReplyPlace 0) (ReplyUnit reply1) log1 refl log1_all in
    let l3 : UnitLog = wrote (put_block 2 block) l2 in
    let a3 : All IsOurs l3.start l3.events = put_all IsOurs (BlockPlace 2) (BlockUnit block) l2 refl a2 in
    put_all IsOurs (BlockPlace 1) (BlockUnit trailer) l3 refl a3
