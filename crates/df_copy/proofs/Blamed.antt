-- What is said of endings: which disk each blames, and what is left where a call is Ok.
use Rattle.{std.{proofs.Common.{◌≡◌, ◌∙◌, ℕ, Result, Ok, Err, refl}, specs.Prelude.{OnOk}}, df_base.specs.Causes.{Blamed, IsBlamed}}
use Rattle.df_model.specs.{Faults.{is_lookup_fault, is_read_fault}, declared.reading.LookupError.{LookupError}, declared.reading.ReadError.{ReadError}}
use Rattle.df_model.specs.declared.reading.LookupError.TheVariants as lookup
use Rattle.df_model.specs.declared.reading.ReadError.TheVariants as read
use Rattle.df_copy.specs.{declared.ending.Ending.{Ending}, declared.ending.Ending.TheVariants.{BlockTooLong, Damaged, NotAtRest, NotBlank, ReplyTooLong, Source, Target, TooFewBlocks, TooFewClients}, Acts.{Beside, LeavesSource}, Statuses.{ByEnding, copied_block_ending, is_source, is_target, reply_ending}}

pub by_ending : {T S U V : Type 0} {P Q : Ending → Type 0}
    → (T → U) → (S → V) → ((e : Ending) → P e → Q e) → (e : Ending) → ByEnding T S P e → ByEnding U V Q e
by_ending target source refused Target is = target is
by_ending target source refused Source is = source is
by_ending target source refused (NotAtRest a b c) is = refused (NotAtRest a b c) is
by_ending target source refused (TooFewClients a b) is = refused (TooFewClients a b) is
by_ending target source refused (TooFewBlocks a b) is = refused (TooFewBlocks a b) is
by_ending target source refused (NotBlank a) is = refused (NotBlank a) is
by_ending target source refused (ReplyTooLong a b) is = refused (ReplyTooLong a b) is
by_ending target source refused (BlockTooLong a b) is = refused (BlockTooLong a b) is
by_ending target source refused (Damaged a b) is = refused (Damaged a b) is

pub on_ok : {T : Type 0} {P : Type 0} (r : Result T Ending) → P → OnOk r P
on_ok (Ok x) p = p
on_ok (Err e) p = tt

-- what doesn't end by the source's disk blames it for nothing
pub unblamed : {T : Type 0} (r : Result T Ending) (before now : ℕ) → (r ≡ Err Source → ⊥) → now ≡ before → IsBlamed is_source before now r
unblamed (Ok x) before now other same = same
unblamed (Err Source) before now other same = absurd (other refl)
unblamed (Err Target) before now other same = same
unblamed (Err (NotAtRest a b c)) before now other same = same
unblamed (Err (TooFewClients a b)) before now other same = same
unblamed (Err (TooFewBlocks a b)) before now other same = same
unblamed (Err (NotBlank a)) before now other same = same
unblamed (Err (ReplyTooLong a b)) before now other same = same
unblamed (Err (BlockTooLong a b)) before now other same = same
unblamed (Err (Damaged a b)) before now other same = same

-- a read that fails blames it exactly where its disk failed, and never the target's
module _ (before now : ℕ) where
  pub block_blamed : (e : ReadError)
      → (e ≡ read.NotLive → ⊥) → Blamed (is_read_fault e) before now → Blamed (is_source (copied_block_ending e)) before now
  block_blamed read.DiskFault live blamed = blamed
  block_blamed (read.Damaged at class) live blamed = blamed
  block_blamed read.NotLive live blamed = absurd (live refl)

  pub reply_blamed : (e : LookupError) → (e ≡ lookup.NoClient → ⊥)
      → ((op : ℕ) → e ≡ lookup.ReplyPending op → ⊥) → Blamed (is_lookup_fault e) before now → Blamed (is_source (reply_ending e)) before now
  reply_blamed lookup.DiskFault known stored blamed = blamed
  reply_blamed (lookup.Damaged at class) known stored blamed = blamed
  reply_blamed lookup.NoClient known stored blamed = absurd (known refl)
  reply_blamed (lookup.ReplyPending op) known stored blamed = absurd (stored op refl)

pub block_spares : (e : ReadError) (count : ℕ) → Blamed (is_target (copied_block_ending e)) count count
block_spares read.DiskFault count = refl
block_spares (read.Damaged at class) count = refl
block_spares read.NotLive count = refl

pub reply_spares : (e : LookupError) (count : ℕ) → Blamed (is_target (reply_ending e)) count count
reply_spares lookup.DiskFault count = refl
reply_spares (lookup.Damaged at class) count = refl
reply_spares lookup.NoClient count = refl
reply_spares (lookup.ReplyPending op) count = refl

-- what one call leaves and then another, after one that is Ok
pub leaves_then : {T U : Type 0} {a b c : Beside} {x : U} {r : Result T Ending}
    → LeavesSource {T = U} a b (Ok x) → LeavesSource b c r → LeavesSource a c r
leaves_then {r = Ok y} first behind = record { kept = behind.kept ∙ first.kept; same = behind.same ∙ first.same; blames_source = behind.blames_source ∙ first.blames_source; blames_target = behind.blames_target ∙ first.blames_target }
leaves_then {c = c} {r = Err e} first behind = record {
  kept = tt;
  same = behind.same ∙ first.same;
  blames_source = rw first.blames_source at behind.blames_source;
  blames_target = rw first.blames_target at behind.blames_target;
}
