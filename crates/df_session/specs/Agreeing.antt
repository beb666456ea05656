-- Two things that a device may show which no command tells apart, and a command over what is shown, whatever else it was supplied with.
use Rattle.std.specs.Prelude.{◌≡◌, ℕ, List, [], None}
use Rattle.df_layout.specs.declared.layout.Layout.{Layout}
use Rattle.df_theory.specs.Units.{Place}
use Rattle.df_model.specs.After.{to_check}
use Rattle.df_model.specs.Commands.{Advance, Append, Command, Flush, Given, ReadBlock, ReadPrepare, ReadReply, Reply, Scrub, WriteBlock, supplied_block, supplied_message, supplied_verdict}
use Rattle.df_model.specs.{Memory.{Memory}, Refusals.{append_refusals, block_refusals, first_refusal, flush_refusals, reply_refusals}, Result.{AgreeReads}}
use Rattle.df_model.specs.Supply.{Codec, Shown, block_read, checksums_given, first_check, message_given}
use Rattle.df_replica.specs.Leaving.{IsReadPlace}

-- the same units at each place that a command reads, and where the layout has the place and it shows none, the same class
pub record AgreeShown (layout : Layout) (one other : Shown) : Type 0 where
  pub units : AgreeReads one.units other.units
  pub classes : (place : Place) → IsReadPlace layout place → one.units place ≡ None → one.damage place ≡ other.damage place

-- ---- what a command is supplied with, as far as it asks for it

-- the checksums are the codec's; a command that is refused makes nothing, and asks for none
abbrev pub AreSums : Codec → Memory → (sums : List ℕ) → Command → Type 0
AreSums codec m sums (Append client request body) = first_refusal (append_refusals m client request body) ≡ None → sums ≡ checksums_given codec m (Append client request body)
AreSums codec m sums Flush = first_refusal (flush_refusals m) ≡ None → sums ≡ checksums_given codec m Flush
AreSums codec m sums (Reply op body) = first_refusal (reply_refusals m op body) ≡ None → sums ≡ checksums_given codec m (Reply op body)
AreSums codec m sums (WriteBlock kind body) = first_refusal (block_refusals m kind body) ≡ None → sums ≡ checksums_given codec m (WriteBlock kind body)
AreSums codec m sums Advance = sums ≡ checksums_given codec m Advance
AreSums codec m sums command = sums ≡ []

-- what a read finds, or a check, is what is shown
abbrev pub IsFoundIn : Shown → Memory → Given → Command → Type 0
IsFoundIn shown m given (ReadPrepare op) = supplied_message given ≡ message_given shown m (ReadPrepare op)
IsFoundIn shown m given (ReadReply client) = supplied_message given ≡ message_given shown m (ReadReply client)
IsFoundIn shown m given (ReadBlock address) = supplied_block given ≡ block_read shown m (ReadBlock address)
IsFoundIn shown m given Scrub = supplied_verdict given ≡ first_check shown (to_check m)
IsFoundIn shown m given command = Unit {0}
