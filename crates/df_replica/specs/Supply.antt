-- What the device and the codecs supply to a call, as it should be.
use Rattle.std.specs.Prelude.{◌≡◌, [], ◌∷◌, Option}
use Rattle.df_disk.specs.Told.{Told}
use Rattle.df_units.specs.Meaning.{number_of}
use Rattle.df_model.specs.Commands.{Advance, Append, Begin, Command, Flush, ForAdvance, ForAppend, ForBegin, ForFlush, ForReadBlock, ForReadPrepare, ForReadReply, ForRecent, ForRelease, ForReply, ForScrub, ForStage, ForWriteBlock, Given, ReadBlock, ReadPrepare, ReadReply, Recent, Release, Reply, Scrub, Stage, WriteBlock, supplied_block, supplied_message, supplied_verdict}
use Rattle.df_opening.specs.Below.{State}
use Rattle.df_replica.specs.{Appending.{next_unit}, Blocks.{next_block}, BlockReads.{IsBlockFound}, Flushing.{flush_units, sums_of}, Reading.{IsFoundBy}, Replying.{next_reply}}
use Rattle.df_replica.specs.{Scrubbing.{IsCheckFound}, Stepping.{made_by}}

-- what is supplied is of the command's own case: the checksums are those of the units which the call makes; the message, or the block, is what a read finds at its place, and the verdict what a check finds
abbrev pub IsSupplied : State → Option Told → Command → Given → Type 0
IsSupplied s told (Append client request body) given = given ≡ ForAppend (number_of (next_unit s client request body).header.checksum ∷ [])
IsSupplied s told (Stage client request body) given = given ≡ ForStage
IsSupplied s told Flush given = given ≡ ForFlush (sums_of (flush_units s))
IsSupplied s told (Reply op body) given = given ≡ ForReply (number_of (next_reply s body).header.checksum ∷ [])
IsSupplied s told (WriteBlock kind body) given = given ≡ ForWriteBlock (number_of (next_block s kind body).header.checksum ∷ [])
IsSupplied s told (Release address) given = given ≡ ForRelease
IsSupplied s told (Begin root) given = given ≡ ForBegin
IsSupplied s told Advance given = given ≡ ForAdvance (made_by s s.running ∷ [])
IsSupplied s told (ReadPrepare op) given = (given ≡ ForReadPrepare (supplied_message given)) × IsFoundBy s (ReadPrepare op) told (supplied_message given)
IsSupplied s told (ReadReply client) given = (given ≡ ForReadReply (supplied_message given)) × IsFoundBy s (ReadReply client) told (supplied_message given)
IsSupplied s told (ReadBlock address) given = (given ≡ ForReadBlock (supplied_block given)) × IsBlockFound s address told (supplied_block given)
IsSupplied s told Scrub given = (given ≡ ForScrub (supplied_verdict given)) × IsCheckFound s told (supplied_verdict given)
IsSupplied s told Recent given = given ≡ ForRecent
