-- Which error of each call blames the device; all others are refusals.
use Rattle.std.specs.Prelude.{Bool, true, false}
use Rattle.df_model.specs.{declared.errors.FormatError.{FormatError}, declared.errors.OpenError.{OpenError}, declared.errors.MendError.{MendError}, declared.errors.AppendError.{AppendError}}
use Rattle.df_model.specs.{declared.errors.FlushError.{FlushError}, declared.errors.ReplyError.{ReplyError}, declared.errors.BlockError.{BlockError}, declared.errors.StepError.{StepError}}
use Rattle.df_model.specs.{declared.reading.PrepareError.{PrepareError}, declared.reading.LookupError.{LookupError}, declared.reading.ReadError.{ReadError}}
use Rattle.df_model.specs.declared.errors.FormatError.TheVariants as formats
use Rattle.df_model.specs.declared.errors.OpenError.TheVariants as opens
use Rattle.df_model.specs.declared.errors.MendError.TheVariants as mend
use Rattle.df_model.specs.declared.errors.AppendError.TheVariants as append
use Rattle.df_model.specs.declared.errors.FlushError.TheVariants as flush
use Rattle.df_model.specs.declared.errors.ReplyError.TheVariants as reply
use Rattle.df_model.specs.declared.errors.BlockError.TheVariants as block
use Rattle.df_model.specs.declared.errors.StepError.TheVariants as step
use Rattle.df_model.specs.declared.reading.PrepareError.TheVariants as prepare
use Rattle.df_model.specs.declared.reading.LookupError.TheVariants as lookup
use Rattle.df_model.specs.declared.reading.ReadError.TheVariants as read

abbrev pub is_format_fault : FormatError → Bool
is_format_fault formats.DiskFault = true
is_format_fault e = false

abbrev pub is_open_fault : OpenError → Bool
is_open_fault opens.DiskFault = true
is_open_fault e = false

abbrev pub is_mend_fault : MendError → Bool
is_mend_fault mend.DiskFault = true
is_mend_fault e = false

abbrev pub is_append_fault : AppendError → Bool
is_append_fault append.DiskFault = true
is_append_fault e = false

abbrev pub is_flush_fault : FlushError → Bool
is_flush_fault flush.DiskFault = true
is_flush_fault e = false

abbrev pub is_reply_fault : ReplyError → Bool
is_reply_fault reply.DiskFault = true
is_reply_fault e = false

abbrev pub is_block_fault : BlockError → Bool
is_block_fault block.DiskFault = true
is_block_fault e = false

abbrev pub is_step_fault : StepError → Bool
is_step_fault step.DiskFault = true
is_step_fault e = false

abbrev pub is_prepare_fault : PrepareError → Bool
is_prepare_fault prepare.DiskFault = true
is_prepare_fault e = false

abbrev pub is_lookup_fault : LookupError → Bool
is_lookup_fault lookup.DiskFault = true
is_lookup_fault e = false

abbrev pub is_read_fault : ReadError → Bool
is_read_fault read.DiskFault = true
is_read_fault e = false
