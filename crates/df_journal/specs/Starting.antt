-- Where the scan of a file starts.
use Rattle.df_format.specs.declared.superblock.SuperFields.{SuperFields}
use Rattle.df_units.specs.Meaning.{pin_of}
use Rattle.df_journal.specs.declared.table.Start.{Start}

-- after the checkpoint of a superblock, which names the prepares up to this head: of version 1 none but the checkpoint's
abbrev pub start_of : SuperFields → Start
start_of f = record { cluster = f.cluster; op = f.op; head = pin_of f; boot = f.boot }
