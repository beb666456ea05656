-- What contracts see of the adapters over std's readers and writers.
use Rattle.std.specs.Prelude.{ℕ}
use Rattle.df_base.specs.{declared.adapters.FromRead.{FromRead}, declared.adapters.ToWrite.{ToWrite}}

-- the reader inside
abbrev pub reader_of : {R : Type 0} → FromRead R → R
reader_of source = source.reader

-- how many reads failed
abbrev pub read_faults : {R : Type 0} → FromRead R → ℕ
read_faults source = source.faults

-- the writer inside
abbrev pub writer_of : {W : Type 0} → ToWrite W → W
writer_of sink = sink.writer

-- how many writes failed
abbrev pub write_faults : {W : Type 0} → ToWrite W → ℕ
write_faults sink = sink.faults
