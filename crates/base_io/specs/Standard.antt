-- What the adapters of the standard streams hold.
use Rattle.std.specs.Prelude.{ℕ}
use Rattle.base_io.specs.declared.standard.StdSink.{StdSink}
use Rattle.base_io.specs.declared.standard.StdSource.{StdSource}

abbrev pub reader_of : {R : Type 0} → StdSource R → R
reader_of s = s.reader

abbrev pub read_faults : {R : Type 0} → StdSource R → ℕ
read_faults s = s.faults

abbrev pub writer_of : {W : Type 0} → StdSink W → W
writer_of s = s.writer

abbrev pub write_faults : {W : Type 0} → StdSink W → ℕ
write_faults s = s.faults
