use Rattle.{std.proofs.Common.{◌≡◌, ◌+◌, take}, df_trailer.specs.Reading.{IsRestTaken}}
use Rattle.df_trailer.proofs.reader.Reader.take_rest.Given as goal

abbrev pub invariant-loop-byte : goal.invariant-loop-byte
invariant-loop-byte l = (l.self.behind ≡ l.fn.self.behind + l.byte-index) × IsRestTaken l.fn.self l.self (take l.byte-index l.piece)
    × (l.self.front ≡ l.fn.self.front) × (l.self.layout ≡ l.fn.self.layout) × (l.self.op ≡ l.fn.self.op)
