use Rattle.std.specs.Prelude.{◌<◌, ◌^◌, ◌≡◌}
use Rattle.definitions.specs.Bytes.{big}
use Rattle.reader.proofs.be.Given as goal

abbrev pub invariant-loop-byte : goal.invariant-loop-byte
invariant-loop-byte l = record { read : l.value ≡ big l.byte-index l.bytes l.at; small : l.value < 256 ^ l.byte-index }
