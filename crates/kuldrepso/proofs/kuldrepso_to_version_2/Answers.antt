-- The plain number is that of the answer; the bytes, and what is promised of the moved file, are those of the call.
use Rattle.std.specs.Prelude.{length}
use Rattle.std.proofs.Common.{ap, arith}
use Rattle.definitions.specs.Convert.{to_version_2}
use Rattle.kuldrepso.specs.Plain.{plain_answer}
use Rattle.kuldrepso.proofs.PlainLaws.{moved_told}
use Rattle.kuldrepso.proofs.kuldrepso_to_version_2.Goals as goal

pub returns : goal.returns
returns c =
    let called = c.to_version_2.ensures in
    let args = c.args in
    record {
      answer = moved_told (to_version_2 args.file.now (length args.out.now)) _ _ called.moved _ (omega (arith, c.plain.ensures, ap plain_answer called.answer));
      bytes = called.bytes;
      moved = called.moved;
    }
