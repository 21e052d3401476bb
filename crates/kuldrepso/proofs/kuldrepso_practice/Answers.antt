-- The plain number is that of the answer; the bytes, and what is promised of the file, are those of the call.
use Rattle.std.specs.Prelude.{length}
use Rattle.std.proofs.Common.{ap, arith}
use Rattle.definitions.specs.Practice.{practice}
use Rattle.kuldrepso.specs.Plain.{plain_answer}
use Rattle.kuldrepso.proofs.PlainLaws.{dealt_told}
use Rattle.kuldrepso.proofs.kuldrepso_practice.Goals as goal

pub returns : goal.returns
returns c =
    let called = c.practice.ensures in
    let args = c.args in
    record {
      answer = dealt_told (practice args.states args.highest args.seed (length args.out.now)) _ _ _ called.dealt _ (omega (arith, c.plain.ensures, ap plain_answer called.answer));
      bytes = called.bytes;
      dealt = called.dealt;
    }
