use Rattle.std.proofs.Common.{◌≡◌, ◌*◌}
use Rattle.definitions.specs.Sums.{firsts}
use Rattle.definitions.specs.Fields.{words_of}
use Rattle.definitions.specs.Practice.{stream, draw}
use Rattle.writing.specs.Puts.{Puts}
use Rattle.practice.proofs.put_draws.Given as goal

-- so many draws stand there
abbrev pub invariant-loop : goal.invariant-loop
invariant-loop l = record {
  put : Puts (words_of (firsts l.counter (draw l.fn.from.number))) (4 * l.counter) l.initial.pen l.pen;
  number : l.stream.number ≡ stream l.fn.from.number l.counter;
}
