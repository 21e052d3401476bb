-- `reader::largest` meets its contract. Assumes nothing.
use Rattle.std.proofs.Common.{arith, rules}
use Rattle.std.proofs.lemmas.Grind.{common_steps}
use Rattle.std.proofs.lemmas.List.Recursion.{max_bounds, max_least}
use Rattle.reader.proofs.Arrays.{largest_entry, largest_of_none, largest_of_more}
use Rattle.reader.proofs.largest.Goals as goal

pub returns : goal.returns
returns c =
    let bounds = max_bounds largest_entry (λ x. x) largest_of_none largest_of_more c.args.values.now in
    let least = max_least largest_entry (λ x. x) largest_of_none largest_of_more c.args.values.now 0 c.unwrap_or.result (search rules) in
    grind (arith, common_steps, bounds, least)
