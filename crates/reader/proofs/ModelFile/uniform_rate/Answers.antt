-- `reader::ModelFile::uniform_rate` meets its contract. Assumes nothing.
use Rattle.std.specs.Prelude.{◌≡◌, length}
use Rattle.std.proofs.Common.{◌∙◌, arith, rules}
use Rattle.definitions.specs.File.{state_count}
use Rattle.definitions.specs.Sums.{largest}
use Rattle.definitions.specs.Chain.{model_of}
use Rattle.laws.specs.ArrayLaws.{entry_of}
use Rattle.reader.specs.SizesRead.{rate_of_sums}
use Rattle.reader.proofs.Arrays.{largest_taken}
use Rattle.reader.proofs.ModelFile.uniform_rate.Goals as goal

pub returns : goal.returns
returns c =
    let file = c.args.self.now in
    let sums = c.args.sums.now in
    let is : c.self.inside.head ≡ file = c.self.view_is in
    let few = rw is at c.self.invariant.states_max in
    let long : length sums ≡ 64 = search rules in
    let states : c.state_count.result ≡ state_count file = rw is at c.state_count.ensures in
    let most : c.largest.result ≡ largest (state_count file) (entry_of sums) =
    rw states at (c.largest.ensures ∙ largest_taken c.state_count.result sums (omega (arith, few, states, long))) in
    omega (arith, c.max.ensures, most, rate_of_sums (model_of file) sums few c.requires)
