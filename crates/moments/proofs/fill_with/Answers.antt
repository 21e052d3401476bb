-- What the file states is read, its rows into the places that are lent, and the solution of what was read is the file's.
use Rattle.std.proofs.Common.{◌≡◌, ◌∙◌, ap, List, ℕ, ◌*◌, ◌<◌, ◌^◌, get_or, length, take, length-take-le, get_or-take, arith}
use Rattle.definitions.specs.declared.Sizes.{Sizes}
use Rattle.definitions.specs.File.{tolerance_field}
use Rattle.definitions.specs.Chain.{Listing, model_of, uniform_rate}
use Rattle.definitions.specs.Rules.{block_size}
use Rattle.laws.specs.ChainLaws.{rate_at_lem}
use Rattle.laws.specs.ListLaws.{get_d_over}
use Rattle.vectors.specs.Arrows.{arrow_listing}
use Rattle.moments.specs.Filling.{ReadAs, started}
use Rattle.moments.specs.FillingLaws.{ready, solvable, levels_are, counted, startable, blocks_are}
use Rattle.moments.proofs.fill_with.Given.{Over}
use Rattle.moments.proofs.fill_with.Goals as goal
use Rattle.moments.proofs.fill_with.Goals.{After-sizes-sizes, After-tolerance-tolerance}

-- E among the sizes that were read
module _ (g : Over) (c : After-sizes-sizes g) where
  rate_read : c.sizes-sizes.result.rate ≡ uniform_rate (model_of c.args.file.now)
  rate_read = ap (λ (z : Sizes). z.rate) c.sizes-sizes.ensures

  rate_small : c.sizes-sizes.result.rate < 2 ^ 32
  rate_small =
      let given = c.requires.accepted_series in
      omega (arith, rate_read, (given.limits 0 (omega (arith, given.count_min))).rate_max, rate_at_lem (model_of c.args.file.now) (get_or c.args.times.now 0 0))

pub list_rows-requires-clause-rate_value : goal.list_rows-requires-clause-rate_value
list_rows-requires-clause-rate_value g c =
    let sized = (goal.at.list_rows-requires-clause-rate_value g c).After-sizes-sizes in (rate_read g sized, rate_small g sized)

pub write_jumps-requires : goal.write_jumps-requires
write_jumps-requires g c = (rate_small g (goal.at.write_jumps-requires g c).After-sizes-sizes, c.requires.accepted_series.count_max)

-- what was read is the file's model and the list's X
module _ (g : Over) (c : After-tolerance-tolerance g) where
  abbrev s : List ℕ
  s = c.args.file.now

  abbrev times : List ℕ
  times = c.args.times.now

  abbrev rows : Listing
  rows = arrow_listing c.list_rows.new.arrows c.list_rows.new.counts

  read : ReadAs (model_of s) times c.sizes-sizes.result rows c.rewards-rewards.result (take (length times) c.write_jumps.new.xs) c.tolerance-tolerance.result
  read =
      record {
        held = record {
          sizes = c.sizes-sizes.ensures;
          rows = c.list_rows.ensures.held;
          rewards = c.rewards-rewards.ensures;
        };
        count = length-take-le (length times) _ (omega (arith, c.requires.accepted_series.count_max, c.write_jumps.auto.xs));
        jumps = λ k h. get_or-take (length times) _ k 0 h ∙ ap (λ (l : List ℕ). get_or l k 0) c.write_jumps.ensures ∙ get_d_over 0 (length times) _ _ k h ∙ ap (λ (E : ℕ). E * get_or times k 0) (rate_read g (goal.at.After-tolerance-tolerance g c).After-sizes-sizes);
        tolerance = c.tolerance-tolerance.ensures ∙ ap tolerance_field c.file.view_is;
      }

pub invariant_of-chain : goal.invariant_of-chain
invariant_of-chain g c = record { ready = ready c.args.file.now c.args.times.now _ _ c.requires.accepted_series _ _ _ _ _ (read g (goal.at.invariant_of-chain g c).After-tolerance-tolerance) }

pub solve-taken-requires-clause-solvable : goal.solve-taken-requires-clause-solvable
solve-taken-requires-clause-solvable g c =
    solvable c.args.file.now c.args.times.now _ _ c.requires.accepted_series _ (rows g (goal.at.solve-taken-requires-clause-solvable g c).After-tolerance-tolerance) _ _ _ (read g (goal.at.solve-taken-requires-clause-solvable g c).After-tolerance-tolerance)

-- the moments of all times stand in the cells
pub put_starts-requires : goal.put_starts-requires
put_starts-requires g c =
    startable c.args.file.now c.args.times.now _ _ c.requires.accepted_series _ _ _ _ _ (read g (goal.at.put_starts-requires g c).After-tolerance-tolerance) c.args.cells.now c.requires.accepted_series.block_room _ c.solve-taken.ensures.cells

pub returns : goal.returns
returns g c =
    let r = read g (goal.at.returns g c).After-tolerance-tolerance in
    let given = c.requires.accepted_series in
    let same : c.sizes-sizes.result.block ≡ block_size c.args.file.now = ap (λ (z : Sizes). z.block) c.sizes-sizes.ensures in
    record {
      levels = c.solve-taken.ensures.levels ∙ levels_are c.args.file.now c.args.times.now _ _ given _ _ _ _ _ r _ _;
      cells =
          c.put_starts.ensures
          ∙ ap (λ (b : ℕ). started (model_of c.args.file.now) b (length c.args.times.now) c.solve-taken.new.cells) same
          ∙ blocks_are c.args.file.now c.args.times.now _ _ given _ _ _ _ _ r c.args.cells.now given.block_room _ c.solve-taken.ensures.cells _;
      means = c.solve-taken.ensures.taken ∙ counted c.args.file.now c.args.times.now _ _ given _ _ _ _ _ r;
    }
