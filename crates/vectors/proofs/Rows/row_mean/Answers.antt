-- `vectors::Rows::row_mean` meets its contract. The invariant: the total is the sum over the places passed. Assumes nothing.
use Rattle.std.proofs.Common.{◌≡◌, ◌∙◌, ap, sym, ℕ, ◌+◌, ◌*◌, ◌^◌, ◌<◌, ◌/◌, ◌%◌, get_or, arith}
use Rattle.definitions.specs.Division.{division}
use Rattle.definitions.specs.Sums.{sum}
use Rattle.laws.specs.SumLaws.{sum_zero, sum_more}
use Rattle.laws.specs.Rounding.{quotient, remainder, same_parts}
use Rattle.vectors.specs.ReadyLaws.{row_total_lem}
use Rattle.vectors.specs.DivisionLaws.{row_added}
use Rattle.vectors.specs.Lent.{listing_of}
use Rattle.vectors.proofs.Places.{count, product, length_part, product_is, target_below, total_fits}
use Rattle.vectors.proofs.Rows.row_mean.Goals as goal
use Rattle.vectors.proofs.Rows.row_mean.Goals.{In-loop-arrow, After-from-in-loop-arrow, After-divide}

-- the arrow is one of the row's places
within : (c : In-loop-arrow) → c.loop-arrow.arrow-index < count c.args.self.now c.requires
within c = omega (arith, length_part c.args.self.now c.requires)

pub loop-arrow-init : goal.loop-arrow-init
loop-arrow-init c = sym (sum_zero (product c.args.self.now c.requires))

-- the product that is added, which still fits
module _ (c : After-from-in-loop-arrow) where
  added : c.from.result * get_or c.args.v.now c.from-in-loop-arrow.result 0 ≡ product c.args.self.now c.requires c.loop-arrow.arrow-index
  added = product_is c.args.self.now c.requires _ (within (goal.at.After-from-in-loop-arrow c).In-loop-arrow) c.from-in-loop-arrow.ensures c.from.ensures

  fits : c.loop-arrow.total + c.from.result * get_or c.args.v.now c.from-in-loop-arrow.result 0 < 2 ^ 64
  fits = total_fits c.args.self.now c.requires _ (within (goal.at.After-from-in-loop-arrow c).In-loop-arrow) c.from-in-loop-arrow.ensures c.from.ensures c.loop-arrow.invariant

pub bounds-v-from : goal.bounds-v-from
bounds-v-from c = target_below c.args.self.now c.requires _ (within (goal.at.bounds-v-from c).In-loop-arrow) c.from-in-loop-arrow.ensures

pub overflow_mul-total : goal.overflow_mul-total
overflow_mul-total c = omega (arith, fits (goal.at.overflow_mul-total c).After-from-in-loop-arrow)

pub overflow_add-total : goal.overflow_add-total
overflow_add-total c = omega (arith, fits (goal.at.overflow_add-total c).After-from-in-loop-arrow)

pub loop-arrow-preserved : goal.loop-arrow-preserved
loop-arrow-preserved c =
    omega (arith, c.loop-arrow.invariant, added (goal.at.loop-arrow-preserved c).After-from-in-loop-arrow, sum_more c.loop-arrow.arrow-index (product c.args.self.now c.requires))

-- the total, divided by E, is any sum that the row's places make, divided by E
divided : (c : After-divide) (total : ℕ) → sum (count c.args.self.now c.requires) (product c.args.self.now c.requires) ≡ total → c.divide.result ≡ division total c.args.self.now.sizes.rate
divided c total e =
    let rate = c.args.self.now.sizes.rate in
    let all : c.loop-arrow.arrow-index ≡ count c.args.self.now c.requires = omega (arith, length_part c.args.self.now c.requires) in
    let whole = rw all at c.loop-arrow.invariant ∙ e in
    same_parts _ _ (omega (arith, ap quotient c.divide.ensures, ap (λ (k : ℕ). k / rate) whole))
    (omega (arith, ap remainder c.divide.ensures, ap (λ (k : ℕ). k % rate) whole))

pub returns-clause-mean : goal.returns-clause-mean
returns-clause-mean c f =
    divided (goal.at.returns-clause-mean c).After-divide _ (sym (row_total_lem (listing_of c.args.self.now) c.args.v.now c.args.i c.requires.places c.requires.state))

pub returns-clause-order : goal.returns-clause-order
returns-clause-order c m rows e = divided (goal.at.returns-clause-order c).After-divide _ (row_added m (listing_of c.args.self.now) c.args.v.now c.args.i rows e c.requires.state)
