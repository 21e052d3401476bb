-- The total is the sum over the states passed.
use Rattle.std.proofs.Common.{◌≡◌, sym, ap, ℕ, ◌+◌, ◌*◌, ◌/◌, ◌≤◌, get_or, take, get_or-take, length-take, arith}
use Rattle.definitions.specs.Weights.{MILLION}
use Rattle.definitions.specs.Vectors.{ONE}
use Rattle.definitions.specs.Moment.{start_mean}
use Rattle.laws.specs.ArrayLaws.{entry_of}
use Rattle.laws.specs.Rounding.{place_below, divides}
use Rattle.laws.specs.SumLaws.{sum_zero, sum_more}
use Rattle.start.specs.Figures.{moments_of, start_total}
use Rattle.start.specs.FigureLaws.{total_max}
use Rattle.start.proofs.StartWeights.figure.Goals as goal
use Rattle.start.proofs.StartWeights.figure.Goals.{In-loop-i, Start}

-- the moments of the states, and their products with the weights
module _ (c : Start) where
  abbrev moments : ℕ → ℕ
  moments = moments_of c.args.self.now.highest c.args.r (entry_of c.args.block.now)

  abbrev total : ℕ → ℕ
  total n = start_total c.args.self.now.weights.now n moments

  abbrev product : ℕ → ℕ
  product i = entry_of c.args.self.now.weights.now i * moments i

pub loop-i-init : goal.loop-i-init
loop-i-init c = sym (sum_zero (product (goal.at.loop-i-init c).Start))

-- with one product more the total is at most 10^6 × 10^12
module _ (c : In-loop-i) where
  abbrev start : Start
  start = (goal.at.In-loop-i c).Start

  abbrev i : ℕ
  i = c.loop-i.i

  added : c.loop-i.total + get_or (take c.args.self.now.states c.args.self.now.weights.now) i 0 * moments start i ≡ total start (i + 1)
  added =
      omega
      (arith, c.loop-i.invariant, sum_more i (product start), ap (λ (w : ℕ). w * moments start i) (get_or-take c.args.self.now.states c.args.self.now.weights.now i 0 (omega arith)))

  added_max : total start (i + 1) ≤ MILLION * ONE
  added_max =
      total_max c.args.self.now.weights.now c.args.self.now.states (i + 1) (moments start) c.args.self.now.distribution (omega arith)
      (λ j b. c.requires.0.most (j * c.args.self.now.highest + c.args.r) (place_below j c.args.r c.args.self.now.states c.args.self.now.highest b c.requires.1))

pub overflow_mul-total-in-loop-i : goal.overflow_mul-total-in-loop-i
overflow_mul-total-in-loop-i c = let turn = (goal.at.overflow_mul-total-in-loop-i c).In-loop-i in omega (arith, added turn, added_max turn)

pub overflow_add-total-in-loop-i : goal.overflow_add-total-in-loop-i
overflow_add-total-in-loop-i c = let turn = (goal.at.overflow_add-total-in-loop-i c).In-loop-i in omega (arith, added turn, added_max turn)

pub loop-i-preserved : goal.loop-i-preserved
loop-i-preserved c = added (goal.at.loop-i-preserved c).In-loop-i

pub returns : goal.returns
unfolding start_mean
returns c =
    let begun = (goal.at.returns c).Start in
    let all : c.loop-i.i ≡ c.args.self.now.states =
    omega (arith, length-take c.args.self.now.states c.args.self.now.weights.now, c.fits-self) in
    let whole : c.loop-i.total ≡ total begun c.args.self.now.states = rw all at c.loop-i.invariant in
    (ap (λ (n : ℕ). n / MILLION) whole, rw whole (divides (total begun c.args.self.now.states) MILLION (omega arith)))
