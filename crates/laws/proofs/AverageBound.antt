-- The distance of a weighted mean from the exact average, for any X that passes the level's test at N, any sequence of ticks U(n) that
-- stays near its exact values u(n), and any last quotient P that is within one tick.
use Rattle.std.specs.Prelude.{ℕ, suc, ◌+◌, ◌*◌, ◌-◌, ◌/◌, ◌≤◌, ◌<◌, ◌≡◌, leb}
use Rattle.std.proofs.Common.{arith, mul-le-mul_left, mul-le-mul_right, le_of_mul-le-mul_right, le_refl, mul-pos, ◌∙◌, le-leb, ap}
use Rattle.std.proofs.Math.Nat.{le_of_mul-le-mul_left, sub_self, pos_of_dvd_of_pos, dvd-mul_right}
use Rattle.std.proofs.lemmas.Bool.{lt-leb}
use Rattle.definitions.specs.Sums.{sum, pick}
use Rattle.definitions.specs.Vectors.{ONE}
use Rattle.definitions.specs.Weights.{GREATEST, mode, weight, weight_sum}
use Rattle.definitions.specs.Level.{BILLION, Passes}
use Rattle.definitions.specs.Moment.{term, weighted}
use Rattle.definitions.specs.Fraction.{Fraction, AtMost, ratio, plus, times, total}
use Rattle.definitions.specs.Average.{exact_weight, exact_weights_pos, average_of}
use Rattle.definitions.specs.Promise.{Within, ticks, one_pos, billion_pos, rounding_ticks}
use Rattle.laws.specs.Rounding.{quotient_low, quotient_high}
use Rattle.laws.specs.SumLaws.{sum_same, sum_mono, sum_times, sum_plus, sum_constant, sum_split, sum_zero}
use Rattle.laws.specs.WeightLaws.{mode_low, weight_sum_min}
use Rattle.laws.specs.FractionLaws.{Low, High, low_less, high_more, times_low, times_high, total_low, total_high, quotient_low', quotient_high'}
use Rattle.laws.specs.VectorError.{Near}
use Rattle.laws.specs.WeightError.{divisor, z, distance, Held, held}
use Rattle.laws.proofs.WeightError.{exact_low, exact_high}
use Rattle.laws.specs.TailBound.{tail, tail_within}
use Rattle.laws.specs.AverageBound.{most_weights, level_low, level_high, past_low, past_high}

-- P is within one tick of A × 10^12 over S, and in [0, 1]
pub record LastQuotient (A S P : ℕ) : Type 0 where
  pub low : P * S ≤ A * ONE + S
  pub high : A * ONE ≤ P * S + S
  pub top : P ≤ ONE

-- a fraction from its whole-number bounds: with Z·(a/(ONE-as-Z)) at hand, P/ONE ≤ x + d and x ≤ P/ONE + d
above : (P a Z : ℕ) (x d : Fraction) → 0 < Z → Low a (ONE * Z) x → P * Z * d.den ≤ a * d.den + d.num * (ONE * Z) → AtMost (ticks P) (plus x d)
above P a Z x d pos l h =
    record { cross = le_of_mul-le-mul_right {k = Z} (omega (arith, mul-le-mul_right x.den h, mul-le-mul_right d.den l.low)) pos }

below : (P b Z : ℕ) (x d : Fraction) → 0 < Z → High b (ONE * Z) x → b * d.den ≤ (P * d.den + d.num * ONE) * Z → AtMost x (plus (ticks P) d)
below P b Z x d pos l h =
    record { cross = le_of_mul-le-mul_right {k = Z} (omega (arith, mul-le-mul_right x.den h, mul-le-mul_right d.den l.high)) pos }

-- the sums up to N that the bounds are made of
module _ (X N L : ℕ) (X_pos : 0 < X) (mode_in : mode X ≤ N) (past : N ≤ L) where
  abbrev zm : ℕ
  zm = z X L (mode X)

  -- the exact weights, and the weights' errors
  abbrev ZN : ℕ
  ZN = sum (suc N) (z X L)

  abbrev errors : ℕ
  errors = sum (suc N) (λ n. distance n (mode X))

  at : (n : ℕ) → n < suc N → Held X L n
  at n l = held X X_pos L (omega arith) n (omega arith)

  weights_low : weight_sum X N * zm ≤ GREATEST * ZN
  unfolding weight_sum
  weights_low =
      let each = sum_mono (suc N) (λ n. weight X n * zm) (λ n. z X L n * GREATEST) (λ n l. omega (arith, (at n l).low)) in
      omega (arith, each, sum_times (suc N) zm (weight X), sum_times (suc N) GREATEST (z X L))

  weights_high : GREATEST * ZN ≤ (weight_sum X N + errors) * zm
  unfolding weight_sum
  weights_high =
      let each = sum_mono (suc N) (λ n. z X L n * GREATEST) (λ n. (weight X n + distance n (mode X)) * zm) (λ n l. omega (arith, (at n l).high)) in
      omega (arith, each, sum_times (suc N) zm (λ n. weight X n + distance n (mode X)), sum_times (suc N) GREATEST (z X L), ap (λ (v : ℕ). v * zm) (sum_plus (suc N) (weight X) (λ n. distance n (mode X))))

  errors_max : errors ≤ (N + 1) * N
  unfolding distance
  errors_max =
      omega (arith, sum_mono (suc N) (λ n. distance n (mode X)) (λ n. N) (λ n l. omega arith), sum_constant (suc N) N)

  -- the same with numbers U(n) of ticks
  module _ (U : ℕ → ℕ) (U_max : (n : ℕ) → n ≤ N → U n ≤ ONE) where
    -- exact weights times U, and weights times U
    abbrev zU : ℕ
    zU = sum (suc N) (λ n. z X L n * U n)

    abbrev wU : ℕ
    wU = sum (suc N) (λ n. weight X n * U n)

    products_low : wU * zm ≤ GREATEST * zU
    products_low =
        let each = sum_mono (suc N) (λ n. weight X n * U n * zm) (λ n. z X L n * U n * GREATEST) (λ n l. omega (arith, mul-le-mul_right (U n) (at n l).low)) in
        omega (arith, each, sum_times (suc N) zm (λ n. weight X n * U n), sum_times (suc N) GREATEST (λ n. z X L n * U n))

    products_high : GREATEST * zU ≤ (wU + errors * ONE) * zm
    products_high =
        let each = sum_mono (suc N) (λ n. z X L n * U n * GREATEST) (λ n. (weight X n * U n + distance n (mode X) * ONE) * zm) (λ n l. omega (arith, mul-le-mul_right (U n) (at n l).high, mul-le-mul_left (distance n (mode X) * zm) (U_max n (omega arith)))) in
        omega (arith, each, sum_times (suc N) zm (λ n. weight X n * U n + distance n (mode X) * ONE), sum_times (suc N) GREATEST (λ n. z X L n * U n), ap (λ (v : ℕ). v * zm) (sum_plus (suc N) (λ n. weight X n * U n) (λ n. distance n (mode X) * ONE)), ap (λ (v : ℕ). v * zm) (sum_times (suc N) ONE (λ n. distance n (mode X))))

    -- A × 10^12 loses less than 10^12 a term
    terms_low : weighted X U N * ONE ≤ wU
    unfolding weighted term
    terms_low =
        omega (arith, sum_times (suc N) ONE (λ n. weight X n * U n / ONE), sum_mono (suc N) (λ n. weight X n * U n / ONE * ONE) (λ n. weight X n * U n) (λ n l. quotient_low (weight X n * U n) ONE))

    terms_high : wU ≤ weighted X U N * ONE + (N + 1) * ONE
    unfolding weighted term
    terms_high =
        let each = sum_mono (suc N) (λ n. weight X n * U n) (λ n. weight X n * U n / ONE * ONE + ONE) (λ n l. omega (arith, quotient_high (weight X n * U n) ONE one_pos)) in
        omega (arith, each, sum_plus (suc N) (λ n. weight X n * U n / ONE * ONE) (λ n. ONE), sum_times (suc N) ONE (λ n. weight X n * U n / ONE), sum_constant (suc N) ONE)

factor_pos : (a b : ℕ) → 0 < a * b → 0 < a
factor_pos a b h = pos_of_dvd_of_pos (dvd-mul_right a b) h

-- the whole-number cores, with names of their own for the sums: G·x is x scaled by 10^15

greatest_pos : 0 < GREATEST
greatest_pos = omega arith

room_above : (N er S : ℕ) → N + 1 ≤ 1000 → er ≤ (N + 1) * N → GREATEST ≤ S → (N + 1) * ONE + er * ONE ≤ (N + 2) * S
room_above N er S small h big = grind arith

room_below : (N er S : ℕ) → N + 1 ≤ 1000 → er ≤ (N + 1) * N → GREATEST ≤ S → er * ONE ≤ N * S
room_below N er S small h big = grind arith

upper_core : (zU wU er zm ZN S A P N : ℕ) → GREATEST * zU ≤ (wU + er * ONE) * zm → wU ≤ A * ONE + (N + 1) * ONE → A * ONE ≤ P * S + S → (N + 1) * ONE + er * ONE ≤ (N + 2) * S → S * zm ≤ GREATEST * ZN → zU ≤ (P + N + 3) * ZN
upper_core zU wU er zm ZN S A P N products terms last room weights =
    let within : wU + er * ONE ≤ (P + N + 3) * S = omega arith in
    le_of_mul-le-mul_left {k = GREATEST} (omega (arith, mul-le-mul_right zm within, mul-le-mul_left (P + N + 3) weights)) greatest_pos

lower_core : (zU wU er zm ZN S A P N : ℕ) → wU * zm ≤ GREATEST * zU → A * ONE ≤ wU → P * S ≤ A * ONE + S → P ≤ ONE → er * ONE ≤ N * S → S * zm ≤ GREATEST * ZN → GREATEST * ZN ≤ (S + er) * zm → P * ZN ≤ zU + (N + 1) * ZN
lower_core zU wU er zm ZN S A P N products terms last top room low high =
    let within : P * (S + er) ≤ wU + (N + 1) * S = omega (arith, mul-le-mul_right er top) in
    le_of_mul-le-mul_left {k = GREATEST}
    (omega (arith, mul-le-mul_left P high, mul-le-mul_right zm within, mul-le-mul_left (N + 1) low))
    greatest_pos

tail_core : (Zt ZN S ε zm : ℕ) → GREATEST * Zt * BILLION ≤ S * ε * zm → S * zm ≤ GREATEST * ZN → Zt * BILLION ≤ ε * ZN
tail_core Zt ZN S ε zm h weights =
    le_of_mul-le-mul_left {k = GREATEST} (omega (arith, mul-le-mul_right ε weights)) greatest_pos

-- of an N that passes the level's test: the weights up to N, and those past it, up to L
module _ (X ε N L : ℕ) (X_pos : 0 < X) (passes : Passes X ε N) (past : N ≤ L) where
  reached : mode X ≤ N
  reached = omega (arith, mode_low X, passes.past)

  weights : weight_sum X N * z X L (mode X) ≤ GREATEST * sum (suc N) (z X L)
  weights = weights_low X N L X_pos reached past

  tail_small : tail X L N (L - N) * BILLION ≤ ε * sum (suc N) (z X L)
  tail_small = tail_core _ _ (weight_sum X N) ε (z X L (mode X)) (tail_within X ε L N X_pos passes past) weights

  split : (f : ℕ → ℕ) → sum (suc L) f ≡ sum (suc N) f + sum (L - N) (λ j. f (suc N + j))
  split f =
      let parts : suc L ≡ suc N + (L - N) = omega arith in
      ap (λ (n : ℕ). sum n f) parts ∙ sum_split (suc N) (L - N) f

  all_weights : sum (suc L) (z X L) ≡ sum (suc N) (z X L) + tail X L N (L - N)
  all_weights =
      split (z X L)
      ∙ ap (λ (k : ℕ). sum (suc N) (z X L) + k) (sum_same (L - N) (λ j. z X L (suc N + j)) (λ j. z X L (N + 1 + j)) (λ j l. ap (z X L) (omega arith)))

-- two fractions from their whole-number bounds over one divisor D: b/B of x is at most y, where b × p is at most B × q
part_of : (b p q D : ℕ) (x y : Fraction) → 0 < D → High p D x → Low q D y → b * p ≤ BILLION * q → AtMost (times (ratio b BILLION billion_pos) x) y
part_of b p q D x y pos high low h =
    record {
      cross =
          le_of_mul-le-mul_right {k = D}
          (omega (arith, mul-le-mul_left (b * y.den) high.high, mul-le-mul_right (x.den * y.den) h, mul-le-mul_left (BILLION * x.den) low.low))
          pos;
    }

-- so N is a level that the papers' relation (10) takes
pub weights_covered : (X ε N L : ℕ) → 0 < X → Passes X ε N → N ≤ L → AtMost (times (ratio (BILLION - ε) BILLION billion_pos) (total (suc L) (exact_weight X))) (total (suc N) (exact_weight X))
weights_covered X ε N L X_pos passes past =
    part_of (BILLION - ε) (sum (suc L) (z X L)) (sum (suc N) (z X L)) (divisor X L) (total (suc L) (exact_weight X)) (total (suc N) (exact_weight X)) (exact_weight X L).pos
    (total_high (suc L) (divisor X L) (z X L) (exact_weight X) (λ n l. exact_high X L n (omega arith)))
    (total_low (suc N) (divisor X L) (z X L) (exact_weight X) (λ n l. exact_low X L n (omega arith)))
    (rw (all_weights X ε N L X_pos passes past) (most_weights (sum (suc N) (z X L)) (tail X L N (L - N)) ε (tail_small X ε N L X_pos passes past)))

-- what a weighted mean is held against
pub record Setting (X ε N r : ℕ) (U : ℕ → ℕ) (u : ℕ → Fraction) (P : ℕ) : Type 0 where
  pub jumps : 0 < X
  pub passes : Passes X ε N
  pub short : N + 1 ≤ 1000
  pub ticks_max : (n : ℕ) → n ≤ N → U n ≤ ONE
  pub near : (n : ℕ) → Near (U n) (2 * (n + r)) ONE (u n)
  pub last : LastQuotient (weighted X U N) (weight_sum X N) P

module _ (X ε N r : ℕ) (U : ℕ → ℕ) (u : ℕ → Fraction) (P : ℕ) (g : Setting X ε N r U u P) (L : ℕ) (past : N ≤ L) where
  S_min : GREATEST ≤ weight_sum X N
  S_min = weight_sum_min X N (reached X ε N L g.jumps g.passes past)

  er_max : sum (suc N) (λ n. distance n (mode X)) ≤ (N + 1) * N
  er_max = errors_max X N L g.jumps (reached X ε N L g.jumps g.passes past) past

  up : sum (suc N) (λ n. z X L n * U n) ≤ (P + N + 3) * sum (suc N) (z X L)
  up =
      upper_core _ _ _ (z X L (mode X)) _ (weight_sum X N) (weighted X U N) P N
      (products_high X N L g.jumps (reached X ε N L g.jumps g.passes past) past U g.ticks_max)
      (terms_high X N L g.jumps (reached X ε N L g.jumps g.passes past) past U g.ticks_max)
      g.last.high
      (room_above N _ (weight_sum X N) g.short er_max S_min)
      (weights X ε N L g.jumps g.passes past)

  down : P * sum (suc N) (z X L) ≤ sum (suc N) (λ n. z X L n * U n) + (N + 1) * sum (suc N) (z X L)
  down =
      lower_core _ _ _ (z X L (mode X)) _ (weight_sum X N) (weighted X U N) P N
      (products_low X N L g.jumps (reached X ε N L g.jumps g.passes past) past U g.ticks_max)
      (terms_low X N L g.jumps (reached X ε N L g.jumps g.passes past) past U g.ticks_max)
      g.last.low
      g.last.top
      (room_below N _ (weight_sum X N) g.short er_max S_min)
      (weights X ε N L g.jumps g.passes past)
      (weights_high X N L g.jumps (reached X ε N L g.jumps g.passes past) past)

  -- the exact average, between whole numbers over the exact weights' sum

  -- U up to N, and 0 past it; U with its error up to N, and ONE past it
  at_least : ℕ → ℕ
  at_least n = pick (leb n N) (U n) 0

  at_most : ℕ → ℕ
  at_most n = pick (leb n N) (U n + 2 * (n + r)) ONE

  lower_sum : sum (suc N) (λ n. z X L n * U n) ≤ sum (suc L) (λ n. z X L n * at_least n)
  unfolding at_least
  lower_sum =
      let same = sum_same (suc N) (λ n. z X L n * U n) (λ n. z X L n * at_least n) (λ n l. rw (le-leb n N (omega arith))) in
      omega (arith, split X ε N L g.jumps g.passes past (λ n. z X L n * at_least n), same)

  upper_sum : sum (suc L) (λ n. z X L n * at_most n) ≤ sum (suc N) (λ n. z X L n * U n) + sum (suc N) (z X L) * (2 * (N + r)) + tail X L N (L - N) * ONE
  unfolding at_most
  upper_sum =
      let head = sum_mono (suc N) (λ n. z X L n * at_most n) (λ n. z X L n * U n + z X L n * (2 * (N + r)))
      (λ n l. rw (le-leb n N (omega arith)) (omega (arith, mul-le-mul_left (z X L n) (slack n l)))) in
      let rest = sum_same (L - N) (λ j. z X L (suc N + j) * at_most (suc N + j)) (λ j. z X L (N + 1 + j) * ONE)
      (λ j l. rw (lt-leb (suc N + j) N (omega arith)) (ap (λ (k : ℕ). z X L k * ONE) (omega arith))) in
      omega
      (arith, split X ε N L g.jumps g.passes past (λ n. z X L n * at_most n), head, rest, sum_plus (suc N) (λ n. z X L n * U n) (λ n. z X L n * (2 * (N + r))), sum_times (suc N) (2 * (N + r)) (z X L), sum_times (L - N) ONE (λ j. z X L (N + 1 + j)))
    where
      slack : (n : ℕ) → n < suc N → 2 * (n + r) ≤ 2 * (N + r)
      slack n l = omega arith

  low_each : (n : ℕ) → Low (at_least n) ONE (u n)
  unfolding at_least
  low_each n = grind arith

  high_each : (n : ℕ) → High (at_most n) ONE (u n)
  unfolding at_most
  high_each n = grind arith

  average_low : Low (sum (suc L) (λ n. z X L n * at_least n)) (ONE * sum (suc L) (z X L)) (average_of X u L)
  unfolding average_of
  average_low =
      quotient_low' (sum (suc L) (λ n. z X L n * at_least n)) (sum (suc L) (z X L)) (divisor X L) ONE _ _ (exact_weights_pos X L) (exact_weight X L).pos
      (total_low (suc L) (divisor X L * ONE) (λ n. z X L n * at_least n) (λ n. times (exact_weight X n) (u n)) (λ n l. times_low (exact_weight X n) (u n) (exact_low X L n (omega arith)) (low_each n)))
      (total_high (suc L) (divisor X L) (z X L) (exact_weight X) (λ n l. exact_high X L n (omega arith)))

  average_high : High (sum (suc L) (λ n. z X L n * at_most n)) (ONE * sum (suc L) (z X L)) (average_of X u L)
  unfolding average_of
  average_high =
      quotient_high' (sum (suc L) (λ n. z X L n * at_most n)) (sum (suc L) (z X L)) (divisor X L) ONE _ _ (exact_weights_pos X L) (exact_weight X L).pos
      (total_high (suc L) (divisor X L * ONE) (λ n. z X L n * at_most n) (λ n. times (exact_weight X n) (u n)) (λ n l. times_high (exact_weight X n) (u n) (exact_high X L n (omega arith)) (high_each n)))
      (total_low (suc L) (divisor X L) (z X L) (exact_weight X) (λ n l. exact_low X L n (omega arith)))

  weights_pos : 0 < sum (suc L) (z X L)
  weights_pos =
      let w : Fraction = total (suc L) (exact_weight X) in
      let whole = total_high (suc L) (divisor X L) (z X L) (exact_weight X) (λ n l. exact_high X L n (omega arith)) in
      factor_pos (sum (suc L) (z X L)) w.den (omega (arith, whole.high, mul-pos (exact_weights_pos X L) (exact_weight X L).pos))

  -- the distance in numbers: d.num/d.den beside a weighted mean of P ticks
  bounded : (d : Fraction) → P * sum (suc L) (z X L) * d.den ≤ sum (suc N) (λ n. z X L n * U n) * d.den + d.num * (ONE * sum (suc L) (z X L)) → (sum (suc N) (λ n. z X L n * U n) + sum (suc N) (z X L) * (2 * (N + r)) + tail X L N (L - N) * ONE) * d.den ≤ (P * d.den + d.num * ONE) * sum (suc L) (z X L) → Within (ticks P) (average_of X u L) d
  bounded d low high =
      record {
        above = above P (sum (suc N) (λ n. z X L n * U n)) (sum (suc L) (z X L)) (average_of X u L) d weights_pos (low_less _ (average_of X u L) lower_sum average_low) low;
        below = below P _ (sum (suc L) (z X L)) (average_of X u L) d weights_pos (high_more _ (average_of X u L) upper_sum average_high) high;
      }

module _ (X ε N r : ℕ) (U : ℕ → ℕ) (u : ℕ → Fraction) (P : ℕ) (g : Setting X ε N r U u P) where
  -- at the level itself: 3N + 2r + 3 ticks
  pub close_at_level : Within (ticks P) (average_of X u N) (rounding_ticks N r)
  close_at_level =
      let none : tail X N N (N - N) ≡ 0 = ap (λ (k : ℕ). tail X N N k) (sub_self N) ∙ sum_zero (λ j. z X N (N + 1 + j)) in
      let here = le_refl N in
      bounded X ε N r U u P g N here (rounding_ticks N r)
      (level_low P _ _ N r (down X ε N r U u P g N here))
      (rw none (level_high P _ _ N r (up X ε N r U u P g N here)))

  -- at any later L: the tolerance more
  pub close_past_level : (L : ℕ) → N ≤ L → Within (ticks P) (average_of X u L) (plus (ratio ε BILLION billion_pos) (rounding_ticks N r))
  close_past_level L past =
      let all = all_weights X ε N L g.jumps g.passes past in
      let t = tail_small X ε N L g.jumps g.passes past in
      bounded X ε N r U u P g L past (plus (ratio ε BILLION billion_pos) (rounding_ticks N r))
      (rw all (past_low P _ _ _ N r ε g.last.top t (down X ε N r U u P g L past)))
      (rw all (past_high P _ _ _ N r ε t (up X ε N r U u P g L past)))
