-- The start figure: in [0, 1]; as close to the weighted averages as a moment is to its own, and one tick; with all weight on one state that
-- state's moment.
use Rattle.std.specs.Prelude.{ℕ, zero, suc, ◌+◌, ◌*◌, ◌/◌, ◌≤◌, ◌<◌, ◌≡◌}
use Rattle.std.proofs.Common.{arith, le_antisymm, mul-pos, mul-le-mul, le_of_mul-le-mul_right, mul-le-mul_left, mul-le-mul_right, ap}
use Rattle.definitions.specs.Sums.{sum}
use Rattle.definitions.specs.Chain.{Model}
use Rattle.definitions.specs.Vectors.{ONE}
use Rattle.definitions.specs.Weights.{MILLION}
use Rattle.definitions.specs.Moment.{moment, start_mean, start_figure}
use Rattle.definitions.specs.Fraction.{Fraction, AtMost, ratio, whole, plus, times, over_whole, total}
use Rattle.definitions.specs.Average.{million_pos}
use Rattle.definitions.specs.Promise.{one_pos, ticks, Within}
use Rattle.laws.specs.Rounding.{quotient_low, quotient_high, quotient_at_most, quotient_mono, quotient_unique}
use Rattle.laws.specs.SumLaws.{sum_mono, sum_times, sum_single}

module _ (M : ℕ) (a p : ℕ → ℕ) where
  -- with all weight on one state the mean is that state's number
  all_on_one : (i : ℕ) → i < M → a i ≡ MILLION → ((j : ℕ) → j < M → (j ≡ i → ⊥) → a j ≡ 0) → start_mean M a p ≡ p i
  unfolding start_mean
  all_on_one i l full others =
      let single = sum_single M i (λ j. a j * p j) l (λ j b other. rw (others j b other) (omega arith)) in
      quotient_unique (sum M (λ j. a j * p j)) MILLION (p i) 0 (omega arith) (omega (arith, single, ap (λ (x : ℕ). x * p i) full))

  -- the mean of numbers up to k is at most k
  pub mean_max : (k : ℕ) → sum M a ≡ MILLION → ((i : ℕ) → i < M → p i ≤ k) → start_mean M a p ≤ k
  unfolding start_mean
  mean_max k whole_weight most =
      quotient_at_most (sum M (λ i. a i * p i)) k MILLION
      (omega (arith, sum_mono M (λ i. a i * p i) (λ i. a i * k) (λ i l. mul-le-mul_left (a i) (most i l)), sum_times M k a, ap (λ (x : ℕ). x * k) whole_weight))

-- no lower weights and no lower numbers have no lower mean, whatever the weights' sum
pub mean_mono : (M : ℕ) (a b p q : ℕ → ℕ) → ((i : ℕ) → i < M → a i ≤ b i) → ((i : ℕ) → i < M → p i ≤ q i) → start_mean M a p ≤ start_mean M b q
unfolding start_mean
mean_mono M a b p q weights numbers =
    quotient_mono (sum M (λ i. a i * p i)) (sum M (λ i. b i * q i)) MILLION (sum_mono M (λ i. a i * p i) (λ i. b i * q i) (λ i l. mul-le-mul (weights i l) (numbers i l)))

-- equal ones have equal means
pub mean_same : (M : ℕ) (a b p q : ℕ → ℕ) → ((i : ℕ) → i < M → a i ≡ b i) → ((i : ℕ) → i < M → p i ≡ q i) → start_mean M a p ≡ start_mean M b q
mean_same M a b p q weights numbers =
    le_antisymm (mean_mono M a b p q (λ i l. omega (arith, weights i l)) (λ i l. omega (arith, numbers i l))) (mean_mono M b a q p (λ i l. omega (arith, weights i l)) (λ i l. omega (arith, numbers i l)))

-- with all weight on state i the start figure is that state's moment
pub start_of_one : (m : Model) (N r i : ℕ) → i < m.states → m.start i ≡ MILLION → ((j : ℕ) → j < m.states → (j ≡ i → ⊥) → m.start j ≡ 0) → start_figure m N r ≡ moment m N r i
unfolding start_figure
start_of_one m N r i l full others = all_on_one m.states m.start (moment m N r) i l full others

-- a(0) × x(0) + … + a(n − 1) × x(n − 1)
abbrev weighted_total : ℕ → (ℕ → ℕ) → (ℕ → Fraction) → Fraction
weighted_total n a x = total n (λ i. times (whole (a i)) (x i))

-- numbers p(i) of ticks, each within d of x(i): weighted alike they are within the weights' sum times d
total_above : (n : ℕ) (a p : ℕ → ℕ) (x : ℕ → Fraction) (d : Fraction) → ((i : ℕ) → i < n → AtMost (ticks (p i)) (plus (x i) d)) → AtMost (ticks (sum n (λ i. a i * p i))) (plus (weighted_total n a x) (times (whole (sum n a)) d))
unfolding sum total
total_above zero a p x d h = record { cross = omega arith }
total_above (suc n) a p x d h =
    let before = total_above n a p x d (λ i l. h i (omega arith)) in
    record { cross = omega (arith, mul-le-mul_right (x n).den before.cross, mul-le-mul_left (a n * (weighted_total n a x).den) (h n (omega arith)).cross) }

total_below : (n : ℕ) (a p : ℕ → ℕ) (x : ℕ → Fraction) (d : Fraction) → ((i : ℕ) → i < n → AtMost (x i) (plus (ticks (p i)) d)) → AtMost (weighted_total n a x) (plus (ticks (sum n (λ i. a i * p i))) (times (whole (sum n a)) d))
unfolding sum total
total_below zero a p x d h = record { cross = omega arith }
total_below (suc n) a p x d h =
    let before = total_below n a p x d (λ i l. h i (omega arith)) in
    record { cross = omega (arith, mul-le-mul_right (x n).den before.cross, mul-le-mul_left (a n * (weighted_total n a x).den) (h n (omega arith)).cross) }

-- one part more of d parts
pub one_more : (k d : ℕ) (h : 0 < d) → AtMost (plus (ratio k d h) (ratio 1 d h)) (ratio (k + 1) d h)
one_more k d h = record { cross = omega arith }

pub one_more_past : (t : Fraction) (k d : ℕ) (h : 0 < d) → AtMost (plus (plus t (ratio k d h)) (ratio 1 d h)) (plus t (ratio (k + 1) d h))
one_more_past t k d h = record { cross = omega arith }

-- the mean, rounded down, of numbers within d of x(i): at most d above the mean of x, and less than one tick more below it
module _ (M : ℕ) (a p : ℕ → ℕ) (x : ℕ → Fraction) (d : Fraction) (full : sum M a ≡ MILLION) (near : (i : ℕ) → i < M → Within (ticks (p i)) (x i) d) where
  abbrev exact_start : Fraction
  exact_start = over_whole (weighted_total M a x) MILLION million_pos

  mean_above : AtMost (ticks (start_mean M a p)) (plus exact_start d)
  unfolding start_mean
  mean_above =
      let products : ℕ = sum M (λ i. a i * p i) in
      let sums = rw full at (total_above M a p x d (λ i l. (near i l).above)) in
      record { cross = omega (arith, sums.cross, mul-le-mul_right ((weighted_total M a x).den * d.den) (quotient_low products MILLION)) }

  mean_below : AtMost exact_start (plus (ticks (start_mean M a p + 1)) d)
  unfolding start_mean
  mean_below =
      let products : ℕ = sum M (λ i. a i * p i) in
      let sums = rw full at (total_below M a p x d (λ i l. (near i l).below)) in
      let less : products ≤ (products / MILLION + 1) * MILLION = omega (arith, quotient_high products MILLION million_pos) in
      record { cross = omega (arith, sums.cross, mul-le-mul_right ((weighted_total M a x).den * d.den) less) }

  -- so it is within any e that holds d and one tick
  pub mean_within : (e : Fraction) → AtMost (plus d (ticks 1)) e → Within (ticks (start_mean M a p)) exact_start e
  mean_within e wide =
      let above = mean_above in
      let below = mean_below in
      record {
        above = record { cross = le_of_mul-le-mul_right {k = d.den * ONE} (omega (arith, mul-le-mul_right (e.den * ONE) above.cross, mul-le-mul_left (exact_start.den * ONE) wide.cross)) (mul-pos d.pos one_pos) };
        below = record { cross = le_of_mul-le-mul_right {k = d.den * ONE} (omega (arith, mul-le-mul_right (e.den * ONE) below.cross, mul-le-mul_left (exact_start.den * ONE) wide.cross)) (mul-pos d.pos one_pos) };
      }
