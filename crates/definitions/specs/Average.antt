-- "Exact average": fractions from the file alone, nothing rounded. E and F have to be above 0, as they are for an accepted file.
use Rattle.std.specs.Prelude.{ℕ, zero, suc, ◌+◌, ◌*◌, ◌<◌}
use Rattle.std.proofs.Common.{mul-pos, zero-lt-suc, arith, lit<}
use Rattle.definitions.specs.Chain.{Model, Chain, uniform_rate, max_reward, chain_of, jump_millionths}
use Rattle.definitions.specs.Weights.{MILLION}
use Rattle.definitions.specs.Fraction.{Fraction, ratio, whole, plus, times, over_whole, quotient, total, power}

-- E is above 0
pub uniform_rate_pos : (m : Model) → 0 < uniform_rate m
unfolding uniform_rate
uniform_rate_pos m = omega arith

pub sum_pos : (n r : ℕ) → 0 < n + suc r
sum_pos n r = omega arith

pub million_pos : 0 < MILLION
million_pos = lit< tt

-- E and F can be divided by
pub record Proper (ch : Chain) : Type 0 where
  pub rate_pos : 0 < ch.rate
  pub reward_pos : 0 < ch.largest_reward

-- E of a model is never 0
abbrev pub proper : (m : Model) → 0 < max_reward m → Proper (chain_of m)
proper m h = record { rate_pos = uniform_rate_pos m; reward_pos = h }

-- v: the sum over j of c(i,j) × x(j), over E
unfoldable pub exact_mean : (ch : Chain) → Proper ch → (ℕ → Fraction) → ℕ → Fraction
exact_mean ch p x i = over_whole (total ch.states (λ j. times (whole (ch.entry i j)) (x j))) ch.rate p.rate_pos

-- z: f(i) × x over F
unfoldable pub exact_share : (ch : Chain) → Proper ch → Fraction → ℕ → Fraction
exact_share ch p x i = over_whole (times (whole (ch.reward i)) x) ch.largest_reward p.reward_pos

-- (n × v + r × z) over (n + r), for r = k + 1
unfoldable pub exact_mix : ℕ → ℕ → Fraction → Fraction → Fraction
exact_mix n k v z = over_whole (plus (times (whole n) v) (times (whole (suc k)) z)) (n + suc k) (sum_pos n k)

-- u(0,r) at i
unfoldable pub exact_first : (ch : Chain) → Proper ch → ℕ → ℕ → Fraction
exact_first ch p zero i = whole 1
exact_first ch p (suc r) i = exact_share ch p (exact_first ch p r i) i

-- u(n,r) at i for n ≥ 1, where before is u(n−1,·)
unfoldable pub exact_next : (ch : Chain) → Proper ch → ℕ → (ℕ → ℕ → Fraction) → ℕ → ℕ → Fraction
exact_next ch p n before zero i = whole 1
exact_next ch p n before (suc r) i = exact_mix n r (exact_mean ch p (before (suc r)) i) (exact_share ch p (exact_next ch p n before r i) i)

-- u(n,r) at i
unfoldable pub exact_u : (ch : Chain) → Proper ch → ℕ → ℕ → ℕ → Fraction
exact_u ch p zero = exact_first ch p
exact_u ch p (suc n) = exact_next ch p (suc n) (exact_u ch p n)

-- n!
unfoldable pub factorial : ℕ → ℕ
factorial zero = 1
factorial (suc n) = factorial n * suc n

pub factorial_pos : (n : ℕ) → 0 < factorial n
unfolding factorial
factorial_pos zero = zero-lt-suc 0
factorial_pos (suc n) = mul-pos (factorial_pos n) (zero-lt-suc n)

-- the weight of n: q^n / n!, q being X millionths
unfoldable pub exact_weight : ℕ → ℕ → Fraction
exact_weight X n = over_whole (power (ratio X MILLION million_pos) n) (factorial n) (factorial_pos n)

-- the weights of 0 to L do not sum to 0: the weight of 0 is 1
pub exact_weights_pos : (X L : ℕ) → 0 < (total (suc L) (exact_weight X)).num
unfolding total exact_weight power factorial
exact_weights_pos X zero = lit< tt
exact_weights_pos X (suc L) =
    let more : 0 < (total (suc L) (exact_weight X)).num * (exact_weight X (suc L)).den =
    mul-pos (exact_weights_pos X L) (exact_weight X (suc L)).pos in
    omega arith

-- the sum for n = 0 to L of the weight of n times x(n), over the sum of the same weights
unfoldable pub average_of : ℕ → (ℕ → Fraction) → ℕ → Fraction
average_of X x L = quotient (total (suc L) (λ n. times (exact_weight X n) (x n))) (total (suc L) (exact_weight X)) (exact_weights_pos X L)

-- the average up to level L, at state i and for r
unfoldable pub average : (m : Model) → 0 < max_reward m → ℕ → ℕ → ℕ → Fraction
average m h L r i = average_of (jump_millionths m) (λ n. exact_u (chain_of m) (proper m h) n r i) L

-- the averages weighted by the starting distribution: the sum over i of weight times average, over 1,000,000 (document 02, S-5)
unfoldable pub start_average : (m : Model) → 0 < max_reward m → ℕ → ℕ → Fraction
start_average m h L r = over_whole (total m.states (λ i. times (whole (m.start i)) (average m h L r i))) MILLION million_pos
