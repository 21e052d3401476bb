-- "Weights": the Poisson weights of an expected jump count of X millionths, in units of 10^-15.
use Rattle.std.specs.Prelude.{ℕ, zero, suc, ◌+◌, ◌*◌, ◌-◌, ◌/◌, ltb}
use Rattle.definitions.specs.Sums.{sum, pick}

-- 10^15, the weight at m
abbrev pub GREATEST : ℕ
GREATEST = 1000000000000000

-- one jump in millionths
abbrev pub MILLION : ℕ
MILLION = 1000000

-- m: q rounded down
unfoldable pub mode : ℕ → ℕ
mode X = X / MILLION

-- w(m + k)
unfoldable pub rightward : ℕ → ℕ → ℕ
rightward X zero = GREATEST
rightward X (suc k) = rightward X k * X / ((mode X + k + 1) * MILLION)

-- w(m − k)
unfoldable pub leftward : ℕ → ℕ → ℕ
leftward X zero = GREATEST
leftward X (suc k) = leftward X k * (mode X - k) * MILLION / X

-- w(n)
unfoldable pub weight : ℕ → ℕ → ℕ
weight X n = pick (ltb n (mode X)) (leftward X (mode X - n)) (rightward X (n - mode X))

-- S(n) = w(0) + … + w(n)
unfoldable pub weight_sum : ℕ → ℕ → ℕ
weight_sum X n = sum (suc n) (weight X)
