-- The distance of a weighted mean from the exact average, in whole numbers: the last steps of each bound.
use Rattle.std.specs.Prelude.{ℕ, ◌+◌, ◌*◌, ◌-◌, ◌≤◌, ◌≡◌}
use Rattle.std.proofs.Common.{arith, mul-le-mul_left, mul-le-mul_right, ap}
use Rattle.std.proofs.Math.Decide.{dec_le}
use Rattle.definitions.specs.Vectors.{ONE}
use Rattle.definitions.specs.Level.{BILLION}

-- where the weights past N are at most ε of those up to N, those up to N are at least 1 − ε of all
pub most_weights : (ZN Zt ε : ℕ) → Zt * BILLION ≤ ε * ZN → (BILLION - ε) * (ZN + Zt) ≤ BILLION * ZN
most_weights ZN Zt ε h =
    let b : ℕ = BILLION - ε in
    elim (dec_le ε BILLION) [
      | yes l ↦
          let whole : b + ε ≡ BILLION = omega arith in
          omega (arith, h, mul-le-mul_right Zt (let part : b ≤ BILLION = omega arith in part), ap (λ (k : ℕ). k * ZN) whole)
      | no l ↦ let none : b ≡ 0 = omega (arith, l) in rw none (omega arith)
    ]

-- above and below in numbers: at the level, and past it with the tolerance
pub level_low : (P zU ZN N r : ℕ) → P * ZN ≤ zU + (N + 1) * ZN → P * ZN * ONE ≤ zU * ONE + (3 * N + 2 * r + 3) * (ONE * ZN)
level_low P zU ZN N r h = omega (arith, mul-le-mul_right ONE h)

pub level_high : (P zU ZN N r : ℕ) → zU ≤ (P + N + 3) * ZN → (zU + ZN * (2 * (N + r)) + 0 * ONE) * ONE ≤ (P * ONE + (3 * N + 2 * r + 3) * ONE) * ZN
level_high P zU ZN N r h = omega (arith, h)

pub past_low : (P zU ZN Zt N r ε : ℕ) → P ≤ ONE → Zt * BILLION ≤ ε * ZN → P * ZN ≤ zU + (N + 1) * ZN → P * (ZN + Zt) * (BILLION * ONE) ≤ zU * (BILLION * ONE) + (ε * ONE + (3 * N + 2 * r + 3) * BILLION) * (ONE * (ZN + Zt))
past_low P zU ZN Zt N r ε top t h = omega (arith, mul-le-mul_right (Zt * BILLION) top, mul-le-mul_left ONE t, h)

pub past_high : (P zU ZN Zt N r ε : ℕ) → Zt * BILLION ≤ ε * ZN → zU ≤ (P + N + 3) * ZN → (zU + ZN * (2 * (N + r)) + Zt * ONE) * (BILLION * ONE) ≤ (P * (BILLION * ONE) + (ε * ONE + (3 * N + 2 * r + 3) * BILLION) * ONE) * (ZN + Zt)
past_high P zU ZN Zt N r ε t h = omega (arith, t, h)
