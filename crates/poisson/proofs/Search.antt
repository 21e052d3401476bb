-- The search for the level, over plain numbers: one test of n, and what its answer tells. Assumes nothing.
use Rattle.std.specs.Prelude.{◌≡◌, ℕ, ◌+◌, ◌*◌, ◌-◌, ◌/◌, ◌≤◌, ◌<◌, true, false, leb}
use Rattle.std.proofs.Common.{refl, ap₂, ◌∙◌, mul-le-mul_left, le-leb, arith}
use Rattle.std.proofs.Math.Decide.{ℕ_discrete}
use Rattle.std.proofs.lemmas.Bool.{lt-leb}
use Rattle.definitions.specs.Weights.{MILLION, mode, weight}
use Rattle.definitions.specs.Level.{tail_bound, allowance, passes?, level}
use Rattle.laws.specs.Rounding.{quotient_at_most}
use Rattle.laws.specs.LevelLaws.{LEVELS, passes_true, true_passes, level_is}
use Rattle.muldiv.specs.MulDiv.{Scalable}
use Rattle.muldiv.specs.QuotientLaws.{scalable_by}
use Rattle.poisson.specs.declared.Jumps.{Jumps}

-- below q no n passes
pub too_early : (X ε n : ℕ) → n * MILLION < X → passes? X ε n ≡ false
unfolding passes?
too_early X ε n h = rw (lt-leb X (n * MILLION) h)

-- from q on, t and the allowance decide
pub tested : (X ε n t a : ℕ) → X ≤ n * MILLION → t ≡ tail_bound X n → a ≡ allowance X ε n → leb t a ≡ passes? X ε n
unfolding passes?
tested X ε n t a h p q = rw (le-leb X (n * MILLION) h, p, q)

-- t, from w(n)
pub tail : (X n w : ℕ) → w ≡ weight X n → 1 + (w + n - mode X) * X / ((n + 1) * MILLION - X) ≡ tail_bound X n
unfolding tail_bound
tail X n w e = rw e refl

module _ (X n a : ℕ) (jumps_max : X ≤ 256000000) (reached : X ≤ n * MILLION) where
  -- X is at most 256 times the divisor of t
  few : a * X ≤ a * 256 * ((n + 1) * MILLION - X)
  few =
      let room : X ≤ 256 * ((n + 1) * MILLION - X) = omega arith in
      omega (arith, mul-le-mul_left a room)

  -- so the quotient in t is at most 256 a
  pub tail_max : a * X / ((n + 1) * MILLION - X) ≤ a * 256
  tail_max = quotient_at_most (a * X) (a * 256) ((n + 1) * MILLION - X) few

  -- and fits
  pub tail_scalable : n < LEVELS → a ≤ 2000000000000000 → Scalable a X ((n + 1) * MILLION - X)
  tail_scalable last small =
      scalable_by a X ((n + 1) * MILLION - X) (a * 256) (omega arith) (omega arith) (omega arith) (omega arith) few (omega arith)

module _ (X ε n : ℕ) (jumps_max : X ≤ 256000000) (tolerance_pos : 1 ≤ ε) (before : n ≤ level X ε) where
  -- an n that does not pass is below the level
  pub not_yet : passes? X ε n ≡ false → n + 1 ≤ level X ε
  not_yet e = from (ℕ_discrete n (level X ε))
    where
      from : Dec (n ≡ level X ε) → n + 1 ≤ level X ε
      from (yes q) =
          let passes : passes? X ε (level X ε) ≡ true = true_passes X ε (level X ε) (level_is X ε jumps_max tolerance_pos).passes in
          let z : ◌≡◌ {A = ℕ} 0 1 = cc in
          absurd (omega arith)
      from (no d) = omega (arith, d)

  -- an n that passes is the level
  pub this_one : passes? X ε n ≡ true → n ≡ level X ε
  this_one e = omega (arith, (level_is X ε jumps_max tolerance_pos).least n (passes_true X ε n e))

-- the weight of a number of jumps, by the expected count and the number that they equal
pub weight_at : (at : Jumps) (x n : ℕ) → at.x ≡ x → at.n ≡ n → at.w ≡ weight x n
weight_at at x n p q = at.weighed ∙ ap₂ weight p q
