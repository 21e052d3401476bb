-- The truncation level: the computed one is the least n that passes both tests, and it is at most 2m + 51.
use Rattle.std.specs.Prelude.{ℕ, zero, suc, ◌+◌, ◌≤◌, ◌≡◌, refl, Bool, true, false}
use Rattle.std.proofs.Common.{arith}
use Rattle.definitions.specs.Weights.{mode}
use Rattle.definitions.specs.Level.{tail_bound, allowance, Passes, IsLevel, passes?, first_from, level, last_level}
use Rattle.laws.specs.WeightLaws.{mode_low, mode_high, weight_gone, weight_sum_min}

-- the computed test is the paper's
pub passes_true : (X ε n : ℕ) → passes? X ε n ≡ true → Passes X ε n
unfolding passes?
passes_true X ε n h = grind arith

pub true_passes : (X ε n : ℕ) → Passes X ε n → passes? X ε n ≡ true
unfolding passes?
true_passes X ε n p = grind arith

-- what a search from n finds, where p ≥ n passes and is within the tries
pub record Found (X ε n p N : ℕ) : Type 0 where
  pub passes : passes? X ε N ≡ true
  pub within : N ≤ p
  pub least : (k : ℕ) → n ≤ k → passes? X ε k ≡ true → N ≤ k

pub found : (X ε tries n p : ℕ) → n ≤ p → p ≤ n + tries → passes? X ε p ≡ true → Found X ε n p (first_from X ε tries n)
unfolding first_from
found X ε zero n p low high h =
    let here : p ≡ n = omega arith in
    record { passes = rw here at h; within = low; least = λ k l e. l }
found X ε (suc tries) n p low high h = from (passes? X ε n) refl (found X ε tries (suc n) p)
  where
    from : (b : Bool) → passes? X ε n ≡ b → (suc n ≤ p → p ≤ suc n + tries → passes? X ε p ≡ true → Found X ε (suc n) p (first_from X ε tries (suc n))) → Found X ε n p (elim b [ true ↦ n | false ↦ first_from X ε tries (suc n) ])
    from b e later = grind arith

-- how many levels there may be, 0 to 563: q is at most 256
abbrev pub LEVELS : ℕ
LEVELS = 564

module _ (X ε : ℕ) (jumps_max : X ≤ 256000000) (tolerance_pos : 1 ≤ ε) where
  -- at 2m + 51 the weight is 0, t is at most 257 and a millionth of 10^15 is allowed
  pub last_passes : Passes X ε (last_level X)
  unfolding tail_bound allowance
  last_passes = grind (arith, mode_high, weight_sum_min, weight_gone)

  level_found : Found X ε 0 (last_level X) (level X ε)
  unfolding level
  level_found = found X ε 1024 0 (last_level X) (omega arith) (omega (arith, mode_low X)) (true_passes X ε (last_level X) last_passes)

  -- the computed level is the least n that passes
  pub level_is : IsLevel X ε (level X ε)
  level_is =
      record {
        passes = passes_true X ε (level X ε) level_found.passes;
        least = λ n p. level_found.least n (omega arith) (true_passes X ε n p);
      }

  -- the level is at most 2m + 51, so at most 563
  pub level_last : level X ε ≤ last_level X
  level_last = level_found.within

  -- the level is not below m
  pub level_mode : mode X ≤ level X ε
  level_mode = omega (arith, level_is.passes.past, mode_low X)
