-- The start figures: their range, and the cells that they stand in.
use Rattle.std.specs.Prelude.{List, ◌≡◌, refl, ℕ, ◌+◌, ◌*◌, ◌-◌, ◌≤◌, ◌<◌, get_or}
use Rattle.std.proofs.Common.{ap, mul-le-mul_left, mul-le-mul_right, arith, lt-ltb, le-ltb}
use Rattle.std.proofs.Math.Decide.{dec_lt}
use Rattle.definitions.specs.Vectors.{ONE}
use Rattle.definitions.specs.Weights.{MILLION}
use Rattle.definitions.specs.Moment.{start_mean}
use Rattle.laws.specs.Rounding.{place_below}
use Rattle.laws.specs.SumLaws.{sum_mono, sum_times, sum_part}
use Rattle.laws.specs.StartLaws.{mean_same}
use Rattle.laws.specs.ArrayLaws.{entry_of}
use Rattle.start.specs.Figures.{moments_of, start_total, start_cell, Distribution}

-- the products of the first states sum to at most 10^6 × 10^12
pub total_max : (weights : List ℕ) (M n : ℕ) (p : ℕ → ℕ) → Distribution weights M → n ≤ M → ((i : ℕ) → i < M → p i ≤ ONE) → start_total weights n p ≤ MILLION * ONE
total_max weights M n p whole h most =
    omega
    (arith, sum_mono n (λ i. get_or weights i 0 * p i) (λ i. get_or weights i 0 * ONE) (λ i l. mul-le-mul_left (get_or weights i 0) (most i (omega arith))), sum_times n ONE (entry_of weights), mul-le-mul_right ONE (sum_part n M (entry_of weights) h), ap (λ (x : ℕ). x * ONE) whole.full)

module _ (weights : List ℕ) (M R : ℕ) where
  -- a moment stays
  pub cell_kept : (block : ℕ → ℕ) (e : ℕ) → e < M * R → start_cell (entry_of weights) M R block e ≡ block e
  cell_kept block e b = rw (lt-ltb e (M * R) b) refl

  -- the figure for r + 1 stands r cells after the moments
  pub cell_of_figure : (block : ℕ → ℕ) (r : ℕ) → start_cell (entry_of weights) M R block (M * R + r) ≡ start_mean M (entry_of weights) (moments_of R r block)
  cell_of_figure block r = rw (le-ltb (M * R + r) (M * R) (omega arith), let past : M * R + r - M * R ≡ r = omega arith in past) refl

  -- the figures are those of the moments alone
  pub figure_same : (f g : ℕ → ℕ) (r : ℕ) → r < R → ((e : ℕ) → e < M * R → f e ≡ g e) → start_mean M (entry_of weights) (moments_of R r f) ≡ start_mean M (entry_of weights) (moments_of R r g)
  figure_same f g r h same = mean_same M (entry_of weights) (entry_of weights) (moments_of R r f) (moments_of R r g) (λ i l. refl) (λ i l. same (i * R + r) (place_below i r M R l h))

  pub cell_same : (f g : ℕ → ℕ) → ((e : ℕ) → e < M * R → f e ≡ g e) → (e : ℕ) → e < (M + 1) * R → start_cell (entry_of weights) M R f e ≡ start_cell (entry_of weights) M R g e
  cell_same f g same e b =
      elim (dec_lt e (M * R)) [
        | yes h ↦ rw (lt-ltb e (M * R) h) (same e h)
        | no p ↦ rw (le-ltb e (M * R) (omega (arith, p))) (figure_same f g (e - M * R) (omega (arith, p)) same)
      ]
