-- A fraction held between whole numbers over a common divisor d: a/d ≤ x, and x ≤ a/d.
use Rattle.std.specs.Prelude.{ℕ, zero, suc, ◌+◌, ◌*◌, ◌≤◌, ◌<◌}
use Rattle.std.proofs.Common.{arith, mul-le-mul, mul-le-mul_left, mul-le-mul_right, le_of_mul-le-mul_right}
use Rattle.definitions.specs.Sums.{sum}
use Rattle.definitions.specs.Fraction.{Fraction, whole, plus, times, over_whole, quotient, total}

-- a/d is at most x
pub record Low (a d : ℕ) (x : Fraction) : Type 0 where
  pub low : a * x.den ≤ x.num * d

-- x is at most a/d
pub record High (a d : ℕ) (x : Fraction) : Type 0 where
  pub high : x.num * d ≤ a * x.den

pub low_less : {a d : ℕ} (b : ℕ) (x : Fraction) → b ≤ a → Low a d x → Low b d x
low_less b x h l = record { low = omega (arith, mul-le-mul_right x.den h, l.low) }

pub high_more : {a d : ℕ} (b : ℕ) (x : Fraction) → a ≤ b → High a d x → High b d x
high_more b x h l = record { high = omega (arith, mul-le-mul_right x.den h, l.high) }

-- a sum of two
pub plus_low : {a b d : ℕ} (x y : Fraction) → Low a d x → Low b d y → Low (a + b) d (plus x y)
plus_low x y p q = record { low = omega (arith, mul-le-mul_right y.den p.low, mul-le-mul_right x.den q.low) }

pub plus_high : {a b d : ℕ} (x y : Fraction) → High a d x → High b d y → High (a + b) d (plus x y)
plus_high x y p q = record { high = omega (arith, mul-le-mul_right y.den p.high, mul-le-mul_right x.den q.high) }

-- a whole number of times
pub whole_times_low : {a d : ℕ} (k : ℕ) (x : Fraction) → Low a d x → Low (k * a) d (times (whole k) x)
whole_times_low k x p = record { low = omega (arith, mul-le-mul_left k p.low) }

pub whole_times_high : {a d : ℕ} (k : ℕ) (x : Fraction) → High a d x → High (k * a) d (times (whole k) x)
whole_times_high k x p = record { high = omega (arith, mul-le-mul_left k p.high) }

-- a product of two
pub times_low : {a b d e : ℕ} (x y : Fraction) → Low a d x → Low b e y → Low (a * b) (d * e) (times x y)
times_low x y p q = record { low = omega (arith, mul-le-mul p.low q.low) }

pub times_high : {a b d e : ℕ} (x y : Fraction) → High a d x → High b e y → High (a * b) (d * e) (times x y)
times_high x y p q = record { high = omega (arith, mul-le-mul p.high q.high) }

-- over a whole number k: q is below, or above, the quotient of the bound by k
pub over_low : {a d k : ℕ} (q : ℕ) (x : Fraction) (h : 0 < k) → q * k ≤ a → Low a d x → Low q d (over_whole x k h)
over_low q x h l p = record { low = omega (arith, mul-le-mul_right x.den l, p.low) }

pub over_high : {a d k : ℕ} (q : ℕ) (x : Fraction) (h : 0 < k) → a ≤ q * k → High a d x → High q d (over_whole x k h)
over_high q x h l p = record { high = omega (arith, mul-le-mul_right x.den l, p.high) }

-- a sum of n
pub total_low : (n d : ℕ) (a : ℕ → ℕ) (x : ℕ → Fraction) → ((i : ℕ) → i < n → Low (a i) d (x i)) → Low (sum n a) d (total n x)
unfolding sum total
total_low zero d a x h = record { low = omega arith }
total_low (suc n) d a x h = plus_low (total n x) (x n) (total_low n d a x (λ i l. h i (omega arith))) (h n (omega arith))

pub total_high : (n d : ℕ) (a : ℕ → ℕ) (x : ℕ → Fraction) → ((i : ℕ) → i < n → High (a i) d (x i)) → High (sum n a) d (total n x)
unfolding sum total
total_high zero d a x h = record { high = omega arith }
total_high (suc n) d a x h = plus_high (total n x) (x n) (total_high n d a x (λ i l. h i (omega arith))) (h n (omega arith))

-- a quotient of two fractions: t ≥ a/(d·e) and w ≤ z/d give t/w ≥ a/(e·z)
pub quotient_low' : (a z d e : ℕ) (t w : Fraction) (h : 0 < w.num) → 0 < d → Low a (d * e) t → High z d w → Low a (e * z) (quotient t w h)
quotient_low' a z d e t w h pos p q =
    record { low = le_of_mul-le-mul_right {k = d} (omega (arith, mul-le-mul p.low q.high)) pos }

pub quotient_high' : (a z d e : ℕ) (t w : Fraction) (h : 0 < w.num) → 0 < d → High a (d * e) t → Low z d w → High a (e * z) (quotient t w h)
quotient_high' a z d e t w h pos p q =
    record { high = le_of_mul-le-mul_right {k = d} (omega (arith, mul-le-mul p.high q.low)) pos }
