-- The laws of `divided_of`, which callers cite: none needs its definition. Assumes nothing.
use Rattle.std.specs.Prelude.{◌≡◌, ℕ, ◌*◌, ◌/◌, ◌%◌, ◌^◌, ◌<◌, ◌≤◌, Option, Some, None}
use Rattle.std.proofs.Common.{◌∙◌, mul-le-mul_left, arith, le-leb, eq-eqb, ne_eqb}
use Rattle.std.proofs.lemmas.Bool.{lt-leb}
use Rattle.std.proofs.lemmas.Bool.Decides.{nat_tests}
use Rattle.definitions.specs.declared.Division.{Division}
use Rattle.definitions.specs.Division.{division}
use Rattle.laws.specs.Rounding.{quotient_at_most}
use Rattle.muldiv.specs.MulDiv.{fitted, divided_of, Scalable}

-- 1. where there is a number, and where there is none

pub fitted_small : (q r : ℕ) → q < 2 ^ 64 → fitted q r ≡ Some (record { quotient = q; remainder = r })
unfolding fitted
fitted_small q r h = simp (lt-leb (2 ^ 64) q h)

pub fitted_large : (q r : ℕ) → 2 ^ 64 ≤ q → fitted q r ≡ None
unfolding fitted
fitted_large q r h = simp (le-leb (2 ^ 64) q h)

pub zero_divisor : (a b c : ℕ) → c ≡ 0 → divided_of a b c ≡ None
unfolding divided_of
zero_divisor a b c h = simp (eq-eqb c 0 h)

pub large_a : (a b c : ℕ) → 2 ^ 62 ≤ a → divided_of a b c ≡ None
unfolding divided_of
large_a a b c h = grind (arith, nat_tests)

pub large_b : (a b c : ℕ) → 2 ^ 62 ≤ b → divided_of a b c ≡ None
unfolding divided_of
large_b a b c h = grind (arith, nat_tests)

pub large_c : (a b c : ℕ) → 2 ^ 62 ≤ c → divided_of a b c ≡ None
unfolding divided_of
large_c a b c h = grind (arith, nat_tests)

-- past the refusals only the quotient's size is left
pub in_range : (a b c : ℕ) → 0 < c → a < 2 ^ 62 → b < 2 ^ 62 → c < 2 ^ 62 → divided_of a b c ≡ fitted (a * b / c) (a * b % c)
unfolding divided_of
in_range a b c pos ha hb hc =
    let some : c ≡ 0 → ⊥ = λ z. omega arith in
    simp (ne_eqb c 0 some, lt-leb (2 ^ 62) a ha, lt-leb (2 ^ 62) b hb, lt-leb (2 ^ 62) c hc)

-- 2. introduction: the quotient of numbers that are in range and whose quotient fits

pub divided_into : (a b c : ℕ) → Scalable a b c → divided_of a b c ≡ Some (division (a * b) c)
divided_into a b c s =
    rw (in_range a b c s.divisor s.a_small s.b_small s.c_small, fitted_small (a * b / c) (a * b % c) s.fits)

-- where b is at most c the quotient is at most a, and fits
pub scalable_part : (a b c : ℕ) → 0 < c → a < 2 ^ 62 → b ≤ c → c < 2 ^ 62 → Scalable a b c
scalable_part a b c pos ha hb hc =
    let most : a * b / c ≤ a = quotient_at_most (a * b) a c (mul-le-mul_left a hb) in
    omega arith

-- where the product is at most k times c, for a k that fits, the quotient fits
pub scalable_by : (a b c k : ℕ) → 0 < c → a < 2 ^ 62 → b < 2 ^ 62 → c < 2 ^ 62 → a * b ≤ k * c → k < 2 ^ 64 → Scalable a b c
scalable_by a b c k pos ha hb hc h hk =
    let most : a * b / c ≤ k = quotient_at_most (a * b) k c h in
    omega arith

-- 3. elimination: what a division that was given says

pub record Given (a b c : ℕ) (d : Division) : Type 0 where
  pub scalable : Scalable a b c
  pub value : d ≡ division (a * b) c

apart : {o : Option Division} {d : Division} → o ≡ Some d → o ≡ None → ⊥
apart p n = let z : ◌≡◌ {A = ℕ} 0 1 = cc in omega arith

pub was_given : (a b c : ℕ) (d : Division) → divided_of a b c ≡ Some d → Given a b c d
was_given a b c d e =
    let some : c ≡ 0 → ⊥ = λ h. apart e (zero_divisor a b c h) in
    let no_a : 2 ^ 62 ≤ a → ⊥ = λ h. apart e (large_a a b c h) in
    let no_b : 2 ^ 62 ≤ b → ⊥ = λ h. apart e (large_b a b c h) in
    let no_c : 2 ^ 62 ≤ c → ⊥ = λ h. apart e (large_c a b c h) in
    let sized : divided_of a b c ≡ fitted (a * b / c) (a * b % c) = in_range a b c (omega arith) (omega arith) (omega arith) (omega arith) in
    let no_q : 2 ^ 64 ≤ a * b / c → ⊥ = λ h. apart e (sized ∙ fitted_large (a * b / c) (a * b % c) h) in
    let s : Scalable a b c = omega arith in
    let made : divided_of a b c ≡ Some (division (a * b) c) = divided_into a b c s in
    let value : d ≡ division (a * b) c = cc in
    record { scalable = s; value = value }
