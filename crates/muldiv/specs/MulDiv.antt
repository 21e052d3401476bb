-- What muldiv's contracts cite, and what its loop keeps: document 01, "Multiply, then divide", with document 02, S-2 and S-4. Assumes nothing: these are definitions.
use Rattle.std.specs.Prelude.{ℕ, ◌+◌, ◌*◌, ◌/◌, ◌%◌, ◌^◌, ◌<◌, ◌≤◌, ◌==◌, nat_le, if◌then◌else◌, Option, Some, None}
use Rattle.definitions.specs.Division.{Divides}
use Rattle.definitions.specs.declared.Division.{Division}

-- the quotient q with the remainder r, unless 64 bits do not hold q
unfoldable pub fitted : ℕ → ℕ → Option Division
fitted q r = if nat_le (2 ^ 64) q then None else Some (record { quotient = q; remainder = r })

-- a × b by c. None where c is 0, where a, b or c is 2^62 or more, or where the quotient is 2^64 or more.
unfoldable pub divided_of : ℕ → ℕ → ℕ → Option Division
divided_of a b c =
    if c == 0 then None
    else (if nat_le (2 ^ 62) a then None
    else (if nat_le (2 ^ 62) b then None
    else (if nat_le (2 ^ 62) c then None
    else fitted (a * b / c) (a * b % c))))

-- b, which 64 bits hold, has n bits: n is the least number with b below 2 ^ n, since half of 2 ^ n is at most b, or n and b are 0
pub record BitCount (b n : ℕ) : Type 0 where
  pub above : b < 2 ^ n
  pub least : 2 ^ n ≤ 2 * b + 1
  pub most : n ≤ 64

-- what the loop keeps, where the `left` lowest bits of b are still to come: q and r are quotient and remainder, by c, of a times the bits so far
abbrev pub Walked : ℕ → ℕ → ℕ → ℕ → ℕ → ℕ → Type 0
Walked a b c left q r = Divides (a * (b / 2 ^ left)) c q r

-- a × b over c exists and fits: what a caller of `scaled` shows
pub record Scalable (a b c : ℕ) : Type 0 where
  pub divisor : 0 < c
  pub a_small : a < 2 ^ 62
  pub b_small : b < 2 ^ 62
  pub c_small : c < 2 ^ 62
  pub fits : a * b / c < 2 ^ 64
