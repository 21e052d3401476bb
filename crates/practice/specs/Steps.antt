-- A step of the stream, computed in parts. Assumes nothing.
use Rattle.std.specs.Prelude.{◌≡◌, ℕ, ◌+◌, ◌*◌, ◌%◌, ◌^◌}
use Rattle.std.proofs.Common.{◌∙◌, ap, ap₂}
use Rattle.std.proofs.Math.Nat.{mod-add-mod}
use Rattle.definitions.specs.Practice.{next}

-- cut after the product and after the sum is cut once
pub next_in_parts : (previous factor product increment result : ℕ) → product ≡ previous * factor % 2 ^ 32 → result ≡ (product + increment) % 2 ^ 32 → factor ≡ 1664525 → increment ≡ 1013904223 → result ≡ next previous
unfolding next
next_in_parts previous factor product increment result p r f i =
    r
    ∙ ap₂ (λ (x y : ℕ). (x + y) % 2 ^ 32) (p ∙ ap (λ (k : ℕ). previous * k % 2 ^ 32) f) i
    ∙ mod-add-mod (previous * 1664525) (2 ^ 32) 1013904223
