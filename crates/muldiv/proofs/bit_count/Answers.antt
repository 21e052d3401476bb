-- `muldiv::bit_count` meets its contract. Assumes nothing.
use Rattle.std.specs.Prelude.{◌≡◌, ℕ, ◌-◌, ◌^◌, ◌<◌}
use Rattle.std.proofs.Common.{arith}
use Rattle.std.proofs.lemmas.Nat.{leading_length}
use lib.Count.{count_leading_zeros}
use Rattle.muldiv.specs.MulDiv.{BitCount}
use Rattle.muldiv.proofs.bit_count.Goals as goal

-- the bits are those that are no leading zeros
counted : (b n : ℕ) → b < 2 ^ 64 → n ≡ 64 - count_leading_zeros 64 b → BitCount b n
counted b n fits is_rest =
    let length = leading_length 64 b fits in
    let same : n ≡ length.0 = omega arith in
    rw same (record { above = length.2; least = length.3; most = omega arith })

pub returns : goal.returns
returns c = counted c.args.b _ c.ranges.b.fits (omega arith)
