-- Where the starting weights, the rewards and the rows of rates lie in a framed file.
use Rattle.std.specs.Prelude.{ℕ, ◌+◌, ◌*◌, ◌-◌, ◌≤◌, ◌<◌, ◌≡◌, refl, List, length, drop, eqb}
use Rattle.std.proofs.Common.{arith, mul-le-mul_left, ap, length-drop, lt-ltb, le-ltb}
use Rattle.std.proofs.Math.Decide.{dec_lt}
use Rattle.definitions.specs.File.{state_count, rewards_at, row_at, place, rate_field}
use Rattle.definitions.specs.Sums.{pick}
use Rattle.definitions.specs.Bytes.{big}
use Rattle.laws.specs.Acceptance.{Framed}
use Rattle.laws.specs.ByteLaws.{big_drop}

-- the M rewards lie in the file, and so do M numbers from the weights' place on
pub rewards_room : (s : List ℕ) → Framed s → rewards_at s + 4 * state_count s ≤ length s
rewards_room s f =
    let whole : state_count s * 1 ≤ state_count s * state_count s = mul-le-mul_left (state_count s) f.states_min in
    omega arith

-- a state's row of M − 1 rates lies in the file
pub row_room : (s : List ℕ) (i : ℕ) → Framed s → i < state_count s → row_at s i + 4 * (state_count s - 1) ≤ length s
row_room s i f l =
    let less : (state_count s - 1) + 1 ≡ state_count s = omega arith in
    let earlier : (state_count s - 1) * i ≤ (state_count s - 1) * (state_count s - 1) = mul-le-mul_left (state_count s - 1) (omega arith) in
    omega (arith, ap (λ (n : ℕ). n * state_count s) less, ap (λ (n : ℕ). (state_count s - 1) * n) less)

-- another state's place is one of the M − 1 places
pub place_room : (M i j : ℕ) → i < M → j < M → (j ≡ i → ⊥) → place i j + 1 ≤ M - 1
place_room M i j li lj other =
    elim (dec_lt j i) [ yes l ↦ rw (lt-ltb j i l) (omega arith) | no n ↦ rw (le-ltb j i (omega arith)) (omega (arith, other)) ]

-- and so lies in the part of the file where the row starts
pub entry_room : (s : List ℕ) (i j : ℕ) → Framed s → i < state_count s → j < state_count s → (j ≡ i → ⊥) → 4 * place i j + 4 ≤ length (drop (row_at s i) s)
entry_room s i j f li lj other =
    omega (arith, length-drop (row_at s i) s, row_room s i f li, place_room (state_count s) i j li lj other)

-- a rate in that part is the rate in the file
pub entry_in_row : (s : List ℕ) (i j diagonal : ℕ) → pick (eqb j i) diagonal (big 4 (drop (row_at s i) s) (4 * place i j)) ≡ pick (eqb j i) diagonal (rate_field s i j)
entry_in_row s i j diagonal = rw (big_drop 4 (row_at s i) s (4 * place i j)) refl
