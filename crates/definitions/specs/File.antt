-- "The model file": its fields, read from its bytes. Every offset that is read stands here; in what order a file is written stands in Fields.
use Rattle.std.specs.Prelude.{ℕ, ◌+◌, ◌*◌, ◌-◌, List, get_or, eqb, ltb}
use Rattle.std.proofs.lemmas.List.Edits.{sets}
use Rattle.definitions.specs.Sums.{pick}
use Rattle.definitions.specs.Bytes.{big, bytes_of}

-- bytes 0 to 1: length
abbrev pub length_field : List ℕ → ℕ
length_field s = big 2 s 0

-- byte 2: version, 1 or 2
abbrev pub version : List ℕ → ℕ
version s = get_or s 2 0

-- byte 3: number of states M
abbrev pub state_count : List ℕ → ℕ
state_count s = get_or s 3 0

-- byte 4: highest moment R
abbrev pub highest_moment : List ℕ → ℕ
highest_moment s = get_or s 4 0

-- bytes 5 to 8: tolerance ε in billionths
abbrev pub tolerance_field : List ℕ → ℕ
tolerance_field s = big 4 s 5

-- bytes 9 to 12: time T in whole hours
abbrev pub time_field : List ℕ → ℕ
time_field s = big 4 s 9

-- the file s with the time T in the place of its own
unfoldable pub with_time : List ℕ → ℕ → List ℕ
with_time s T = sets s 9 (bytes_of 4 T)

-- how many starting distributions a file holds: one in version 2, none in version 1 (document 02, S-5)
unfoldable pub distributions : List ℕ → ℕ
distributions s = pick (eqb (version s) 2) 1 0

-- where the starting weights start
abbrev pub weights_at : ℕ
weights_at = 13

-- the starting weight of state i, in millionths (read only where the file holds a starting distribution)
abbrev pub weight_field : List ℕ → ℕ → ℕ
weight_field s i = big 4 s (weights_at + 4 * i)

-- where the reward rates start: after M weights for each distribution
abbrev pub rewards_at : List ℕ → ℕ
rewards_at s = weights_at + 4 * (distributions s * state_count s)

-- f(i): reward rate of state i
abbrev pub reward_field : List ℕ → ℕ → ℕ
reward_field s i = big 4 s (rewards_at s + 4 * i)

-- the file s with the reward rate x of state i in the place of its own (document 02, S-9)
unfoldable pub with_reward : List ℕ → ℕ → ℕ → List ℕ
with_reward s i x = sets s (rewards_at s + 4 * i) (bytes_of 4 x)

-- where row i of the rates starts: after M rewards and i rows of M − 1 rates
abbrev pub row_at : List ℕ → ℕ → ℕ
row_at s i = rewards_at s + 4 * state_count s + 4 * (state_count s - 1) * i

-- the place of state j in row i, the diagonal left out: j before it, j − 1 after it
abbrev pub place : ℕ → ℕ → ℕ
place i j = pick (ltb j i) j (j - 1)

-- the rate from state i to another state j, in millionths per hour (read only where j differs from i)
abbrev pub rate_field : List ℕ → ℕ → ℕ → ℕ
rate_field s i j = big 4 s (row_at s i + 4 * place i j)
