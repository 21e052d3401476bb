-- The starting distributions that a file holds; the uniformized chain: each row of c sums to E, f ≤ F; chains that agree at their states, and chains
-- of which one is no lower.
use Rattle.std.specs.Prelude.{ℕ, ◌+◌, ◌*◌, ◌-◌, ◌≤◌, ◌<◌, ◌≡◌, refl, List, get_or, ltb}
use Rattle.std.proofs.Common.{mul-le-mul, arith, ◌∙◌, eq-eqb, ne_eqb, lt-ltb}
use Rattle.std.proofs.Math.Decide.{ℕ_discrete}
use Rattle.definitions.specs.Sums.{sum, pick}
use Rattle.definitions.specs.File.{version, distributions}
use Rattle.definitions.specs.Chain.{Model, at_time, jump_rate, row_sum, uniform_rate, c, max_reward, Chain, chain_of, padded, sizes_of}
use Rattle.laws.specs.SumLaws.{sum_changed, le_largest}
use Rattle.laws.specs.ListLaws.{get_d_firsts}

-- one starting distribution in version 2, none in any other
pub version_2 : (s : List ℕ) → version s ≡ 2 → distributions s ≡ 1
unfolding distributions
version_2 s e = rw (eq-eqb (version s) 2 e) refl

pub other_version : (s : List ℕ) → (version s ≡ 2 → ⊥) → distributions s ≡ 0
unfolding distributions
other_version s e = rw (ne_eqb (version s) 2 e) refl

pub distributions_max : (s : List ℕ) → distributions s ≤ 1
distributions_max s = elim (ℕ_discrete (version s) 2) [ yes e ↦ omega (arith, version_2 s e) | no ne ↦ omega (arith, other_version s ne) ]

-- the time has no part in E, the chain or its sizes
pub rate_at_lem : (m : Model) (T : ℕ) → uniform_rate (at_time m T) ≡ uniform_rate m
unfolding jump_rate row_sum uniform_rate
rate_at_lem m T = refl

pub chain_at : (m : Model) (T : ℕ) → chain_of (at_time m T) ≡ chain_of m
unfolding jump_rate row_sum uniform_rate c max_reward
chain_at m T = refl

pub sizes_at : (m : Model) (T : ℕ) → sizes_of (at_time m T) ≡ sizes_of m
unfolding jump_rate row_sum uniform_rate max_reward
sizes_at m T = refl

pub row_sum_le_rate : (m : Model) (i : ℕ) → i < m.states → row_sum m i ≤ uniform_rate m
unfolding uniform_rate
row_sum_le_rate m i l = omega (arith, le_largest m.states (row_sum m) i l)

pub rate_pos : (m : Model) → 0 < uniform_rate m
unfolding uniform_rate
rate_pos m = omega arith

-- each row of c sums to E
pub row_sums_to_rate : (m : Model) (i : ℕ) → i < m.states → sum m.states (c m i) ≡ uniform_rate m
unfolding c
row_sums_to_rate m i l =
    let split : sum m.states (c m i) ≡ row_sum m i + (uniform_rate m - row_sum m i) =
    unfold jump_rate row_sum in sum_changed m.states i (uniform_rate m - row_sum m i) (m.transition i) l in
    omega (arith, row_sum_le_rate m i l)

-- f ≤ F
pub reward_le_largest : (m : Model) (i : ℕ) → i < m.states → m.reward i ≤ max_reward m
unfolding max_reward
reward_le_largest m i l = le_largest m.states m.reward i l

-- a padded vector at a state, and past the states
pub get_d_padded : (M : ℕ) (v : ℕ → ℕ) (i : ℕ) → M ≤ 64 → i < M → get_or (padded M v) i 0 ≡ v i
unfolding padded
get_d_padded M v i h l = get_d_firsts 0 64 (λ j. pick (ltb j M) (v j) 0) i (omega arith) ∙ rw (lt-ltb i M l)

-- at most k states have at most k × k places
pub square_max : (M k : ℕ) → M ≤ k → M * M ≤ k * k
square_max M k h = mul-le-mul h h

-- two chains that agree at every pair of states
pub record SameChain (a b : Chain) : Type 0 where
  pub states : a.states ≡ b.states
  pub rate : a.rate ≡ b.rate
  pub largest_reward : a.largest_reward ≡ b.largest_reward
  pub entry : (i j : ℕ) → i < a.states → j < a.states → a.entry i j ≡ b.entry i j
  pub reward : (i : ℕ) → i < a.states → a.reward i ≡ b.reward i

pub itself : (ch : Chain) → SameChain ch ch
itself ch = omega arith

pub the_other_way : (a b : Chain) → SameChain a b → SameChain b a
the_other_way a b e = omega arith

-- chain b has no lower entries of c and no lower rewards than chain a; M, E and F are the same
pub record Raised (a b : Chain) : Type 0 where
  pub states : a.states ≡ b.states
  pub rate : a.rate ≡ b.rate
  pub largest_reward : a.largest_reward ≡ b.largest_reward
  pub entry : (i j : ℕ) → i < a.states → j < a.states → a.entry i j ≤ b.entry i j
  pub reward : (i : ℕ) → i < a.states → a.reward i ≤ b.reward i

-- chains that agree are such chains
pub same_raised : (a b : Chain) → SameChain a b → Raised a b
same_raised a b e = omega arith
