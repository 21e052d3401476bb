-- What the divisions of U(n,r) leave: quotient, divisor and remainder of each, and when a call gives them.
use Rattle.std.specs.Prelude.{ℕ, zero, suc, ◌+◌, ◌-◌, ◌≤◌, ◌<◌, ◌≡◌, refl, Bool, true, false, ◌||◌, List, None, Some}
use Rattle.std.proofs.Common.{arith}
use Rattle.std.proofs.lemmas.Bool.{or_parts}
use Rattle.definitions.specs.declared.Rests.{Rests}
use Rattle.definitions.specs.Chain.{Model, Chain, model_of, chain_of}
use Rattle.definitions.specs.Rules.{Answer, accepted, refused, outside, file_rows, file_judgement}
use Rattle.definitions.specs.Vectors.{row_mean, reward_share, mix, next_entry, U}
use Rattle.definitions.specs.Moment.{model_level}
use Rattle.definitions.specs.Remainders.{rests_in, rests_at, any_outside, rests_of, remainders_of, StepDivides, Worked, WorkedOut}
use Rattle.laws.specs.RuleLaws.{also_refused, also_accepted}
use Rattle.laws.specs.RowLaws.{in_range}
use Rattle.laws.specs.Acceptance.{AcceptedModel, accepted_model}
use Rattle.laws.specs.ChainLaws.{SameChain}
use Rattle.laws.specs.VectorLaws.{U_next, row_total_same, U_same}

-- U(n,r) is the next entry of U(n−1,r) and U(n,r−1)
U_entry : (ch : Chain) (n r i : ℕ) → 1 ≤ n → 1 ≤ r → U ch n r i ≡ next_entry ch n r (U ch (n - 1) r) (U ch n (r - 1)) i
U_entry ch zero r i hn hr = absurd (omega arith)
U_entry ch (suc n) zero i hn hr = absurd (omega arith)
U_entry ch (suc n) (suc r) i hn hr = grind (arith, U_next)

-- a step's divisions: quotient × divisor + remainder is the dividend, the remainder is below the divisor, and the quotients are V, W and the next entry
pub step_divides : (ch : Chain) (n r : ℕ) (before same : ℕ → ℕ) (i : ℕ) → 0 < ch.rate → 0 < ch.largest_reward → 0 < n + r → StepDivides ch n r before same i (next_entry ch n r before same i) (rests_in ch n r before same i)
unfolding next_entry row_mean reward_share mix
step_divides ch n r before same i rate_pos reward_pos some = omega arith

-- those of U(n,r)
pub worked : (ch : Chain) (n r i : ℕ) → 0 < ch.rate → 0 < ch.largest_reward → 1 ≤ n → 1 ≤ r → Worked ch n r i (rests_at ch n r i)
unfolding rests_at
worked ch n r i rate_pos reward_pos hn hr = rw (U_entry ch n r i hn hr) (step_divides ch n r (U ch (n - 1) r) (U ch n (r - 1)) i rate_pos reward_pos (omega arith))

-- remainders that are the same one by one
pub same_rests : (x y : Rests) → x.mean ≡ y.mean → x.share ≡ y.share → x.mix ≡ y.mix → x ≡ y
same_rests x y p q r = λ k. record { mean = p k; share = q k; mix = r k }

-- chains that agree at their states leave the same
pub rests_same : (a b : Chain) → SameChain a b → (n r i : ℕ) → i < a.states → rests_at a n r i ≡ rests_at b n r i
unfolding rests_at row_mean reward_share
rests_same a b e n r i l = grind (arith, row_total_same, U_same)

-- outside their limits state, n and r have none
pub rests_none : (m : Model) (state n r : ℕ) → any_outside m state n r ≡ true → rests_of m state n r ≡ None
unfolding rests_of
rests_none m state n r h = rw h

-- within them they have those of U(n,r)
pub rests_given : (m : Model) (state n r : ℕ) → any_outside m state n r ≡ false → rests_of m state n r ≡ Some (rests_at (chain_of m) n r (state - 1))
unfolding rests_of
rests_given m state n r h = rw h

-- the file's refusal comes before all else
pub remainders_refused : (s : List ℕ) (state n r k : ℕ) → file_judgement 1 2 s ≡ refused k → remainders_of s state n r ≡ refused k
unfolding remainders_of file_judgement
remainders_refused s state n r k e = also_refused (file_rows 1 2 s) (tt {0}) (rests_of (model_of s) state n r) k e

pub remainders_accepted : (s : List ℕ) (state n r : ℕ) → file_judgement 1 2 s ≡ accepted tt → remainders_of s state n r ≡ accepted (rests_of (model_of s) state n r)
unfolding remainders_of file_judgement
remainders_accepted s state n r e = also_accepted (file_rows 1 2 s) (tt {0}) tt (rests_of (model_of s) state n r) e

-- state, n and r of remainders that are given are within their limits
pub record Inside (m : Model) (state n r : ℕ) : Type 0 where
  pub state_min : 1 ≤ state
  pub state_max : state ≤ m.states
  pub jumps_min : 1 ≤ n
  pub jumps_max : n ≤ model_level m
  pub moment_min : 1 ≤ r
  pub moment_max : r ≤ m.highest

pub inside : (m : Model) (state n r : ℕ) → any_outside m state n r ≡ false → Inside m state n r
inside m state n r h =
    let two = or_parts (outside 1 m.states state || outside 1 (model_level m) n) (outside 1 m.highest r) h in
    let one = or_parts (outside 1 m.states state) (outside 1 (model_level m) n) two.0 in
    let states = in_range 1 m.states state one.0 in
    let jumps = in_range 1 (model_level m) n one.1 in
    let moments = in_range 1 m.highest r two.1 in
    record {
      state_min = states.0;
      state_max = states.1;
      jumps_min = jumps.0;
      jumps_max = jumps.1;
      moment_min = moments.0;
      moment_max = moments.1;
    }

-- remainders that are given are those of the file's own divisions
pub worked_out : (s : List ℕ) (state n r : ℕ) → WorkedOut (remainders_of s state n r) s state n r
worked_out s state n r = from (file_judgement 1 2 s) refl
  where
    m : Model
    m = model_of s

    within : AcceptedModel 1 2 s → (b : Bool) → any_outside m state n r ≡ b → WorkedOut (accepted (rests_of m state n r)) s state n r
    within model true h = rw (rests_none m state n r h) tt
    within model false h =
        let i = inside m state n r h in
        rw (rests_given m state n r h) (worked (chain_of m) n r (state - 1) model.limits.rate_min model.limits.rewards_pos i.jumps_min i.moment_min)

    from : (a : Answer (Unit {0})) → file_judgement 1 2 s ≡ a → WorkedOut (remainders_of s state n r) s state n r
    from (accepted tt) e = rw (remainders_accepted s state n r e) (within (accepted_model 1 2 s e) (any_outside m state n r) refl)
    from (refused k) e = rw (remainders_refused s state n r k e) tt
