-- A row's places add up in S-7's order, and the entries of a step are the quotients of its divisions. Assumes nothing.
use Rattle.std.specs.Prelude.{List, [], ◌≡◌, ℕ, ◌*◌, ◌%◌, ◌<◌, get_or}
use Rattle.std.proofs.Common.{sym, ◌∙◌, ap, subst, arith}
use Rattle.definitions.specs.declared.Sizes.{Sizes}
use Rattle.definitions.specs.Division.{Divides}
use Rattle.definitions.specs.Sums.{sum}
use Rattle.definitions.specs.Chain.{Model, Listing, listed, arrays, c, padded}
use Rattle.definitions.specs.Vectors.{reward_share, next_entry}
use Rattle.definitions.specs.Arrows.{add_up, added_states}
use Rattle.definitions.specs.Remainders.{rests_in, StepDivides}
use Rattle.laws.specs.Rounding.{divides}
use Rattle.laws.specs.ChainLaws.{get_d_padded}
use Rattle.laws.specs.ArrowLaws.{HoldsRows, row_in_order}
use Rattle.laws.specs.ArrayLaws.{entry_of}
use Rattle.laws.specs.RemainderLaws.{step_divides}
use Rattle.vectors.specs.Ready.{product_at, RewardsReady, Ready, StepReady}
use Rattle.vectors.specs.Divisions.{StepDrops, SharesDrop}

-- place by place, row i adds the states of the model's row, highest first
pub row_added : {M : ℕ} (m : Model) (a : Listing) (v : List ℕ) (i : ℕ) → HoldsRows m a → m.states ≡ M → i < M → sum (get_or a.counts i 0) (product_at M a v i) ≡ add_up 0 (added_states m i) (λ j. c m i j * entry_of v j)
row_added m a v i rows e l =
    subst (λ (M : ℕ). sum (get_or a.counts i 0) (product_at M a v i) ≡ add_up 0 (added_states m i) (λ j. c m i j * entry_of v j)) e
    (row_in_order m a rows (λ j x. x * entry_of v j) i (omega (arith, e)))

pub step_drops : {z : Sizes} {a : Listing} {f : List ℕ} {n r : ℕ} {before same u : List ℕ} → Ready z a f → StepReady z.states n r before same → u ≡ padded z.states (next_entry (arrays z a f) n r (entry_of before) (entry_of same)) → StepDrops (arrays z a f) n r before same u
step_drops {z} {a} {f} {n} {r} {before} {same} ready given e i l =
    subst (λ (x : ℕ). StepDivides (arrays z a f) n r (entry_of before) (entry_of same) i x (rests_in (arrays z a f) n r (entry_of before) (entry_of same) i))
    (sym (ap (λ (u : List ℕ). get_or u i 0) e ∙ get_d_padded z.states (next_entry (arrays z a f) n r (entry_of before) (entry_of same)) i ready.rewards.states_max l))
    (step_divides (arrays z a f) n r (entry_of before) (entry_of same) i ready.rate_pos ready.rewards.largest_pos given.indices.some)

pub shares_drop : {z : Sizes} {f u : List ℕ} (same : List ℕ) → RewardsReady z f → u ≡ padded z.states (λ i. reward_share (arrays z (listed [] [] []) f) (get_or same i 0) i) → SharesDrop z f same u
unfolding reward_share
shares_drop {z} {f} same given e i l =
    subst (λ (x : ℕ). Divides (get_or f i 0 * get_or same i 0) z.largest x (get_or f i 0 * get_or same i 0 % z.largest))
    (sym (ap (λ (u : List ℕ). get_or u i 0) e ∙ get_d_padded z.states _ i given.states_max l))
    (divides (get_or f i 0 * get_or same i 0) z.largest given.largest_pos)
