-- `arrows::list_rows` meets its contract: after i turns the first i rows are listed. Assumes nothing.
use Rattle.std.proofs.Common.{◌≡◌, sym, ◌∙◌, ap, subst, List, ℕ, ◌*◌, ◌≤◌, ◌<◌, get_or, arith}
use Rattle.std.proofs.lemmas.List.{length-map}
use Rattle.std.proofs.lemmas.List.Edits.{sets}
use Rattle.definitions.specs.File.{state_count}
use Rattle.definitions.specs.Chain.{Model, model_of, row_sum}
use Rattle.definitions.specs.Arrows.{added_states}
use Rattle.laws.specs.Acceptance.{Framed}
use Rattle.laws.specs.ListLaws.{over_none, over_store}
use Rattle.laws.specs.ChainLaws.{get_d_padded, row_sum_le_rate}
use Rattle.laws.specs.StoredLaws.{none_stored, stored_more}
use Rattle.vectors.specs.declared.Arrow.{Arrow}
use Rattle.vectors.specs.Arrows.{targets_of, rates_of}
use Rattle.arrows.specs.RowLaws.{rows_listed, rows_shown}
use Rattle.arrows.proofs.list_rows.Invariants.{entries, number}
use Rattle.arrows.proofs.list_rows.Goals as goal
use Rattle.arrows.proofs.list_rows.Goals.{After-state_count-i-end, In-loop-i}

pub loop-i-init : goal.loop-i-init
loop-i-init c =
    let m = model_of c.args.file.now in
    record { targets = none_stored (added_states m) m.states _; rates = none_stored (entries m) m.states _; counts = sym (over_none (number m) _) }

-- the file is framed, and M was read
module _ (c : After-state_count-i-end) where
  abbrev m : Model
  m = model_of c.args.file.now

  framed : Framed c.args.file.now
  framed = subst Framed c.file.view_is c.file.invariant

  read : c.state_count-i-end.result ≡ m.states
  read = c.state_count-i-end.ensures ∙ ap state_count c.file.view_is

-- a turn of the loop
module _ (c : In-loop-i) where
  abbrev start : After-state_count-i-end
  start = (goal.at.In-loop-i c).After-state_count-i-end

  abbrev i : ℕ
  i = c.loop-i.i

  state : i < (m start).states
  state = omega (arith, read start)

  -- each row's sum from the array of sums, and that E is no smaller
  sum_at : (k : ℕ) → k < (m start).states → get_or c.args.sums.now k 0 ≡ row_sum (m start) k
  sum_at k l = ap (λ (l : List ℕ). get_or l k 0) c.requires.sums_value ∙ get_d_padded (m start).states (row_sum (m start)) k (framed start).states_max l

  stays : (k : ℕ) → k < (m start).states → get_or c.args.sums.now k 0 ≤ c.args.rate
  stays k l = omega (arith, sum_at k l, c.requires.rate_value.0, row_sum_le_rate (m start) k l)

pub overflow_sub-rate : goal.overflow_sub-rate
overflow_sub-rate c = let turn = (goal.at.overflow_sub-rate c).In-loop-i in stays turn _ (omega (arith, state turn))

pub list_row-requires : goal.list_row-requires
list_row-requires c =
    let turn = (goal.at.list_row-requires c).In-loop-i in
    record {
      state = state turn;
      stays = omega (arith, sum_at turn (i turn) (state turn), c.requires.rate_value.0);
      stays_max = omega (arith, c.requires.rate_value.1);
      room = omega (arith, c.requires.file_in_bounds.0);
    }

pub loop-i-preserved : goal.loop-i-preserved
loop-i-preserved c =
    let m = m (goal.at.loop-i-preserved c).After-state_count-i-end in
    let turn = (goal.at.loop-i-preserved c).In-loop-i in
    record {
      targets = c.list_row.ensures.targets ∙ ap (λ (l : List ℕ). sets l (i turn * m.states) (added_states m (i turn))) c.loop-i.invariant.targets ∙ stored_more (added_states m) m.states _ (i turn);
      rates = c.list_row.ensures.rates ∙ ap (λ (l : List ℕ). sets l (i turn * m.states) (entries m (i turn))) c.loop-i.invariant.rates ∙ stored_more (entries m) m.states _ (i turn);
      counts = over_store (i turn) (number m) _ c.loop-i.counts _ (omega (arith, state turn, c.requires.file_in_bounds.1)) c.loop-i.invariant.counts c.list_row.ensures.count;
    }

pub returns : goal.returns
returns c =
    let begun = (goal.at.returns c).After-state_count-i-end in
    let m = m begun in
    let all : c.loop-i.i ≡ m.states = omega (arith, read begun) in
    let targets = rw all at c.loop-i.invariant.targets in
    let rates = rw all at c.loop-i.invariant.rates in
    let counts = rw all at c.loop-i.invariant.counts in
    let before = c.args.arrows.now in
    let held =
    rows_listed m (targets_of before) (rates_of before) c.args.counts.now _ _ _
    (omega (arith, c.requires.file_in_bounds.0, length-map before (λ (a : Arrow). a.target)))
    (omega (arith, c.requires.file_in_bounds.0, length-map before (λ (a : Arrow). a.rate)))
    targets rates counts in
    record {
      targets = targets;
      rates = rates;
      counts = counts;
      held = held;
      shown = rows_shown m _ held;
    }
