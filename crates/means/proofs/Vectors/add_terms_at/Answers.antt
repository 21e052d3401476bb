-- The terms of one state are added cell by cell: from cell r on the sums stand as they were.
use Rattle.std.proofs.Common.{◌≡◌, sym, ◌∙◌, ap, ap₂, List, [], ℕ, ◌+◌, get_or, arith}
use Rattle.laws.specs.ListLaws.{over_none, over_store, get_d_over_past}
use Rattle.laws.specs.MomentLaws.{term_max}
use Rattle.means.proofs.Vectors.add_terms_at.Goals as goal
use Rattle.means.proofs.Vectors.add_terms_at.Goals.{In-loop-r, After-term}

pub loop-r-init : goal.loop-r-init
loop-r-init c = sym (over_none _ c.args.cells.now)

-- cell r still holds its sum
standing : (c : In-loop-r) → get_or c.loop-r.cells c.loop-r.r 0 ≡ get_or c.args.cells.now c.loop-r.r 0
standing c = ap (λ (l : List ℕ). get_or l c.loop-r.r 0) c.loop-r.invariant ∙ get_d_over_past 0 c.loop-r.r _ c.args.cells.now c.loop-r.r (omega arith)

pub overflow_add-cell : goal.overflow_add-cell
overflow_add-cell c =
    let u = get_or (get_or c.args.self.now.table.now (c.loop-r.r + 1) []) c.args.i 0 in
    let given = c.requires in
    omega
    (arith, standing (goal.at.overflow_add-cell c).In-loop-r, given.room c.loop-r.r (omega arith), c.term.ensures.0, term_max c.args.w u (given.ticks_max c.loop-r.r (omega arith)), given.weight_max)

pub loop-r-preserved : goal.loop-r-preserved
loop-r-preserved c =
    over_store c.loop-r.r _ c.args.cells.now _ _ (omega arith) c.loop-r.invariant (ap₂ ◌+◌ (standing (goal.at.loop-r-preserved c).In-loop-r) c.term.ensures.0)
