-- The sheet of a refusal's number, or of a run with the file's states, moments and block.
use Rattle.std.proofs.Common.{sym, subst, arith, length, length-take-le}
use Rattle.definitions.specs.Sheet.{lent_cells}
use Rattle.laws.specs.Acceptance.{AcceptedFile, accepted_file}
use Rattle.laws.specs.MomentLaws.{run_judged}
use Rattle.report.specs.ReportLaws.{solved_sheet, refused_sheet, accepted_shape}
use Rattle.report.proofs.report_file.Goals as goal
use Rattle.report.proofs.report_file.Goals.{After-block_size, In-Ok}

-- a run is answered of an accepted file
known : (c : In-Ok) → AcceptedFile c.args.file.now lent_cells
known c = let s = c.args.file.now in accepted_file s lent_cells (run_judged s lent_cells c.in-Ok.run' (sym c.in-Ok.ensures.outcome))

-- the cells are as many as before
room : (c : After-block_size) → AcceptedFile c.args.file.now (length c.calculate.new.cells)
room c = subst (AcceptedFile c.args.file.now) (sym c.calculate.auto.cells) (known (goal.at.After-block_size c).In-Ok)

pub invariant_of-model : goal.invariant_of-model
invariant_of-model c = omega (arith, (known c).model.framed.size)

pub invariant_of-model-in-Ok : goal.invariant_of-model-in-Ok
invariant_of-model-in-Ok c = (known (goal.at.invariant_of-model-in-Ok c).In-Ok).model.framed

pub block_size-requires : goal.block_size-requires
block_size-requires c = (known (goal.at.block_size-requires c).In-Ok).model.limits.highest_max

pub slice_bounds-cells-end : goal.slice_bounds-cells-end
slice_bounds-cells-end c = omega (arith, (room c).room)

pub slice_bounds-solved-end : goal.slice_bounds-solved-end
slice_bounds-solved-end c = sym (length-take-le _ _ (omega (arith, (room (goal.at.slice_bounds-solved-end c).After-block_size).room)))

pub invariant_of-solved : goal.invariant_of-solved
invariant_of-solved c = record {
  shape = (accepted_shape c.args.file.now _ _ _ _ (room (goal.at.invariant_of-solved c).After-block_size) c.state_count.ensures c.highest_moment.ensures c.block_size.ensures.value).0;
}

pub returns-in-Err : goal.returns-in-Err
returns-in-Err c =
    refused_sheet c.args.file.now _ c.write_sheet.ensures c.row.ensures c.in-Err.ensures.outcome

pub returns-in-Ok : goal.returns-in-Ok
returns-in-Ok c =
    let s = c.args.file.now in
    solved_sheet s c.in-Ok.run' c.in-Ok.ensures.outcome c.state_count.ensures c.highest_moment.ensures c.block_size.ensures.value (omega (arith, (room (goal.at.returns-in-Ok c).After-block_size).room)) c.in-Ok.ensures.cells c.write_sheet-in-Ok.ensures
