-- The file's bytes lie in the buffer that they were written to.
use Rattle.std.proofs.Common.{refl, sym, length-take-le}
use Rattle.laws.specs.DealingLaws.{count_inside}
use Rattle.dealer.proofs.answer.Goals as goal

pub slice_bounds-file-end : goal.slice_bounds-file-end
slice_bounds-file-end c = count_inside c.in-Ok.length c.in-Ok.ensures refl

pub slice_bounds-write_file-end : goal.slice_bounds-write_file-end
slice_bounds-write_file-end c = sym (length-take-le _ _ (count_inside c.in-Ok.length c.in-Ok.ensures refl))
