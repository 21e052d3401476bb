-- Past the level the sums stay, and where the weight is 0; else the terms are added.
use Rattle.std.proofs.Common.{◌∙◌, ℕ, arith}
use Rattle.means.specs.Running.{in_table}
use Rattle.means.specs.RunningLaws.{terms_up_to, terms_past, terms_of_none}
use Rattle.means.proofs.Vectors.add_up_to_level.Goals as goal
use Rattle.means.proofs.Vectors.add_up_to_level.Goals.{Start}

-- the vectors in the cells' order
abbrev entries : Start → ℕ → ℕ
entries c e = in_table c.args.self.now.table.now c.args.self.now.sizes.highest e

pub returns-then-self-level : goal.returns-then-self-level
returns-then-self-level c = terms_past c.args.cells.now c.args.row.now _ _ _ (entries (goal.at.returns-then-self-level c).Start) (omega arith) c.requires.2

-- the weight is 0
pub returns-then-w-eq0 : goal.returns-then-w-eq0
returns-then-w-eq0 c = terms_of_none c.args.cells.now c.args.row.now _ _ _ (entries (goal.at.returns-then-w-eq0 c).Start) c.if-w-eq0.true c.requires.2

pub returns : goal.returns
returns c = c.add_terms.ensures ∙ terms_up_to c.args.cells.now c.args.row.now _ _ _ (entries (goal.at.returns c).Start) (omega arith)
