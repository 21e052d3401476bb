-- `remainders::Accepted::level` meets its contract. Assumes nothing.
use Prim.Native.Nat.{◌*◌}
use mathlib.Core.Path.{◌≡◌, ◌∙◌, ap, ap₂}
use native.Mathlib.Omega.{arith}
use Rattle.definitions.specs.declared.Sizes.{Sizes}
use Rattle.definitions.specs.File.{tolerance_field}
use Rattle.definitions.specs.Chain.{model_of, jump_millionths}
use Rattle.definitions.specs.Level.{level}
use Rattle.definitions.specs.Moment.{model_level}
use Rattle.remainders.proofs.Accepted.level.Goals as goal
use Rattle.remainders.proofs.Accepted.level.Goals.{After-tolerance}

-- X and the tolerance are the file's
module _ (c : After-tolerance) where
  is : c.file.inside.head ≡ c.args.self.now.file
  is = c.file.view_is

  is_jumps : c.jump_millionths-x.result ≡ jump_millionths (model_of c.args.self.now.file)
  unfolding jump_millionths
  is_jumps = c.jump_millionths-x.ensures ∙ ap₂ ◌*◌ (ap (λ (z : Sizes). z.rate) c.args.self.now.sizes_value) (rw is at c.time.ensures)

  is_tolerance : c.tolerance.result ≡ tolerance_field c.args.self.now.file
  is_tolerance = rw is at c.tolerance.ensures

pub truncate-requires : goal.truncate-requires
truncate-requires c =
    let d = (goal.at.truncate-requires c).After-tolerance in
    let limits = c.args.self.now.accepted.limits in
    omega (arith, is_jumps d, limits.jumps_max, limits.tolerance_pos, limits.tolerance_max, is_tolerance d)

pub returns : goal.returns
unfolding model_level
returns c =
    let d = (goal.at.returns c).After-tolerance in
    c.truncate.ensures.is_level ∙ ap₂ level (is_jumps d) (is_tolerance d)
