use Rattle.std.proofs.Common.{◌≡◌, drop}
use Rattle.load_work.specs.Sizes.{with_declared}
use Rattle.load_work.proofs.sizes.with_declared.Given as goal

-- the declarations that are left complete the sum
abbrev pub invariant-declarations : goal.invariant-declarations
invariant-declarations l = with_declared l.all (drop l.declaration-index l.declarations) ≡ with_declared l.total l.declarations
