use Rattle.std.proofs.Common.{◌≡◌, drop}
use Rattle.load_work.specs.Sizes.{with_names}
use Rattle.load_work.proofs.sizes.with_names.Given as goal

-- the names that are left complete the sum
abbrev pub invariant-names : goal.invariant-names
invariant-names l = with_names l.all l.size (drop l._name-index l.names) ≡ with_names l.total l.size l.names
