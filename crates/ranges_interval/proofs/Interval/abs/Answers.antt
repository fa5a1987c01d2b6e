use Rattle.std.proofs.Common.{arith}
use Rattle.std.proofs.lemmas.Int.{ints, clamps}
use Rattle.std.specs.Prelude.{pos}
use Rattle.ranges_interval.proofs.Hulls.{low_in, high_in}
use Rattle.ranges_interval.proofs.Interval.abs.Goals as goal

pub returns-else-self-le0-clause-least : goal.returns-else-self-le0-clause-least
returns-else-self-le0-clause-least c = λ s h.
    let low = h c.args.self.lo (low_in c.args.self c.requires.ordered) in
    let high = h c.args.self.hi (high_in c.args.self c.requires.ordered) in
    let none = h (pos 0) (omega (arith, ints), omega (arith, ints)) in (omega (arith, ints), omega (arith, ints, clamps))
