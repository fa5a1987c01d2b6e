use Rattle.std.proofs.Common.{rules}
use Rattle.std.specs.Int.{int_min, int_max}
use Rattle.ranges_interval.proofs.Hulls.{same_ends}
use Rattle.ranges_interval.proofs.Numbers.{read_pairs}
use Rattle.ranges_interval.proofs.span.Goals as goal

pub returns : goal.returns
returns c =
    same_ends _ _ _ _
    (read_pairs int_min c.args.a c.args.b c.args.c c.args.d c.min.result c.min-2.result c.min-3.result c.ranges.a c.ranges.b c.ranges.c c.ranges.d (search rules) (search rules) (search rules) c.min.ensures.value c.min-2.ensures.value c.min-3.ensures.value)
    (read_pairs int_max c.args.a c.args.b c.args.c c.args.d c.max.result c.max-2.result c.max-3.result c.ranges.a c.ranges.b c.ranges.c c.ranges.d (search rules) (search rules) (search rules) c.max.ensures.value c.max-2.ensures.value c.max-3.ensures.value)
