-- Range operations are monotone.
use Rattle.ranges_interval.proofs.Growth.{add_grows, sub_grows, mul_grows, div_grows, mod_grows, abs_grows, min_grows, max_grows, limit_grows, join_grows}
use Rattle.ranges_interval.proofs.Outcomes.{narrow_grows}
use Rattle.ranges_interval.proofs.ranges_grow.Goals as goal

pub returns : goal.returns
returns c = record { add = add_grows; sub = sub_grows; mul = mul_grows; div = div_grows; mod_ = mod_grows; abs = abs_grows; min = min_grows; max = max_grows; limit = limit_grows; join = join_grows; narrow = narrow_grows }
