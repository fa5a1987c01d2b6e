use Rattle.std.proofs.Common.{◌≡◌, ◌++◌, map, drop}
use Rattle.load_code.specs.Laying.{base_or}
use Rattle.load_code.proofs.framing.bases_of.Given as goal

abbrev pub invariant-loop-base : goal.invariant-loop-base
invariant-loop-base l = l.all ++ map (base_or l.end) (drop l.base-index l.bases) ≡ map (base_or l.end) l.bases
