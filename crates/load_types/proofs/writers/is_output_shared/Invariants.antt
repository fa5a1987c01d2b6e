use Rattle.std.proofs.Common.{◌≡◌, take, flat_map}
use Rattle.std.specs.List.{list_any}
use Rattle.il_statics.specs.Types.{argument_targets}
use Rattle.load_types.specs.Writers.{is_shared}
use Rattle.load_types.proofs.writers.is_output_shared.Given as goal

abbrev pub invariant-loop-argument : goal.invariant-loop-argument
invariant-loop-argument l = l.shared ≡ list_any (is_shared l.scope.unit l.writers) (flat_map argument_targets (take l.argument-index l.arguments))
