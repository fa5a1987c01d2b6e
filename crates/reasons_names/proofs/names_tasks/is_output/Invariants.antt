use Rattle.std.proofs.Common.{◌≡◌, drop, flat_map}
use Rattle.il_statics.specs.Names.{is_one_of}
use Rattle.il_statics.specs.Types.{argument_targets}
use Rattle.reasons_names.proofs.names_tasks.is_output.Given as goal

abbrev pub invariant-arguments : goal.invariant-arguments
invariant-arguments l = is_one_of (flat_map argument_targets (drop l.argument-index l.arguments)) l.name ≡ is_one_of (flat_map argument_targets l.arguments) l.name
