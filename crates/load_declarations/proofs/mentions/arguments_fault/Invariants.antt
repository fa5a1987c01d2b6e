use Rattle.std.proofs.Common.{◌≡◌, take}
use Rattle.std.specs.Prelude.{flat_map}
use Rattle.il_statics.specs.Declarations.{argument_name_numbers}
use Rattle.load_declarations.specs.Places.{lowest_at}
use Rattle.load_declarations.proofs.mentions.arguments_fault.Given as goal

abbrev pub invariant-loop-argument : goal.invariant-loop-argument
invariant-loop-argument l = l.found ≡ lowest_at (flat_map (argument_name_numbers l.here.config l.here.unit) (take l.argument-index l.arguments)) l.place
