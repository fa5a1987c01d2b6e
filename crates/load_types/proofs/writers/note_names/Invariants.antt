use Rattle.std.proofs.Common.{◌≡◌, take, flat_map}
use Rattle.load_types.specs.Writers.{noted, if_stored}
use Rattle.load_types.proofs.writers.note_names.Given as goal

abbrev pub invariant-loop-named : goal.invariant-loop-named
invariant-loop-named l = l.writers ≡ noted l.lines l.line l.scope.unit l.fn.writers (flat_map (if_stored l.scope.unit) (take l.named-index l.names))
