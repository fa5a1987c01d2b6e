use Rattle.std.proofs.Common.{◌≡◌, take}
use Rattle.load_types.specs.Writers.{noted, declared_stored}
use Rattle.load_types.proofs.writers.note_externals.Given as goal

abbrev pub invariant-loop-declaration : goal.invariant-loop-declaration
invariant-loop-declaration l = l.writers ≡ noted l.lines l.line l.scope.unit l.fn.writers (declared_stored l.scope.unit (take l.declaration-index l.externals))
