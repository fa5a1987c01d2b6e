use Rattle.std.proofs.Common.{◌≡◌, length}
use Rattle.show_names.specs.Names.{names_left}
use Rattle.show_names.proofs.names.DeclaredNamesIterator.next.Given as goal

-- only declarations without a name were passed over
abbrev pub invariant-declarations : goal.invariant-declarations
invariant-declarations l = names_left l.self ≡ names_left l.fn.self

abbrev pub decreases-declarations : goal.decreases-declarations
decreases-declarations l = length l.self.declarations.now
