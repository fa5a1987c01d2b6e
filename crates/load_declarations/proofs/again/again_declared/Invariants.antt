use Rattle.std.proofs.Common.{take}
use Rattle.std.specs.Prelude.{flat_map}
use Rattle.il_syntax.specs.declared.tree.Declaration.{Declaration}
use Rattle.il_syntax.specs.declared.tree.Named.{Named}
use Rattle.load_declarations.proofs.Againness.{IsSoFar}
use Rattle.load_declarations.proofs.again.again_declared.Given as goal

abbrev pub invariant-loop-declaration : goal.invariant-loop-declaration
invariant-loop-declaration l = IsSoFar (λ (n : Named). n.name) (λ n. n.place) 20 l.fn.seen l.found l.seen (flat_map (λ (x : Declaration). x.names) (take l.declaration-index l.declarations))
