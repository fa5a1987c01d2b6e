use Rattle.std.proofs.Common.{take}
use Rattle.il_syntax.specs.declared.tree.Named.{Named}
use Rattle.load_declarations.proofs.Againness.{IsSoFar}
use Rattle.load_declarations.proofs.again.again_named.Given as goal

abbrev pub invariant-loop-name : goal.invariant-loop-name
invariant-loop-name l = IsSoFar (λ (n : Named). n.name) (λ n. n.place) 20 l.fn.seen l.found l.seen (take l.name-index l.named)
