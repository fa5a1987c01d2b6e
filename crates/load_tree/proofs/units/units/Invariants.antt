use Rattle.std.specs.List.{All}
use Rattle.std.proofs.Common.{length, ◌≤◌, ◌-◌}
use Rattle.il_syntax.specs.declared.keyword.Keyword.TheVariants as word
use Rattle.il_syntax.specs.Grammar.{TheWord, SpellsUnit}
use Rattle.il_syntax.specs.declared.tree.Unit.{Unit as ProgramUnit}
use Rattle.il_syntax_laws.proofs.GoesOn.{HasGone}
use Rattle.load_lines.specs.declared.stop.SyntaxError.{SyntaxError}
use Rattle.load_lines.specs.declared.stop.SyntaxError.TheVariants.{Unexpected}
use Rattle.load_lines.proofs.Chain.{HasRead}
use Rattle.load_tree.specs.Units.{SpellsSmallUnit, SpellsUnitBy}
use Rattle.load_tree.proofs.LateBodies.{HasCut}
use Rattle.load_tree.proofs.units.units.Given as goal

abbrev pub invariant-units : goal.invariant-units
invariant-units l =
    (length l.units ≤ 64) × HasRead SpellsSmallUnit (λ text. TheWord text word.Configuration) l.source l.fn.tokens l.units l.tokens
    × ((error : SyntaxError) → HasRead (SpellsUnitBy error) (λ text. TheWord text word.Configuration) l.source l.fn.tokens l.units l.tokens)
    × HasGone SpellsUnit (λ text. TheWord text word.Configuration) l.source l.fn.tokens l.units l.tokens
    × All (λ (u : ProgramUnit). length u.body.steps ≤ 4096) l.units
    × HasCut (SpellsUnitBy Unexpected) (λ text. TheWord text word.Configuration) l.source l.fn.tokens l.units l.tokens

abbrev pub decreases-units : goal.decreases-units
decreases-units l = 64 - length l.units
