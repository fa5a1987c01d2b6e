use Rattle.std.proofs.Common.{length}
use Rattle.il_syntax.specs.declared.keyword.Keyword.TheVariants as word
use Rattle.il_syntax.specs.Grammar.{TheWord, SpellsDeclaration}
use Rattle.load_lines.proofs.Chain.{HasRead}
use Rattle.load_lines.proofs.source.Source.declarations.Given as goal

abbrev pub invariant-declarations : goal.invariant-declarations
invariant-declarations l = HasRead SpellsDeclaration (λ text. TheWord text word.EndVar) l.self l.fn.tokens l.declarations l.tokens

abbrev pub decreases-declarations : goal.decreases-declarations
decreases-declarations l = length l.tokens
