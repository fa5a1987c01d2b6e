use Rattle.std.proofs.Common.{length}
use Rattle.il_syntax.specs.declared.keyword.Keyword.TheVariants as word
use Rattle.il_syntax.specs.Grammar.{TheWord, SpellsExternal}
use Rattle.load_lines.proofs.Chain.{HasRead}
use Rattle.load_tree.proofs.variables.externals_inside.Given as goal

abbrev pub invariant-externals : goal.invariant-externals
invariant-externals l = HasRead SpellsExternal (λ text. TheWord text word.EndVar) l.source l.fn.tokens l.externals l.tokens

abbrev pub decreases-externals : goal.decreases-externals
decreases-externals l = length l.tokens
