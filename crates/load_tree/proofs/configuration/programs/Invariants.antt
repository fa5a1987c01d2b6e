use Rattle.std.proofs.Common.{length}
use Rattle.il_syntax.specs.declared.keyword.Keyword.TheVariants as word
use Rattle.il_syntax.specs.Grammar.{No, TheWord, SpellsProgramLine}
use Rattle.load_lines.proofs.Chain.{HasRead}
use Rattle.load_tree.proofs.configuration.programs.Given as goal

abbrev pub invariant-programs : goal.invariant-programs
invariant-programs l = HasRead SpellsProgramLine (λ text. No (TheWord text word.Program)) l.source l.fn.tokens l.programs l.tokens

abbrev pub decreases-programs : goal.decreases-programs
decreases-programs l = length l.tokens
