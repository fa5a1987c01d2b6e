use Rattle.std.proofs.Common.{length}
use Rattle.il_syntax.specs.declared.keyword.Keyword.TheVariants as word
use Rattle.il_syntax.specs.Grammar.{No, TheWord, SpellsTask}
use Rattle.load_lines.proofs.Chain.{HasRead}
use Rattle.load_tree.proofs.configuration.tasks.Given as goal

abbrev pub invariant-tasks : goal.invariant-tasks
invariant-tasks l = HasRead SpellsTask (λ text. No (TheWord text word.Task)) l.source l.fn.tokens l.tasks l.tokens

abbrev pub decreases-tasks : goal.decreases-tasks
decreases-tasks l = length l.tokens
