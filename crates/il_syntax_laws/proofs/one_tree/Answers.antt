-- The tokens from the first that is no line end spell one configuration.
use Rattle.il_syntax.specs.Grammar.{skip_line_ends}
use Rattle.std.proofs.Common.{[]}
use Rattle.il_syntax_laws.proofs.Configurations.{config_one}
use Rattle.il_syntax_laws.proofs.one_tree.Goals as goal

pub returns : goal.returns
returns k = λ text ts c d p q. ((config_one text).only c d (skip_line_ends ts) [] [] p q).0
