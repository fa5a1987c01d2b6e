-- A text is cut into tokens in one way, and these spell one configuration.
use Rattle.std.proofs.Common.{[], subst}
use Rattle.il_syntax.specs.Grammar.{AfterLines, SpellsConfig, skip_line_ends}
use Rattle.load_tokens.proofs.Cut.{cut}
use Rattle.il_syntax_laws.proofs.Configurations.{config_one}
use Rattle.il_syntax_laws.proofs.one_configuration.Goals as goal

pub returns : goal.returns
returns k = λ text c d p q.
    ((config_one text).only c d (skip_line_ends p.0) [] [] p.2 (subst (λ ts. AfterLines (SpellsConfig text d) ts []) (cut text q.0 p.0 q.1 p.1) q.2)).0
