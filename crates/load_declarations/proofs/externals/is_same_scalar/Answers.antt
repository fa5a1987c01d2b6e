use Rattle.std.proofs.Common.{arith}
use Rattle.std.proofs.lemmas.Grind.{common_steps}
use Rattle.load_declarations.proofs.externals.is_same_scalar.Goals as goal

pub returns-clause-yes : goal.returns-clause-yes
returns-clause-yes c = λ e. grind (arith, common_steps)

pub returns-clause-no : goal.returns-clause-no
returns-clause-no c = λ e. grind (arith, common_steps)
