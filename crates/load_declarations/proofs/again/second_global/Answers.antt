use Rattle.std.proofs.Common.{subst}
use Rattle.std.specs.Prelude.{IfOk}
use Rattle.il_statics.specs.Declarations.{names_in}
use Rattle.il_statics.specs.Least.{IsLeast}
use Rattle.load_declarations.specs.Again.{NamedAgain}
use Rattle.load_declarations.proofs.again.second_global.Goals as goal

pub returns : goal.returns
returns c = subst (λ m. IfOk c.again_declared.result (λ found. IsLeast found (NamedAgain m (names_in c.args.globals.now)))) c.new-seen.ensures c.again_declared.ensures.found
