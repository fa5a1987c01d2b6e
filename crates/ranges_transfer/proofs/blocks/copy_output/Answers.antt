use Rattle.std.proofs.Common.{sym, ◌∙◌}
use Rattle.ranges_transfer.specs.Scopes.{named}
use Rattle.ranges_transfer.proofs.Outputs.{output_is, no_output}
use Rattle.ranges_transfer.proofs.blocks.copy_output.Goals as goal

pub returns-in-Some : goal.returns-in-Some
returns-in-Some g c = λ form is.
    output_is (g.S.Scope.names c.args.scope.now) c.args.target.now c.in-Some.scalar c.variable.result c.known_of.result c.args.row.now c.store_in.new.row c.variable.ensures c.known_of.ensures c.store_in.ensures form (sym c.in-Some.is ∙ is)

pub returns-in_default : goal.returns-in_default
returns-in_default g c = λ form is. let n = g.S.Scope.names c.args.scope.now in no_output n (named n c.args.target.now) c.args.row.now form (sym c.in_default.is ∙ is)
