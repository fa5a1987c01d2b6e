use Rattle.std.proofs.Common.{sym, ◌∙◌}
use Rattle.load_tree.proofs.Entries.{end_taken, end_out, no_end}
use Rattle.load_tree.proofs.bodies.eat_end.Goals as goal

pub returns-then-not-ends-clause-takes : goal.returns-then-not-ends-clause-takes
returns-then-not-ends-clause-takes c = no_end c.args.source.now c.args.last c.args.alone _ c.args.lead c.requires.last c.requires.lead (sym c.ends.ensures ∙ c.if-not-ends.true)

pub returns-then-not-alone-clause-takes : goal.returns-then-not-alone-clause-takes
returns-then-not-alone-clause-takes c = end_out c.args.source.now c.args.last c.args.alone _ c.if-not-alone.true

pub returns-clause-takes : goal.returns-clause-takes
returns-clause-takes c = end_taken c.args.source.now c.args.last c.args.alone _ _ _ c.if-not-alone.false c.take_placed.ensures.takes
