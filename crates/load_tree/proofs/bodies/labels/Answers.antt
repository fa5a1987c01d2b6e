use Rattle.std.proofs.Common.{arith}
use Rattle.il_syntax.specs.Grammar.{TheLineEnd}
use Rattle.load_lines.proofs.Chain.{was_there, was_missing}
use Rattle.load_tree.proofs.Labels.{none_behind, one_behind, alone_behind, beside}
use Rattle.load_tree.proofs.bodies.labels.Goals as goal

pub labels-init : goal.labels-init
labels-init c = (omega arith, rw c.new-labels.ensures (none_behind c.args.source.now _))

pub returns-then-not-alone-clause-labels : goal.returns-then-not-alone-clause-labels
returns-then-not-alone-clause-labels c =
    let label = rw c.in-Some.is at c.in_ok-label.ensures.takes in
    let none = was_missing TheLineEnd c.label.new.tokens _ c.eat_line_end-alone.new.tokens c.eat_line_end-alone.ensures.eaten c.if-not-alone.true in
    rw (c.in_ok-push.ensures.ok, c.skip_lines.ensures.rest, none.0) (beside c.args.source.now _ _ _ _ _ label none.1 c.labels.invariant.1)

pub labels-preserved : goal.labels-preserved
labels-preserved c =
    let label = rw c.in-Some.is at c.in_ok-label.ensures.takes in
    let line = was_there TheLineEnd c.label.new.tokens _ c.eat_line_end-alone.new.tokens c.eat_line_end-alone.ensures.eaten c.if-not-alone.false in (
      omega (arith, c.labels.invariant.0, c.in_ok-label.ensures.shorter, c.eat_line_end-alone.ensures.shorter, c.skip_lines.ensures.shorter),
      rw (c.in_ok-push.ensures.ok, c.skip_lines.ensures.rest) (one_behind c.args.source.now _ _ _ _ _ _ label line c.labels.invariant.1),
    )

pub returns-clause-labels : goal.returns-clause-labels
returns-clause-labels c =
    let none = rw c.in_default.is at c.in_ok-label.ensures.takes in
    rw none.0 (alone_behind c.args.source.now _ _ _ none.1 c.labels.invariant.1)
