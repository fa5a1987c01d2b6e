use Rattle.std.proofs.Common.{None, get_or, sym, ap, ◌∙◌}
use Rattle.std.proofs.lemmas.Option.{slice_get-get_or}
use Rattle.il_statics.specs.Lowest.{lowest}
use Rattle.load_types.proofs.Inputs.{none_yet, one_more, one_past}
use Rattle.load_types.proofs.functions.inputs_fault.Goals as goal
use Rattle.load_types.proofs.functions.inputs_fault.Goals.{then-at-scalars, else-at-scalars}

pub loop-at-init : goal.loop-at-init
loop-at-init g c inputs same = c.none-fault.ensures ∙ ap lowest (sym (none_yet (g.S.Scope.config c.args.scope.now) (g.S.Scope.unit c.args.scope.now) inputs c.args.operands.now))

pub loop-at-preserved : goal.loop-at-preserved
loop-at-preserved g c = elim c.if-at-scalars.branch [
  | then-at-scalars w ↦
      one_more (g.S.Scope.config c.args.scope.now) (g.S.Scope.unit c.args.scope.now) c.args.scalars.now c.args.operands.now c.loop-at.at (get_or c.args.scalars.now c.loop-at.at None) w.elementary-wanted.result (get_or c.args.operands.now c.loop-at.at w.index-operands-at.result) c.loop-at.fault w.maybe_wanted_fault.result c.if-at-scalars.fault
      (slice_get-get_or c.args.scalars.now c.loop-at.at None w.if-at-scalars.true) (slice_get-get_or c.args.operands.now c.loop-at.at w.index-operands-at.result c.loop-at-test.true) w.elementary-wanted.ensures w.maybe_wanted_fault.ensures (w.fault-is ∙ w.lower-fault.ensures) c.loop-at.invariant
  | else-at-scalars w ↦
      one_past (g.S.Scope.config c.args.scope.now) (g.S.Scope.unit c.args.scope.now) c.args.scalars.now c.args.operands.now c.loop-at.at c.if-at-scalars.fault w.if-at-scalars.false (λ inputs same. w.fault-is ∙ c.loop-at.invariant inputs same)
]
