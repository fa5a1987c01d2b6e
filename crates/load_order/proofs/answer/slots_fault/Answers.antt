use Rattle.std.proofs.Common.{ap, length, ◌∙◌}
use Rattle.load_order.specs.Counted.{all_listed}
use Rattle.load_order.proofs.Breaking.{slots_least}
use Rattle.load_order.proofs.answer.slots_fault.Goals as goal

pub returns : goal.returns
returns c =
    slots_least c.args.names.now c.args.reached.now (length c.as_slice.result.now) c.with_variables.result c.in_ok-units.units c.in_ok-declared.declared c.in_ok-counted.counted c.in_ok-all.all c.lines_fault.result c.globals_fault-globals.result c.earlier.result
    c.requires (ap length (c.as_slice.ensures ∙ ap (λ k. k.units) c.config.ensures)) c.in_ok-units.ensures (c.in_ok-declared.ensures ∙ ap (all_listed c.args.names.now) (c.as_slice-2.ensures ∙ ap (λ k. k.globals) c.config-2.ensures)) c.in_ok-counted.ensures c.in_ok-all.ensures c.with_variables.ensures c.lines_fault.ensures c.globals_fault-globals.ensures c.earlier.ensures
