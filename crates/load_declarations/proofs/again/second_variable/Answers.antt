use Rattle.base_maps.specs.NameMap.{empty}
use Rattle.load_declarations.proofs.Againness.{four_lists}
use Rattle.load_declarations.proofs.again.second_variable.Goals as goal

pub returns : goal.returns
returns c =
    four_lists c.args.unit.now.inputs c.args.unit.now.outputs c.args.unit.now.variables c.args.unit.now.externals c.as_slice.result.now c.as_slice-2.result.now c.as_slice-3.result.now c.as_slice-4.result.now
    empty c.new-seen.result c.again_declared.new.seen c.again_declared-2.new.seen c.again_declared-3.new.seen c.in_ok-inputs.inputs c.in_ok-outputs.outputs c.in_ok-variables.variables c.in_ok-externals.externals c.earlier.result c.earlier-2.result c.earlier-3.result
    c.as_slice.ensures c.as_slice-2.ensures c.as_slice-3.ensures c.as_slice-4.ensures c.new-seen.ensures c.in_ok-inputs.ensures.found c.in_ok-inputs.ensures.seen c.in_ok-outputs.ensures.found c.in_ok-outputs.ensures.seen c.in_ok-variables.ensures.found c.in_ok-variables.ensures.seen c.in_ok-externals.ensures.found
    c.earlier.ensures c.earlier-2.ensures c.earlier-3.ensures
