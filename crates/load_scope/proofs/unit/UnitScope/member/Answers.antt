use Rattle.std.proofs.Common.{◌∙◌, ap, option_map, option_and_then}
use Rattle.il_statics.specs.Names.{entry_of}
use Rattle.il_statics.specs.Types.{instance_block}
use Rattle.load_scope.specs.Units.{InUnit}
use Rattle.load_scope.specs.Views.{type_of, variables_of_block}
use Rattle.load_scope.proofs.Owned.{member_is}
use Rattle.load_scope.proofs.unit.UnitScope.member.Goals as goal

pub returns : goal.returns
returns c =
    let config = c.args.self.now.config in
    let names = ap (λ (u : InUnit). u.config) c.self.view_is in
    member_is config (type_of config) c.in_ok-block.block (instance_block config c.args.self.now.unit c.args.name.now) c.args.word.now c.or.result c.block_output.result c.block_input.result c.in_ok-block.ensures.is c.or.ensures
    (c.block_output.ensures ∙ ap (λ d. option_map (type_of d) (option_and_then (λ b. entry_of b.outputs c.args.word.now) (variables_of_block d c.in_ok-block.block))) names) (c.block_input.ensures ∙ ap (λ d. option_map (type_of d) (option_and_then (λ b. entry_of b.inputs c.args.word.now) (variables_of_block d c.in_ok-block.block))) names)
