use Rattle.std.proofs.Common.{◌∙◌, sym, ap, option_map, option_and_then}
use Rattle.il_statics.specs.Names.{entry_of}
use Rattle.load_scope.specs.Views.{type_of, variables_of_block}
use Rattle.load_scope.proofs.lookup.block_input.Goals as goal

pub returns-in-Standard : goal.returns-in-Standard
returns-in-Standard c = λ config are. c.standard_input_type.ensures config ∙ ap (λ b. option_map (type_of config) (option_and_then (λ v. entry_of v.inputs c.args.word.now) (variables_of_block config b))) (sym c.in-Standard.is)
