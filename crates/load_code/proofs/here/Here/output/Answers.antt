use Rattle.std.proofs.Common.{◌∙◌, ap, ap₂}
use Rattle.std.specs.Prelude.{option_map, option_and_then}
use Rattle.il_syntax.specs.declared.tree.Config.{Config}
use Rattle.il_statics.specs.Names.{entry_of}
use Rattle.load_scope.specs.Views.{type_of, variables_of_block}
use Rattle.load_code.specs.Resolving.{known_by}
use Rattle.load_code.proofs.here.Here.output.Goals as goal

pub returns : goal.returns
returns c =
    c.known_by.ensures
    ∙ ap₂ known_by (c.block_output-declared.ensures ∙ ap (λ (x : Config). option_map (type_of x) (option_and_then (λ v. entry_of v.outputs c.args.word.now) (variables_of_block x c.args.block))) c.names.ensures) c.word_offset.ensures
