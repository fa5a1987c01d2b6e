use Rattle.std.proofs.Common.{option_and_then}
use Rattle.il_statics.specs.Names.{entry_of}
use Rattle.load_scope.specs.Views.{type_of, variables_of_block}
use Rattle.load_declarations.proofs.MentionLaws.{there_changed}
use Rattle.load_declarations.proofs.mentions.has_input.Goals as goal

pub returns : goal.returns
returns c = there_changed (type_of c.args.names.now) (option_and_then (λ b. entry_of b.inputs c.args.word.now) (variables_of_block c.args.names.now c.args.block)) c.block_input.result c.is_some.result c.is_some.ensures c.block_input.ensures
