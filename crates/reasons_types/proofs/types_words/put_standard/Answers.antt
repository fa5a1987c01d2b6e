use Rattle.std.proofs.Common.{ap, ◌∙◌}
use Rattle.std.proofs.lemmas.Result.{on_ok_weaker}
use Rattle.std.specs.Prelude.{string_bytes}
use Rattle.il_statics.specs.Names.{standard_variables}
use Rattle.reasons_types.proofs.ArgumentTexts.{shown, block_is, standard_inputs_are, standard_outputs_are}
use Rattle.reasons_types.proofs.types_words.put_standard.Goals as goal

pub returns : goal.returns
returns c =
    let words = c.words_of-words.result.now in
    let inputs = ap shown c.as_slice.ensures.value ∙ standard_inputs_are c.args.block words (shown c.in_ok-inputs.inputs.items) c.words_of-words.ensures c.in_ok-inputs.ensures in
    let outputs = ap shown c.as_slice-2.ensures.value ∙ standard_outputs_are c.args.block words (shown c.in_ok-outputs.outputs.items) c.words_of-words.ensures c.in_ok-outputs.ensures in
    on_ok_weaker c.put_outputs.result
    (block_is c.args.instance.now (standard_variables c.args.block) (shown c.as_slice.result.now) (shown c.as_slice-2.result.now) (string_bytes c.args.text.now) (string_bytes c.put_inputs.new.text) (string_bytes c.put_outputs.new.text) inputs outputs c.in_ok-put_inputs.ensures)
    c.put_outputs.ensures
