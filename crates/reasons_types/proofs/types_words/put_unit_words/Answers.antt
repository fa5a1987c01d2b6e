use Rattle.std.proofs.Common.{List, ap, ◌∙◌}
use Rattle.std.proofs.lemmas.Result.{on_ok_weaker}
use Rattle.std.specs.Prelude.{string_bytes}
use Rattle.il_syntax.specs.declared.tree.Declaration.{Declaration}
use Rattle.il_statics.specs.Names.{named_forms, own_block_variables}
use Rattle.reasons_types.specs.ArgumentReasons.{words_of}
use Rattle.reasons_types.proofs.ArgumentTexts.{shown, block_is}
use Rattle.reasons_types.proofs.types_words.put_unit_words.Goals as goal

pub returns : goal.returns
returns c =
    let inputs = ap shown c.as_slice-3.ensures.value ∙ c.in_ok-inputs.ensures ∙ ap (λ (ds : List Declaration). words_of (named_forms ds)) c.as_slice.ensures in
    let outputs = ap shown c.as_slice-4.ensures.value ∙ c.in_ok-outputs.ensures ∙ ap (λ (ds : List Declaration). words_of (named_forms ds)) c.as_slice-2.ensures in
    on_ok_weaker c.put_outputs.result
    (block_is c.args.instance.now (own_block_variables c.args.unit.now) (shown c.as_slice-3.result.now) (shown c.as_slice-4.result.now) (string_bytes c.args.text.now) (string_bytes c.put_inputs.new.text) (string_bytes c.put_outputs.new.text) inputs outputs c.in_ok-put_inputs.ensures)
    c.put_outputs.ensures
