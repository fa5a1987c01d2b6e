use Rattle.std.proofs.Common.{option_map, ap, sym, ◌∙◌}
use Rattle.il_statics.specs.Names.{WordLists, word_form, standard_words}
use Rattle.il_statics.specs.declared.standard.BlockWord.{BlockWord}
use Rattle.load_scope.proofs.Known.{word_is}
use Rattle.load_scope.proofs.blocks.standard_output.Goals as goal

pub returns-in-Some : goal.returns-in-Some
returns-in-Some c =
    sym (ap (λ o. option_map word_form (option_map (λ (w : BlockWord). w.elementary) (option_map (λ w. w.now) o))) c.in-Some.is)
    ∙ ap (λ o. option_map word_form (option_map (λ (w : BlockWord). w.elementary) o)) c.word_among.ensures
    ∙ word_is c.words_of.result.now.outputs.now (standard_words c.args.block).outputs c.args.word.now (ap (λ (l : WordLists). l.outputs) c.words_of.ensures)

pub returns-in-None : goal.returns-in-None
returns-in-None c =
    sym (ap (λ o. option_map word_form (option_map (λ (w : BlockWord). w.elementary) (option_map (λ w. w.now) o))) c.in-None.is)
    ∙ ap (λ o. option_map word_form (option_map (λ (w : BlockWord). w.elementary) o)) c.word_among.ensures
    ∙ word_is c.words_of.result.now.outputs.now (standard_words c.args.block).outputs c.args.word.now (ap (λ (l : WordLists). l.outputs) c.words_of.ensures)
