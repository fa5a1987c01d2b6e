-- The lines of arguments, one more at a time, and the words of blocks.
use Rattle.std.proofs.Common.{◌≡◌, ℕ, ◌+◌, List, [], ◌∷◌, ◌++◌, map, take, Option, Some, refl, sym, ap, ◌∙◌, slice_get, append_assoc, Bor}
use Rattle.std.proofs.lemmas.List.{append-nil}
use Rattle.std.proofs.lemmas.Grind.{flat_map-append}
use Rattle.il_syntax.specs.declared.tree.Argument.{Argument}
use Rattle.il_syntax.specs.declared.tree.Declaration.{Declaration}
use Rattle.il_syntax.specs.declared.tree.Elementary.{Elementary}
use Rattle.il_syntax.specs.declared.tree.Form.{Form}
use Rattle.il_syntax.specs.declared.tree.Named.{Named}
use Rattle.il_statics.specs.declared.names.StandardBlock.{StandardBlock}
use Rattle.il_statics.specs.declared.standard.BlockWord.{BlockWord}
use Rattle.il_statics.specs.declared.standard.BlockWords.{BlockWords}
use Rattle.il_statics.specs.Names.{Spelling, BlockVariables, named_forms, standard_words, standard_variables, word_form}
use Rattle.il_statics.specs.Tables.{word, word_lists}
use Rattle.reasons_types.specs.ArgumentReasons.{argument_lines, arguments_lines, inputs_line, outputs_line, block_lines, words_of}
use Rattle.reasons_names.proofs.TypeTexts.{take_next}

-- ARGUMENTS

module _ (block : Option BlockVariables) (instance : Spelling) where
  lines_more : (before xs : List Argument) (x : Argument) → arguments_lines block instance before (xs ++ x ∷ []) ≡ arguments_lines block instance before xs ++ argument_lines block instance (before ++ xs) x
  lines_more before [] x = append-nil (argument_lines block instance before x) ∙ ap (λ b. argument_lines block instance b x) (sym (append-nil before))
  lines_more before (y ∷ xs) x =
      ap (λ t. argument_lines block instance before y ++ t) (lines_more (before ++ y ∷ []) xs x ∙ ap (λ b. arguments_lines block instance (before ++ y ∷ []) xs ++ argument_lines block instance b x) (append_assoc before (y ∷ []) xs))
      ∙ sym (append_assoc (argument_lines block instance before y) (arguments_lines block instance (before ++ y ∷ []) xs) (argument_lines block instance (before ++ y ∷ xs) x))

  -- one argument more
  pub argument_more : (arguments : List Argument) (i : ℕ) (a : Argument) (front : List Argument) (first old new : List ℕ) → slice_get arguments i ≡ Some a → front ≡ take i arguments
      → old ≡ first ++ arguments_lines block instance [] (take i arguments) → new ≡ old ++ argument_lines block instance front a → new ≡ first ++ arguments_lines block instance [] (take (i + 1) arguments)
  argument_more arguments i a front first old new at cut before here =
      here ∙ ap (λ f. old ++ argument_lines block instance f a) cut ∙ ap (λ t. t ++ argument_lines block instance (take i arguments) a) before
      ∙ append_assoc first (arguments_lines block instance [] (take i arguments)) (argument_lines block instance (take i arguments) a)
      ∙ ap (λ t. first ++ t) (sym (lines_more [] (take i arguments) a))
      ∙ ap (λ l. first ++ arguments_lines block instance [] l) (sym (take_next arguments i a at))

-- WORDS

words_with_forms : (table : List (Spelling × Elementary)) → words_of (map (λ (w : Spelling × Elementary). (w.0, word_form w.1)) table) ≡ map (λ (w : Spelling × Elementary). w.0) table
words_with_forms [] = refl
words_with_forms (w ∷ table) = ap (λ l. w.0 ∷ l) (words_with_forms table)

words_named : (ws : List BlockWord) → map (λ (w : Spelling × Elementary). w.0) (map word ws) ≡ map (λ (w : BlockWord). w.name.now) ws
words_named [] = refl
words_named (w ∷ ws) = ap (λ l. w.name.now ∷ l) (words_named ws)

-- the inputs of a standard block
pub standard_inputs_are : (block : StandardBlock) (words : BlockWords) (found : List Spelling) → word_lists words ≡ standard_words block
    → found ≡ map (λ (w : BlockWord). w.name.now) words.inputs.now → found ≡ words_of (standard_variables block).inputs
standard_inputs_are block words found table names =
    names ∙ sym (words_named words.inputs.now) ∙ ap (λ t. map (λ (w : Spelling × Elementary). w.0) t.inputs) table ∙ sym (words_with_forms (standard_words block).inputs)

-- the outputs of a standard block
pub standard_outputs_are : (block : StandardBlock) (words : BlockWords) (found : List Spelling) → word_lists words ≡ standard_words block
    → found ≡ map (λ (w : BlockWord). w.name.now) words.outputs.now → found ≡ words_of (standard_variables block).outputs
standard_outputs_are block words found table names =
    names ∙ sym (words_named words.outputs.now) ∙ ap (λ t. map (λ (w : Spelling × Elementary). w.0) t.outputs) table ∙ sym (words_with_forms (standard_words block).outputs)

-- what texts read
abbrev pub shown : List (Bor (List ℕ)) → List Spelling
shown texts = map (λ (w : Bor (List ℕ)). w.now) texts

-- the lines of a block
pub block_is : (instance : Spelling) (variables : BlockVariables) (inputs outputs : List Spelling) (old middle new : List ℕ) → inputs ≡ words_of variables.inputs → outputs ≡ words_of variables.outputs
    → middle ≡ old ++ inputs_line instance inputs → new ≡ middle ++ outputs_line instance outputs → new ≡ old ++ block_lines instance (Some variables)
block_is instance variables inputs outputs old middle new ins outs first second =
    second ∙ ap (λ t. t ++ outputs_line instance outputs) first ∙ append_assoc old (inputs_line instance inputs) (outputs_line instance outputs)
    ∙ ap (λ l. old ++ (inputs_line instance l ++ outputs_line instance outputs)) ins ∙ ap (λ l. old ++ (inputs_line instance (words_of variables.inputs) ++ outputs_line instance l)) outs

words_of-append : (xs ys : List (Spelling × Form)) → words_of (xs ++ ys) ≡ words_of xs ++ words_of ys
words_of-append [] ys = refl
words_of-append (x ∷ xs) ys = ap (λ l. x.0 ∷ l) (words_of-append xs ys)

words_declared : (form : Form) (names : List Named) → words_of (map (λ (n : Named). (n.name, form)) names) ≡ map (λ (n : Named). n.name) names
words_declared form [] = refl
words_declared form (n ∷ names) = ap (λ l. n.name ∷ l) (words_declared form names)

named_forms-append : (xs ys : List Declaration) → named_forms (xs ++ ys) ≡ named_forms xs ++ named_forms ys
named_forms-append xs ys = flat_map-append (λ (d : Declaration). map (λ (n : Named). (n.name, d.declared.form)) d.names) xs ys

-- the names of one declaration more
pub words_more : (ds : List Declaration) (i : ℕ) (d : Declaration) (old new : List Spelling) → slice_get ds i ≡ Some d → old ≡ words_of (named_forms (take i ds))
    → new ≡ old ++ map (λ (n : Named). n.name) d.names → new ≡ words_of (named_forms (take (i + 1) ds))
words_more ds i d old new at before here =
    let forms = map (λ (n : Named). (n.name, d.declared.form)) d.names in
    let one : named_forms (d ∷ []) ≡ forms = append-nil forms in
    here ∙ ap (λ t. t ++ map (λ (n : Named). n.name) d.names) before
    ∙ ap (λ t. words_of (named_forms (take i ds)) ++ t) (sym (words_declared d.declared.form d.names) ∙ ap words_of (sym one))
    ∙ sym (words_of-append (named_forms (take i ds)) (named_forms (d ∷ [])))
    ∙ ap words_of (sym (named_forms-append (take i ds) (d ∷ [])))
    ∙ ap (λ l. words_of (named_forms l)) (sym (take_next ds i d at))
