-- What is reported of arguments (own rules).
use Rattle.std.specs.Prelude.{ℕ, ◌+◌, ◌==◌, Bool, if◌then◌else◌, List, [], ◌∷◌, ◌++◌, map, length, flat_map, bytes_eq, Option, Some, None, is_some, option_and_then, codes, decimal}
use Rattle.std.specs.List.{list_any}
use Rattle.il_syntax.specs.declared.tree.Argument.{Argument}
use Rattle.il_syntax.specs.declared.tree.Argument.TheVariants.{Input, Output}
use Rattle.il_syntax.specs.declared.tree.Config.{Config}
use Rattle.il_syntax.specs.declared.tree.Form.{Form}
use Rattle.il_syntax.specs.declared.tree.Instruction.{Instruction}
use Rattle.il_syntax.specs.declared.tree.Instruction.TheVariants.{Call, Invoke}
use Rattle.il_syntax.specs.declared.tree.Unit.{Unit as ProgramUnit}
use Rattle.il_statics.specs.declared.names.StandardFunction.{StandardFunction}
use Rattle.il_statics.specs.Names.{Spelling, BlockVariables, entry_of, standard_function, further_arguments, function_named, named_forms}
use Rattle.il_statics.specs.Types.{argument_word, instance_block}

-- FUNCTIONS

-- how many arguments a function takes, the current result as the first of them (2.5.1, 3.2.3)
abbrev pub taken_count : Option StandardFunction → Option ProgramUnit → Option ℕ
taken_count (Some function) own = Some (further_arguments function + 1)
taken_count None (Some own) = Some (length (named_forms own.inputs))
taken_count None None = None

-- `1 argument`, `2 arguments`
abbrev pub arguments_text : ℕ → List ℕ
arguments_text count = decimal count ++ (if count == 1 then codes " argument" else codes " arguments")

-- `1 is given`, `2 are given`
abbrev pub standing_text : ℕ → List ℕ
standing_text count = decimal count ++ (if count == 1 then codes " is given" else codes " are given")

-- the end of such a line
unfoldable pub with_result : List ℕ
with_result = codes " with the current result\n"

-- `MAX takes 2 arguments, 3 are given with the current result`, of a known function
abbrev pub count_line : Spelling → ℕ → Option ℕ → List ℕ
count_line name standing None = []
count_line name standing (Some taken) = name ++ (codes " takes " ++ (arguments_text taken ++ (codes ", " ++ (standing_text standing ++ with_result))))

-- INSTANCES

-- whether one of these arguments gives a word
abbrev pub is_given : List Argument → Spelling → Bool
is_given arguments word = list_any (λ (a : Argument). bytes_eq (argument_word a) word) arguments

-- `PV is given twice`
abbrev pub twice_line : Bool → Spelling → List ℕ
twice_line given word = if given then word ++ codes " is given twice\n" else []

-- whether the block of an instance has an input of this word
abbrev pub has_input : Option BlockVariables → Spelling → Bool
has_input block word = is_some (option_and_then (λ (b : BlockVariables). entry_of b.inputs word) block)

-- whether it has an output of this word
abbrev pub has_output : Option BlockVariables → Spelling → Bool
has_output block word = is_some (option_and_then (λ (b : BlockVariables). entry_of b.outputs word) block)

-- of a word of the standard that says whether a block runs, and whether it ran (2.5.1.2)
unfoldable pub enable_line : Spelling → List ℕ
enable_line word =
    if bytes_eq word (codes "EN") then codes "the language has no EN: call with CALC, or jump over the CAL with JMPC\n"
    else if bytes_eq word (codes "ENO") then codes "the language has no ENO: each CAL that is reached runs to its end\n" else []

-- `Q1 is no input of C1`
unfoldable pub lacks_input : Spelling → Spelling → List ℕ
lacks_input word instance = word ++ (codes " is no input of " ++ (instance ++ codes "\n"))

abbrev pub no_input_line : Bool → Spelling → Spelling → List ℕ
no_input_line has word instance = if has then [] else lacks_input word instance ++ enable_line word

-- `PV is no output of C1`
unfoldable pub lacks_output : Spelling → Spelling → List ℕ
lacks_output word instance = word ++ (codes " is no output of " ++ (instance ++ codes "\n"))

abbrev pub no_output_line : Bool → Spelling → Spelling → List ℕ
no_output_line has word instance = if has then [] else lacks_output word instance ++ enable_line word

-- of an argument, whether the block has its word
abbrev pub word_line : Option BlockVariables → Spelling → Argument → List ℕ
word_line block instance (Input word operand) = no_input_line (has_input block word.name) word.name instance
word_line block instance (Output word target) = no_output_line (has_output block word.name) word.name instance

-- of an argument after others
abbrev pub argument_lines : Option BlockVariables → Spelling → List Argument → Argument → List ℕ
argument_lines block instance before a = twice_line (is_given before (argument_word a)) (argument_word a) ++ word_line block instance a

-- of arguments after others
abbrev pub arguments_lines : Option BlockVariables → Spelling → List Argument → List Argument → List ℕ
arguments_lines block instance before [] = []
arguments_lines block instance before (a ∷ arguments) = argument_lines block instance before a ++ arguments_lines block instance (before ++ a ∷ []) arguments

-- `CU, R, PV`
abbrev pub words_text : List Spelling → List ℕ
words_text [] = codes "none"
words_text (word ∷ words) = word ++ flat_map (λ w. codes ", " ++ w) words

-- the words of variables
abbrev pub words_of : List (Spelling × Form) → List Spelling
words_of variables = map (λ v. v.0) variables

-- `inputs of C1: CU, R, PV`
abbrev pub inputs_line : Spelling → List Spelling → List ℕ
inputs_line instance words = codes "inputs of " ++ (instance ++ (codes ": " ++ (words_text words ++ codes "\n")))

-- `outputs of C1: Q, CV`
abbrev pub outputs_line : Spelling → List Spelling → List ℕ
outputs_line instance words = codes "outputs of " ++ (instance ++ (codes ": " ++ (words_text words ++ codes "\n")))

-- the words of a block
abbrev pub block_lines : Spelling → Option BlockVariables → List ℕ
block_lines instance None = []
block_lines instance (Some block) = inputs_line instance (words_of block.inputs) ++ outputs_line instance (words_of block.outputs)

-- of a CAL of an instance: the words that are twice or that its block lacks, and those that it has (3.2.3)
abbrev pub call_lines : Option BlockVariables → Spelling → List Argument → List ℕ
call_lines block instance arguments = if is_some block then arguments_lines block instance [] arguments ++ block_lines instance block else []

-- INSTRUCTIONS

-- the arguments of an instruction, and what is taken
abbrev pub taken_lines : Config → ProgramUnit → Instruction → List ℕ
taken_lines c unit (Call condition instance arguments) = call_lines (instance_block c unit instance.name) instance.name arguments
taken_lines c unit (Invoke function operands) = count_line function.name (length operands + 1) (taken_count (standard_function function.name) (function_named c function.name))
taken_lines c unit _ = []
