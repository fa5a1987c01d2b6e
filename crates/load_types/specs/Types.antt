-- The types of scalars and members, and the words of arguments (own rules).
use Rattle.std.specs.Prelude.{List, [], ◌∷◌, Option, option_map, option_and_then}
use Rattle.il_syntax.specs.declared.tree.Config.{Config}
use Rattle.il_syntax.specs.declared.tree.Unit.{Unit as ProgramUnit}
use Rattle.il_syntax.specs.declared.tree.Argument.{Argument}
use Rattle.il_syntax.specs.declared.tree.Elementary.{Elementary}
use Rattle.il_syntax.specs.declared.tree.Scalar.{Scalar}
use Rattle.il_statics.specs.Names.{Spelling}
use Rattle.il_statics.specs.Types.{argument_word, scalar_type, member_form, instance_block}

-- the type of a scalar, if there is one
abbrev pub elementary_of : Option Scalar → Option Elementary
elementary_of scalar = option_map (λ s. s.elementary) scalar

-- the type of an input or output of an instance
abbrev pub member_type_of : Config → ProgramUnit → Spelling → Spelling → Option Elementary
member_type_of config unit name word = option_and_then scalar_type (option_and_then (member_form word) (instance_block config unit name))

-- the words that arguments give, the last one first
abbrev pub words_onto : List Spelling → List Argument → List Spelling
words_onto given [] = given
words_onto given (a ∷ arguments) = words_onto (argument_word a ∷ given) arguments
