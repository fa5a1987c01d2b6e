-- Operands and arguments, as their parts.
use Rattle.std.specs.Prelude.{ℕ, List}
use Rattle.il_syntax.specs.declared.token.Sign.TheVariants.{Assign, Arrow, OpenBracket, CloseBracket, Dot}
use Rattle.il_syntax.specs.declared.tree.Named.{Named}
use Rattle.il_syntax.specs.declared.tree.Index.{Index}
use Rattle.il_syntax.specs.declared.tree.Reference.{Reference}
use Rattle.il_syntax.specs.declared.tree.Reference.TheVariants as reference
use Rattle.il_syntax.specs.declared.tree.Argument.{Argument}
use Rattle.il_syntax.specs.declared.tree.Argument.TheVariants as argument
use Rattle.il_syntax.specs.Grammar.{Front, Gap, loose, ◌⟨◌⟩◌, ◌⨾◌, ◌⋯◌, No, TheSign, TheName, AWord, IsPlace, SpellsIndex, SpellsReference, SpellsOperand}
use Rattle.load_lines.specs.declared.operand.Selector.{Selector}
use Rattle.load_lines.specs.declared.operand.Selector.TheVariants as selector
use Rattle.load_lines.specs.declared.operand.Passed.{Passed}
use Rattle.load_lines.specs.declared.operand.Passed.TheVariants as passed

-- an index, and the bracket that closes
abbrev pub SpellsElement : List ℕ → Gap → Index → Front
SpellsElement text gap i = SpellsIndex text i ⟨ gap ⟩ TheSign CloseBracket

-- what follows the name of a variable
abbrev pub SpellsSelector : List ℕ → Gap → Selector → Front
SpellsSelector text gap selector.Whole = No (TheSign OpenBracket) ⨾ No (TheSign Dot)
SpellsSelector text gap (selector.Element i) = TheSign OpenBracket ⟨ gap ⟩ SpellsElement text gap i
SpellsSelector text gap (selector.Member m) = TheSign Dot ⟨ gap ⟩ AWord text m

-- the variable of this name, or a part of it
abbrev pub reference_of : List ℕ → Selector → Reference
reference_of name selector.Whole = reference.Variable name
reference_of name (selector.Element i) = reference.Element name i
reference_of name (selector.Member m) = reference.Member name m

-- a variable, an element or a member
abbrev pub SpellsSelected : List ℕ → Gap → Reference → Front
SpellsSelected text gap r ts rest = IsPlace r × SpellsReference text gap r ts rest

-- what an argument passes
abbrev pub SpellsPassed : List ℕ → Passed → Front
SpellsPassed text (passed.Input operand) = TheSign Assign ⋯ SpellsOperand text loose operand
SpellsPassed text (passed.Output target) = TheSign Arrow ⋯ TheName text target

-- the argument of this word
abbrev pub argument_of : Named → Passed → Argument
argument_of word (passed.Input operand) = argument.Input word operand
argument_of word (passed.Output target) = argument.Output word target
