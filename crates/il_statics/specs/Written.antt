-- What the grammar gives of each tree that a text spells, as far as the rules and their laws ask for it.
use Rattle.std.specs.Prelude.{◌≡◌, ◌≢◌, ◌≤◌, ℤ, false, IsTrue, [], Some, Contains, All, length}
use Rattle.il_syntax.specs.declared.tree.Config.{Config}
use Rattle.il_syntax.specs.declared.tree.Unit.{Unit as ProgramUnit}
use Rattle.il_syntax.specs.declared.tree.Declaration.{Declaration}
use Rattle.il_syntax.specs.declared.tree.Initial.{Initial}
use Rattle.il_syntax.specs.declared.tree.Named.{Named}
use Rattle.il_syntax.specs.declared.tree.Elementary.{Elementary}
use Rattle.il_syntax.specs.declared.tree.Literal.TheVariants.{Whole}
use Rattle.il_syntax.specs.ElementaryTypes.{is_whole}
use Rattle.il_syntax.specs.Grammar.{greatest_depth}
use Rattle.il_statics.specs.Names.{Spelling, is_program}
use Rattle.il_statics.specs.Declarations.{unit_names, names_in, all_declarations}
use Rattle.il_syntax.specs.declared.limits.TheConstants.{MOST_INSTRUCTIONS, MOST_OPEN}

-- a name is a word: it has neither a point, nor a bracket, nor a line feed, and is not empty (2.1.2)
pub record IsWord (name : Spelling) : Type 0 where
  pub some : name ≢ []
  pub no_point : ¬ Contains name 46
  pub no_bracket : ¬ Contains name 91
  pub no_feed : ¬ Contains name 10

-- A tree as a text can spell it.
pub record IsWritten (c : Config) : Type 0 where
  -- names are identifiers (2.1.2)
  pub headings : (u : ProgramUnit) → Contains c.units u → IsWord u.name.name
  pub names : (u : ProgramUnit) (n : Named) → Contains c.units u → Contains (unit_names u) n → IsWord n.name
  pub globals : (n : Named) → Contains (names_in c.globals) n → IsWord n.name
  -- programs alone have externals (2.4.3, 2.5.3)
  pub externals : (u : ProgramUnit) → Contains c.units u → is_program u ≡ false → u.externals ≡ []
  -- the type before a number is a whole one (2.2.1)
  pub literals : (d : Declaration) (i : Initial) (e : Elementary) (z : ℤ) → Contains (all_declarations c) d → d.initial ≡ Some i → i.literal ≡ Whole e z → IsTrue (is_whole e)

-- no more than 4096 instructions in each unit: a limit of a text (own rule)
abbrev pub HasFewInstructions : Config → Type 0
HasFewInstructions c = All (λ (u : ProgramUnit). length u.body.steps ≤ MOST_INSTRUCTIONS) c.units

-- in no body more than 16 parentheses are open at once: a limit of a text (own rule)
abbrev pub IsNested : Config → Type 0
IsNested c = All (λ (u : ProgramUnit). greatest_depth 0 u.body.steps ≤ MOST_OPEN) c.units
