-- The parts of a configuration.
use Rattle.std.specs.Prelude.{ℕ, ◌≤◌, length, List, Option, ⊤}
use Rattle.il_syntax.specs.declared.keyword.Keyword.TheVariants as word
use Rattle.il_syntax.specs.declared.tree.Place.{Place}
use Rattle.il_syntax.specs.declared.tree.Declaration.{Declaration}
use Rattle.il_syntax.specs.declared.tree.Unit.{Unit as ProgramUnit}
use Rattle.il_syntax.specs.declared.tree.Size.{Size}
use Rattle.il_syntax.specs.declared.tree.Task.{Task}
use Rattle.il_syntax.specs.declared.tree.ProgramLine.{ProgramLine}
use Rattle.il_syntax.specs.declared.tree.Config.{Config}
use Rattle.il_syntax.specs.Grammar.{Front, ◌⨾◌, ◌⋯◌, AfterLines, No, Repeats, TheEnd, TheWord, SomeName, SpellsDeclaration, SpellsGlobals, SpellsTask, SpellsProgramLine, SpellsConfig}
use Rattle.load_lines.specs.Settings.{PlacedWord, SpellsThree}
use Rattle.load_lines.specs.declared.stop.SyntaxError.{SyntaxError}
use Rattle.load_lines.specs.declared.stop.SyntaxError.TheVariants.{Unexpected, TooDeep, TooMany}
use Rattle.load_tree.specs.Units.{SpellsSmallUnit, SpellsUnitBy}
use Rattle.load_tree.specs.Refused.{IsSmall, Keeps}
use Rattle.il_syntax.specs.declared.limits.TheConstants.{MOST_UNITS}

-- units within the limits, and CONFIGURATION
abbrev pub SpellsUnits : List ℕ → List ProgramUnit → Front
SpellsUnits text us = Repeats (SpellsSmallUnit text) us (TheWord text word.Configuration)

-- no more units than a text may have
abbrev pub SpellsFewUnits : List ℕ → List ProgramUnit → Front
SpellsFewUnits text us ts rest = SpellsUnits text us ts rest × (length us ≤ MOST_UNITS)

-- whether units are no more than the limit that a fault is about allows
abbrev pub AreFewBy : SyntaxError → List ProgramUnit → Type 0
AreFewBy Unexpected us = ⊤
AreFewBy TooDeep us = ⊤
AreFewBy TooMany us = length us ≤ MOST_UNITS

-- units within the limit that a fault is about, and CONFIGURATION
abbrev pub SpellsFewUnitsBy : SyntaxError → List ℕ → List ProgramUnit → Front
SpellsFewUnitsBy error text us ts rest = Repeats (SpellsUnitBy error text) us (TheWord text word.Configuration) ts rest × AreFewBy error us

-- the list of globals, where it is
abbrev pub SpellsGlobalList : List ℕ → Place × List Declaration → Front
SpellsGlobalList text x = AfterLines (PlacedWord text word.VarGlobal x.0 ⋯ Repeats (SpellsDeclaration text) x.1 (TheWord text word.EndVar))

-- globals, and the place of their list if there is one
abbrev pub SpellsSomeGlobals : List ℕ → Option Place × List Declaration → Front
SpellsSomeGlobals text x = SpellsGlobals text x.0 x.1

-- all TASK lines that are here
abbrev pub SpellsTasks : List ℕ → List Task → Front
SpellsTasks text xs = Repeats (SpellsTask text) xs (No (TheWord text word.Task))

-- all PROGRAM lines that are here
abbrev pub SpellsPrograms : List ℕ → List ProgramLine → Front
SpellsPrograms text xs = Repeats (SpellsProgramLine text) xs (No (TheWord text word.Program))

-- the lines of a resource, and its end
abbrev pub SpellsLines : List ℕ → List Task × List ProgramLine × Place → Front
SpellsLines text x = SpellsTasks text x.0 ⨾ SpellsPrograms text x.1 ⨾ PlacedWord text word.EndResource x.2

-- a resource
abbrev pub SpellsResourceOf : List ℕ → List Task × List ProgramLine × Place → Front
SpellsResourceOf text x = TheWord text word.Resource ⋯ SomeName text ⋯ TheWord text word.On ⋯ SomeName text ⋯ SpellsLines text x

-- a resource, and the ends of the configuration and of the text
abbrev pub SpellsEnding : List ℕ → List Task × List ProgramLine × Place → Front
SpellsEnding text x = SpellsResourceOf text x ⋯ TheWord text word.EndConfiguration ⋯ TheEnd

-- what follows CONFIGURATION
abbrev pub SpellsGroup : List ℕ → (Size × (Size × Size)) × (Option Place × List Declaration) × (List Task × List ProgramLine × Place) → Front
SpellsGroup text x = SomeName text ⋯ SpellsThree text x.0 ⨾ SpellsSomeGlobals text x.1 ⋯ SpellsEnding text x.2

-- a text of a configuration within the limits
abbrev pub SpellsSmallConfig : List ℕ → Config → Front
SpellsSmallConfig text c ts rest = AfterLines (SpellsConfig text c) ts rest × IsSmall c

-- a text of a configuration within the limit that a fault is about
abbrev pub SpellsConfigBy : SyntaxError → List ℕ → Config → Front
SpellsConfigBy error text c ts rest = AfterLines (SpellsConfig text c) ts rest × Keeps error c
