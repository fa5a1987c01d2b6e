-- The programs of PROGRAM lines by the number of their unit.
use Rattle.std.proofs.Common.{◌≡◌, ℕ, ◌≤◌, List, length, Option, Some, None, option_and_then, slice_get, sym, ap, ◌∙◌}
use Rattle.il_syntax.specs.declared.tree.Config.{Config}
use Rattle.il_syntax.specs.declared.tree.Unit.{Unit as ProgramUnit}
use Rattle.il_syntax.specs.declared.tree.Declaration.{Declaration}
use Rattle.base_maps.specs.NameMap.{NameMap}
use Rattle.il_statics.specs.Names.{Spelling, program_named}
use Rattle.load_scope.specs.Views.{program_number}
use Rattle.load_scope.proofs.Laws.{program_found}
use Rattle.load_scope.proofs.Seen.{none_at}
use Rattle.load_types.specs.declared.writers.Writer.{Writer}
use Rattle.load_types.specs.Writers.{noted, noted_line, declared_stored}

module _ (config : Config) (key name : Spelling) (same : key ≡ name) where
  -- a number is that of a unit
  numbered : (o : Option ℕ) → o ≡ program_number config key → program_named config name ≡ option_and_then (slice_get config.units) o
  numbered o is = ap (program_named config) (sym same) ∙ sym (program_found config key) ∙ ap (option_and_then (slice_get config.units)) (sym is)

  -- no program, nothing noted
  pub nothing : (line : ℕ) (table : NameMap Writer) → None ≡ program_number config key → table ≡ noted_line config.programs line (program_named config name) table
  nothing line table is = sym (ap (λ o. noted_line config.programs line o table) (numbered None is))

  pub nothing_past : (line k : ℕ) (table : NameMap Writer) (units : List ProgramUnit) → Some k ≡ program_number config key → units ≡ config.units → length units ≤ k → table ≡ noted_line config.programs line (program_named config name) table
  nothing_past line k table units is all past = sym (ap (λ o. noted_line config.programs line o table) (numbered (Some k) is ∙ ap (λ l. slice_get l k) (sym all) ∙ none_at units k past))

  -- a program, what it stores into of its externals noted
  pub body_noted : (line k : ℕ) (table new : NameMap Writer) (unit of : ProgramUnit) (externals : List Declaration) → Some k ≡ program_number config key → slice_get config.units k ≡ Some unit → of ≡ unit → externals ≡ unit.externals → new ≡ noted config.programs line of table (declared_stored of externals) → new ≡ noted_line config.programs line (program_named config name) table
  body_noted line k table new unit of externals is there one listed noted_names =
      noted_names ∙ ap (λ u. noted config.programs line u table (declared_stored u externals)) one ∙ ap (λ l. noted config.programs line unit table (declared_stored unit l)) listed
      ∙ sym (ap (λ o. noted_line config.programs line o table) (numbered (Some k) is ∙ there))
