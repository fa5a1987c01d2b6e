use Rattle.std.proofs.Common.{sym, map, subst}
use Rattle.std.specs.Prelude.{IfOk}
use Rattle.il_syntax.specs.declared.tree.Config.{Config}
use Rattle.il_semantics.specs.Annotation.{Annotated}
use Rattle.load_slots.specs.Program.{program_names}
use Rattle.load_slots.specs.Whole.{unit_code}
use Rattle.scan_loop.specs.Windows.{AreAllQuick}
use Rattle.scan_task.specs.Sharing.{ArePlans}
use Rattle.scan_task.proofs.verified.tables_of.Goals as goal

pub code_tables-requires : goal.code_tables-requires
code_tables-requires c =
    let e = c.config-config.ensures in
    record { runs = record { written = e.written; declared = e.declared; typed = e.typed; ordered = e.ordered; annotated = subst Annotated (sym c.code-code.ensures.is) c.code-code.ensures.annotated; nested = e.nested } }

pub returns-clause-plans : goal.returns-clause-plans
returns-clause-plans c = subst (λ (k : Config). IfOk c.code_tables.result (λ t. ArePlans k t.plans)) c.code-code.ensures.is c.code_tables.ensures.plans

pub returns-clause-quick : goal.returns-clause-quick
returns-clause-quick c = subst (λ (k : Config). IfOk c.code_tables.result (λ t. AreAllQuick t.quick (map (unit_code (program_names k) k) k.units))) c.code-code.ensures.is c.code_tables.ensures.quick
