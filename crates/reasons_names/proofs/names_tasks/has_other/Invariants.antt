use Rattle.std.proofs.Common.{◌≡◌, map, drop}
use Rattle.std.specs.List.{list_any}
use Rattle.reasons_names.specs.NamesTasks.{writer_shown, is_other}
use Rattle.reasons_names.proofs.names_tasks.has_other.Given as goal

abbrev pub invariant-writers : goal.invariant-writers
invariant-writers l = list_any (is_other l.task) (map writer_shown (drop l.writer-index l.writers)) ≡ list_any (is_other l.task) (map writer_shown l.writers)
