use Rattle.std.proofs.Common.{◌≡◌, ◌++◌, flat_map, map, take, string_bytes}
use Rattle.reasons_names.specs.NamesTasks.{writer_shown, store_of_task}
use Rattle.reasons_names.proofs.names_tasks.put_each_writer.Given as goal

abbrev pub invariant-writers : goal.invariant-writers
invariant-writers l = string_bytes l.text ≡ string_bytes l.initial.text ++ flat_map (store_of_task l.name) (map writer_shown (take l.writer-index l.writers))
