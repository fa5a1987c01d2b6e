use Rattle.std.proofs.Common.{◌≡◌, ◌++◌, flat_map, string_bytes}
use Rattle.show_names.specs.Uses.{uses_left}
use Rattle.show_names.specs.Xref.{other_row, other_rows}
use Rattle.show_names.proofs.Seen.{unseen}
use Rattle.show_names.proofs.xref.put_others.Given as goal

abbrev pub invariant-uses : goal.invariant-uses
invariant-uses l = string_bytes l.text ++ flat_map (other_row l.form l.unit.unit.now.body.steps) (unseen l.seen (uses_left l.used-iterator)) ≡ string_bytes l.initial.text ++ other_rows l.form l.unit.unit.now
