use Rattle.std.proofs.Common.{◌≡◌, ◌++◌, None, map, drop, string_bytes}
use Rattle.std.specs.Prelude.{option_map}
use Rattle.show_values.specs.Changes.{changed_rows}
use Rattle.show_values.proofs.changes.put_rows.Given as goal

-- the rows that are left complete the text
abbrev pub invariant-rows : goal.invariant-rows
invariant-rows l = string_bytes l.text ++ changed_rows (option_map (λ x. x.now) l.before) (map (λ x. x.now) (drop l.row-index l.rows)) ≡ string_bytes l.initial.text ++ changed_rows None (map (λ x. x.now) l.rows)
