use Rattle.std.proofs.Common.{◌≡◌, ◌++◌, take, string_bytes}
use Rattle.show_values.specs.Denials.{refresh_rows}
use Rattle.show_values.proofs.denials.put_refresh.Given as goal

abbrev pub invariant-denials : goal.invariant-denials
invariant-denials l = string_bytes l.text ≡ string_bytes l.initial.text ++ refresh_rows l.form l.all l.round (take l.denial-index l.denials)
