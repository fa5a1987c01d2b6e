use Rattle.std.proofs.Common.{ℕ, List, ◌++◌, string_bytes}
use Rattle.std.specs.Prelude.{codes}
use Rattle.reasons_types.specs.RangeWords.{scalar_text}
use Rattle.reasons_ranges.specs.RangeReasons.{value_text}
use Rattle.reasons_names.proofs.Pieces.{join, join_three, on_ok}
use Rattle.reasons_ranges.proofs.range_inputs.put_further_input.Goals as goal

pub returns : goal.returns
returns c =
    let old = string_bytes c.args.text.now in
    let new = string_bytes c.put_value.new.text in
    let head = string_bytes c.put_three.new.text in
    let rest : List ℕ = value_text c.args.reference.now c.args.range in
    on_ok c.put_value.result _ _
    (λ e.
    join_three old (codes "an input of ") c.args.name.now (codes " takes ") head new (scalar_text c.args.scalar ++ rest) c.in_ok-put_three.ensures (join head (scalar_text c.args.scalar) (string_bytes c.put_scalar.new.text) new rest c.in_ok-put_scalar.ensures e))
    c.put_value.ensures
