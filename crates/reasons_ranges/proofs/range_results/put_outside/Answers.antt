use Rattle.std.proofs.Common.{ℕ, List, ◌++◌, string_bytes}
use Rattle.std.specs.Prelude.{codes}
use Rattle.reasons_types.specs.RangeWords.{scalar_text}
use Rattle.reasons_names.proofs.Pieces.{join, on_ok}
use Rattle.reasons_ranges.proofs.range_results.put_outside.Goals as goal

pub returns : goal.returns
returns c =
    let old = string_bytes c.args.text.now in
    let new = string_bytes c.put-2.new.text in
    let rest_2 : List ℕ = codes "\n" in
    let rest_1 : List ℕ = scalar_text c.args.scalar ++ rest_2 in
    on_ok c.put-2.result _ _
    (λ e.
    join old (codes " is outside ") (string_bytes c.put.new.text) new rest_1 c.in_ok-put.ensures (join (string_bytes c.put.new.text) (scalar_text c.args.scalar) (string_bytes c.put_scalar.new.text) new rest_2 c.in_ok-put_scalar.ensures e))
    c.put-2.ensures
