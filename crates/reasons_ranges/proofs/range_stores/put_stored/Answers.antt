use Rattle.std.proofs.Common.{ℕ, List, ◌++◌, string_bytes}
use Rattle.std.specs.Prelude.{codes}
use Rattle.reasons_types.specs.RangeWords.{ends_text}
use Rattle.reasons_ranges.specs.RangeReasons.{into_text}
use Rattle.reasons_names.proofs.Pieces.{join, on_ok}
use Rattle.reasons_ranges.proofs.range_stores.put_stored.Goals as goal

pub returns : goal.returns
returns c =
    let old = string_bytes c.args.text.now in
    let new = string_bytes c.put_into.new.text in
    let rest_2 : List ℕ = into_text c.args.unit.now c.args.target.now c.args.scalar in
    let rest_1 : List ℕ = ends_text c.args.range ++ rest_2 in
    on_ok c.put_into.result _ _
    (λ e.
    join old (codes "stores ") (string_bytes c.put.new.text) new rest_1 c.in_ok-put.ensures (join (string_bytes c.put.new.text) (ends_text c.args.range) (string_bytes c.put_ends.new.text) new rest_2 c.in_ok-put_ends.ensures e))
    c.put_into.ensures
