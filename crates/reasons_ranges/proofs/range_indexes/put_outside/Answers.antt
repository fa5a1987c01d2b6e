use Rattle.std.proofs.Common.{ℕ, List, ◌++◌, string_bytes}
use Rattle.std.specs.Prelude.{codes}
use Rattle.reasons_types.specs.RangeWords.{index_name, ends_text}
use Rattle.reasons_ranges.specs.RangeReasons.{array_has_text}
use Rattle.reasons_names.proofs.Pieces.{join, on_ok}
use Rattle.reasons_ranges.proofs.range_indexes.put_outside.Goals as goal

pub returns : goal.returns
returns c =
    let old = string_bytes c.args.text.now in
    let new = string_bytes c.put_array_has.new.text in
    let rest_4 : List ℕ = array_has_text c.args.unit.now c.args.name.now c.args.bounds in
    let rest_3 : List ℕ = ends_text c.args.range ++ rest_4 in
    let rest_2 : List ℕ = codes " is " ++ rest_3 in
    let rest_1 : List ℕ = index_name c.args.index.now ++ rest_2 in
    on_ok c.put_array_has.result _ _
    (λ e.
    join old (codes "the index") (string_bytes c.put.new.text) new rest_1 c.in_ok-put.ensures (join (string_bytes c.put.new.text) (index_name c.args.index.now) (string_bytes c.put_index_name.new.text) new rest_2 c.in_ok-put_index_name.ensures (join (string_bytes c.put_index_name.new.text) (codes " is ") (string_bytes c.put-2.new.text) new rest_3 c.in_ok-put-2.ensures (join (string_bytes c.put-2.new.text) (ends_text c.args.range) (string_bytes c.put_ends.new.text) new rest_4 c.in_ok-put_ends.ensures e))))
    c.put_array_has.ensures
