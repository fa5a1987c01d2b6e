use Rattle.std.proofs.Common.{ℕ, List, ◌++◌, string_bytes}
use Rattle.std.specs.Prelude.{codes, decimal}
use Rattle.reasons_types.specs.WrittenReasons.{form_words}
use Rattle.reasons_names.proofs.Pieces.{join, on_ok}
use Rattle.reasons_types.proofs.types_written.put_found.Goals as goal

pub returns : goal.returns
returns c =
    let old = string_bytes c.args.text.now in
    let new = string_bytes c.put_in_line.new.text in
    let named = c.args.named.now in
    let words : List ℕ = form_words c.args.form.now named in
    let rest_2 : List ℕ = codes " in line " ++ (decimal named.place.line ++ codes "\n") in
    let rest_1 : List ℕ = words ++ rest_2 in
    on_ok c.put_in_line.result _ _
    (λ e. join old (codes "the global ") (string_bytes c.put.new.text) new rest_1 c.in_ok-put.ensures (join (string_bytes c.put.new.text) words (string_bytes c.put_form_words.new.text) new rest_2 c.in_ok-put_form_words.ensures e))
    c.put_in_line.ensures
