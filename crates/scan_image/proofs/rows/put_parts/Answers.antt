use Rattle.std.proofs.Common.{◌∙◌, sym, ap, ap₂, length, arith}
use Rattle.std.proofs.lemmas.List.{length-map}
use Rattle.load_slots.specs.Layout.{rows, number_part, flag_part}
use Rattle.scan_image.specs.Image.{spliced}
use Rattle.scan_image.proofs.Splicing.{filled_spliced}
use Rattle.scan_image.proofs.rows.put_parts.Goals as goal

pub returns : goal.returns
returns c = λ values numbers flags.
    let all = c.args.all.now in
    let n = ap length numbers in
    let f = ap length flags in
    let vn = length-map values number_part in
    let vf = length-map values flag_part in
    c.copy_parts.ensures ∙ ap₂ (λ xs ys. rows (spliced all.numbers c.args.at xs) (spliced all.flags c.args.at ys)) (sym numbers) (sym flags)
    ∙ sym (filled_spliced all c.args.at values (omega (arith, n, vn, c.requires.numbers)) (omega (arith, f, vf, c.requires.flags)))
