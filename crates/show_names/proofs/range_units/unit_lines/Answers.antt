use Rattle.std.proofs.Common.{◌++◌, option_map, refl, ap, ◌∙◌}
use Rattle.std.specs.Prelude.{string_bytes}
use Rattle.ranges_pass.specs.Shown.{steps_text}
use Rattle.show_names.specs.RangeLines.{heading_row, refused_row, step_row}
use Rattle.show_names.proofs.RangeTexts.{parts_joined}
use Rattle.show_names.proofs.range_units.unit_lines.Goals as goal

pub returns : goal.returns
returns c =
    let u = c.args.unit.now in
    let s = c.in_ok-found.ensures in
    let steps = steps_text (step_row c.args.form (option_map (λ t. t.now) c.args.source)) u.body.steps s.0 in
    let old = string_bytes c.args.before in (
      heading_row c.args.form u ++ (steps ++ refused_row c.args.form c.in_ok-found.found),
      c.in_ok-put_refused.ensures ∙ ap (λ l. l ++ refused_row c.args.form c.in_ok-found.found) (s.2 ∙ ap (λ l. l ++ steps) c.in_ok-put_heading.ensures) ∙ parts_joined old (heading_row c.args.form u) steps (refused_row c.args.form c.in_ok-found.found),
      record { known = s.0; found = c.in_ok-found.found; are = s.1; is = refl },
    )
