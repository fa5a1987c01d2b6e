use Rattle.std.proofs.Common.{◌∙◌, sym, ap, ℤ, Bool, Option, ℕ, List}
use Rattle.scan_image.specs.Image.{call_values}
use Rattle.scan_image.proofs.Writing.{call_numbers, call_flags}
use Rattle.scan_image.proofs.image.write_calls.Goals as goal

pub returns : goal.returns
returns c =
    let slots = c.args.calls.now.slots in
    let shown = c.columns-columns.ensures in
    c.put_parts.ensures (call_values slots)
    (call_numbers slots ∙ sym (c.numbers.ensures ∙ ap (λ (s : List ℤ × (List Bool × List (Option ℕ))). s.0) shown))
    (call_flags slots ∙ sym (c.flags.ensures ∙ ap (λ (s : List ℤ × (List Bool × List (Option ℕ))). s.1.0) shown))
