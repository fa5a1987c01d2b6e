use Rattle.std.proofs.Common.{List, ap, ◌∙◌, ◌++◌}
use Rattle.cli_host.specs.declared.press.Press.{Press}
use Rattle.cli_host.specs.declared.press.Setting.{Setting}
use Rattle.cli_output.specs.Outcomes.{fire_settings}
use Rattle.cli_output.proofs.Pressed.{driven_pressed, driven_at, driven_settings, from_parts}
use Rattle.cli_output.proofs.outcome.drive_of.Goals as goal

pub returns-clause-calls : goal.returns-clause-calls
returns-clause-calls c =
    driven_pressed c.args.sizes c.args.asked c.args.calls.now c.append.new.items c.in_ok-settings.settings
    (from_parts c.args.sizes c.args.asked c.args.calls.now c.in_ok-presses.presses c.in_ok-file.file.presses c.append.new.items c.in_ok-first.first c.in_ok-file.file.settings c.in_ok-settings.settings c.from.result c.from.ensures c.in_ok-presses.ensures.ok
    c.in_ok-first.ensures.ok c.in_ok-file.ensures.ok (c.in_ok-append.ensures ∙ ap (λ (l : List Press). c.in_ok-presses.presses ++ l) c.as_slice.ensures)
    (c.in_ok-settings.ensures ∙ ap (λ (l : List Setting). fire_settings c.in_ok-first.first ++ l) c.as_slice-2.ensures))

pub returns-clause-placed : goal.returns-clause-placed
returns-clause-placed c =
    driven_at c.args.sizes c.args.asked c.args.calls.now c.append.new.items c.in_ok-settings.settings
    (from_parts c.args.sizes c.args.asked c.args.calls.now c.in_ok-presses.presses c.in_ok-file.file.presses c.append.new.items c.in_ok-first.first c.in_ok-file.file.settings c.in_ok-settings.settings c.from.result c.from.ensures c.in_ok-presses.ensures.ok
    c.in_ok-first.ensures.ok c.in_ok-file.ensures.ok (c.in_ok-append.ensures ∙ ap (λ (l : List Press). c.in_ok-presses.presses ++ l) c.as_slice.ensures)
    (c.in_ok-settings.ensures ∙ ap (λ (l : List Setting). fire_settings c.in_ok-first.first ++ l) c.as_slice-2.ensures))

pub returns-clause-settings : goal.returns-clause-settings
returns-clause-settings c =
    driven_settings c.args.sizes c.args.asked c.args.calls.now c.append.new.items c.in_ok-settings.settings
    (from_parts c.args.sizes c.args.asked c.args.calls.now c.in_ok-presses.presses c.in_ok-file.file.presses c.append.new.items c.in_ok-first.first c.in_ok-file.file.settings c.in_ok-settings.settings c.from.result c.from.ensures c.in_ok-presses.ensures.ok
    c.in_ok-first.ensures.ok c.in_ok-file.ensures.ok (c.in_ok-append.ensures ∙ ap (λ (l : List Press). c.in_ok-presses.presses ++ l) c.as_slice.ensures)
    (c.in_ok-settings.ensures ∙ ap (λ (l : List Setting). fire_settings c.in_ok-first.first ++ l) c.as_slice-2.ensures))
