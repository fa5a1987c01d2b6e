use Rattle.std.proofs.Common.{rules, ◌≤◌, ◌∙◌, ap, subst}
use Rattle.std.specs.Prelude.{Some, option_map}
use Rattle.cli_host.specs.CallsFile.{pieces_left, most_lines}
use Rattle.cli_host.specs.declared.calls.Cut.TheVariants.{Feed}
use Rattle.cli_host.proofs.Lines.{SaidSoFar, one_further}
use Rattle.cli_host.proofs.calls.read_lines.Goals as goal

pub lines-preserved : goal.lines-preserved
lines-preserved c =
    let b = c.args.bounds in
    let lines = pieces_left Feed (Some c.args.text.now) in
    let low : c.lines.number ≤ most_lines = search (rules, c.if-number-gt-MOST_LINES.false) in
    let so = subst (λ behind. SaidSoFar b.rounds b.floors b.cars lines c.lines.number behind c.lines.file.presses c.lines.file.settings)
    (ap (λ rest. pieces_left Feed (option_map (λ left. left.now) rest)) c.in-Some.is ∙ c.first_piece.ensures) c.lines.invariant in
    one_further b.rounds b.floors b.cars lines c.lines.number c.first_piece.result.0.now (pieces_left Feed (option_map (λ left. left.now) c.first_piece.result.1)) c.lines.file.presses c.add.new.self.presses c.lines.file.settings
    c.add.new.self.settings c.in-Some-line_of.said low so c.in-Some-line_of.ensures.some c.in_ok-add.ensures.presses c.in_ok-add.ensures.settings
