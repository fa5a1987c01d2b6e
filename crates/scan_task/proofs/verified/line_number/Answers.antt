use Rattle.std.proofs.Common.{◌≡◌, ◌∙◌, sym, ap, arith, drop, ◌+◌, suc}
use Rattle.scan_task.specs.Listing.{is_task_name, program_line_of}
use Rattle.scan_task.proofs.Lines.{found_here, passed_here, none_left}
use Rattle.scan_task.proofs.verified.line_number.Goals as goal

pub returns-then-is_task_name-clause-some : goal.returns-then-is_task_name-clause-some
returns-then-is_task_name-clause-some c =
    found_here c.args.lines.now c.args.number c.lines.at c.index-lines-at.result c.lines-test.true (ap (λ t. is_task_name t c.args.number) (sym c.as_str.ensures) ∙ sym c.is_task_name.ensures ∙ c.if-is_task_name.true) ∙ c.lines.invariant

pub lines-preserved : goal.lines-preserved
lines-preserved c =
    let one : suc c.lines.at ≡ c.lines.at + 1 = omega arith in
    ap (λ k. program_line_of (drop k c.args.lines.now) c.args.number) (sym one)
    ∙ sym (passed_here c.args.lines.now c.args.number c.lines.at c.index-lines-at.result c.lines-test.true (ap (λ t. is_task_name t c.args.number) (sym c.as_str.ensures) ∙ sym c.is_task_name.ensures ∙ c.if-is_task_name.false)) ∙ c.lines.invariant

pub returns-clause-none : goal.returns-clause-none
returns-clause-none c = let none = c.lines-test.false in sym c.lines.invariant ∙ none_left c.args.lines.now c.args.number c.lines.at (omega (arith, none))
