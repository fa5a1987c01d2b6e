use Rattle.std.proofs.Common.{◌∷◌, ◌+◌, Bool, false, drop, sym, ap, ◌∙◌}
use Rattle.std.proofs.lemmas.List.{drop_all, at_drop_more}
use Rattle.serve_lines.specs.Going.{are_shut}
use Rattle.serve_lines.proofs.going.are_shut.Goals as goal

pub returns : goal.returns
returns c = sym (c.marks.invariant ∙ ap are_shut (drop_all c.marks.mark-index c.args.marks.now c.marks-test.false))

pub returns-then-mark : goal.returns-then-mark
returns-then-mark c =
    sym (c.marks.invariant ∙ at_drop_more are_shut c.args.marks.now c.marks.mark-index false c.marks-test.true ∙ ap (λ (b : Bool). are_shut (b ∷ drop (c.marks.mark-index + 1) c.args.marks.now)) c.if-mark.true)

pub marks-preserved : goal.marks-preserved
marks-preserved c =
    c.marks.invariant ∙ at_drop_more are_shut c.args.marks.now c.marks.mark-index false c.marks-test.true ∙ ap (λ (b : Bool). are_shut (b ∷ drop (c.marks.mark-index + 1) c.args.marks.now)) c.if-mark.false
