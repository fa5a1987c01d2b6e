use Rattle.std.specs.Prelude.{codes}
use Rattle.reasons_names.proofs.Pieces.{join, on_ok}
use Rattle.reasons_tokens.proofs.unexpected.put_first.Goals as goal

pub returns : goal.returns
returns c =
    on_ok c.put-2.result _ _
    (λ e. join c.args.lines.now.items (codes "expected: ") c.put.new.lines.items c.put-2.new.lines.items c.args.first.now.words.now c.in_ok-put.ensures e)
    c.put-2.ensures
