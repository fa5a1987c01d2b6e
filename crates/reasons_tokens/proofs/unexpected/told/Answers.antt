use Rattle.reasons_tokens.proofs.Standing.{all_told}
use Rattle.reasons_tokens.proofs.unexpected.told.Goals as goal

pub returns : goal.returns
returns c =
    all_told c.args.text.now c.args.tokens.now c.args.place c.in_ok-kinds.kinds.items c.deref.result.now c.new-lines.result.items c.put_found.new.lines.items c.put_expected.new.lines.items c.put_left_out.new.lines.items c.put_instead.new.lines.items c.put_open.new.lines.items
    c.deref.ensures.value c.in_ok-kinds.ensures.few c.in_ok-kinds.ensures.can c.new-lines.ensures.items c.in_ok-put_found.ensures c.in_ok-put_expected.ensures c.in_ok-put_left_out.ensures c.in_ok-put_instead.ensures c.in_ok-put_open.ensures
