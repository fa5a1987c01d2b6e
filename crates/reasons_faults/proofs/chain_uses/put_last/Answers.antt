use Rattle.std.specs.Prelude.{string_bytes}
use Rattle.reasons_faults.proofs.ChainUses.{last_added}
use Rattle.reasons_faults.proofs.chain_uses.put_last.Goals as goal

pub returns : goal.returns
returns c = λ _.
    last_added c.args.names.now c.args.user.now c.in-Some.used.unit.now c.args.other c.in-Some.used.line (string_bytes c.args.text.now) (string_bytes c.put_use.new.text) (string_bytes c.push_str.new.self)
    c.in-Some.ensures.unit c.in-Some.ensures.line c.in_ok-put_use.ensures c.in_ok-push_str.ensures.bytes
