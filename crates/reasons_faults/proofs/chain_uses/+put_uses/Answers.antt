use Rattle.std.proofs.Common.{sym, subst, string_bytes}
use Rattle.reasons_faults.specs.ChainReasons.{AreAdded}
use Rattle.reasons_names.proofs.Pieces.{if_ok}
use Rattle.reasons_faults.proofs.ChainUses.{next_added}
use Rattle.reasons_faults.proofs.chain_uses.+put_uses.Goals as goal

pub returns : goal.returns
returns t c =
    let names = c.args.names.now in
    let user = c.args.user.now in
    let used = c.in-Some-next_of.used in
    let old = string_bytes c.args.text.now in
    let new = string_bytes c.put_uses.new.text in
    if_ok c.put_uses.result _ _
    (λ all more is. subst (λ between. AreAdded names user between c.args.other old new) (sym c.in-Some.ensures.cases.0)
    (next_added names user used.unit.now c.in-Some.next.now c.in-Some.rest.now c.args.other used.line old (string_bytes c.put_use.new.text) (string_bytes c.push_str.new.self) new
    c.in-Some-next_of.ensures.unit c.in-Some-next_of.ensures.line c.in-Some-next_of.ensures.apart c.in_ok-put_use.ensures c.in_ok-push_str.ensures.bytes (more is)))
    c.put_uses.ensures
