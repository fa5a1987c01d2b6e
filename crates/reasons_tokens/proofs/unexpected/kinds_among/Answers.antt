use Rattle.reasons_tokens.proofs.Standing.{one_more_row}
use Rattle.reasons_tokens.proofs.unexpected.kinds_among.Goals as goal

pub kinds-preserved : goal.kinds-preserved
kinds-preserved c =
    let more = one_more_row c.args.text.now c.args.offset c.kinds.kinds.items c.push_kind.new.kinds.items c.args.all.now c.kinds.kind-index _ c.kinds-test.true c.in_ok-push_kind.ensures c.kinds.invariant.few c.kinds.invariant.can in
    record { few = more.0; can = more.1 }
