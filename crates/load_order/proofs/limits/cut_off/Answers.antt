use Rattle.std.proofs.Common.{◌≡◌, [], length, true, false, sym, subst, ap, ◌∙◌}
use Rattle.load_order.specs.Chained.{AreAmong}
use Rattle.load_order.proofs.Cutting.{cut_at, reached_among, named_among, none_among}
use Rattle.load_order.proofs.limits.cut_off.Goals as goal

pub returns-then-is_cut_off-clause-none : goal.returns-then-is_cut_off-clause-none
returns-then-is_cut_off-clause-none c =
    cut_at (length c.args.uses.now) c.args.uses.now c.args.limits.now c.requires.limits c.args.from c.requires.unit c.args.way.now c.new-none.result c.as_slice.result.now c.args.left (length c.as_slice-count.result.now) c.is_cut_off-2.result c.requires.away (none_among c.new-none.result c.args.way.now c.new-none.ensures) c.as_slice.ensures (ap length c.as_slice-count.ensures) c.is_cut_off-2.ensures c.if-is_cut_off.true

pub returns-then-is_cut_off-2-clause-among : goal.returns-then-is_cut_off-2-clause-among
returns-then-is_cut_off-2-clause-among c =
    let near : AreAmong c.in_ok-near.near c.args.way.now = subst (λ x. AreAmong x c.args.way.now) (sym c.in_ok-near.ensures) (reached_among c.args.limits.now.reached c.args.from c.args.way.now) in
    let named : AreAmong c.in_ok-named.named c.in_ok-near.near = subst (AreAmong c.in_ok-named.named) c.as_slice-2.ensures (subst (λ x. AreAmong x c.as_slice-2.result.now) (sym c.in_ok-named.ensures) (named_among c.args.limits.now c.as_slice-2.result.now)) in
    λ k a. near k (named k a)

pub returns-then-is_cut_off-2-clause-none : goal.returns-then-is_cut_off-2-clause-none
returns-then-is_cut_off-2-clause-none c =
    let near : AreAmong c.in_ok-near.near c.args.way.now = subst (λ x. AreAmong x c.args.way.now) (sym c.in_ok-near.ensures) (reached_among c.args.limits.now.reached c.args.from c.args.way.now) in
    let named : AreAmong c.in_ok-named.named c.in_ok-near.near = subst (AreAmong c.in_ok-named.named) c.as_slice-2.ensures (subst (λ x. AreAmong x c.as_slice-2.result.now) (sym c.in_ok-named.ensures) (named_among c.args.limits.now c.as_slice-2.result.now)) in
    cut_at (length c.args.uses.now) c.args.uses.now c.args.limits.now c.requires.limits c.args.from c.requires.unit c.args.way.now c.in_ok-named.named c.as_slice-3.result.now c.args.left (length c.as_slice-count.result.now) c.is_cut_off-3.result c.requires.away (λ k a. near k (named k a)) c.as_slice-3.ensures (ap length c.as_slice-count.ensures) c.is_cut_off-3.ensures c.if-is_cut_off-2.true

pub returns-then-is_cut_off-3-clause-among : goal.returns-then-is_cut_off-3-clause-among
returns-then-is_cut_off-3-clause-among c = subst (λ x. AreAmong x c.args.way.now) (sym c.in_ok-near.ensures) (reached_among c.args.limits.now.reached c.args.from c.args.way.now)

pub returns-then-is_cut_off-3-clause-none : goal.returns-then-is_cut_off-3-clause-none
returns-then-is_cut_off-3-clause-none c =
    cut_at (length c.args.uses.now) c.args.uses.now c.args.limits.now c.requires.limits c.args.from c.requires.unit c.args.way.now c.in_ok-near.near c.as_slice-4.result.now c.args.left (length c.as_slice-count.result.now) c.is_cut_off-4.result c.requires.away (subst (λ x. AreAmong x c.args.way.now) (sym c.in_ok-near.ensures) (reached_among c.args.limits.now.reached c.args.from c.args.way.now)) c.as_slice-4.ensures (ap length c.as_slice-count.ensures) c.is_cut_off-4.ensures c.if-is_cut_off-3.true
