use Rattle.std.proofs.Common.{sym, ◌∙◌}
use Rattle.ranges_pass.proofs.Numbers.{on_ok_both, added_one, none_is}
use Rattle.ranges_pass.proofs.numbering.add.Goals as goal

pub returns : goal.returns
returns c =
    on_ok_both _ _ _ c.push.result
    (λ numbers declared. added_one c.args.unit.now c.args.numbering.now.numbers c.push.new.self.numbers c.args.numbering.now.declared c.push.new.self.declared c.args.name.now c.in-Some.range
    (sym c.number.ensures ∙ none_is c.number.result (sym c.is_some.ensures ∙ c.if-is_some.false)) (sym c.declared_range.ensures ∙ c.in-Some.is) numbers declared)
    c.push.ensures.numbers c.push.ensures.declared
