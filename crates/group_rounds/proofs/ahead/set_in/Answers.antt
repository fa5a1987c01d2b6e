use Rattle.std.proofs.Common.{◌≡◌, ◌-◌, List, length, take, drop, arith, sym, subst}
use Rattle.std.proofs.lemmas.List.{take_all, length-drop}
use Rattle.cli_host.specs.declared.press.Setting.{Setting}
use Rattle.group_rounds.specs.Ahead.{IsStanding}
use Rattle.group_rounds.proofs.Fronts.{next_stands}
use Rattle.group_rounds.proofs.ahead.set_in.Goals as goal

pub returns : goal.returns
returns c = λ cars n all number stands.
    let later = c.args.before.later.now in
    let due = c.settings_due-due.result in
    let whole : take (length later - due) (drop due later) ≡ drop due later = take_all (length later - due) (drop due later) (omega (arith, length-drop due later)) in
    subst (λ (ss : List Setting). IsStanding cars all c.args.round c.set_all.result ss) (sym whole)
    (subst (λ s. IsStanding cars all c.args.round s (drop due later)) (sym c.set_all.ensures)
    (next_stands cars n c.args.round all c.args.before.switches later (take due later) (drop due later) number stands (record { own = c.settings_due-due.ensures.due; ahead = c.settings_due-due.ensures.later })))
