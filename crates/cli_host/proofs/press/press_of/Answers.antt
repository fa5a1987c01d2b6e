use Rattle.std.proofs.Common.{◌∷◌, ◌∙◌, ap, refl}
use Rattle.std.proofs.lemmas.Option.{IfSome_then}
use Rattle.cli_host.proofs.Parts.{press_of_more, plain_press, panel_press}
use Rattle.cli_host.proofs.press.press_of.Goals as goal

pub returns-in_err-panel-in-Some-clause-none : goal.returns-in_err-panel-in-Some-clause-none
returns-in_err-panel-in-Some-clause-none c = λ _ p is.
    let e = c.in_ok-round.ensures.some ∙ ap (λ ps. c.in_ok-round.round.now ∷ ps) (c.in_ok-from.ensures.some ∙ ap (λ ps. c.in_ok-from.from.now ∷ ps) c.in-Some.ensures.some) in
    c.in_err-panel-in-Some.ensures.none refl p.panel (press_of_more c.args.rounds c.args.floors c.args.word.now c.in_ok-round.round.now c.in_ok-from.from.now c.in-Some.to.now c.in-Some.panel.now e p is).1

pub returns-in-None-clause-some : goal.returns-in-None-clause-some
returns-in-None-clause-some c =
    let e = c.in_ok-round.ensures.some ∙ ap (λ ps. c.in_ok-round.round.now ∷ ps) (c.in_ok-from.ensures.some ∙ ap (λ ps. c.in_ok-from.from.now ∷ ps) (c.in-None.ensures.none refl)) in
    IfSome_then c.press_by.result c.press_by.ensures.some (plain_press c.args.rounds c.args.floors c.args.word.now c.in_ok-round.round.now c.in_ok-from.from.now c.in_ok-from.to.now e)

pub returns-in_ok-panel-in-Some-clause-some : goal.returns-in_ok-panel-in-Some-clause-some
returns-in_ok-panel-in-Some-clause-some c =
    let e = c.in_ok-round.ensures.some ∙ ap (λ ps. c.in_ok-round.round.now ∷ ps) (c.in_ok-from.ensures.some ∙ ap (λ ps. c.in_ok-from.from.now ∷ ps) c.in-Some.ensures.some) in
    IfSome_then c.press_by-in-Some.result c.press_by-in-Some.ensures.some
    (panel_press c.args.rounds c.args.floors c.args.word.now c.in_ok-round.round.now c.in_ok-from.from.now c.in-Some.to.now c.in-Some.panel.now c.in_ok-panel-in-Some.panel e c.in_ok-panel-in-Some.ensures.some)
