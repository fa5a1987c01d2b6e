use Rattle.std.proofs.Common.{rules, [], ◌++◌, map, subst, append_assoc}
use Rattle.std.specs.Prelude.{string_bytes}
use Rattle.cli_host.specs.Presses.{AreOfWords}
use Rattle.cli_host.proofs.Parts.{none_in_front, none_in_back, of_none}
use Rattle.cli_host.proofs.press.each_press.Goals as goal

pub returns-in_err-add_presses-clause-err : goal.returns-in_err-add_presses-clause-err
returns-in_err-add_presses-clause-err c =
    let e = c.from_residual.ensures in
    let h = none_in_front c.args.rounds c.args.floors (map string_bytes c.args.words.front.now) (map string_bytes c.args.words.middle.now ++ map string_bytes c.args.words.back.now) c.in_err-add_presses.field-0.0 c.in_err-add_presses.ensures.err in
    search (rules, e, h)

pub returns-in_err-add_presses-2-clause-err : goal.returns-in_err-add_presses-2-clause-err
returns-in_err-add_presses-2-clause-err c =
    let e = c.from_residual-in_err-add_presses-2.ensures in
    let g = none_in_front c.args.rounds c.args.floors (map string_bytes c.args.words.middle.now) (map string_bytes c.args.words.back.now) c.in_err-add_presses-2.field-0.0 c.in_err-add_presses-2.ensures.err in
    let h = none_in_back c.args.rounds c.args.floors (map string_bytes c.args.words.front.now) (map string_bytes c.args.words.middle.now ++ map string_bytes c.args.words.back.now) c.in_err-add_presses-2.field-0.0 g in
    search (rules, e, h)

pub returns-in_err-add_presses-3-clause-err : goal.returns-in_err-add_presses-3-clause-err
returns-in_err-add_presses-3-clause-err c =
    let e = c.from_residual-in_err-add_presses-3.ensures in
    let g = none_in_back c.args.rounds c.args.floors (map string_bytes c.args.words.middle.now) (map string_bytes c.args.words.back.now) c.in_err-add_presses-3.field-0.0 c.in_err-add_presses-3.ensures.err in
    let h = none_in_back c.args.rounds c.args.floors (map string_bytes c.args.words.front.now) (map string_bytes c.args.words.middle.now ++ map string_bytes c.args.words.back.now) c.in_err-add_presses-3.field-0.0 g in
    search (rules, e, h)

pub returns-clause-ok : goal.returns-clause-ok
returns-clause-ok c =
    let front = map string_bytes c.args.words.front.now in
    let middle = map string_bytes c.args.words.middle.now in
    let back = map string_bytes c.args.words.back.now in
    subst (λ ws. AreOfWords c.args.rounds c.args.floors ws c.add_presses-3.new.presses) (append_assoc front middle back)
    (c.in_ok-add_presses-3.ensures.ok (front ++ middle) (c.in_ok-add_presses-2.ensures.ok front (c.in_ok-add_presses.ensures.ok [] (of_none c.args.rounds c.args.floors _ c.new-presses.ensures))))
