use Rattle.std.proofs.Common.{◌++◌, flat_map, sym, ap, ◌∙◌, append_assoc, string_bytes}
use Rattle.std.proofs.lemmas.List.{append-nil}
use Rattle.std.specs.Prelude.{is_some}
use Rattle.show_names.specs.Uses.{uses, use_shown, uses_left}
use Rattle.show_names.specs.Xref.{other_row}
use Rattle.show_names.proofs.Seen.{unseen, unseen_first, unseen_seen, unseen_new}
use Rattle.show_names.proofs.xref.put_others.Goals as goal

pub uses-init : goal.uses-init
uses-init c =
    let unit = c.args.unit.now.unit.now in
    let all = ap uses_left c.into_iter-used-iterator.ensures.into_iter_gives ∙ c.uses-used-items.ensures ∙ ap uses c.as_slice.ensures in
    ap (λ names. string_bytes c.args.text.now ++ flat_map (other_row c.args.form unit.body.steps) names)
    (ap (unseen c.in_ok-seen.seen) all ∙ unseen_first unit (uses unit.body.steps) c.in_ok-seen.seen c.in_ok-seen.ensures)

pub uses-preserved-in-Continue-branch-3 : goal.uses-preserved-in-Continue-branch-3
uses-preserved-in-Continue-branch-3 c =
    let line = other_row c.args.form c.args.unit.now.unit.now.body.steps in
    let rest = unseen c.put.new.self (uses_left c.next.new.self) in
    let names = unseen_new c.uses.seen c.put.new.self (uses_left c.uses.used-iterator) (uses_left c.next.new.self) (use_shown c.in-Some.used) c.in-Some.ensures.steps (ap is_some (sym c.get.ensures) ∙ c.if-is_none.ensures) c.in_ok-put.ensures.ok in
    ap (λ t. t ++ flat_map line rest) c.in_ok-put_other_row.ensures
    ∙ append_assoc (string_bytes c.uses.text) (line c.in-Some.used.name.now) (flat_map line rest)
    ∙ ap (λ ns. string_bytes c.uses.text ++ flat_map line ns) (sym names) ∙ c.uses.invariant

pub uses-preserved : goal.uses-preserved
uses-preserved c =
    let line = other_row c.args.form c.args.unit.now.unit.now.body.steps in
    let names = unseen_seen c.uses.seen (uses_left c.uses.used-iterator) (uses_left c.next.new.self) (use_shown c.in-Some.used) c.in-Some.ensures.steps (ap is_some (sym c.get.ensures) ∙ c.if-is_none.ensures) in
    ap (λ ns. string_bytes c.uses.text ++ flat_map line ns) (sym names) ∙ c.uses.invariant

pub returns : goal.returns
returns c =
    let line = other_row c.args.form c.args.unit.now.unit.now.body.steps in
    sym (append-nil _) ∙ ap (λ us. string_bytes c.uses.text ++ flat_map line (unseen c.uses.seen us)) (sym c.in-None.ensures.steps.0) ∙ c.uses.invariant
