use Rattle.std.proofs.Common.{rules, ◌≡◌, ◌++◌, ◌∷◌, [], None, map, take, ◌+◌, subst, sym, ap, ◌∙◌}
use Rattle.std.specs.Prelude.{string_bytes}
use Rattle.cli_host.proofs.Parts.{so_far}
use Rattle.show_values.specs.declared.asked.Asked.{Asked}
use Rattle.show_values.specs.Asked.{nothing_asked}
use Rattle.show_values.specs.Names.{IsReadAs}
use Rattle.scan_task.specs.declared.verified.Verified.{Verified}
use Rattle.show_values.specs.Unnamed.{unnamed_sentence}
use Rattle.show_values.specs.Values.{AreWatched, value_of}
use Rattle.show_values.proofs.Watching.{one_unknown, one_watched, missing, there}
use Rattle.show_values.proofs.watch.watched_of.Goals as goal

pub names-preserved : goal.names-preserved
names-preserved c =
    let w = c.args.world.now.world in
    let it = c.read-it.result in
    let read : IsReadAs (string_bytes c.name-item.result) it = subst (λ n. IsReadAs n it) c.deref.ensures c.read-it.ensures in
    let known : value_of it nothing_asked w ≡ None → ⊥ =
    λ none. there c.value_of.result (search (rules, c.is_none.ensures, c.if-is_none.false)) (c.value_of.ensures ∙ ap (λ (a : Asked). value_of it a w) c.new-nothing.ensures ∙ none)
    in
    subst (AreWatched w (map string_bytes (take (c.names.name-index + 1) c.args.names.now))) (sym c.in_ok-push.ensures.ok)
    (subst (λ ns. AreWatched w ns (c.names.watched ++ it ∷ [])) (so_far [] c.args.names.now c.names.name-index c.name-item.result c.names-test.true c.name-item.is)
    (one_watched w (map string_bytes (take c.names.name-index c.args.names.now)) c.names.watched (string_bytes c.name-item.result) it c.names.invariant read known))

pub returns-then-is_none-clause-unknown : goal.returns-then-is_none-clause-unknown
returns-then-is_none-clause-unknown c =
    let program = c.args.world.now.program in
    let w = c.args.world.now.world in
    let it = c.read-it.result in
    let none : value_of it nothing_asked w ≡ None =
    ap (λ (a : Asked). value_of it a w) (sym c.new-nothing.ensures) ∙ sym c.value_of.ensures ∙ missing c.value_of.result (search (rules, c.is_none.ensures, c.if-is_none.true))
    in
    one_unknown program.config w c.args.names.now c.names.name-index c.name-item.result c.names-test.true c.name-item.is it c.deref.result.now (string_bytes c.in_ok-from_str.field-0) (string_bytes c.in_ok-unnamed_sentence.field-0) c.deref.ensures (c.in_ok-from_str.ensures.ok ∙ c.deref-then-is_none.ensures ∙ sym c.deref.ensures)
    c.read-it.ensures none
    (c.in_ok-unnamed_sentence.ensures ∙ ap (λ (v : Verified). unnamed_sentence v.config c.deref-then-is_none-2.result.now) c.verified.ensures ∙ ap (unnamed_sentence program.config) (c.deref-then-is_none-2.ensures ∙ sym c.deref.ensures))
