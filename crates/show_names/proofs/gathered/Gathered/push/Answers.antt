use Rattle.std.proofs.Common.{◌<◌, ◌∷◌, ◌++◌, [], length, ap, ◌∙◌, arith}
use Rattle.std.proofs.lemmas.Result.{on_ok_weaker}
use Rattle.show_names.specs.Gathered.{IsSound, list_of, items_at}
use Rattle.show_names.proofs.Numbered.{pushed_lists, pushed_numbers}
use Rattle.show_names.proofs.gathered.Gathered.push.Goals as goal

pub push_at-requires : goal.push_at-requires
unfolding IsSound
push_at-requires g c =
    let t = c.number.new.self in
    let below : c.in_ok-number.number < length t.lists.items = c.in_ok-number.ensures.sound.within c.args.name.now c.in_ok-number.number c.in_ok-number.ensures.found in
    omega (arith, t.lists.ok.0)

pub returns-clause-sound : goal.returns-clause-sound
unfolding IsSound
returns-clause-sound g c =
    let t = c.number.new.self in
    let u = c.push_at.new.self in
    on_ok_weaker c.push_at.result (λ pushed. pushed_numbers t.lists.items u.lists.items t.numbers u.numbers c.in_ok-number.number (c.args.item ∷ []) c.in_ok-number.ensures.sound pushed c.push_at.ensures.numbers) c.push_at.ensures.lists

pub returns-clause-list : goal.returns-clause-list
unfolding IsSound list_of
returns-clause-list g c =
    let t = c.number.new.self in
    let u = c.push_at.new.self in
    on_ok_weaker c.push_at.result (λ pushed other.
    pushed_lists t.lists.items u.lists.items t.numbers u.numbers c.args.name.now c.in_ok-number.number (c.args.item ∷ []) c.in_ok-number.ensures.sound c.in_ok-number.ensures.found pushed c.push_at.ensures.numbers other
    ∙ ap (λ l. l ++ items_at c.args.name.now (c.args.item ∷ []) other) (c.in_ok-number.ensures.same other)) c.push_at.ensures.lists
