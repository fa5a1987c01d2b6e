use Rattle.std.proofs.Common.{◌≡◌, length, sym, ap, ◌∙◌, None, arith}
use Rattle.base_maps.specs.NameMap.{get, insert}
use Rattle.show_names.specs.Gathered.{IsSound, list_of}
use Rattle.show_names.proofs.Numbered.{new_lists, new_numbers, new_found}
use Rattle.show_names.proofs.gathered.Gathered.number.Goals as goal

pub returns-clause-sound : goal.returns-clause-sound
unfolding IsSound
returns-clause-sound g c =
    let t = c.args.self.now in
    let next : c.len-number.result ≡ length t.lists.items = omega (arith, t.lists.ok.0) in
    new_numbers t.lists.items c.push.new.self.items t.numbers c.put.new.self c.args.name.now c.new.result c.requires
    c.in_ok-push.ensures.items (c.in_ok-put.ensures.ok ∙ ap (insert t.numbers c.args.name.now) next)

pub returns-clause-same : goal.returns-clause-same
unfolding IsSound list_of
returns-clause-same g c =
    let t = c.args.self.now in
    let next : c.len-number.result ≡ length t.lists.items = omega (arith, t.lists.ok.0) in
    let none : get t.numbers c.args.name.now ≡ None = sym c.get.ensures ∙ c.in_default.is in
    new_lists t.lists.items c.push.new.self.items t.numbers c.put.new.self c.args.name.now c.new.result c.requires none c.new.ensures
    c.in_ok-push.ensures.items (c.in_ok-put.ensures.ok ∙ ap (insert t.numbers c.args.name.now) next)

pub returns-clause-found : goal.returns-clause-found
returns-clause-found g c = new_found c.args.self.now.numbers c.put.new.self c.args.name.now c.len-number.result c.in_ok-put.ensures.ok
