use Rattle.std.proofs.Common.{sym, ap, ◌∙◌}
use Rattle.std.specs.Prelude.{bytes_eq, is_some}
use Rattle.std.specs.List.{list_any}
use Rattle.show_names.specs.Names.{DeclaredName, declared_names, name_shown, names_left}
use Rattle.show_names.proofs.Pushes.{places_first, places_next}
use Rattle.show_names.proofs.Seen.{has_none, told_none, told_put}
use Rattle.show_names.proofs.global_uses.add_externals.Goals as goal

pub names-init : goal.names-init
names-init c =
    let unit = c.args.uses.now.unit.now in
    let all = ap names_left c.into_iter-declared-iterator.ensures.into_iter_gives ∙ c.declared_names-declared-items.ensures ∙ ap declared_names c.as_slice.ensures in (
      c.requires,
      places_first c.args.lines.now c.new-seen.result unit (has_none c.new-seen.result c.new-seen.ensures),
      λ name. told_none c.new-seen.result (names_left c.into_iter-declared-iterator.result) c.new-seen.ensures name ∙ ap (λ l. list_any (λ (n : DeclaredName). bytes_eq n.name name) l) all,
    )

pub names-preserved-in-Continue-branch-2 : goal.names-preserved-in-Continue-branch-2
names-preserved-in-Continue-branch-2 c = (
  c.in_ok-add_external.ensures.sound,
  places_next c.args.lines.now c.names.lines c.add_external.new.lines c.names.seen c.put.new.self c.in-Some.declared.name.now c.args.uses.now.unit.now
      (ap is_some (sym c.get.ensures) ∙ c.if-is_none.ensures) c.in_ok-add_external.ensures.lines c.in_ok-put.ensures.ok c.names.invariant.1,
  λ name. told_put c.names.seen c.put.new.self (names_left c.names.declared-iterator) (names_left c.next.new.self) (name_shown c.in-Some.declared) c.in-Some.ensures.steps c.in_ok-put.ensures.ok name ∙ c.names.invariant.2 name,
)
