use Rattle.std.proofs.Common.{◌≡◌, ◌++◌, ap, ◌∙◌, refl, subst, Some, string_bytes}
use Rattle.std.specs.BTreeMap.{UpdatesBy}
use Rattle.std.specs.String.{string_cmp}
use Rattle.base_maps.specs.NameMap as map
use Rattle.base_maps.specs.NameMap.{order}
use Rattle.base_maps.specs.Places.{HasPut, numbered}
use Rattle.base_maps.proofs.ByText.{put_short, put_long}
use Rattle.base_maps.proofs.Table.put.Goals as goal

pub returns-in_ok-put_short-in-Some-clause-ok : goal.returns-in_ok-put_short-in-Some-clause-ok
returns-in_ok-put_short-in-Some-clause-ok g c =
    let is = c.in-Some.ensures.some in
    let old = numbered (λ s. s.number) c.self.inside.short.entries ++ c.self.inside.crowded.entries in
    let new = numbered (λ s. s.number) c.put_short.new.short.entries ++ c.put_short.new.crowded.entries in
    put_short old new c.self.inside.long.entries c.args.name.now c.args.entry is.0
    (subst (λ n. HasPut old new n c.args.entry) is.1 c.in_ok-put_short-in-Some.ensures.ok)
    ∙ ap (λ m. map.insert m c.args.name.now c.args.entry) c.self.view_is

pub returns-in_ok-insert-in-None-clause-ok : goal.returns-in_ok-insert-in-None-clause-ok
returns-in_ok-insert-in-None-clause-ok g c =
    let key : string_bytes c.in_ok-from_str-in-None.field-0 ≡ c.args.name.now = c.in_ok-from_str-in-None.ensures.ok in
    put_long (numbered (λ s. s.number) c.self.inside.short.entries ++ c.self.inside.crowded.entries) c.self.inside.long c.insert.new.self c.args.name.now c.args.entry
    (c.in-None.ensures.none refl)
    (subst (λ k. UpdatesBy string_cmp (λ x. order k (string_bytes x)) c.self.inside.long c.insert.new.self (Some c.args.entry)) key c.in_ok-insert-in-None.ensures.updates)
    ∙ ap (λ m. map.insert m c.args.name.now c.args.entry) c.self.view_is
