use Rattle.std.proofs.Common.{◌++◌, sym, ap, ◌∙◌, refl}
use Rattle.base_maps.specs.NameMap as map
use Rattle.base_maps.specs.Places.{find, numbered}
use Rattle.base_maps.proofs.ByText.{get-short, get-long}
use Rattle.base_maps.proofs.Put.{found}
use Rattle.base_maps.proofs.Table.find.Goals as goal

pub returns-in-Some-get : goal.returns-in-Some-get
returns-in-Some-get g c =
    let is = c.in-Some.ensures.some in
    let both = numbered (λ s. s.number) c.self.inside.short.entries ++ c.self.inside.crowded.entries in
    found c.in-Some.number c.self.inside.short.entries c.self.inside.crowded.entries c.in-Some-get.ensures.value ∙ ap (λ n. find n both) is.1
    ∙ sym (get-short both c.self.inside.long.entries c.args.name.now is.0) ∙ ap (λ m. map.get m c.args.name.now) c.self.view_is

pub returns-in-None-get : goal.returns-in-None-get
returns-in-None-get g c =
    let is = c.in-Some.ensures.some in
    let both = numbered (λ s. s.number) c.self.inside.short.entries ++ c.self.inside.crowded.entries in
    c.find_crowded.ensures ∙ found c.in-Some.number c.self.inside.short.entries c.self.inside.crowded.entries c.in-None-get.ensures.value ∙ ap (λ n. find n both) is.1
    ∙ sym (get-short both c.self.inside.long.entries c.args.name.now is.0) ∙ ap (λ m. map.get m c.args.name.now) c.self.view_is

pub returns-in-None : goal.returns-in-None
returns-in-None g c =
    c.find_long.ensures
    ∙ sym (get-long (numbered (λ s. s.number) c.self.inside.short.entries ++ c.self.inside.crowded.entries) c.self.inside.long.entries c.args.name.now (c.in-None.ensures.none refl))
    ∙ ap (λ m. map.get m c.args.name.now) c.self.view_is
