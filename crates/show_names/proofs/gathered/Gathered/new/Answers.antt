use Rattle.std.proofs.Common.{ap, ◌∙◌}
use Rattle.base_maps.specs.NameMap.{get, get-empty}
use Rattle.show_names.specs.Gathered.{numbered, IsSound, list_of}
use Rattle.show_names.proofs.Numbered.{first_numbers}
use Rattle.show_names.proofs.gathered.Gathered.new.Goals as goal

pub returns-clause-sound : goal.returns-clause-sound
unfolding IsSound
returns-clause-sound g c = first_numbers c.new.result c.new-2.result.items c.new.ensures c.new-2.ensures.items

pub returns-clause-empty : goal.returns-clause-empty
unfolding list_of
returns-clause-empty g c = λ name. ap (λ m. numbered c.new-2.result.items (get m name)) c.new.ensures ∙ ap (numbered c.new-2.result.items) (get-empty name)
