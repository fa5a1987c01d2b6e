use Rattle.std.proofs.Common.{refl, rules, tests}
use Rattle.std.specs.Prelude.{bytes_eq}
use Rattle.std.proofs.lemmas.Iterator.Consumers.{YieldsList-from_first}
use Rattle.std.proofs.lemmas.Iterator.Search.{find_from_yields_List}
use Rattle.scan_task.specs.Listing.{unit_shown}
use Rattle.scan_task.proofs.verified.find_unit.Goals as goal

pub returns : goal.returns
returns c =
    find_from_yields_List (λ u. bytes_eq u.name c.args.name.now) _ _ _ c.find.ensures.ran (YieldsList-from_first unit_shown (λ left. left) c.args.units refl)
    (λ x b q k. search (rules, tests))
