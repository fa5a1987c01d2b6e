use Rattle.std.proofs.Common.{ap, sym, ◌∙◌, map, option_map}
use Rattle.std.proofs.lemmas.List.{drop_all}
use Rattle.reasons_names.specs.NamesNear.{candidate_shown, near_shown, nearest_from}
use Rattle.reasons_names.proofs.Nearest.{nearest_is}
use Rattle.reasons_names.proofs.names_near.nearest.Goals as goal

pub returns-clause-nobody_nearer : goal.returns-clause-nobody_nearer
returns-clause-nobody_nearer c =
    let none_left = drop_all c.candidates.candidate-index c.args.candidates.now c.candidates-test.false in
    nearest_is c.args.name.now (map candidate_shown c.args.candidates.now) (option_map near_shown c.candidates.found)
    (ap (λ ks. nearest_from c.args.name.now (option_map near_shown c.candidates.found) (map candidate_shown ks)) (sym none_left) ∙ c.candidates.invariant)
