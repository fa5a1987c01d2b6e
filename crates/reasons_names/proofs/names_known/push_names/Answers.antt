use Rattle.std.proofs.Common.{◌++◌, ◌∷◌, [], List, ℕ, Some, map, ap, ◌∙◌}
use Rattle.il_syntax.specs.declared.tree.Named.{Named}
use Rattle.reasons_names.specs.NamesNear.{candidate_shown, known_name, declared_name}
use Rattle.reasons_names.proofs.TypeTexts.{mapped_more}
use Rattle.reasons_names.proofs.names_known.push_names.Goals as goal

pub names-preserved : goal.names-preserved
names-preserved c =
    let named = c.named-item.result in
    let old = map candidate_shown c.names.candidates.items in
    mapped_more declared_name c.args.names.now c.names.named-index named (map candidate_shown c.args.candidates.now.items) old (map candidate_shown c.push_known.new.candidates.items)
    c.names-test.true c.names.invariant
    (c.in_ok-push_known.ensures ∙ ap (λ (s : List ℕ). old ++ known_name s (Some named.place.line) ∷ []) c.as_str.ensures ∙ ap (λ (n : Named). old ++ declared_name n ∷ []) c.named-item.is)
