-- What instructions hand on.
use Rattle.std.proofs.Common.{◌≡◌, ℕ, Bool, true, false, List, ◌∷◌, Option, Some, None, option_map, refl, sym, ap, ◌∙◌}
use Rattle.il_syntax.specs.declared.tree.Condition.{Condition}
use Rattle.il_syntax.specs.declared.tree.Operand.{Operand}
use Rattle.il_syntax.specs.declared.tree.Operator.{Operator}
use Rattle.il_semantics.specs.declared.known.Known.{Known}
use Rattle.il_semantics.specs.declared.known.KnownDeferred.{KnownDeferred}
use Rattle.ranges_laws.specs.declared.facts.Facts.{Facts}
use Rattle.ranges_laws.specs.Facts.{Names, facts}
use Rattle.ranges_laws.specs.Found.{provided}
use Rattle.ranges_laws.specs.Steps.{to_next, jumping_to, loaded_operand, aside, deferred, paired, moves_of_defer}
use Rattle.ranges_transfer.specs.Kinds.{first_loaded}
use Rattle.ranges_transfer.specs.Scopes.{denoted}

-- an `OP(` with what it loads
pub aside_is : (n : Names) (f : Facts) (operator : Operator) (first : Option Operand) (left : Known) (result : Option Known) (ds : List KnownDeferred) → f.result ≡ Some left → first_loaded n f.row first ≡ Some result → ds ≡ deferred operator left ∷ f.deferred
    → moves_of_defer n n.config n.unit f operator first ≡ Some (to_next (facts f.row result ds))
aside_is n f operator None left result ds is loaded all =
    let same : ◌≡◌ {A = Option Known} None result = cc in
    ap (option_map (λ l. to_next (aside f operator l None))) is ∙ ap (λ r. Some (to_next (facts f.row r (deferred operator left ∷ f.deferred)))) same ∙ ap (λ x. Some (to_next (facts f.row result x))) (sym all)
aside_is n f operator (Some o) left result ds is loaded all = by_loaded (loaded_operand n f.row (denoted n o.reference)) refl loaded
  where
    by_loaded : (p : Option Known) → loaded_operand n f.row (denoted n o.reference) ≡ p → option_map Some p ≡ Some result → moves_of_defer n n.config n.unit f operator (Some o) ≡ Some (to_next (facts f.row result ds))
    by_loaded None e h = let bad : ◌≡◌ {A = Option (Option Known)} None (Some result) = h in cc
    by_loaded (Some k) e h =
        let same : Some k ≡ result = cc in
        ap (λ r. option_map (λ (p : Known × Known). to_next (aside f operator p.0 (Some p.1))) (paired r (loaded_operand n f.row (denoted n o.reference)))) is
        ∙ ap (λ r. option_map (λ (p : Known × Known). to_next (aside f operator p.0 (Some p.1))) (paired (Some left) r)) e ∙ ap (λ r. Some (to_next (facts f.row r (deferred operator left ∷ f.deferred)))) same ∙ ap (λ x. Some (to_next (facts f.row result x))) (sym all)

-- a jump goes where its target is
pub goes_to : (a b : Bool) (condition : Condition) (f : Facts) (o : Option ℕ) → provided a (provided b (jumping_to condition f o)) ≡ jumping_to condition f (provided a (provided b o))
goes_to true true condition f o = refl
goes_to true false condition f o = refl
goes_to false b condition f o = refl
