use Rattle.std.proofs.Common.{rules, refl, subst}
use Rattle.std.proofs.lemmas.List.Sorted.{answers_always, IsNonDecreasingBy-from_sort_by_key}
use Rattle.group_rounds.specs.Ahead.{press_round, IsAhead}
use Rattle.group_rounds.proofs.Fronts.{sorted_ahead, a_press}
use Rattle.group_rounds.proofs.ahead.presses_by_round.Goals as goal

pub returns : goal.returns
returns c =
    let up = IsNonDecreasingBy-from_sort_by_key press_round _ c.in_ok-sort_by_key.ensures.sorted (λ a r q k. search rules) in
    let stable = c.sort_by_key.ensures.stable press_round (answers_always _ _ _ (λ f a r g h. search rules)) in
    subst (λ xs. IsAhead press_round 0 xs c.sort_by_key.new.self.items) (search rules) (sorted_ahead press_round a_press (λ n. refl) c.in_ok-ordered.ordered.items c.sort_by_key.new.self.items up stable)
