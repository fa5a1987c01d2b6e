-- A round that changes no cost is the last that could.
use Rattle.std.proofs.Common.{◌≡◌, ℕ, zero, suc, ◌+◌, ◌-◌, ◌<◌, List, sym, ap, ◌∙◌, arith}
use Rattle.load_budgets.specs.Rounds.{costs_by, rounds}
use Rattle.load_budgets.specs.declared.ways.Way.{Way}

-- so many rounds later the costs are the same
same_later : (all : List (List Way)) (costs : List ℕ) (done : ℕ) → costs ≡ rounds done all → costs_by all costs ≡ costs → (more n : ℕ) → n ≡ more + done → rounds n all ≡ costs
same_later all costs done is same zero n count = ap (λ k. rounds k all) (let e : n ≡ done = omega (arith, count) in e) ∙ sym is
same_later all costs done is same (suc more) n count =
    let e : n ≡ suc (more + done) = omega (arith, count) in
    let before : rounds (more + done) all ≡ costs = same_later all costs done is same more (more + done) (omega arith) in
    ap (λ k. rounds k all) e ∙ ap (costs_by all) before ∙ same

pub steady : (all : List (List Way)) (costs next : List ℕ) (done : ℕ) → done < 16 → costs ≡ rounds done all → next ≡ costs_by all costs → next ≡ costs → next ≡ rounds 16 all
steady all costs next done low is made same = same ∙ sym (same_later all costs done is (sym made ∙ same) (16 - done) 16 (omega (arith, low)))
