use Rattle.std.proofs.Common.{arith, ◌≡◌, ◌≤◌, ℕ, List, ◌∷◌, ◌++◌, refl, sym, ◌∙◌}
use Rattle.group_spec.specs.declared.image.CarFields.{CarFields}
use Rattle.trace_text.specs.Text.{flags, car_part}
use Rattle.trace_text.specs.Parts.{Ends}
use Rattle.trace_text.proofs.Bytes.{if_none, some_by, none_by}
use Rattle.trace_text.proofs.Numbers.{car_split, part_once, car_made}
use Rattle.trace_text.proofs.parts.car.Goals as goal

abbrev NoCar : List ℕ → Type 0
NoCar text = (car : CarFields) (rest : List ℕ) → car.pos ≤ 255 → Ends 32 rest → text ≡ car_part car ++ rest → ⊥

pub returns-in_err-pos-clause-none : goal.returns-in_err-pos-clause-none
returns-in_err-pos-clause-none c =
    let none : NoCar c.args.text.now = λ car rest h f e. c.in_err-pos.ensures.none car.pos (32 ∷ (flags car ++ rest)) h refl (e ∙ car_split car rest) in
    if_none _ _ none

pub returns-clause-found : goal.returns-clause-found
returns-clause-found c =
    let pos = c.in_ok-pos.ensures.found in
    some_by c.car_at.result _ _
    (λ p found. (omega (arith, found.0, pos.0), car_made p.0 c.in_ok-pos.pos c.args.text.now c.in_ok-pos.rest.now p.1.now pos.1 found.1 found.0, found.2)) c.car_at.ensures.found

pub returns-clause-none : goal.returns-clause-none
returns-clause-none c =
    let pos = c.in_ok-pos.ensures.found in
    none_by c.car_at.result _ (NoCar c.args.text.now)
    (λ no car rest h f e. no car rest f (part_once c.in_ok-pos.pos car.pos c.in_ok-pos.rest.now (32 ∷ (flags car ++ rest)) (omega arith) (omega arith) pos.2 refl (sym pos.1 ∙ (e ∙ car_split car rest))).1) c.car_at.ensures.none
