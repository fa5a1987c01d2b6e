use Rattle.std.proofs.Common.{◌≡◌, ℕ, ◌+◌, ◌≤◌, zero, suc, [], ◌∷◌, ◌++◌, sym, ap, ◌∙◌, arith}
use Rattle.std.specs.Prelude.{codes, ◌&&◌, bytes_eq}
use Rattle.std.proofs.lemmas.Fmt.{decimal_digit}
use Rattle.std.proofs.lemmas.Bool.{le-leb}
use Rattle.base_maps.specs.NameMap.{Text}
use Rattle.group_spec.specs.Limits.{most_cars}
use Rattle.group_spec.specs.Snapshot.{task_name}
use Rattle.scan_task.specs.Listing.{is_task_name}
use Rattle.scan_task.proofs.verified.is_task_name.Goals as goal

-- the name of a car's task has one digit
car_name : (n : ℕ) → 1 ≤ n → n ≤ most_cars → task_name n ≡ codes "CAR" ++ (48 + n) ∷ []
car_name zero least most = absurd (omega (arith, least))
car_name (suc k) least most = ap (λ digits. codes "CAR" ++ digits) (decimal_digit (suc k) (omega (arith, most)))

is_car : (name : Text) (n : ℕ) → 1 ≤ n → n ≤ most_cars → bytes_eq name (codes "CAR" ++ (48 + n) ∷ []) ≡ is_task_name name n
is_car name n least most = ap (λ text. bytes_eq name text) (sym (car_name n least most)) ∙ ap (λ test. test && bytes_eq name (task_name n)) (sym (le-leb n most_cars most))

pub returns-in-1-to-8 : goal.returns-in-1-to-8
returns-in-1-to-8 c =
    c.eq-in-1-to-8.ensures ∙ ap (λ text. bytes_eq text c.as_slice.result.now) c.as_bytes.ensures.value
    ∙ ap (λ text. bytes_eq c.args.name.now text) c.as_slice.ensures ∙ is_car c.args.name.now c.args.number (omega arith) (omega arith)
