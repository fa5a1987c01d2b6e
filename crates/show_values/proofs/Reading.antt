-- The task whose name comes before the first period of a name.
use Rattle.std.proofs.Common.{arith, ◌≡◌, ℕ, zero, suc, ◌<◌, ◌≤◌, ◌+◌, Bool, true, false, not, List, [], ◌∷◌, ◌++◌, length, get_or, refl, sym, ap, ◌∙◌, subst}
use Rattle.std.specs.Prelude.{◌==◌, codes}
use Rattle.std.specs.List.{position_or_len, before_first, after_first}
use Rattle.std.proofs.lemmas.Fmt.{decimal_digit}
use Rattle.std.proofs.lemmas.List.Sums.{split_at_first, prefix_len_stops}
use borrow.Author.Tests.{eqb-true}
use Rattle.group_spec.specs.Snapshot.{task_name}
use Rattle.std.proofs.lemmas.List.{append_cancel_right}
use Rattle.cli_host.specs.Requests.{IsNumberTo}
use Rattle.show_values.specs.declared.names.SlotName.{SlotName}
use Rattle.show_values.specs.declared.names.SlotName.TheVariants as of_slot
use Rattle.show_values.specs.Names.{IsInTask, IsIndex, IsOfSlot, word_of_slot_name}

abbrev pub is_dot : ℕ → Bool
is_dot b = b == 46

passes : (b : Bool) → not b ≡ false → b ≡ true
passes true e = refl
passes false e = cc

-- the name of a car's task
pub named : (car : ℕ) → 1 ≤ car → car ≤ 8 → task_name car ≡ codes "CAR" ++ (48 + car) ∷ []
named zero least most = absurd (omega (arith, least))
named (suc k) least most = ap (λ (l : List ℕ). codes "CAR" ++ l) (decimal_digit (suc k) (omega (arith, most)))

-- a name ends before the first period after it
abbrev EndsThere : List ℕ → List ℕ → Type 0
EndsThere name rest = (before_first is_dot (name ++ 46 ∷ rest) ≡ name) × (position_or_len is_dot (name ++ 46 ∷ rest) < length (name ++ 46 ∷ rest))

ends_by : (task : ℕ) (name rest : List ℕ) → task_name task ≡ name → EndsThere name rest → EndsThere (task_name task) rest
ends_by task name rest is ends = subst (λ (n : List ℕ). EndsThere n rest) (sym is) ends

ends_there : (task : ℕ) (rest : List ℕ) → task ≤ 8 → EndsThere (task_name task) rest
ends_there zero rest few = (refl, omega arith)
ends_there (suc zero) rest few = ends_by 1 (codes "CAR1") rest (named 1 (omega arith) (omega arith)) (refl, omega arith)
ends_there (suc (suc zero)) rest few = ends_by 2 (codes "CAR2") rest (named 2 (omega arith) (omega arith)) (refl, omega arith)
ends_there (suc (suc (suc zero))) rest few = ends_by 3 (codes "CAR3") rest (named 3 (omega arith) (omega arith)) (refl, omega arith)
ends_there (suc (suc (suc (suc zero)))) rest few = ends_by 4 (codes "CAR4") rest (named 4 (omega arith) (omega arith)) (refl, omega arith)
ends_there (suc (suc (suc (suc (suc zero))))) rest few = ends_by 5 (codes "CAR5") rest (named 5 (omega arith) (omega arith)) (refl, omega arith)
ends_there (suc (suc (suc (suc (suc (suc zero)))))) rest few = ends_by 6 (codes "CAR6") rest (named 6 (omega arith) (omega arith)) (refl, omega arith)
ends_there (suc (suc (suc (suc (suc (suc (suc zero))))))) rest few = ends_by 7 (codes "CAR7") rest (named 7 (omega arith) (omega arith)) (refl, omega arith)
ends_there (suc (suc (suc (suc (suc (suc (suc (suc zero)))))))) rest few = ends_by 8 (codes "CAR8") rest (named 8 (omega arith) (omega arith)) (refl, omega arith)
ends_there (suc (suc (suc (suc (suc (suc (suc (suc (suc n))))))))) rest few = absurd (omega (arith, few))

-- a word that is none of the names
pub none_named : (word : List ℕ) → (word ≡ codes "GROUP" → ⊥) → ((car : ℕ) → 1 ≤ car → car ≤ 8 → word ≡ codes "CAR" ++ (48 + car) ∷ [] → ⊥) → (task : ℕ) → task ≤ 8 → word ≡ task_name task → ⊥
none_named word group cars zero few is = group is
none_named word group cars (suc k) few is = cars (suc k) (omega arith) few (is ∙ named (suc k) (omega arith) few)

-- each of eight
pub each_of_eight : (P : ℕ → Type 0) → P 1 → P 2 → P 3 → P 4 → P 5 → P 6 → P 7 → P 8 → (car : ℕ) → 1 ≤ car → car ≤ 8 → P car
each_of_eight P a b c d e f g h zero least most = absurd (omega (arith, least))
each_of_eight P a b c d e f g h (suc zero) least most = a
each_of_eight P a b c d e f g h (suc (suc zero)) least most = b
each_of_eight P a b c d e f g h (suc (suc (suc zero))) least most = c
each_of_eight P a b c d e f g h (suc (suc (suc (suc zero)))) least most = d
each_of_eight P a b c d e f g h (suc (suc (suc (suc (suc zero))))) least most = e
each_of_eight P a b c d e f g h (suc (suc (suc (suc (suc (suc zero)))))) least most = f
each_of_eight P a b c d e f g h (suc (suc (suc (suc (suc (suc (suc zero))))))) least most = g
each_of_eight P a b c d e f g h (suc (suc (suc (suc (suc (suc (suc (suc zero)))))))) least most = h
each_of_eight P a b c d e f g h (suc (suc (suc (suc (suc (suc (suc (suc (suc n))))))))) least most = absurd (omega (arith, most))

-- so a name without a period has no task before it
pub no_period : (name : List ℕ) → position_or_len is_dot name ≡ length name → (task : ℕ) (rest : List ℕ) → IsInTask name task rest → ⊥
no_period name none task rest is =
    let low : position_or_len is_dot name < length name = subst (λ n. position_or_len is_dot n < length n) (sym is.is) (ends_there task rest is.few).1 in
    omega (arith, low, none)

-- nor one before whose first period is no name of a task
pub no_task : (name front : List ℕ) → front ≡ before_first is_dot name → ((task : ℕ) → task ≤ 8 → front ≡ task_name task → ⊥) → (task : ℕ) (rest : List ℕ) → IsInTask name task rest → ⊥
no_task name front e none task rest is = none task is.few (e ∙ ap (before_first is_dot) is.is ∙ (ends_there task rest is.few).0)

pub in_task : (name front rest : List ℕ) (task : ℕ) → task ≤ 8 → position_or_len is_dot name < length name → front ≡ before_first is_dot name → rest ≡ after_first is_dot name → front ≡ task_name task → IsInTask name task rest
in_task name front rest task few low e f is = record {
  few = few;
  is =
      split_at_first is_dot name 0 low ∙ ap (λ l. l ++ (get_or name (position_or_len is_dot name) 0 ∷ after_first is_dot name)) (sym e ∙ is)
      ∙ ap (λ b. task_name task ++ (b ∷ after_first is_dot name)) (eqb-true (get_or name (position_or_len is_dot name) 0) 46 (passes (is_dot (get_or name (position_or_len is_dot name) 0)) (prefix_len_stops (λ b. not (is_dot b)) name 0 low))) ∙ ap (λ l. task_name task ++ 46 ∷ l) (sym f);
}

-- CALL SLOTS

abbrev pub is_bracket : ℕ → Bool
is_bracket b = b == 91

-- after the name of an array of the call slots and the bracket is the rest
behind_array : (it : SlotName) (rest : List ℕ) → after_first is_bracket (word_of_slot_name it ++ 91 ∷ rest) ≡ rest
behind_array of_slot.Waits rest = refl
behind_array of_slot.From rest = refl
behind_array of_slot.To rest = refl
behind_array of_slot.Car rest = refl
behind_array of_slot.Assign rest = refl

-- so a rest without the number of a slot is that of no slot
pub no_slot : (name rest : List ℕ) → rest ≡ after_first is_bracket name → ((slot : ℕ) → IsIndex rest slot → ⊥) → (it : SlotName) (slot : ℕ) → IsOfSlot name it slot → ⊥
no_slot name rest e none it slot is = none slot (subst (λ r. IsIndex r slot) (sym (e ∙ ap (after_first is_bracket) is.is ∙ behind_array it is.rest)) is.index)

-- and digits that are no number of a slot are none in front of a bracket
pub no_index : (rest digits : List ℕ) → rest ≡ digits ++ 93 ∷ [] → ((slot : ℕ) → IsNumberTo 64 digits slot → ⊥) → (slot : ℕ) → IsIndex rest slot → ⊥
no_index rest digits e none slot is = none slot (subst (λ (d : List ℕ). IsNumberTo 64 d slot) (append_cancel_right is.digits digits (93 ∷ []) (sym is.is ∙ e)) is.numbered)
