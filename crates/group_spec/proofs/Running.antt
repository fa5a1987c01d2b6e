-- The set of the running cars, and their number, follow the outputs.
use Rattle.std.specs.Prelude.{◌≡◌, ℕ, zero, suc, ◌+◌, ◌-◌, ◌<◌, ◌≤◌, Bool, true, false, not, List, [], ◌∷◌, ◌++◌, length, filter, get_or, set, ◌==◌, if◌then◌else◌, refl}
use Rattle.std.proofs.Common.{sym, ◌∙◌, ap, inl, inr, arith, length-append, lit≤}
use Rattle.std.proofs.Math.Seq.{get_or-append_seam}
use Rattle.std.proofs.lemmas.List.{set-get_or, get_or-set_same, get_or-set_other, length-set}
use Rattle.std.proofs.lemmas.Bool.{cases_eq}
use Rattle.std.proofs.lemmas.Nat.Bits.{bit_at-zero}
use Rattle.std.specs.Int.{bit_at, from_bool}
use Rattle.group_spec.specs.declared.image.CarOutputs.{CarOutputs}
use Rattle.group_spec.specs.Image.{runs, running_from, running_cars, opening_outputs}
use Rattle.group_spec.specs.Bits.{flag, IsWithBit}
use Rattle.group_spec.specs.Limits.{most_cars}
use Rattle.group_spec.specs.Running.{IsRunningSet, KeepsRunning}
use Rattle.group_spec.proofs.Interlock.{set_counts}
use Rattle.group_spec.proofs.Bits.{bit_own, bit_other, flag_tells}

-- each car has a bit
in_word : (k : ℕ) → k < most_cars → k < 16
in_word k below = omega (arith, below)

-- a set that follows outputs follows them with another value for one car
follows :
    (before after : List CarOutputs) (word new i : ℕ) (o : CarOutputs) → IsRunningSet before word → IsWithBit 16 word i (runs o.motor) new
    → get_or after i opening_outputs ≡ o → ((k : ℕ) → (k ≡ i → ⊥) → get_or after k opening_outputs ≡ get_or before k opening_outputs)
    → IsRunningSet after new
follows before after word new i o is is_with own others k below =
    elim (cases_eq k i) [
      | inl same ↦ bit_own 16 word i new k (runs o.motor) is_with (in_word k below) same ∙ ap (λ (x : CarOutputs). flag (runs x.motor)) (sym (ap (λ n. get_or after n opening_outputs) same ∙ own))
      | inr other ↦ bit_other 16 word i new k (runs o.motor) is_with (in_word k below) other ∙ is k below ∙ ap (λ (x : CarOutputs). flag (runs x.motor)) (sym (others k other))
    ]

-- COUNTS

pub byte_flag : (holds : Bool) → from_bool holds ≡ flag holds
byte_flag true = refl
byte_flag false = refl

flag_fits : (holds : Bool) → flag holds ≤ 1
flag_fits true = omega arith
flag_fits false = omega arith

-- a car that runs counts once, beside the others
pub own_counts :
    (outputs : List CarOutputs) (k : ℕ) → k < length outputs
    → length (running_cars outputs) ≡ length (filter (λ car. not (car == suc k)) (running_cars outputs)) + flag (runs (get_or outputs k opening_outputs).motor)
own_counts outputs k h =
    ap (λ xs. length (running_cars xs)) (sym (set-get_or outputs k opening_outputs)) ∙ set_counts outputs (get_or outputs k opening_outputs) k 1 (suc k) (omega arith) h

one_more : (outputs : List CarOutputs) (o : CarOutputs) (a : ℕ) → length (running_from a (outputs ++ o ∷ [])) ≡ length (running_from a outputs) + flag (runs o.motor)
one_more [] o a =
    elim (runs o.motor) as (λ r. length (if r then a ∷ [] else []) ≡ 0 + flag r) [
      | true ↦ refl
      | false ↦ refl
    ]
one_more (x ∷ xs) o a =
    let rest = one_more xs o (a + 1) in
    elim (runs x.motor) as (λ r. length (if r then a ∷ running_from (a + 1) (xs ++ o ∷ []) else running_from (a + 1) (xs ++ o ∷ [])) ≡ length (if r then a ∷ running_from (a + 1) xs else running_from (a + 1) xs) + flag (runs o.motor)) [
      | true ↦ omega (arith, rest)
      | false ↦ rest
    ]

fits_from : (outputs : List CarOutputs) (a : ℕ) → length (running_from a outputs) ≤ length outputs
fits_from [] a = lit≤ tt
fits_from (x ∷ xs) a =
    let rest = fits_from xs (a + 1) in
    elim (runs x.motor) as (λ r. length (if r then a ∷ running_from (a + 1) xs else running_from (a + 1) xs) ≤ length (x ∷ xs)) [
      | true ↦ omega (arith, rest)
      | false ↦ omega (arith, rest)
    ]

pub running_more : (outputs : List CarOutputs) (o : CarOutputs) → length (running_cars (outputs ++ o ∷ [])) ≡ length (running_cars outputs) + flag (runs o.motor)
running_more outputs o = one_more outputs o 1

-- no more cars run than there are
pub running_fit : (outputs : List CarOutputs) → length (running_cars outputs) ≤ length outputs
running_fit outputs = fits_from outputs 1

-- WHAT IS KEPT

pub keeps_none : KeepsRunning [] 0 0
keeps_none = record { few = omega arith; members = λ k below. bit_at-zero k; number = refl }

others_more : (outputs : List CarOutputs) (o : CarOutputs) (k : ℕ) → (k ≡ length outputs → ⊥) → get_or (outputs ++ o ∷ []) k opening_outputs ≡ get_or outputs k opening_outputs
others_more [] o zero other = absurd (other refl)
others_more [] o (suc k) other = refl
others_more (x ∷ xs) o zero other = refl
others_more (x ∷ xs) o (suc k) other = others_more xs o k (λ e. other (ap suc e))

pub more_fits :
    (outputs : List CarOutputs) (word count flags : ℕ) (holds : Bool) → KeepsRunning outputs word count → flags ≡ from_bool holds → length outputs < most_cars → count + flags ≤ 255
more_fits outputs word count flags holds keeps is room =
    omega (arith, keeps.number, running_fit outputs, is ∙ byte_flag holds, flag_fits holds, room)

pub set_fits :
    (outputs : List CarOutputs) (word count less flags : ℕ) (holds : Bool) → KeepsRunning outputs word count → flags ≡ from_bool holds → count - less + flags ≤ 255
set_fits outputs word count less flags holds keeps is =
    omega (arith, keeps.number, keeps.few, running_fit outputs, is ∙ byte_flag holds, flag_fits holds)

pub keeps_more :
    (outputs : List CarOutputs) (word count new more : ℕ) (o : CarOutputs) → KeepsRunning outputs word count → length outputs < most_cars
    → IsWithBit 16 word (length outputs) (runs o.motor) new → more ≡ count + flag (runs o.motor) → KeepsRunning (outputs ++ o ∷ []) new more
keeps_more outputs word count new more o keeps room is_with is_more =
    record {
      few = omega (arith, length-append outputs (o ∷ []));
      members = follows outputs (outputs ++ o ∷ []) word new (length outputs) o keeps.members is_with (get_or-append_seam outputs o [] opening_outputs) (others_more outputs o);
      number = is_more ∙ ap (λ n. n + flag (runs o.motor)) keeps.number ∙ sym (running_more outputs o);
    }

-- whether a car runs stands in its bit
pub bit_tells :
    (outputs : List CarOutputs) (word count k : ℕ) → KeepsRunning outputs word count → k < most_cars → (bit_at word k == 1) ≡ runs (get_or outputs k opening_outputs).motor
bit_tells outputs word count k keeps below = ap (λ n. n == 1) (keeps.members k below) ∙ flag_tells (runs (get_or outputs k opening_outputs).motor)

pub others_counted :
    (outputs : List CarOutputs) (word count flags i : ℕ) (holds : Bool) → KeepsRunning outputs word count → i < length outputs → flags ≡ from_bool holds → holds ≡ (bit_at word i == 1)
    → count ≡ count - flags + flag (runs (get_or outputs i opening_outputs).motor)
others_counted outputs word count flags i holds keeps within is holds_is =
    let fits : i < most_cars = omega (arith, within, keeps.few) in
    let same : flags ≡ flag (runs (get_or outputs i opening_outputs).motor) = is ∙ byte_flag holds ∙ ap flag (holds_is ∙ bit_tells outputs word count i keeps fits) in
    omega (arith, same, keeps.number, own_counts outputs i within)

pub own_fits :
    (outputs : List CarOutputs) (word count flags i : ℕ) (holds : Bool) → KeepsRunning outputs word count → i < length outputs → flags ≡ from_bool holds → holds ≡ (bit_at word i == 1)
    → flags ≤ count
own_fits outputs word count flags i holds keeps within is holds_is =
    let fits : i < most_cars = omega (arith, within, keeps.few) in
    let same : flags ≡ flag (runs (get_or outputs i opening_outputs).motor) = is ∙ byte_flag holds ∙ ap flag (holds_is ∙ bit_tells outputs word count i keeps fits) in
    omega (arith, same, keeps.number, own_counts outputs i within)

pub keeps_set :
    (outputs : List CarOutputs) (word count new others after i : ℕ) (o : CarOutputs) → KeepsRunning outputs word count → i < length outputs
    → IsWithBit 16 word i (runs o.motor) new → count ≡ others + flag (runs (get_or outputs i opening_outputs).motor) → after ≡ others + flag (runs o.motor)
    → KeepsRunning (set outputs i o) new after
keeps_set outputs word count new others after i o keeps within is_with is_others is_after =
    let before = own_counts outputs i within in
    let now = set_counts outputs o i 1 (suc i) (omega arith) within in
    record {
      few = omega (arith, length-set outputs i o, keeps.few);
      members = follows outputs (set outputs i o) word new i o keeps.members is_with (get_or-set_same outputs i o opening_outputs within) (λ k other. get_or-set_other outputs i k o opening_outputs other);
      number = omega (arith, is_after, is_others, keeps.number, before, now);
    }
