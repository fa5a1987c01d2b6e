-- What is said of a refusal, at its number and its place.
use Rattle.std.proofs.Common.{◌≡◌, ◌≤◌, ℕ, Ok, Err, subst, sym, ◌∙◌, inl, inr, arith}
use Rattle.std.specs.Prelude.{◌⊎◌, Result, IsErrAnd}
use Rattle.load_tree.specs.Refused.{IsFault}
use Rattle.il_syntax.specs.declared.fault.Refusal.{Refusal}
use Rattle.il_syntax.specs.declared.fault.Refusal.TheVariants.{Fault, Memory}
use Rattle.il_syntax.specs.declared.tree.Place.{Place}
use Rattle.liftplc_c.specs.Refusals.{text_status}

no_memory : (n : ℕ) (p : Place) → Fault n p ≡ Memory → ⊥
no_memory n p e = cc

-- the status of a refusal is 1 where it is a fault
is_fault : (why : Refusal) → text_status why ≡ 1 → IsFault {A = Unit {0}} (Err why)
is_fault (Fault number place) one = tt
is_fault Memory one = absurd (omega (arith, one))

-- what is so of a fault is so of what is written of it
pub by_fault : (P : Refusal → Type 0) (why written : Refusal) (status : ℕ) → status ≡ text_status why → (status ≡ 1 → written ≡ why) → (IsFault {A = Unit {0}} (Err why) → P why) → status ≡ 1 → P written
by_fault P why written status is same said one = subst P (sym (same one)) (said (is_fault why (sym is ∙ one)))

-- a text's one fault is written, unless memory is missing
pub reported : (why written : Refusal) (number status : ℕ) (place : Place)
    → status ≡ text_status why → (status ≡ 1 → written ≡ why) → (why ≡ Fault number place) ⊎ (why ≡ Memory) → (status ≡ 2) ⊎ ((status ≡ 3) ⊎ ((status ≡ 1) × (written ≡ Fault number place)))
reported (Fault n p) written number status place is same (inl fault) = inr (inr (is, same is ∙ fault))
reported (Fault n p) written number status place is same (inr memory) = absurd (no_memory n p memory)
reported Memory written number status place is same either = inl is

pub memory_at : {X : Type 0} (r : Result X Refusal) (f : Refusal) → IsErrAnd r (λ e. e ≡ Memory) → IsErrAnd r (λ e. (e ≡ f) ⊎ (e ≡ Memory))
memory_at (Ok x) f is = absurd is
memory_at (Err e) f is = inr is

-- where memory is missing there is no fault
pub no_fault : {X : Type 0} (r : Result X Refusal) → IsErrAnd r (λ e. e ≡ Memory) → IsFault r → ⊥
no_fault (Ok x) is fault = is
no_fault {X = X} (Err e) is fault = subst (λ (x : Refusal). IsFault {A = X} (Err x)) is fault

-- STATUSES

-- of a text that is refused
pub text_few : (n : ℕ) → (n ≡ 1) ⊎ (n ≡ 2) → n ≤ 3
text_few n (inl one) = omega (arith, one)
text_few n (inr two) = omega (arith, two)

pub text_not_done : {P : Type 0} (n : ℕ) → (n ≡ 1) ⊎ (n ≡ 2) → n ≡ 0 → P
text_not_done n (inl one) zero = absurd (omega (arith, one, zero))
text_not_done n (inr two) zero = absurd (omega (arith, two, zero))

pub text_not_open : {P : Type 0} (n : ℕ) → (n ≡ 1) ⊎ (n ≡ 2) → n ≡ 3 → P
text_not_open n (inl one) three = absurd (omega (arith, one, three))
text_not_open n (inr two) three = absurd (omega (arith, two, three))

pub text_not_trace : {P : Type 0} (n : ℕ) → (n ≡ 1) ⊎ (n ≡ 2) → n ≡ 10 → P
text_not_trace n (inl one) ten = absurd (omega (arith, one, ten))
text_not_trace n (inr two) ten = absurd (omega (arith, two, ten))

-- of a trace that is refused
pub trace_status_is : (n : ℕ) → (n ≡ 10) ⊎ (n ≡ 2) → (n ≡ 0) ⊎ ((n ≡ 2) ⊎ (n ≡ 10))
trace_status_is n (inl ten) = inr (inr ten)
trace_status_is n (inr two) = inr (inl two)

pub trace_not_done : {P : Type 0} (n : ℕ) → (n ≡ 10) ⊎ (n ≡ 2) → n ≡ 0 → P
trace_not_done n (inl ten) zero = absurd (omega (arith, ten, zero))
trace_not_done n (inr two) zero = absurd (omega (arith, two, zero))

-- of a text that is accepted
pub left_status : (n : ℕ) → (n ≡ 0) ⊎ ((n ≡ 2) ⊎ (n ≡ 10)) → (n ≤ 3) ⊎ (n ≡ 10)
left_status n (inl zero) = inl (omega (arith, zero))
left_status n (inr (inl two)) = inl (omega (arith, two))
left_status n (inr (inr ten)) = inr ten

pub left_not_refused : {P : Type 0} (n : ℕ) → (n ≡ 0) ⊎ ((n ≡ 2) ⊎ (n ≡ 10)) → n ≡ 1 → P
left_not_refused n (inl zero) one = absurd (omega (arith, zero, one))
left_not_refused n (inr (inl two)) one = absurd (omega (arith, two, one))
left_not_refused n (inr (inr ten)) one = absurd (omega (arith, ten, one))

pub left_not_open : {P : Type 0} (n : ℕ) → (n ≡ 0) ⊎ ((n ≡ 2) ⊎ (n ≡ 10)) → n ≡ 3 → P
left_not_open n (inl zero) three = absurd (omega (arith, zero, three))
left_not_open n (inr (inl two)) three = absurd (omega (arith, two, three))
left_not_open n (inr (inr ten)) three = absurd (omega (arith, ten, three))
