-- What is said of a result, supported over to what follows from it.
use Rattle.std.proofs.Common.{◌≡◌, Option, Some, None, Result, Ok, Err, refl}
use Rattle.std.specs.Prelude.{IfOk, IfErr, option_map}

-- a fact of what a call gave
pub if_ok : {T E : Type 0} (r : Result T E) (P Q : T → Type 0) → ((x : T) → P x → Q x) → IfOk r P → IfOk r Q
if_ok (Ok x) P Q f h = f x h
if_ok (Err e) P Q f h = tt

-- a fact of why a call failed
pub if_err : {T E : Type 0} (r : Result T E) (P Q : E → Type 0) → ((e : E) → P e → Q e) → IfErr r P → IfErr r Q
if_err (Ok x) P Q f h = tt
if_err (Err e) P Q f h = f e h

-- two facts of why a call failed
pub if_err_both : {T E : Type 0} (r : Result T E) (P Q R : E → Type 0) → ((e : E) → P e → Q e → R e) → IfErr r P → IfErr r Q → IfErr r R
if_err_both (Ok x) P Q R f h g = tt
if_err_both (Err e) P Q R f h g = f e h g

-- a fact that holds anyway
pub err_anyway : {T E : Type 0} (r : Result T E) (P : Type 0) → P → IfErr r (λ _. P)
err_anyway (Ok x) P p = tt
err_anyway (Err e) P p = p

-- where a mapped option has a value, the option has one
pub mapped_some : {A B : Type 0} (f : A → B) (o : Option A) (y : B) → option_map f o ≡ Some y → (x : A) × (o ≡ Some x) × (f x ≡ y)
mapped_some f (Some x) y h = (x, refl, cc)
mapped_some f None y h = absurd cc
