-- A result that is handed on as it is.
use Rattle.std.specs.Prelude.{Result, Ok, Err, IfOk, IfErr}
use Rattle.load_lines.specs.declared.stop.Stop.{Stop}

-- what holds of its value
pub ok_through : {A : Type 0} {P Q : A → Type 0} (r : Result A Stop) → IfOk r P → ((x : A) → P x → Q x) → IfOk r Q
ok_through (Ok x) p f = f x p
ok_through (Err e) p f = tt

-- what holds of its error
pub err_through : {A : Type 0} {P Q : Stop → Type 0} (r : Result A Stop) → IfErr r P → ((e : Stop) → P e → Q e) → IfErr r Q
err_through (Ok x) p f = tt
err_through (Err e) p f = f e p

-- what holds of its value by two facts
pub ok_both : {A : Type 0} {P Q R : A → Type 0} (r : Result A Stop) → IfOk r P → IfOk r Q → ((x : A) → P x → Q x → R x) → IfOk r R
ok_both (Ok x) p q f = f x p q
ok_both (Err e) p q f = tt
