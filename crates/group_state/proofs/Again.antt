-- A group, after one variable more was read.
use Rattle.std.proofs.Common.{◌≡◌, ℕ, ◌<◌, List, [], ◌∷◌, ◌++◌, length, sym, ap, ◌∙◌, subst, arith, Some, None, Option, Result, Ok, Err}
use Rattle.std.specs.Prelude.{IfErr, IsErrAnd, MatchOption}
use Rattle.il_syntax.specs.declared.tree.Scalar.{Scalar}
use Rattle.base_maps.specs.NameMap.{Text}
use Rattle.il_semantics.specs.declared.value.Value.{Value}
use Rattle.il_semantics.specs.State.{Values}
use Rattle.group_spec.specs.World.{Group}
use Rattle.group_state.specs.Lines.{IsNext}
use Rattle.group_state.specs.Holding.{with_globals}
use Rattle.group_state.specs.Variables.{at_rest, TakesVariable}
use Rattle.group_state.specs.Walking.{with_task, with_tasks}
use Rattle.group_state.proofs.Walks.{set_twice}

-- globals are set again
pub globals_again : (old now new : Group) (values : Values) → now ≡ with_globals old now.globals → new ≡ with_globals now values → new ≡ with_globals old new.globals
globals_again old now new values is next =
    next ∙ (ap (λ (g : Group). with_globals g values) is ∙ ap (with_globals old) (sym (ap (λ (g : Group). g.globals) next)))

-- variables of a task are
pub variables_again : (old now new : Group) (t : ℕ) (values more : Values) → now ≡ with_task old t (Some (at_rest values)) → new ≡ with_task now t (Some (at_rest more)) → new ≡ with_task old t (Some (at_rest more))
variables_again old now new t values more is next =
    next ∙ (ap (λ (g : Group). with_task g t (Some (at_rest more))) is ∙ ap (with_tasks old) (set_twice old.tasks t (Some (at_rest values)) (Some (at_rest more))))

behind_shorter : (line rest : List ℕ) → length rest < length (line ++ (10 ∷ rest))
behind_shorter [] rest = omega arith
behind_shorter (x ∷ line) rest = let more : length rest < length (line ++ (10 ∷ rest)) = behind_shorter line rest in omega (arith, more)

pub next_shorter : (text line rest : List ℕ) → IsNext text line rest → length rest < length text
next_shorter text line rest h = subst (λ (t : List ℕ). length rest < length t) (sym h.whole) (behind_shorter line rest)

-- what follows a line of a variable is shorter
pub variable_shorter : (path : Text) (scalar : Scalar) (initial : Option Value) (text behind : List ℕ) (value : Value) → TakesVariable path scalar initial text value behind → length behind < length text
variable_shorter path scalar initial text behind value h = next_shorter text h.line behind h.next

-- what is said of an error goes up with it
pub up_so : {X E : Type 0} (P : E → Type 0) {e : E} (r : Result X E) → IsErrAnd r (λ y. y ≡ e) → P e → IfErr r P
up_so P (Err y) same bad = subst P (sym same) bad
up_so P (Ok x) same bad = tt

-- what is said of an option
pub some_taken : {X : Type 0} (A : Type 0) (P : X → Type 0) (o : Option X) (x : X) → o ≡ Some x → MatchOption o A P → P x
some_taken A P o x is h = subst (λ p. MatchOption p A P) is h

pub none_taken : {X : Type 0} (A : Type 0) (P : X → Type 0) (o : Option X) → o ≡ None → MatchOption o A P → A
none_taken A P o is h = subst (λ p. MatchOption p A P) is h
