-- A scan starts with values of the declared sets.
use Rattle.std.proofs.Common.{Contains, ◌⊎◌, inl, inr}
use Rattle.std.proofs.lemmas.List.Elements.{Contains-append_left, Contains-append_cases}
use Rattle.il_syntax.specs.declared.tree.Config.{Config}
use Rattle.il_syntax.specs.declared.tree.Scalar.{Scalar}
use Rattle.il_syntax.specs.declared.tree.Unit.{Unit as ProgramUnit}
use Rattle.base_maps.specs.NameMap.{Text, from_entries, with_entries}
use Rattle.il_semantics.specs.State.{Values}
use Rattle.il_semantics.specs.Ranges.{HasValue, HaveValues, HoldVariables, own_scalars, task_scalars, function_scalars}
use Rattle.il_semantics.specs.Scan.{begins, used_units}
use Rattle.il_semantics.specs.Meaning.{depth}
use Rattle.il_semantics_laws.specs.Agreement.{Holds}
use Rattle.il_semantics_laws.specs.Accepted.{IsAccepted}
use Rattle.il_semantics_laws.specs.Listed.{given_scalars, kept_scalars, StartsInSets}
use Rattle.il_semantics_laws.proofs.Paths.{value_of, values_of, have_first, over_has, own_has}
use Rattle.il_semantics_laws.proofs.Listing.{keeps_listed}

-- values of the list are values of all that is kept
pub holds_of : (c : Config) (p : ProgramUnit) → IsAccepted c p → (values : Values) → HaveValues values (kept_scalars c p) → Holds c p values
holds_of c p accepted values have q s kept = value_of values (kept_scalars c p) (q, s) have ((keeps_listed c p accepted).listed q s kept)

-- and the other way round
pub values_are : (c : Config) (p : ProgramUnit) → IsAccepted c p → (values : Values) → Holds c p values → HaveValues values (kept_scalars c p)
values_are c p accepted values holds = values_of values (kept_scalars c p) (λ x has. holds x.0 x.1 ((keeps_listed c p accepted).kept x has))

-- those of the program's variables among them
pub variables_hold : (c : Config) (p : ProgramUnit) → IsAccepted c p → (values : Values) → Holds c p values → HoldVariables c p values
variables_hold c p accepted values holds =
    have_first values (own_scalars c p) (function_scalars c (used_units depth c p)) (have_first values (task_scalars c p) (given_scalars c p) (values_are c p accepted values holds))

pub starts_in_sets : (c : Config) (p : ProgramUnit) → IsAccepted c p → StartsInSets c p
unfolding begins
starts_in_sets c p accepted variables given own below = holds_of c p accepted (with_entries (from_entries given) variables.list) (values_of _ (kept_scalars c p) (λ x has. by_side x has (Contains-append_cases (task_scalars c p) (given_scalars c p) x has)))
  where
    by_side : (x : Text × Scalar) → Contains (kept_scalars c p) x → Contains (task_scalars c p) x ⊎ Contains (given_scalars c p) x → HasValue (with_entries (from_entries given) variables.list) x
    by_side x has (inl a) = own_has (from_entries given) variables x (value_of variables (task_scalars c p) x own.each a)
    by_side x has (inr a) =
        over_has (from_entries given) variables (task_scalars c p) x own.each own.only
        (λ y among same. (keeps_listed c p accepted).once y x (Contains-append_left (task_scalars c p) (given_scalars c p) y among) has same)
        (value_of (from_entries given) (given_scalars c p) x below a)
