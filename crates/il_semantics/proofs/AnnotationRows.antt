-- A unit with an annotation, and one without.
use Rattle.std.proofs.Common.{◌≡◌, ℕ, zero, suc, ◌<◌, List, [], ◌∷◌, Option, Some, None, ℤ, pos, negsuc, ◌≤ℤ◌, ◌+ℤ◌, codes, refl, sym, ap, subst, slice_get, arith, T, lit<}
use Rattle.std.specs.Prelude.{int_le, unwrap_or}
use lib.Signed.{le_z_yes}
use Rattle.std.proofs.lemmas.Int.{ints}
use Rattle.std.specs.Fmt.{digits}
use Rattle.il_syntax.specs.declared.tree.Elementary.TheVariants.{Int}
use Rattle.il_syntax.specs.declared.tree.Config.{Config}
use Rattle.il_statics.specs.Names.{meaning, image_name, standard_function, standard_block}
use Rattle.base_maps.specs.NameMap.{NameMap, get, insert, empty}
use Rattle.ranges_interval.specs.declared.Interval.{Interval}
use Rattle.ranges_interval.specs.Interval.{IsIn, IsWithin, between}
use Rattle.il_semantics.specs.Step.{instruction_at}
use Rattle.il_semantics.specs.declared.known.Known.{Known}
use Rattle.il_semantics.specs.declared.known.Known.TheVariants.{Flag, Ranged}
use Rattle.il_semantics.specs.declared.known.KnownDeferred.{KnownDeferred}
use Rattle.il_semantics.specs.Annotation.{Knowledge, Annotation, knowledge, IsKnownWithin, IsResultWithin, IsDeferredWithin, IsVariableWithin, IsPart, Leads, IsAnnotated, Passes, Spot, FitsType, WithInterval}
use Rattle.il_semantics.proofs.Trees.{config}
use Rattle.il_semantics.proofs.Rows.{counter, overflows}

interval_itself : (i : Interval) → IsWithin i i
interval_itself i = (omega (arith, ints), omega (arith, ints))

known_itself : (k : Known) → IsKnownWithin k k
known_itself Flag = tt
known_itself (Ranged e i) = (refl, interval_itself i)

result_itself : (o : Option Known) → IsResultWithin o o
result_itself None = tt
result_itself (Some k) = known_itself k

deferred_itself : (ds : List KnownDeferred) → IsDeferredWithin ds ds
deferred_itself [] = tt
deferred_itself (d ∷ ds) = (refl, known_itself d.left, deferred_itself ds)

variable_itself : (o : Option Interval) → IsVariableWithin o o
variable_itself None = tt
variable_itself (Some i) = interval_itself i

pub part_itself : (k : Knowledge) → IsPart k k
part_itself k = record { variables = λ name. variable_itself (get k.variables name); result = result_itself k.result; deferred = deferred_itself k.deferred }

abbrev the_config : Config
the_config = config (counter ∷ [])

abbrev at_entry : NameMap Interval
at_entry = insert empty (codes "V") (between (pos 0) (pos 9))

abbrev the_entry : Knowledge
the_entry = knowledge at_entry None []

abbrev with_result : NameMap Interval → ℤ → ℤ → Knowledge
with_result variables lower upper = knowledge variables (Some (Ranged Int (between lower upper))) []

abbrev the_annotation : Annotation
the_annotation =
    Some the_entry
    ∷ Some (with_result at_entry (pos 0) (pos 9))
    ∷ Some (with_result at_entry (pos 1) (pos 10))
    ∷ Some (with_result at_entry (pos 0) (pos 9))
    ∷ Some (with_result (insert at_entry (codes "V") (between (pos 0) (pos 9))) (pos 0) (pos 9))
    ∷ []

abbrev spot : ℕ → Knowledge → Spot
spot place k = record { config = the_config; unit = counter; annotation = the_annotation; place = place; known = k }

-- a numeral between two others
abbrev in_order : {a b : ℤ} → T (int_le a b) → a ≤ℤ b
in_order h = le_z_yes h

-- LD V
passes_0 : Passes (spot 0 the_entry) (instruction_at counter.body 0)
unfolding get insert empty digits meaning image_name standard_function standard_block
passes_0 = (_, refl, part_itself _)

sum_in : (x y : ℤ) → IsIn (between (pos 0) (pos 9)) x → IsIn (between (pos 1) (pos 1)) y → IsIn (between (pos 1) (pos 10)) (x +ℤ y)
sum_in x y h k = (omega (arith, ints), omega (arith, ints))

-- ADD 1
passes_1 : Passes (spot 1 (with_result at_entry (pos 0) (pos 9))) (instruction_at counter.body 1)
unfolding get insert empty digits meaning image_name standard_function standard_block
passes_1 = (refl, (in_order tt, in_order tt), (refl, refl, (between (pos 1) (pos 10), sum_in, (in_order tt, in_order tt), (_, refl, part_itself _))))

not_zero : ¬ (IsIn (between (pos 10) (pos 10)) (pos 0))
not_zero h = h.0.le

-- MOD 10
passes_2 : Passes (spot 2 (with_result at_entry (pos 1) (pos 10))) (instruction_at counter.body 2)
unfolding get insert empty digits meaning image_name standard_function standard_block
passes_2 = (refl, (in_order tt, in_order tt), (refl, refl, (between (pos 0) (pos 9), (not_zero, (in_order tt, in_order tt)), (in_order tt, in_order tt), (_, refl, part_itself _))))

-- ST V
passes_3 : Passes (spot 3 (with_result at_entry (pos 0) (pos 9))) (instruction_at counter.body 3)
unfolding get insert empty digits meaning image_name standard_function standard_block
passes_3 = ((refl, (in_order tt, in_order tt)), (_, refl, part_itself _))

same_known : (a b : Knowledge) → ◌≡◌ {A = Option (Option Knowledge)} (Some (Some a)) (Some (Some b)) → a ≡ b
same_known a b e = ap (λ o. unwrap_or (unwrap_or o None) a) e

every_place : (place : ℕ) (k : Knowledge) → place < 5 → slice_get the_annotation place ≡ Some (Some k) → Passes (spot place k) (instruction_at counter.body place)
every_place zero k below is = subst (λ k. Passes (spot 0 k) (instruction_at counter.body 0)) (same_known _ k is) passes_0
every_place (suc zero) k below is = subst (λ k. Passes (spot 1 k) (instruction_at counter.body 1)) (same_known _ k is) passes_1
every_place (suc (suc zero)) k below is = subst (λ k. Passes (spot 2 k) (instruction_at counter.body 2)) (same_known _ k is) passes_2
every_place (suc (suc (suc zero))) k below is = subst (λ k. Passes (spot 3 k) (instruction_at counter.body 3)) (same_known _ k is) passes_3
every_place (suc (suc (suc (suc n)))) k below is = (tt, tt)

-- V : INT; LD V, ADD 1, ST V has none --

abbrev its_config : Config
its_config = config (overflows ∷ [])

abbrev its_spot : Annotation → ℕ → Knowledge → Spot
its_spot a place k = record { config = its_config; unit = overflows; annotation = a; place = place; known = k }

abbrev every_int : Interval
every_int = between (negsuc 32767) (pos 32767)

too_large : (r : Interval) → pos 32768 ≤ℤ r.hi → r.hi ≤ℤ pos 32767 → ⊥
too_large r h k = omega (arith, ints)

greatest_in : (i j : Interval) → IsWithin every_int i → IsWithin i j → IsIn j (pos 32767)
greatest_in i j h k = (omega (arith, ints), omega (arith, ints))

at_add : (a : Annotation) (variables : NameMap Interval) (ds : List KnownDeferred) (i : Interval) → IsWithin every_int i → (r : Option Known) → IsResultWithin (Some (Ranged Int i)) r
    → Passes (its_spot a 1 (knowledge variables r ds)) (instruction_at overflows.body 1) → ⊥
at_add a variables ds i all None given p = p
at_add a variables ds i all (Some Flag) given p = absurd given
at_add a variables ds i all (Some (Ranged e j)) given p =
    let sum = p.2.2 in
    let value = sum.1 (pos 32767) (pos 1) (greatest_in i j all given.1) (in_order tt, in_order tt) in
    let fits : FitsType Int sum.0 = subst (λ f. FitsType f sum.0) (sym given.0) sum.2 in
    too_large sum.0 value.1 fits.1

at_load : (a : Annotation) (k : Knowledge) (o : Option Interval) → IsVariableWithin (Some every_int) o
    → WithInterval o (λ i. Leads a 1 (knowledge k.variables (Some (Ranged Int i)) k.deferred))
    → ((k1 : Knowledge) → slice_get a 1 ≡ Some (Some k1) → Passes (its_spot a 1 k1) (instruction_at overflows.body 1)) → ⊥
at_load a k None all leads next = leads
at_load a k (Some i) all leads next =
    at_add a leads.0.variables leads.0.deferred i all leads.0.result leads.2.result (next leads.0 leads.1)

no_annotation : (a : Annotation) → ¬ (IsAnnotated its_config overflows a)
unfolding get insert empty digits meaning image_name standard_function standard_block
no_annotation a h =
    at_load a h.entry.0 (get h.entry.0.variables (codes "V")) (h.entry.2.variables (codes "V")) (h.each 0 h.entry.0 (lit< tt) h.entry.1) (λ k1 is. h.each 1 k1 (lit< tt) is)
