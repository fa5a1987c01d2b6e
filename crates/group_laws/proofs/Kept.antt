-- What a commit keeps: variables and globals have values of their declared sets, and ASSIGN holds cars.
use Rattle.std.proofs.Common.{◌≡◌, ℕ, zero, suc, ◌+◌, ◌≤◌, ◌≤ℤ◌, ℤ, pos, negsuc, nat_abs, ◌+ℤ◌, ◌-ℤ◌, Bool, true, false, List, [], ◌∷◌, map, refl, sym, ap, ◌∙◌, subst, cond, Some, None, Option, All, Contains, codes, append-nil, arith}
use Rattle.std.proofs.lemmas.Int.{ints}
use Rattle.std.proofs.lemmas.List.Elements.{All-nil, All-cons}
use Rattle.std.specs.Prelude.{is_some}
use Rattle.std.specs.Ordering.{eq_by_cmp}
use Rattle.std.specs.FinMap.Entries.{find}
use Rattle.il_syntax.specs.declared.tree.Config.{Config}
use Rattle.il_syntax.specs.declared.tree.Scalar.{Scalar}
use Rattle.il_syntax.specs.declared.tree.Unit.{Unit as ProgramUnit}
use Rattle.il_statics.specs.Names.{within}
use Rattle.il_semantics.specs.declared.value.Value.{Value}
use Rattle.il_semantics.specs.declared.value.Value.TheVariants.{Boolean, Integer}
use Rattle.base_maps.specs.NameMap.{Text, order, get, from_entries, with_entries, get-empty, get-insert}
use Rattle.il_semantics.specs.Values.{IsOf}
use Rattle.il_semantics.specs.State.{Values}
use Rattle.il_semantics.specs.Meaning.{element_path, width, width_of}
use Rattle.il_semantics.specs.Ranges.{HasValue, HaveValues, HoldGlobals, element_scalars, task_scalars, global_scalars, HoldsTask}
use Rattle.il_semantics.specs.Scan.{entries_at, restricted, written_paths}
use Rattle.group_spec.specs.Image.{sizes_of}
use Rattle.group_spec.specs.Snapshot.{whole_of, assigned, assigned_from, written_globals}
use Rattle.il_semantics_laws.proofs.Texts.{same_text}
use Rattle.il_semantics_laws.proofs.Paths.{has_insert}
use Rattle.group_laws.specs.Tasks.{output_scalars, IsSized}

same_value : (o : Option Value) (a b : Value) → o ≡ Some a → o ≡ Some b → a ≡ b
same_value o a b p q = let both : Some a ≡ Some b = sym p ∙ q in cc

-- WRITES

-- a value of the declared set, under those that a scan has written at some paths
has_written : (values m : Values) (paths : List Text) (p : Text × Scalar) → HasValue m p → (Contains paths p.0 → HasValue values p) → HasValue (with_entries m (entries_at values paths)) p
has_written values m [] p old new = old
has_written values m (k ∷ ks) p old new = by (get values k) refl (has_written values m ks p old (λ h. new (suc h.0, omega (arith, h.1), h.2)))
  where
    by : (o : Option Value) → get values k ≡ o → HasValue (with_entries m (entries_at values ks)) p → HasValue (with_entries m (entries_at values (k ∷ ks))) p
    by None is rest = rw is rest
    by (Some v) is rest =
        let written : p.0 ≡ k → IsOf p.1 v =
        λ (e : p.0 ≡ k). let h : HasValue values p = new (0, omega arith, sym e) in subst (λ (x : Value). IsOf p.1 x) (same_value (get values k) h.0 v (ap (get values) (sym e) ∙ h.1) is) h.2 in
        rw is (has_insert (with_entries m (entries_at values ks)) k v p rest written)

have_written : (values m : Values) (paths : List Text) (ps : List (Text × Scalar)) → HaveValues m ps → ((p : Text × Scalar) → Contains ps p → Contains paths p.0 → HasValue values p) → HaveValues (with_entries m (entries_at values paths)) ps
have_written values m paths [] old new = tt
have_written values m paths (p ∷ ps) old new =
    (has_written values m paths p old.0 (new p (0, omega arith, refl)), have_written values m paths ps old.1 (λ q h. new q (suc h.0, omega (arith, h.1), h.2)))

-- the globals after a commit
pub globals_kept :
    (c : Config) (u : ProgramUnit) (globals values : Values) → HoldGlobals c globals → ((p : Text × Scalar) → Contains (global_scalars c) p → Contains (written_paths u) p.0 → HasValue values p)
    → HoldGlobals c (written_globals (Some u) globals values)
globals_kept c u globals values old new = have_written values globals (written_paths u) (global_scalars c) old new

-- WHAT IS LEFT

none_cond : (b : Bool) → ◌≡◌ {A = Option Value} (cond b None None) None
none_cond true = refl
none_cond false = refl

-- what is left of the entries of a map's paths
pub get_entries_at : (end : Values) (es : List (Text × Value)) (q : Text) → get (from_entries (entries_at end (map (λ e. e.0) es))) q ≡ cond (is_some (find order q es)) (get end q) None
get_entries_at end [] q = get-empty q
get_entries_at end (e ∷ es) q = by (get_entries_at end es q) (get end e.0) refl
  where
    by : (get (from_entries (entries_at end (map (λ e. e.0) es))) q ≡ cond (is_some (find order q es)) (get end q) None) → (o : Option Value) → get end e.0 ≡ o
        → get (from_entries (entries_at end (map (λ e. e.0) (e ∷ es)))) q ≡ cond (is_some (cond (eq_by_cmp order q e.0) (Some e.1) (find order q es))) (get end q) None
    by rest None is = rw is (rest ∙ elim (eq_by_cmp order q e.0) as (λ b. eq_by_cmp order q e.0 ≡ b → cond (is_some (find order q es)) (get end q) None ≡ cond (is_some (cond b (Some e.1) (find order q es))) (get end q) None) [
      | true ↦ λ same. ap (λ x. cond (is_some (find order q es)) x None) (ap (get end) (same_text q e.0 same) ∙ is) ∙ none_cond (is_some (find order q es)) ∙ sym (ap (get end) (same_text q e.0 same) ∙ is)
      | false ↦ λ _. refl
    ] refl)
    by rest (Some v) is = rw is (get-insert (from_entries (entries_at end (map (λ e. e.0) es))) e.0 v q ∙ elim (eq_by_cmp order q e.0) as (λ b. eq_by_cmp order q e.0 ≡ b → cond b (Some v) (get (from_entries (entries_at end (map (λ e. e.0) es))) q) ≡ cond (is_some (cond b (Some e.1) (find order q es))) (get end q) None) [
      | true ↦ λ same. sym (ap (get end) (same_text q e.0 same) ∙ is)
      | false ↦ λ _. rest
    ] refl)

get_restricted : (start end : Values) (q : Text) → get (restricted start end) q ≡ cond (is_some (get start q)) (get end q) None
unfolding restricted get
get_restricted start end q = get_entries_at end start.list q

has_left : (start end : Values) (p : Text × Scalar) → HasValue start p → HasValue end p → HasValue (restricted start end) p
has_left start end p a b = (b.0, get_restricted start end p.0 ∙ ap (λ o. cond (is_some o) (get end p.0) None) a.1 ∙ b.1, b.2)

have_left : (start end : Values) (ps : List (Text × Scalar)) → HaveValues start ps → HaveValues end ps → HaveValues (restricted start end) ps
have_left start end [] a b = tt
have_left start end (p ∷ ps) a b = (has_left start end p a.0 b.0, have_left start end ps a.1 b.1)

was_there : (o e : Option Value) (v : Value) → cond (is_some o) e None ≡ Some v → (w : Value) × (o ≡ Some w)
was_there None e v h = cc
was_there (Some w) e v h = (w, refl)

-- the task's variables after a commit
pub variables_kept : (c : Config) (u : ProgramUnit) (start end : Values) → HoldsTask c u start → HaveValues end (task_scalars c u) → HoldsTask c u (restricted start end)
variables_kept c u start end a b =
    record {
      each = have_left start end (task_scalars c u) a.each b;
      only = λ q v h. let there = was_there (get start q) (get end q) v (sym (get_restricted start end q) ∙ h) in a.only q there.0 there.1;
    }

-- CARS

number_of_car : (cars : ℤ) (v : Value) → IsOf (within (pos 0) cars) v → nat_abs (whole_of (Some v)) ≤ nat_abs cars
number_of_car cars (Boolean b) h = absurd h
number_of_car cars (Integer z) h = omega (arith, ints, h)

car_of_value : (cars : ℤ) (o : Option Value) (v : Value) → o ≡ Some v → IsOf (within (pos 0) cars) v → nat_abs (whole_of o) ≤ nat_abs cars
car_of_value cars o v e h = subst (λ (x : Option Value). nat_abs (whole_of x) ≤ nat_abs cars) (sym e) (number_of_car cars v h)

cars_from : (cars : ℤ) (count slot : ℕ) (values : Values) → HaveValues values (element_scalars count (codes "ASSIGN") (pos slot) (within (pos 0) cars)) → All (λ car. car ≤ nat_abs cars) (assigned_from count slot values)
cars_from cars zero slot values h = All-nil (λ car. car ≤ nat_abs cars)
cars_from cars (suc count) slot values h =
    All-cons (λ car. car ≤ nat_abs cars) _ _ (car_of_value cars (get values (element_path (codes "ASSIGN") (pos slot))) h.0.0 h.0.1 h.0.2) (cars_from cars count (slot + 1) values h.1)

again : (z : ℤ) → (z -ℤ pos 1) +ℤ pos 1 ≡ z
again z = omega (arith, ints)

pub as_many : (slots : ℤ) → pos 1 ≤ℤ slots → width (record { lower = pos 1; upper = slots }) ≡ nat_abs slots
as_many (pos zero) h = absurd (omega (arith, ints, h))
as_many (pos (suc n)) h = let same : (pos (suc n) -ℤ pos 1) +ℤ pos 1 ≡ pos (suc n) = again (pos (suc n)) in ap width_of same
as_many (negsuc n) h = absurd (omega (arith, ints, h))

-- the cars of a group's wishes are of the group
pub assigned_cars : (c : Config) (values : Values) (n : ℕ) → IsSized c → n ≡ (sizes_of c).slots → HaveValues values (output_scalars c 0) → All (λ car. car ≤ (sizes_of c).cars) (assigned n values)
unfolding assigned
assigned_cars c values n sized many h =
    let row : HaveValues values (element_scalars (width (record { lower = pos 1; upper = c.slots.value })) (codes "ASSIGN") (pos 1) (within (pos 0) c.cars.value)) = subst (HaveValues values) (append-nil _) h in
    let there : HaveValues values (element_scalars n (codes "ASSIGN") (pos 1) (within (pos 0) c.cars.value)) =
    subst (λ (k : ℕ). HaveValues values (element_scalars k (codes "ASSIGN") (pos 1) (within (pos 0) c.cars.value))) (as_many c.slots.value sized.slots ∙ sym many) row in
    cars_from c.cars.value n 1 values there
