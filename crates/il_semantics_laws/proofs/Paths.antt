-- Values at lists of paths: of a map made of entries, and of one laid over another.
use Rattle.std.proofs.Common.{◌≡◌, zero, suc, Bool, true, false, List, [], ◌∷◌, ◌++◌, map, refl, sym, ap, ◌∙◌, subst, cond, Some, None, Option, Contains, arith}
use Rattle.std.specs.Ordering.{eq_by_cmp}
use Rattle.std.specs.FinMap.Entries.{find}
use Rattle.il_syntax.specs.declared.tree.Scalar.{Scalar}
use Rattle.il_statics.specs.Names.{or_else}
use Rattle.il_semantics.specs.declared.value.Value.{Value}
use Rattle.base_maps.specs.NameMap.{Text, order, get, insert, from_entries, with_entries, get-empty, get-insert}
use Rattle.il_semantics.specs.Values.{IsOf}
use Rattle.il_semantics.specs.State.{Values}
use Rattle.il_semantics.specs.Ranges.{HasValue, HaveValues}
use Rattle.il_semantics_laws.specs.Listed.{HaveOneType}
use Rattle.il_semantics_laws.proofs.Texts.{same_text, text_itself}

-- LISTS

-- a value of each of a list of types at the path of one
pub value_of : (m : Values) (ps : List (Text × Scalar)) (p : Text × Scalar) → HaveValues m ps → Contains ps p → HasValue m p
value_of m [] p h (k, below, is) = absurd (omega (arith, below))
value_of m (q ∷ ps) p h (zero, below, is) = subst (HasValue m) is h.0
value_of m (q ∷ ps) p h (suc k, below, is) = value_of m ps p h.1 (k, omega (arith, below), is)

-- of each member a value
pub values_of : (m : Values) (ps : List (Text × Scalar)) → ((p : Text × Scalar) → Contains ps p → HasValue m p) → HaveValues m ps
values_of m [] h = tt
values_of m (p ∷ ps) h = (h p (0, omega arith, refl), values_of m ps (λ q at. h q (suc at.0, omega (arith, at.1), at.2)))

-- a member of the paths is the path of a member
pub path_of : (ps : List (Text × Scalar)) (q : Text) → Contains (map (λ p. p.0) ps) q → (p : Text × Scalar) × Contains ps p × (p.0 ≡ q)
path_of [] q (k, below, is) = absurd (omega (arith, below))
path_of (p ∷ ps) q (zero, below, is) = (p, (0, omega arith, refl), is)
path_of (p ∷ ps) q (suc k, below, is) = let rest = path_of ps q (k, omega (arith, below), is) in (rest.0, (suc rest.1.0, omega (arith, rest.1.1), rest.1.2), rest.2)

module _ (m : Values) where
  pub have_both : (xs ys : List (Text × Scalar)) → HaveValues m xs → HaveValues m ys → HaveValues m (xs ++ ys)
  have_both [] ys h k = k
  have_both (x ∷ xs) ys h k = (h.0, have_both xs ys h.1 k)

  pub have_first : (xs ys : List (Text × Scalar)) → HaveValues m (xs ++ ys) → HaveValues m xs
  have_first [] ys h = tt
  have_first (x ∷ xs) ys h = (h.0, have_first xs ys h.1)

  pub have_second : (xs ys : List (Text × Scalar)) → HaveValues m (xs ++ ys) → HaveValues m ys
  have_second [] ys h = h
  have_second (x ∷ xs) ys h = have_second xs ys h.1

-- WRITES

pub has_insert : (m : Values) (k : Text) (v : Value) (p : Text × Scalar) → HasValue m p → (p.0 ≡ k → IsOf p.1 v) → HasValue (insert m k v) p
has_insert m k v p old new = by (eq_by_cmp order p.0 k) refl
  where
    by : (b : Bool) → eq_by_cmp order p.0 k ≡ b → HasValue (insert m k v) p
    by true e = (v, get-insert m k v p.0 ∙ ap (λ b. cond b (Some v) (get m p.0)) e, new (same_text p.0 k e))
    by false e = (old.0, get-insert m k v p.0 ∙ ap (λ b. cond b (Some v) (get m p.0)) e ∙ old.1, old.2)

-- ENTRIES THAT AGREE WITH TYPES

-- each entry has the path and a value of the type, in the same order
abbrev pub Agree : List (Text × Scalar) → List (Text × Value) → Type 0
Agree [] [] = Unit {0}
Agree [] (e ∷ es) = ⊥
Agree (p ∷ ps) [] = ⊥
Agree (p ∷ ps) (e ∷ es) = (p.0 ≡ e.0) × IsOf p.1 e.1 × Agree ps es

pub agree_append : (ps qs : List (Text × Scalar)) (es fs : List (Text × Value)) → Agree ps es → Agree qs fs → Agree (ps ++ qs) (es ++ fs)
agree_append [] qs [] fs h k = k
agree_append [] qs (e ∷ es) fs h k = absurd h
agree_append (p ∷ ps) qs [] fs h k = absurd h
agree_append (p ∷ ps) qs (e ∷ es) fs h k = (h.0, h.1, agree_append ps qs es fs h.2 k)

have_insert : (m : Values) (k : Text) (v : Value) (ps : List (Text × Scalar)) → HaveValues m ps → ((p : Text × Scalar) → Contains ps p → p.0 ≡ k → IsOf p.1 v) → HaveValues (insert m k v) ps
have_insert m k v [] old new = tt
have_insert m k v (p ∷ ps) old new = (has_insert m k v p old.0 (new p (0, omega arith, refl)), have_insert m k v ps old.1 (λ q h. new q (suc h.0, omega (arith, h.1), h.2)))

-- then each path has a value of its type, where none is with two
pub have_agreed : (ps : List (Text × Scalar)) (es : List (Text × Value)) → Agree ps es → HaveOneType ps → HaveValues (from_entries es) ps
have_agreed [] [] h once = tt
have_agreed [] (e ∷ es) h once = absurd h
have_agreed (p ∷ ps) [] h once = absurd h
have_agreed (p ∷ ps) (e ∷ es) h once =
    let rest : HaveValues (from_entries es) ps = have_agreed ps es h.2 (λ q r at_q at_r. once q r (suc at_q.0, omega (arith, at_q.1), at_q.2) (suc at_r.0, omega (arith, at_r.1), at_r.2)) in
    let own : eq_by_cmp order p.0 e.0 ≡ true = ap (λ q. eq_by_cmp order q e.0) h.0 ∙ text_itself e.0 in (
      (e.1, get-insert (from_entries es) e.0 e.1 p.0 ∙ ap (λ b. cond b (Some e.1) (get (from_entries es) p.0)) own, h.1),
      have_insert (from_entries es) e.0 e.1 ps rest (λ q there same. subst (λ s. IsOf s e.1) (once p q (0, omega arith, refl) (suc there.0, omega (arith, there.1), there.2) (h.0 ∙ sym same)) h.1),
    )

-- and no other path has one
pub only_agreed : (ps : List (Text × Scalar)) (es : List (Text × Value)) (q : Text) (v : Value) → Agree ps es → get (from_entries es) q ≡ Some v → Contains (map (λ p. p.0) ps) q
only_agreed [] [] q v h is = let bad : None ≡ Some v = sym (get-empty q) ∙ is in cc
only_agreed [] (e ∷ es) q v h is = absurd h
only_agreed (p ∷ ps) [] q v h is = absurd h
only_agreed (p ∷ ps) (e ∷ es) q v h is = by (eq_by_cmp order q e.0) refl (only_agreed ps es q v h.2)
  where
    by : (b : Bool) → eq_by_cmp order q e.0 ≡ b → (get (from_entries es) q ≡ Some v → Contains (map (λ p. p.0) ps) q) → Contains (map (λ p. p.0) (p ∷ ps)) q
    by true same rest = (0, omega arith, h.0 ∙ sym (same_text q e.0 same))
    by false other rest =
        let there = rest (sym (ap (λ b. cond b (Some e.1) (get (from_entries es) q)) other) ∙ sym (get-insert (from_entries es) e.0 e.1 q) ∙ is) in
        (suc there.0, omega (arith, there.1), there.2)

-- ONE MAP OVER ANOTHER

by_test : (b : Bool) (v : Value) (o x : Option Value) → cond b (Some v) (or_else o x) ≡ or_else (cond b (Some v) o) x
by_test true v o x = refl
by_test false v o x = refl

get_with : (m : Values) (es : List (Text × Value)) (q : Text) → get (with_entries m es) q ≡ or_else (find order q es) (get m q)
get_with m [] q = refl
get_with m (e ∷ es) q =
    get-insert (with_entries m es) e.0 e.1 q ∙ ap (λ o. cond (eq_by_cmp order q e.0) (Some e.1) o) (get_with m es q) ∙ by_test (eq_by_cmp order q e.0) e.1 (find order q es) (get m q)

get_over : (m n : Values) (q : Text) → get (with_entries m n.list) q ≡ or_else (get n q) (get m q)
unfolding get
get_over m n q = get_with m n.list q

pub over_has : (m n : Values) (own : List (Text × Scalar)) (p : Text × Scalar) → HaveValues n own → ((q : Text) (v : Value) → get n q ≡ Some v → Contains (map (λ p. p.0) own) q) → ((q : Text × Scalar) → Contains own q → q.0 ≡ p.0 → q.1 ≡ p.1) → HasValue m p
    → HasValue (with_entries m n.list) p
over_has m n own p have only once below = by (get n p.0) refl
  where
    by : (o : Option Value) → get n p.0 ≡ o → HasValue (with_entries m n.list) p
    by None is = (below.0, get_over m n p.0 ∙ ap (λ o. or_else o (get m p.0)) is ∙ below.1, below.2)
    by (Some v) is =
        let found = path_of own p.0 (only p.0 v is) in
        let value : HasValue n found.0 = value_of n own found.0 have found.1 in
        let there : get n p.0 ≡ Some value.0 = ap (get n) (sym found.2) ∙ value.1 in
        (value.0, get_over m n p.0 ∙ ap (λ o. or_else o (get m p.0)) there, subst (λ s. IsOf s value.0) (once found.0 found.1 found.2) value.2)

pub own_has : (m n : Values) (p : Text × Scalar) → HasValue n p → HasValue (with_entries m n.list) p
own_has m n p h = (h.0, get_over m n p.0 ∙ ap (λ o. or_else o (get m p.0)) h.1, h.2)
