-- The nearest of names.
use Rattle.std.proofs.Common.{◌≡◌, ◌⊎◌, inl, inr, ◌≤◌, ℕ, zero, suc, Bool, true, false, ◌&&◌, if◌then◌else◌, List, [], ◌∷◌, refl, sym, subst, Option, Some, None, IfSome, IsTrue, Contains, arith}
use Rattle.std.specs.Prelude.{nat_lt}
use Rattle.std.proofs.lemmas.Bool.Decides.{nat_tests}
use Rattle.il_statics.specs.Names.{Spelling}
use Rattle.reasons_names.specs.NamesNear.{Known, Nearest, distance, is_short, are_few, are_fewer, is_near, nearer, nearest_from, nearest, IsNearest}

-- so many edits are no more than those to what was found
abbrev AtMost : ℕ → Option Nearest → Type 0
AtMost d None = Unit {0}
AtMost d (Some n) = d ≤ n.distance

-- a name, tested
abbrev tested : Bool → Bool → Option Nearest → Known → ℕ → Option Nearest
tested short few found k e = if short then (if few && are_fewer e found then Some (record { known = k; distance = e }) else found) else found

-- no more than to what is found then is no more than before, and than to the name where it is near
step_most : (short few : Bool) (found : Option Nearest) (k : Known) (e d : ℕ) → AtMost d (tested short few found k e) → AtMost d found × (IsTrue (short && few) → d ≤ e)
step_most true true None k e d h = (tt, λ _. h)
step_most true true (Some f) k e d h = by_less (nat_lt e f.distance) refl h
  where
    by_less : (b : Bool) → nat_lt e f.distance ≡ b → AtMost d (if b then Some (record { known = k; distance = e }) else Some f) → (d ≤ f.distance) × (IsTrue (true && true) → d ≤ e)
    by_less true is g = (grind (arith, nat_tests), λ _. g)
    by_less false is g = (g, λ _. grind (arith, nat_tests))
step_most true false found k e d h = (h, λ bad. let wrong : false ≡ true = bad in cc)
step_most false few found k e d h = (h, λ bad. let wrong : false ≡ true = bad in cc)

-- what is found then was found before, or is the name, which is near
step_is : (short few : Bool) (found : Option Nearest) (k : Known) (e : ℕ) (n : Nearest) → tested short few found k e ≡ Some n → (found ≡ Some n) ⊎ ((n ≡ record { known = k; distance = e }) × IsTrue (short && few))
step_is true true found k e n h = by_fewer (are_fewer e found) h
  where
    by_fewer : (b : Bool) → (if b then Some (record { known = k; distance = e }) else found) ≡ Some n → (found ≡ Some n) ⊎ ((n ≡ record { known = k; distance = e }) × IsTrue (true && true))
    by_fewer true g = inr (cc, refl)
    by_fewer false g = inl g
step_is true false found k e n h = inl h
step_is false few found k e n h = inl h

-- the same of one name more
next_most : (name : Spelling) (found : Option Nearest) (k : Known) (d : ℕ) → AtMost d (nearer name found k) → AtMost d found × (IsTrue (is_near name k) → d ≤ distance name k.name)
unfolding nearer
next_most name found k d h = step_most (is_short name && is_short k.name) (are_few name (distance name k.name)) found k (distance name k.name) d h

next_is : (name : Spelling) (found : Option Nearest) (k : Known) (n : Nearest) → nearer name found k ≡ Some n → (found ≡ Some n) ⊎ ((n ≡ record { known = k; distance = distance name k.name }) × IsTrue (is_near name k))
unfolding nearer
next_is name found k n h = step_is (is_short name && is_short k.name) (are_few name (distance name k.name)) found k (distance name k.name) n h

-- nothing that was found, and no near name of a list, is nearer than what is found in the end
none_nearer : (name : Spelling) (found : Option Nearest) (ks : List Known) (n : Nearest) → nearest_from name found ks ≡ Some n → AtMost n.distance found × ((k : Known) → Contains ks k → IsTrue (is_near name k) → n.distance ≤ distance name k.name)
none_nearer name found [] n h = (subst (AtMost n.distance) (sym h) (omega arith), λ k there. omega (arith, there.1))
none_nearer name found (x ∷ ks) n h =
    let rest = none_nearer name (nearer name found x) ks n h in
    let first = next_most name found x n.distance rest.0 in
    (first.0, each first.1 rest.1)
  where
    each : (IsTrue (is_near name x) → n.distance ≤ distance name x.name) → ((k : Known) → Contains ks k → IsTrue (is_near name k) → n.distance ≤ distance name k.name) → (k : Known) → Contains (x ∷ ks) k → IsTrue (is_near name k) → n.distance ≤ distance name k.name
    each here there k (zero, low, is) near = subst (λ y. IsTrue (is_near name y) → n.distance ≤ distance name y.name) is here near
    each here there k (suc i, low, is) near = there k (i, omega arith, is) near

-- what is found in the end was found before, or is in the list and is near
is_found : (name : Spelling) (found : Option Nearest) (ks : List Known) (n : Nearest) → nearest_from name found ks ≡ Some n → (found ≡ Some n) ⊎ ((k : Known) × Contains ks k × (n ≡ record { known = k; distance = distance name k.name }) × IsTrue (is_near name k))
is_found name found [] n h = inl h
is_found name found (x ∷ ks) n h = by_rest (is_found name (nearer name found x) ks n h)
  where
    by_first : (found ≡ Some n) ⊎ ((n ≡ record { known = x; distance = distance name x.name }) × IsTrue (is_near name x)) → (found ≡ Some n) ⊎ ((k : Known) × Contains (x ∷ ks) k × (n ≡ record { known = k; distance = distance name k.name }) × IsTrue (is_near name k))
    by_first (inl e) = inl e
    by_first (inr e) = inr (x, (zero, omega arith, refl), e.0, e.1)

    by_rest : (nearer name found x ≡ Some n) ⊎ ((k : Known) × Contains ks k × (n ≡ record { known = k; distance = distance name k.name }) × IsTrue (is_near name k)) → (found ≡ Some n) ⊎ ((k : Known) × Contains (x ∷ ks) k × (n ≡ record { known = k; distance = distance name k.name }) × IsTrue (is_near name k))
    by_rest (inl e) = by_first (next_is name found x n e)
    by_rest (inr (k, there, is, near)) = inr (k, (suc there.0, omega (arith, there.1), there.2), is, near)

-- what is nearest is near, and nobody is nearer
pub nearest_is : (name : Spelling) (ks : List Known) (o : Option Nearest) → o ≡ nearest name ks → IfSome o (IsNearest name ks)
nearest_is name ks None h = tt
nearest_is name ks (Some n) h = by_found (is_found name None ks n (sym h))
  where
    by_found : (None ≡ Some n) ⊎ ((k : Known) × Contains ks k × (n ≡ record { known = k; distance = distance name k.name }) × IsTrue (is_near name k)) → IsNearest name ks n
    by_found (inl bad) = cc
    by_found (inr (k, there, is, near)) = record {
      listed = subst (λ m. Contains ks m.known) (sym is) there;
      edits = subst (λ m. m.distance ≡ distance name m.known.name) (sym is) refl;
      near = subst (λ m. IsTrue (is_near name m.known)) (sym is) near;
      nobody_nearer = (none_nearer name None ks n (sym h)).1;
    }
