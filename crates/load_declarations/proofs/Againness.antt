-- Names that are again: lists one after another, and what the rules say.
use Rattle.std.proofs.Common.{◌≡◌, inl, inr, ℕ, ◌+◌, ◌<◌, Bool, true, false, IsTrue, List, [], ◌∷◌, ◌++◌, map, take, length, get_or, refl, sym, ap, ◌∙◌, subst, Option, Some, None, is_some, append-nil, append_assoc, ◌||◌, bytes_eq, if◌then◌else◌}
use Rattle.std.proofs.lemmas.List.Concat.{flat_map-append}
use Rattle.std.specs.Prelude.{flat_map}
use Rattle.il_syntax.specs.declared.tree.Place.{Place}
use Rattle.il_syntax.specs.declared.tree.Named.{Named}
use Rattle.il_syntax.specs.declared.tree.Declaration.{Declaration}
use Rattle.base_maps.specs.NameMap.{get, insert, empty, get-empty}
use Rattle.il_statics.specs.Names.{Spelling, is_one_of}
use Rattle.il_statics.specs.Declarations.{IsAgain, names_in}
use Rattle.il_statics.specs.Least.{NumberedFault, fault_of, earlier_of, IsLeast, When, Either}
use Rattle.il_statics.proofs.Least.{least_both, least_same, least_if, least_none}
use Rattle.load_scope.proofs.Filled.{take_next, get-inserted}
use Rattle.load_declarations.specs.TaskRules.{IsSet}
use Rattle.load_declarations.specs.Again.{Seen, with_names, AgainFrom, NamedAgain, after}
use Rattle.load_declarations.proofs.Lists.{in_one_of, one_of_in, one_of-last}

module _ {A : Type 0} (name_of : A → Spelling) (place_of : A → Place) (number : ℕ) where
  -- one list after another
  up : (seen : Seen) (xs ys : List A) (n : ℕ) (p : Place) → Either (AgainFrom name_of place_of number seen xs) (AgainFrom name_of place_of number (with_names seen (map name_of xs)) ys) n p → AgainFrom name_of place_of number seen (xs ++ ys) n p
  up seen [] ys n p (inl h) = absurd h
  up seen [] ys n p (inr h) = h
  up seen (x ∷ xs) ys n p (inl (inl h)) = inl h
  up seen (x ∷ xs) ys n p (inl (inr h)) = inr (up (insert seen (name_of x) tt) xs ys n p (inl h))
  up seen (x ∷ xs) ys n p (inr h) = inr (up (insert seen (name_of x) tt) xs ys n p (inr h))

  down : (seen : Seen) (xs ys : List A) (n : ℕ) (p : Place) → AgainFrom name_of place_of number seen (xs ++ ys) n p → Either (AgainFrom name_of place_of number seen xs) (AgainFrom name_of place_of number (with_names seen (map name_of xs)) ys) n p
  down seen [] ys n p h = inr h
  down seen (x ∷ xs) ys n p (inl h) = inl (inl h)
  down seen (x ∷ xs) ys n p (inr h) = elim (down (insert seen (name_of x) tt) xs ys n p h) [ inl g ↦ inl (inr g) | inr g ↦ inr g ]

  pub least_append : (seen : Seen) (xs ys : List A) (a b r : Option NumberedFault) → r ≡ earlier_of a b → IsLeast a (AgainFrom name_of place_of number seen xs) → IsLeast b (AgainFrom name_of place_of number (with_names seen (map name_of xs)) ys) → IsLeast r (AgainFrom name_of place_of number seen (xs ++ ys))
  least_append seen xs ys a b r is first second = least_same (Either (AgainFrom name_of place_of number seen xs) (AgainFrom name_of place_of number (with_names seen (map name_of xs)) ys)) (AgainFrom name_of place_of number seen (xs ++ ys)) r (least_both _ _ a b r is first second) (up seen xs ys) (down seen xs ys)

  -- what is seen after two lists of items
  pub after-append : (seen : Seen) (xs ys : List A) → with_names seen (map name_of (xs ++ ys)) ≡ with_names (with_names seen (map name_of xs)) (map name_of ys)
  after-append seen [] ys = refl
  after-append seen (x ∷ xs) ys = after-append (insert seen (name_of x) tt) xs ys

  -- one item
  least_one : (seen : Seen) (x : A) (again : Bool) (r : Option NumberedFault) → again ≡ is_some (get seen (name_of x)) → r ≡ fault_of again number (place_of x) → IsLeast r (AgainFrom name_of place_of number seen (x ∷ []))
  least_one seen x again r test is = least_same (When (IsTrue (is_some (get seen (name_of x)))) number (place_of x)) (AgainFrom name_of place_of number seen (x ∷ [])) r
      (least_if again number (place_of x) r _ is (λ e. sym test ∙ e) (λ e. test ∙ e))
      (λ n p h. inl h) (λ n p h. elim h [ inl g ↦ g | inr g ↦ absurd g ])

  -- what a loop keeps
  pub record IsSoFar (seen : Seen) (found : Option NumberedFault) (now : Seen) (passed : List A) : Type 0 where
    pub least : IsLeast found (AgainFrom name_of place_of number seen passed)
    pub seen_is : now ≡ with_names seen (map name_of passed)

  pub so_far_none : (now seen : Seen) (xs : List A) → now ≡ seen → IsSoFar seen None now (take 0 xs)
  so_far_none now seen xs is = record { least = least_none (AgainFrom name_of place_of number seen []) None refl (λ n p h. h); seen_is = is }

  pub so_far_nothing : (seen : Seen) → IsSoFar seen None seen []
  so_far_nothing seen = record { least = least_none (AgainFrom name_of place_of number seen []) None refl (λ n p h. h); seen_is = refl }

  pub so_far_next : (seen : Seen) (xs : List A) (i : ℕ) (x : A) (key : Spelling) (again : Bool) (found one r : Option NumberedFault) (mid new : Seen) → i < length xs → x ≡ get_or xs i x → key ≡ name_of x → again ≡ is_some (get mid key) → new ≡ insert mid key tt → one ≡ fault_of again number (place_of x) → r ≡ earlier_of found one → IsSoFar seen found mid (take i xs) → IsSoFar seen r new (take (i + 1) xs)
  so_far_next seen xs i x key again found one r mid new low there named test added is_one is before = record {
    least = subst (λ l. IsLeast r (AgainFrom name_of place_of number seen l)) (sym longer)
        (least_append seen (take i xs) (x ∷ []) found one r is before.least
        (least_one (with_names seen (map name_of (take i xs))) x again one (test ∙ ap (λ k. is_some (get mid k)) named ∙ ap (λ m. is_some (get m (name_of x))) before.seen_is) is_one));
    seen_is = added ∙ ap (λ k. insert mid k tt) named ∙ ap (λ m. insert m (name_of x) tt) before.seen_is ∙ sym (after-append seen (take i xs) (x ∷ [])) ∙ ap (λ l. with_names seen (map name_of l)) (sym longer);
  }
    where
      longer : take (i + 1) xs ≡ take i xs ++ x ∷ []
      longer = take_next xs i x low there

  -- a list more
  pub so_far_append : (seen : Seen) (xs ys : List A) (found one r : Option NumberedFault) (mid new : Seen) → IsLeast one (AgainFrom name_of place_of number mid ys) → new ≡ with_names mid (map name_of ys) → r ≡ earlier_of found one → IsSoFar seen found mid xs → IsSoFar seen r new (xs ++ ys)
  so_far_append seen xs ys found one r mid new here added is before = record {
    least = least_append seen xs ys found one r is before.least (subst (λ m. IsLeast one (AgainFrom name_of place_of number m ys)) before.seen_is here);
    seen_is = added ∙ ap (λ m. with_names m (map name_of ys)) before.seen_is ∙ sym (after-append seen xs ys);
  }

  -- the items of one list more, of lists one after another
  pub so_far_lists : {B : Type 0} (f : B → List A) (seen : Seen) (bs : List B) (i : ℕ) (b : B) (ys : List A) (found one r : Option NumberedFault) (mid new : Seen) → i < length bs → b ≡ get_or bs i b → ys ≡ f b → IsLeast one (AgainFrom name_of place_of number mid ys) → new ≡ with_names mid (map name_of ys) → r ≡ earlier_of found one
      → IsSoFar seen found mid (flat_map f (take i bs)) → IsSoFar seen r new (flat_map f (take (i + 1) bs))
  so_far_lists f seen bs i b ys found one r mid new low there same here added is before =
      subst (IsSoFar seen r new) (sym longer) (so_far_append seen (flat_map f (take i bs)) ys found one r mid new here added is before)
    where
      longer : flat_map f (take (i + 1) bs) ≡ flat_map f (take i bs) ++ ys
      longer = ap (flat_map f) (take_next bs i b low there) ∙ flat_map-append f (take i bs) (b ∷ []) ∙ ap (λ l. flat_map f (take i bs) ++ l) (append-nil (f b) ∙ sym same)

-- two lists of names
pub two_lists : (seen s0 s1 : Seen) (xs ys : List Named) (a b r : Option NumberedFault) → s0 ≡ seen → IsLeast a (NamedAgain s0 xs) → s1 ≡ after s0 xs → IsLeast b (NamedAgain s1 ys) → r ≡ earlier_of a b → IsLeast r (NamedAgain seen (xs ++ ys))
two_lists seen s0 s1 xs ys a b r start first passed second is =
    least_append (λ (n : Named). n.name) (λ n. n.place) 20 seen xs ys a b r is (subst (λ m. IsLeast a (NamedAgain m xs)) start first) (subst (λ m. IsLeast b (NamedAgain m ys)) (passed ∙ ap (λ m. after m xs) start) second)

-- the names of four lists of declarations
pub four_lists : (u1 u2 u3 u4 l1 l2 l3 l4 : List Declaration) (seen s0 s1 s2 s3 : Seen) (a b c d ab abc r : Option NumberedFault) → l1 ≡ u1 → l2 ≡ u2 → l3 ≡ u3 → l4 ≡ u4 → s0 ≡ seen
    → IsLeast a (NamedAgain s0 (names_in l1)) → s1 ≡ after s0 (names_in l1) → IsLeast b (NamedAgain s1 (names_in l2)) → s2 ≡ after s1 (names_in l2) → IsLeast c (NamedAgain s2 (names_in l3)) → s3 ≡ after s2 (names_in l3) → IsLeast d (NamedAgain s3 (names_in l4))
    → ab ≡ earlier_of a b → abc ≡ earlier_of ab c → r ≡ earlier_of abc d → IsLeast r (NamedAgain seen (names_in (u1 ++ u2 ++ u3 ++ u4)))
four_lists u1 u2 u3 u4 l1 l2 l3 l4 seen s0 s1 s2 s3 a b c d ab abc r e1 e2 e3 e4 start first p1 second p2 third p3 fourth two three four =
    subst (λ l. IsLeast r (NamedAgain seen l)) flat
    (two_lists seen seen s3 ((names_in l1 ++ names_in l2) ++ names_in l3) (names_in l4) abc d r refl
    (two_lists seen seen s2 (names_in l1 ++ names_in l2) (names_in l3) ab c abc refl (two_lists seen s0 s1 (names_in l1) (names_in l2) a b ab start first p1 second two) passed2 third three)
    passed3 fourth four)
  where
    passed2 : s2 ≡ after seen (names_in l1 ++ names_in l2)
    passed2 = p2 ∙ ap (λ m. after m (names_in l2)) (p1 ∙ ap (λ m. after m (names_in l1)) start) ∙ sym (after-append (λ (n : Named). n.name) (λ n. n.place) 20 seen (names_in l1) (names_in l2))

    passed3 : s3 ≡ after seen ((names_in l1 ++ names_in l2) ++ names_in l3)
    passed3 = p3 ∙ ap (λ m. after m (names_in l3)) passed2 ∙ sym (after-append (λ (n : Named). n.name) (λ n. n.place) 20 seen (names_in l1 ++ names_in l2) (names_in l3))

    flat : ((names_in l1 ++ names_in l2) ++ names_in l3) ++ names_in l4 ≡ names_in (u1 ++ u2 ++ u3 ++ u4)
    flat =
        ap (λ l. ((names_in l ++ names_in l2) ++ names_in l3) ++ names_in l4) e1 ∙ ap (λ l. ((names_in u1 ++ names_in l) ++ names_in l3) ++ names_in l4) e2
        ∙ ap (λ l. ((names_in u1 ++ names_in u2) ++ names_in l) ++ names_in l4) e3 ∙ ap (λ l. ((names_in u1 ++ names_in u2) ++ names_in u3) ++ names_in l) e4
        ∙ sym (flat_map-append (λ (d : Declaration). d.names) ((u1 ++ u2) ++ u3) u4
        ∙ ap (λ l. l ++ names_in u4) (flat_map-append (λ (d : Declaration). d.names) (u1 ++ u2) u3 ∙ ap (λ l. l ++ names_in u3) (flat_map-append (λ (d : Declaration). d.names) u1 u2)))

-- a set with a name more
set_more : (s : List Spelling) (seen : Seen) (n : Spelling) → IsSet s seen → IsSet (s ++ n ∷ []) (insert seen n tt)
set_more s seen n is q = ap is_some (get-inserted seen n tt q) ∙ by_name (bytes_eq n q) (get seen q) ∙ ap (λ b. bytes_eq n q || b) (is q) ∙ sym (one_of-last s n q)
  where
    by_name : (b : Bool) (o : Option (Unit {0})) → is_some (if b then Some tt else o) ≡ (b || is_some o)
    by_name true o = refl
    by_name false o = refl

module _ {A : Type 0} (name_of : A → Spelling) (place_of : A → Place) (number : ℕ) where
  -- what follows one of its name is found
  found_from : (s : List Spelling) (seen : Seen) (n : ℕ) (p : Place) → IsSet s seen → (before after : List A) (x : A) → is_one_of (s ++ map name_of before) (name_of x) ≡ true → n ≡ number → p ≡ place_of x → AgainFrom name_of place_of number seen (before ++ x ∷ after) n p
  found_from s seen n p is [] after x again num at = inl (is (name_of x) ∙ ap (λ l. is_one_of l (name_of x)) (sym (append-nil s)) ∙ again, num, at)
  found_from s seen n p is (b ∷ before) after x again num at = inr (found_from (s ++ name_of b ∷ []) (insert seen (name_of b) tt) n p (set_more s seen (name_of b) is) before after x (ap (λ l. is_one_of l (name_of x)) (append_assoc s (name_of b ∷ []) (map name_of before)) ∙ again) num at)

  -- what is found follows one of its name
  record IsBehind (s : List Spelling) (items : List A) (n : ℕ) (p : Place) : Type 0 where
    pub before : List A
    pub after : List A
    pub item : A
    pub items_are : items ≡ before ++ item ∷ after
    pub again : is_one_of (s ++ map name_of before) (name_of item) ≡ true
    pub numbered : n ≡ number
    pub placed : p ≡ place_of item

  from_found : (s : List Spelling) (seen : Seen) (n : ℕ) (p : Place) → IsSet s seen → (items : List A) → AgainFrom name_of place_of number seen items n p → IsBehind s items n p
  from_found s seen n p is [] h = absurd h
  from_found s seen n p is (x ∷ xs) (inl h) = record { before = []; after = xs; item = x; items_are = refl; again = ap (λ l. is_one_of l (name_of x)) (append-nil s) ∙ sym (is (name_of x)) ∙ h.0; numbered = h.1; placed = h.2 }
  from_found s seen n p is (x ∷ xs) (inr h) =
      let r = from_found (s ++ name_of x ∷ []) (insert seen (name_of x) tt) n p (set_more s seen (name_of x) is) xs h in
      record { before = x ∷ r.before; after = r.after; item = r.item; items_are = ap (λ l. x ∷ l) r.items_are; again = ap (λ l. is_one_of l (name_of r.item)) (sym (append_assoc s (name_of x ∷ []) (map name_of r.before))) ∙ r.again; numbered = r.numbered; placed = r.placed }

  nothing_seen : IsSet {X = Unit {0}} [] empty
  nothing_seen q = ap is_some (get-empty q)

  -- an item that is again
  pub again_found : (items : List A) (x : A) (n : ℕ) (p : Place) → IsAgain name_of items x → n ≡ number → p ≡ place_of x → AgainFrom name_of place_of number empty items n p
  again_found items x n p a num at = subst (λ l. AgainFrom name_of place_of number empty l n p) (sym a.2) (found_from [] empty n p nothing_seen a.0 a.1 x (in_one_of (map name_of a.0) (name_of x) a.3) num at)

  -- what is found
  pub found_again : (items : List A) (n : ℕ) (p : Place) → AgainFrom name_of place_of number empty items n p → (x : A) × IsAgain name_of items x × (n ≡ number) × (p ≡ place_of x)
  found_again items n p h = let r = from_found [] empty n p nothing_seen items h in (r.item, (r.before, r.after, r.items_are, one_of_in (map name_of r.before) (name_of r.item) r.again), r.numbered, r.placed)
