-- The slots of a task: those of the program, and once each those of the functions that it reaches.
use Rattle.std.proofs.Common.{◌≡◌, ◌≢◌, ℕ, zero, suc, ◌+◌, ◌<◌, ◌≤◌, ◌⊎◌, inl, inr, Bool, true, false, ◌&&◌, if◌then◌else◌, List, [], ◌∷◌, ◌++◌, length, get_or, slice_get, Option, Some, None, refl, sym, ap, ◌∙◌, subst, arith}
use Rattle.std.specs.Prelude.{Contains, sum_by}
use Rattle.std.proofs.lemmas.Bool.{cases_lt}
use Rattle.std.proofs.lemmas.Option.{slice_get_within}
use Rattle.std.proofs.lemmas.List.Sums.{sum_by-append, sum_by-cons}
use Rattle.std.proofs.lemmas.List.Quantifiers.{all_pairs_push}
use Rattle.std.proofs.lemmas.List.Elements.{Contains-append_left, Contains-append_right, Contains-append_cases, Contains-get_or}
use Rattle.il_syntax.specs.declared.tree.Config.{Config}
use Rattle.il_syntax.specs.declared.tree.Unit.{Unit as ProgramUnit}
use Rattle.il_statics.specs.Names.{is_function}
use Rattle.il_statics.specs.Order.{Reaches, NamesNoneTwice, AreFunctionsOf, unit_slots, function_slots}
use Rattle.load_scope.specs.Views.{passes}
use Rattle.load_declarations.proofs.Members.{none_in, one_in, in_rest}
use Rattle.load_order.specs.Related.{holds}
use Rattle.load_order.specs.Counted.{capped, number_at, counts, function_count, task_count}
use Rattle.load_order.proofs.Tabled.{and_both}
use Rattle.load_order.proofs.Distinct.{AreDistinct}
use Rattle.load_order.specs.Breaks.{reached}
use Rattle.load_order.proofs.Reaching.{reached_at, reach_to, reach_from}
use Rattle.load_order.proofs.Counting.{capped_sum, capped_more, unit_is}
use Rattle.load_types.proofs.Sharing.{both_true as from_and}

-- SUMS

split : {A : Type 0} (xs : List A) (x : A) → Contains xs x → (before : List A) × (after : List A) × (xs ≡ before ++ x ∷ after)
split [] x among = absurd (none_in x among)
split (y ∷ ys) x (zero, low, same) = ([], ys, ap (λ z. z ∷ ys) same)
split (y ∷ ys) x (suc n, low, same) = let r = split ys x (n, omega (arith, low), same) in (y ∷ r.0, r.1, ap (λ zs. y ∷ zs) r.2)

sum_without : (f : ProgramUnit → ℕ) (before after : List ProgramUnit) (x : ProgramUnit) → sum_by f (before ++ x ∷ after) ≡ f x + sum_by f (before ++ after)
sum_without f before after x =
    let a = sum_by-append f before (x ∷ after) in
    let b = sum_by-append f before after in
    let d = sum_by-cons f x after in
    omega (arith, a, b, d)

-- units that are named once each have no more slots than a list with all of them
sum_within : (f : ProgramUnit → ℕ) (few all : List ProgramUnit) → NamesNoneTwice few → ((u : ProgramUnit) → Contains few u → Contains all u) → sum_by f few ≤ sum_by f all
sum_within f [] all once among = omega arith
sum_within f (u ∷ few) all once among = by_split (λ rest others. sum_within f few rest (λ i j d low high. once (suc i) (suc j) d (omega (arith, low)) (omega (arith, high))) others) (split all u (among u (0, omega arith, refl)))
  where
    by_split : ((rest : List ProgramUnit) → ((v : ProgramUnit) → Contains few v → Contains rest v) → sum_by f few ≤ sum_by f rest) → (before : List ProgramUnit) × (after : List ProgramUnit) × (all ≡ before ++ u ∷ after) → sum_by f (u ∷ few) ≤ sum_by f all
    by_split fewer (before, after, is) =
        let rest = fewer (before ++ after) others in
        let a = sum_by-cons f u few in
        let b = ap (sum_by f) is ∙ sum_without f before after u in
        omega (arith, rest, a, b)
      where
        others : (v : ProgramUnit) → Contains few v → Contains (before ++ after) v
        others v (k, low, e) = elim (Contains-append_cases before (u ∷ after) v (subst (λ l. Contains l v) is (among v (in_rest u few v (k, low, e))))) [ inl a ↦ Contains-append_left before after v a | inr b ↦ later b ]
          where
            later : Contains (u ∷ after) v → Contains (before ++ after) v
            later (zero, low2, same) = absurd (once 0 (suc k) v (omega arith) (omega (arith, low)) (ap (λ (x : ProgramUnit). x.name.name) (same ∙ sym e)))
            later (suc m, low2, same) = Contains-append_right before after v (m, omega (arith, low2), same)

module _ (c : Config) (apart : AreDistinct c) (p : ℕ) (P : ProgramUnit) (here : slice_get c.units p ≡ Some P) where
  -- the functions with a number below a bound that the program reaches
  abbrev picked : Option ProgramUnit → Bool → List ProgramUnit
  picked None reaches = []
  picked (Some u) reaches = if reaches && is_function u then u ∷ [] else []

  abbrev pub functions : ℕ → List ProgramUnit
  functions zero = []
  functions (suc k) = functions k ++ picked (slice_get c.units k) (holds (reached c) p k)

  pub record IsPicked (below : ℕ) (u : ProgramUnit) : Type 0 where
    pub at : ℕ
    pub low : at < below
    pub there : slice_get c.units at ≡ Some u
    pub is : is_function u ≡ true
    pub reaches : holds (reached c) p at ≡ true

  picked_is : (k : ℕ) (o : Option ProgramUnit) (r : Bool) (u : ProgramUnit) → slice_get c.units k ≡ o → holds (reached c) p k ≡ r → Contains (picked o r) u → IsPicked (suc k) u
  picked_is k None r u at holds_it among = absurd (none_in u among)
  picked_is k (Some v) r u at holds_it among = by_test (r && is_function v) refl among
    where
      by_test : (b : Bool) → (r && is_function v) ≡ b → Contains (if b then v ∷ [] else []) u → IsPicked (suc k) u
      by_test true e h =
          let same : v ≡ u = one_in v u h in
          let both = from_and r (is_function v) e in
          record { at = k; low = omega arith; there = at ∙ ap Some same; is = ap is_function (sym same) ∙ both.1; reaches = holds_it ∙ both.0 }
      by_test false e h = absurd (none_in u h)

  pub are_picked : (k : ℕ) (u : ProgramUnit) → Contains (functions k) u → IsPicked k u
  are_picked zero u among = absurd (none_in u among)
  are_picked (suc k) u among = elim (Contains-append_cases (functions k) (picked (slice_get c.units k) (holds (reached c) p k)) u among) [ inl a ↦ wider (are_picked k u a) | inr b ↦ picked_is k (slice_get c.units k) (holds (reached c) p k) u refl refl b ]
    where
      wider : IsPicked k u → IsPicked (suc k) u
      wider w = record { at = w.at; low = (let l = w.low in omega (arith, l)); there = w.there; is = w.is; reaches = w.reaches }

  pub in_functions : (k i : ℕ) (u : ProgramUnit) → i < k → slice_get c.units i ≡ Some u → is_function u ≡ true → holds (reached c) p i ≡ true → Contains (functions k) u
  in_functions zero i u low there is reaches = absurd (omega (arith, low))
  in_functions (suc k) i u low there is reaches = by_place (λ l. in_functions k i u l there is reaches) (cases_lt i k)
    where
      by_place : (i < k → Contains (functions k) u) → (i < k) ⊎ (k ≤ i) → Contains (functions k ++ picked (slice_get c.units k) (holds (reached c) p k)) u
      by_place before (inl l) = Contains-append_left (functions k) (picked (slice_get c.units k) (holds (reached c) p k)) u (before l)
      by_place before (inr h) =
          let e : i ≡ k = omega (arith, h, low) in
          let at : slice_get c.units k ≡ Some u = ap (slice_get c.units) (sym e) ∙ there in
          let it : picked (slice_get c.units k) (holds (reached c) p k) ≡ u ∷ [] =
          ap (λ o. picked o (holds (reached c) p k)) at ∙ ap (λ b. if b then u ∷ [] else []) (and_both (holds (reached c) p k) (is_function u) (ap (holds (reached c) p) (sym e) ∙ reaches) is) in
          Contains-append_right (functions k) (picked (slice_get c.units k) (holds (reached c) p k)) u (subst (λ l. Contains l u) (sym it) (0, omega arith, refl))

  -- no function is named twice
  once : (k : ℕ) → NamesNoneTwice (functions k)
  once zero = λ i j d low high. absurd (omega (arith, high))
  once (suc k) = by_unit (once k) (slice_get c.units k) (holds (reached c) p k) refl
    where
      nothing : (xs : List ProgramUnit) → xs ++ [] ≡ xs
      nothing [] = refl
      nothing (x ∷ xs) = ap (λ l. x ∷ l) (nothing xs)

      by_unit : NamesNoneTwice (functions k) → (o : Option ProgramUnit) (r : Bool) → slice_get c.units k ≡ o → NamesNoneTwice (functions k ++ picked o r)
      by_unit before None r at = subst NamesNoneTwice (sym (nothing (functions k))) before
      by_unit before (Some u) r at = by_test (r && is_function u)
        where
          by_test : (b : Bool) → NamesNoneTwice (functions k ++ (if b then u ∷ [] else []))
          by_test true =
              all_pairs_push (λ (a b : ProgramUnit). a.name.name ≢ b.name.name) (functions k) u before
              (λ i d low same. (let w = are_picked k (get_or (functions k) i d) (Contains-get_or (functions k) i d low) in let l = w.low in let e = apart w.at k (get_or (functions k) i d) u w.there at same in omega (arith, l, e)))
          by_test false = subst NamesNoneTwice (sym (nothing (functions k))) before

  pub are_functions : AreFunctionsOf c P (functions (length c.units))
  are_functions = record {
    each = λ k d low. (let w = are_picked (length c.units) (get_or (functions (length c.units)) k d) (Contains-get_or (functions (length c.units)) k d low) in (w.is, reach_to c p w.at P (get_or (functions (length c.units)) k d) here w.there w.reaches));
    once = once (length c.units);
  }

  -- any other functions that it reaches have no more slots
  pub most_slots : (fs : List ProgramUnit) → AreFunctionsOf c P fs → sum_by (function_slots c) fs ≤ sum_by (function_slots c) (functions (length c.units))
  most_slots fs are = sum_within (function_slots c) fs (functions (length c.units)) are.once among
    where
      among : (u : ProgramUnit) → Contains fs u → Contains (functions (length c.units)) u
      among u (k, low, e) =
          let given = are.each k u low in
          let way : Reaches c P u = subst (Reaches c P) e given.1 in
          let r = reached_at c P u p here way.0 way.1 in
          in_functions (length c.units) r.0 u (slice_get_within c.units r.0 u r.1) r.1 (ap is_function (sym e) ∙ given.0) (reach_from c apart p r.0 P u here r.1 way)

  -- what the code counts
  abbrev counted : List ℕ
  counted = counts c (suc (length c.units + 1))

  one_more : (k : ℕ) (o : Option ProgramUnit) (r : Bool) → slice_get c.units k ≡ o → (if r && passes is_function o then capped (number_at counted k + 1) else 0) ≡ capped (sum_by (function_slots c) (picked o r))
  one_more k None true at = refl
  one_more k None false at = refl
  one_more k (Some u) r at = by_test (r && is_function u)
    where
      by_test : (b : Bool) → (if b then capped (number_at counted k + 1) else 0) ≡ capped (sum_by (function_slots c) (if b then u ∷ [] else []))
      by_test true = ap (λ x. capped (x + 1)) (unit_is c k u at) ∙ capped_more (unit_slots c u) 1 ∙ ap capped (sym (alone (function_slots c u)))
        where
          alone : (a : ℕ) → 0 + a ≡ a
          alone a = omega arith
      by_test false = refl

  pub task_is : (k : ℕ) → task_count c (reached c) counted p k ≡ capped (unit_slots c P + sum_by (function_slots c) (functions k))
  task_is zero = unit_is c p P here ∙ ap capped (let e : unit_slots c P ≡ unit_slots c P + 0 = omega arith in e)
  task_is (suc k) =
      ap (λ x. capped (x + function_count c (reached c) counted p k)) (task_is k)
      ∙ ap (λ x. capped (capped (unit_slots c P + sum_by (function_slots c) (functions k)) + x)) (one_more k (slice_get c.units k) (holds (reached c) p k) refl)
      ∙ capped_sum (unit_slots c P + sum_by (function_slots c) (functions k)) (sum_by (function_slots c) (picked (slice_get c.units k) (holds (reached c) p k)))
      ∙ ap capped (assoc (unit_slots c P) (sum_by (function_slots c) (functions k)) (sum_by (function_slots c) (picked (slice_get c.units k) (holds (reached c) p k))) ∙ ap (λ x. unit_slots c P + x) (sym (sum_by-append (function_slots c) (functions k) (picked (slice_get c.units k) (holds (reached c) p k)))))
    where
      assoc : (a b e : ℕ) → a + b + e ≡ a + (b + e)
      assoc a b e = omega arith
