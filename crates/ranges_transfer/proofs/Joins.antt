-- Rows that are joined, and what is set aside.
use Rattle.std.proofs.Common.{◌≡◌, ◌≢◌, Option, Some, None, option_map, sym, subst, ◌∙◌, ℕ, zero, suc, ◌+◌, ◌<◌, List, [], ◌∷◌, length, get_or, refl, ap, arith}
use Rattle.std.specs.Prelude.{slice_set}
use Rattle.ranges_interval.specs.declared.Interval.{Interval}
use Rattle.ranges_interval.specs.Interval.{interval_join}
use Rattle.ranges_rows.specs.Ranges.{row_joined}
use Rattle.ranges_laws.specs.Facts.{row_join, one_join, cons_if, deferred_join}
use Rattle.il_semantics.specs.declared.known.KnownDeferred.{KnownDeferred}
use Rattle.ranges_laws.proofs.Rows.{set_length}

-- rows are joined range by range
pub row_joined_is : (xs ys : List Interval) → row_joined xs ys ≡ row_join xs ys
row_joined_is [] ys = refl
row_joined_is (x ∷ xs) [] = refl
row_joined_is (x ∷ xs) (y ∷ ys) = ap (λ zs. interval_join x y ∷ zs) (row_joined_is xs ys)

-- WHAT IS SET ASIDE

-- joined as far as a number
pub going_on : ℕ → List KnownDeferred → List KnownDeferred → Option (List KnownDeferred)
going_on zero xs ys = deferred_join xs ys
going_on (suc n) (x ∷ xs) (y ∷ ys) = option_map (λ zs. x ∷ zs) (going_on n xs ys)
going_on (suc n) [] ys = None
going_on (suc n) (x ∷ xs) [] = None

-- what is left to join, and how long it is
pub record IsGoingOn (number : ℕ) (old now other : List KnownDeferred) : Type 0 where
  pub is : deferred_join old other ≡ going_on number now other
  pub long : length now ≡ length other

pub going_first : (old other : List KnownDeferred) → length old ≡ length other → IsGoingOn 0 old old other
unfolding going_on
going_first old other e = record { is = refl; long = e }

cons_some : (j : KnownDeferred) (o : Option (List KnownDeferred)) → cons_if (Some j) o ≡ option_map (λ zs. j ∷ zs) o
cons_some j None = refl
cons_some j (Some zs) = refl

cons_none : (o : Option (List KnownDeferred)) → cons_if None o ≡ None
cons_none None = refl
cons_none (Some zs) = refl

going_step : (n : ℕ) (xs ys : List KnownDeferred) (d j : KnownDeferred) → n < length xs → n < length ys → one_join (get_or xs n d) (get_or ys n d) ≡ Some j → going_on n xs ys ≡ going_on (suc n) (slice_set xs n j) ys
unfolding going_on
going_step zero (x ∷ xs) (y ∷ ys) d j h k e = ap (λ o. cons_if o (deferred_join xs ys)) e ∙ cons_some j (deferred_join xs ys)
going_step (suc n) (x ∷ xs) (y ∷ ys) d j h k e = ap (option_map (λ zs. x ∷ zs)) (going_step n xs ys d j (omega arith) (omega arith) e)
going_step n [] ys d j h k e = absurd (omega arith)
going_step n (x ∷ xs) [] d j h k e = absurd (omega arith)

going_stops : (n : ℕ) (xs ys : List KnownDeferred) (d : KnownDeferred) → n < length xs → n < length ys → one_join (get_or xs n d) (get_or ys n d) ≡ None → going_on n xs ys ≡ None
unfolding going_on
going_stops zero (x ∷ xs) (y ∷ ys) d h k e = ap (λ o. cons_if o (deferred_join xs ys)) e ∙ cons_none (deferred_join xs ys)
going_stops (suc n) (x ∷ xs) (y ∷ ys) d h k e = ap (option_map (λ zs. x ∷ zs)) (going_stops n xs ys d (omega arith) (omega arith) e)
going_stops n [] ys d h k e = absurd (omega arith)
going_stops n (x ∷ xs) [] d h k e = absurd (omega arith)

going_end : (xs ys : List KnownDeferred) → length xs ≡ length ys → going_on (length ys) xs ys ≡ Some xs
unfolding going_on
going_end [] [] e = refl
going_end (x ∷ xs) (y ∷ ys) e = ap (option_map (λ zs. x ∷ zs)) (going_end xs ys (omega arith))
going_end [] (y ∷ ys) e = absurd (omega arith)
going_end (x ∷ xs) [] e = absurd (omega arith)

-- one more
pub goes_on : (n : ℕ) (old now new other first second : List KnownDeferred) (d j : KnownDeferred) (r : Option KnownDeferred) → IsGoingOn n old now other → first ≡ now → second ≡ other → r ≡ one_join (get_or first n d) (get_or second n d) → r ≡ Some j → new ≡ slice_set now n j → n < length other → IsGoingOn (n + 1) old new other
goes_on n old now new other first second d j r g f s ri rj ni low =
    let one : suc n ≡ n + 1 = omega arith in
    let found : one_join (get_or now n d) (get_or other n d) ≡ Some j = cc in
    subst (λ xs. IsGoingOn (n + 1) old xs other) (sym ni) (record {
      is = g.is ∙ going_step n now other d j (omega (arith, g.long)) low found ∙ ap (λ m. going_on m (slice_set now n j) other) one;
      long = set_length now n j ∙ g.long;
    })

pub goes_off : (n : ℕ) (old now other first second : List KnownDeferred) (d : KnownDeferred) (r : Option KnownDeferred) → IsGoingOn n old now other → first ≡ now → second ≡ other → r ≡ one_join (get_or first n d) (get_or second n d) → r ≡ None → n < length other → deferred_join old other ≡ None
goes_off n old now other first second d r g f s ri rn low =
    let found : one_join (get_or now n d) (get_or other n d) ≡ None = cc in
    g.is ∙ going_stops n now other d (omega (arith, g.long)) low found

pub gone_over : (n : ℕ) (old now other : List KnownDeferred) → IsGoingOn n old now other → n ≡ length other → deferred_join old other ≡ Some now
gone_over n old now other g end = g.is ∙ ap (λ m. going_on m now other) end ∙ going_end now other g.long

-- lists of two lengths
pub no_join : (xs ys : List KnownDeferred) → length xs ≢ length ys → deferred_join xs ys ≡ None
no_join [] [] h = absurd (h refl)
no_join [] (y ∷ ys) h = refl
no_join (x ∷ xs) [] h = refl
no_join (x ∷ xs) (y ∷ ys) h = by_one (one_join x y) (deferred_join xs ys) (no_join xs ys (λ e. h (ap suc e)))
  where
    by_one : (o : Option KnownDeferred) (p : Option (List KnownDeferred)) → p ≡ None → cons_if o p ≡ None
    by_one None p e = refl
    by_one (Some j) p e = ap (cons_if (Some j)) e
