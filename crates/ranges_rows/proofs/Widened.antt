-- Ranges in two words each.
use Rattle.std.proofs.Common.{◌≡◌, sym, ◌∙◌, ℕ, zero, suc, ◌+◌, ◌*◌, ◌/◌, ◌<◌, ◌≤◌, List, [], ◌∷◌, ◌++◌, length, get_or, refl, ap, arith, take, drop}
use Rattle.std.proofs.lemmas.Int.{ints, clamps}
use Rattle.std.proofs.lemmas.List.{length-set, take_more}
use Rattle.std.proofs.Common.{length-append, length-take}
use Rattle.std.proofs.Math.Seq.{take-length}
use Rattle.std.proofs.lemmas.Option.{slice_get-get_or, slice_get_past}
use Rattle.std.specs.Prelude.{slice_set, slice_get, Some, None, Bool, true, false, cond, ℤ, pos, ◌-ℤ◌, int_lt}
use Rattle.std.specs.Int.{int_min, int_max}
use Rattle.ranges_interval.specs.declared.Interval.{Interval}
use Rattle.ranges_interval.specs.Interval.{interval_join}
use Rattle.ranges_rows.specs.Ranges.{paired, row_joined, range_of, widened, ranges_of}
use Rattle.ranges_rows.proofs.Pairs.{paired_long, paired_same, written_whole}

-- LESSER WORDS

cond_same : (b : Bool) (a : ℤ) → cond b a a ≡ a
cond_same true a = refl
cond_same false a = refl

min_same : (a : ℤ) → int_min a a ≡ a
min_same a = cond_same (int_lt a a) a

pub equal_joined : (xs ys : List ℤ) → xs ≡ ys → xs ≡ paired int_min xs ys
equal_joined xs ys e = sym (paired_same int_min min_same xs) ∙ ap (paired int_min xs) e

pub min_join : (h z : ℤ) → pos 2147483647 -ℤ int_min h z ≡ int_max (pos 2147483647 -ℤ h) (pos 2147483647 -ℤ z)
min_join h z = omega (arith, ints, clamps)

pub joined_words : (xs ys : List ℤ) → widened (paired int_min xs ys) ≡ row_joined (widened xs) (widened ys)
joined_words [] ys = refl
joined_words (x ∷ []) [] = refl
joined_words (x ∷ []) (y ∷ ys) = refl
joined_words (x ∷ v ∷ xs) [] = refl
joined_words (x ∷ v ∷ xs) (y ∷ []) = refl
joined_words (x ∷ v ∷ xs) (y ∷ z ∷ ys) = ap (λ h. record { lo = int_min x y; hi = h } ∷ widened (paired int_min xs ys)) (min_join v z) ∙ ap (λ rs. interval_join (range_of x v) (range_of y z) ∷ rs) (joined_words xs ys)

-- LENGTHS

pub widened_length : (ws : List ℤ) → length (widened ws) ≡ length ws / 2
widened_length [] = refl
widened_length (x ∷ []) = refl
widened_length (x ∷ v ∷ ws) = let h = widened_length ws in omega (arith, h)

pub inside_words : (ws : List ℤ) (n : ℕ) → n < length (widened ws) → 2 * n + 1 < length ws
inside_words ws n h = let l = widened_length ws in omega (arith, h, l)

-- READS AND WRITES

pub widened_get : (ws : List ℤ) (n : ℕ) (d : Interval) (e f : ℤ) → n < length (widened ws) → get_or (widened ws) n d ≡ range_of (get_or ws (2 * n) e) (get_or ws (2 * n + 1) f)
widened_get [] n d e f h = absurd (omega arith)
widened_get (x ∷ []) n d e f h = absurd (omega arith)
widened_get (x ∷ v ∷ ws) zero d e f h = refl
widened_get (x ∷ v ∷ ws) (suc n) d e f h =
    let a : 2 * suc n ≡ suc (suc (2 * n)) = omega arith in
    let b : 2 * suc n + 1 ≡ suc (suc (2 * n + 1)) = omega arith in
    widened_get ws n d e f (omega (arith, h))
    ∙ ap (λ k. range_of (get_or (x ∷ v ∷ ws) k e) (get_or ws (2 * n + 1) f)) (sym a)
    ∙ ap (λ k. range_of (get_or (x ∷ v ∷ ws) (2 * suc n) e) (get_or (x ∷ v ∷ ws) k f)) (sym b)

pub widened_set : (ws : List ℤ) (n : ℕ) (l h : ℤ) → n < length (widened ws) → widened (slice_set (slice_set ws (2 * n) l) (2 * n + 1) h) ≡ slice_set (widened ws) n (range_of l h)
widened_set [] n l h i = absurd (omega arith)
widened_set (x ∷ []) n l h i = absurd (omega arith)
widened_set (x ∷ v ∷ ws) zero l h i = refl
widened_set (x ∷ v ∷ ws) (suc n) l h i =
    let a : 2 * suc n ≡ suc (suc (2 * n)) = omega arith in
    let b : 2 * suc n + 1 ≡ suc (suc (2 * n + 1)) = omega arith in
    ap (λ k. widened (slice_set (slice_set (x ∷ v ∷ ws) k l) (2 * suc n + 1) h)) a
    ∙ ap (λ k. widened (slice_set (slice_set (x ∷ v ∷ ws) (suc (suc (2 * n))) l) k h)) b
    ∙ ap (λ rs. range_of x v ∷ rs) (widened_set ws n l h (omega (arith, i)))

pub widened_append : (ws : List ℤ) (n : ℕ) (l h : ℤ) → length ws ≡ 2 * n → widened (ws ++ l ∷ h ∷ []) ≡ widened ws ++ range_of l h ∷ []
widened_append [] n l h e = refl
widened_append (x ∷ []) n l h e = absurd (omega arith)
widened_append (x ∷ v ∷ ws) zero l h e = absurd (omega arith)
widened_append (x ∷ v ∷ ws) (suc n) l h e = ap (λ rs. range_of x v ∷ rs) (widened_append ws n l h (omega (arith, e)))

-- VIEWS

pub ranges_words : (words : List ℤ) (wide : List Interval) → wide ≡ [] → ranges_of words wide ≡ widened words
ranges_words words [] e = refl
ranges_words words (i ∷ wide) e = cc

pub joined_view : (n : ℕ) (words new other : List ℤ) (wide wide_other : List Interval) → wide ≡ [] → wide_other ≡ [] → length words ≡ length other → n ≡ length words → new ≡ paired int_min words other → ranges_of (take n (new ++ drop (length new) words)) wide ≡ row_joined (ranges_of words wide) (ranges_of other wide_other)
joined_view n words new other wide wide_other ew eo l en e =
    let long : length new ≡ length words = ap length e ∙ paired_long int_min words other l in
    let whole = written_whole n new words long en in
    let here = ranges_words (take n (new ++ drop (length new) words)) wide ew in
    let before = ranges_words words wide ew in
    let others = ranges_words other wide_other eo in
    let both = joined_words words other in
    cc

pub joined_room : (n cap : ℕ) (words new other : List ℤ) → length words ≡ length other → n ≡ length words → new ≡ paired int_min words other → length (widened words) ≤ cap → length (widened (take n (new ++ drop (length new) words))) ≤ cap
joined_room n cap words new other l en e room =
    let long : length new ≡ length words = ap length e ∙ paired_long int_min words other l in
    let whole = ap length (written_whole n new words long en) in
    let a = widened_length (take n (new ++ drop (length new) words)) in
    let b = widened_length words in
    omega (arith, long, whole, a, b, room)

pub set_view : (words new : List ℤ) (wide : List Interval) (number : ℕ) (r range : Interval) → wide ≡ [] → widened new ≡ slice_set (widened words) number r → r ≡ range → ranges_of new wide ≡ slice_set (ranges_of words wide) number range
set_view words new wide number r range ew en er =
    let here = ranges_words new wide ew in
    let before = ranges_words words wide ew in
    cc

pub set_room : (cap : ℕ) (words new : List ℤ) (number : ℕ) (r : Interval) → widened new ≡ slice_set (widened words) number r → length (widened words) ≤ cap → length (widened new) ≤ cap
set_room cap words new number r e room = let l = ap length e ∙ length-set (widened words) number r in omega (arith, l, room)

pub put_is : (ws : List ℤ) (n : ℕ) (l h low high : ℤ) → low ≡ l → high ≡ h → n < length (widened ws) → widened (slice_set (slice_set ws (2 * n) low) (2 * n + 1) high) ≡ slice_set (widened ws) n (range_of l h)
put_is ws n l h low high el eh i =
    ap (λ x. widened (slice_set (slice_set ws (2 * n) x) (2 * n + 1) high)) el ∙ ap (λ x. widened (slice_set (slice_set ws (2 * n) l) (2 * n + 1) x)) eh ∙ widened_set ws n l h i

pub get_view : (self : List Interval) (words : List ℤ) (wide : List Interval) (n : ℕ) (r : Interval) → self ≡ ranges_of words wide → wide ≡ [] → n < length words / 2 → ((d : Interval) → r ≡ get_or (widened words) n d) → Some r ≡ slice_get self n
get_view self words wide n r e ew h is =
    let l = widened_length words in
    let view = e ∙ ranges_words words wide ew in
    let there = slice_get-get_or (widened words) n r (omega (arith, l, h)) in
    ap (λ x. Some x) (is r) ∙ sym there ∙ ap (λ xs. slice_get xs n) (sym view)

pub get_past : (self : List Interval) (words : List ℤ) (wide : List Interval) (n : ℕ) → self ≡ ranges_of words wide → wide ≡ [] → length words / 2 ≤ n → None ≡ slice_get self n
get_past self words wide n e ew h =
    let l = widened_length words in
    let view = e ∙ ranges_words words wide ew in
    sym (slice_get_past (widened words) n (omega (arith, l, h))) ∙ ap (λ xs. slice_get xs n) (sym view)

-- LOOPS

pub narrowed_is : (ranges : List Interval) (ws new : List ℤ) (i : ℕ) (l h : ℤ) (d : Interval) → i < length ranges → widened ws ≡ take i ranges → length ws ≡ 2 * i → new ≡ ws ++ l ∷ h ∷ [] → range_of l h ≡ get_or ranges i d → widened new ≡ take (i + 1) ranges
narrowed_is ranges ws new i l h d low is even added r =
    ap widened added ∙ widened_append ws i l h even ∙ ap (λ xs. xs ++ range_of l h ∷ []) is ∙ ap (λ x. take i ranges ++ x ∷ []) r ∙ sym (take_more ranges i d low)

pub narrowed_even : (ws new : List ℤ) (i : ℕ) (l h : ℤ) → length ws ≡ 2 * i → new ≡ ws ++ l ∷ h ∷ [] → length new ≡ 2 * (i + 1)
narrowed_even ws new i l h even added = let n = ap length added ∙ length-append ws (l ∷ h ∷ []) in omega (arith, n, even)

pub taken_next : (xs now new : List Interval) (i : ℕ) (r : Interval) → i < length xs → now ≡ take i xs → new ≡ now ++ r ∷ [] → ((d : Interval) → r ≡ get_or xs i d) → new ≡ take (i + 1) xs
taken_next xs now new i r low is added there = added ∙ ap (λ ys. ys ++ r ∷ []) is ∙ ap (λ x. take i xs ++ x ∷ []) (there r) ∙ sym (take_more xs i r low)

pub taken_length : (xs now : List Interval) (i : ℕ) → i ≤ length xs → now ≡ take i xs → length now ≡ i
taken_length xs now i low is = ap length is ∙ length-take i xs ∙ omega arith

pub taken_all : (xs now : List Interval) (i : ℕ) → i ≡ length xs → now ≡ take i xs → now ≡ xs
taken_all xs now i e is = is ∙ ap (λ n. take n xs) e ∙ take-length xs
