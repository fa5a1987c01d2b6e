-- What the map from texts answers.
use Rattle.std.proofs.Common.{◌≡◌, ℕ, zero, suc, ◌+◌, ◌*◌, ◌/◌, ◌%◌, ◌<◌, ◌≤◌, ◌-◌, Bool, true, false, ◌&&◌, List, [], ◌∷◌, ◌++◌, length, refl, sym, ap, ap₂, ◌∙◌, cond, Option, Some, None, subst, arith, append-nil, drop, ◌^◌}
use Rattle.std.specs.Prelude.{String, nat_lt, nat_le, ◌==◌, if◌then◌else◌}
use Rattle.std.proofs.lemmas.Bool.Decides.{nat_tests}
use Rattle.std.proofs.lemmas.Slice.Eq.{bytes_eq-Decides}
use Rattle.std.specs.Ordering.{nat_cmp, eq_by_cmp, is_eq}
use Rattle.std.specs.Map.{lookup}
use Rattle.std.specs.String.{string_bytes, string_cmp}
use Rattle.std.proofs.lemmas.Map.Text.{btree_map_updates_text, is_eq-slice_cmp}
use Rattle.std.specs.BTreeMap.{BTreeMap, UpdatesBy, get_by_text}
use Rattle.base_maps.specs.NameMap.{Text, order, from_entries, get, insert, get-insert, get-empty, same_map}
use Rattle.base_maps.specs.Numbers.{appended, number, are_bytes, is_short, text_from, text_of, is_number}
use Rattle.base_maps.specs.Places.{HasPut}
use Rattle.base_maps.specs.ByText.{short_entries, long_entries, by_text}

-- TESTS

left : (a b : Bool) → (a && b) ≡ true → a ≡ true
left true b e = refl
left false b e = e

right : (a b : Bool) → (a && b) ≡ true → b ≡ true
right true b e = e
right false b e = cc

both : (a b : Bool) → a ≡ true → b ≡ true → (a && b) ≡ true
both true b e f = f
both false b e f = cc

pub agree : (a b : Bool) → (a ≡ true → b ≡ true) → (b ≡ true → a ≡ true) → a ≡ b
agree true true f g = refl
agree false false f g = refl
agree true false f g = sym (f refl)
agree false true f g = g refl

-- texts that compare equal are one
same_order : (q k : Text) → eq_by_cmp order q k ≡ true → q ≡ k
same_order q k h = (bytes_eq-Decides q k).0 (sym (is_eq-slice_cmp q k) ∙ h)

order_same : (q k : Text) → q ≡ k → eq_by_cmp order q k ≡ true
order_same q k h = is_eq-slice_cmp q k ∙ (bytes_eq-Decides q k).1 h

pub same_number : (x y : ℕ) → is_eq (nat_cmp x y) ≡ true → x ≡ y
same_number x y h = by_less (nat_lt x y) (x == y) refl h
  where
    by_less : (a b : Bool) → (x == y) ≡ b → is_eq (cond a Rattle.std.specs.declared.cmp.Ordering.TheVariants.Less (cond b Rattle.std.specs.declared.cmp.Ordering.TheVariants.Equal Rattle.std.specs.declared.cmp.Ordering.TheVariants.Greater)) ≡ true → x ≡ y
    by_less true b is e = cc
    by_less false true is e = grind (arith, nat_tests)
    by_less false false is e = cc

pub number_same : (x : ℕ) → is_eq (nat_cmp x x) ≡ true
number_same x = grind (arith, nat_tests)

-- NUMBERS OF NAMES

-- a name is shorter than its number
grows : (k : ℕ) (q : Text) → 1 ≤ k → k + length q ≤ appended k q
grows k [] low = omega arith
grows k (b ∷ bs) low = let more = grows (k * 256 + b) bs (let h : 1 ≤ k * 256 + b = omega (arith, low) in h) in (let e : k + suc (length bs) ≤ appended (k * 256 + b) bs = omega (arith, low, more) in e)

-- one byte back
back : (n k b : ℕ) (behind : Text) → 1 ≤ k → b < 256 → text_from (suc n) (k * 256 + b) behind ≡ text_from n k (b ∷ behind)
back n k b behind low small =
    ap (λ t. if t then behind else text_from n ((k * 256 + b) / 256) ((k * 256 + b) % 256 ∷ behind)) (let no : nat_le (k * 256 + b) 1 ≡ false = grind (arith, nat_tests) in no)
    ∙ ap₂ (λ d m. text_from n d (m ∷ behind)) (let d : (k * 256 + b) / 256 ≡ k = omega (arith, small) in d) (let m : (k * 256 + b) % 256 ≡ b = omega (arith, small) in m)

small : (b : ℕ) → nat_lt b 256 ≡ true → b < 256
small b h = grind (arith, nat_tests)

-- all bytes back
all_back : (n k : ℕ) (q behind : Text) → 1 ≤ k → are_bytes q ≡ true → text_from (n + length q) (appended k q) behind ≡ text_from n k (q ++ behind)
all_back n k [] behind low bytes = ap (λ m. text_from m k behind) (let e : n + 0 ≡ n = omega arith in e)
all_back n k (b ∷ bs) behind low bytes =
    ap (λ m. text_from m (appended (k * 256 + b) bs) behind) (let e : n + suc (length bs) ≡ suc n + length bs = omega arith in e)
    ∙ all_back (suc n) (k * 256 + b) bs behind (let h : 1 ≤ k * 256 + b = omega (arith, low) in h) (right (nat_lt b 256) (are_bytes bs) bytes)
    ∙ back n k b (bs ++ behind) low (small b (left (nat_lt b 256) (are_bytes bs) bytes))

ends : (n : ℕ) (behind : Text) → text_from n 1 behind ≡ behind
ends zero behind = refl
ends (suc n) behind = refl

-- the name of a number is the name
pub name_of_number : (q : Text) → are_bytes q ≡ true → text_of (number q) ≡ q
name_of_number q bytes =
    let long = grows 1 q (let h : 1 ≤ 1 = omega arith in h) in
    ap (λ m. text_from m (number q) []) (let e : number q ≡ number q - length q + length q = omega (arith, long) in e)
    ∙ all_back (number q - length q) 1 q [] (let h : 1 ≤ 1 = omega arith in h) bytes
    ∙ ends (number q - length q) (q ++ []) ∙ append-nil q

-- A NUMBER MORE

appended_more : (k : ℕ) (q : Text) → k ≤ appended k q
appended_more k [] = omega arith
appended_more k (b ∷ bs) = let more = appended_more (k * 256 + b) bs in (let e : k ≤ appended (k * 256 + b) bs = omega (arith, more) in e)

-- numbers of short names tell them apart
pub same_name : (q k : Text) → is_short q ≡ true → is_short k ≡ true → number q ≡ number k → q ≡ k
same_name q k short_q short_k same =
    sym (name_of_number q (left (are_bytes q) _ short_q)) ∙ ap text_of same ∙ name_of_number k (left (are_bytes k) _ short_k)

number_is : (q : Text) → is_short q ≡ true → is_number (number q) ≡ true
number_is q short =
    let name = name_of_number q (left (are_bytes q) _ short) in
    ap₂ (λ t m. is_short t && (m == number q)) name (ap number name) ∙ both (is_short q) _ short (let e : (number q == number q) ≡ true = grind (arith, nat_tests) in e)

-- ENTRIES

-- the first value of a name
abbrev pub found : {X : Type 0} → Text → List (Text × X) → Option X
found q [] = None
found q (e ∷ es) = cond (eq_by_cmp order q e.0) (Some e.1) (found q es)

pub get-from : {X : Type 0} (es : List (Text × X)) (q : Text) → get (from_entries es) q ≡ found q es
get-from [] q = get-empty q
get-from (e ∷ es) q = get-insert (from_entries es) e.0 e.1 q ∙ ap (λ o. cond (eq_by_cmp order q e.0) (Some e.1) o) (get-from es q)

-- a short name among numbers
in_short : {X : Type 0} (es : List (ℕ × X)) (rest : List (Text × X)) (q : Text) → is_short q ≡ true → found q rest ≡ None → found q (short_entries es ++ rest) ≡ lookup (λ k. is_eq (nat_cmp (number q) k)) es
in_short [] rest q short none = none
in_short {X = X} (e ∷ es) rest q short none = by_test (is_number e.0) refl (in_short es rest q short none)
  where
    same : is_number e.0 ≡ true → eq_by_cmp order q (text_of e.0) ≡ is_eq (nat_cmp (number q) e.0)
    same is = agree _ _
        (λ h. subst (λ n. is_eq (nat_cmp (number q) n) ≡ true) (ap number (same_order q (text_of e.0) h) ∙ (let m : number (text_of e.0) ≡ e.0 = by_numbers (right (is_short (text_of e.0)) _ is) in m)) (number_same (number q)))
        (λ h. order_same q (text_of e.0) (sym (name_of_number q (left (are_bytes q) _ short)) ∙ ap text_of (same_number (number q) e.0 h)))
      where
        by_numbers : (number (text_of e.0) == e.0) ≡ true → number (text_of e.0) ≡ e.0
        by_numbers h = grind (arith, nat_tests)

    other : is_number e.0 ≡ false → is_eq (nat_cmp (number q) e.0) ≡ false
    other is = no (is_eq (nat_cmp (number q) e.0)) refl
      where
        no : (b : Bool) → is_eq (nat_cmp (number q) e.0) ≡ b → b ≡ false
        no false h = refl
        no true h = let never : true ≡ false = sym (number_is q short) ∙ ap is_number (same_number (number q) e.0 h) ∙ is in cc

    by_test : (b : Bool) → is_number e.0 ≡ b → found q (short_entries es ++ rest) ≡ lookup (λ k. is_eq (nat_cmp (number q) k)) es
        → found q ((if b then (text_of e.0, e.1) ∷ short_entries es else short_entries es) ++ rest) ≡ cond (is_eq (nat_cmp (number q) e.0)) (Some e.1) (lookup (λ k. is_eq (nat_cmp (number q) k)) es)
    by_test true is more = ap₂ (λ t o. cond t (Some e.1) o) (same is) more
    by_test false is more = more ∙ ap (λ t. cond t (Some e.1) (lookup (λ k. is_eq (nat_cmp (number q) k)) es)) (sym (other is))

-- a name that isn't
not_in_short : {X : Type 0} (es : List (ℕ × X)) (rest : List (Text × X)) (q : Text) → is_short q ≡ false → found q (short_entries es ++ rest) ≡ found q rest
not_in_short [] rest q long = refl
not_in_short {X = X} (e ∷ es) rest q long = by_test (is_number e.0) refl (not_in_short es rest q long)
  where
    no : is_number e.0 ≡ true → (b : Bool) → eq_by_cmp order q (text_of e.0) ≡ b → b ≡ false
    no is false h = refl
    no is true h = let never : true ≡ false = sym (left (is_short (text_of e.0)) _ is) ∙ ap is_short (sym (same_order q (text_of e.0) h)) ∙ long in cc

    by_test : (b : Bool) → is_number e.0 ≡ b → found q (short_entries es ++ rest) ≡ found q rest → found q ((if b then (text_of e.0, e.1) ∷ short_entries es else short_entries es) ++ rest) ≡ found q rest
    by_test true is more = ap (λ t. cond t (Some e.1) (found q (short_entries es ++ rest))) (no is (eq_by_cmp order q (text_of e.0)) refl) ∙ more
    by_test false is more = more

-- the same among texts
not_in_long : {A X : Type 0} (es : List (String A × X)) (q : Text) → is_short q ≡ true → found q (long_entries es) ≡ None
not_in_long [] q short = refl
not_in_long {A = A} {X = X} (e ∷ es) q short = by_test (is_short (string_bytes e.0)) refl (not_in_long es q short)
  where
    no : is_short (string_bytes e.0) ≡ false → (b : Bool) → eq_by_cmp order q (string_bytes e.0) ≡ b → b ≡ false
    no is false h = refl
    no is true h = let never : true ≡ false = sym short ∙ ap is_short (same_order q (string_bytes e.0) h) ∙ is in cc

    by_test : (b : Bool) → is_short (string_bytes e.0) ≡ b → found q (long_entries es) ≡ None → found q (if b then long_entries es else (string_bytes e.0, e.1) ∷ long_entries es) ≡ None
    by_test true is more = more
    by_test false is more = ap (λ t. cond t (Some e.1) (found q (long_entries es))) (no is (eq_by_cmp order q (string_bytes e.0)) refl) ∙ more

in_long : {A X : Type 0} (es : List (String A × X)) (q : Text) → is_short q ≡ false → found q (long_entries es) ≡ lookup (λ k. eq_by_cmp order q (string_bytes k)) es
in_long [] q long = refl
in_long {A = A} {X = X} (e ∷ es) q long = by_test (is_short (string_bytes e.0)) refl (in_long es q long)
  where
    no : is_short (string_bytes e.0) ≡ true → (b : Bool) → eq_by_cmp order q (string_bytes e.0) ≡ b → b ≡ false
    no is false h = refl
    no is true h = let never : true ≡ false = sym is ∙ ap is_short (sym (same_order q (string_bytes e.0) h)) ∙ long in cc

    by_test : (b : Bool) → is_short (string_bytes e.0) ≡ b → found q (long_entries es) ≡ lookup (λ k. eq_by_cmp order q (string_bytes k)) es
        → found q (if b then long_entries es else (string_bytes e.0, e.1) ∷ long_entries es) ≡ cond (eq_by_cmp order q (string_bytes e.0)) (Some e.1) (lookup (λ k. eq_by_cmp order q (string_bytes k)) es)
    by_test true is more = more ∙ ap (λ t. cond t (Some e.1) (lookup (λ k. eq_by_cmp order q (string_bytes k)) es)) (sym (no is (eq_by_cmp order q (string_bytes e.0)) refl))
    by_test false is more = ap (λ o. cond (eq_by_cmp order q (string_bytes e.0)) (Some e.1) o) more

-- WHAT THE TABLE FINDS

pub get-short : {A X : Type 0} (es : List (ℕ × X)) (fs : List (String A × X)) (q : Text) → is_short q ≡ true → get (by_text es fs) q ≡ lookup (λ k. is_eq (nat_cmp (number q) k)) es
get-short es fs q short = get-from (short_entries es ++ long_entries fs) q ∙ in_short es (long_entries fs) q short (not_in_long fs q short)

pub get-long : {A X : Type 0} (es : List (ℕ × X)) (fs : List (String A × X)) (q : Text) → is_short q ≡ false → get (by_text es fs) q ≡ lookup (λ k. eq_by_cmp order q (string_bytes k)) fs
get-long es fs q long = get-from (short_entries es ++ long_entries fs) q ∙ not_in_short es (long_entries fs) q long ∙ in_long fs q long

-- a write at the number of a short name is an insertion
pub put_short : {A X : Type 0} (es ds : List (ℕ × X)) (fs : List (String A × X)) (k : Text) (v : X) → is_short k ≡ true → HasPut es ds (number k) v → by_text ds fs ≡ insert (by_text es fs) k v
put_short es ds fs k v short h = same_map _ _ (λ q. by_length q (is_short q) refl ∙ sym (get-insert (by_text es fs) k v q))
  where
    same : (q : Text) → is_short q ≡ true → is_eq (nat_cmp (number k) (number q)) ≡ eq_by_cmp order q k
    same q is = agree _ _
        (λ e. order_same q k (same_name q k is short (sym (same_number (number k) (number q) e))))
        (λ e. subst (λ x. is_eq (nat_cmp (number k) x) ≡ true) (ap number (sym (same_order q k e))) (number_same (number k)))

    no : (q : Text) → is_short q ≡ false → (b : Bool) → eq_by_cmp order q k ≡ b → b ≡ false
    no q is false e = refl
    no q is true e = let never : true ≡ false = sym short ∙ ap is_short (sym (same_order q k e)) ∙ is in cc

    by_length : (q : Text) (b : Bool) → is_short q ≡ b → get (by_text ds fs) q ≡ cond (eq_by_cmp order q k) (Some v) (get (by_text es fs) q)
    by_length q true is =
        get-short ds fs q is ∙ h (number q) ∙ ap₂ (λ t o. cond t (Some v) o) (same q is) (sym (get-short es fs q is))
    by_length q false is =
        get-long ds fs q is ∙ sym (get-long es fs q is) ∙ ap (λ t. cond t (Some v) (get (by_text es fs) q)) (sym (no q is (eq_by_cmp order q k) refl))

-- and one at another name
pub put_long : {A X : Type 0} (es : List (ℕ × X)) (m n : BTreeMap (String A) X) (k : Text) (v : X) → is_short k ≡ false → UpdatesBy string_cmp (λ x. order k (string_bytes x)) m n (Some v) → by_text es n.entries ≡ insert (by_text es m.entries) k v
put_long es m n k v long h = same_map _ _ (λ q. by_length q (is_short q) refl ∙ sym (get-insert (by_text es m.entries) k v q))
  where
    no : (q : Text) → is_short q ≡ true → (b : Bool) → eq_by_cmp order q k ≡ b → b ≡ false
    no q is false e = refl
    no q is true e = let never : true ≡ false = sym is ∙ ap is_short (same_order q k e) ∙ long in cc

    by_length : (q : Text) (b : Bool) → is_short q ≡ b → get (by_text es n.entries) q ≡ cond (eq_by_cmp order q k) (Some v) (get (by_text es m.entries) q)
    by_length q true is =
        get-short es n.entries q is ∙ sym (get-short es m.entries q is) ∙ ap (λ t. cond t (Some v) (get (by_text es m.entries) q)) (sym (no q is (eq_by_cmp order q k) refl))
    by_length q false is =
        get-long es n.entries q is ∙ btree_map_updates_text k m n (Some v) h q
        ∙ ap (λ b. cond b (Some v) (get_by_text m q)) (sym (is_eq-slice_cmp k q) ∙ agree _ _ (λ e. order_same q k (sym (same_order k q e))) (λ e. order_same k q (sym (same_order q k e))))
        ∙ ap (λ o. cond (eq_by_cmp order q k) (Some v) o) (sym (get-long es m.entries q is))

-- WHAT THE LOOP FINDS

one_there : {A : Type 0} (xs : List A) (i : ℕ) → i < length xs → (x : A) × (drop i xs ≡ x ∷ drop (i + 1) xs)
one_there [] i low = absurd (omega arith)
one_there (x ∷ xs) zero low = (x, refl)
one_there (x ∷ xs) (suc i) low = let r = one_there xs i (omega arith) in (r.0, r.1 ∙ ap (λ n. r.0 ∷ drop n (x ∷ xs)) (let e : suc (i + 1) ≡ suc i + 1 = omega arith in e))

-- a number that can take no further byte, before one
pub too_long : (q items : Text) (i k : ℕ) → i < length items → appended k (drop i items) ≡ number q → 1329227995784915872903807060280344576 ≤ k → is_short q ≡ false
too_long q items i k low is large =
    let r = one_there items i low in
    let more = appended_more (k * 256 + r.0) (drop (i + 1) items) in
    let all : number q ≡ appended (k * 256 + r.0) (drop (i + 1) items) = sym is ∙ ap (appended k) r.1 in
    let no : nat_lt (number q) (2 ^ 128) ≡ false = not_less (number q) (omega (arith, all, more, large)) in
    ap (λ t. are_bytes q && t) no ∙ never (are_bytes q)
  where
    not_less : (n : ℕ) → 340282366920938463463374607431768211456 ≤ n → nat_lt n (2 ^ 128) ≡ false
    not_less n h = grind (arith, nat_tests)

    never : (b : Bool) → (b && false) ≡ false
    never true = refl
    never false = refl

-- the number of a whole name
pub all_taken : (q items : Text) (i k : ℕ) → length items ≤ i → appended k (drop i items) ≡ number q → are_bytes (drop i items) ≡ are_bytes q → k < 2 ^ 128 → (is_short q ≡ true) × (k ≡ number q)
all_taken q items i k high is bytes low =
    let none = drop_all items i high in
    let number_is : k ≡ number q = sym (ap (appended k) none) ∙ is in
    (both (are_bytes q) (nat_lt (number q) (2 ^ 128)) (sym bytes ∙ ap are_bytes none) (subst (λ n. nat_lt n (2 ^ 128) ≡ true) number_is (less k low)), number_is)
  where
    less : (n : ℕ) → n < 2 ^ 128 → nat_lt n (2 ^ 128) ≡ true
    less n h = grind (arith, nat_tests)

    drop_all : (xs : Text) (j : ℕ) → length xs ≤ j → drop j xs ≡ []
    drop_all [] j h = drop_none j
      where
        drop_none : (n : ℕ) → ◌≡◌ {A = Text} (drop n []) []
        drop_none zero = refl
        drop_none (suc n) = refl
    drop_all (x ∷ xs) zero h = absurd (omega arith)
    drop_all (x ∷ xs) (suc j) h = drop_all xs j (omega arith)
