-- Rows of ranges by number.
use Rattle.std.proofs.Common.{◌≡◌, ◌≢◌, ℕ, zero, suc, ◌<◌, Bool, true, false, cond, List, [], ◌∷◌, ◌++◌, map, length, Option, Some, None, option_map, option_and_then, refl, sym, ap, ◌∙◌, subst, slice_get, arith}
use Rattle.std.specs.Prelude.{slice_set, find, bytes_eq, ◌||◌, if◌then◌else◌}
use Rattle.std.specs.List.{list_any}
use Rattle.std.specs.Ordering.{eq_by_cmp, is_eq}
use Rattle.std.specs.declared.cmp.Ordering.{Ordering}
use Rattle.std.specs.declared.cmp.Ordering.TheVariants.{Less, Equal, Greater}
use Rattle.std.specs.FinMap.Entries.{find as find_entry}
use Rattle.std.specs.Cmp.{eq_by_cmp_equiv}
use Rattle.std.specs.Cmp.Lexicographic.{nat_list_cmp_total}
use Rattle.std.proofs.lemmas.Map.Lookups.{exact_bytes}
use Rattle.std.proofs.lemmas.Slice.Eq.{bytes_eq-Decides}
use Rattle.ranges_interval.specs.declared.Interval.{Interval}
use Rattle.ranges_interval.specs.Interval.{IsOperand, interval_join}
use Rattle.ranges_interval.proofs.Hulls.{join_operand, join_first, join_second, join_least}
use Rattle.il_syntax.specs.declared.tree.Unit.{Unit as ProgramUnit}
use Rattle.il_syntax.specs.declared.tree.Form.{Form}
use Rattle.il_statics.specs.Names.{Variable, ImageName, MeansVariable, MeansUnit, MeansStandard, meant_variable, own_variable, image_name, image_of, outer_meaning, meaning, form_named, or_else, unit_named, is_predeclared, variables_of as declared_variables}
use Rattle.base_maps.specs.NameMap.{NameMap, Text, order, get, insert, get-insert, get-empty}
use Rattle.il_semantics.specs.Annotation.{IsVariableWithin, form_range, declared_range}
use Rattle.ranges_laws.specs.Facts.{Names, range_by, row_at, put_by, row_put, row_join, all_names, put_some, filled, variables_of, AreOperands, IsRowOf}
use Rattle.ranges_laws.proofs.Tests.{interval_itself}
use Rattle.base_maps.proofs.Texts.{is_eq_true}

-- LISTS

pub set_again : {X : Type 0} (xs : List X) (i : ℕ) (a b : X) → slice_set (slice_set xs i a) i b ≡ slice_set xs i b
set_again [] i a b = refl
set_again (x ∷ xs) zero a b = refl
set_again (x ∷ xs) (suc i) a b = ap (λ zs. x ∷ zs) (set_again xs i a b)

pub set_here : {X : Type 0} (xs : List X) (i : ℕ) (a : X) → i < length xs → slice_get (slice_set xs i a) i ≡ Some a
set_here [] i a h = absurd (omega arith)
set_here (x ∷ xs) zero a h = refl
set_here (x ∷ xs) (suc i) a h = set_here xs i a (omega arith)

pub set_there : {X : Type 0} (xs : List X) (i j : ℕ) (a : X) → j ≢ i → slice_get (slice_set xs i a) j ≡ slice_get xs j
set_there [] i j a h = refl
set_there (x ∷ xs) zero zero a h = absurd (h refl)
set_there (x ∷ xs) zero (suc j) a h = refl
set_there (x ∷ xs) (suc i) zero a h = refl
set_there (x ∷ xs) (suc i) (suc j) a h = set_there xs i j a (λ e. h (ap suc e))

pub set_length : {X : Type 0} (xs : List X) (i : ℕ) (a : X) → length (slice_set xs i a) ≡ length xs
set_length [] i a = refl
set_length (x ∷ xs) zero a = refl
set_length (x ∷ xs) (suc i) a = ap suc (set_length xs i a)

-- TEXTS

pub same_text : (q k : Text) → eq_by_cmp order q k ≡ true → q ≡ k
same_text q k h = exact_bytes q k (is_eq_true (order q k) h)

pub text_itself : (q : Text) → eq_by_cmp order q q ≡ true
text_itself q = (eq_by_cmp_equiv nat_list_cmp_total).refl q

-- THE MAP OF A ROW

is_listed : List Text → Text → Bool
is_listed names q = list_any (λ n. eq_by_cmp order q n) names

get-put_some : (o : Option Interval) (name : Text) (m : NameMap Interval) (q : Text) → get (put_some o name m) q ≡ cond (eq_by_cmp order q name) (or_else o (get m q)) (get m q)
get-put_some None name m q = by_test (eq_by_cmp order q name) (get m q)
  where
    by_test : (b : Bool) (x : Option Interval) → x ≡ cond b x x
    by_test true x = refl
    by_test false x = refl
get-put_some (Some i) name m q = get-insert m name i q

get-filled : (f : Text → Option Interval) (ns : List Text) (q : Text) → get (filled f ns) q ≡ cond (is_listed ns q) (f q) None
unfolding is_listed
get-filled f [] q = get-empty q
get-filled f (n ∷ ns) q = get-put_some (f n) n (filled f ns) q ∙ by_test (eq_by_cmp order q n) refl (get (filled f ns) q) (get-filled f ns q)
  where
    either : (o : Option Interval) (b : Bool) → or_else o (cond b o None) ≡ o
    either None true = refl
    either None false = refl
    either (Some i) b = refl

    by_test : (b : Bool) → eq_by_cmp order q n ≡ b → (g : Option Interval) → g ≡ cond (is_listed ns q) (f q) None → cond b (or_else (f n) g) g ≡ cond (b || is_listed ns q) (f q) None
    by_test true is g rest = ap (or_else (f n)) (rest ∙ ap (λ x. cond (is_listed ns q) (f x) None) (same_text q n is)) ∙ either (f n) (is_listed ns q) ∙ ap f (sym (same_text q n is))
    by_test false is g rest = rest

listed_left : (xs ys : List Text) (q : Text) → is_listed xs q ≡ true → is_listed (xs ++ ys) q ≡ true
unfolding is_listed
listed_left [] ys q e = cc
listed_left (x ∷ xs) ys q e = by_test (eq_by_cmp order q x) (listed_left xs ys q) e
  where
    by_test : (b : Bool) → (is_listed xs q ≡ true → is_listed (xs ++ ys) q ≡ true) → (b || is_listed xs q) ≡ true → (b || is_listed (xs ++ ys) q) ≡ true
    by_test true h e = refl
    by_test false h e = h e

listed_right : (xs ys : List Text) (q : Text) → is_listed ys q ≡ true → is_listed (xs ++ ys) q ≡ true
unfolding is_listed
listed_right [] ys q e = e
listed_right (x ∷ xs) ys q e = by_test (eq_by_cmp order q x) (listed_right xs ys q e)
  where
    by_test : (b : Bool) → is_listed (xs ++ ys) q ≡ true → (b || is_listed (xs ++ ys) q) ≡ true
    by_test true h = refl
    by_test false h = h

-- a name that a table finds
listed_entry : {X : Type 0} (es : List (Text × X)) (q : Text) (x : X) → find_entry order q es ≡ Some x → is_listed (map (λ e. e.0) es) q ≡ true
unfolding is_listed
listed_entry [] q x e = cc
listed_entry (e ∷ es) q x is = by_test (eq_by_cmp order q e.0) (listed_entry es q x) is
  where
    by_test : (b : Bool) → (find_entry order q es ≡ Some x → is_listed (map (λ e. e.0) es) q ≡ true) → cond b (Some e.1) (find_entry order q es) ≡ Some x → (b || is_listed (map (λ e. e.0) es) q) ≡ true
    by_test true h is = refl
    by_test false h is = h is

listed_found : {X : Type 0} (name : X → Text) (xs : List X) (q : Text) (x : X) → find (λ y. bytes_eq (name y) q) xs ≡ Some x → is_listed (map name xs) q ≡ true
unfolding is_listed
listed_found name [] q x e = cc
listed_found name (y ∷ xs) q x is = by_test (bytes_eq (name y) q) refl (listed_found name xs q x) is
  where
    either : (a b : Bool) → a ≡ true → (a || b) ≡ true
    either true b e = refl
    either false b e = cc

    more : (a b : Bool) → b ≡ true → (a || b) ≡ true
    more true b e = refl
    more false b e = e

    by_test : (b : Bool) → bytes_eq (name y) q ≡ b → (find (λ y. bytes_eq (name y) q) xs ≡ Some x → is_listed (map name xs) q ≡ true) → cond b (Some y) (find (λ y. bytes_eq (name y) q) xs) ≡ Some x → (eq_by_cmp order q (name y) || is_listed (map name xs) q) ≡ true
    by_test true t h is = either (eq_by_cmp order q (name y)) (is_listed (map name xs) q) (subst (λ z. eq_by_cmp order q z ≡ true) (sym ((bytes_eq-Decides (name y) q).0 t)) (text_itself q))
    by_test false t h is = more (eq_by_cmp order q (name y)) (is_listed (map name xs) q) (h is)

-- a name that means a variable is the unit's or the image's
listed_variable : (names : Names) (q : Text) (f : Form) → form_named names.config names.unit q ≡ Some f → is_listed (all_names names) q ≡ true
unfolding image_name meaning
listed_variable names q f e = listed_right (map (λ e. e.0) names.numbers.list) _ q (by_own (own_variable names.unit q) refl e)
  where
    own : List Text
    own = map (λ v. v.name) (declared_variables names.unit)

    image : List Text
    image = map (λ i. i.variable.name) (image_of names.config.cars.value names.config.floors.value names.config.slots.value)

    no_unit : (o : Option ProgramUnit) (b : Bool) → option_map (λ (v : Variable). v.form) (meant_variable (or_else (option_map MeansUnit o) (if b then Some MeansStandard else None))) ≡ Some f → ⊥
    no_unit None true h = cc
    no_unit None false h = cc
    no_unit (Some u) b h = cc

    by_image : (o : Option ImageName) → image_name names.config q ≡ o → option_map (λ (v : Variable). v.form) (meant_variable (or_else None (outer_meaning names.config names.unit q o))) ≡ Some f → is_listed (own ++ image) q ≡ true
    by_image None is h = absurd (no_unit (unit_named names.config q) (is_predeclared names.config q) h)
    by_image (Some i) is h = listed_right own image q (listed_found (λ (i : ImageName). i.variable.name) (image_of names.config.cars.value names.config.floors.value names.config.slots.value) q i is)

    by_own : (o : Option Variable) → own_variable names.unit q ≡ o → option_map (λ (v : Variable). v.form) (meant_variable (or_else (option_map MeansVariable o) (outer_meaning names.config names.unit q (image_name names.config q)))) ≡ Some f → is_listed (own ++ image) q ≡ true
    by_own (Some v) is h = listed_left own image q (listed_found (λ (v : Variable). v.name) (declared_variables names.unit) q v is)
    by_own None is h = by_image (image_name names.config q) refl h

-- a name with a range is listed
listed_range : (names : Names) (row : List Interval) (q : Text) (i : Interval) → row_at names row q ≡ Some i → is_listed (all_names names) q ≡ true
unfolding get
listed_range names row q i e = by_number (get names.numbers q) refl e
  where
    by_form : (o : Option Form) → form_named names.config names.unit q ≡ o → option_and_then form_range o ≡ Some i → is_listed (all_names names) q ≡ true
    by_form None is h = cc
    by_form (Some f) is h = listed_variable names q f is

    by_number : (o : Option ℕ) → get names.numbers q ≡ o → range_by (declared_range names.config names.unit q) row o ≡ Some i → is_listed (all_names names) q ≡ true
    by_number None is h = by_form (form_named names.config names.unit q) refl h
    by_number (Some n) is h = listed_left (map (λ e. e.0) names.numbers.list) _ q (listed_entry names.numbers.list q n is)

pub row_is : (names : Names) (row : List Interval) (q : Text) → get (variables_of names row) q ≡ row_at names row q
row_is names row q = get-filled (row_at names row) (all_names names) q ∙ by_range (row_at names row q) refl
  where
    by_listed : (b : Bool) (i : Interval) → b ≡ true → cond b (Some i) None ≡ Some i
    by_listed true i e = refl
    by_listed false i e = cc

    by_range : (o : Option Interval) → row_at names row q ≡ o → cond (is_listed (all_names names) q) o None ≡ o
    by_range (Some i) is = by_listed (is_listed (all_names names) q) i (listed_range names row q i is)
    by_range None is = neither (is_listed (all_names names) q)
      where
        neither : (b : Bool) → ◌≡◌ {A = Option Interval} (cond b None None) None
        neither true = refl
        neither false = refl

-- RANGES

by_number : (row : List Interval) (n : ℕ) (j : Interval) → AreOperands row → slice_get row n ≡ Some j → IsOperand j
by_number [] n j f e = cc
by_number (i ∷ row) zero j f e = subst IsOperand (let same : i ≡ j = cc in same) f.0
by_number (i ∷ row) (suc n) j f e = by_number row n j f.1 e

pub row_operand : (names : Names) (row : List Interval) (q : Text) (j : Interval) → IsRowOf names row → row_at names row q ≡ Some j → IsOperand j
row_operand names row q j f e = by_test (get names.numbers q) e
  where
    by_test : (o : Option ℕ) → range_by (declared_range names.config names.unit q) row o ≡ Some j → IsOperand j
    by_test None e = f.declared q j e
    by_test (Some n) e = by_number row n j f.operands e

pub variable_itself : (o : Option Interval) → IsVariableWithin o o
variable_itself None = tt
variable_itself (Some i) = interval_itself i

-- JOINS

pub join_length : (a b : List Interval) → length a ≡ length b → length (row_join a b) ≡ length a
join_length [] [] e = refl
join_length (i ∷ a) (j ∷ b) e = ap suc (join_length a b (omega arith))
join_length [] (j ∷ b) e = absurd (omega arith)
join_length (i ∷ a) [] e = absurd (omega arith)

join_operands : (a b : List Interval) → AreOperands a → AreOperands b → AreOperands (row_join a b)
join_operands [] b f g = tt
join_operands (i ∷ a) [] f g = tt
join_operands (i ∷ a) (j ∷ b) f g = (join_operand i j f.0 g.0, join_operands a b f.1 g.1)

pub join_row_fine : (names : Names) (a b : List Interval) → IsRowOf names a → IsRowOf names b → IsRowOf names (row_join a b)
join_row_fine names a b f g = record { long = join_length a b (f.long ∙ sym g.long) ∙ f.long; operands = join_operands a b f.operands g.operands; inside = f.inside; distinct = f.distinct; declared = f.declared }

slice_first : (a b : List Interval) (n : ℕ) → length a ≡ length b → IsVariableWithin (slice_get a n) (slice_get (row_join a b) n)
slice_first [] b n e = tt
slice_first (i ∷ a) (j ∷ b) zero e = join_first i j
slice_first (i ∷ a) (j ∷ b) (suc n) e = slice_first a b n (omega arith)
slice_first (i ∷ a) [] n e = absurd (omega arith)

slice_second : (a b : List Interval) (n : ℕ) → length a ≡ length b → IsVariableWithin (slice_get b n) (slice_get (row_join a b) n)
slice_second [] [] n e = tt
slice_second (i ∷ a) (j ∷ b) zero e = join_second i j
slice_second (i ∷ a) (j ∷ b) (suc n) e = slice_second a b n (omega arith)
slice_second (i ∷ a) [] n e = absurd (omega arith)
slice_second [] (j ∷ b) n e = absurd (omega arith)

variable_least : (i j : Interval) (l : Option Interval) → IsVariableWithin (Some i) l → IsVariableWithin (Some j) l → IsVariableWithin (Some (interval_join i j)) l
variable_least i j None u v = absurd u
variable_least i j (Some l) u v = join_least i j l u v

slice_least : (a b : List Interval) (n : ℕ) (l : Option Interval) → length a ≡ length b → IsVariableWithin (slice_get a n) l → IsVariableWithin (slice_get b n) l → IsVariableWithin (slice_get (row_join a b) n) l
slice_least [] b n l e u v = u
slice_least (i ∷ a) (j ∷ b) zero l e u v = variable_least i j l u v
slice_least (i ∷ a) (j ∷ b) (suc n) l e u v = slice_least a b n l (omega arith) u v
slice_least (i ∷ a) [] n l e u v = absurd (omega arith)

pub row_first : (names : Names) (a b : List Interval) → IsRowOf names a → IsRowOf names b → (q : Text) → IsVariableWithin (row_at names a q) (row_at names (row_join a b) q)
row_first names a b f g q = by_test (get names.numbers q)
  where
    by_test : (o : Option ℕ) → IsVariableWithin (range_by (declared_range names.config names.unit q) a o) (range_by (declared_range names.config names.unit q) (row_join a b) o)
    by_test None = variable_itself (declared_range names.config names.unit q)
    by_test (Some n) = slice_first a b n (f.long ∙ sym g.long)

pub row_second : (names : Names) (a b : List Interval) → IsRowOf names a → IsRowOf names b → (q : Text) → IsVariableWithin (row_at names b q) (row_at names (row_join a b) q)
row_second names a b f g q = by_test (get names.numbers q)
  where
    by_test : (o : Option ℕ) → IsVariableWithin (range_by (declared_range names.config names.unit q) b o) (range_by (declared_range names.config names.unit q) (row_join a b) o)
    by_test None = variable_itself (declared_range names.config names.unit q)
    by_test (Some n) = slice_second a b n (f.long ∙ sym g.long)

pub row_least : (names : Names) (a b : List Interval) → IsRowOf names a → IsRowOf names b → (q : Text) (l : Option Interval) → IsVariableWithin (row_at names a q) l → IsVariableWithin (row_at names b q) l → IsVariableWithin (row_at names (row_join a b) q) l
row_least names a b f g q l u v = by_test (get names.numbers q) u v
  where
    by_test : (o : Option ℕ) → IsVariableWithin (range_by (declared_range names.config names.unit q) a o) l → IsVariableWithin (range_by (declared_range names.config names.unit q) b o) l → IsVariableWithin (range_by (declared_range names.config names.unit q) (row_join a b) o) l
    by_test None u v = u
    by_test (Some n) u v = slice_least a b n l (f.long ∙ sym g.long) u v

-- STORES

-- a name that has a number
abbrev pub IsNumbered : Names → Text → Type 0
IsNumbered names name = (n : ℕ) × (get names.numbers name ≡ Some n)

pub put_is : (names : Names) (row : List Interval) (name : Text) (j : Interval) → IsRowOf names row → IsNumbered names name → (q : Text) → row_at names (row_put names row name j) q ≡ cond (eq_by_cmp order q name) (Some j) (row_at names row q)
put_is names row name j f (n, is) q =
    ap (λ o. range_by (declared_range names.config names.unit q) (put_by row o j) (get names.numbers q)) is ∙ by_name (eq_by_cmp order q name) refl
  where
    low : n < length row
    low = subst (λ k. n < k) (sym f.long) (f.inside name n is)

    elsewhere : eq_by_cmp order q name ≡ false → (o : Option ℕ) → get names.numbers q ≡ o → range_by (declared_range names.config names.unit q) (slice_set row n j) o ≡ range_by (declared_range names.config names.unit q) row o
    elsewhere t None e = refl
    elsewhere t (Some m) e = set_there row n m j (λ same.
        let one = f.distinct q name n (e ∙ ap Some same) is in
        let bad : true ≡ false = sym (subst (λ x. eq_by_cmp order q x ≡ true) one (text_itself q)) ∙ t in cc)

    by_name : (b : Bool) → eq_by_cmp order q name ≡ b → range_by (declared_range names.config names.unit q) (slice_set row n j) (get names.numbers q) ≡ cond b (Some j) (row_at names row q)
    by_name true t = ap (range_by (declared_range names.config names.unit q) (slice_set row n j)) (ap (get names.numbers) (same_text q name t) ∙ is) ∙ set_here row n j low
    by_name false t = elsewhere t (get names.numbers q) refl

set_operands : (row : List Interval) (n : ℕ) (j : Interval) → IsOperand j → AreOperands row → AreOperands (slice_set row n j)
set_operands [] n j o f = tt
set_operands (i ∷ row) zero j o f = (o, f.1)
set_operands (i ∷ row) (suc n) j o f = (f.0, set_operands row n j o f.1)

pub put_fine : (names : Names) (row : List Interval) (name : Text) (j : Interval) → IsOperand j → IsRowOf names row → IsRowOf names (row_put names row name j)
put_fine names row name j o f = by_test (get names.numbers name)
  where
    by_test : (n : Option ℕ) → IsRowOf names (put_by row n j)
    by_test None = f
    by_test (Some n) = record { long = set_length row n j ∙ f.long; operands = set_operands row n j o f.operands; inside = f.inside; distinct = f.distinct; declared = f.declared }

-- and the map of it
pub put_map : (names : Names) (row : List Interval) (name : Text) (j : Interval) → IsRowOf names row → IsNumbered names name → (q : Text) → get (insert (variables_of names row) name j) q ≡ get (variables_of names (row_put names row name j)) q
put_map names row name j f h q =
    get-insert (variables_of names row) name j q ∙ ap (λ o. cond (eq_by_cmp order q name) (Some j) o) (row_is names row q) ∙ sym (put_is names row name j f h q) ∙ sym (row_is names (row_put names row name j) q)
