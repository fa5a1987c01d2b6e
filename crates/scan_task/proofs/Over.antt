-- Values that are over others, and rows in two parts.
use Rattle.std.proofs.Common.{◌≡◌, ℕ, ◌≤◌, Bool, true, false, List, [], ◌∷◌, ◌++◌, take, drop, length, refl, sym, ap, ◌∙◌, cond, Some, None, Option, ℤ, arith}
use Rattle.std.proofs.lemmas.List.{length-take, length-append}
use Rattle.std.specs.Prelude.{is_some}
use Rattle.std.specs.Ordering.{eq_by_cmp}
use Rattle.std.specs.FinMap.Entries.{find}
use Rattle.il_statics.specs.Names.{or_else}
use Rattle.il_statics.specs.Declarations.{declared_limits}
use Rattle.il_semantics.specs.declared.value.Value.{Value}
use Rattle.base_maps.specs.NameMap.{Text, order, get, insert, empty, from_entries, with_entries, get-empty, get-insert, same_map}
use Rattle.il_semantics.specs.State.{Values}
use Rattle.il_semantics.specs.Scan.{restricted}
use Rattle.base_maps.specs.ByText.{HaveSameNames}
use Rattle.base_maps.proofs.Texts.{same_names-insert}
use Rattle.load_slots.specs.declared.flat.Cell.{Cell}
use Rattle.load_slots.specs.Layout.{Rows, Fits, value_by, view_of, view}
use Rattle.scan_task.specs.Scanning.{over, front, behind}
use Rattle.group_laws.proofs.Kept.{get_entries_at}

or_else_cond : (b : Bool) (v : Value) (o p : Option Value) → cond b (Some v) (or_else o p) ≡ or_else (cond b (Some v) o) p
or_else_cond true v o p = refl
or_else_cond false v o p = refl

pub get-with_entries : (m : Values) (es : List (Text × Value)) (q : Text) → get (with_entries m es) q ≡ or_else (find order q es) (get m q)
get-with_entries m [] q = refl
get-with_entries m (e ∷ es) q =
    get-insert (with_entries m es) e.0 e.1 q
    ∙ ap (λ o. cond (eq_by_cmp order q e.0) (Some e.1) o) (get-with_entries m es q)
    ∙ or_else_cond (eq_by_cmp order q e.0) e.1 (find order q es) (get m q)

-- what is above is found first
pub get-over : (m s : Values) (q : Text) → get (over m s) q ≡ or_else (get s q) (get m q)
unfolding get
get-over m s q = get-with_entries m s.list q

-- a write above is a write
pub over-insert : (m s : Values) (k : Text) (v : Value) → over m (insert s k v) ≡ insert (over m s) k v
over-insert m s k v = same_map _ _ (λ q.
    get-over m (insert s k v) q ∙ ap (λ o. or_else o (get m q)) (get-insert s k v q)
    ∙ sym (or_else_cond (eq_by_cmp order q k) v (get s q) (get m q)) ∙ ap (λ o. cond (eq_by_cmp order q k) (Some v) o) (sym (get-over m s q)) ∙ sym (get-insert (over m s) k v q))

-- a write at a path that is there keeps the paths
pub keeps_paths : (m : Values) (k : Text) (v : Value) → is_some (get m k) ≡ true → HaveSameNames m (insert m k v)
keeps_paths m k v there = λ q. sym (same_names-insert m m k v there (λ _. refl) q)

or_none : (o : Option Value) → or_else o None ≡ o
or_none None = refl
or_none (Some v) = refl

found_in : (es : List (Text × Value)) (q : Text) → get (from_entries es) q ≡ find order q es
found_in [] q = get-empty q
found_in (e ∷ es) q = get-insert (from_entries es) e.0 e.1 q ∙ ap (λ o. cond (eq_by_cmp order q e.0) (Some e.1) o) (found_in es q)

found_is : (m : Values) (q : Text) → find order q m.list ≡ get m q
unfolding get
found_is m q = refl

-- a map is that of its entries
pub entries_are : (m : Values) → from_entries m.list ≡ m
entries_are m = same_map _ _ (λ q. found_in m.list q ∙ found_is m q)

-- ROWS IN TWO PARTS

over_empty : (m : Values) → over m empty ≡ m
unfolding empty
over_empty m = refl

view_parts : (own seen : List Cell) (zs : List ℤ) (bs : List Bool) → length zs ≡ length (own ++ seen) → length bs ≡ length (own ++ seen)
    → over (view_of seen (drop (length own) zs) (drop (length own) bs)) (view_of own (take (length own) zs) (take (length own) bs)) ≡ view_of (own ++ seen) zs bs
view_parts [] seen zs bs n f = over_empty (view_of seen zs bs)
view_parts (c ∷ cs) seen [] bs n f = cc
view_parts (c ∷ cs) seen (z ∷ zs) [] n f = cc
view_parts (c ∷ cs) seen (z ∷ zs) (b ∷ bs) n f =
    over-insert (view_of seen (drop (length cs) zs) (drop (length cs) bs)) (view_of cs (take (length cs) zs) (take (length cs) bs)) c.path (value_by (declared_limits c.scalar) z b)
    ∙ ap (λ m. insert m c.path (value_by (declared_limits c.scalar) z b)) (view_parts cs seen zs bs (cc) (cc))

-- the values of all slots are those of the first ones over those of the others
pub parts_are : (own seen : List Cell) (r : Rows) → Fits (own ++ seen) r → over (view seen (behind (length own) r)) (view own (front (length own) r)) ≡ view (own ++ seen) r
parts_are own seen r fits = view_parts own seen r.numbers r.flags fits.numbers fits.flags

-- so many are at the front
pub front_length : {A : Type 0} (n m : ℕ) (xs : List A) → n ≤ m → length xs ≡ m → length (take n xs) ≡ n
front_length n m xs h is = let l = length-take n xs in omega (arith, is, l, h)

-- the first rows fit the first slots
pub front_fits : (own seen : List Cell) (r : Rows) → Fits (own ++ seen) r → Fits own (front (length own) r)
front_fits own seen r fits =
    let n = length-append own seen in
    let low : length own ≤ length (own ++ seen) = omega (arith, n) in
    record { numbers = front_length (length own) (length (own ++ seen)) r.numbers low fits.numbers; flags = front_length (length own) (length (own ++ seen)) r.flags low fits.flags }

same_some : (b : Bool) (v w : Value) (o p : Option Value) → is_some o ≡ is_some p → is_some (cond b (Some v) o) ≡ is_some (cond b (Some w) p)
same_some true v w o p h = refl
same_some false v w o p h = h

same_names_of : (cells : List Cell) (zs ys : List ℤ) (bs ds : List Bool) → length zs ≡ length cells → length bs ≡ length cells → length ys ≡ length cells → length ds ≡ length cells → HaveSameNames (view_of cells zs bs) (view_of cells ys ds)
same_names_of [] zs ys bs ds n f m g = λ q. refl
same_names_of (c ∷ cs) [] ys bs ds n f m g = cc
same_names_of (c ∷ cs) (z ∷ zs) [] bs ds n f m g = cc
same_names_of (c ∷ cs) (z ∷ zs) (y ∷ ys) [] ds n f m g = cc
same_names_of (c ∷ cs) (z ∷ zs) (y ∷ ys) (b ∷ bs) [] n f m g = cc
same_names_of (c ∷ cs) (z ∷ zs) (y ∷ ys) (b ∷ bs) (a ∷ ds) n f m g = λ q.
    ap is_some (get-insert (view_of cs zs bs) c.path (value_by (declared_limits c.scalar) z b) q)
    ∙ same_some (eq_by_cmp order q c.path) (value_by (declared_limits c.scalar) z b) (value_by (declared_limits c.scalar) y a) (get (view_of cs zs bs) q) (get (view_of cs ys ds) q) (same_names_of cs zs ys bs ds (cc) (cc) (cc) (cc) q)
    ∙ ap is_some (sym (get-insert (view_of cs ys ds) c.path (value_by (declared_limits c.scalar) y a) q))

-- rows of the same slots hold the same paths
pub same_names : (cells : List Cell) (r s : Rows) → Fits cells r → Fits cells s → HaveSameNames (view cells r) (view cells s)
same_names cells r s fits also = same_names_of cells r.numbers s.numbers r.flags s.flags fits.numbers fits.flags also.numbers also.flags

-- WHAT A SCAN LEAVES

none_cond : (b : Bool) → ◌≡◌ {A = Option Value} (cond b None None) None
none_cond true = refl
none_cond false = refl

-- a commit keeps the variables that the scan left
pub restricted_is : (start left written : Values) → HaveSameNames left start → restricted start (over written left) ≡ left
unfolding restricted get
restricted_is start left written same = same_map _ _ (λ q. get_entries_at (over written left) start.list q ∙ ap (λ o. cond (is_some (get start q)) o None) (get-over written left q) ∙ by q (get left q) refl (is_some (get start q)) refl)
  where
    by : (q : Text) (o : Option Value) → get left q ≡ o → (b : Bool) → is_some (get start q) ≡ b → cond b (or_else o (get written q)) None ≡ o
    by q None is true there = let bad : false ≡ true = sym (ap is_some is) ∙ same q ∙ there in cc
    by q None is false there = refl
    by q (Some v) is true there = refl
    by q (Some v) is false there = let bad : true ≡ false = sym (ap is_some is) ∙ same q ∙ there in cc
