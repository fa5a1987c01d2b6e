-- Rows into which values are written.
use Rattle.std.proofs.Common.{◌≡◌, ℕ, zero, suc, ◌+◌, ◌*◌, ◌<◌, List, [], ◌∷◌, ◌++◌, map, length, drop, get_or, refl, sym, ap, ap₂, ◌∙◌, arith, append_assoc}
use Rattle.std.specs.Prelude.{replicate, codes, pos, false}
use Rattle.std.proofs.lemmas.List.{length-append, length-set, length-map, length-replicate, map-append, drop_more}
use Rattle.il_semantics.specs.declared.value.Value.{Value}
use Rattle.il_semantics.specs.declared.value.Value.TheVariants.{Boolean}
use Rattle.base_maps.specs.NameMap.{Text}
use Rattle.load_slots.specs.Layout.{Rows, number_part, flag_part}
use Rattle.group_spec.specs.declared.image.Sizes.{Sizes}
use Rattle.group_spec.specs.declared.image.Image.{Image}
use Rattle.group_spec.specs.declared.calls.Slot.{Slot}
use Rattle.group_spec.specs.Snapshot.{number, waits, from_of, to_of, car_of, elements_of, role_entries}
use Rattle.group_calls.specs.Columns.{four, numbers_of, flags_of}
use Rattle.group_calls.proofs.Four.{four_long}
use Rattle.scan_image.specs.Image.{with_slot, filled, waits_value, from_value, to_value, car_value, call_values, group_values, position_value, motor_value, cars_values, role_values, image_values}

-- VALUES FROM A SLOT ON

pub filled_append : (r : Rows) (at : ℕ) (vs ws : List Value) → filled r at (vs ++ ws) ≡ filled (filled r at vs) (at + length vs) ws
filled_append r at [] ws = let e : at ≡ at + length {A = Value} [] = omega arith in ap (λ n. filled r n ws) e
filled_append r at (v ∷ vs) ws = filled_append (with_slot r at v) (at + 1) vs ws ∙ (let e : at + 1 + length vs ≡ at + length (v ∷ vs) = omega arith in ap (λ n. filled (filled (with_slot r at v) (at + 1) vs) n ws) e)

pub filled_numbers : (r : Rows) (at : ℕ) (vs : List Value) → length (filled r at vs).numbers ≡ length r.numbers
filled_numbers r at [] = refl
filled_numbers r at (v ∷ vs) = filled_numbers (with_slot r at v) (at + 1) vs ∙ length-set r.numbers at (number_part v)

pub filled_flags : (r : Rows) (at : ℕ) (vs : List Value) → length (filled r at vs).flags ≡ length r.flags
filled_flags r at [] = refl
filled_flags r at (v ∷ vs) = filled_flags (with_slot r at v) (at + 1) vs ∙ length-set r.flags at (flag_part v)

pub same_numbers : (r s : Rows) (at : ℕ) (vs : List Value) → s ≡ filled r at vs → length s.numbers ≡ length r.numbers
same_numbers r s at vs is = ap (λ (x : Rows). length x.numbers) is ∙ filled_numbers r at vs

pub same_flags : (r s : Rows) (at : ℕ) (vs : List Value) → s ≡ filled r at vs → length s.flags ≡ length r.flags
same_flags r s at vs is = ap (λ (x : Rows). length x.flags) is ∙ filled_flags r at vs

-- one value more
pub one_more : (r s : Rows) (place i : ℕ) (vs : List Value) (v : Value) → i < length vs → s ≡ with_slot r place (get_or vs i v) → filled s (place + 1) (drop (i + 1) vs) ≡ filled r place (drop i vs)
one_more r s place i vs v low is = ap (λ x. filled x (place + 1) (drop (i + 1) vs)) is ∙ ap (filled r place) (sym (drop_more vs i v low))

-- the same of values that others give
pub one_more_of : {A : Type 0} (f : A → Value) (r s : Rows) (place i : ℕ) (xs : List A) (x : A) → i < length xs → s ≡ with_slot r place (f (get_or xs i x)) → filled s (place + 1) (map f (drop (i + 1) xs)) ≡ filled r place (map f (drop i xs))
one_more_of f r s place i xs x low is = ap (λ y. filled y (place + 1) (map f (drop (i + 1) xs))) is ∙ ap (λ l. filled r place (map f l)) (sym (drop_more xs i x low))

-- THE IMAGE

element_values : (name : Text) (k : ℕ) (vs : List Value) → map (λ (e : Text × Value). e.1) (elements_of name k vs) ≡ vs
element_values name k [] = refl
element_values name k (v ∷ vs) = ap (λ l. v ∷ l) (element_values name (k + 1) vs)

-- columns in their order, before others
pub regroup : {A : Type 0} (a b d e r : List A) → (((a ++ b) ++ d) ++ e) ++ r ≡ (a ++ (b ++ (d ++ e))) ++ r
regroup a b d e r = ap (λ l. l ++ r) (append_assoc (a ++ b) d e ∙ append_assoc a b (d ++ e))

values_regroup : (a b d e r : List (Text × Value)) → map (λ (x : Text × Value). x.1) ((((a ++ b) ++ d) ++ e) ++ r) ≡ (map (λ x. x.1) a ++ (map (λ x. x.1) b ++ (map (λ x. x.1) d ++ map (λ x. x.1) e))) ++ map (λ x. x.1) r
values_regroup a b d e r =
    ap (map (λ (x : Text × Value). x.1)) (regroup a b d e r)
    ∙ map-append (λ (x : Text × Value). x.1) (a ++ (b ++ (d ++ e))) r
    ∙ ap (λ l. l ++ map (λ (x : Text × Value). x.1) r)
    (map-append (λ (x : Text × Value). x.1) a (b ++ (d ++ e))
    ∙ ap (λ l. map (λ (x : Text × Value). x.1) a ++ l) (map-append (λ (x : Text × Value). x.1) b (d ++ e) ∙ ap (λ l. map (λ (x : Text × Value). x.1) b ++ l) (map-append (λ (x : Text × Value). x.1) d e)))

parts : {A : Type 0} (p : Value → A) (f : Slot → Value) (slots : List Slot) → map p (map f slots) ≡ map (λ s. p (f s)) slots
parts p f [] = refl
parts p f (s ∷ slots) = ap (λ l. p (f s) ∷ l) (parts p f slots)

pub calls_long : (slots : List Slot) → length (call_values slots) ≡ 4 * length slots
calls_long slots = four_long waits_value from_value to_value car_value slots

-- what the rows keep of the columns
four_map : {A : Type 0} (p : Value → A) (f g h k : Slot → Value) (slots : List Slot) → map p (four f g h k slots) ≡ four (λ s. p (f s)) (λ s. p (g s)) (λ s. p (h s)) (λ s. p (k s)) slots
four_map p f g h k slots =
    map-append p (map f slots) (map g slots ++ (map h slots ++ map k slots))
    ∙ ap₂ (λ a b. a ++ b) (parts p f slots)
    (map-append p (map g slots) (map h slots ++ map k slots)
    ∙ ap₂ (λ a b. a ++ b) (parts p g slots) (map-append p (map h slots) (map k slots) ∙ ap₂ (λ a b. a ++ b) (parts p h slots) (parts p k slots)))

pub call_numbers : (slots : List Slot) → map number_part (call_values slots) ≡ numbers_of slots
call_numbers slots = four_map number_part waits_value from_value to_value car_value slots

pub call_flags : (slots : List Slot) → map flag_part (call_values slots) ≡ flags_of slots
call_flags slots = four_map flag_part waits_value from_value to_value car_value slots

-- the values of a role
role_parts : (task : ℕ) (image : Image) (slots : ℕ) → map (λ (e : Text × Value). e.1) (role_entries task image slots) ≡ role_values task image slots
role_parts zero image slots =
    map-append (λ (e : Text × Value). e.1) (elements_of (codes "CPOS") 1 (map position_value image.fields.cars) ++ elements_of (codes "CMOTOR") 1 (map motor_value image.outputs)) (elements_of (codes "ASSIGN") 1 (replicate slots (number 0)))
    ∙ ap₂ (λ x y. x ++ y)
    (map-append (λ (e : Text × Value). e.1) (elements_of (codes "CPOS") 1 (map position_value image.fields.cars)) (elements_of (codes "CMOTOR") 1 (map motor_value image.outputs))
    ∙ ap₂ (λ x y. x ++ y) (element_values (codes "CPOS") 1 (map position_value image.fields.cars)) (element_values (codes "CMOTOR") 1 (map motor_value image.outputs))) (element_values (codes "ASSIGN") 1 (replicate slots (number 0)))
    ∙ append_assoc (map position_value image.fields.cars) (map motor_value image.outputs) (replicate slots (number 0))
role_parts (suc k) image slots = refl

-- the values of the image: the group's, the calls', the role's
pub image_parts : (sizes : Sizes) (task : ℕ) (image : Image) (slots : List Slot) → image_values sizes task image slots ≡ group_values sizes image.fields ++ (call_values slots ++ role_values task image (length slots))
image_parts sizes task image slots =
    ap (λ l. group_values sizes image.fields ++ l)
    (values_regroup (elements_of (codes "CALLWAITS") 1 (map (λ s. Boolean (waits s)) slots)) (elements_of (codes "CALLFROM") 1 (map (λ s. number (from_of s)) slots)) (elements_of (codes "CALLTO") 1 (map (λ s. number (to_of s)) slots))
    (elements_of (codes "CALLCAR") 1 (map (λ s. number (car_of s)) slots)) (role_entries task image (length slots))
    ∙ ap₂ (λ x y. x ++ y)
    (ap₂ (λ x y. x ++ y) (element_values (codes "CALLWAITS") 1 (map waits_value slots))
    (ap₂ (λ x y. x ++ y) (element_values (codes "CALLFROM") 1 (map from_value slots)) (ap₂ (λ x y. x ++ y) (element_values (codes "CALLTO") 1 (map to_value slots)) (element_values (codes "CALLCAR") 1 (map car_value slots))))) (role_parts task image (length slots)))

-- how many values there are
pub image_long : (sizes : Sizes) (task : ℕ) (image : Image) (slots : List Slot) → length (image_values sizes task image slots) ≡ 6 + 4 * length slots + length (role_values task image (length slots))
image_long sizes task image slots =
    let all = ap length (image_parts sizes task image slots) in
    let first = length-append (group_values sizes image.fields) (call_values slots ++ role_values task image (length slots)) in
    let rest = length-append (call_values slots) (role_values task image (length slots)) in
    let calls = calls_long slots in
    omega (arith, all, first, rest, calls)

pub cars_long : (image : Image) (slots : ℕ) → length (cars_values image slots) ≡ length image.fields.cars + (length image.outputs + slots)
cars_long image slots =
    let a = length-map image.fields.cars position_value in
    let b = length-map image.outputs motor_value in
    let z = length-replicate slots (number 0) in
    let first = length-append (map position_value image.fields.cars) (map motor_value image.outputs ++ replicate slots (number 0)) in
    let rest = length-append (map motor_value image.outputs) (replicate slots (number 0)) in
    omega (arith, a, b, z, first, rest)

-- the parts one after another
pub image_written : (r r1 r2 r3 : Rows) (at : ℕ) (sizes : Sizes) (task : ℕ) (image : Image) (n : ℕ) (slots : List Slot) → n ≡ length slots → r1 ≡ filled r at (group_values sizes image.fields) → r2 ≡ filled r1 (at + 6) (call_values slots)
    → r3 ≡ filled r2 (at + (6 + 4 * n)) (role_values task image n) → r3 ≡ filled r at (image_values sizes task image slots)
image_written r r1 r2 r3 at sizes task image n slots is e1 e2 e3 =
    let long = calls_long slots in
    let end : at + (6 + 4 * length slots) ≡ at + 6 + length (call_values slots) = omega (arith, long) in
    e3 ∙ ap (λ k. filled r2 (at + (6 + 4 * k)) (role_values task image k)) is
    ∙ ap₂ (λ x k. filled x k (role_values task image (length slots))) (e2 ∙ ap (λ x. filled x (at + 6) (call_values slots)) e1) end
    ∙ sym (filled_append (filled r at (group_values sizes image.fields)) (at + 6) (call_values slots) (role_values task image (length slots)))
    ∙ sym (filled_append r at (group_values sizes image.fields) (call_values slots ++ role_values task image (length slots))) ∙ ap (filled r at) (sym (image_parts sizes task image slots))

pub cars_written : (r r1 r2 r3 : Rows) (at : ℕ) (image : Image) (slots : ℕ) → r1 ≡ filled r at (map position_value image.fields.cars) → r2 ≡ filled r1 (at + length image.fields.cars) (map motor_value image.outputs)
    → r3 ≡ filled r2 (at + (length image.fields.cars + length image.outputs)) (replicate slots (number 0)) → r3 ≡ filled r at (cars_values image slots)
cars_written r r1 r2 r3 at image slots e1 e2 e3 =
    let a = length-map image.fields.cars position_value in
    let b = length-map image.outputs motor_value in
    let one : at + length image.fields.cars ≡ at + length (map position_value image.fields.cars) = omega (arith, a) in
    let two : at + (length image.fields.cars + length image.outputs) ≡ at + length (map position_value image.fields.cars) + length (map motor_value image.outputs) = omega (arith, a, b) in
    e3 ∙ ap₂ (λ x n. filled x n (replicate slots (number 0))) (e2 ∙ ap₂ (λ x n. filled x n (map motor_value image.outputs)) e1 one) two
    ∙ sym (filled_append (filled r at (map position_value image.fields.cars)) (at + length (map position_value image.fields.cars)) (map motor_value image.outputs) (replicate slots (number 0)))
    ∙ sym (filled_append r at (map position_value image.fields.cars) (map motor_value image.outputs ++ replicate slots (number 0)))

-- what the rows keep of zeros
pub zero_numbers : (count : ℕ) → map number_part (replicate count (number 0)) ≡ replicate count (pos 0)
zero_numbers zero = refl
zero_numbers (suc count) = ap (λ l. pos 0 ∷ l) (zero_numbers count)

pub zero_flags : (count : ℕ) → map flag_part (replicate count (number 0)) ≡ replicate count false
zero_flags zero = refl
zero_flags (suc count) = ap (λ l. false ∷ l) (zero_flags count)
