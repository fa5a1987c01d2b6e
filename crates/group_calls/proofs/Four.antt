-- One slot in columns replaced.
use Rattle.std.specs.Prelude.{◌≡◌, ℕ, zero, suc, ◌+◌, ◌-◌, ◌*◌, ◌<◌, ◌≤◌, Bool, false, ℤ, pos, Option, None, List, [], ◌∷◌, ◌++◌, length, map, set, take, replicate, refl}
use Rattle.std.proofs.Common.{sym, ◌∙◌, ap, ap₂, arith}
use Rattle.std.proofs.lemmas.List.{length-map, length-append, length-set, length-take, map-set, set-append_left, set-append_right, take-replicate, replicate-append-replicate}
use Rattle.group_spec.specs.declared.calls.Slot.{Slot}
use Rattle.group_spec.specs.declared.calls.Slot.TheVariants.{Free}
use Rattle.group_spec.specs.Calls.{ticket_of}
use Rattle.group_spec.specs.Snapshot.{waits, from_of, to_of, car_of}
use Rattle.group_calls.specs.Columns.{four, shown_of}

-- a part at the front, with an item of it replaced
pub take_with : {A : Type 0} (n i : ℕ) (xs : List A) (x : A) → i < n → take n (set xs i x) ≡ set (take n xs) i x
take_with zero i xs x h = absurd (omega (arith, h))
take_with (suc n) i [] x h = refl
take_with (suc n) zero (y ∷ xs) x h = refl
take_with (suc n) (suc i) (y ∷ xs) x h = ap (λ l. y ∷ l) (take_with n i xs x (omega (arith, h)))

abbrev pub with_four : {A : Type 0} → ℕ → ℕ → List A → A → A → A → A → List A
with_four n i xs a b c d = set (set (set (set xs i a) (n + i) b) (2 * n + i) c) (3 * n + i) d

pub take_with_four : {A : Type 0} (n i : ℕ) (xs : List A) (a b c d : A) → i < n → take (4 * n) (with_four n i xs a b c d) ≡ with_four n i (take (4 * n) xs) a b c d
take_with_four n i xs a b c d h =
    take_with (4 * n) (3 * n + i) (set (set (set xs i a) (n + i) b) (2 * n + i) c) d (omega (arith, h))
    ∙ ap (λ l. set l (3 * n + i) d) (take_with (4 * n) (2 * n + i) (set (set xs i a) (n + i) b) c (omega (arith, h))
    ∙ ap (λ l. set l (2 * n + i) c) (take_with (4 * n) (n + i) (set xs i a) b (omega (arith, h))
    ∙ ap (λ l. set l (n + i) b) (take_with (4 * n) i xs a (omega (arith, h)))))

-- an item of the second of two lists
behind : {A : Type 0} (xs ys : List A) (n k i : ℕ) (y : A) → length xs ≡ n → k ≡ n + i → set (xs ++ ys) k y ≡ xs ++ set ys i y
behind xs ys n k i y long at =
    let left : k - n ≡ i = omega (arith, at) in
    set-append_right xs ys n k y long (omega (arith, at)) ∙ ap (λ j. xs ++ set ys j y) left

-- and the columns of slots, with one of them replaced
pub four_with :
    {A : Type 0} (f g h k : Slot → A) (n i : ℕ) (slots : List Slot) (place : Slot) → length slots ≡ n → i < n
    → with_four n i (four f g h k slots) (f place) (g place) (h place) (k place) ≡ four f g h k (set slots i place)
four_with {A} f g h k n i slots place long below =
    let fs : List A = map f slots in
    let gs : List A = map g slots in
    let hs : List A = map h slots in
    let ks : List A = map k slots in
    let f' : List A = set fs i (f place) in
    let g' : List A = set gs i (g place) in
    let h' : List A = set hs i (h place) in
    let lf : length fs ≡ n = length-map slots f ∙ long in
    let lg : length gs ≡ n = length-map slots g ∙ long in
    let lh : length hs ≡ n = length-map slots h ∙ long in
    let lf' : length f' ≡ n = length-set fs i (f place) ∙ lf in
    let lg' : length g' ≡ n = length-set gs i (g place) ∙ lg in
    let lh' : length h' ≡ n = length-set hs i (h place) ∙ lh in
    let one : set (fs ++ (gs ++ (hs ++ ks))) i (f place) ≡ f' ++ (gs ++ (hs ++ ks)) = set-append_left fs (gs ++ (hs ++ ks)) i (f place) (omega (arith, below, lf)) in
    let two : set (f' ++ (gs ++ (hs ++ ks))) (n + i) (g place) ≡ f' ++ (g' ++ (hs ++ ks)) =
    behind f' (gs ++ (hs ++ ks)) n (n + i) i (g place) lf' refl ∙ ap (λ l. f' ++ l) (set-append_left gs (hs ++ ks) i (g place) (omega (arith, below, lg))) in
    let three : set (f' ++ (g' ++ (hs ++ ks))) (2 * n + i) (h place) ≡ f' ++ (g' ++ (h' ++ ks)) =
    behind f' (g' ++ (hs ++ ks)) n (2 * n + i) (n + i) (h place) lf' (omega arith)
    ∙ ap (λ l. f' ++ l) (behind g' (hs ++ ks) n (n + i) i (h place) lg' refl ∙ ap (λ l. g' ++ l) (set-append_left hs ks i (h place) (omega (arith, below, lh)))) in
    let last : set (f' ++ (g' ++ (h' ++ ks))) (3 * n + i) (k place) ≡ f' ++ (g' ++ (h' ++ set ks i (k place))) =
    behind f' (g' ++ (h' ++ ks)) n (3 * n + i) (2 * n + i) (k place) lf' (omega arith)
    ∙ ap (λ l. f' ++ l) (behind g' (h' ++ ks) n (2 * n + i) (n + i) (k place) lg' (omega arith) ∙ ap (λ l. g' ++ l) (behind h' ks n (n + i) i (k place) lh' refl)) in
    ap (λ l. set (set (set l (n + i) (g place)) (2 * n + i) (h place)) (3 * n + i) (k place)) one
    ∙ ap (λ l. set (set l (2 * n + i) (h place)) (3 * n + i) (k place)) two
    ∙ ap (λ l. set l (3 * n + i) (k place)) three
    ∙ last
    ∙ ap₂ (λ x y. x ++ y) (sym (map-set f slots i place))
    (ap₂ (λ x y. x ++ y) (sym (map-set g slots i place)) (ap₂ (λ x y. x ++ y) (sym (map-set h slots i place)) (sym (map-set k slots i place))))

-- Free slots
all_same : {A : Type 0} (f : Slot → A) (n : ℕ) → replicate n (f Free) ≡ map f (replicate n Free)
all_same f zero = refl
all_same f (suc n) = ap (λ l. f Free ∷ l) (all_same f n)

pub four_free :
    {A : Type 0} (f g h k : Slot → A) (x : A) (n : ℕ) → n ≤ 64 → f Free ≡ x → g Free ≡ x → h Free ≡ x → k Free ≡ x
    → take (4 * n) (replicate 256 x) ≡ four f g h k (replicate n Free)
four_free {A} f g h k x n few ef eg eh ek =
    let sum : 4 * n ≡ n + (n + (n + n)) = omega arith in
    let one : (e : Slot → A) → e Free ≡ x → replicate n x ≡ map e (replicate n Free) = λ e is. ap (λ y. replicate n y) (sym is) ∙ all_same e n in
    take-replicate (4 * n) 256 x (omega (arith, few)) ∙ ap (λ m. replicate m x) sum
    ∙ sym (ap (λ l. replicate n x ++ l) (ap (λ l. replicate n x ++ l) (replicate-append-replicate n n x) ∙ replicate-append-replicate n (n + n) x) ∙ replicate-append-replicate n (n + (n + n)) x)
    ∙ ap₂ (λ a b. a ++ b) (one f ef) (ap₂ (λ a b. a ++ b) (one g eg) (ap₂ (λ a b. a ++ b) (one h eh) (one k ek)))

pub tickets_free : {A : Type 0} (f : Slot → A) (x : A) (n : ℕ) → n ≤ 64 → f Free ≡ x → take n (replicate 64 x) ≡ map f (replicate n Free)
tickets_free f x n few is = take-replicate n 64 x few ∙ ap (λ y. replicate n y) (sym is) ∙ all_same f n

-- how many there are
pub four_long : {A : Type 0} (f g h k : Slot → A) (slots : List Slot) → length (four f g h k slots) ≡ 4 * length slots
four_long f g h k slots =
    let a = length-map slots f in
    let b = length-map slots g in
    let d = length-map slots h in
    let e = length-map slots k in
    let x = length-append (map f slots) (map g slots ++ (map h slots ++ map k slots)) in
    let y = length-append (map g slots) (map h slots ++ map k slots) in
    let z = length-append (map h slots) (map k slots) in
    omega (arith, a, b, d, e, x, y, z)

-- THE COLUMNS OF A BOOK

abbrev no_ticket : Option ℕ
no_ticket = None

pub all_free : (n : ℕ) → n ≤ 64 → (take (4 * n) (replicate 256 (pos 0)), (take (4 * n) (replicate 256 false), take n (replicate 64 no_ticket))) ≡ shown_of (replicate n Free)
all_free n few =
    ap₂ (λ x y. (x, y)) (four_free (λ _. pos 0) (λ s. pos (from_of s)) (λ s. pos (to_of s)) (λ s. pos (car_of s)) (pos 0) n few refl refl refl refl)
    (ap₂ (λ x y. (x, y)) (four_free waits (λ _. false) (λ _. false) (λ _. false) false n few refl refl refl refl) (tickets_free ticket_of no_ticket n few refl))

-- with a slot replaced
pub replaced :
    (n m i : ℕ) (xs xs' : List ℤ) (bs bs' : List Bool) (ts : List (Option ℕ)) (place : Slot) (x y z : ℤ) (w : Bool) (t : Option ℕ) (slots : List Slot)
    → m ≡ n → n ≤ 64 → length ts ≡ 64 → i < length slots → (take (4 * n) xs, (take (4 * n) bs, take n ts)) ≡ shown_of slots
    → x ≡ pos (from_of place) → y ≡ pos (to_of place) → z ≡ pos (car_of place) → w ≡ waits place → t ≡ ticket_of place
    → xs' ≡ with_four m i xs (pos 0) x y z → bs' ≡ with_four m i bs w false false false
    → (take (4 * n) xs', (take (4 * n) bs', take n (set ts i t))) ≡ shown_of (set slots i place)
replaced n m i xs xs' bs bs' ts place x y z w t slots same few room below shown ex ey ez ew et exs ebs =
    let tickets : take n ts ≡ map ticket_of slots = ap (λ (s : List ℤ × (List Bool × List (Option ℕ))). s.1.1) shown in
    let long : length slots ≡ n = omega (arith, ap length tickets, length-take n ts, length-map slots ticket_of, room, few) in
    let within : i < n = omega (arith, below, long) in
    let numbers : take (4 * n) xs' ≡ four (λ _. pos 0) (λ s. pos (from_of s)) (λ s. pos (to_of s)) (λ s. pos (car_of s)) (set slots i place) =
    ap (take (4 * n)) (exs ∙ ap (λ k. with_four k i xs (pos 0) x y z) same ∙ ap (λ v. with_four n i xs (pos 0) v y z) ex ∙ ap (λ v. with_four n i xs (pos 0) (pos (from_of place)) v z) ey
    ∙ ap (λ v. with_four n i xs (pos 0) (pos (from_of place)) (pos (to_of place)) v) ez)
    ∙ take_with_four n i xs (pos 0) (pos (from_of place)) (pos (to_of place)) (pos (car_of place)) within
    ∙ ap (λ l. with_four n i l (pos 0) (pos (from_of place)) (pos (to_of place)) (pos (car_of place))) (ap (λ (s : List ℤ × (List Bool × List (Option ℕ))). s.0) shown)
    ∙ four_with (λ _. pos 0) (λ s. pos (from_of s)) (λ s. pos (to_of s)) (λ s. pos (car_of s)) n i slots place long within in
    let flags : take (4 * n) bs' ≡ four waits (λ _. false) (λ _. false) (λ _. false) (set slots i place) =
    ap (take (4 * n)) (ebs ∙ ap (λ k. with_four k i bs w false false false) same ∙ ap (λ v. with_four n i bs v false false false) ew)
    ∙ take_with_four n i bs (waits place) false false false within
    ∙ ap (λ l. with_four n i l (waits place) false false false) (ap (λ (s : List ℤ × (List Bool × List (Option ℕ))). s.1.0) shown)
    ∙ four_with waits (λ _. false) (λ _. false) (λ _. false) n i slots place long within in
    ap₂ (λ a b. (a, b)) numbers
    (ap₂ (λ a b. (a, b)) flags (take_with n i ts t within ∙ ap₂ (λ l v. set l i v) tickets et ∙ sym (map-set ticket_of slots i place)))

-- the columns say how many slots there are
pub same_long : (slots others : List Slot) → shown_of slots ≡ shown_of others → length slots ≡ length others
same_long slots others is = sym (length-map slots ticket_of) ∙ ap (λ (s : List ℤ × (List Bool × List (Option ℕ))). length s.1.1) is ∙ length-map others ticket_of
