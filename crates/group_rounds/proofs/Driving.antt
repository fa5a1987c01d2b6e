-- Rounds, step by step.
use Rattle.std.proofs.Common.{◌≡◌, ℕ, zero, suc, ◌+◌, ◌≤◌, Bool, true, false, ◌==◌, List, [], ◌∷◌, ◌++◌, map, flat_map, filter, take, length, Option, Some, None, Ok, refl, sym, ap, ◌∙◌, subst, arith, if◌then◌else◌, eqb-true, length-append}
use Rattle.std.specs.Prelude.{slice_get, is_some}
use Rattle.std.proofs.lemmas.List.{append_assoc}
use Rattle.il_syntax.specs.declared.tree.Config.{Config}
use Rattle.il_syntax.specs.declared.tree.Unit.{Unit as ProgramUnit}
use Rattle.cli_host.specs.declared.press.Press.{Press as PressOf}
use Rattle.group_spec.specs.declared.event.Event.TheVariants.{Press, Gather}
use Rattle.group_spec.specs.declared.image.Sizes.{Sizes}
use Rattle.group_spec.specs.declared.journal.Entry.{Entry}
use Rattle.group_spec.specs.Calls.{IsCall}
use Rattle.group_spec.specs.Image.{sizes_of}
use Rattle.group_spec.specs.Replies.{Reply}
use Rattle.group_spec.specs.Snapshot.{program_of, has_task}
use Rattle.group_spec.specs.World.{World, happens, opening}
use Rattle.group_laws.specs.Tasks.{IsTaskOf}
use Rattle.group_journal.specs.Rounds.{Happen, Scans, ScanEach, counting_from, scan_entries, tasks_in_order}
use Rattle.group_journal.proofs.Taking.{happen_one, happen_more, press_taken}
use Rattle.group_rounds.specs.Driven.{call_of, ArePressed, AreTasks}
pub use Rattle.group_rounds.proofs.Fronts.{take_next, read}
use Rattle.group_spec.proofs.Interlock.{filter_fits as filtered_length}
use Rattle.group_spec.specs.Limits.{most_cars}

-- LISTS

pub map_append : {X Y : Type 0} (f : X → Y) (xs ys : List X) → map f (xs ++ ys) ≡ map f xs ++ map f ys
map_append f [] ys = refl
map_append f (x ∷ xs) ys = ap (λ l. f x ∷ l) (map_append f xs ys)

flat_append : {X Y : Type 0} (f : X → List Y) (xs ys : List X) → flat_map f (xs ++ ys) ≡ flat_map f xs ++ flat_map f ys
flat_append f [] ys = refl
flat_append f (x ∷ xs) ys = ap (λ l. f x ++ l) (flat_append f xs ys) ∙ sym (append_assoc (f x) (flat_map f xs) (flat_map f ys))

filter_append : {X : Type 0} (p : X → Bool) (xs ys : List X) → filter p (xs ++ ys) ≡ filter p xs ++ filter p ys
filter_append p [] ys = refl
filter_append p (x ∷ xs) ys = by (p x) (filter_append p xs ys)
  where
    by : (b : Bool) → filter p (xs ++ ys) ≡ filter p xs ++ filter p ys → (if b then x ∷ filter p (xs ++ ys) else filter p (xs ++ ys)) ≡ (if b then x ∷ filter p xs else filter p xs) ++ filter p ys
    by true rest = ap (λ l. x ∷ l) rest
    by false rest = rest

pub counting_next : (first k : ℕ) → counting_from first (k + 1) ≡ counting_from first k ++ (first + k) ∷ []
counting_next first zero = let same : first ≡ first + 0 = omega arith in ap (λ n. n ∷ []) same
counting_next first (suc k) =
    let next : suc k + 1 ≡ suc (k + 1) = omega arith in
    let last : (first + 1) + k ≡ first + suc k = omega arith in
    ap (counting_from first) next ∙ ap (λ l. first ∷ l) (counting_next (first + 1) k) ∙ ap (λ n. first ∷ (counting_from (first + 1) k ++ n ∷ [])) last

-- none where their number is 0
pub none_left : {X : Type 0} (xs : List X) (b : Bool) → b ≡ (length xs == 0) → b ≡ true → xs ≡ []
none_left [] b is so = refl
none_left (x ∷ xs) b is so = let no = eqb-true (length (x ∷ xs)) 0 (sym is ∙ so) in absurd (omega (arith, no))

-- PRESSES

pub is_pressed : (sizes : Sizes) (presses : List PressOf) (i : ℕ) (p : PressOf) → ArePressed sizes presses → slice_get presses i ≡ Some p → IsCall sizes (call_of p)
is_pressed sizes [] i p are at = let no : None ≡ Some p = at in cc
is_pressed sizes (x ∷ presses) zero p are at = let same : x ≡ p = cc in subst (λ y. IsCall sizes (call_of y)) same are.0
is_pressed sizes (x ∷ presses) (suc i) p are at = is_pressed sizes presses i p are.1 at

-- a further press is made
pub press_next : (c : Config) (w m v : World) (presses : List PressOf) (i : ℕ) (p : PressOf) (r : Reply) → ArePressed (sizes_of c) presses → slice_get presses i ≡ Some p → Happen c w (map Press (map call_of (take i presses))) m
    → happens c m (Press (call_of p)) ≡ Ok (v, r) → Happen c w (map Press (map call_of (take (i + 1) presses))) v
press_next c w m v presses i p r are at before here =
    let all : map Press (map call_of (take (i + 1) presses)) ≡ map Press (map call_of (take i presses)) ++ Press (call_of p) ∷ [] =
    ap (λ l. map Press (map call_of l)) (take_next presses i p at) ∙ ap (map Press) (map_append call_of (take i presses) (p ∷ [])) ∙ map_append Press (map call_of (take i presses)) (call_of p ∷ [])
    in
    subst (λ es. Happen c w es v) (sym all) (happen_more c w m v _ _ before (happen_one c m v (Press (call_of p)) r here (press_taken c m v (call_of p) r (is_pressed (sizes_of c) presses i p are at) here)))

-- GATHERINGS

pub gather_more : (c : Config) (w m v : World) (k : ℕ) → Happen c w (map Gather (counting_from 1 k)) m → Happen c m (Gather (k + 1) ∷ []) v → Happen c w (map Gather (counting_from 1 (k + 1))) v
gather_more c w m v k before here =
    let floor : 1 + k ≡ k + 1 = omega arith in
    let all : map Gather (counting_from 1 (k + 1)) ≡ map Gather (counting_from 1 k) ++ Gather (k + 1) ∷ [] =
    ap (map Gather) (counting_next 1 k ∙ ap (λ n. counting_from 1 k ++ n ∷ []) floor) ∙ map_append Gather (counting_from 1 k) ((k + 1) ∷ [])
    in
    subst (λ es. Happen c w es v) (sym all) (happen_more c w m v _ _ before here)

-- TASKS

-- a further task, where the group has it
pub tasks_more : (c : Config) (k : ℕ) (tasks : List ℕ) → tasks ≡ filter (has_task c) (counting_from 1 k) → (b : Bool) → has_task c (k + 1) ≡ b → (if b then tasks ++ (k + 1) ∷ [] else tasks) ≡ filter (has_task c) (counting_from 1 (k + 1))
tasks_more c k tasks is b has =
    let number : 1 + k ≡ k + 1 = omega arith in
    sym (ap (filter (has_task c)) (counting_next 1 k ∙ ap (λ n. counting_from 1 k ++ n ∷ []) number) ∙ filter_append (has_task c) (counting_from 1 k) ((k + 1) ∷ []) ∙ ap (λ l. l ++ filter (has_task c) ((k + 1) ∷ [])) (sym is)
    ∙ ap (λ (a : Bool). tasks ++ (if a then (k + 1) ∷ [] else [])) has ∙ by b)
  where
    nil : (xs : List ℕ) → xs ++ [] ≡ xs
    nil [] = refl
    nil (x ∷ xs) = ap (λ l. x ∷ l) (nil xs)

    by : (a : Bool) → tasks ++ (if a then (k + 1) ∷ [] else []) ≡ (if a then tasks ++ (k + 1) ∷ [] else tasks)
    by true = refl
    by false = nil tasks

-- and GROUP after the cars
pub tasks_all : (c : Config) (tasks : List ℕ) → tasks ≡ filter (has_task c) (counting_from 1 (sizes_of c).cars) → (b : Bool) → has_task c 0 ≡ b → (if b then tasks ++ 0 ∷ [] else tasks) ≡ tasks_in_order c
tasks_all c tasks is b has = sym (filter_append (has_task c) (counting_from 1 (sizes_of c).cars) (0 ∷ []) ∙ ap (λ l. l ++ filter (has_task c) (0 ∷ [])) (sym is) ∙ ap (λ (a : Bool). tasks ++ (if a then 0 ∷ [] else [])) has ∙ by b)
  where
    nil : (xs : List ℕ) → xs ++ [] ≡ xs
    nil [] = refl
    nil (x ∷ xs) = ap (λ l. x ∷ l) (nil xs)

    by : (a : Bool) → tasks ++ (if a then 0 ∷ [] else []) ≡ (if a then tasks ++ 0 ∷ [] else tasks)
    by true = refl
    by false = nil tasks

there : (o : Option ProgramUnit) → is_some o ≡ true → (u : ProgramUnit) × (o ≡ Some u)
there None is = let no : false ≡ true = is in cc
there (Some u) is = (u, refl)

abbrev AreWithin : ℕ → List ℕ → Type 0
AreWithin most [] = Unit {0}
AreWithin most (n ∷ ns) = (n ≤ most) × AreWithin most ns

filtered_are : (c : Config) (ns : List ℕ) → AreWithin (sizes_of c).cars ns → AreTasks c (filter (has_task c) ns)
filtered_are c [] within = tt
filtered_are c (n ∷ ns) within = by (has_task c n) refl (filtered_are c ns within.1)
  where
    by : (b : Bool) → has_task c n ≡ b → AreTasks c (filter (has_task c) ns) → AreTasks c (if b then n ∷ filter (has_task c) ns else filter (has_task c) ns)
    by true is rest = let u = there (program_of c n) is in ((u.0, record { within = within.0; program = u.1 }), rest)
    by false is rest = rest

counting_within : (most first k : ℕ) → first + k ≤ most + 1 → AreWithin most (counting_from first k ++ 0 ∷ [])
counting_within most first zero low = (omega arith, tt)
counting_within most first (suc k) low = (omega (arith, low), counting_within most (first + 1) k (omega (arith, low)))

-- they are tasks of the group
pub tasks_are : (c : Config) → AreTasks c (tasks_in_order c)
tasks_are c = filtered_are c (counting_from 1 (sizes_of c).cars ++ 0 ∷ []) (counting_within (sizes_of c).cars 1 (sizes_of c).cars (omega arith))

pub is_task : (c : Config) (tasks : List ℕ) (i t : ℕ) → AreTasks c tasks → slice_get tasks i ≡ Some t → (u : ProgramUnit) × IsTaskOf c t u
is_task c [] i t are at = let no : None ≡ Some t = at in cc
is_task c (x ∷ tasks) zero t are at = let same : x ≡ t = cc in subst (λ y. (u : ProgramUnit) × IsTaskOf c y u) same are.0
is_task c (x ∷ tasks) (suc i) t are at = is_task c tasks i t are.1 at

counting_length : (first k : ℕ) → length (counting_from first k) ≡ k
counting_length first zero = refl
counting_length first (suc k) = ap suc (counting_length (first + 1) k)

-- so many cars, a start and a commit of each task beside a refresh: they fit a count
pub entries_fit : (c : Config) (tasks : List ℕ) → tasks ≡ tasks_in_order c → (sizes_of c).cars ≤ most_cars → length tasks ≤ 1 + most_cars
entries_fit c tasks is few =
    let all = filtered_length (has_task c) (counting_from 1 (sizes_of c).cars ++ 0 ∷ []) in
    let long = length-append (counting_from 1 (sizes_of c).cars) (0 ∷ []) in
    let cars = counting_length 1 (sizes_of c).cars in
    let same = ap length is in
    omega (arith, all, long, cars, same, few)

-- SCANS

each_more : (c : Config) (tasks : List ℕ) (t : ℕ) (w m v : World) → ScanEach c tasks w m → Scans c t m v → ScanEach c (tasks ++ t ∷ []) w v
each_more c [] t w m v same scan = (v, subst (λ x. Scans c t x v) (sym same) scan, refl)
each_more c (x ∷ tasks) t w m v (u, first, rest) scan = (u, first, each_more c tasks t u m v rest scan)

pub each_next : (c : Config) (tasks : List ℕ) (i t : ℕ) (w m v : World) → slice_get tasks i ≡ Some t → ScanEach c (take i tasks) w m → Scans c t m v → ScanEach c (take (i + 1) tasks) w v
each_next c tasks i t w m v at before scan = subst (λ l. ScanEach c l w v) (sym (take_next tasks i t at)) (each_more c (take i tasks) t w m v before scan)

-- their entries
pub entries_next : (tasks : List ℕ) (i t : ℕ) (old now : List Entry) → slice_get tasks i ≡ Some t → now ≡ old ++ flat_map scan_entries (take i tasks) → now ++ scan_entries t ≡ old ++ flat_map scan_entries (take (i + 1) tasks)
entries_next tasks i t old now at is =
    ap (λ l. l ++ scan_entries t) is ∙ append_assoc old (flat_map scan_entries (take i tasks)) (scan_entries t) ∙ ap (λ l. old ++ l) (sym (ap (flat_map scan_entries) (take_next tasks i t at) ∙ flat_append scan_entries (take i tasks) (t ∷ [])))

-- THE OPENING

-- the opening world has nothing on the desk
pub opening_desk : (c : Config) → (opening c).desk ≡ []
unfolding opening
opening_desk c = refl
