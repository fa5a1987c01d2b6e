-- Names that are added one after the other.
use Rattle.std.proofs.Common.{◌≡◌, ℕ, zero, suc, ◌+◌, ◌-◌, ◌≤◌, Bool, true, false, if◌then◌else◌, List, [], ◌++◌, length, map, take, Option, Some, None, Bor, refl, sym, ap, subst, ◌∙◌, arith}
use Rattle.std.specs.Prelude.{is_some, option_map, nat_eq, codes, MatchOption, ◌||◌}
use Rattle.std.specs.List.{ends_with}
use Rattle.std.specs.Str.{IsCharBoundary}
use Rattle.std.specs.Str.Pattern.{FindsTextSuffix}
use Rattle.std.proofs.lemmas.Str.Pattern.{ends_text}
use Rattle.std.proofs.lemmas.List.{append_assoc, append-nil}
use Rattle.il_syntax.specs.declared.tree.Config.{Config}
use Rattle.il_syntax.specs.declared.tree.Unit.{Unit as ProgramUnit}
use Rattle.load_slots.specs.declared.flat.Cell.{Cell}
use Rattle.load_slots.specs.Program.{global_cells}
use Rattle.scan_task.specs.Scanning.{IsRunnable, HasTask}
use Rattle.scan_task.proofs.Sizes.{few_cars}
use Rattle.group_spec.specs.Image.{sizes_of}
use Rattle.group_spec.specs.Limits.{most_cars}
use Rattle.group_spec.specs.Snapshot.{program_of, has_task}
use Rattle.show_values.specs.Known.{each_from, shared_names, slots_names, task_names, known_names}
use Rattle.show_values.specs.Words.{starred}

-- one number more
pub each_more : (names : ℕ → List (List ℕ)) (from count : ℕ) → each_from names from (suc count) ≡ each_from names from count ++ names (from + count)
each_more names from zero = append-nil (names from) ∙ ap names (omega arith)
each_more names from (suc count) =
    ap (λ (l : List (List ℕ)). names from ++ l) (each_more names (suc from) count)
    ∙ ap (λ (n : ℕ). names from ++ (each_from names (suc from) count ++ names n)) (omega arith)
    ∙ sym (append_assoc (names from) (each_from names (suc from) count) (names (from + suc count)))

-- and its names, after those before it
pub each_added : (names : ℕ → List (List ℕ)) (from count next at : ℕ) → next ≡ count + 1 → at ≡ from + count → (before so_far new : List (List ℕ)) → so_far ≡ before ++ each_from names from count → new ≡ so_far ++ names at → new ≡ before ++ each_from names from next
each_added names from count next at is place before so_far new e f =
    let further : suc count ≡ next = omega (arith, is) in
    f ∙ ap (λ (l : List (List ℕ)). l ++ names at) e ∙ append_assoc before (each_from names from count) (names at)
    ∙ ap (λ (l : List (List ℕ)). before ++ l) (ap (λ (n : ℕ). each_from names from count ++ names n) place ∙ sym (each_more names from count) ∙ ap (each_from names from) further)

module _ (c : Config) (runs : IsRunnable c) where
  pub car_fits : (t : ℕ) → t ≤ (sizes_of c).cars → t ≤ most_cars
  car_fits t low = let few = few_cars c runs.declared in omega (arith, few, low)

  pub task_there : (t : ℕ) → t ≤ (sizes_of c).cars → true ≡ has_task c t → HasTask c t
  task_there t low is = by (program_of c t) refl (sym is)
    where
      by : (o : Option ProgramUnit) → program_of c t ≡ o → is_some o ≡ true → HasTask c t
      by (Some u) e f = (u, record { within = low; program = e })
      by None e f = absurd (cc)

-- the first of two tests
pub one_or : (r a b : Bool) → r ≡ a → r ≡ true → r ≡ (a || b)
one_or r true b e is = e
one_or r false b e is = let bad : ◌≡◌ {A = Bool} true false = sym is ∙ e in cc

-- what `strip_suffix` gives
pub starred_is : (word : List ℕ) (r : Option (Bor (List ℕ))) → MatchOption r (FindsTextSuffix (codes ".*") word None) (λ x. (n : ℕ) × FindsTextSuffix (codes ".*") word (Some n) × (x.now ≡ take (length word - n) word) × (length x.now + n ≡ length word)) → option_map (λ (x : Bor (List ℕ)). x.now) r ≡ starred word
starred_is word None is = ap (λ (b : Bool). if b then Some (take (length word - 2) word) else None) (ends_text false (codes ".*") word is)
starred_is word (Some x) is =
    let n = is.0 in
    let whole = is.3 in
    let low : n ≤ length word = omega (arith, whole) in
    let ends : true ≡ ends_with nat_eq word (codes ".*") = ends_text true (codes ".*") word (n, is.1, low, subst (λ (k : ℕ). IsCharBoundary word (length word - k)) (sym is.1.0) is.1.2) in
    ap (λ (l : List ℕ). Some l) (is.2 ∙ ap (λ (k : ℕ). take (length word - k) word) is.1.0) ∙ ap (λ (b : Bool). if b then Some (take (length word - 2) word) else None) ends

-- all names, added one after the other
pub all_known : (c : Config) (slots cars : ℕ) → slots ≡ (sizes_of c).slots → cars ≡ (sizes_of c).cars + 1 → (cells : List Cell) → cells ≡ global_cells c → (none shared image tasks all : List (List ℕ)) → none ≡ []
    → shared ≡ none ++ shared_names → image ≡ shared ++ slots_names slots → tasks ≡ image ++ each_from (task_names c) 0 cars → all ≡ tasks ++ map (λ (cell : Cell). cell.path) cells → all ≡ known_names c
all_known c slots cars few many cells globals none shared image tasks all n s i t a =
    let own = each_from (task_names c) 0 cars in
    let paths = map (λ (cell : Cell). cell.path) cells in
    let at_shared : shared ≡ shared_names = s ∙ ap (λ (l : List (List ℕ)). l ++ shared_names) n in
    let at_image : image ≡ shared_names ++ slots_names slots = i ∙ ap (λ (l : List (List ℕ)). l ++ slots_names slots) at_shared in
    a ∙ ap (λ (l : List (List ℕ)). l ++ paths) (t ∙ ap (λ (l : List (List ℕ)). l ++ own) at_image) ∙ append_assoc (shared_names ++ slots_names slots) own paths ∙ append_assoc shared_names (slots_names slots) (own ++ paths)
    ∙ ap (λ (n : ℕ). shared_names ++ (slots_names n ++ (own ++ paths))) few ∙ ap (λ (n : ℕ). shared_names ++ (slots_names (sizes_of c).slots ++ (each_from (task_names c) 0 n ++ paths))) (many ∙ further)
    ∙ ap (λ (l : List Cell). shared_names ++ (slots_names (sizes_of c).slots ++ (each_from (task_names c) 0 (suc (sizes_of c).cars) ++ map (λ (cell : Cell). cell.path) l))) globals
  where
    further : (sizes_of c).cars + 1 ≡ suc (sizes_of c).cars
    further = omega arith
