-- What is traced of a line.
use Rattle.std.proofs.Common.{◌≡◌, ℕ, zero, suc, ◌+◌, ◌*◌, Bool, true, false, if◌then◌else◌, List, [], ◌∷◌, ◌++◌, map, flat_map, length, append-nil, length-append, refl, sym, ap, ◌∙◌, arith}
use Rattle.std.proofs.lemmas.List.{append_assoc}
use Rattle.il_syntax.specs.declared.tree.Config.{Config}
use Rattle.group_spec.specs.declared.image.Fields.{Fields}
use Rattle.group_spec.specs.declared.image.Sizes.{Sizes}
use Rattle.group_spec.specs.declared.trace.TraceEvent.TheVariants.{Gather, Refresh, Press as Pressed}
use Rattle.group_spec.specs.Image.{sizes_of}
use Rattle.trace_text.specs.declared.format.Format.TheVariants.{Two}
use Rattle.trace_text.specs.Text.{line_of}
use Rattle.trace_text.specs.Writing.{events_text}
use Rattle.trace_text.proofs.Writes.{events_append}
use Rattle.group_journal.specs.Rounds.{counting_from, floors_rising, tasks_in_order}
use Rattle.group_rounds.proofs.Driving.{counting_next}
use Rattle.serve_lines.specs.declared.said.Said.{Said}
use Rattle.serve_lines.specs.declared.said.Said.TheVariants.{Round, Press, End}
use Rattle.serve_lines.specs.Saying.{Says, events_of, scan_events, is_call}
use Rattle.serve_lines.specs.Serving.{record_text, traced_text}

gathers_append : (xs ys : List ℕ) → map Gather (xs ++ ys) ≡ map Gather xs ++ map Gather ys
gathers_append [] ys = refl
gathers_append (x ∷ xs) ys = ap (λ l. Gather x ∷ l) (gathers_append xs ys)

-- one floor more
pub gathers_next : (k : ℕ) → events_text (map Gather (counting_from 1 k)) ++ events_text (Gather (k + 1) ∷ []) ≡ events_text (map Gather (counting_from 1 (k + 1)))
gathers_next k =
    let floor : 1 + k ≡ k + 1 = omega arith in
    sym (ap (λ l. events_text (map Gather l)) (counting_next 1 k ∙ ap (λ n. counting_from 1 k ++ n ∷ []) floor) ∙ ap events_text (gathers_append (counting_from 1 k) ((k + 1) ∷ [])) ∙ events_append (map Gather (counting_from 1 k)) (Gather (k + 1) ∷ []))

counting_length : (first k : ℕ) → length (counting_from first k) ≡ k
counting_length first zero = refl
counting_length first (suc k) = ap suc (counting_length (first + 1) k)

gathers_length : (floors : List ℕ) → length (map Gather floors) ≡ length floors
gathers_length [] = refl
gathers_length (floor ∷ floors) = ap suc (gathers_length floors)

scans_length : (tasks : List ℕ) → length (flat_map scan_events tasks) ≡ 2 * length tasks
scans_length [] = refl
scans_length (t ∷ tasks) = let rest = scans_length tasks in omega (arith, rest)

-- how many events a round has
pub round_length : (c : Config) (fields : Fields) → length (events_of c (Round fields)) ≡ (sizes_of c).floors + (1 + 2 * length (tasks_in_order c))
round_length c fields =
    let both = length-append (map Gather (floors_rising c)) (Refresh fields ∷ flat_map scan_events (tasks_in_order c)) in
    let gathers = gathers_length (floors_rising c) ∙ counting_length 1 (sizes_of c).floors in
    let scans = scans_length (tasks_in_order c) in
    omega (arith, both, gathers, scans)

-- the texts of the group and the line are what is traced
pub record_is : (c : Config) (line gathers scans : List ℕ) (count : ℕ) (sizes : Sizes) (said : Said) → sizes ≡ sizes_of c → Says c line said → gathers ≡ events_text (map Gather (floors_rising c)) → scans ≡ events_text (flat_map scan_events (tasks_in_order c))
    → record_text gathers scans line count sizes said ≡ traced_text c said count
record_is c line gathers scans count sizes (Round fields) of says g s =
    let floors = map Gather (floors_rising c) in
    let each = flat_map scan_events (tasks_in_order c) in
    ap (λ l. l ++ (line ++ (10 ∷ scans))) g ∙ ap (λ l. events_text floors ++ (line ++ (10 ∷ l))) s ∙ ap (λ l. events_text floors ++ (l ++ (10 ∷ events_text each))) says.spelled
    ∙ ap (λ l. events_text floors ++ l) (sym (append_assoc (line_of Two (Refresh fields)) (10 ∷ []) (events_text each))) ∙ sym (events_append floors (Refresh fields ∷ each))
record_is c line gathers scans count sizes (Press call) of says g s = ap (λ (z : Sizes). if is_call z call then line ++ 10 ∷ [] else []) of ∙ by (is_call (sizes_of c) call)
  where
    by : (b : Bool) → (if b then line ++ 10 ∷ [] else []) ≡ events_text (if b then Pressed call ∷ [] else [])
    by true = ap (λ l. l ++ 10 ∷ []) says.spelled ∙ sym (append-nil (line_of Two (Pressed call) ++ 10 ∷ []))
    by false = refl
record_is c line gathers scans count sizes End of says g s = refl
