-- What rows hold of a variable is what its slot holds.
use Rattle.std.proofs.Common.{◌≡◌, ℕ, suc, Bool, true, false, List, [], ◌∷◌, ◌++◌, length, slice_get, refl, sym, ap, ◌∙◌, cond, Some, None, Option, ℤ}
use Rattle.std.specs.Prelude.{option_map, option_and_then, bytes_eq, if◌then◌else◌}
use Rattle.std.specs.Ordering.{eq_by_cmp}
use Rattle.std.proofs.lemmas.Slice.Eq.{bytes_eq-Decides}
use Rattle.il_statics.specs.Declarations.{declared_limits}
use Rattle.il_semantics.specs.declared.value.Value.{Value}
use Rattle.base_maps.specs.NameMap.{Text, order, get, get-empty, get-insert}
use Rattle.base_maps.proofs.Texts.{same_text}
use Rattle.load_slots.specs.declared.flat.Cell.{Cell}
use Rattle.load_slots.specs.Layout.{Rows, rows, view_of, value_by}
use Rattle.load_slots.specs.Paths.{slot_at}
use Rattle.load_slots.proofs.Kept.{itself}
use Rattle.scan_step.specs.Effect.{with_some}
use Rattle.il_syntax.specs.declared.tree.Config.{Config}
use Rattle.load_slots.specs.Program.{own_cells, seen_cells, program_cells}
use Rattle.scan_task.specs.Scanning.{value_at, own_view, variables_in, FitsOwn}

-- no rows, no value
nothing : (cells : List Cell) (bs : List Bool) (o : Option ℕ) → option_and_then (value_at cells (rows [] bs)) o ≡ None
nothing cells bs None = refl
nothing cells bs (Some k) = by (slice_get cells k)
  where
    by : (o : Option Cell) → with_some o (λ c. with_some {A = ℤ} None (λ z. with_some (slice_get bs k) (λ b. Some (value_by (declared_limits c.scalar) z b)))) ≡ None
    by None = refl
    by (Some c) = refl

-- the cells after the first
next : (c : Cell) (cells : List Cell) (z : ℤ) (zs : List ℤ) (b : Bool) (bs : List Bool) (o : Option ℕ) → option_and_then (value_at (c ∷ cells) (rows (z ∷ zs) (b ∷ bs))) (option_map suc o) ≡ option_and_then (value_at cells (rows zs bs)) o
next c cells z zs b bs None = refl
next c cells z zs b bs (Some k) = refl

pub reads_slot : (own seen : List Cell) (zs : List ℤ) (bs : List Bool) (path : Text) → length zs ≡ length own → length bs ≡ length own
    → option_and_then (value_at (own ++ seen) (rows zs bs)) (slot_at (own ++ seen) path) ≡ get (view_of own zs bs) path
reads_slot [] seen [] bs path n f = nothing seen bs (slot_at seen path) ∙ sym (get-empty path)
reads_slot [] seen (z ∷ zs) bs path n f = cc
reads_slot (c ∷ own) seen [] bs path n f = cc
reads_slot (c ∷ own) seen (z ∷ zs) [] path n f = cc
reads_slot (c ∷ own) seen (z ∷ zs) (b ∷ bs) path n f = by_test (reads_slot own seen zs bs path (cc) (cc)) (bytes_eq c.path path) refl (eq_by_cmp order path c.path) refl
  where
    value : Value
    value = value_by (declared_limits c.scalar) z b

    by_test : option_and_then (value_at (own ++ seen) (rows zs bs)) (slot_at (own ++ seen) path) ≡ get (view_of own zs bs) path → (t : Bool) → bytes_eq c.path path ≡ t → (e : Bool) → eq_by_cmp order path c.path ≡ e
        → option_and_then (value_at (c ∷ own ++ seen) (rows (z ∷ zs) (b ∷ bs))) (if t then Some 0 else option_map suc (slot_at (own ++ seen) path)) ≡ get (view_of (c ∷ own) (z ∷ zs) (b ∷ bs)) path
    by_test rest true test e is =
        let same : c.path ≡ path = (bytes_eq-Decides c.path path).0 test in
        sym (get-insert (view_of own zs bs) c.path value path ∙ ap (λ x. cond x (Some value) (get (view_of own zs bs) path)) (ap (eq_by_cmp order path) same ∙ itself path))
    by_test rest false test true is =
        let same : path ≡ c.path = same_text path c.path is in
        let wrong : true ≡ false = sym ((bytes_eq-Decides c.path path).1 (sym same)) ∙ test in cc
    by_test rest false test false is =
        next c (own ++ seen) z zs b bs (slot_at (own ++ seen) path) ∙ rest
        ∙ sym (get-insert (view_of own zs bs) c.path value path ∙ ap (λ x. cond x (Some value) (get (view_of own zs bs) path)) is)

-- the same of a task's variables
pub reads_variable : (c : Config) (task : ℕ) (r : Rows) (fits : FitsOwn c task r) (path : Text) → option_and_then (value_at (program_cells c fits.0) r) (slot_at (program_cells c fits.0) path) ≡ get (variables_in c task r) path
unfolding own_view
reads_variable c task r (v, is, fits) path = reads_slot (own_cells c v) (seen_cells c v) r.numbers r.flags path fits.numbers fits.flags ∙ ap (λ o. get (own_view c o r) path) (sym is.program)
