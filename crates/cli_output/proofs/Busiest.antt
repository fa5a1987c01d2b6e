-- The work of units, one unit more.
use Rattle.std.proofs.Common.{◌≡◌, ℕ, ◌+◌, ◌<◌, List, ◌∷◌, ◌++◌, append_assoc, flat_map, drop, length, get_or, map, Option, Some, refl, sym, ap, ◌∙◌, slice_get}
use Rattle.std.specs.Prelude.{option_map}
use Rattle.std.proofs.lemmas.List.{at_drop_more}
use Rattle.std.proofs.lemmas.Option.{slice_get-get_or, slice_get-map}
use Rattle.il_syntax.specs.declared.tree.Config.{Config}
use Rattle.il_syntax.specs.declared.tree.Unit.{Unit as ProgramUnit}
use Rattle.base_maps.specs.NameMap.{Text}
use Rattle.load_order.specs.Counted.{number_at, number_in}
use Rattle.il_work_laws.specs.Work.{most_work}
use Rattle.load_work.specs.Sizes.{capped}
use Rattle.cli_output.specs.Busy.{busy_by, busy_text}
use Rattle.cli_output.specs.Limits.{UnitUse, most_of, with_more, work_use}

use_of : (a b : Text) (m n : ℕ) → a ≡ b → m ≡ n → ◌≡◌ {A = UnitUse} (record { name = a; used = m }) (record { name = b; used = n })
use_of a b m n is_name is_used = ap (λ (t : Text). record { name = t; used = m }) is_name ∙ ap (λ (k : ℕ). record { name = b; used = k }) is_used

module _ (c : Config) (units : List ProgramUnit) (works : List ℕ) (are : works ≡ map (λ v. capped (most_work c v)) units) where
  pub one_more : (at : ℕ) (u : ProgramUnit) (best : Option UnitUse) (shown : UnitUse) (name : Text) (used : ℕ) (whole : Option UnitUse) → at < length units → u ≡ get_or units at u
      → name ≡ (get_or units at u).name.name → used ≡ number_at works at → shown ≡ with_more best (record { name = name; used = used }) → most_of best (map (work_use c) (drop at units)) ≡ whole
      → most_of (Some shown) (map (work_use c) (drop (at + 1) units)) ≡ whole
  one_more at u best shown name used whole low is is_name is_used is_shown before =
      let stands : slice_get units at ≡ Some u = slice_get-get_or units at u low ∙ ap Some (sym is) in
      let most : used ≡ capped (most_work c u) = is_used ∙ ap (λ ws. number_at ws at) are ∙ ap number_in (slice_get-map (λ v. capped (most_work c v)) units at ∙ ap (option_map (λ v. capped (most_work c v))) stands) in
      let named : name ≡ u.name.name = is_name ∙ ap (λ (v : ProgramUnit). v.name.name) (sym is) in
      let same : record { name = name; used = used } ≡ work_use c u = use_of name u.name.name used (capped (most_work c u)) named most in
      let later : map (work_use c) (drop at units) ≡ work_use c u ∷ map (work_use c) (drop (at + 1) units) = at_drop_more (map (work_use c)) units at u low ∙ ap (λ (v : ProgramUnit). work_use c v ∷ map (work_use c) (drop (at + 1) units)) (sym is) in
      ap (λ n. most_of (Some n) (map (work_use c) (drop (at + 1) units))) (is_shown ∙ ap (with_more best) same) ∙ sym (ap (most_of best) later) ∙ before

  -- a line of a unit of much work
  pub busy_more : (at : ℕ) (u : ProgramUnit) (used : ℕ) (text now whole : List ℕ) → at < length units → u ≡ get_or units at u → used ≡ number_at works at → now ≡ text ++ busy_by used u
      → text ++ flat_map (busy_text c) (drop at units) ≡ whole → now ++ flat_map (busy_text c) (drop (at + 1) units) ≡ whole
  busy_more at u used text now whole low is is_used is_now before =
      let stands : slice_get units at ≡ Some u = slice_get-get_or units at u low ∙ ap Some (sym is) in
      let most : used ≡ capped (most_work c u) = is_used ∙ ap (λ ws. number_at ws at) are ∙ ap number_in (slice_get-map (λ v. capped (most_work c v)) units at ∙ ap (option_map (λ v. capped (most_work c v))) stands) in
      let rest = flat_map (busy_text c) (drop (at + 1) units) in
      let later : flat_map (busy_text c) (drop at units) ≡ busy_text c u ++ rest = at_drop_more (flat_map (busy_text c)) units at u low ∙ ap (λ (v : ProgramUnit). busy_text c v ++ rest) (sym is) in
      ap (λ (t : List ℕ). t ++ rest) (is_now ∙ ap (λ n. text ++ busy_by n u) most) ∙ append_assoc text (busy_text c u) rest ∙ ap (λ (t : List ℕ). text ++ t) (sym later) ∙ before
