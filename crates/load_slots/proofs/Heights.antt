-- Chains of instances, and that the code of a configuration means its tree.
use Rattle.std.proofs.Common.{◌≡◌, ℕ, zero, suc, ◌<◌, ◌≤◌, Bool, true, false, List, [], ◌∷◌, refl, ap, ap₂, ◌∙◌, Some, arith}
use Rattle.std.specs.Prelude.{bytes_eq, if◌then◌else◌, max}
use Rattle.il_syntax.specs.declared.tree.Form.{Form}
use Rattle.il_syntax.specs.declared.tree.Form.TheVariants.{Scalar as ScalarForm, Array as ArrayForm, Block as BlockForm}
use Rattle.il_syntax.specs.declared.tree.Config.{Config}
use Rattle.base_maps.specs.NameMap.{Text}
use Rattle.il_semantics.specs.Meaning.{Entity, block_entities}
use Rattle.load_slots.specs.Cells.{form_in}
use Rattle.load_slots.specs.Places.{IsHeight, IsFormBelow, AreBelow, form_height, highest, height_to, any_block}

module _ (counts : Text → Bool) where
  form_highest_same : (one other : Text → ℕ) (m : ℕ) → ((block : Text) → one block < m → other block ≡ one block) → (f : Form) → form_height counts one f < m → form_height counts other f ≡ form_height counts one f
  form_highest_same one other m same (ScalarForm s) below = refl
  form_highest_same one other m same (ArrayForm bounds element) below = refl
  form_highest_same one other m same (BlockForm block) below = by_test (counts block) below
    where
      by_test : (b : Bool) → (if b then one block else 0) < m → (if b then other block else 0) ≡ (if b then one block else 0)
      by_test true below = same block below
      by_test false below = refl

  highest_same : (one other : Text → ℕ) (m : ℕ) → ((block : Text) → one block < m → other block ≡ one block) → (es : List Entity) → highest counts one es < m → highest counts other es ≡ highest counts one es
  highest_same one other m same [] below = refl
  highest_same one other m same (e ∷ es) below =
      ap₂ max (form_highest_same one other m same e.form (left (form_height counts one e.form) (highest counts one es) below)) (highest_same one other m same es (right (form_height counts one e.form) (highest counts one es) below))
    where
      left : (a b : ℕ) → max a b < m → a < m
      left a b below = omega (arith, below)

      right : (a b : ℕ) → max a b < m → b < m
      right a b below = omega (arith, below)

  -- a height below the limit is the same under a higher one
  pub stable : (declared : Text → List Entity) (n : ℕ) (name : Text) → height_to counts declared n name < n → height_to counts declared (suc n) name ≡ height_to counts declared n name
  stable declared zero name below = let none : ⊥ = omega (arith, below) in absurd none
  stable declared (suc n) name below =
      ap suc (highest_same (height_to counts declared n) (height_to counts declared (suc n)) n (stable declared n) (declared name) (let h : highest counts (height_to counts declared n) (declared name) < n = omega (arith, below) in h))

  -- a block that counts is lower than what declares it
  pub in_highest : (inner : Text → ℕ) (es : List Entity) (name block : Text) → form_in es name ≡ Some (BlockForm block) → counts block ≡ true → inner block ≤ highest counts inner es
  in_highest inner [] name block is own = cc
  in_highest inner (e ∷ es) name block is own = by_test (bytes_eq e.name name) is (λ more. in_highest inner es name block more own)
    where
      by_test : (b : Bool) → (if b then Some e.form else form_in es name) ≡ Some (BlockForm block) → (form_in es name ≡ Some (BlockForm block) → inner block ≤ highest counts inner es)
          → inner block ≤ max (form_height counts inner e.form) (highest counts inner es)
      by_test true is more =
          let same : e.form ≡ BlockForm block = cc in
          let first : form_height counts inner e.form ≡ inner block = ap (form_height counts inner) same ∙ ap (λ b. if b then inner block else 0) own in
          beside (form_height counts inner e.form) (highest counts inner es) (inner block) first
        where
          beside : (a b k : ℕ) → a ≡ k → k ≤ max a b
          beside a b k is = omega (arith, is)
      by_test false is more = beside (form_height counts inner e.form) (highest counts inner es) (inner block) (more is)
        where
          beside : (a b k : ℕ) → k ≤ b → k ≤ max a b
          beside a b k is = omega (arith, is)

  pub counted_falls : (declared : Text → List Entity) (n : ℕ) (unit : Text) → height_to counts declared n unit < n → (name block : Text) → form_in (declared unit) name ≡ Some (BlockForm block) → counts block ≡ true
      → height_to counts declared n block < height_to counts declared n unit
  counted_falls declared n unit below name block is own =
      let most : height_to counts declared n block ≤ highest counts (height_to counts declared n) (declared unit) = in_highest (height_to counts declared n) (declared unit) name block is own in
      let same : suc (highest counts (height_to counts declared n) (declared unit)) ≡ height_to counts declared n unit = stable declared n unit below in
      omega (arith, most, same)

-- where every block counts, all are below
pub forms_below : (inner : Text → ℕ) (m : ℕ) (es : List Entity) → highest any_block inner es < m → AreBelow inner m es
forms_below inner m [] below = tt
forms_below inner m (e ∷ es) below = (of_form e.form (left (form_height any_block inner e.form) (highest any_block inner es) below), forms_below inner m es (right (form_height any_block inner e.form) (highest any_block inner es) below))
  where
    of_form : (f : Form) → form_height any_block inner f < m → IsFormBelow inner m f
    of_form (ScalarForm s) below = tt
    of_form (ArrayForm bounds element) below = tt
    of_form (BlockForm block) below = below

    left : (a b : ℕ) → max a b < m → a < m
    left a b below = omega (arith, below)

    right : (a b : ℕ) → max a b < m → b < m
    right a b below = omega (arith, below)

-- heights that all lie below the limit are heights
pub is_height : (c : Config) (n : ℕ) → ((block : Text) → height_to any_block (block_entities c) (suc n) block ≤ n) → IsHeight c (height_to any_block (block_entities c) (suc n))
is_height c n tall = record {
  counted = λ block. omega arith;
  falls = λ block.
      let h : ℕ = height_to any_block (block_entities c) (suc n) block in
      let low : h ≤ n = tall block in
      let below : h < suc n = omega (arith, low) in
      let same : suc (highest any_block (height_to any_block (block_entities c) (suc n)) (block_entities c block)) ≡ h = stable any_block (block_entities c) (suc n) block below in
      forms_below (height_to any_block (block_entities c) (suc n)) h (block_entities c block) (omega (arith, same));
}
