-- What it means that a rule of the grammar spells one thing.
use Rattle.std.specs.Prelude.{◌≡◌, List}
use Rattle.il_syntax.specs.declared.token.Token.{Token}
use Rattle.il_syntax.specs.Grammar.{Front}

-- What is at the front is one thing, and the rest after it (own rule).
pub record IsDeterministic {A : Type 0} (P : A → Front) : Type 0 where
  pub only : (a b : A) (ts r s : List Token) → P a ts r → P b ts s → (a ≡ b) × (r ≡ s)

-- What is at the front fixes this view of the thing, and the rest after it (own rule).
pub record Fixes {A B : Type 0} (view : A → B) (P : A → Front) : Type 0 where
  pub only : (a b : A) (ts r s : List Token) → P a ts r → P b ts s → (view a ≡ view b) × (r ≡ s)

-- The rest after what is at the front is one (own rule).
pub record IsSure (P : Front) : Type 0 where
  pub only : (ts r s : List Token) → P ts r → P ts s → r ≡ s

-- Where one rule holds, another doesn't (own rule).
pub record AreApart {A B : Type 0} (P : A → Front) (Q : B → Front) : Type 0 where
  pub never : (a : A) (b : B) (ts r s : List Token) → P a ts r → Q b ts s → ⊥
