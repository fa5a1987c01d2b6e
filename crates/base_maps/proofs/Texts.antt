-- Texts that compare equal, and insertions at a text that is there.
use Rattle.std.proofs.Common.{◌≡◌, Bool, true, false, refl, sym, ap, ◌∙◌, cond, Some, Option}
use Rattle.std.specs.Prelude.{is_some}
use Rattle.std.specs.declared.cmp.Ordering.{Ordering}
use Rattle.std.specs.declared.cmp.Ordering.TheVariants.{Less, Equal, Greater}
use Rattle.std.proofs.lemmas.Map.Lookups.{exact_bytes}
use Rattle.std.specs.Ordering.{eq_by_cmp, is_eq}
use Rattle.base_maps.specs.NameMap.{NameMap, Text, order, get, insert, get-insert}
use Rattle.base_maps.specs.ByText.{HaveSameNames}

pub is_eq_true : (r : Ordering) → is_eq r ≡ true → r ≡ Equal
is_eq_true Less h = cc
is_eq_true Equal h = refl
is_eq_true Greater h = cc

-- texts that compare equal are one
pub same_text : (q k : Text) → eq_by_cmp order q k ≡ true → q ≡ k
same_text q k h = exact_bytes q k (is_eq_true (order q k) h)

same_cond : {X : Type 0} (b : Bool) (v w : X) (o : Option X) → (b ≡ true → is_some o ≡ true) → is_some (cond b (Some v) o) ≡ is_some o
same_cond true v w o h = sym (h refl)
same_cond false v w o h = refl

-- an insertion at a text that is there keeps the texts
pub same_names-insert : {X : Type 0} (m n : NameMap X) (k : Text) (v : X) → is_some (get m k) ≡ true → HaveSameNames m n → HaveSameNames (insert m k v) n
same_names-insert m n k v there same = λ q.
    ap is_some (get-insert m k v q) ∙ same_cond (eq_by_cmp order q k) v v (get m q) (λ b. ap (λ x. is_some (get m x)) (same_text q k b) ∙ there) ∙ same q
