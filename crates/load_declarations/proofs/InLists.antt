-- The first fault of the declarations of a unit's lists.
use Rattle.std.proofs.Common.{◌≡◌, ℕ, List, Option, subst}
use Rattle.il_syntax.specs.declared.tree.Place.{Place}
use Rattle.il_syntax.specs.declared.tree.Declaration.{Declaration}
use Rattle.il_statics.specs.Least.{NumberedFault, earlier_of, IsLeast, Either}
use Rattle.il_statics.proofs.Least.{least_both}
use Rattle.load_declarations.specs.Places.{Among}

-- four lists, each with its own rule
pub four_found : (P Q R S : Declaration → ℕ → Place → Type 0) (u1 u2 u3 u4 l1 l2 l3 l4 : List Declaration) (a b c d cd bcd r : Option NumberedFault) → l1 ≡ u1 → l2 ≡ u2 → l3 ≡ u3 → l4 ≡ u4
    → IsLeast a (Among P l1) → IsLeast b (Among Q l2) → IsLeast c (Among R l3) → IsLeast d (Among S l4) → cd ≡ earlier_of c d → bcd ≡ earlier_of b cd → r ≡ earlier_of a bcd
    → IsLeast r (Either (Among P u1) (Either (Among Q u2) (Either (Among R u3) (Among S u4))))
four_found P Q R S u1 u2 u3 u4 l1 l2 l3 l4 a b c d cd bcd r e1 e2 e3 e4 first second third fourth two three is =
    least_both _ _ a bcd r is (subst (λ l. IsLeast a (Among P l)) e1 first)
    (least_both _ _ b cd bcd three (subst (λ l. IsLeast b (Among Q l)) e2 second)
    (least_both _ _ c d cd two (subst (λ l. IsLeast c (Among R l)) e3 third) (subst (λ l. IsLeast d (Among S l)) e4 fourth)))
