-- Equal types, and the test of them.
use Rattle.std.proofs.Common.{◌≡◌, ℕ, zero, suc, true, refl, sym, ap, ◌∙◌, subst}
use Rattle.std.proofs.lemmas.Bool.{eqb-true}
use Rattle.il_syntax.specs.declared.tree.Elementary.{Elementary}
use Rattle.il_syntax.specs.declared.tree.Elementary.TheVariants.{Bool as Boolean, Sint, Int, Dint, Usint, Uint, Udint, Time}
use Rattle.il_syntax.specs.ElementaryTypes.{is_same_type, rank_of}

type_of : ℕ → Elementary
type_of zero = Boolean
type_of (suc zero) = Sint
type_of (suc (suc zero)) = Int
type_of (suc (suc (suc zero))) = Dint
type_of (suc (suc (suc (suc zero)))) = Usint
type_of (suc (suc (suc (suc (suc zero))))) = Uint
type_of (suc (suc (suc (suc (suc (suc zero)))))) = Udint
type_of (suc (suc (suc (suc (suc (suc (suc n))))))) = Time

type_of_rank : (e : Elementary) → type_of (rank_of e) ≡ e
unfolding type_of
type_of_rank Boolean = refl
type_of_rank Sint = refl
type_of_rank Int = refl
type_of_rank Dint = refl
type_of_rank Usint = refl
type_of_rank Uint = refl
type_of_rank Udint = refl
type_of_rank Time = refl

pub same_type : (a b : Elementary) → is_same_type a b ≡ true → a ≡ b
same_type a b e = sym (type_of_rank a) ∙ ap type_of (eqb-true (rank_of a) (rank_of b) e) ∙ type_of_rank b

itself : (a : Elementary) → is_same_type a a ≡ true
itself Boolean = refl
itself Sint = refl
itself Int = refl
itself Dint = refl
itself Usint = refl
itself Uint = refl
itself Udint = refl
itself Time = refl

pub type_same : (a b : Elementary) → a ≡ b → is_same_type a b ≡ true
type_same a b e = subst (λ x. is_same_type a x ≡ true) e (itself a)
