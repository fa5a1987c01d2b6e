-- Steps of a scan, and how many were answered.
use Rattle.std.proofs.Common.{◌≡◌, ℕ, zero, suc, ◌+◌, Bool, true, false, ◌==◌, List, [], ◌∷◌, ◌++◌, length, if◌then◌else◌, refl, ap, ◌∙◌, subst, arith}
use Rattle.il_syntax.specs.declared.tree.Config.{Config}
use Rattle.il_semantics.specs.State.{State}
use Rattle.il_semantics.specs.Step.{step, Next}
use Rattle.il_semantics.specs.Scan.{Reaches, has_ended}
use Rattle.group_spec.specs.declared.event.Event.{Event}
use Rattle.group_spec.specs.declared.event.Event.TheVariants.{Start, Instruction}
use Rattle.group_spec.specs.Replies.{Reply}
use Rattle.group_spec.specs.Replies.{Started, More, End}
use Rattle.group_spec.specs.World.{counted, answered, reply_to}
use Rattle.group_laws.proofs.Lists.{same_is}

-- one step more
pub reaches_more : (c : Config) (n : ℕ) (s t v : State) → Reaches c n s t → step c t ≡ Next v → Reaches c (suc n) s v
reaches_more c zero s t v r is = (v, subst (λ x. step c x ≡ Next v) r is, refl)
reaches_more c (suc n) s t v r is = (r.0, r.1, reaches_more c n r.0 t v r.2 is)

-- what an Instruction counts
by_reply : (j t n : ℕ) (b : Bool) → counted j n (Instruction t) (if b then End else More) ≡ (if j == t then n + 1 else n)
by_reply j t n true = refl
by_reply j t n false = refl

pub counts_step : (j t n : ℕ) (s : State) → counted j n (Instruction t) (reply_to s) ≡ (if j == t then n + 1 else n)
counts_step j t n s = by_reply j t n (has_ended s)

pub counts_own : (t n : ℕ) (s : State) → counted t n (Instruction t) (reply_to s) ≡ suc n
counts_own t n s = let more : n + 1 ≡ suc n = omega arith in counts_step t t n s ∙ ap (λ b. if b then n + 1 else n) (same_is t) ∙ more

pub counts_other : (j t n : ℕ) (s : State) → (j == t) ≡ false → counted j n (Instruction t) (reply_to s) ≡ n
counts_other j t n s other = counts_step j t n s ∙ ap (λ b. if b then n + 1 else n) other

pub counts_start : (t n : ℕ) → counted t n (Start t) Started ≡ 0
counts_start t n = ap (λ b. if b then 0 else n) (same_is t)

pub counts_other_start : (j t n : ℕ) → (j == t) ≡ false → counted j n (Start t) Started ≡ n
counts_other_start j t n other = ap (λ b. if b then 0 else n) other

-- what one event more counts
pub answered_more : (t n : ℕ) (es : List Event) (rs : List Reply) (e : Event) (r : Reply) → length es ≡ length rs → answered t n (es ++ e ∷ []) (rs ++ r ∷ []) ≡ counted t (answered t n es rs) e r
answered_more t n [] [] e r h = refl
answered_more t n [] (q ∷ rs) e r h = absurd (omega (arith, h))
answered_more t n (d ∷ es) [] e r h = absurd (omega (arith, h))
answered_more t n (d ∷ es) (q ∷ rs) e r h = answered_more t (counted t n d q) es rs e r (omega (arith, h))
