use Rattle.std.proofs.Common.{ℕ, leb, cond, refl, arith}
use Rattle.std.proofs.lemmas.Simd.{zip2_splat, length-chunk}
use lib.Lanes.{chunk}
use Rattle.load_tokens.specs.Lanes.{is_plain}
use Rattle.load_tokens.proofs.LaneLemmas.{joined, splat_is, passes_in}
use Rattle.load_tokens.proofs.lanes.plain_run.Goals as goal

pub returns : goal.returns
returns c =
    let v = chunk c.args.at 32 c.args.text.now in
    let long = length-chunk c.args.at 32 c.args.text.now c.requires in
    passes_in is_plain c.args.text.now c.args.at 32 _ _ c.requires (omega arith) c.type_inv.text c.first_set.ensures _
    (joined _ _ _ v (joined _ _ _ v (joined (λ a b. cond (leb a b) 255 0) _ _ v (splat_is v 32 95 long) (zip2_splat {Y = ℕ} _ v 32 32 long)) (zip2_splat {Y = ℕ} _ v 32 40 long)) (zip2_splat {Y = ℕ} _ v 32 42 long)) refl
