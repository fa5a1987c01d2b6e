use Rattle.std.proofs.Common.{ℕ, leb, cond, bit_and, refl, arith}
use Rattle.std.proofs.lemmas.Simd.{zip2_splat, length-chunk}
use Rattle.std.specs.Char.{is_ascii_alphanumeric}
use lib.Lanes.{chunk}
use Rattle.load_tokens.proofs.LaneLemmas.{joined, splat_is, run_in}
use Rattle.load_tokens.proofs.lanes.alphanumeric_run.Goals as goal

pub returns : goal.returns
returns c =
    let v = chunk c.args.at 16 c.args.text.now in
    let long = length-chunk c.args.at 16 c.args.text.now c.requires in
    run_in is_ascii_alphanumeric c.args.text.now c.args.at 16 _ _ c.requires (omega arith) c.type_inv.text c.first_set.ensures _
    (joined bit_and _ _ v (joined (λ a b. cond (leb a b) 255 0) _ _ v (splat_is v 16 26 long) (joined _ _ _ v (zip2_splat {Y = ℕ} _ v 16 32 long) (splat_is v 16 97 long)))
    (joined (λ a b. cond (leb a b) 255 0) _ _ v (splat_is v 16 10 long) (zip2_splat {Y = ℕ} _ v 16 48 long))) refl
