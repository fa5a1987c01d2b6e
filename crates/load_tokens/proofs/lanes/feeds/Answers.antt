use Rattle.std.proofs.Common.{eqb, ap, ◌∙◌, arith, w8}
use lib.Count.{ones}
use lib.Lanes.{chunk}
use Rattle.std.proofs.lemmas.List.Sums.{count_by-le-length}
use Rattle.std.proofs.lemmas.Simd.{bitmask_splat, ones-mask_l, length-chunk}
use Rattle.load_tokens.proofs.lanes.feeds.Goals as goal

pub returns-clause-count : goal.returns-clause-count
returns-clause-count c =
    let v = chunk c.args.at 16 c.args.bytes.now in
    ap ones (bitmask_splat w8 eqb v 16 10 (length-chunk c.args.at 16 c.args.bytes.now c.requires) (omega arith)) ∙ ones-mask_l (λ x. eqb x 10) v

pub returns-clause-few : goal.returns-clause-few
returns-clause-few c =
    let v = chunk c.args.at 16 c.args.bytes.now in
    let long = length-chunk c.args.at 16 c.args.bytes.now c.requires in
    let count = ap ones (bitmask_splat w8 eqb v 16 10 long (omega arith)) ∙ ones-mask_l (λ x. eqb x 10) v in
    omega (arith, count, count_by-le-length (λ x. eqb x 10) v, long)
