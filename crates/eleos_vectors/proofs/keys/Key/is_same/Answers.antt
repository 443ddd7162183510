use Rattle.std.proofs.Common.{◌≡◌, ◌-◌, List, ℕ, length, refl, ap, arith}
use Rattle.eleos_vectors.proofs.SameKeys.{key_sizes, same_by_tests}
use Rattle.eleos_vectors.proofs.keys.Key.is_same.Goals as goal

pub returns-then-not-fronts_differ : goal.returns-then-not-fronts_differ
returns-then-not-fronts_differ c =
    let a : List ℕ = c.as_slice-a.result.now in
    let b : List ℕ = c.as_slice-b.result.now in
    let is_a : a ≡ c.args.self.now = cc in
    let is_b : b ≡ c.args.other.now = cc in
    let inside : a ≡ c.self.inside.bytes = cc in
    let sizes = key_sizes (length c.self.inside.bytes) c.self.invariant in
    let size : length a ≡ length c.self.inside.bytes = ap length inside in
    same_by_tests a b c.args.self.now c.args.other.now c.block_at.result c.block_at-2.result c.block_at-3.result c.block_at-4.result c.differs-fronts_differ.result c.differs-ends_differ.result (length a - 16)
    is_a is_b (omega arith) (omega (arith, sizes, size)) (omega (arith, sizes, size)) refl c.block_at.ensures c.block_at-2.ensures c.block_at-3.ensures c.block_at-4.ensures c.differs-fronts_differ.ensures c.differs-ends_differ.ensures c.if-not-fronts_differ.true
