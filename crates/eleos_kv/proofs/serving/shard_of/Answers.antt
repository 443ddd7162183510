use Rattle.std.proofs.Common.{◌≡◌, ℕ, ◌+◌, ◌%◌, ◌<◌, List, [], ◌∷◌, ◌++◌, length, take, get_or, sym, ap, ◌∙◌, arith}
use Rattle.std.specs.List.{sum, sum_by}
use Rattle.std.proofs.Math.Nat.{mod-add-mod, mod-lt, zero-mod}
use Rattle.std.proofs.lemmas.List.{take_all, take_more}
use Rattle.std.proofs.lemmas.List.Sums.{sum_by-append}
use Rattle.eleos_kv.proofs.serving.shard_of.Goals as goal

pub loop-byte-init : goal.loop-byte-init
loop-byte-init c = (c.requires.some, sym (zero-mod c.args.shards))

pub overflow_add-shard : goal.overflow_add-shard
overflow_add-shard c = let b = (c.type_inv.key c.loop-byte.byte-index).fits in let e = c.from.ensures in let lt = c.loop-byte.invariant.0 in let few = c.requires.few in record { fits = omega (arith, b, e, lt, few) }

-- one byte more
sum_more : (xs : List ℕ) (i x : ℕ) → x ≡ get_or xs i 0 → i < length xs → sum (take (i + 1) xs) ≡ sum (take i xs) + x
sum_more xs i x e below = let a = ap sum (take_more xs i 0 below) in let b = sum_by-append (λ (y : ℕ). y) (take i xs) (get_or xs i 0 ∷ []) in omega (arith, a, b, e)

pub loop-byte-preserved : goal.loop-byte-preserved
loop-byte-preserved c = let key : List ℕ = c.args.key.now in let i : ℕ = c.loop-byte.byte-index in (
  mod-lt (c.loop-byte.shard + c.from.result) c.requires.some,
  ap (λ (z : ℕ). (z + c.from.result) % c.args.shards) c.loop-byte.invariant.1
      ∙ (mod-add-mod (sum (take i key)) c.args.shards c.from.result ∙ ap (λ (z : ℕ). z % c.args.shards) (sym (sum_more key i c.from.result c.from.ensures c.loop-byte-test.true))),
)

pub returns : goal.returns
returns c = c.loop-byte.invariant.1 ∙ ap (λ (z : List ℕ). sum z % c.args.shards) (take_all c.loop-byte.byte-index c.args.key.now (let out = c.loop-byte-test.false in omega (arith, out)))
