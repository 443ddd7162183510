use Rattle.std.proofs.Common.{List, length, sym, ap, ◌∙◌, subst, arith}
use Rattle.std.proofs.lemmas.List.{length-set}
use Rattle.eleos_base.specs.Own.{IsOwnStart}
use Rattle.eleos_base.specs.SubMemory.{owned}
use Rattle.eleos_sslab.specs.declared.block.SlabBlock.{SlabBlock}
use Rattle.eleos_sslab.specs.Blocks.{with_len}
use Rattle.eleos_sslab.specs.Calls.{FreesEmpty}
use Rattle.eleos_sslab.specs.Slabs.{IsSlab, KeepsOthers, block_at, len_of}
use Rattle.eleos_sslab.proofs.Calling.{gone_is, start_of, taken_others, taken_slab}
use Rattle.eleos_sslab.proofs.Lengths.{used_within}
use Rattle.eleos_sslab.proofs.Spending.{take_spent}
use Rattle.eleos_sslab.proofs.slab.SSlab.take.Goals as goal

pub set_len-requires-clause-within : goal.set_len-requires-clause-within
set_len-requires-clause-within g c = used_within c.args.self.now c.args.id.block (c.args.id.slot, c.requires.held)

pub free_empty-requires-clause-within : goal.free_empty-requires-clause-within
free_empty-requires-clause-within g c = let a = used_within c.args.self.now c.args.id.block (c.args.id.slot, c.requires.held) in let b = ap length c.set_len.ensures in
    let d = length-set c.args.self.now c.args.id.block (with_len (block_at c.args.self.now c.args.id.block) c.args.id.slot 0) in omega (arith, a, b, d)

pub free_empty-requires-clause-start : goal.free_empty-requires-clause-start
free_empty-requires-clause-start g c = let m = g.M.SubMemory.state c.args.mem.now in
    subst (λ (z : List SlabBlock). IsOwnStart (owned m) (block_at z c.args.id.block).at) (sym c.set_len.ensures) (start_of m c.args.self.now c.args.id c.requires.slab c.requires.held)

pub returns-clause-gone : goal.returns-clause-gone
returns-clause-gone g c = ap (λ (z : List SlabBlock). len_of z c.args.id) c.set_len.ensures ∙ gone_is (g.M.SubMemory.state c.args.mem.now) c.args.self.now c.args.id c.requires.slab c.requires.held

pub returns-clause-others : goal.returns-clause-others
returns-clause-others g c = let m = g.M.SubMemory.state c.args.mem.now in let m' = g.M.SubMemory.state c.free_empty.new.mem in
    subst (λ (z : List SlabBlock). KeepsOthers (owned m) c.args.self.now c.args.id (owned m') z) (sym c.set_len.ensures)
    (taken_others m c.args.self.now c.args.id c.requires.slab c.requires.held m' (subst (λ (z : List SlabBlock). FreesEmpty m z c.args.id.block m') c.set_len.ensures c.free_empty.ensures))

pub returns-clause-slab : goal.returns-clause-slab
returns-clause-slab g c = let m = g.M.SubMemory.state c.args.mem.now in let m' = g.M.SubMemory.state c.free_empty.new.mem in
    subst (λ (z : List SlabBlock). IsSlab (owned m') z) (sym c.set_len.ensures)
    (taken_slab m c.args.self.now c.args.id c.requires.slab c.requires.held m' (subst (λ (z : List SlabBlock). FreesEmpty m z c.args.id.block m') c.set_len.ensures c.free_empty.ensures))

pub returns-clause-costs : goal.returns-clause-costs
returns-clause-costs g c = take_spent (g.M.SubMemory.state c.args.mem.now) (g.M.SubMemory.state c.free_empty.new.mem) c.set_len.new.self c.args.id.block c.free_empty.ensures
