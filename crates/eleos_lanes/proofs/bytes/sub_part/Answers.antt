use Rattle.std.proofs.Common.{◌≡◌, ℕ, ◌++◌, length, take, drop, replicate, map, ap, ◌∙◌, arith, length-append, length-drop}
use Rattle.std.proofs.lemmas.List.{length-replicate, take_at}
use Rattle.eleos_base.specs.SBox.{s_box}
use Rattle.eleos_base.specs.AesState.{sub_bytes}
use Rattle.eleos_lanes.proofs.Parts.{blocks_mapped, take-map}
use Rattle.eleos_lanes.proofs.bytes.sub_part.Goals as goal

pub returns : goal.returns
returns c =
    let part = c.args.part.now in
    let n = length part in
    let zeros = drop n (replicate {A = ℕ} 128 0) in
    let self = c.copy_from_slice.new.self in
    let blocks = self ++ zeros in
    let front : self ≡ part = c.copy_from_slice.ensures.after in
    let size : length self ≡ n = ap length front in
    let long : length blocks ≡ 128 =
    omega (arith, length-append self zeros, length-drop n (replicate {A = ℕ} 128 0), length-replicate {A = ℕ} 128 0, size, c.requires) in
    let mapped : c.put_blocks.new.blocks ≡ map s_box blocks =
    blocks_mapped blocks c.put_blocks.new.blocks long c.put_blocks.array_long
    (λ b low. c.put_blocks.ensures b low ∙ c.sub_planes.ensures b low ∙ ap sub_bytes (c.planes_of.ensures b low)) in
    c.copy_from_slice-2.ensures.after ∙ ap (take n) mapped ∙ take-map s_box n blocks
    ∙ ap (map s_box) (take_at self zeros n size ∙ front)
