use Rattle.std.proofs.Common.{◌≡◌, ℕ, ◌<◌, refl, ap₂, ◌∙◌}
use Rattle.std.proofs.lemmas.Nat.Bits.{bit_at-lt}
use Rattle.eleos_lanes.specs.Planes.{lane_bit, differ, both}
use Rattle.eleos_lanes.proofs.SBoxCircuit.{inner_bits, circuit_bits, circuit, circuit_on_bits}
use Rattle.eleos_lanes.proofs.Bits.{same_byte}
use Rattle.eleos_lanes.proofs.circuit.circuit.Goals as goal

-- the inner inverse, gate after gate
inner : (c : goal.After-complement-y6) (i b : ℕ) → i < 16
    → let x = inner_bits (lane_bit c.args.x0 i b) (lane_bit c.args.x1 i b) (lane_bit c.args.x2 i b) (lane_bit c.args.x3 i b)
    (lane_bit c.args.x4 i b) (lane_bit c.args.x5 i b) (lane_bit c.args.x6 i b) (lane_bit c.args.x7 i b) in
    (lane_bit c.xor-t63.result i b ≡ x.0) × (lane_bit c.xor-t65.result i b ≡ x.1)
    × (lane_bit c.xor-t66.result i b ≡ x.2) × (lane_bit c.xor-t67.result i b ≡ x.3)
unfolding inner_bits
inner c i b h =
    let e0 = c.xor-t0.ensures i b h in
    let e1 = c.xor-t1.ensures i b h in
    let e2 = c.xor-t2.ensures i b h in
    let e3 = c.xor-t3.ensures i b h ∙ ap₂ differ e1 refl in
    let e4 = c.xor-t4.ensures i b h ∙ ap₂ differ e2 refl in
    let e5 = c.xor-t5.ensures i b h ∙ ap₂ differ e0 e2 in
    let e6 = c.xor-t6.ensures i b h ∙ ap₂ differ e3 refl in
    let e7 = c.xor-t7.ensures i b h ∙ ap₂ differ e4 refl in
    let e8 = c.xor-t8.ensures i b h ∙ ap₂ differ e0 refl in
    let e9 = c.xor-t9.ensures i b h in
    let e10 = c.xor-t10.ensures i b h ∙ ap₂ differ e6 e9 in
    let e11 = c.xor-t11.ensures i b h ∙ ap₂ differ e8 refl in
    let e12 = c.xor-t12.ensures i b h in
    let e13 = c.xor-t13.ensures i b h in
    let e14 = c.xor-t14.ensures i b h ∙ ap₂ differ e4 refl in
    let e15 = c.xor-t15.ensures i b h ∙ ap₂ differ e7 refl in
    let e16 = c.xor-t16.ensures i b h ∙ ap₂ differ e5 refl in
    let e17 = c.xor-t17.ensures i b h ∙ ap₂ differ e8 refl in
    let e18 = c.xor-t18.ensures i b h ∙ ap₂ differ e3 refl in
    let e19 = c.xor-t19.ensures i b h ∙ ap₂ differ e1 e5 in
    let e20 = c.xor-t20.ensures i b h ∙ ap₂ differ e3 refl in
    let e21 = c.and-t21.ensures i b h ∙ ap₂ both e20 refl in
    let e22 = c.and-t22.ensures i b h ∙ ap₂ both e10 e16 in
    let e23 = c.and-t23.ensures i b h ∙ ap₂ both e11 e5 in
    let e24 = c.and-t24.ensures i b h ∙ ap₂ both e18 e15 in
    let e25 = c.and-t25.ensures i b h ∙ ap₂ both e6 e3 in
    let e26 = c.and-t26.ensures i b h ∙ ap₂ both e13 e14 in
    let e27 = c.and-t27.ensures i b h ∙ ap₂ both e0 e7 in
    let e28 = c.and-t28.ensures i b h ∙ ap₂ both e9 e19 in
    let e29 = c.and-t29.ensures i b h ∙ ap₂ both e12 e17 in
    let e30 = c.xor-t30.ensures i b h ∙ ap₂ differ e14 e27 in
    let e31 = c.xor-t31.ensures i b h ∙ ap₂ differ e23 e27 in
    let e32 = c.xor-t32.ensures i b h ∙ ap₂ differ e26 e30 in
    let e33 = c.xor-t33.ensures i b h ∙ ap₂ differ e13 e25 in
    let e34 = c.xor-t34.ensures i b h ∙ ap₂ differ e9 e21 in
    let e35 = c.xor-t35.ensures i b h ∙ ap₂ differ e24 refl in
    let e36 = c.xor-t36.ensures i b h ∙ ap₂ differ e22 e31 in
    let e37 = c.xor-t37.ensures i b h ∙ ap₂ differ e28 e31 in
    let e38 = c.xor-t38.ensures i b h ∙ ap₂ differ e32 e35 in
    let e39 = c.xor-t39.ensures i b h ∙ ap₂ differ e7 e29 in
    let e40 = c.xor-t40.ensures i b h ∙ ap₂ differ e0 e39 in
    let e41 = c.xor-t41.ensures i b h ∙ ap₂ differ e36 e40 in
    let e42 = c.xor-t42.ensures i b h ∙ ap₂ differ e19 e34 in
    let e43 = c.xor-t43.ensures i b h ∙ ap₂ differ e28 e38 in
    let e44 = c.xor-t44.ensures i b h ∙ ap₂ differ e37 e42 in
    let e45 = c.xor-t45.ensures i b h ∙ ap₂ differ e29 e32 in
    let e46 = c.xor-t46.ensures i b h ∙ ap₂ differ e33 e45 in
    let e47 = c.and-t47.ensures i b h ∙ ap₂ both e44 e43 in
    let e48 = c.and-t48.ensures i b h ∙ ap₂ both e44 e46 in
    let e49 = c.and-t49.ensures i b h ∙ ap₂ both e41 e46 in
    let e50 = c.and-t50.ensures i b h ∙ ap₂ both e41 e43 in
    let e51 = c.and-t51.ensures i b h ∙ ap₂ both e50 e46 in
    let e52 = c.and-t52.ensures i b h ∙ ap₂ both e47 e46 in
    let e53 = c.and-t53.ensures i b h ∙ ap₂ both e44 e41 in
    let e54 = c.and-t54.ensures i b h ∙ ap₂ both e53 e46 in
    let e55 = c.and-t55.ensures i b h ∙ ap₂ both e53 e43 in
    let e56 = c.xor-t56.ensures i b h ∙ ap₂ differ e44 e49 in
    let e57 = c.xor-t57.ensures i b h ∙ ap₂ differ e43 e49 in
    let e58 = c.xor-t58.ensures i b h ∙ ap₂ differ e48 e57 in
    let e59 = c.xor-t59.ensures i b h ∙ ap₂ differ e50 e56 in
    let e60 = c.xor-t60.ensures i b h ∙ ap₂ differ e47 e59 in
    let e61 = c.xor-t61.ensures i b h ∙ ap₂ differ e52 e58 in
    let e62 = c.xor-t62.ensures i b h ∙ ap₂ differ e55 e59 in
    let e63 = c.xor-t63.ensures i b h ∙ ap₂ differ e41 e62 in
    let e64 = c.xor-t64.ensures i b h ∙ ap₂ differ e47 e58 in
    let e65 = c.xor-t65.ensures i b h ∙ ap₂ differ e54 e60 in
    let e66 = c.xor-t66.ensures i b h ∙ ap₂ differ e46 e61 in
    let e67 = c.xor-t67.ensures i b h ∙ ap₂ differ e51 e64 in
    (e63, e65, e66, e67)

pub returns : goal.returns
unfolding circuit_bits circuit
returns c i b h low =
    let within = inner c i b h in
    let e63 = within.0 in
    let e65 = within.1 in
    let e66 = within.2 in
    let e67 = within.3 in
    let e0 = c.xor-t0.ensures i b h in
    let e1 = c.xor-t1.ensures i b h in
    let e2 = c.xor-t2.ensures i b h in
    let e3 = c.xor-t3.ensures i b h ∙ ap₂ differ e1 refl in
    let e4 = c.xor-t4.ensures i b h ∙ ap₂ differ e2 refl in
    let e5 = c.xor-t5.ensures i b h ∙ ap₂ differ e0 e2 in
    let e6 = c.xor-t6.ensures i b h ∙ ap₂ differ e3 refl in
    let e7 = c.xor-t7.ensures i b h ∙ ap₂ differ e4 refl in
    let e8 = c.xor-t8.ensures i b h ∙ ap₂ differ e0 refl in
    let e9 = c.xor-t9.ensures i b h in
    let e10 = c.xor-t10.ensures i b h ∙ ap₂ differ e6 e9 in
    let e11 = c.xor-t11.ensures i b h ∙ ap₂ differ e8 refl in
    let e12 = c.xor-t12.ensures i b h in
    let e13 = c.xor-t13.ensures i b h in
    let e14 = c.xor-t14.ensures i b h ∙ ap₂ differ e4 refl in
    let e15 = c.xor-t15.ensures i b h ∙ ap₂ differ e7 refl in
    let e16 = c.xor-t16.ensures i b h ∙ ap₂ differ e5 refl in
    let e17 = c.xor-t17.ensures i b h ∙ ap₂ differ e8 refl in
    let e18 = c.xor-t18.ensures i b h ∙ ap₂ differ e3 refl in
    let e19 = c.xor-t19.ensures i b h ∙ ap₂ differ e1 e5 in
    let e20 = c.xor-t20.ensures i b h ∙ ap₂ differ e3 refl in
    let e68 = c.xor-t68.ensures i b h ∙ ap₂ differ e67 e65 in
    let e69 = c.xor-t69.ensures i b h ∙ ap₂ differ e66 e63 in
    let e70 = c.xor-t70.ensures i b h ∙ ap₂ differ e67 e66 in
    let e71 = c.xor-t71.ensures i b h ∙ ap₂ differ e65 e63 in
    let e72 = c.xor-t72.ensures i b h ∙ ap₂ differ e68 e69 in
    let e73 = c.and-t73.ensures i b h ∙ ap₂ both refl e67 in
    let e74 = c.and-t74.ensures i b h ∙ ap₂ both e16 e66 in
    let e75 = c.and-t75.ensures i b h ∙ ap₂ both e5 e70 in
    let e76 = c.and-t76.ensures i b h ∙ ap₂ both e15 e65 in
    let e77 = c.and-t77.ensures i b h ∙ ap₂ both e3 e63 in
    let e78 = c.and-t78.ensures i b h ∙ ap₂ both e14 e71 in
    let e79 = c.and-t79.ensures i b h ∙ ap₂ both e7 e68 in
    let e80 = c.and-t80.ensures i b h ∙ ap₂ both e19 e69 in
    let e81 = c.and-t81.ensures i b h ∙ ap₂ both e17 e72 in
    let e82 = c.and-t82.ensures i b h ∙ ap₂ both e20 e67 in
    let e83 = c.and-t83.ensures i b h ∙ ap₂ both e10 e66 in
    let e84 = c.and-t84.ensures i b h ∙ ap₂ both e11 e70 in
    let e85 = c.and-t85.ensures i b h ∙ ap₂ both e18 e65 in
    let e86 = c.and-t86.ensures i b h ∙ ap₂ both e6 e63 in
    let e87 = c.and-t87.ensures i b h ∙ ap₂ both e13 e71 in
    let e88 = c.and-t88.ensures i b h ∙ ap₂ both e0 e68 in
    let e89 = c.and-t89.ensures i b h ∙ ap₂ both e9 e69 in
    let e90 = c.and-t90.ensures i b h ∙ ap₂ both e12 e72 in
    let e91 = c.xor-t91.ensures i b h ∙ ap₂ differ e88 e90 in
    let e92 = c.xor-t92.ensures i b h ∙ ap₂ differ e83 e91 in
    let e93 = c.xor-t93.ensures i b h ∙ ap₂ differ e84 e92 in
    let e94 = c.xor-t94.ensures i b h ∙ ap₂ differ e73 e87 in
    let e95 = c.xor-t95.ensures i b h ∙ ap₂ differ e75 e94 in
    let e96 = c.xor-t96.ensures i b h ∙ ap₂ differ e77 e78 in
    let e97 = c.xor-t97.ensures i b h ∙ ap₂ differ e74 e93 in
    let e98 = c.xor-t98.ensures i b h ∙ ap₂ differ e85 e95 in
    let e99 = c.xor-t99.ensures i b h ∙ ap₂ differ e79 e81 in
    let e100 = c.xor-t100.ensures i b h ∙ ap₂ differ e80 e98 in
    let e101 = c.xor-t101.ensures i b h ∙ ap₂ differ e75 e97 in
    let e102 = c.xor-t102.ensures i b h ∙ ap₂ differ e76 e91 in
    let e103 = c.xor-t103.ensures i b h ∙ ap₂ differ e86 e102 in
    let e104 = c.xor-t104.ensures i b h ∙ ap₂ differ e82 e92 in
    let e105 = c.xor-t105.ensures i b h ∙ ap₂ differ e100 e104 in
    let e106 = c.xor-t106.ensures i b h ∙ ap₂ differ e88 e100 in
    let e107 = c.xor-t107.ensures i b h ∙ ap₂ differ e73 e97 in
    let e108 = c.xor-t108.ensures i b h ∙ ap₂ differ e81 e87 in
    let e109 = c.xor-t109.ensures i b h ∙ ap₂ differ e93 e99 in
    let e110 = c.xor-t110.ensures i b h ∙ ap₂ differ e77 e108 in
    let e111 = c.xor-t111.ensures i b h ∙ ap₂ differ e76 e77 in
    let e112 = c.xor-t112.ensures i b h ∙ ap₂ differ e79 e106 in
    let e113 = c.xor-t113.ensures i b h ∙ ap₂ differ e99 e101 in
    let e114 = c.xor-t114.ensures i b h ∙ ap₂ differ e89 e112 in
    let e115 = c.xor-t115.ensures i b h ∙ ap₂ differ e107 e111 in
    let e116 = c.xor-t116.ensures i b h ∙ ap₂ differ e78 e103 in
    let e117 = c.xor-t117.ensures i b h ∙ ap₂ differ e96 e109 in
    let e118 = c.xor-t118.ensures i b h ∙ ap₂ differ e81 e96 in
    let e119 = c.xor-t119.ensures i b h ∙ ap₂ differ e105 e118 in
    let e120 = c.xor-t120.ensures i b h ∙ ap₂ differ e80 e103 in
    let e121 = c.xor-t121.ensures i b h ∙ ap₂ differ e110 e120 in
    let e122 = c.xor-t122.ensures i b h ∙ ap₂ differ e96 e101 in
    let e123 = c.xor-t123.ensures i b h ∙ ap₂ differ e95 e116 in
    let f0 = c.complement-y0.ensures i b h low ∙ ap₂ differ e123 refl in
    let f1 = c.complement-y1.ensures i b h low ∙ ap₂ differ e121 refl in
    let f5 = c.complement-y5.ensures i b h low ∙ ap₂ differ e114 refl in
    let f6 = c.complement-y6.ensures i b h low ∙ ap₂ differ e113 refl in
    let x0 = lane_bit c.args.x0 i b in
    let x1 = lane_bit c.args.x1 i b in
    let x2 = lane_bit c.args.x2 i b in
    let x3 = lane_bit c.args.x3 i b in
    let x4 = lane_bit c.args.x4 i b in
    let x5 = lane_bit c.args.x5 i b in
    let x6 = lane_bit c.args.x6 i b in
    let x7 = lane_bit c.args.x7 i b in
    let y = circuit_bits x0 x1 x2 x3 x4 x5 x6 x7 in
    let all : (lane_bit c.complement-y0.result i b ≡ y.0) × (lane_bit c.complement-y1.result i b ≡ y.1) × (lane_bit c.xor-t119.result i b ≡ y.2) × (lane_bit c.xor-t115.result i b ≡ y.3) × (lane_bit c.xor-t122.result i b ≡ y.4) × (lane_bit c.complement-y5.result i b ≡ y.5) × (lane_bit c.complement-y6.result i b ≡ y.6) × (lane_bit c.xor-t117.result i b ≡ y.7) =
    (f0, f1, e119, e115, e122, f5, f6, e117) in
    same_byte all.0 all.1 all.2 all.3 all.4 all.5 all.6 all.7
    ∙ circuit_on_bits x0 x1 x2 x3 x4 x5 x6 x7
    (bit_at-lt _ b) (bit_at-lt _ b) (bit_at-lt _ b) (bit_at-lt _ b) (bit_at-lt _ b) (bit_at-lt _ b) (bit_at-lt _ b) (bit_at-lt _ b)
