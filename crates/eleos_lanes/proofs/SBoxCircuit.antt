-- The circuit of the S-box on the bits of one byte, and its agreement with the S-box on each byte.
use Rattle.std.proofs.Common.{◌≡◌, ℕ, ◌<◌, true, refl, arith}
use Rattle.std.specs.Int.{bit_at}
use Rattle.eleos_base.specs.ByteField.{product, power, inverse}
use Rattle.eleos_base.specs.SBox.{affine, s_box}
use Rattle.eleos_base.proofs.Tables.{agree, agree_at}
use Rattle.eleos_lanes.specs.Planes.{byte_of, differ, both}
use Rattle.eleos_lanes.proofs.Bits.{bits_of_byte}

-- the inverse in the field of 16 elements, on which the circuit's inverse rests
unfoldable pub inner_bits : ℕ → ℕ → ℕ → ℕ → ℕ → ℕ → ℕ → ℕ → ℕ × ℕ × ℕ × ℕ
inner_bits x0 x1 x2 x3 x4 x5 x6 x7 =
    let t0 = differ x4 x7 in
    let t1 = differ x5 x6 in
    let t2 = differ x1 x3 in
    let t3 = differ t1 x0 in
    let t4 = differ t2 x2 in
    let t5 = differ t0 t2 in
    let t6 = differ t3 x1 in
    let t7 = differ t4 x6 in
    let t8 = differ t0 x2 in
    let t9 = differ x2 x7 in
    let t10 = differ t6 t9 in
    let t11 = differ t8 x1 in
    let t12 = differ x2 x4 in
    let t13 = differ x1 x7 in
    let t14 = differ t4 x5 in
    let t15 = differ t7 x0 in
    let t16 = differ t5 x0 in
    let t17 = differ t8 x5 in
    let t18 = differ t3 x7 in
    let t19 = differ t1 t5 in
    let t20 = differ t3 x4 in
    let t21 = both t20 x0 in
    let t22 = both t10 t16 in
    let t23 = both t11 t5 in
    let t24 = both t18 t15 in
    let t25 = both t6 t3 in
    let t26 = both t13 t14 in
    let t27 = both t0 t7 in
    let t28 = both t9 t19 in
    let t29 = both t12 t17 in
    let t30 = differ t14 t27 in
    let t31 = differ t23 t27 in
    let t32 = differ t26 t30 in
    let t33 = differ t13 t25 in
    let t34 = differ t9 t21 in
    let t35 = differ t24 x7 in
    let t36 = differ t22 t31 in
    let t37 = differ t28 t31 in
    let t38 = differ t32 t35 in
    let t39 = differ t7 t29 in
    let t40 = differ t0 t39 in
    let t41 = differ t36 t40 in
    let t42 = differ t19 t34 in
    let t43 = differ t28 t38 in
    let t44 = differ t37 t42 in
    let t45 = differ t29 t32 in
    let t46 = differ t33 t45 in
    let t47 = both t44 t43 in
    let t48 = both t44 t46 in
    let t49 = both t41 t46 in
    let t50 = both t41 t43 in
    let t51 = both t50 t46 in
    let t52 = both t47 t46 in
    let t53 = both t44 t41 in
    let t54 = both t53 t46 in
    let t55 = both t53 t43 in
    let t56 = differ t44 t49 in
    let t57 = differ t43 t49 in
    let t58 = differ t48 t57 in
    let t59 = differ t50 t56 in
    let t60 = differ t47 t59 in
    let t61 = differ t52 t58 in
    let t62 = differ t55 t59 in
    let t63 = differ t41 t62 in
    let t64 = differ t47 t58 in
    let t65 = differ t54 t60 in
    let t66 = differ t46 t61 in
    let t67 = differ t51 t64 in
    (t63, t65, t66, t67)

-- the bits that the circuit makes of eight bits, lowest first
unfoldable pub circuit_bits : ℕ → ℕ → ℕ → ℕ → ℕ → ℕ → ℕ → ℕ → ℕ × ℕ × ℕ × ℕ × ℕ × ℕ × ℕ × ℕ
circuit_bits x0 x1 x2 x3 x4 x5 x6 x7 =
    let inner = inner_bits x0 x1 x2 x3 x4 x5 x6 x7 in
    let t63 = inner.0 in
    let t65 = inner.1 in
    let t66 = inner.2 in
    let t67 = inner.3 in
    let t0 = differ x4 x7 in
    let t1 = differ x5 x6 in
    let t2 = differ x1 x3 in
    let t3 = differ t1 x0 in
    let t4 = differ t2 x2 in
    let t5 = differ t0 t2 in
    let t6 = differ t3 x1 in
    let t7 = differ t4 x6 in
    let t8 = differ t0 x2 in
    let t9 = differ x2 x7 in
    let t10 = differ t6 t9 in
    let t11 = differ t8 x1 in
    let t12 = differ x2 x4 in
    let t13 = differ x1 x7 in
    let t14 = differ t4 x5 in
    let t15 = differ t7 x0 in
    let t16 = differ t5 x0 in
    let t17 = differ t8 x5 in
    let t18 = differ t3 x7 in
    let t19 = differ t1 t5 in
    let t20 = differ t3 x4 in
    let t68 = differ t67 t65 in
    let t69 = differ t66 t63 in
    let t70 = differ t67 t66 in
    let t71 = differ t65 t63 in
    let t72 = differ t68 t69 in
    let t73 = both x0 t67 in
    let t74 = both t16 t66 in
    let t75 = both t5 t70 in
    let t76 = both t15 t65 in
    let t77 = both t3 t63 in
    let t78 = both t14 t71 in
    let t79 = both t7 t68 in
    let t80 = both t19 t69 in
    let t81 = both t17 t72 in
    let t82 = both t20 t67 in
    let t83 = both t10 t66 in
    let t84 = both t11 t70 in
    let t85 = both t18 t65 in
    let t86 = both t6 t63 in
    let t87 = both t13 t71 in
    let t88 = both t0 t68 in
    let t89 = both t9 t69 in
    let t90 = both t12 t72 in
    let t91 = differ t88 t90 in
    let t92 = differ t83 t91 in
    let t93 = differ t84 t92 in
    let t94 = differ t73 t87 in
    let t95 = differ t75 t94 in
    let t96 = differ t77 t78 in
    let t97 = differ t74 t93 in
    let t98 = differ t85 t95 in
    let t99 = differ t79 t81 in
    let t100 = differ t80 t98 in
    let t101 = differ t75 t97 in
    let t102 = differ t76 t91 in
    let t103 = differ t86 t102 in
    let t104 = differ t82 t92 in
    let t105 = differ t100 t104 in
    let t106 = differ t88 t100 in
    let t107 = differ t73 t97 in
    let t108 = differ t81 t87 in
    let t109 = differ t93 t99 in
    let t110 = differ t77 t108 in
    let t111 = differ t76 t77 in
    let t112 = differ t79 t106 in
    let t113 = differ t99 t101 in
    let t114 = differ t89 t112 in
    let t115 = differ t107 t111 in
    let t116 = differ t78 t103 in
    let t117 = differ t96 t109 in
    let t118 = differ t81 t96 in
    let t119 = differ t105 t118 in
    let t120 = differ t80 t103 in
    let t121 = differ t110 t120 in
    let t122 = differ t96 t101 in
    let t123 = differ t95 t116 in
    (differ t123 1, differ t121 1, t119, t115, t122, differ t114 1, differ t113 1, t117)

-- and their byte
unfoldable pub circuit : ℕ → ℕ → ℕ → ℕ → ℕ → ℕ → ℕ → ℕ → ℕ
circuit x0 x1 x2 x3 x4 x5 x6 x7 =
    let y = circuit_bits x0 x1 x2 x3 x4 x5 x6 x7 in byte_of y.0 y.1 y.2 y.3 y.4 y.5 y.6 y.7

circuit_is : agree (λ x. circuit (bit_at x 0) (bit_at x 1) (bit_at x 2) (bit_at x 3) (bit_at x 4) (bit_at x 5) (bit_at x 6) (bit_at x 7)) s_box 256 ≡ true
unfolding circuit circuit_bits inner_bits differ both product power inverse affine s_box
circuit_is = refl

circuit_at : (x : ℕ) → x < 256
    → circuit (bit_at x 0) (bit_at x 1) (bit_at x 2) (bit_at x 3) (bit_at x 4) (bit_at x 5) (bit_at x 6) (bit_at x 7) ≡ s_box x
circuit_at = agree_at _ s_box 256 circuit_is

-- bits that are given one by one
pub circuit_on_bits : (x0 x1 x2 x3 x4 x5 x6 x7 : ℕ) → x0 < 2 → x1 < 2 → x2 < 2 → x3 < 2 → x4 < 2 → x5 < 2 → x6 < 2 → x7 < 2
    → circuit x0 x1 x2 x3 x4 x5 x6 x7 ≡ s_box (byte_of x0 x1 x2 x3 x4 x5 x6 x7)
circuit_on_bits x0 x1 x2 x3 x4 x5 x6 x7 l0 l1 l2 l3 l4 l5 l6 l7 =
    let x = byte_of x0 x1 x2 x3 x4 x5 x6 x7 in
    let are = bits_of_byte x0 x1 x2 x3 x4 x5 x6 x7 l0 l1 l2 l3 l4 l5 l6 l7 in
    let whole = circuit_at x (omega arith) in
    rw (are.0, are.1, are.2, are.3, are.4, are.5, are.6, are.7) at whole
