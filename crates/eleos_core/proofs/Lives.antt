-- Which block a sub-page lies in after an alloc, a free and a share, among live blocks in order.
use Rattle.std.proofs.Common.{◌≡◌, ℕ, ◌+◌, ◌*◌, ◌/◌, ◌<◌, ◌≤◌, ◌==◌, ◌||◌, List, [], ◌∷◌, Bool, true, false, not, nat_lt, filter, map, Option, Some, None, option_map, if◌then◌else◌, refl, sym, ◌∙◌, subst, ap, arith}
use Rattle.std.specs.List.{find, list_all}
use Rattle.std.proofs.lemmas.Bool.Decides.{nat_tests}
use Rattle.std.proofs.lemmas.Bool.{eqb-true}
use Rattle.std.proofs.Math.Nat.{div-eq_of_eq-mul_right}
use Rattle.eleos_base.specs.declared.memory.Addr.{Addr}
use Rattle.eleos_base.specs.declared.memory.Live.{Live}
use Rattle.eleos_base.specs.Plain.{has_sub, is_apart, shared_at, starts_at, with_block}
use Rattle.eleos_core.specs.Order.{AreInOrder}
use Rattle.eleos_core.proofs.InOrder.{in_order-filter}
use Rattle.eleos_core.proofs.Tests.{by_test, first_of, second_of}

-- a test that cannot pass fails
pub false_of : (b : Bool) → (b ≡ true → ⊥) → b ≡ false
false_of true h = absurd (h refl)
false_of false h = refl

-- a block that is found passes the test, and starts no lower than the blocks may
pub found_passes : (p : Live → Bool) (bs : List Live) (b : Live) → find p bs ≡ Some b → p b ≡ true
found_passes p [] b = λ e. cc
found_passes p (o ∷ bs) b = by_test (p o) (λ v. p o ≡ v → (if v then Some o else find p bs) ≡ Some b → p b ≡ true)
    (λ _ is e. let i : o ≡ b = cc in subst (λ z. p z ≡ true) i is) (λ _ is e. found_passes p bs b e) refl

found_from : (p : Live → Bool) (bs : List Live) (b : Live) (low subs : ℕ) → AreInOrder low subs bs → find p bs ≡ Some b → low ≤ b.start
found_from p [] b low subs order = λ e. cc
found_from p (o ∷ bs) b low subs order = by_test (p o) (λ v. (if v then Some o else find p bs) ≡ Some b → low ≤ b.start)
    (λ _ e. let i : o ≡ b = cc in subst (λ (z : Live). low ≤ z.start) i order.0)
    (λ _ e. let rest = found_from p bs b (o.start + o.len) subs order.2 e in let from = order.0 in omega arith)

-- no block has a sub-page below them
below_none : (bs : List Live) (low subs s : ℕ) → AreInOrder low subs bs → s < low → find (has_sub s) bs ≡ None
below_none [] low subs s order below = refl
below_none (b ∷ bs) low subs s order below =
    let from = order.0 in
    let no_is : has_sub s b ≡ false = grind (arith, nat_tests) in
    ap (λ v. if v then Some b else find (has_sub s) bs) no_is ∙ below_none bs (b.start + b.len) subs s order.2 (omega arith)

-- with one more block, in a free run
find_new : (new : Live) (bs : List Live) (s : ℕ) → list_all (is_apart new.start new.len) bs ≡ true → has_sub s new ≡ true → find (has_sub s) (with_block new bs) ≡ Some new
find_new new [] s free is = ap (λ v. if v then Some new else None) is
find_new new (b ∷ bs) s free is =
    let apart : is_apart new.start new.len b ≡ true = first_of (is_apart new.start new.len b) (list_all (is_apart new.start new.len) bs) free in
    let no_is : has_sub s b ≡ false = grind (arith, nat_tests) in
    by_test (nat_lt new.start b.start) (λ v. find (has_sub s) (if v then new ∷ b ∷ bs else b ∷ with_block new bs) ≡ Some new)
    (λ _. ap (λ v. if v then Some new else find (has_sub s) (b ∷ bs)) is)
    (λ _. ap (λ v. if v then Some b else find (has_sub s) (with_block new bs)) no_is ∙ find_new new bs s (second_of (is_apart new.start new.len b) (list_all (is_apart new.start new.len) bs) free) is)

find_old : (new : Live) (bs : List Live) (s : ℕ) → has_sub s new ≡ false → find (has_sub s) (with_block new bs) ≡ find (has_sub s) bs
find_old new [] s no_is = ap (λ v. if v then Some new else None) no_is
find_old new (b ∷ bs) s no_is =
    by_test (nat_lt new.start b.start) (λ v. find (has_sub s) (if v then new ∷ b ∷ bs else b ∷ with_block new bs) ≡ find (has_sub s) (b ∷ bs))
    (λ _. ap (λ v. if v then Some new else find (has_sub s) (b ∷ bs)) no_is)
    (λ _. ap (λ r. if has_sub s b then Some b else r) (find_old new bs s no_is))

-- in the new block where it has the sub-page, else where it lay
pub find_allotted : (new : Live) (bs : List Live) (s : ℕ) → list_all (is_apart new.start new.len) bs ≡ true
    → (if has_sub s new then Some new else find (has_sub s) bs) ≡ find (has_sub s) (with_block new bs)
find_allotted new bs s free = by_test (has_sub s new) (λ v. has_sub s new ≡ v → (if v then Some new else find (has_sub s) bs) ≡ find (has_sub s) (with_block new bs))
    (λ _ is. sym (find_new new bs s free is)) (λ _ no_is. sym (find_old new bs s no_is)) refl

-- around the block that starts at an address
module _ (size enclave : ℕ) (some : 0 < size) (at : Addr) where
  abbrev starts : Live → Bool
  starts = starts_at size enclave at

  abbrev share : Live → Live
  share = shared_at size enclave at

  -- all blocks but those that start there
  abbrev pub others : List Live → List Live
  others bs = filter (λ block. not (starts block)) bs

  -- the block's place is the offset's
  pub start_is : (b : Live) → starts b ≡ true → at.at / size ≡ b.start
  start_is b is = div-eq_of_eq-mul_right {n = size} {m = at.at} {k = b.start} some (eqb-true at.at (size * b.start) (second_of (at.enclave == enclave) (at.at == size * b.start) is))

  one_start : (b c : Live) → starts b ≡ true → starts c ≡ true → b.start ≡ c.start
  one_start b c is is' = sym (start_is b is) ∙ start_is c is'

  -- none of those above starts there
  all_kept : (b : Live) (bs : List Live) (low subs : ℕ) → starts b ≡ true → b.start < low → AreInOrder low subs bs → others bs ≡ bs
  all_kept b [] low subs is above order = refl
  all_kept b (c ∷ cs) low subs is above order =
      let from = order.0 in let some_len = order.1 in
      let no_is : starts c ≡ false = false_of (starts c) (λ is'. let same = one_start b c is is' in let z : ⊥ = omega arith in z) in
      ap (λ v. if not v then c ∷ others cs else others cs) no_is ∙ ap (λ r. c ∷ r) (all_kept b cs (c.start + c.len) subs is (omega arith) order.2)

  freed_none : (bs : List Live) (b : Live) (low subs s : ℕ) → AreInOrder low subs bs → find starts bs ≡ Some b → has_sub s b ≡ true → find (has_sub s) (others bs) ≡ None
  freed_none [] b low subs s order e has = refl
  freed_none (o ∷ bs) b low subs s order e₀ has = by_test (starts o) (λ v. (if v then Some o else find starts bs) ≡ Some b → find (has_sub s) (if not v then o ∷ others bs else others bs) ≡ None)
      (λ _ e. let same : o ≡ b = cc in
      let within : has_sub s o ≡ true = ap (has_sub s) same ∙ has in
      below_none (others bs) (o.start + o.len) subs s (in_order-filter (λ block. not (starts block)) bs (o.start + o.len) subs order.2) (grind (arith, nat_tests)))
      (λ _ e. let above = found_from starts bs b (o.start + o.len) subs order.2 e in
      let no_is : has_sub s o ≡ false = grind (arith, nat_tests) in
      ap (λ v. if v then Some o else find (has_sub s) (others bs)) no_is ∙ freed_none bs b (o.start + o.len) subs s order.2 e has) e₀

  freed_same : (bs : List Live) (b : Live) (low subs s : ℕ) → AreInOrder low subs bs → find starts bs ≡ Some b → has_sub s b ≡ false → find (has_sub s) (others bs) ≡ find (has_sub s) bs
  freed_same [] b low subs s order e no_is = refl
  freed_same (o ∷ bs) b low subs s order e₀ no_is = by_test (starts o) (λ v. starts o ≡ v → (if v then Some o else find starts bs) ≡ Some b → find (has_sub s) (if not v then o ∷ others bs else others bs) ≡ (if has_sub s o then Some o else find (has_sub s) bs))
      (λ _ is e. let same : o ≡ b = cc in let some_len = order.1 in
      ap (find (has_sub s)) (all_kept o bs (o.start + o.len) subs is (omega arith) order.2) ∙ sym (ap (λ v. if v then Some o else find (has_sub s) bs) (ap (has_sub s) same ∙ no_is)))
      (λ _ is e. ap (λ r. if has_sub s o then Some o else r) (freed_same bs b (o.start + o.len) subs s order.2 e no_is)) refl e₀

  -- without the block
  pub find_freed : (bs : List Live) (b : Live) (low subs s : ℕ) → AreInOrder low subs bs → find starts bs ≡ Some b → (if has_sub s b then None else find (has_sub s) bs) ≡ find (has_sub s) (others bs)
  find_freed bs b low subs s order e = by_test (has_sub s b) (λ v. has_sub s b ≡ v → (if v then None else find (has_sub s) bs) ≡ find (has_sub s) (others bs))
      (λ _ has. sym (freed_none bs b low subs s order e has)) (λ _ no_is. sym (freed_same bs b low subs s order e no_is)) refl

  find_shared_at : (bs : List Live) (s : ℕ) → find (has_sub s) (map share bs) ≡ option_map share (find (has_sub s) bs)
  find_shared_at [] s = refl
  find_shared_at (b ∷ bs) s = by_test (has_sub s b) (λ v. (if v then Some (share b) else find (has_sub s) (map share bs)) ≡ option_map share (if v then Some b else find (has_sub s) bs)) (λ _. refl) (λ _. find_shared_at bs s)

  -- whoever has a sub-page of the block that starts there is that block
  found_there : (bs : List Live) (b : Live) (low subs s : ℕ) → AreInOrder low subs bs → find starts bs ≡ Some b → has_sub s b ≡ true → find (has_sub s) bs ≡ Some b
  found_there [] b low subs s order e has = cc
  found_there (o ∷ bs) b low subs s order e₀ has = by_test (starts o) (λ v. (if v then Some o else find starts bs) ≡ Some b → (if has_sub s o then Some o else find (has_sub s) bs) ≡ Some b)
      (λ _ e. let same : o ≡ b = cc in ap (λ v. if v then Some o else find (has_sub s) bs) (ap (has_sub s) same ∙ has) ∙ ap Some same)
      (λ _ e. let above = found_from starts bs b (o.start + o.len) subs order.2 e in
      let no_is : has_sub s o ≡ false = grind (arith, nat_tests) in
      ap (λ v. if v then Some o else find (has_sub s) bs) no_is ∙ found_there bs b (o.start + o.len) subs s order.2 e has) e₀

  one_found : (p : Live → Bool) (bs : List Live) (b c : Live) (low subs : ℕ) → AreInOrder low subs bs → find starts bs ≡ Some b → find p bs ≡ Some c → starts c ≡ true → c ≡ b
  one_found p [] b c low subs order e e' is = cc
  one_found p (o ∷ bs) b c low subs order e₀ e₀' is = by_test (p o) (λ v. (if v then Some o else find p bs) ≡ Some c → c ≡ b)
      (λ _ e'. let same : o ≡ c = cc in
      let there : starts o ≡ true = ap starts same ∙ is in
      let e : Some o ≡ Some b = sym (ap (λ v. if v then Some o else find starts bs) there) ∙ e₀ in cc)
      (λ _ e'. by_test (starts o) (λ v. starts o ≡ v → (if v then Some o else find starts bs) ≡ Some b → c ≡ b)
      (λ _ there e. let above = found_from p bs c (o.start + o.len) subs order.2 e' in let some_len = order.1 in let same = one_start o c there is in let z : ⊥ = omega arith in absurd z)
      (λ _ there e. one_found p bs b c (o.start + o.len) subs order.2 e e' is) refl e₀) e₀'

  -- the block as a shared one
  abbrev pub now_shared : Live → Live
  now_shared block = record block { is_shared = true }

  or_true : (v : Bool) → v || true ≡ true
  or_true true = refl
  or_true false = refl

  or_false : (v : Bool) → v || false ≡ v
  or_false true = refl
  or_false false = refl

  share_there : (b : Live) → starts b ≡ true → share b ≡ now_shared b
  share_there b is i = record b { is_shared = (ap (λ v. b.is_shared || v) is ∙ or_true b.is_shared) i }

  share_else : (b : Live) → starts b ≡ false → share b ≡ b
  share_else b is i = record b { is_shared = (ap (λ v. b.is_shared || v) is ∙ or_false b.is_shared) i }

  -- with the block shared
  pub find_shared : (bs : List Live) (b : Live) (low subs s : ℕ) → AreInOrder low subs bs → find starts bs ≡ Some b
      → (if has_sub s b then option_map now_shared (find (has_sub s) bs) else find (has_sub s) bs) ≡ find (has_sub s) (map share bs)
  find_shared bs b low subs s order e = by_test (has_sub s b) (λ v. has_sub s b ≡ v → (if v then option_map now_shared (find (has_sub s) bs) else find (has_sub s) bs) ≡ find (has_sub s) (map share bs))
      (λ _ has. let here = found_there bs b low subs s order e has in
      ap (option_map now_shared) here ∙ (ap Some (sym (share_there b (found_passes starts bs b e))) ∙ sym (find_shared_at bs s ∙ ap (option_map share) here)))
      (λ _ no_is. else_same (find (has_sub s) bs) refl no_is ∙ sym (find_shared_at bs s)) refl
    where
      else_same : (o : Option Live) → find (has_sub s) bs ≡ o → has_sub s b ≡ false → o ≡ option_map share o
      else_same None is no_is = refl
      else_same (Some c) is no_is = ap Some (sym (share_else c (false_of (starts c) (λ there.
          let same : c ≡ b = one_found (has_sub s) bs b c low subs order e is there in
          let has : has_sub s c ≡ true = found_passes (has_sub s) bs c is in
          let z : true ≡ false = sym has ∙ (ap (has_sub s) same ∙ no_is) in cc))))
