-- The texts of an enclave have in a caller's private blocks the bytes that its own calls made there.
use Rattle.std.proofs.Common.{◌≡◌, ◌≢◌, ◌⊎◌, inl, inr, ⊎_elim, ℕ, ◌+◌, ◌-◌, ◌*◌, ◌/◌, ◌%◌, ◌<◌, ◌≤◌, ◌==◌, ◌&&◌, ◌||◌, List, [], ◌∷◌, ◌++◌, drop, length, take, Bool, true, false, Option, Some, None, nat_le, slice_index_or, if◌then◌else◌, refl, sym, ◌∙◌, ap, subst, arith, length-take, unwrap_or}
use Rattle.std.specs.List.{find, list_all, splice}
use Rattle.std.proofs.lemmas.Bool.{eq-eqb, eqb-true, ne_eqb}
use Rattle.std.proofs.lemmas.Bool.Decides.{nat_tests}
use Rattle.std.proofs.lemmas.List.{get_or-append_right, get_or-drop, get_or-replicate, get_or-take, get_or_append_left}
use Rattle.eleos_base.specs.declared.memory.Addr.{Addr}
use Rattle.eleos_base.specs.declared.memory.Live.{Live}
use Rattle.eleos_base.specs.declared.memory.Op.{Op as Calls}
use Rattle.eleos_base.specs.declared.memory.Op.TheVariants.{Alloc, Free, Share, Write}
use Rattle.eleos_base.specs.declared.memory.Reply.{Reply}
use Rattle.eleos_base.specs.declared.memory.Reply.TheVariants.{BadSize, Done, NotYours}
use Rattle.eleos_base.specs.Own.{IsAmong, OwnBlock, Private, after_alloc, after_loss, after_write, block_of}
use Rattle.eleos_base.specs.Plain.{alloc_answer, alloc_reply, block_reply, got, has_sub, is_accepted, is_apart, is_good_size, is_in, is_in_run, lowest_run, starts_at, subs_for, text_after, use_refusal, zeros}
use Rattle.eleos_core.specs.Order.{AreInOrder}
use Rattle.eleos_core.proofs.FreeRuns.{AreInOrder-le}
use Rattle.eleos_core.proofs.Lives.{false_of, found_passes}
use Rattle.eleos_core.proofs.Ordered.{alloc_accepted}
use Rattle.eleos_core.proofs.OwnBlocks.{AllHeld, IsHeld, IsIn, among_without, found_sub, loss_cases, own_block, start_at, true_not_false}
use Rattle.eleos_core.proofs.Tests.{by_test, first_of, second_of}

-- a byte of a text with other bytes from a place on
byte_of-splice : (text new : List ℕ) (from i : ℕ) → from + length new ≤ length text
    → slice_index_or (splice text from (from + length new) new) i 0 ≡ (if is_in_run from (length new) i then slice_index_or new (i - from) 0 else slice_index_or text i 0)
byte_of-splice text new from i fits =
    let front : length (take from text) ≡ from = simp length-take (omega arith) in
    by_test (is_in_run from (length new) i) (λ v. is_in_run from (length new) i ≡ v → slice_index_or (splice text from (from + length new) new) i 0 ≡ (if v then slice_index_or new (i - from) 0 else slice_index_or text i 0))
    (λ _ is. let low : from ≤ i = grind (arith, nat_tests) in let high : i < from + length new = grind (arith, nat_tests) in
    get_or-append_right (take from text) (new ++ drop (from + length new) text) from i 0 front low ∙ get_or_append_left new (drop (from + length new) text) 0 (i - from) (omega arith))
    (λ _ is. by_test (is_in_run 0 from i) (λ v. is_in_run 0 from i ≡ v → slice_index_or (splice text from (from + length new) new) i 0 ≡ slice_index_or text i 0)
    (λ _ below. let lt : i < from = grind (arith, nat_tests) in
    get_or_append_left (take from text) (new ++ drop (from + length new) text) 0 i (omega (arith, front, lt)) ∙ get_or-take from text i 0 lt)
    (λ _ above. let past : from + length new ≤ i = grind (arith, nat_tests) in
    get_or-append_right (take from text) (new ++ drop (from + length new) text) from i 0 front (omega arith)
    ∙ (get_or-append_right new (drop (from + length new) text) (length new) (i - from) 0 refl (omega arith)
    ∙ (get_or-drop (from + length new) text (i - from - length new) 0 ∙ ap (λ j. slice_index_or text j 0) (let at : from + length new + (i - from - length new) ≡ i = omega arith in at)))) refl) refl

-- a byte of zeros
pub byte_of-zeros : (i : ℕ) → i < 1024 → slice_index_or (zeros 1024) i 0 ≡ 0
unfolding zeros
byte_of-zeros i inside = get_or-replicate 1024 i 0 0 inside

-- a block of a list in order ends within the sub-pages
pub ends_within : (block : Live) (bs : List Live) (low subs : ℕ) → AreInOrder low subs bs → IsIn block bs → block.start + block.len ≤ subs
ends_within block [] low subs order is = absurd is
ends_within block (b ∷ bs) low subs order is = ⊎_elim
    (λ (same : block ≡ b). let end : b.start + b.len ≤ subs = AreInOrder-le (b.start + b.len) subs bs order.2 in let s : block.start ≡ b.start = ap (λ (z : Live). z.start) same in let l : block.len ≡ b.len = ap (λ (z : Live). z.len) same in omega arith)
    (λ (rest : IsIn block bs). ends_within block bs (b.start + b.len) subs order.2 rest) is

-- what is found is in the list
found_in : (p : Live → Bool) (bs : List Live) (b : Live) → find p bs ≡ Some b → IsIn b bs
found_in p [] b = λ is. cc
found_in p (o ∷ bs) b = by_test (p o) (λ v. (if v then Some o else find p bs) ≡ Some b → (b ≡ o) ⊎ IsIn b bs)
    (λ _ is. inl (ap (λ r. unwrap_or r b) (sym is)))
    (λ _ is. inr (found_in p bs b is))

-- what holds of all blocks of a list holds of each
pub all_in : (p : Live → Bool) (bs : List Live) (b : Live) → list_all p bs ≡ true → IsIn b bs → p b ≡ true
all_in p [] b all is = absurd is
all_in p (o ∷ bs) b all is = ⊎_elim (λ (same : b ≡ o). ap p same ∙ first_of (p o) (list_all p bs) all) (λ (rest : IsIn b bs). all_in p bs b (second_of (p o) (list_all p bs) all) rest) is

-- the texts of sub-pages have these bytes in a private block
abbrev pub Agrees : (ℕ → List ℕ) → (ℕ → ℕ) → OwnBlock → Type 0
Agrees texts byte block = (s i : ℕ) → i < 1024 → block.start ≤ 1024 * s + i → 1024 * s + i < block.start + block.size → slice_index_or (texts s) i 0 ≡ byte (1024 * s + i)

-- and in all of them
abbrev pub Agree : (ℕ → List ℕ) → Private → Type 0
Agree texts p = (block : OwnBlock) → IsAmong block p.blocks → Agrees texts p.byte block

-- a sub-page of a run of them, as bytes
in_bytes : (start len s i : ℕ) → i < 1024 → is_in_run (1024 * start / 1024) len s ≡ true → is_in_run (1024 * start) (1024 * len) (1024 * s + i) ≡ true
in_bytes start len s i inside is =
    let place : 1024 * start / 1024 ≡ start = omega arith in
    let there : is_in_run start len s ≡ true = ap (λ z. is_in_run z len s) (sym place) ∙ is in
    let low : start ≤ s = grind (arith, nat_tests) in let high : s < start + len = grind (arith, nat_tests) in
    let from : 1024 * start ≤ 1024 * s + i = omega arith in let to : 1024 * s + i < 1024 * start + 1024 * len = omega arith in grind (arith, nat_tests)

out_bytes : (start len s i : ℕ) → i < 1024 → is_in_run (1024 * start / 1024) len s ≡ false → is_in_run (1024 * start) (1024 * len) (1024 * s + i) ≡ false
out_bytes start len s i inside is = false_of (is_in_run (1024 * start) (1024 * len) (1024 * s + i)) (λ wrong.
    let place : 1024 * start / 1024 ≡ start = omega arith in
    let low : 1024 * start ≤ 1024 * s + i = grind (arith, nat_tests) in let high : 1024 * s + i < 1024 * start + 1024 * len = grind (arith, nat_tests) in
    let from : start ≤ s = omega arith in let to : s < start + len = omega arith in
    let there : is_in_run start len s ≡ true = grind (arith, nat_tests) in
    true_not_false (sym there ∙ (ap (λ z. is_in_run z len s) (sym place) ∙ is)))

outside : (start len a : ℕ) → is_in_run (1024 * start) (1024 * len) a ≡ false → 1024 * start ≤ a → a < 1024 * start + 1024 * len → ⊥
outside start len a out low high = let there : is_in_run (1024 * start) (1024 * len) a ≡ true = grind (arith, nat_tests) in true_not_false (sym there ∙ out)

-- bytes within one sub-page, by their place in it
run_is : (b s off n i : ℕ) → b ≡ 1024 * s + off → is_in_run b n (1024 * s + i) ≡ is_in_run off n i
run_is b s off n i start = by_test (is_in_run off n i) (λ v. is_in_run off n i ≡ v → is_in_run b n (1024 * s + i) ≡ v)
    (λ _ is. let low : off ≤ i = grind (arith, nat_tests) in let high : i < off + n = grind (arith, nat_tests) in
    let from : b ≤ 1024 * s + i = omega arith in let to : 1024 * s + i < b + n = omega arith in grind (arith, nat_tests))
    (λ _ is. false_of (is_in_run b n (1024 * s + i)) (λ wrong.
    let low : b ≤ 1024 * s + i = grind (arith, nat_tests) in let high : 1024 * s + i < b + n = grind (arith, nat_tests) in
    let from : off ≤ i = omega arith in let to : i < off + n = omega arith in
    let there : is_in_run off n i ≡ true = grind (arith, nat_tests) in true_not_false (sym there ∙ is))) refl

out_of_sub : (b s n i : ℕ) → i < 1024 → b % 1024 + n ≤ 1024 → b / 1024 == s ≡ false → is_in_run b n (1024 * s + i) ≡ false
out_of_sub b s n i inside fits other = false_of (is_in_run b n (1024 * s + i)) (λ wrong.
    let low : b ≤ 1024 * s + i = grind (arith, nat_tests) in let high : 1024 * s + i < b + n = grind (arith, nat_tests) in
    let place : b / 1024 ≡ s = omega arith in
    true_not_false (sym (eq-eqb (b / 1024) s place) ∙ other))

-- a run that is apart of a block has none of its sub-pages
meets : (start len s : ℕ) (b : Live) → is_apart start len b ≡ true → has_sub s b ≡ true → is_in_run start len s ≡ true → ⊥
meets start len s b free has run = grind (arith, nat_tests)

not_none : (r : Reply) → Some r ≡ None → ⊥
not_none r wrong = cc

module _ (home who subs : ℕ) (bs : List Live) (order : AreInOrder 0 subs bs) (t : ℕ → List ℕ) where
  -- the live block has the sub-page
  pub has_place : (live_block : Live) (block : OwnBlock) (s i : ℕ) → own_block home live_block ≡ block → i < 1024 → block.start ≤ 1024 * s + i → 1024 * s + i < block.start + block.size → has_sub s live_block ≡ true
  has_place live_block block s i same inside from to =
      let start : 1024 * live_block.start ≡ block.start = ap (λ (z : OwnBlock). z.start) same in
      let size : 1024 * live_block.len ≡ block.size = ap (λ (z : OwnBlock). z.size) same in
      let low : live_block.start ≤ s = omega arith in
      let high : s < live_block.start + live_block.len = omega arith in
      grind (arith, nat_tests)

  -- the texts after a call
  abbrev after : Calls → Reply → ℕ → List ℕ
  after op reply s = text_after 1024 home bs op reply s (t s)

  -- two live blocks with one sub-page are one
  one_block : (a b : Live) (s : ℕ) → IsIn a bs → IsIn b bs → has_sub s a ≡ true → has_sub s b ≡ true → a ≡ b
  one_block a b s a_in b_in a_has b_has =
      let both : Some a ≡ Some b = sym (found_sub a bs 0 subs s order a_has a_in) ∙ found_sub b bs 0 subs s order b_has b_in in
      ap (λ o. unwrap_or o a) both

  module _ (p : Private) (held : AllHeld home who bs p.blocks) (agree : Agree t p) where
    -- an own alloc
    pub own_alloc_bytes : (n : ℕ) (reply : Reply) → reply ≡ alloc_reply 1024 home bs subs n → Agree (after (Alloc n) reply) (after_alloc 1024 n reply p)
    own_alloc_bytes n reply is = subst (λ r. Agree (after (Alloc n) r) (after_alloc 1024 n r p)) (sym is)
        (by_test (is_good_size n) (λ v. let r = if v then alloc_answer 1024 home (lowest_run bs subs (subs_for 1024 n)) else BadSize in Agree (after (Alloc n) r) (after_alloc 1024 n r p))
        (λ _. at (lowest_run bs subs (subs_for 1024 n))) (λ _. agree))
      where
        at : (o : Option ℕ) → Agree (after (Alloc n) (alloc_answer 1024 home o)) (after_alloc 1024 n (alloc_answer 1024 home o) p)
        at None = agree
        at (Some start) = λ block among s i inside from to.
            let len : ℕ = subs_for 1024 n in
            let a : ℕ = 1024 * s + i in
            let was : ℕ = p.byte a in
            by_test (is_in_run (1024 * start / 1024) len s)
            (λ v. is_in_run (1024 * start / 1024) len s ≡ v → slice_index_or (if v then zeros 1024 else t s) i 0 ≡ (if is_in_run (1024 * start) (1024 * len) a then 0 else was))
            (λ _ is. let here : is_in_run (1024 * start) (1024 * len) a ≡ true = in_bytes start len s i inside is in
            byte_of-zeros i inside ∙ sym (ap (λ v. if v then 0 else was) here))
            (λ _ is. let out : is_in_run (1024 * start) (1024 * len) a ≡ false = out_bytes start len s i inside is in
            ⊎_elim
            (λ (same : block ≡ block_of 1024 (record { enclave = home; at = 1024 * start }) n).
            let first : block.start ≡ 1024 * start = ap (λ (z : OwnBlock). z.start) same in
            let size : block.size ≡ 1024 * len = ap (λ (z : OwnBlock). z.size) same in
            absurd (outside start len a out (omega arith) (omega arith)))
            (λ (old : IsAmong block p.blocks). agree block old s i inside from to ∙ sym (ap (λ v. if v then 0 else was) out)) among) refl

    -- a block that is freed or shared is no other one
    not_found : (at : Addr) (b : Live) (block : OwnBlock) (here : IsHeld home who bs block) (s i : ℕ) → i < 1024 → block.start ≤ 1024 * s + i → 1024 * s + i < block.start + block.size
        → find (starts_at 1024 home at) bs ≡ Some b → b ≢ here.live_block → has_sub s b ≡ false
    not_found at b block here s i inside from to found other = false_of (has_sub s b) (λ has.
        other (one_block b here.live_block s (found_in (starts_at 1024 home at) bs b found) here.is_in has (has_place here.live_block block s i here.same inside from to)))

    -- an own free
    pub own_free_bytes : (at : Addr) (reply : Reply) → reply ≡ block_reply 1024 home bs who at → Agree (after (Free at) reply) (after_loss at reply p)
    own_free_bytes at reply is = subst (λ r. Agree (after (Free at) r) (after_loss at r p)) (sym is)
        (loss_cases home who (λ r. Agree (after (Free at) r) (after_loss at r p)) bs at who agree (λ owner. agree)
        (λ b found owned block among s i inside from to.
        let left = among_without home who at.at block p.blocks among in
        let here = held block left.1 in
        let kept : has_sub s b ≡ false = not_found at b block here s i inside from to found (λ same.
        left.0 (ap (λ (z : OwnBlock). z.start) (sym here.same) ∙ (ap (λ (z : Live). 1024 * z.start) (sym same) ∙ sym (start_at home at b (found_passes (starts_at 1024 home at) bs b found))))) in
        ap (λ v. slice_index_or (if v then zeros 1024 else t s) i 0) (ap (is_in s) found ∙ kept) ∙ agree block left.1 s i inside from to))

    -- an own share
    pub own_share_bytes : (at : Addr) (reply : Reply) → reply ≡ block_reply 1024 home bs who at → Agree (after (Share at) reply) (after_loss at reply p)
    own_share_bytes at reply is = subst (λ r. Agree (after (Share at) r) (after_loss at r p)) (sym is)
        (loss_cases home who (λ r. Agree (after (Share at) r) (after_loss at r p)) bs at who agree (λ owner. agree)
        (λ b found owned block among. agree block (among_without home who at.at block p.blocks among).1))

    -- an own write that was made
    pub own_write_bytes : (at : Addr) (bytes : List ℕ) → at.at % 1024 + length bytes ≤ 1024 → ((s : ℕ) → length (t s) ≡ 1024) → Agree (after (Write at bytes) Done) (after_write at bytes Done p)
    own_write_bytes at bytes fits sizes block among s i inside from to =
        let a : ℕ = 1024 * s + i in
        let n : ℕ = length bytes in
        let off : ℕ = at.at % 1024 in
        let was : ℕ = p.byte a in
        by_test (at.at / 1024 == s)
        (λ v. at.at / 1024 == s ≡ v → slice_index_or (if v then splice (t s) off (off + n) bytes else t s) i 0 ≡ (if is_in_run at.at n a then slice_index_or bytes (a - at.at) 0 else was))
        (λ _ is. let place : at.at / 1024 ≡ s = eqb-true (at.at / 1024) s is in
        let size = sizes s in
        let start : at.at ≡ 1024 * s + off = omega arith in
        let run : is_in_run at.at n a ≡ is_in_run off n i = run_is at.at s off n i start in
        let index : a - at.at ≡ i - off = omega arith in
        byte_of-splice (t s) bytes off i (omega arith)
        ∙ ((λ z. if is_in_run off n i then slice_index_or bytes (sym index z) 0 else agree block among s i inside from to z)
        ∙ ap (λ v. if v then slice_index_or bytes (a - at.at) 0 else was) (sym run)))
        (λ _ is. let out : is_in_run at.at n a ≡ false = out_of_sub at.at s n i inside fits is in
        agree block among s i inside from to ∙ ap (λ v. if v then slice_index_or bytes (a - at.at) 0 else was) (sym out)) refl

    -- another's alloc took a free run
    pub other_alloc_bytes : (n : ℕ) (reply : Reply) → reply ≡ alloc_reply 1024 home bs subs n → Agree (after (Alloc n) reply) p
    other_alloc_bytes n reply is block among s i inside from to =
        let here = held block among in
        let has : has_sub s here.live_block ≡ true = has_place here.live_block block s i here.same inside from to in
        let apart : is_accepted reply && is_in_run (got reply / 1024) (subs_for 1024 n) s ≡ false = false_of (is_accepted reply && is_in_run (got reply / 1024) (subs_for 1024 n) s) (λ covered.
        let allotted = alloc_accepted 1024 home (omega arith) bs subs n reply is (first_of (is_accepted reply) (is_in_run (got reply / 1024) (subs_for 1024 n) s) covered) in
        let free : is_apart (got reply / 1024) (subs_for 1024 n) here.live_block ≡ true
        = all_in (is_apart (got reply / 1024) (subs_for 1024 n)) bs here.live_block (second_of (nat_le (got reply / 1024 + subs_for 1024 n) subs) (list_all (is_apart (got reply / 1024) (subs_for 1024 n)) bs) allotted.free) here.is_in in
        meets (got reply / 1024) (subs_for 1024 n) s here.live_block free has (second_of (is_accepted reply) (is_in_run (got reply / 1024) (subs_for 1024 n) s) covered)) in
        ap (λ v. slice_index_or (if v then zeros 1024 else t s) i 0) apart ∙ agree block among s i inside from to

    -- another's free found a block of its own
    pub other_free_bytes : (by : ℕ) (at : Addr) (reply : Reply) → by ≢ who → reply ≡ block_reply 1024 home bs by at → Agree (after (Free at) reply) p
    other_free_bytes by at reply other is = subst (λ r. Agree (after (Free at) r) p) (sym is)
        (loss_cases home who (λ r. Agree (after (Free at) r) p) bs at by agree (λ owner. agree)
        (λ b found owned block among s i inside from to.
        let here = held block among in
        let kept : has_sub s b ≡ false = not_found at b block here s i inside from to found (λ same. other (sym owned ∙ (ap (λ (z : Live). z.owner) same ∙ here.owner))) in
        ap (λ v. slice_index_or (if v then zeros 1024 else t s) i 0) (ap (is_in s) found ∙ kept) ∙ agree block among s i inside from to))

    -- another's write goes elsewhere
    pub other_write_bytes : (by : ℕ) (at : Addr) (bytes : List ℕ) (reply : Reply) → by ≢ who → (is_accepted reply ≡ true → use_refusal by (find (has_sub (at.at / 1024)) bs) ≡ None) → Agree (after (Write at bytes) reply) p
    other_write_bytes by at bytes reply other allowed block among s i inside from to =
        let here = held block among in
        let has : has_sub s here.live_block ≡ true = has_place here.live_block block s i here.same inside from to in
        let else_where : is_accepted reply && (at.at / 1024 == s) ≡ false = false_of (is_accepted reply && (at.at / 1024 == s)) (λ written.
        let place : at.at / 1024 ≡ s = eqb-true (at.at / 1024) s (second_of (is_accepted reply) (at.at / 1024 == s) written) in
        let none : use_refusal by (find (has_sub s) bs) ≡ None = subst (λ (q : ℕ). use_refusal by (find (has_sub q) bs) ≡ None) place (allowed (first_of (is_accepted reply) (at.at / 1024 == s) written)) in
        let refused : use_refusal by (Some here.live_block) ≡ None = ap (use_refusal by) (sym (found_sub here.live_block bs 0 subs s order has here.is_in)) ∙ none in
        let shown : here.live_block.is_shared || here.live_block.owner == by ≡ false = (λ z. here.private z || here.owner z == by) ∙ ne_eqb who by (λ same. other (sym same)) in
        not_none (NotYours here.live_block.owner) (sym (ap (λ v. if v then None else Some (NotYours here.live_block.owner)) shown) ∙ refused)) in
        ap (λ v. slice_index_or (if v then splice (t s) (at.at % 1024) (at.at % 1024 + length bytes) bytes else t s) i 0) else_where ∙ agree block among s i inside from to
