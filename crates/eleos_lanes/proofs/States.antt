-- States of 16 bytes that are changed, part after part.
use Rattle.std.proofs.Common.{◌≡◌, ℕ, ◌+◌, ◌-◌, ◌*◌, ◌/◌, ◌%◌, ◌≤◌, List, ◌++◌, length, take, drop, refl, sym, ap, ◌∙◌, arith, inl, inr, length-append, length-take, length-drop}
use Rattle.std.proofs.lemmas.Bool.{cases_lt}
use Rattle.std.proofs.lemmas.List.{drop-drop, drop-take, take-take, drop_at}
use Rattle.std.proofs.lemmas.Slice.{drop-put_mid, take-put_mid_below}
use borrow.Rule.Slice.PartMut.{put_mid}
use Rattle.eleos_lanes.proofs.Fronts.{block_before}

-- the states before a place are changed by f, and from there on all is as it was
pub record AreMixed (f : List ℕ → List ℕ) (old now : List ℕ) (at : ℕ) : Type 0 where
  pub size : length now ≡ length old
  pub within : at ≤ length old
  pub whole : at % 16 ≡ 0
  pub done : (b : ℕ) → 16 * b + 16 ≤ at → take 16 (drop (16 * b) now) ≡ f (take 16 (drop (16 * b) old))
  pub rest : drop at now ≡ drop at old

-- before the first part no state is changed
pub none_mixed : (f : List ℕ → List ℕ) (old : List ℕ) → AreMixed f old old 0
none_mixed f old = record { size = refl; within = omega arith; whole = refl; done = λ b none. absurd (omega arith); rest = refl }

-- a row before what was written
row_before : (xs part : List ℕ) (at k b : ℕ) → 16 * b + 16 ≤ at → at ≤ length xs
    → take 16 (drop (16 * b) (put_mid at k xs part)) ≡ take 16 (drop (16 * b) xs)
row_before xs part at k b before within =
    sym (drop-take (16 * b) 16 (put_mid at k xs part))
    ∙ ap (drop (16 * b)) (take-put_mid_below at k xs part (16 * b + 16) before within)
    ∙ drop-take (16 * b) 16 xs

-- a row of what was written
row_inside : (xs part : List ℕ) (at k j : ℕ) → at ≤ length xs → 16 * j + 16 ≤ length part
    → take 16 (drop (at + 16 * j) (put_mid at k xs part)) ≡ take 16 (drop (16 * j) part)
row_inside xs part at k j within inside =
    let behind = part ++ drop k (drop at xs) in
    let front : drop at (take at xs ++ behind) ≡ behind = drop_at (take at xs) behind at (omega (arith, length-take at xs)) in
    ap (take 16) (sym (drop-drop (16 * j) at (put_mid at k xs part)) ∙ ap (drop (16 * j)) front)
    ∙ block_before j part (drop k (drop at xs)) inside

-- the next k bytes are put, in which each state is changed: so far all states are changed
pub more_mixed : (f : List ℕ → List ℕ) (old now part : List ℕ) (at k : ℕ) → at + k ≤ length now → k % 16 ≡ 0 → length part ≡ k
    → ((b : ℕ) → 16 * b + 16 ≤ k → take 16 (drop (16 * b) part) ≡ f (take 16 (drop (16 * b) (take k (drop at now)))))
    → AreMixed f old now at → AreMixed f old (put_mid at k now part) (at + k)
more_mixed f old now part at k within whole long are before =
    let start : at ≤ length now = omega arith in
    record {
      size =
          omega (
            arith,
            before.size,
            long,
            length-append (take at now) (part ++ drop k (drop at now)),
            length-append part (drop k (drop at now)),
            length-take at now,
            length-drop k (drop at now),
            length-drop at now,
          );
      within = omega (arith, before.size);
      whole = omega (arith, before.whole, whole);
      done = λ b inside. elim (cases_lt (16 * b) at) [
        | inl less ↦ row_before now part at k b (omega (arith, before.whole)) start ∙ before.done b (omega (arith, before.whole))
        | inr more ↦
            let j = b - at / 16 in
            let place : at + 16 * (b - at / 16) ≡ 16 * b = omega (arith, before.whole) in
            let fits : 16 * (b - at / 16) + 16 ≤ k = omega (arith, before.whole) in
            let moved : drop (16 * j) (drop at now) ≡ drop (16 * b) old =
            ap (drop (16 * j)) before.rest ∙ drop-drop (16 * j) at old ∙ ap (λ n. drop n old) place in
            let split : 16 * j + (k - 16 * j) ≡ k = omega arith in
            let cut : drop (16 * j) (take (16 * j + (k - 16 * j)) (drop at now)) ≡ take (k - 16 * j) (drop (16 * j) (drop at now)) =
            drop-take (16 * j) (k - 16 * j) (drop at now) in
            let own : take 16 (drop (16 * j) (take k (drop at now))) ≡ take 16 (drop (16 * b) old) =
            ap (take 16) (rw split at cut) ∙ take-take 16 (k - 16 * j) (drop (16 * j) (drop at now)) (omega arith) ∙ ap (take 16) moved in
            ap (λ n. take 16 (drop n (put_mid at k now part))) (sym place)
            ∙ row_inside now part at k j start (omega arith) ∙ are j fits ∙ ap f own
      ];
      rest =
          drop-put_mid at k now part (at + k) (omega arith) start long ∙ sym (drop-drop k at now) ∙ ap (drop k) before.rest
          ∙ drop-drop k at old;
    }
