-- Live blocks in order and the free runs between them.
use Rattle.std.proofs.Common.{◌≡◌, ℕ, zero, suc, ◌+◌, ◌-◌, ◌<◌, ◌≤◌, List, [], ◌∷◌, ◌++◌, length, Option, Some, None, Bool, true, false, refl, sym, ◌∙◌, ap, append_assoc, append-nil, cond, nat_le, nat_lt, ◌&&◌, ◌||◌, not, arith, drop, add-one, get_or, drop-cons, unwrap_or}
use Rattle.std.proofs.lemmas.List.{drop_all}
use Rattle.std.specs.List.{list_all, insert, position, position_or_len, prefix_len}
use Rattle.std.proofs.lemmas.List.Folds.{list_all-append}
use Rattle.std.proofs.lemmas.Bool.Decides.{nat_tests}
use Rattle.eleos_base.specs.declared.memory.Live.{Live}
use Rattle.eleos_base.specs.Lists.{first_from}
use Rattle.eleos_base.specs.Plain.{lowest_run, is_free_run, is_apart, with_block}
use Rattle.eleos_core.specs.Order.{AreInOrder}

-- what follows both where a test holds and where it fails
pub by_test : {A : Type 0} (b : Bool) → (b ≡ true → A) → (b ≡ false → A) → A
by_test true holds fails = holds refl
by_test false holds fails = fails refl

pub is_le : (a b : ℕ) → a ≤ b → nat_le a b ≡ true
is_le a b le = grind (arith, nat_tests)

pub not_le : (a b : ℕ) → b < a → nat_le a b ≡ false
not_le a b lt = grind (arith, nat_tests)

-- a is no more than b where the test for it holds
pub le_of : (a b : ℕ) → nat_le a b ≡ true → a ≤ b
le_of a b holds = grind (arith, nat_tests)

-- and more where it fails
pub lt_of : (a b : ℕ) → nat_le a b ≡ false → b < a
lt_of a b fails = grind (arith, nat_tests)

-- the first number that passes
pub first_from-found : (test : ℕ → Bool) (count i s : ℕ) → i ≤ s → s < i + count → test s ≡ true
    → ((t : ℕ) → i ≤ t → t < s → test t ≡ false) → first_from test count i ≡ Some s
unfolding first_from
first_from-found test zero i s from within passes none = absurd (omega arith)
first_from-found test (suc count) i s from within passes none =
    by_test (nat_le s i) (λ holds. let at : i ≡ s = (let le : s ≤ i = le_of s i holds in omega arith) in rw (at, passes))
    (λ fails. let lt : i < s = lt_of s i fails in
    rw (none i (omega arith) lt) (first_from-found test count (i + 1) s (omega arith) (omega arith) passes (λ t above below. none t (omega arith) below)))

-- no number passes
pub first_from-none : (test : ℕ → Bool) (count i : ℕ) → ((t : ℕ) → i ≤ t → t < i + count → test t ≡ false) → first_from test count i ≡ None
unfolding first_from
first_from-none test zero i none = refl
first_from-none test (suc count) i none = rw (none i (omega arith) (omega arith)) (first_from-none test count (i + 1) (λ t above below. none t (omega arith) (omega arith)))

-- blocks in order end within the sub-pages
pub AreInOrder-le : (low subs : ℕ) (blocks : List Live) → AreInOrder low subs blocks → low ≤ subs
AreInOrder-le low subs [] order = order
AreInOrder-le low subs (b ∷ bs) order = let rest : b.start + b.len ≤ subs = AreInOrder-le (b.start + b.len) subs bs order.2 in omega arith

-- and from a lower place on they are in order too
pub AreInOrder-lower : (low low' subs : ℕ) (blocks : List Live) → low' ≤ low → AreInOrder low subs blocks → AreInOrder low' subs blocks
AreInOrder-lower low low' subs [] le order = omega arith
AreInOrder-lower low low' subs (b ∷ bs) le order = (omega arith, order.1, order.2)

-- a run below all blocks meets none
above_apart : (low subs start len : ℕ) (blocks : List Live) → AreInOrder low subs blocks → start + len ≤ low → list_all (is_apart start len) blocks ≡ true
above_apart low subs start len [] order le = refl
above_apart low subs start len (b ∷ bs) order le =
    rw (is_le (start + len) b.start (omega arith), above_apart (b.start + b.len) subs start len bs order.2 (omega arith)) (either (nat_le (b.start + b.len) start)) where
      either : (b : Bool) → ((b || true) && true) ≡ true
      either true = refl
      either false = refl

-- a run above all blocks meets none
below_apart : (end start len : ℕ) (blocks : List Live) → list_all (λ b. nat_le (b.start + b.len) end) blocks ≡ true → end ≤ start → list_all (is_apart start len) blocks ≡ true
below_apart end start len [] ends le = refl
below_apart end start len (b ∷ bs) ends le = by_test (nat_le (b.start + b.len) end)
    (λ holds. let le_b : b.start + b.len ≤ end = le_of _ _ holds in
    rw (is_le (b.start + b.len) start (omega arith), below_apart end start len bs (rw holds at ends) le) refl)
    (λ fails. absurd (let wrong : false ≡ true = rw fails at ends in cc))

-- a run that meets one block is not free
met : (front back : List Live) (b : Live) (subs start len : ℕ) → is_apart start len b ≡ false → is_free_run (front ++ b ∷ back) subs len start ≡ false
met front back b subs start len meets = rw (list_all-append (is_apart start len) front (b ∷ back), meets) (none (nat_le (start + len) subs) (list_all (is_apart start len) front)) where
  none : (a c : Bool) → (a && (c && false)) ≡ false
  none true true = refl
  none true false = refl
  none false c = refl

meets : (start len : ℕ) (b : Live) → start < b.start + b.len → b.start < start + len → is_apart start len b ≡ false
meets start len b below above = rw (not_le (b.start + b.len) start below, not_le (start + len) b.start above)

-- a is less than b where the test for it holds
pub nat_lt_of : (a b : ℕ) → nat_lt a b ≡ true → a < b
nat_lt_of a b low = grind (arith, nat_tests)

-- and no less where it fails
pub nat_ge_of : (a b : ℕ) → nat_lt a b ≡ false → b ≤ a
nat_ge_of a b high = grind (arith, nat_tests)

-- the order begins where the first block does
AreInOrder-raise : (low low' subs : ℕ) (b : Live) (bs : List Live) → AreInOrder low subs (b ∷ bs) → low' ≤ b.start → AreInOrder low' subs (b ∷ bs)
AreInOrder-raise low low' subs b bs order le = (le, order.1, order.2)

-- ends below one place are below a higher one
ends_rise : (blocks : List Live) (end end' : ℕ) → end ≤ end' → list_all (λ b. nat_le (b.start + b.len) end) blocks ≡ true → list_all (λ b. nat_le (b.start + b.len) end') blocks ≡ true
ends_rise [] end end' le ends = refl
ends_rise (b ∷ bs) end end' le ends = by_test (nat_le (b.start + b.len) end)
    (λ holds. let below : b.start + b.len ≤ end = le_of _ _ holds in rw (is_le (b.start + b.len) end' (omega arith), ends_rise bs end end' le (rw holds at ends)) refl)
    (λ fails. absurd (let wrong : false ≡ true = rw fails at ends in cc))

-- the lowest gap that is wide enough, below blocks in order that begin at end
abbrev pub gap : ℕ → ℕ → ℕ → List Live → Option ℕ
gap subs len end [] = cond (nat_le len (subs - end)) (Some end) None
gap subs len end (b ∷ bs) = cond (nat_le len (b.start - end)) (Some end) (gap subs len (b.start + b.len) bs)

-- is the lowest free run
pub gap_is : (front bs : List Live) (end subs len : ℕ) → 1 ≤ len → AreInOrder end subs bs → list_all (λ b. nat_le (b.start + b.len) end) front ≡ true
    → ((s : ℕ) → s < end → is_free_run (front ++ bs) subs len s ≡ false) → gap subs len end bs ≡ lowest_run (front ++ bs) subs len
unfolding lowest_run
gap_is front [] end subs len some order ends none = by_test (nat_le len (subs - end))
    (λ holds. let wide : len ≤ subs - end = le_of _ _ holds in rw (holds, append-nil) (sym (first_from-found (is_free_run front subs len) subs 0 end (omega arith) (omega arith)
    (rw (is_le (end + len) subs (omega arith), below_apart end end len front ends (omega arith)) refl)
    (λ t above below. rw append-nil at (none t below)))))
    (λ fails. let narrow : subs - end < len = lt_of _ _ fails in rw (fails, append-nil) (sym (first_from-none (is_free_run front subs len) subs 0
    (λ t above below. by_test (nat_lt t end) (λ low. rw append-nil at (none t (let lt : t < end = nat_lt_of t end low in lt)))
    (λ high. let le : end ≤ t = nat_ge_of t end high in rw (not_le (t + len) subs (omega arith)) refl)))))
gap_is front (b ∷ bs) end subs len some order ends none = by_test (nat_le len (b.start - end))
    (λ holds. let wide : len ≤ b.start - end = le_of _ _ holds in
    let inside : b.start + b.len ≤ subs = AreInOrder-le (b.start + b.len) subs bs order.2 in
    rw holds (sym (first_from-found (is_free_run (front ++ b ∷ bs) subs len) subs 0 end (omega arith) (omega arith)
    (rw (
      is_le (end + len) subs (omega arith),
      list_all-append (is_apart end len) front (b ∷ bs),
      below_apart end end len front ends (omega arith),
      above_apart (end + len) subs end len (b ∷ bs) (AreInOrder-raise end (end + len) subs b bs order (omega arith)) (omega arith),
    ) refl)
    (λ t above below. none t below))))
    (λ fails. let narrow : b.start - end < len = lt_of _ _ fails in
    let onto : (front ++ b ∷ []) ++ bs ≡ front ++ b ∷ bs = append_assoc front (b ∷ []) bs in
    rw fails (rw onto at (gap_is (front ++ b ∷ []) bs (b.start + b.len) subs len some order.2
    (rw (list_all-append (λ other. nat_le (other.start + other.len) (b.start + b.len)) front (b ∷ []), ends_rise front end (b.start + b.len) (omega arith) ends, is_le (b.start + b.len) (b.start + b.len) (omega arith)) refl)
    (λ s below. rw onto (by_test (nat_lt s end) (λ low. none s (nat_lt_of s end low))
    (λ high. let le : end ≤ s = nat_ge_of s end high in met front bs b subs s len (meets s len b below (omega arith))))))))

-- blocks in order, of which i were passed up to a place
module _ (blocks : List Live) (subs len end i : ℕ) (some : 1 ≤ len) (whole : AreInOrder 0 subs blocks) (order : AreInOrder end subs (drop i blocks)) (same : gap subs len end (drop i blocks) ≡ gap subs len 0 blocks) where
  lowest : gap subs len end (drop i blocks) ≡ lowest_run blocks subs len
  lowest = same ∙ gap_is [] blocks 0 subs len some whole refl (λ s below. absurd (omega arith))

  -- the gap before the next block is wide enough
  pub gap_here : (d : Live) → i < length blocks → len ≤ (get_or blocks i d).start - end → Some end ≡ lowest_run blocks subs len
  gap_here d within wide = (let found = rw (drop-cons blocks i d within, is_le _ _ wide) at lowest in found)

  -- or the one behind the last
  pub gap_last : length blocks ≤ i → len ≤ subs - end → Some end ≡ lowest_run blocks subs len
  gap_last over wide = (let found = rw (drop_all i blocks over, is_le _ _ wide) at lowest in found)

  -- or none
  pub no_gap : length blocks ≤ i → subs - end < len → None ≡ lowest_run blocks subs len
  no_gap over narrow = (let found = rw (drop_all i blocks over, not_le _ _ narrow) at lowest in found)

  -- the next block and those behind it are in order
  pub order_here : (d : Live) → i < length blocks → AreInOrder end subs (get_or blocks i d ∷ drop (i + 1) blocks)
  order_here d within = rw (add-one) (rw (drop-cons blocks i d within) at order)

  -- and the next block ends within the sub-pages
  pub ends_here : (d : Live) → i < length blocks → (get_or blocks i d).start + (get_or blocks i d).len ≤ subs
  ends_here d within = AreInOrder-le _ subs _ (order_here d within).2

  -- the next block is passed
  pub gap_passed : (d : Live) → i < length blocks → (get_or blocks i d).start - end < len → gap subs len ((get_or blocks i d).start + (get_or blocks i d).len) (drop (i + 1) blocks) ≡ gap subs len 0 blocks
  gap_passed d within narrow = rw (add-one) (rw (drop-cons blocks i d within, not_le _ _ narrow) at same)

one_plus : (n : ℕ) → 1 + n ≡ suc n
one_plus n = omega arith

-- a block goes in before the first that starts above
pub insert-is : (block : Live) (blocks : List Live) → insert blocks (position_or_len (λ other. nat_lt block.start other.start) blocks) block ≡ with_block block blocks
insert-is block [] = refl
insert-is block (b ∷ bs) = by_test (nat_lt block.start b.start) (λ above. rw above refl) (λ below. rw (below, one_plus) (ap (λ rest. b ∷ rest) (insert-is block bs)))

pub prefix_len-le : (p : Live → Bool) (blocks : List Live) → prefix_len p blocks ≤ length blocks
prefix_len-le p [] = omega arith
prefix_len-le p (b ∷ bs) = let rest : prefix_len p bs ≤ length bs = prefix_len-le p bs in by_test (p b) (λ holds. rw holds (omega arith)) (λ fails. rw fails (omega arith))

-- the place of the first that passes, or the end
pub unwrap-position : (p : Live → Bool) (blocks : List Live) → unwrap_or (position p blocks) (length blocks) ≡ position_or_len p blocks
unwrap-position p blocks = by_test (nat_lt (position_or_len p blocks) (length blocks)) (λ found. rw found refl)
    (λ none. let over : length blocks ≤ position_or_len p blocks = nat_ge_of _ _ none in
    let most : position_or_len p blocks ≤ length blocks = prefix_len-le (λ x. not (p x)) blocks in
    rw none (omega arith))
