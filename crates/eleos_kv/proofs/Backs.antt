-- The passes that lay in the cells.
use Rattle.std.proofs.Common.{◌≡◌, ℕ, zero, suc, ◌+◌, ◌<◌, ◌≤◌, List, [], ◌∷◌, ◌++◌, length, Option, Some, None, refl, sym, ap, ◌∙◌, subst, arith, length-append}
use Rattle.std.proofs.Math.Logic.{∥∥₁_map}
use mathlib.Core.Option.{some}
use lib.ListN.{get_elem?}
use mathlib.Core.Logic.{dite}
use native.Mathlib.Decide.{ℕ_discrete}
use Rattle.eleos_base.specs.Histories.{opened, no_link}
use Rattle.eleos_core.specs.Parts.{Entries}
use Rattle.eleos_direct.specs.Desks.{IsExchanged, calls_made, calls_of}
use Rattle.eleos_machine.specs.Closing.{AllOfMachine, close_fault, hands_of}
use Rattle.eleos_machine.specs.Machines.{Site, plan_at}
use Rattle.eleos_machine.specs.Passes.{IsLawful, PassState}
use Rattle.eleos_pages.specs.Exchanges.{AreExchanged}
use Rattle.eleos_pages.proofs.Exchanging.{exchanged_later}
use Rattle.eleos_plot.specs.Terms.{core_terms}
use Rattle.eleos_turn.specs.Closings.{AllBegin, AllOwn, AreMade}
use Rattle.eleos_turn.specs.Hands.{IsSound, entries, fresh, links, own, part_of}
use Rattle.eleos_kv.specs.Cells.{CellState, IsCell, ShardPart, shard_part}
use Rattle.eleos_kv.specs.Ends.{AreCells, passes_in}
use Rattle.eleos_kv.specs.Serving.{IsKv, KvHandState, KvState}
use Rattle.eleos_kv.specs.Terms.{kv_terms}
use Rattle.eleos_kv.proofs.Answering.{caller_made}
use Rattle.eleos_kv.proofs.Closing.{AreFree, free_append, no_fault}
use Rattle.eleos_kv.proofs.Kept.{later}
use Rattle.eleos_kv.proofs.Untied.{links_none}

pub snoc_some : (xs : List (Option CellState)) (x : CellState) → passes_in (xs ++ Some x ∷ []) ≡ passes_in xs ++ x.pass ∷ []
snoc_some [] x = refl
snoc_some (None ∷ xs) x = snoc_some xs x
snoc_some (Some y ∷ xs) x = ap (λ (z : List PassState). y.pass ∷ z) (snoc_some xs x)

pub snoc_none : (xs : List (Option CellState)) → passes_in (xs ++ None ∷ []) ≡ passes_in xs
snoc_none [] = refl
snoc_none (None ∷ xs) = snoc_none xs
snoc_none (Some y ∷ xs) = ap (λ (z : List PassState). y.pass ∷ z) (snoc_none xs)

pub fit : (xs : List (Option CellState)) → length (passes_in xs) ≤ length xs
fit [] = omega arith
fit (None ∷ xs) = let r = fit xs in omega (arith, r)
fit (Some y ∷ xs) = let r = fit xs in omega (arith, r)

module _ (gave took : ℕ → List ℕ → Type 0) where
  pub cells_snoc : (xs : List (Option CellState)) (x : CellState) → AreCells gave took xs → IsCell gave took x × IsLawful x.pass → AreCells gave took (xs ++ Some x ∷ [])
  cells_snoc [] x a i = (i, tt)
  cells_snoc (None ∷ xs) x a i = cells_snoc xs x a i
  cells_snoc (Some y ∷ xs) x a i = (a.0, cells_snoc xs x a.1 i)

  pub cells_none : (xs : List (Option CellState)) → AreCells gave took xs → AreCells gave took (xs ++ None ∷ [])
  cells_none [] a = tt
  cells_none (None ∷ xs) a = cells_none xs a
  cells_none (Some y ∷ xs) a = (a.0, cells_none xs a.1)

-- each cell has a shard, whose part is this one's
abbrev pub AllHere : (ℕ → ShardPart) → ℕ → List (Option CellState) → Type 0
AllHere f k [] = Unit {0}
AllHere f k (None ∷ xs) = ⊥
AllHere f k (Some x ∷ xs) = (shard_part x ≡ f k) × AllHere f (k + 1) xs

abbrev At : (ℕ → ShardPart) → ℕ → List (Option CellState) → Type 0
At f k xs = (c : ℕ) → c < length xs → (x : CellState) × (get_elem? xs c ≡ some (Some x)) × (shard_part x ≡ f (k + c))

first_is : (y : Option CellState) (x : CellState) → some y ≡ some (Some x) → y ≡ Some x
first_is y x e = cc

pub all_here : (f : ℕ → ShardPart) (k : ℕ) (xs : List (Option CellState)) → At f k xs → AllHere f k xs
all_here f k [] at = tt
all_here f k (None ∷ xs) at = let h = at 0 (omega arith) in absurd (no_none h.0 (first_is None h.0 h.1))
  where
    no_none : (x : CellState) → None ≡ Some x → ⊥
    no_none x e = cc
all_here f k (Some y ∷ xs) at =
    let h = at 0 (omega arith) in
    let zero_more : k + 0 ≡ k = omega arith in
    let same : y ≡ h.0 = some_is y h.0 (first_is (Some y) h.0 h.1) in (
      ap shard_part same ∙ (h.2 ∙ ap f zero_more),
      all_here f (k + 1) xs (λ c below. let n = at (suc c) (omega (arith, below)) in let e : k + suc c ≡ k + 1 + c = omega arith in (n.0, n.1, n.2 ∙ ap f e)),
    )
  where
    some_is : (a b : CellState) → Some a ≡ Some b → a ≡ b
    some_is a b e = cc

module _ (f : ℕ → ShardPart) (z : Site) where
  pub here_home : (k : ℕ) (xs : List (Option CellState)) → ((c : ℕ) → k ≤ c → c < k + length xs → (f c).home ≡ z) → AllHere f k xs → AllOfMachine z (passes_in xs)
  here_home k [] home a = tt
  here_home k (None ∷ xs) home a = absurd a
  here_home k (Some x ∷ xs) home a = (ap (λ (p : ShardPart). p.home) a.0 ∙ home k (omega arith) (omega arith), here_home (k + 1) xs (λ c from below. home c (omega (arith, from)) (omega (arith, below))) a.1)

  pub here_count : (k : ℕ) (xs : List (Option CellState)) → AllHere f k xs → length (passes_in xs) ≡ length xs
  here_count k [] a = refl
  here_count k (None ∷ xs) a = absurd a
  here_count k (Some x ∷ xs) a = ap (λ (n : ℕ). suc n) (here_count (k + 1) xs a.1)

  module _ (gave took : ℕ → List ℕ → Type 0) where
    pub here_free : (k : ℕ) (xs : List (Option CellState)) → ((c : ℕ) → k ≤ c → c < k + length xs → (f c).number ≡ c + 1) → AllHere f k xs → AreCells gave took xs → AreFree k (passes_in xs)
    here_free k [] number a cells = tt
    here_free k (None ∷ xs) number a cells = absurd a
    here_free k (Some x ∷ xs) number a cells = (
      ap (λ (p : ShardPart). p.number) a.0 ∙ number k (omega arith) (omega arith),
      links_none x.pass cells.0.1 (caller_made x.pass.hand.home x.pass.hand.number cells.0.0.caller) cells.0.0.calls,
      cells.0.0.idle,
      here_free (k + 1) xs (λ c from below. number c (omega (arith, from)) (omega (arith, below))) a.1 cells.1,
    )

    -- what each pass made in the machine's history stands in its shard's part, and was exchanged with the host
    pub record IsBack (h : Entries) (c : ℕ) : Type 0 where
      pub calls : calls_made (own core_terms (c + 1) 0 h) ≡ (f c).facts.calls
      pub only_calls : length (own core_terms (c + 1) 0 h) ≤ length (f c).facts.calls
      pub exchanged : ∥ AreExchanged gave took z h (own core_terms (c + 1) 0 h) ∥₁

    one_back : (h : Entries) (k : ℕ) (x : CellState) → (f k).number ≡ k + 1 → (f k).home ≡ z → shard_part x ≡ f k → IsCell gave took x → own core_terms x.pass.hand.number 0 h ≡ entries core_terms x.pass.hand → (more : Entries) → h ≡ x.pass.hand.seen ++ more → IsBack h k
    one_back h k x number home part cell all more begins =
        let num : x.pass.hand.number ≡ k + 1 = ap (λ (p : ShardPart). p.number) part ∙ number in
        let mine : own core_terms (k + 1) 0 h ≡ entries core_terms x.pass.hand = ap (λ (n : ℕ). own core_terms n 0 h) (sym num) ∙ all in
        let calls = ap (λ (p : ShardPart). p.facts.calls) part in
        let site : x.pass.hand.home ≡ z = ap (λ (p : ShardPart). p.home) part ∙ home in record {
          calls = ap calls_made mine ∙ calls;
          only_calls = (let a = ap length mine in let b = ap length calls in let c = cell.calls in omega (arith, a, b, c));
          exchanged = subst (λ es. ∥ AreExchanged gave took z h es ∥₁) (sym mine) (∥∥₁_map (subst (λ (q : Site). IsExchanged gave took q x.pass) site cell.exchanged) (exchanged_later gave took z x.pass h [] (entries core_terms x.pass.hand) refl more begins));
        }

    pub here_back : (k : ℕ) (xs : List (Option CellState)) (h : Entries) → ((c : ℕ) → k ≤ c → c < k + length xs → (f c).number ≡ c + 1) → ((c : ℕ) → k ≤ c → c < k + length xs → (f c).home ≡ z) → AllHere f k xs → AreCells gave took xs
        → AllOwn core_terms h (hands_of (passes_in xs)) → AllBegin h (hands_of (passes_in xs)) → (c : ℕ) → k ≤ c → c < k + length xs → IsBack h c
    here_back k [] h number home a cells o b c from below = absurd (omega arith)
    here_back k (None ∷ xs) h number home a cells o b c from below = absurd a
    here_back k (Some x ∷ xs) h number home a cells o b c from below = dite (ℕ_discrete c k)
        (λ e. subst (IsBack h) (sym e) (one_back h k x (number k (omega arith) (omega arith)) (home k (omega arith) (omega arith)) a.0 cells.0.0 o.0 b.0.0 b.0.1))
        (λ ne. here_back (k + 1) xs h (λ d up down. number d (omega (arith, up)) (omega (arith, down))) (λ d up down. home d (omega (arith, up)) (omega (arith, down))) a.1 cells.1 o.1 b.1 c (omega (arith, from, ne)) (omega (arith, below)))

own_split : (h : Entries) (xs ys : List PassState) → AllOwn core_terms h (hands_of (xs ++ ys)) → AllOwn core_terms h (hands_of xs)
own_split h [] ys all = tt
own_split h (x ∷ xs) ys all = (all.0, own_split h xs ys all.1)

begin_split : (h : Entries) (xs ys : List PassState) → AllBegin h (hands_of (xs ++ ys)) → AllBegin h (hands_of xs)
begin_split h [] ys all = tt
begin_split h (x ∷ xs) ys all = (all.0, begin_split h xs ys all.1)

home_append : (z : Site) (xs ys : List PassState) → AllOfMachine z xs → AllOfMachine z ys → AllOfMachine z (xs ++ ys)
home_append z [] ys a b = b
home_append z (x ∷ xs) ys a b = (a.0, home_append z xs ys a.1 b)

-- a pass that was never used has no link and no turn
free_unused : (z : Site) (a n : ℕ) (s : PassState) → n ≡ a + 1 → s.hand ≡ fresh z n → (s.hand.number ≡ a + 1) × (links core_terms s.hand ≡ []) × (s.hand.turns ≡ [])
free_unused z a n s is e = (ap (λ h. h.number) e ∙ is, ap (links core_terms) e, ap (λ h. h.turns) e)

-- what a hand that has seen the whole history says of each shard
module _ (gave took : ℕ → List ℕ → Type 0) (s : KvState) (h : KvHandState) (kv : IsKv s) (home : h.home ≡ s.all) (sound : IsSound kv_terms h) where
  home_of_shard : (c : ℕ) → c < length s.all.base.opening → (part_of kv_terms h c).home ≡ s.machine
  home_of_shard c at = (later h.home.base.grounds (opened kv_terms h.home.base) no_link h.seen c sound.legal).home ∙ (ap (λ z. (opened kv_terms z.base c).home) home ∙ (kv.new c at).home)

  number_of_shard : (c : ℕ) → c < length s.all.base.opening → (part_of kv_terms h c).number ≡ c + 1
  number_of_shard c at = (later h.home.base.grounds (opened kv_terms h.home.base) no_link h.seen c sound.legal).number ∙ (ap (λ z. (opened kv_terms z.base c).number) home ∙ (kv.new c at).number)

  module _ (xs : List (Option CellState)) (count : length xs ≡ length s.all.base.opening) (made : AreMade kv_terms (length s.all.base.opening) h xs) (cells : AreCells gave took xs) (swapper balloon : PassState)
      (sw : swapper.hand ≡ fresh s.machine (length s.all.base.opening + 1)) (ba : balloon.hand ≡ fresh s.machine (length s.all.base.opening + 2)) where
    all_back : AllHere (part_of kv_terms h) 0 xs
    all_back = all_here (part_of kv_terms h) 0 xs (λ c below. let w = made c (omega (arith, below, count)) in let e : c ≡ 0 + c = omega arith in (w.0, w.1, w.2 ∙ ap (part_of kv_terms h) e))

    pub back_home : AllOfMachine s.machine (passes_in xs ++ swapper ∷ balloon ∷ [])
    back_home = home_append s.machine (passes_in xs) (swapper ∷ balloon ∷ []) (here_home (part_of kv_terms h) s.machine 0 xs (λ c from below. home_of_shard c (omega (arith, below, count))) all_back)
        (ap (λ q. q.home) sw, (ap (λ q. q.home) ba, tt))

    back_count : length (passes_in xs) ≡ length s.all.base.opening
    back_count = here_count (part_of kv_terms h) s.machine 0 xs all_back ∙ count

    back_free : AreFree 0 (passes_in xs ++ swapper ∷ balloon ∷ [])
    back_free = free_append 0 (length s.all.base.opening) (passes_in xs) (swapper ∷ balloon ∷ []) (omega (arith, back_count))
        (here_free (part_of kv_terms h) s.machine gave took 0 xs (λ c from below. number_of_shard c (omega (arith, below, count))) all_back cells)
        (let a = free_unused s.machine (length s.all.base.opening) (length s.all.base.opening + 1) swapper refl sw in let b = free_unused s.machine (length s.all.base.opening + 1) (length s.all.base.opening + 2) balloon (omega arith) ba in
        (a.0, a.1, a.2, (b.0, b.1, b.2, tt)))

    -- the machine is closed with these passes
    pub back_closes : (n : ℕ) → n ≡ length s.all.base.opening + 2 → close_fault n (passes_in xs ++ swapper ∷ balloon ∷ []) ≡ None
    back_closes n is = no_fault n (passes_in xs ++ swapper ∷ balloon ∷ []) back_free (let a = length-append (passes_in xs) (swapper ∷ balloon ∷ []) in let b = back_count in omega (arith, a, b, is))

    -- and each made in its history what its shard's part says
    pub back_made : (g : Entries) → AllOwn core_terms g (hands_of (passes_in xs ++ swapper ∷ balloon ∷ [])) → AllBegin g (hands_of (passes_in xs ++ swapper ∷ balloon ∷ [])) → (i : ℕ) → i < length s.all.base.opening → IsBack (part_of kv_terms h) s.machine gave took g i
    back_made g o b i at = here_back (part_of kv_terms h) s.machine gave took 0 xs g (λ c from below. number_of_shard c (omega (arith, below, count))) (λ c from below. home_of_shard c (omega (arith, below, count))) all_back cells
        (own_split g (passes_in xs) (swapper ∷ balloon ∷ []) o) (begin_split g (passes_in xs) (swapper ∷ balloon ∷ []) b) i (omega arith) (omega (arith, at, count))
