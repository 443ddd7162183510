-- The cells of shards that were just made.
use Rattle.std.proofs.Common.{◌≡◌, ℕ, zero, suc, ◌+◌, ◌*◌, ◌<◌, ◌≤◌, ◌^◌, List, [], ◌∷◌, ◌++◌, length, map, get_or, refl, sym, ap, ◌∙◌, subst, arith}
use Rattle.std.proofs.lemmas.List.{length-map}
use Rattle.eleos_base.specs.declared.plot.Base.{Base}
use Rattle.eleos_base.specs.Histories.{opened}
use Rattle.eleos_base.specs.Own.{Private, own}
use Rattle.eleos_base.specs.Plans.{IsCaller}
use Rattle.eleos_core.specs.Parts.{Part, Stamp}
use Rattle.eleos_direct.specs.Desks.{calls_made, calls_of}
use Rattle.eleos_machine.specs.Closing.{hands_of}
use Rattle.eleos_machine.specs.Machines.{IsMachine, Site, plan_at}
use Rattle.eleos_machine.specs.Passes.{PassState}
use Rattle.eleos_pages.specs.Exchanges.{AreExchanged}
use Rattle.eleos_plot.specs.declared.plot.Ground.{Ground}
use Rattle.eleos_plot.specs.Terms.{core_terms}
use Rattle.eleos_shard.specs.Shards.{IsShard, ShardState, empty_shard, places_of}
use Rattle.eleos_turn.specs.Hands.{HandState, dealt, entries, fresh}
use Rattle.eleos_kv.specs.Cells.{CellState, IsCell, ShardPart, no_shard, shard_part}
use Rattle.eleos_kv.specs.Making.{AreNewCells, client_stamps}
use Rattle.eleos_kv.specs.Serving.{Counter, IsKv, IsNewPart, KvState}
use Rattle.eleos_kv.specs.Terms.{kv_terms}

-- one shard more
pub new_snoc : (z : Site) (k n : ℕ) (cells : List CellState) (cell : CellState) → n ≡ k + length cells → AreNewCells z k cells → IsNewPart z n (shard_part cell) → AreNewCells z k (cells ++ cell ∷ [])
new_snoc z k n [] cell e a new = (subst (λ (i : ℕ). IsNewPart z i (shard_part cell)) (let f : n ≡ k = omega (arith, e) in f) new, tt)
new_snoc z k n (x ∷ xs) cell e a new = (a.0, new_snoc z (k + 1) n xs cell (omega (arith, e)) a.1 new)

-- the part of each
new_at : (z : Site) (k : ℕ) (cells : List CellState) (i : ℕ) → AreNewCells z k cells → i < length cells → IsNewPart z (k + i) (get_or (map shard_part cells) i no_shard)
new_at z k [] i a below = absurd (omega (arith, below))
new_at z k (x ∷ xs) zero a below = subst (λ (n : ℕ). IsNewPart z n (shard_part x)) (let e : k ≡ k + 0 = omega arith in e) a.0
new_at z k (x ∷ xs) (suc i) a below = subst (λ (n : ℕ). IsNewPart z n (get_or (map shard_part xs) i no_shard)) (let e : k + 1 + i ≡ k + suc i = omega arith in e) (new_at z (k + 1) xs i a.1 (omega (arith, below)))

abbrev first_or : HandState Stamp Part Ground → List (HandState Stamp Part Ground) → HandState Stamp Part Ground
first_or h [] = h
first_or h (x ∷ xs) = x

abbrev others : List (HandState Stamp Part Ground) → List (HandState Stamp Part Ground)
others [] = []
others (x ∷ xs) = xs

-- the hand of the next pass
pub next_dealt : (z : Site) (a n : ℕ) (ys rest : List PassState) (x : PassState) → hands_of (ys ++ x ∷ rest) ≡ dealt z a n → (x.hand ≡ fresh z (a + length ys + 1)) × (a + length ys + 1 ≤ a + n)
next_dealt z a zero [] rest x is = absurd (let e = ap length is in omega (arith, e))
next_dealt z a (suc n) [] rest x is = (ap (first_or x.hand) is ∙ (let e : a + 1 ≡ a + 0 + 1 = omega arith in ap (λ (m : ℕ). fresh z m) e), omega arith)
next_dealt z a zero (y ∷ ys) rest x is = absurd (let e = ap length is in omega (arith, e))
next_dealt z a (suc n) (y ∷ ys) rest x is = let r = next_dealt z (a + 1) n ys rest x (ap others is) in let below = r.1 in
    (r.0 ∙ (let e : a + 1 + length ys + 1 ≡ a + suc (length ys) + 1 = omega arith in ap (λ (m : ℕ). fresh z m) e), omega (arith, below))

dealt_long : (z : Site) (a n : ℕ) → length (dealt {D = Stamp} z a n) ≡ n
dealt_long z a zero = refl
dealt_long z a (suc n) = let r = dealt_long z (a + 1) n in omega (arith, r)

-- there are as many passes as hands were dealt
pub all_dealt : (z : Site) (n : ℕ) (ss : List PassState) → hands_of ss ≡ dealt z 0 n → length ss ≡ n
all_dealt z n ss is = sym (length-map ss (λ (s : PassState). s.hand)) ∙ (ap length is ∙ dealt_long z 0 n)

-- shards that were just made
pub new_kv : (z : Site) (all : Counter) (cells : List CellState) (shards clients : ℕ) → IsMachine z → AreNewCells z 0 cells → length cells ≡ length (plan_at z).callers → shards ≡ length cells → clients ≤ 8
    → all.base ≡ record { grounds = shards; opening = map shard_part cells; hands = clients; each = client_stamps } → IsKv (record { machine = z; all = all })
new_kv z all cells shards clients machine new count many few base =
    let long : length all.base.opening ≡ length cells = ap (λ (b : Base ShardPart ℕ). length b.opening) base ∙ length-map cells shard_part in
    let some = machine.made.good.some_caller in let most = machine.made.good.callers in let each = machine.each in
    let hands = ap (λ (b : Base ShardPart ℕ). b.hands) base in let stamps = ap (λ (b : Base ShardPart ℕ). b.each) base in record {
      some = omega (arith, some, count, long);
      small = omega (arith, most, count, long);
      shards = ap (λ (b : Base ShardPart ℕ). b.grounds) base ∙ (many ∙ sym long);
      new = λ i below. subst (IsNewPart z i) (ap (λ (b : Base ShardPart ℕ). opened kv_terms b i) (sym base)) (subst (λ (n : ℕ). IsNewPart z n (get_or (map shard_part cells) i no_shard)) (let e : 0 + i ≡ i = omega arith in e) (new_at z 0 cells i new (omega (arith, below, long))));
      room = (let product = ap (λ (b : Base ShardPart ℕ). b.hands * b.each) base in omega (arith, product, each, few));
    }

-- a pass that was never used has called nothing
none_called : (z : Site) (pass rest : PassState) (n : ℕ) → rest ≡ pass → pass.hand ≡ fresh z n → rest.hand ≡ fresh z n
none_called z pass rest n same unused = ap (λ (p : PassState). p.hand) same ∙ unused

-- the shard of such a pass is a cell
pub new_cell : (gave took : ℕ → List ℕ → Type 0) (z : Site) (pass rest : PassState) (shard : ShardState) → rest ≡ pass → pass.hand ≡ fresh z pass.hand.number → IsCaller (plan_at z) pass.hand.number → ((p : Private) → IsShard p shard) → IsCell gave took (record { pass = rest; shard = shard })
new_cell gave took z pass rest shard same unused caller is = let hand = none_called z pass rest pass.hand.number same unused in record {
  idle = ap (λ (h : HandState Stamp Part Ground). h.turns) hand;
  caller = subst (λ (h : HandState Stamp Part Ground). IsCaller (plan_at h.home) h.number) (sym hand) caller;
  calls = subst (λ (h : HandState Stamp Part Ground). length (entries core_terms h) ≤ length (calls_made (entries core_terms h))) (sym hand) (omega arith);
  shard = is (own 1024 (calls_of rest));
  exchanged = subst (λ (h : HandState Stamp Part Ground). ∥ AreExchanged gave took h.home h.seen (entries core_terms h) ∥₁) (sym hand) ∣ tt ∣₁;
}

-- whose part is that of a new shard
pub new_part : (z : Site) (pass rest : PassState) (shard : ShardState) (i : ℕ) → rest ≡ pass → pass.hand ≡ fresh z pass.hand.number → pass.hand.number ≡ i + 1 → shard ≡ empty_shard → IsNewPart z i (shard_part (record { pass = rest; shard = shard }))
new_part z pass rest shard i same unused number empty = let hand = none_called z pass rest pass.hand.number same unused in record {
  home = ap (λ (h : HandState Stamp Part Ground). h.home) hand;
  number = ap (λ (h : HandState Stamp Part Ground). h.number) hand ∙ number;
  left = ap (λ (h : HandState Stamp Part Ground). h.left) hand;
  calls = ap (λ (h : HandState Stamp Part Ground). calls_made (entries core_terms h)) hand;
  places = ap places_of empty;
}
