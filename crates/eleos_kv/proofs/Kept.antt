-- What a history of commands leaves of each shard.
use Rattle.std.proofs.Common.{◌≡◌, ℕ, ◌+◌, ◌*◌, ◌<◌, ◌≤◌, List, [], ◌∷◌, length, refl, sym, ap, ◌∙◌, subst, ⊎_elim, arith}
use mathlib.Core.Logic.{dite}
use native.Mathlib.Decide.{ℕ_discrete}
use Rattle.eleos_base.specs.declared.plot.Event.{Event}
use Rattle.eleos_base.specs.Ties.{Has}
use Rattle.eleos_base.specs.Histories.{put, made_from, opened, tied_up, no_link, LegalFrom, MayFollow}
use Rattle.eleos_turn.specs.Hands.{IsSound, part_of}
use Rattle.eleos_turn.proofs.Histories.{put_else}
use Rattle.eleos_kv.specs.declared.commands.KvEntry.{KvEntry}
use Rattle.eleos_kv.specs.Cells.{ShardPart}
use Rattle.eleos_kv.specs.Serving.{IsKv, KvHandState, KvState}
use Rattle.eleos_kv.specs.Terms.{cell_of, kv_terms}

-- n commands at most were served on the shard: by the same pass, and each took at most three of its stamps
pub record IsLater (n : ℕ) (before after : ShardPart) : Type 0 where
  pub home : after.home ≡ before.home
  pub number : after.number ≡ before.number
  pub left : before.facts.left ≤ after.facts.left + 3 * n

later_same : (n : ℕ) (b a : ShardPart) → a ≡ b → IsLater n b a
later_same n b a e = record { home = ap (λ (p : ShardPart). p.home) e; number = ap (λ (p : ShardPart). p.number) e; left = let l = ap (λ (p : ShardPart). p.facts.left) e in omega (arith, l) }

later_one : (n : ℕ) (b m a : ShardPart) → IsLater 1 b m → IsLater n m a → IsLater (n + 1) b a
later_one n b m a x y = record { home = y.home ∙ x.home; number = y.number ∙ x.number; left = let p = x.left in let q = y.left in omega (arith, p, q) }

-- one entry
follows : (g : ℕ) (f : ℕ → ShardPart) (l : ℕ → ℕ → ℕ) (e : Event KvEntry ShardPart) (c : ℕ) → MayFollow kv_terms g f l e → IsLater 1 (f c) (put e.kept f c)
follows g f l e c may = let s : ℕ = cell_of g e.entry in dite (ℕ_discrete c s)
    (λ is. subst (λ (k : ℕ). IsLater 1 (f k) (put e.kept f k)) (sym is) (let w = may.steps in record { home = w.home; number = w.number; left = let a = w.serves.left in let b = w.serves.shape.few in omega (arith, a, b) }))
    (λ ne. later_same 1 (f c) (put e.kept f c) (put_else e.kept f c (λ h. ⊎_elim (λ (q : c ≡ s). ne q) (λ (q : ⊥). q) (subst (Has c) may.cells h))))

-- any history
pub later : (g : ℕ) (f : ℕ → ShardPart) (l : ℕ → ℕ → ℕ) (es : List (Event KvEntry ShardPart)) (c : ℕ) → LegalFrom kv_terms g f l es → IsLater (length es) (f c) (made_from f es c)
later g f l [] c legal = later_same 0 (f c) (f c) refl
later g f l (e ∷ es) c legal = let r = later_one (length es) (f c) (put e.kept f c) (made_from (put e.kept f) es c) (follows g f l e c legal.0) (later g (put e.kept f) (tied_up (kv_terms.who e.entry) (kv_terms.tie g e.entry) l) es c legal.1) in
    record { home = r.home; number = r.number; left = let q = r.left in omega (arith, q) }

-- what a hand with a stamp left has seen left the shard's pass its three stamps
pub shard_ready : (s : KvState) (h : KvHandState) (c : ℕ) → IsKv s → h.home ≡ s.all → IsSound kv_terms h → 0 < h.left → c < length s.all.base.opening
    → ((part_of kv_terms h c).home ≡ s.machine) × ((part_of kv_terms h c).number ≡ c + 1) × (3 ≤ (part_of kv_terms h c).facts.left)
shard_ready s h c kv home sound some at =
    let e = kv.new c at in
    let same : opened kv_terms h.home.base c ≡ opened kv_terms s.all.base c = ap (λ z. opened kv_terms z.base c) home in
    let w = later h.home.base.grounds (opened kv_terms h.home.base) no_link h.seen c sound.legal in
    let left = ap (λ (p : ShardPart). p.facts.left) same in
    let hands = ap (λ z. z.base.hands * z.base.each) home in
    let room = sound.room in let enough = kv.room in let all = e.left in let q = w.left in
    (w.home ∙ (ap (λ (p : ShardPart). p.home) same ∙ e.home), w.number ∙ (ap (λ (p : ShardPart). p.number) same ∙ e.number), omega (arith, left, hands, room, enough, all, q, some))
