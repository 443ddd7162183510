-- All commands of all shards are one run of one map.
use Rattle.std.proofs.Common.{◌≡◌, ◌≢◌, ℕ, ◌+◌, ◌<◌, List, [], ◌∷◌, ◌++◌, length, map, Bool, true, false, cond, Option, Some, None, option_map, refl, sym, ap, ◌∙◌, subst, ⊎_elim, arith, append_assoc, append-nil}
use Rattle.std.specs.List.{sum}
use Rattle.std.specs.Str.{bytes_eq}
use Rattle.std.proofs.Math.Nat.{mod-lt}
use mathlib.Core.Logic.{dite}
use native.Mathlib.Decide.{ℕ_discrete}
use Rattle.eleos_base.specs.declared.plot.Base.{Base}
use Rattle.eleos_base.specs.declared.plot.Event.{Event}
use Rattle.eleos_base.specs.declared.memory.Op.TheVariants as ops
use Rattle.eleos_base.specs.declared.memory.Reply.TheVariants as replies
use Rattle.eleos_base.specs.Own.{AreTrue, AreTrueFrom, Private, Said, after_call, after_calls, nothing}
use Rattle.eleos_base.specs.Ties.{Has}
use Rattle.eleos_base.specs.Histories.{put, made_from, opened, tied_up, no_link, Legal, LegalFrom, MayFollow}
use Rattle.eleos_turn.proofs.Histories.{put_else}
use Rattle.eleos_turn.proofs.Numbers.{here, else}
use Rattle.eleos_kvwire.specs.declared.trace.KvAct.{KvAct}
use Rattle.eleos_kvwire.specs.declared.trace.KvAct.TheVariants.{Set, Get, Delete, Stat}
use Rattle.eleos_kvwire.specs.Sessions.{key_of}
use Rattle.eleos_shard.specs.declared.reply.KvReply.{KvReply}
use Rattle.eleos_shard.specs.declared.reply.KvReply.TheVariants.{Stored, Value, Deleted}
use Rattle.eleos_shard.specs.Maps.{IsTrueAnswer, KvMap, MayAnswer, Values, after_act, after_delete, after_set, count_after, map_after, no_keys, shard_of}
use Rattle.eleos_shard.specs.Shards.{Place, ShardFacts, count_of, place_at, text_in, values_of}
use Rattle.eleos_shard.specs.Steps.{Serves}
use Rattle.eleos_shard.proofs.Texts.{not_same}
use Rattle.eleos_kv.specs.declared.commands.KvEntry.{KvEntry}
use Rattle.eleos_kv.specs.Cells.{ShardPart}
use Rattle.eleos_kv.specs.Runs.{KvRunFrom, OpensEmpty, IsOneMap, commands_in}
use Rattle.eleos_kv.specs.Terms.{cell_of, kv_terms}

-- a command changes its key alone, and nothing else of the map counts for that
set_same : (k q v : List ℕ) (reply : KvReply) (m n : Values) → m q ≡ n q → after_set k v reply m q ≡ after_set k v reply n q
set_same k q v Stored m n e = ap (λ (z : Option (List ℕ)). cond (bytes_eq k q) (Some v) z) e
set_same k q v _ m n e = e

delete_same : (k q : List ℕ) (reply : KvReply) (m n : Values) → m q ≡ n q → after_delete k reply m q ≡ after_delete k reply n q
delete_same k q Deleted m n e = ap (λ (z : Option (List ℕ)). cond (bytes_eq k q) None z) e
delete_same k q _ m n e = e

act_same : (act : KvAct) (reply : KvReply) (q : List ℕ) (m n : Values) → m q ≡ n q → after_act act reply m q ≡ after_act act reply n q
act_same (Set k v) reply q m n e = set_same k q v reply m n e
act_same (Get k) reply q m n e = e
act_same (Delete k) reply q m n e = delete_same k q reply m n e
act_same (Stat k) reply q m n e = e

set_else : (k q v : List ℕ) (reply : KvReply) (m : Values) → k ≢ q → after_set k v reply m q ≡ m q
set_else k q v Stored m ne = ap (λ (t : Bool). cond t (Some v) (m q)) (not_same k q ne)
set_else k q v _ m ne = refl

delete_else : (k q : List ℕ) (reply : KvReply) (m : Values) → k ≢ q → after_delete k reply m q ≡ m q
delete_else k q Deleted m ne = ap (λ (t : Bool). cond t None (m q)) (not_same k q ne)
delete_else k q _ m ne = refl

act_else : (act : KvAct) (reply : KvReply) (q : List ℕ) (m : Values) → key_of act ≢ q → after_act act reply m q ≡ m q
act_else (Set k v) reply q m ne = set_else k q v reply m ne
act_else (Get k) reply q m ne = refl
act_else (Delete k) reply q m ne = delete_else k q reply m ne
act_else (Stat k) reply q m ne = refl

-- true reads are true at each place of the list
true_back : (p : Private) (cs ds : List Said) → AreTrueFrom 1024 p (cs ++ ds) → AreTrueFrom 1024 (after_calls 1024 p cs) ds
true_back p [] ds a = a
true_back p (c ∷ cs) ds a = true_back (after_call 1024 c.0 c.1 p) cs ds a.1

-- what a pass called begins what it has called later
module _ (g : ℕ) (pos : 0 < g) where
  apart : (f : ℕ → ShardPart) (l : ℕ → ℕ → ℕ) (e : Event KvEntry ShardPart) (c : ℕ) → MayFollow kv_terms g f l e → c ≢ cell_of g e.entry → put e.kept f c ≡ f c
  apart f l e c may ne = put_else e.kept f c (λ h. ⊎_elim (λ (q : c ≡ cell_of g e.entry). ne q) (λ (q : ⊥). q) (subst (Has c) may.cells h))

  abbrev Grows : ShardPart → ShardPart → Type 0
  Grows b a = (more : List Said) × (a.facts.calls ≡ b.facts.calls ++ more)

  grows_one : (f : ℕ → ShardPart) (l : ℕ → ℕ → ℕ) (e : Event KvEntry ShardPart) (c : ℕ) → MayFollow kv_terms g f l e → Grows (f c) (put e.kept f c)
  grows_one f l e c may = dite (ℕ_discrete c (cell_of g e.entry))
      (λ is. subst (λ (k : ℕ). Grows (f k) (put e.kept f k)) (sym is) (may.steps.serves.piece, may.steps.serves.calls))
      (λ ne. ([], ap (λ (p : ShardPart). p.facts.calls) (apart f l e c may ne) ∙ sym (append-nil (f c).facts.calls)))

  grows : (f : ℕ → ShardPart) (l : ℕ → ℕ → ℕ) (es : List (Event KvEntry ShardPart)) (c : ℕ) → LegalFrom kv_terms g f l es → Grows (f c) (made_from f es c)
  grows f l [] c legal = ([], sym (append-nil (f c).facts.calls))
  grows f l (e ∷ es) c legal =
      let a = grows_one f l e c legal.0 in
      let b = grows (put e.kept f) (tied_up (kv_terms.who e.entry) (kv_terms.tie g e.entry) l) es c legal.1 in
      (a.0 ++ b.0, b.1 ∙ (ap (λ (z : List Said). z ++ b.0) a.1 ∙ append_assoc (f c).facts.calls a.0 b.0))

  -- the shards have the map
  pub record Agrees (m : KvMap) (f : ℕ → ShardPart) : Type 0 where
    pub values : (q : List ℕ) → m.values q ≡ values_of (f (shard_of g q)).facts q
    pub counts : (i : ℕ) → i < g → m.counts i ≡ count_of (f i).facts

  -- a value that was got is the map's
  true_get : (act : KvAct) (reply : KvReply) (b a : ShardFacts) (w : Serves act reply b a) (more : List Said) → AreTrue 1024 (a.calls ++ more) → IsTrueAnswer act reply (values_of b (key_of act))
  true_get (Set k v) reply b a w more reads = tt
  true_get (Delete k) reply b a w more reads = tt
  true_get (Stat k) reply b a w more reads = tt
  true_get (Get k) (Value x) b a w more reads =
      let r = w.tells in
      let all : a.calls ++ more ≡ b.calls ++ (ops.Read r.at.at r.at.len, replies.Text x) ∷ more =
      ap (λ (z : List Said). z ++ more) w.calls ∙ (append_assoc b.calls w.piece more ∙ ap (λ (z : List Said). b.calls ++ (z ++ more)) r.one) in
      let here = (true_back nothing b.calls _ (subst (AreTrue 1024) all reads)).0 r.range in
      ap (option_map (text_in b.calls)) r.here ∙ ap (λ (z : List ℕ). Some z) (sym here)
  true_get (Get k) _ b a w more reads = tt

  -- the map after a command is what the shards then have
  agrees_next : (m : KvMap) (f : ℕ → ShardPart) (l : ℕ → ℕ → ℕ) (e : Event KvEntry ShardPart) → MayFollow kv_terms g f l e → Agrees m f → Agrees (map_after g e.entry.command.act e.entry.reply m) (put e.kept f)
  agrees_next m f l e may a = let act = e.entry.command.act in let reply = e.entry.reply in let s : ℕ = cell_of g e.entry in let w = may.steps.serves in record {
    values = λ q. dite (ℕ_discrete (shard_of g q) s)
        (λ is. act_same act reply q m.values (values_of (f s).facts) (a.values q ∙ ap (λ (c : ℕ). values_of (f c).facts q) is) ∙ (sym (w.values q) ∙ ap (λ (c : ℕ). values_of (put e.kept f c).facts q) (sym is)))
        (λ ne. act_else act reply q m.values (λ same. ne (ap (shard_of g) (sym same))) ∙ (a.values q ∙ ap (λ (p : ShardPart). values_of p.facts q) (sym (apart f l e (shard_of g q) may ne))));
    counts = λ i low. dite (ℕ_discrete i s)
        (λ is. here {A = ℕ} i s _ _ is ∙ ((λ j. count_after act reply (a.values (key_of act) j) (a.counts i low j)) ∙ (ap (λ (c : ℕ). count_after act reply (values_of (f s).facts (key_of act)) (count_of (f c).facts)) is ∙ (sym w.count ∙ ap (λ (c : ℕ). count_of (put e.kept f c).facts) (sym is)))))
        (λ ne. else {A = ℕ} i s _ _ ne ∙ (a.counts i low ∙ ap (λ (p : ShardPart). count_of p.facts) (sym (apart f l e i may ne))));
  }

  low : (q : List ℕ) → shard_of g q < g
  low q = mod-lt (sum q) pos

  -- each history of commands is a run of the map that the shards have
  pub runs : (m : KvMap) (f : ℕ → ShardPart) (l : ℕ → ℕ → ℕ) (es : List (Event KvEntry ShardPart)) → LegalFrom kv_terms g f l es → Agrees m f → ((i : ℕ) → i < g → AreTrue 1024 (made_from f es i).facts.calls) → KvRunFrom g m (commands_in es)
  runs m f l [] legal a reads = tt
  runs m f l (e ∷ es) legal a reads =
      let act = e.entry.command.act in let s : ℕ = cell_of g e.entry in let w = legal.0.steps.serves in
      let l₁ = tied_up (kv_terms.who e.entry) (kv_terms.tie g e.entry) l in
      let later = grows (put e.kept f) l₁ es s legal.1 in
      let read = true_get act e.entry.reply (f s).facts (put e.kept f s).facts w later.0 (subst (AreTrue 1024) later.1 (reads s (low (key_of act)))) in
      let v = a.values (key_of act) in (
        record {
          may = subst (λ (z : Option (List ℕ) × ℕ). MayAnswer act e.entry.reply z.0 z.1) (λ j. (sym v j, sym (a.counts s (low (key_of act))) j)) w.may;
          true = subst (IsTrueAnswer act e.entry.reply) (sym v) read;
        },
        runs (map_after g act e.entry.reply m) (put e.kept f) l₁ es legal.1 (agrees_next m f l e legal.0 a) reads,
      )

-- where shards that began empty have a legal history, and the reads of each are true, the commands are a run of one map
pub one_map : IsOneMap
one_map b h legal empty reads = let g : ℕ = b.grounds in let f : ℕ → ShardPart = opened kv_terms b in
    runs g empty.some no_keys f no_link h legal
    (record {
      values = λ q. sym (ap (λ z. option_map (text_in (f (shard_of g q)).facts.calls) (place_at z q)) (empty.none (shard_of g q) (mod-lt (sum q) empty.some)));
      counts = λ i below. sym (ap length (empty.none i below));
    })
    reads
