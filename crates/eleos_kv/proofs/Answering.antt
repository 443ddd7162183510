-- A cell after a command: each entry of its pass is a call still.
use Rattle.std.proofs.Common.{◌≡◌, ℕ, ◌+◌, ◌<◌, ◌≤◌, List, length, Result, Ok, Err, IfOk, OnErr, sym, ap, ◌∙◌, subst, arith, length-append}
use Rattle.eleos_base.specs.declared.memory.NoMemory.{NoMemory}
use Rattle.eleos_base.specs.Own.{own}
use Rattle.eleos_base.specs.Plans.{IsCaller}
use Rattle.eleos_direct.specs.Desks.{IsAtDesk, IsExchanged, calls_of}
use Rattle.eleos_kvwire.specs.declared.trace.KvAct.{KvAct}
use Rattle.eleos_machine.specs.Machines.{Site, plan_at}
use Rattle.eleos_machine.specs.Passes.{IsLawful, PassState}
use Rattle.eleos_plot.specs.Terms.{core_terms}
use Rattle.eleos_shard.specs.declared.reply.KvReply.{KvReply}
use Rattle.eleos_shard.specs.Shards.{IsShard, ShardState}
use Rattle.eleos_shard.specs.Steps.{Serves}
use Rattle.eleos_turn.specs.Hands.{entries}
use Rattle.eleos_kv.specs.Cells.{CellState, IsCell, MakesCalls, facts_with}

-- callers have numbers from 1 on
pub caller_made : (z : Site) (k : ℕ) → IsCaller (plan_at z) k → 0 < k
caller_made z k is = let some = is.from_one in omega (arith, some)

module _ (z : Site) (pass pass' : PassState) (at : IsAtDesk z pass) (at' : IsAtDesk z pass') (lawful : IsLawful pass) (lawful' : IsLawful pass') (calls : MakesCalls pass) where
  -- the pass made no more entries than calls, since each entry costs a stamp
  counted : (more : ℕ) → length (calls_of pass') ≡ length (calls_of pass) + more → pass.hand.left ≤ pass'.hand.left + more → MakesCalls pass'
  counted more many left =
      let a = lawful.hand.counts (caller_made z pass.hand.number at.caller) in let b = lawful'.hand.counts (caller_made z pass'.hand.number at'.caller) in
      let e : pass'.hand.home.base.each ≡ pass.hand.home.base.each = ap (λ (h : Site). h.base.each) (at'.own ∙ sym at.own) in
      omega (arith, a, b, e, many, left, calls)

  pub calls_after : (act : KvAct) (reply : KvReply) (shard shard' : ShardState) → Serves act reply (facts_with pass shard) (facts_with pass' shard') → MakesCalls pass'
  calls_after act reply shard shard' w = counted (length w.piece) (ap length w.calls ∙ length-append (calls_of pass) w.piece) w.left

  -- where nothing was called
  pub calls_kept : (shard shard' : ShardState) → facts_with pass' shard' ≡ facts_with pass shard → MakesCalls pass'
  calls_kept shard shard' same = counted 0 (let e = ap (λ f. length f.calls) same in omega (arith, e)) (let e = ap (λ f. f.left) same in omega (arith, e))

  calls_by : (act : KvAct) (shard shard' : ShardState) (r : Result KvReply NoMemory) → IfOk r (λ reply. Serves act reply (facts_with pass shard) (facts_with pass' shard')) → OnErr r (facts_with pass' shard' ≡ facts_with pass shard) → MakesCalls pass'
  calls_by act shard shard' (Ok reply) serves err = calls_after act reply shard shard' serves
  calls_by act shard shard' (Err none) serves err = calls_kept shard shard' err

  -- it is a cell still
  pub cell_after : (gave took : ℕ → List ℕ → Type 0) (act : KvAct) (shard shard' : ShardState) (r : Result KvReply NoMemory) → IfOk r (λ reply. Serves act reply (facts_with pass shard) (facts_with pass' shard')) → OnErr r (facts_with pass' shard' ≡ facts_with pass shard)
      → IsShard (own 1024 (calls_of pass')) shard' → IsExchanged gave took z pass' → IsCell gave took (record { pass = pass'; shard = shard' })
  cell_after gave took act shard shard' r serves err is exchanged = record {
    idle = at'.no_turn;
    caller = subst (λ (h : Site). IsCaller (plan_at h) pass'.hand.number) (sym at'.own) at'.caller;
    calls = calls_by act shard shard' r serves err;
    shard = is;
    exchanged = subst (λ (h : Site). IsExchanged gave took h pass') (sym at'.own) exchanged;
  }

-- the pass of a cell at its machine
pub at_desk : (gave took : ℕ → List ℕ → Type 0) (z : Site) (c : CellState) (pass : PassState) → IsCell gave took c → c.pass.hand.home ≡ z → pass ≡ c.pass → IsAtDesk z pass
at_desk gave took z c pass is home same = subst (λ (p : PassState). IsAtDesk z p) (sym same) (record { own = home; caller = subst (λ (h : Site). IsCaller (plan_at h) c.pass.hand.number) home is.caller; no_turn = is.idle })
