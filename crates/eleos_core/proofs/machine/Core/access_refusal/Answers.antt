use Rattle.std.proofs.Common.{◌≡◌, ◌-◌, ℕ, List, true, slice_index, Some, None, ap, sym, ◌∙◌, subst}
use Rattle.eleos_base.specs.declared.memory.Addr.{Addr}
use Rattle.eleos_base.specs.declared.plan.Plan.{Plan}
use Rattle.eleos_base.specs.Plain.{is_in_range}
use Rattle.eleos_core.specs.Accesses.{refusal_on}
use Rattle.eleos_core.specs.Cells.{Cells}
use Rattle.eleos_base.specs.Places.{subs}
use Rattle.eleos_core.proofs.Spots.{in_range}
use Rattle.eleos_core.proofs.Machines.{IsThere, caller_there, found, page_index, refusal-found, sub_index}
use Rattle.eleos_core.proofs.machine.Core.access_refusal.Goals as goal

-- the range that was judged is the caller's
range_of : (k : Plan) (callers : List ℕ) (who n : ℕ) (at : Addr) → callers ≡ k.callers
    → true ≡ is_in_range 1024 (slice_index callers (who - 1)) (subs k (slice_index callers (who - 1))) at n → in_range k who at n ≡ true
range_of k callers who n at same held = sym (subst (λ list. true ≡ is_in_range 1024 (slice_index list (who - 1)) (subs k (slice_index list (who - 1))) at n) same held)

pub index-page-requires : goal.index-page-requires
index-page-requires c =
    let s = c.self.inside in
    let there : IsThere s c.args.who c.args.at c.args.len c.spot_of-spot.result = record {
      core = c.self.invariant;
      caller = caller_there s c.args.self.now c.self.view_is c.args.who c.requires;
      range = range_of s.plan c.as_slice.result.now c.args.who c.args.len c.args.at c.as_slice.ensures c.if-not-is_in_range.ensures;
      is = c.spot_of-spot.ensures;
    } in
    page_index s c.args.who c.args.at c.args.len c.spot_of-spot.result there

pub index-requires : goal.index-requires
index-requires c =
    let s = c.self.inside in
    let there : IsThere s c.args.who c.args.at c.args.len c.spot_of-spot.result = record {
      core = c.self.invariant;
      caller = caller_there s c.args.self.now c.self.view_is c.args.who c.requires;
      range = range_of s.plan c.as_slice.result.now c.args.who c.args.len c.args.at c.as_slice.ensures c.if-not-is_in_range.ensures;
      is = c.spot_of-spot.ensures;
    } in
    sub_index s c.args.who c.args.at c.args.len c.spot_of-spot.result c.index-page.result.now (found s c.args.who c.args.at c.args.len c.spot_of-spot.result there c.index-page.result.now c.index-page.ensures)

pub returns-in-Some : goal.returns-in-Some
returns-in-Some c =
    let s = c.self.inside in
    let there : IsThere s c.args.who c.args.at c.args.len c.spot_of-spot.result = record {
      core = c.self.invariant;
      caller = caller_there s c.args.self.now c.self.view_is c.args.who c.requires;
      range = range_of s.plan c.as_slice.result.now c.args.who c.args.len c.args.at c.as_slice.ensures c.if-not-is_in_range.ensures;
      is = c.spot_of-spot.ensures;
    } in
    let page = found s c.args.who c.args.at c.args.len c.spot_of-spot.result there c.index-page.result.now c.index-page.ensures in
    subst (λ (m : Cells). Some c.refusal_reply.result ≡ refusal_on m c.args.who c.args.at c.args.len) c.self.view_is
    (ap Some c.refusal_reply.ensures ∙ ((rw c.in-Some.is at c.use_refusal.ensures) ∙ sym (refusal-found s c.args.who c.args.at c.args.len c.spot_of-spot.result c.index-page.result.now page c.index.result.now c.index.ensures)))

pub returns-in-None : goal.returns-in-None
returns-in-None c =
    let s = c.self.inside in
    let there : IsThere s c.args.who c.args.at c.args.len c.spot_of-spot.result = record {
      core = c.self.invariant;
      caller = caller_there s c.args.self.now c.self.view_is c.args.who c.requires;
      range = range_of s.plan c.as_slice.result.now c.args.who c.args.len c.args.at c.as_slice.ensures c.if-not-is_in_range.ensures;
      is = c.spot_of-spot.ensures;
    } in
    let page = found s c.args.who c.args.at c.args.len c.spot_of-spot.result there c.index-page.result.now c.index-page.ensures in
    subst (λ (m : Cells). None ≡ refusal_on m c.args.who c.args.at c.args.len) c.self.view_is
    ((rw c.in-None.is at c.use_refusal.ensures) ∙ sym (refusal-found s c.args.who c.args.at c.args.len c.spot_of-spot.result c.index-page.result.now page c.index.result.now c.index.ensures))
