-- What is exchanged with the host for an access.
use Rattle.std.proofs.Common.{◌≡◌, ℕ, List, [], refl, subst}
use Rattle.eleos_base.specs.declared.memory.Addr.{Addr}
use Rattle.eleos_base.specs.declared.memory.Op.TheVariants as ops
use Rattle.eleos_base.specs.declared.memory.Reply.{Reply}
use Rattle.eleos_base.specs.declared.plan.Plan.{Plan}
use Rattle.eleos_base.specs.Places.{sub_of}
use Rattle.eleos_core.specs.State.{History, is_present, is_sealed}
use Rattle.eleos_host.specs.declared.port.HostPort.{Ghosts}
use Rattle.eleos_host.specs.declared.port.HostStore as store
use Rattle.eleos_host.specs.Taps.{TapState}
use Rattle.eleos_machine.specs.Machines.{Site}
use Rattle.eleos_machine.specs.Passes.{PassState, plan_of}
use Rattle.eleos_pages.specs.Crossed.{came}
use Rattle.eleos_pages.specs.Exchanges.{Exchanges}
use Rattle.eleos_pages.specs.Held.{access_stamp}
use Rattle.eleos_pages.proofs.Crossing.{entry_exchanges, given_at}
use Rattle.eleos_direct.specs.Accesses.{HasAccessed}

module _ {P : Type 0} (port : Ghosts P) (host : store.Ghosts P) where
  -- a read
  pub read_exchanges : (s s' : PassState) (before : TapState P) (at : Addr) (n : ℕ) (reply : Reply) (tap : TapState P) (z : Site) → s.hand.home ≡ z → HasAccessed port host s before at (ops.Read at n) reply s' tap → Exchanges port.gave port.took z s s'
  read_exchanges s s' before at n reply tap z home a = let k : Plan = plan_of s in let past : History = a.entered.past in
      subst (λ (q : Site). Exchanges port.gave port.took q s s') home
      (entry_exchanges port.gave port.took s.hand.home s s' (access_stamp s (ops.Read at n) (came tap) reply) [] a.entered
      (record { given = given_at port.gave port.took (sub_of k at) (is_sealed k past) (is_present k past (sub_of k at)) (is_sealed k past (sub_of k at)) (came tap) refl a.crossed.gave; taken = a.crossed.took }))

  -- a write
  pub write_exchanges : (s s' : PassState) (before : TapState P) (at : Addr) (bytes : List ℕ) (reply : Reply) (tap : TapState P) (z : Site) → s.hand.home ≡ z → HasAccessed port host s before at (ops.Write at bytes) reply s' tap → Exchanges port.gave port.took z s s'
  write_exchanges s s' before at bytes reply tap z home a = let k : Plan = plan_of s in let past : History = a.entered.past in
      subst (λ (q : Site). Exchanges port.gave port.took q s s') home
      (entry_exchanges port.gave port.took s.hand.home s s' (access_stamp s (ops.Write at bytes) (came tap) reply) [] a.entered
      (record { given = given_at port.gave port.took (sub_of k at) (is_sealed k past) (is_present k past (sub_of k at)) (is_sealed k past (sub_of k at)) (came tap) refl a.crossed.gave; taken = a.crossed.took }))
