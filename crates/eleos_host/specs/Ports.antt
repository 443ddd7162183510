-- What a get and a put do to the port, whatever stands between it and the caller.
use Rattle.std.specs.Prelude.{◌≡◌, ◌≤◌, ℕ, List, option_map, IfSome}
use Rattle.eleos_host.specs.Blocks.{zero_block}
use Rattle.eleos_host.specs.declared.port.HostPort.{Ghosts}
use Rattle.eleos_host.specs.declared.port.HostStore as store
use Rattle.eleos_host.specs.Crossings.{with_crossing}
use Rattle.eleos_host.specs.Stores.{get_from, put_to}

module _ {P : Type 0} (port : Ghosts P) (host : store.Ghosts P) where
  -- the host gave this block for this place, once, and nothing else happened
  pub record Gives (old new : P) (place : ℕ) (block : List ℕ) : Type 0 where
    pub gave : port.gave place block
    pub given : host.given new ≡ with_crossing (host.given old) place block
    pub taken : host.taken new ≡ host.taken old
    pub store : host.store new ≡ host.store old
    pub places : host.places new ≡ host.places old
    pub told : IfSome (host.store old) (λ s. block ≡ get_from s place)
    pub outside : host.places old ≤ place → block ≡ zero_block

  -- the host took this block for this place, once, and nothing else happened
  pub record Takes (old new : P) (place : ℕ) (block : List ℕ) : Type 0 where
    pub took : port.took place block
    pub taken : host.taken new ≡ with_crossing (host.taken old) place block
    pub given : host.given new ≡ host.given old
    pub store : host.store new ≡ option_map (λ s. put_to s place block) (host.store old)
    pub places : host.places new ≡ host.places old
