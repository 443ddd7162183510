-- What the fields of a `Tap` tell.
use Rattle.std.specs.Prelude.{◌<◌}
use Rattle.std.specs.Option.{ForSome}
use Rattle.eleos_host.specs.declared.slot.TheConstants.{SLOTS}
use Rattle.eleos_host.specs.declared.tap.Tap.TheInside.{Inside}
use Rattle.eleos_host.specs.Taps.{TapState, HasSlots, IsAsItCame}

module _ {P : Type 0} where
  -- a tap as contracts see it: its port, how often it began, the bytes of its slots, where they are from, and the slot that is named
  abbrev pub tap_of : Inside P → TapState P
  tap_of t = record { port = t.port; begins = t.begins; blocks = t.blocks.items; states = t.states; failed = t.failed }

  -- all slots are there, and the one that is named has its block as it came
  pub record IsTap (t : Inside P) : Type 0 where
    pub slots : HasSlots (tap_of t)
    pub within : ForSome t.failed (λ slot. slot < SLOTS)
    pub came : ForSome t.failed (λ slot. IsAsItCame (tap_of t) slot)
