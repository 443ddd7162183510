-- What a tap ends as where the bytes of a slot are lent.
use Rattle.std.specs.Prelude.{ℕ, List}
use Rattle.std.specs.Borrow.{Lends, Fml, RattleType, MutBor, Array, u8}
use Rattle.eleos_host.specs.contracts.tap.Tap.{the_row}
use Rattle.eleos_host.specs.Taps.{TapState, with_lent}

module _ (P : RattleType) (tap : MutBor (TapState P.Denot)) where
  -- the slot ends with the last bytes behind r
  abbrev pub LendsSlot : ℕ → MutBor (List ℕ) → Fml
  LendsSlot slot r = Lends (the_row P) (Array u8 0) tap r (with_lent tap.now slot)
