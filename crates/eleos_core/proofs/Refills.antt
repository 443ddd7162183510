-- What a Vec holds after a change of its slice.
use Rattle.std.proofs.Common.{◌≡◌, List, length, sym, ◌∙◌, ap, Vec, Global}
use Rattle.std.specs.Vec.{with_items}
use Rattle.std.proofs.lemmas.List.{with_items_is}

-- with another list of the same length
pub refill_is : {A : Type 0} (v : Vec A Global) (items new : List A) → items ≡ new → length new ≡ length v.items → (with_items v items).items ≡ new
refill_is v items new same len = with_items_is v items (ap length same ∙ len ∙ sym v.ok.0) ∙ same
