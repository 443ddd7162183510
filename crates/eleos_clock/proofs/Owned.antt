-- What a caller knows besides of the frame that was found, and of the hand.
use Rattle.std.proofs.Common.{◌≡◌, inr, ℕ, ◌+◌, ◌==◌, List, length, Bool, true, nat_lt, Some, Result, Ok, Err, IfOk, slice_index, if◌then◌else◌, refl, sym, subst}
use Rattle.std.proofs.lemmas.Bool.{or_right}
use Rattle.eleos_base.specs.Ties.{Has}
use Rattle.eleos_core.specs.Parts.{frame_cell, owner_in}
use Rattle.eleos_core.proofs.Tests.{by_test}
use Rattle.eleos_plot.specs.Cells.{is_hand_within}
use Rattle.eleos_machine.specs.declared.holding.ClockTurn.{ClockTurn}
use Rattle.eleos_machine.specs.Holding.{HasClock}
use Rattle.eleos_machine.specs.Passes.{IsLawful, PassState, part_seen, plan_of}
use Rattle.eleos_clock.specs.declared.found.Found.{Found}
use Rattle.eleos_clock.specs.declared.found.Found.TheVariants.{Free, Sole}
use Rattle.eleos_clock.specs.declared.found.NoVictim.{NoVictim}
use Rattle.eleos_clock.specs.declared.rounds.FoundAt.{FoundAt}
use Rattle.eleos_clock.specs.Answered.{Answers, FoundIn, IsOwned, RoundFound, frame_of, hand_after}
use Rattle.eleos_clock.specs.Lists.{next_place}
use Rattle.eleos_clock.specs.Searches.{Searches}
use Rattle.eleos_clock.proofs.Once.{same_default}
use Rattle.eleos_clock.proofs.Seen.{list_owned}
use Rattle.eleos_clock.proofs.Steps.{clock_kept}

-- what was found is in its frame, and all turns that the pass had it has still
found_there : (s s' : PassState) (f : ℕ) (free : Bool) (found : Found) → FoundIn s f free found s' → (frame_of found ≡ f) × Searches s s' × ((c : ℕ) → Has c s.hand.turns → Has c s'.hand.turns)
found_there s s' f free (Free found) h = (h.1, h.2.searches, λ c had. subst (Has c) (sym h.2.turns) (inr had))
found_there s s' f free (Sole found) h = (h.0, h.1.searches, λ c had. subst (Has c) (sym h.1.turns) (inr (inr had)))

-- the frame that was found is the enclave's
pub owned : (s s' : PassState) (clock : ClockTurn) (hand' : ℕ) (free : Bool) (r : Result Found NoVictim) → IsLawful s' → Answers s clock.clock clock.hand free r s' hand'
    → (e : ℕ) → HasClock s (Some e) clock → IfOk r (λ found. IsOwned e found s')
owned s s' clock hand' free (Err none) law h e has = tt
owned s s' clock hand' free (Ok found) law h e has =
    let there = found_there s s' (slice_index clock.clock h.place) free found h.there in
    let has' = clock_kept s s' (Some e) clock there.1 (there.2 clock.number has.turn) has in
    subst (λ f. owner_in (part_seen s' (frame_cell (plan_of s') f)) ≡ Some e) (sym there.0)
    (list_owned s' law e clock has' (slice_index clock.clock h.place) (h.place, h.inside, same_default clock.clock h.place (slice_index clock.clock h.place) 0 h.inside))

-- the hand after a place is within the list
next_within : (list : List ℕ) (place : ℕ) → is_hand_within list (next_place place (length list)) ≡ true
next_within list place = by_test (nat_lt (place + 1) (length list)) (λ b. nat_lt (place + 1) (length list) ≡ b → is_hand_within list (if b then place + 1 else 0) ≡ true)
    (λ _ is. or_right (place + 1 == 0) (nat_lt (place + 1) (length list)) is) (λ _ is. refl) refl

-- so the hand that was within the list is so after a find too
pub hand_stays : (list : List ℕ) (hand place : ℕ) (found : Found) → is_hand_within list hand ≡ true → is_hand_within list (hand_after hand (length list) place found) ≡ true
hand_stays list hand place (Free found) within = within
hand_stays list hand place (Sole found) within = next_within list place

-- the turn of a clock cell with another place of its hand, within its list too
with_hand : (s : PassState) (e : ℕ) (clock : ClockTurn) (hand' : ℕ) → is_hand_within clock.clock hand' ≡ true → HasClock s (Some e) clock → HasClock s (Some e) (record clock { hand = hand' })
with_hand s e clock hand' within has = record { known = has.known; number = has.number; turn = has.turn; value = has.value; hand_within = within }

-- after the search the turn of the clock cell is still in hand
pub clock_held : (s s' : PassState) (clock : ClockTurn) (hand' : ℕ) (free : Bool) (r : Result Found NoVictim) → Answers s clock.clock clock.hand free r s' hand'
    → (e : ℕ) → HasClock s (Some e) clock → HasClock s' (Some e) (record clock { hand = hand' })
clock_held s s' clock hand' free (Err none) h e has =
    with_hand s' e clock hand' (subst (λ (n : ℕ). is_hand_within clock.clock n ≡ true) (sym h.stays) has.hand_within)
    (clock_kept s s' (Some e) clock h.searches (subst (Has clock.number) (sym h.turns) has.turn) has)
clock_held s s' clock hand' free (Ok found) h e has =
    let there = found_there s s' (slice_index clock.clock h.place) free found h.there in
    with_hand s' e clock hand' (subst (λ (n : ℕ). is_hand_within clock.clock n ≡ true) (sym h.moves) (hand_stays clock.clock clock.hand h.place found has.hand_within))
    (clock_kept s s' (Some e) clock there.1 (there.2 clock.number has.turn) has)

-- before the hand goes on, the turn of the clock cell is in hand where a frame was found
pub held_there : (s s' : PassState) (clock : ClockTurn) (free : Bool) (at : FoundAt) → RoundFound s clock free at s' → (e : ℕ) → HasClock s (Some e) clock → HasClock s' (Some e) clock
held_there s s' clock free at h e has =
    let there = found_there s s' (slice_index clock.clock at.place) free at.found h.found in clock_kept s s' (Some e) clock there.1 (there.2 clock.number has.turn) has

-- the frame that was found is the enclave's, before the hand goes on
pub owned_there : (s s' : PassState) (clock : ClockTurn) (free : Bool) (at : FoundAt) → IsLawful s' → RoundFound s clock free at s' → (e : ℕ) → HasClock s (Some e) clock → IsOwned e at.found s'
owned_there s s' clock free at law h e has =
    let there = found_there s s' (slice_index clock.clock at.place) free at.found h.found in
    let has' = held_there s s' clock free at h e has in
    subst (λ f. owner_in (part_seen s' (frame_cell (plan_of s') f)) ≡ Some e) (sym there.0)
    (list_owned s' law e clock has' (slice_index clock.clock at.place) (at.place, h.inside, same_default clock.clock at.place (slice_index clock.clock at.place) 0 h.inside))

-- so is the turn of the clock cell in hand once the hand has gone on
pub clock_moved : (s s' : PassState) (clock : ClockTurn) (free : Bool) (at : FoundAt) → RoundFound s clock free at s' → (e : ℕ) → HasClock s (Some e) clock
    → HasClock s' (Some e) (record clock { hand = hand_after clock.hand (length clock.clock) at.place at.found })
clock_moved s s' clock free at h e has =
    with_hand s' e clock (hand_after clock.hand (length clock.clock) at.place at.found) (hand_stays clock.clock clock.hand at.place at.found has.hand_within) (held_there s s' clock free at h e has)
