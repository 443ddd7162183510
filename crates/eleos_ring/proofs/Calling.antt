-- A call is one post and polls of its ticket.
use Rattle.std.proofs.Common.{◌≡◌, ℕ, ◌+◌, ◌*◌, ◌-◌, ◌<◌, true, List, length, get_or, set, position, is_none, Option, Some, None, Ok, refl, sym, ap, ◌∙◌, arith}
use Rattle.std.proofs.lemmas.List.{set-set, set-get_or}
use Rattle.std.proofs.lemmas.Bool.Decides.{nat_tests}
use Rattle.std.proofs.lemmas.List.Quantifiers.{position-Some}
use Rattle.eleos_ring.specs.declared.cells.TheConstants.{CELLS_EACH}
use Rattle.eleos_ring.specs.declared.accept.Fields.{Fields}
use Rattle.eleos_ring.specs.declared.accept.Polled.TheVariants.{Pending}
use Rattle.eleos_ring.specs.declared.ticket.Ticket.{Ticket}
use Rattle.eleos_ring.specs.Accept.{accept}
use Rattle.eleos_ring.specs.Rings.{free_cell, next_ticket, after_by, after_post, post_answer, answer_by, freed, after_call}
use Rattle.eleos_ring.specs.States.{RingState}

none-is : (o : Option ℕ) → is_none o ≡ true → o ≡ None
none-is None e = refl
none-is (Some x) e = cc

-- a pending ticket comes back
pub accept-pending : (t u : Ticket) (room state : ℕ) (f : Fields) → accept t room f ≡ Pending u state → u ≡ t
accept-pending t u room state f is = grind (arith, nat_tests)

-- the lowest free cell has no ticket out
pub free-none : (out : List (Option ℕ)) (mine : ℕ) → position is_none out ≡ Some mine → (mine < length out) × (get_or out mine None ≡ None)
free-none out mine is =
    let p = position-Some is_none out mine None is in
    (p.0, none-is (get_or out mine None) p.1)

-- a call's post, and then the poll that frees the cell, leave one job more
pub freed-again : (r : RingState) (mine : ℕ) → free_cell r ≡ Some mine → freed (after_by r (Some mine)) (next_ticket r mine) ≡ after_call r
freed-again r mine is =
    let f = free-none r.out mine is in
    let here : CELLS_EACH * r.client + mine - CELLS_EACH * r.client ≡ mine = omega arith in
    let out : set (set r.out mine (Some (r.posts + 1))) mine None ≡ r.out =
    set-set r.out mine (Some (r.posts + 1)) None ∙ ap (λ o. set r.out mine o) (sym f.1) ∙ set-get_or r.out mine None in
    λ i. record { client = r.client; posts = r.posts + 1; out = (ap (λ m. set (set r.out mine (Some (r.posts + 1))) m None) here ∙ out) i }

by-free : (r : RingState) (o : Option ℕ) → free_cell r ≡ o → (t : Ticket) → Ok t ≡ answer_by r o
    → (mine : ℕ) × (free_cell r ≡ Some mine) × (t ≡ next_ticket r mine)
by-free r None e t is = cc
by-free r (Some mine) e t is = (mine, e, cc)

-- the ring after a call, by its post and the poll that freed the cell
pub after-both : (r s : RingState) (t u : Ticket) → Ok t ≡ post_answer r → s ≡ after_post r → u ≡ t → freed s u ≡ after_call r
after-both r s t u is after same =
    let m = by-free r (free_cell r) refl t is in
    let here : s ≡ after_by r (Some m.0) = after ∙ ap (after_by r) m.1 in
    let ticket : u ≡ next_ticket r m.0 = same ∙ m.2 in
    (λ i. freed (here i) (ticket i)) ∙ freed-again r m.0 m.1

-- the end of a ticket frees the cell that its post took, whatever was posted and ended in between
pub freed-out : (r q s : RingState) (t : Ticket) → Ok t ≡ post_answer r → q ≡ after_post r → s.client ≡ q.client → s.out ≡ q.out
    → (freed s t).out ≡ r.out
freed-out r q s t is after client out =
    let m = by-free r (free_cell r) refl t is in
    let here : q ≡ after_by r (Some m.0) = after ∙ ap (after_by r) m.1 in
    let cells : s.out ≡ (after_by r (Some m.0)).out = out ∙ ap (λ (x : RingState). x.out) here in
    let same : s.client ≡ r.client = client ∙ ap (λ (x : RingState). x.client) here in
    (λ i. set (cells i) ((m.2 i).cell - CELLS_EACH * same i) None) ∙ ap (λ (x : RingState). x.out) (freed-again r m.0 m.1)
