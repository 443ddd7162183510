-- What posts and polls make of the cells of one client.
use Rattle.std.specs.Prelude.{◌≡◌, ℕ, ◌+◌, ◌-◌, ◌*◌, ◌<◌, replicate, slice_index_or, slice_set, position, Option, Some, None, is_none, Result, Ok, Err}
use Rattle.eleos_ring.specs.declared.cells.TheConstants.{CELLS_EACH}
use Rattle.eleos_ring.specs.declared.cells.RingFull.{RingFull}
use Rattle.eleos_ring.specs.declared.ticket.Ticket.{Ticket}
use Rattle.eleos_ring.specs.declared.accept.Polled.{Polled}
use Rattle.eleos_ring.specs.declared.accept.Polled.TheVariants.{Pending, Refused, Reply}
use Rattle.eleos_ring.specs.States.{RingState}

-- the client has posted so many jobs, and no ticket is out
abbrev pub idle : ℕ → ℕ → RingState
idle client posts = record { client = client; posts = posts; out = replicate CELLS_EACH None }

-- the lowest cell, of the client's, that has no ticket out
abbrev pub free_cell : RingState → Option ℕ
free_cell r = position is_none r.out

-- the ticket of the next job, in this cell of the client's
abbrev pub next_ticket : RingState → ℕ → Ticket
next_ticket r mine = record { cell = CELLS_EACH * r.client + mine; id = r.posts + 1 }

-- what a post answers that found this cell free
abbrev pub answer_by : RingState → Option ℕ → Result Ticket RingFull
answer_by r None = Err (record {})
answer_by r (Some mine) = Ok (next_ticket r mine)

-- and what it leaves
abbrev pub after_by : RingState → Option ℕ → RingState
after_by r None = r
after_by r (Some mine) = record {
  client = r.client;
  posts = r.posts + 1;
  out = slice_set r.out mine (Some (r.posts + 1));
}

-- what a post answers: the ticket of the next job in the lowest free cell, refused where there is none
abbrev pub post_answer : RingState → Result Ticket RingFull
post_answer r = answer_by r (free_cell r)

-- and what it leaves: that ticket is out
abbrev pub after_post : RingState → RingState
after_post r = after_by r (free_cell r)

-- which of the client's cells the ticket is for
abbrev pub mine_of : RingState → Ticket → ℕ
mine_of r t = t.cell - CELLS_EACH * r.client

-- the ticket is one of this ring's that is out
pub record IsOut (r : RingState) (t : Ticket) : Type 0 where
  pub cell : t.cell ≡ CELLS_EACH * r.client + mine_of r t
  pub mine : mine_of r t < CELLS_EACH
  pub out : slice_index_or r.out (mine_of r t) None ≡ Some t.id

-- the ticket's cell is free
abbrev pub freed : RingState → Ticket → RingState
freed r t = record {
  client = r.client;
  posts = r.posts;
  out = slice_set r.out (mine_of r t) None;
}

-- what a poll leaves: the ticket stays out where it is pending, and else its cell is free
abbrev pub after_poll : RingState → Ticket → Polled → RingState
after_poll r t (Pending ticket state) = r
after_poll r t (Refused why seen) = freed r t
after_poll r t (Reply len status) = freed r t

-- what a call leaves: one job more was posted, and the same tickets are out
abbrev pub after_call : RingState → RingState
after_call r = record { client = r.client; posts = r.posts + 1; out = r.out }
