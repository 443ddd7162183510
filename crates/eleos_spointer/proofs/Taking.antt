-- The turn of the page on which a pointer stands, once it was taken.
use Rattle.std.proofs.Common.{◌≡◌, inl, ℕ, ◌<◌, [], ◌∷◌, sym, ◌∙◌, ap, subst}
use Rattle.eleos_base.specs.Plans.{IsCaller, IsGood, enclave_of}
use Rattle.eleos_base.specs.Places.{all_pages}
use Rattle.eleos_base.specs.Ties.{Has}
use Rattle.eleos_core.specs.Parts.{Part, Stamp, page_cell}
use Rattle.eleos_plot.specs.declared.cell.Cell.{Cell}
use Rattle.eleos_plot.specs.declared.plot.Ground.{Ground}
use Rattle.eleos_plot.specs.Terms.{core_terms}
use Rattle.eleos_turn.specs.Hands.{HandState}
use Rattle.eleos_turn.proofs.Clients.{goes_links}
use Rattle.eleos_machine.specs.declared.pointers.Pointer.{Pointer}
use Rattle.eleos_machine.specs.Machines.{Site, plan_at}
use Rattle.eleos_machine.specs.Passes.{IsLawful, PassState, TookTurn, part_seen, plan_of}
use Rattle.eleos_machine.specs.Pointers.{cell_under, page_under}
use Rattle.eleos_pages.specs.Entered.{CanCall}
use Rattle.eleos_pages.proofs.HeldCells.{has_page}
use Rattle.eleos_spointer.specs.Linked.{TookPage}
use Rattle.eleos_spointer.specs.Ranges.{IsPointer, home_of}
use Rattle.eleos_spointer.proofs.Places.{page_within}

pub took_page : (z : Site) (s : PassState) (pointer : Pointer) → CanCall z s → IsPointer (plan_of s) (home_of s) pointer → (number cell word : ℕ) → number ≡ page_under (plan_of s) pointer → cell ≡ cell_under (plan_of s) pointer
    → (value : Cell) (s' : PassState) → TookTurn cell word s value s' → IsLawful s' → TookPage s pointer (record { page = number; cell = value }) s'
took_page z s pointer can placed number cell word number_is cell_is value s' took law = record {
  page_is = number_is;
  has = has_page s' law value (plan_of s) number (ap plan_at took.goes.home) inside (subst (λ (c : ℕ). Has c s'.hand.turns) at turn) (took.value ∙ ap (part_seen s') at);
  reaches = record {
    goes = took.goes;
    turns = turns;
    pins = ap (λ (y : HandState Stamp Part Ground). y.pins) took.took.now;
    links = goes_links core_terms s.hand s'.hand [] took.goes tt;
    pointers = ap (λ (y : PassState). y.pointers) took.rest;
    lawful = law;
  };
  refused = ap (λ (y : HandState Stamp Part Ground). y.refused) took.took.now;
  rest = took.rest;
  only = record {
    tried = ap (λ (y : HandState Stamp Part Ground). y.tried.0) took.took.now ∙ cell_is;
    misses = ap (λ (y : HandState Stamp Part Ground). y.misses) took.took.now;
    looks = ap (λ (y : HandState Stamp Part Ground). y.looks) took.took.now;
  };
} where
  at : cell ≡ page_cell (plan_of s) number
  at = cell_is ∙ ap (page_cell (plan_of s)) (sym number_is)

  turns : s'.hand.turns ≡ cell_under (plan_of s) pointer ∷ []
  turns = ap (λ (y : HandState Stamp Part Ground). y.turns) took.took.now ∙ (λ i. cell_is i ∷ can.no_turn i)

  turn : Has cell s'.hand.turns
  turn = subst (Has cell) (sym turns) (inl cell_is)

  caller : IsCaller (plan_of s) s.hand.number
  caller = subst (λ (y : Site). IsCaller (plan_at y) s.hand.number) (sym can.own) can.caller

  inside : number < all_pages (plan_of s)
  inside = subst (λ (p : ℕ). p < all_pages (plan_of s)) (sym number_is) (page_within (plan_of s) s.hand.number pointer good caller placed) where
    good : IsGood (plan_of s)
    good = subst (λ (y : Site). IsGood (plan_at y)) took.goes.home law.machine.made.good

-- the number of the page under a pointer is one of the machine's
pub number_within : (z : Site) (s : PassState) (pointer : Pointer) → CanCall z s → IsPointer (plan_of s) (home_of s) pointer → IsGood (plan_at z) → (number : ℕ) → number ≡ page_under (plan_at z) pointer → number < all_pages (plan_at z)
number_within z s pointer can placed good number is = subst (λ (p : ℕ). p < all_pages (plan_at z)) (sym is)
    (page_within (plan_at z) s.hand.number pointer good can.caller (subst (λ (y : Site). IsPointer (plan_at y) (enclave_of (plan_at y) s.hand.number) pointer) can.own placed))
