-- A page that is to be in a frame: it is there, or it is brought there.
use Rattle.std.proofs.Common.{◌≡◌, inr, ⊎_elim, ℕ, ◌<◌, List, [], ◌∷◌, ◌++◌, append-nil, length, true, false, is_some, Option, Some, None, unwrap_or, Result, Ok, Err, refl, sym, ◌∙◌, ap, subst, arith, length-append}
use Rattle.eleos_base.specs.declared.memory.Addr.{Addr}
use Rattle.eleos_base.specs.declared.memory.Reply.TheVariants.{NoFrame as NoFrames}
use Rattle.eleos_base.specs.declared.plan.Plan.{Plan}
use Rattle.eleos_base.specs.Places.{Owner, home_of, page_counts, page_of, sub_of}
use Rattle.eleos_base.specs.Plain.{is_in_range}
use Rattle.eleos_base.specs.Plans.{enclave_of, sub_bytes}
use Rattle.eleos_base.specs.Places.{subs}
use Rattle.eleos_base.specs.Ties.{Has}
use Rattle.eleos_base.specs.Words.{IsBusy}
use Rattle.eleos_core.specs.declared.event.Wanted.{Wanted}
use Rattle.eleos_core.specs.Parts.{Made, clock_cell, page_cell}
use Rattle.eleos_core.specs.Quiet.{starved_stamp}
use Rattle.eleos_core.specs.State.{History, is_owner}
use Rattle.eleos_core.proofs.Numbers.{home_sub_is, page_exists, sub_in_range}
use Rattle.eleos_core.proofs.RunNumbers.{run_is}
use Rattle.eleos_host.specs.declared.port.HostPort.{Ghosts}
use Rattle.eleos_host.specs.declared.port.HostStore as store
use Rattle.eleos_host.specs.Taps.{TapState}
use Rattle.eleos_plot.specs.Terms.{core_terms}
use Rattle.eleos_turn.specs.Hands.{Goes, entries, links_on, refused_at}
use Rattle.eleos_turn.specs.Numbers.{less_one, times}
use Rattle.eleos_machine.specs.declared.holding.ClockTurn.{ClockTurn}
use Rattle.eleos_machine.specs.declared.holding.FreeFrame.{FreeFrame}
use Rattle.eleos_machine.specs.declared.holding.HeldPage.{HeldPage}
use Rattle.eleos_machine.specs.Holding.{HasPage, frame_seen}
use Rattle.eleos_machine.specs.Machines.{Site, plan_at}
use Rattle.eleos_machine.specs.Notes.{cleared}
use Rattle.eleos_machine.specs.Passes.{IsLawful, PassState, gave, part_seen, plan_of, seen}
use Rattle.eleos_clock.specs.Turns.{TookClock}
use Rattle.eleos_spointer.specs.declared.refusing.LinkRefused.{LinkRefused}
use Rattle.eleos_spointer.specs.declared.refusing.LinkRefused.TheVariants.{NoFrame, NotYours, Tampered, Unallocated}
use Rattle.eleos_spointer.specs.Brought.{Brings, CameIn, CameNotIn, Fetches, FoundClockBusy, HasBrought, HasFailed, HasFreed, HasPut, HasStarved, LeftBy, MayBring, MayFetch, PutsIn, WasSpoiled, cell_of_held}
use Rattle.eleos_spointer.specs.Reached.{Reaches, Stands}
use Rattle.eleos_spointer.proofs.Freeing.{absent_then, wants_then}
use Rattle.eleos_spointer.proofs.Reaching.{reaches_then, seen_on, stands_on}
use Rattle.eleos_spointer.proofs.Starving.{less_first}

module _ {P : Type 0} (port : Ghosts P) (host : store.Ghosts P) where
  module _ (z : Site) (all all' : History) (number : ℕ) (more : (rest : History) × (all' ≡ rest ++ all)) where
    -- what the pass made stands where more is seen
    pub left_on : (gone : Option ℕ) (frame : ℕ) (made : List Made) (before tap : TapState P) → LeftBy port host z all number gone frame made before tap → LeftBy port host z all' number gone frame made before tap
    left_on None frame made before tap is = is
    left_on (Some page) frame made before tap is = (is.0, is.1, record { is = is.2.is; stands = stands_on z all all' is.0 more is.2.stands; crossed = is.2.crossed })

    pub put_on : (page frame : ℕ) (one : Made) (before tap : TapState P) → HasPut port host z all number page frame one before tap → HasPut port host z all' number page frame one before tap
    put_on page frame one before tap is = record { blocks = is.blocks; is = is.is; stands = stands_on z all all' one more is.stands; crossed = is.crossed; unfailed = is.unfailed }

    pub come_on : (page : ℕ) (made : List Made) (before tap : TapState P) → CameIn port host z all number page made before tap → CameIn port host z all' number page made before tap
    come_on page made before tap is = record {
      gone = is.gone;
      frame = is.frame;
      first = is.first;
      middle = is.middle;
      left_by = left_on is.gone is.frame is.first before is.middle is.left_by;
      filled = is.filled;
      put = put_on page is.frame is.filled is.middle tap is.put;
      made_is = is.made_is;
    }

  -- what a pass did after it had made nothing is what it did before
  module _ (s s₁ : PassState) (held : List ℕ) (to : Reaches s [] held s₁) (page : HeldPage) (wanted : Wanted) (before : TapState P) where
    same_cell : cell_of_held s₁ page ≡ cell_of_held s page
    same_cell = ap (λ (y : Site). page_cell (plan_at y) page.page) to.goes.home

    starved_after : (s' : PassState) → HasStarved s₁ wanted s' → HasStarved s wanted s'
    starved_after s' is = record {
      starved = is.starved;
      is = is.is ∙ ap (λ (n : ℕ). starved_stamp n wanted s'.sweep.words (NoFrames s'.sweep.words)) to.goes.number;
      stands = subst (λ (y : Site). Stands y (seen s') is.starved) to.goes.home is.stands;
      reaches = reaches_then s s₁ s' [] (is.starved ∷ []) held [] to is.reaches;
    }

    spoiled_after : (sub : ℕ) (s' : PassState) (tap : TapState P) → WasSpoiled port host s₁ before wanted sub s' tap → WasSpoiled port host s before wanted sub s' tap
    spoiled_after sub s' tap is = record {
      made = is.made;
      failed = subst (λ (y : Site × ℕ). CameNotIn port host y.0 (seen s') y.1 wanted sub is.made before tap) (λ i. (to.goes.home i, to.goes.number i)) is.failed;
      reaches = reaches_then s s₁ s' [] is.made held [] to is.reaches;
    }

    brought_after : (page' : HeldPage) (s' : PassState) (tap : TapState P) → HasBrought port host s₁ before page wanted page' s' tap → HasBrought port host s before page wanted page' s' tap
    brought_after page' s' tap is = record {
      made = is.made;
      come = subst (λ (y : Site × ℕ). CameIn port host y.0 (seen s') y.1 page.page is.made before tap) (λ i. (to.goes.home i, to.goes.number i)) is.come;
      few = is.few;
      reaches = subst (λ (c : ℕ). Reaches s is.made (c ∷ []) s') same_cell (reaches_then s s₁ s' [] is.made held (cell_of_held s₁ page ∷ []) to is.reaches);
      page_is = is.page_is;
      has = is.has;
      present = is.present;
      accepted = is.accepted;
    }

    pub brings_after : (r : Result HeldPage LinkRefused) (s' : PassState) (tap : TapState P) → Brings port host s₁ before page wanted r s' tap → Brings port host s before page wanted r s' tap
    brings_after (Ok page') s' tap is = brought_after page' s' tap is
    brings_after (Err NoFrame) s' tap is = (starved_after s' is.0, is.1)
    brings_after (Err (Tampered sub)) s' tap is = spoiled_after sub s' tap is
    brings_after (Err Unallocated) s' tap is = is
    brings_after (Err (NotYours owner)) s' tap is = is

  -- the page was put into the frame that was freed for it, or not
  module _ (z : Site) (s s₂ s₃ : PassState) (page : HeldPage) (wanted : Wanted) (home : ℕ) (clock : ClockTurn) (free : FreeFrame) (before middle : TapState P) (own : s.hand.home ≡ z)
      (h : HasFreed port host z s before page home clock free s₂ middle) (held : List ℕ) (to : Reaches s h.first held s₃) (sees : seen s₃ ≡ seen s₂) where
    left_then : (s' : PassState) (made : List Made) → Goes core_terms s₃.hand s'.hand made → LeftBy port host s.hand.home (seen s') s.hand.number h.gone free.frame h.first before middle
    left_then s' made goes = let on = seen_on s₃ s' made goes in
        left_on s.hand.home (seen s₂) (seen s') s.hand.number (on.0, on.1 ∙ ap (λ (past : History). on.0 ++ past) sees) h.gone free.frame h.first before middle
        (subst (λ (y : Site). LeftBy port host y (seen s₂) s.hand.number h.gone free.frame h.first before middle) (sym own) h.left_by)

    pub brings : (r : Result HeldPage LinkRefused) (s' : PassState) (tap : TapState P) → PutsIn port host s₃ middle page free wanted r s' tap → Brings port host s before page wanted r s' tap
    brings (Ok page') s' tap is = record {
      made = h.first ++ is.filled ∷ [];
      come = record {
        gone = h.gone;
        frame = free.frame;
        first = h.first;
        middle = middle;
        left_by = left_then s' (is.filled ∷ []) is.reaches.goes;
        filled = is.filled;
        put = subst (λ (y : Site × ℕ). HasPut port host y.0 (seen s') y.1 page.page free.frame is.filled middle tap) (λ i. (to.goes.home i, to.goes.number i)) is.put;
        made_is = refl;
      };
      few = let few = h.few in let long = length-append h.first (is.filled ∷ []) in omega (arith, few, long);
      reaches = subst (λ (c : ℕ). Reaches s (h.first ++ is.filled ∷ []) (c ∷ []) s') (ap (λ (y : Site). page_cell (plan_at y) page.page) to.goes.home)
          (reaches_then s s₃ s' h.first (is.filled ∷ []) held (cell_of_held s₃ page ∷ []) to is.reaches);
      page_is = is.page_is;
      has = is.has;
      present = is.present;
      accepted = is.accepted;
    }
    brings (Err (Tampered sub)) s' tap is = record {
      made = h.first ++ is.spoiled ∷ [];
      failed = record {
        gone = h.gone;
        frame = free.frame;
        first = h.first;
        middle = middle;
        left_by = left_then s' (is.spoiled ∷ []) is.reaches.goes;
        spoiled = is.spoiled;
        failed = subst (λ (y : Site × ℕ). HasFailed port host y.0 (seen s') y.1 wanted sub is.spoiled middle tap) (λ i. (to.goes.home i, to.goes.number i)) is.failed;
        made_is = refl;
      };
      reaches = reaches_then s s₃ s' h.first (is.spoiled ∷ []) held [] to is.reaches;
    }
    brings (Err NoFrame) s' tap is = absurd is
    brings (Err Unallocated) s' tap is = absurd is
    brings (Err (NotYours owner)) s' tap is = absurd is

-- an owner that is none of the pool is the enclave
home_known : (o : Owner) (e : ℕ) → is_owner o None ≡ false → unwrap_or o 0 ≡ e → o ≡ Some e
home_known None e some is = cc
home_known (Some x) e some is = ap Some is

-- the page of an address in range is the caller's enclave's
pub home_there : (k : Plan) (who : ℕ) (at : Addr) (n : ℕ) → is_in_range (sub_bytes k (enclave_of k who)) (enclave_of k who) (subs k (enclave_of k who)) at n ≡ true → home_of k (page_of k (sub_of k at)) ≡ Some (enclave_of k who)
home_there k who at n range =
    let e : ℕ = enclave_of k who in
    let sub = sub_in_range k e at n range in
    home_known (home_of k (page_of k (sub_of k at))) e (run_is (page_counts k) (page_of k (sub_of k at)) (page_exists k e (sub_of k at) sub)) (home_sub_is k e (sub_of k at) sub)

module _ (z : Site) (s : PassState) (page : HeldPage) (enclave : ℕ) (wanted : Wanted) (may : MayFetch z s page enclave wanted) where
  abbrev k : Plan
  k = plan_of s

  abbrev cell : ℕ
  cell = cell_of_held s page

  -- the pass with an empty sweep
  abbrev emptied : PassState
  emptied = record s { sweep = cleared true s.sweep }

  -- it has not the turn of the clock cell
  pub clock_free : Has (clock_cell (plan_at z) (Some enclave)) s.hand.turns → ⊥
  clock_free turn = ⊎_elim (λ (e : clock_cell k (Some enclave) ≡ cell). let known = may.known in omega (arith, e, known)) (λ (none : ⊥). none)
      (subst (Has (clock_cell k (Some enclave))) may.turns (subst (λ (y : Site). Has (clock_cell (plan_at y) (Some enclave)) s.hand.turns) (sym may.wants.own) turn))

  pub known_there : enclave < length (plan_at z).enclaves
  known_there = subst (λ (y : Site). enclave < length (plan_at y).enclaves) may.wants.own may.known

  pub is_made : 0 < s.hand.number
  is_made = let one = may.wants.caller.from_one in omega (arith, one)

  -- once it has the turn of the clock cell, an absent page may be brought in
  module _ (clock : ClockTurn) (s₂ : PassState) (took : TookClock emptied enclave clock s₂) (absent : is_some (frame_seen s page.page) ≡ false) where
    home₂ : s₂.hand.home ≡ s.hand.home
    home₂ = took.searches.goes.home

    page_turn : Has cell s.hand.turns
    page_turn = may.wants.has.turn

    none : (o : Option ℕ) → is_some o ≡ false → o ≡ None
    none None is = refl
    none (Some x) is = cc

    part : part_seen s₂ cell ≡ part_seen s cell
    part = took.searches.parts cell page_turn

    pub may_bring : MayBring z s₂ page clock wanted
    may_bring = record {
      wants = wants_then z s s₂ page wanted may.wants home₂ took.searches.goes.number (subst (Has cell) (sym took.turns) (inr page_turn)) part;
      absent = absent_then s s₂ page.page home₂ part (none (frame_seen s page.page) absent);
      left = let left = took.searches.goes.left in let two = may.left in omega (arith, left, two);
      home = enclave;
      home_is = ap (λ (y : Site). home_of (plan_at y) page.page) home₂ ∙ may.home_is;
      clock_is = took.has;
      turns = took.turns ∙ ap (λ (l : List ℕ). clock.number ∷ l) (may.turns ∙ ap (λ (y : Site). page_cell (plan_at y) page.page ∷ []) (sym home₂));
      covered = λ c. let a = may.covered c in let b = took.searches.links c in let e = ap (times c) took.searches.pins in omega (arith, a, b, e);
      no_words = took.words;
      since_stamp = took.searches.since_stamp;
    }

    -- nothing was stamped meanwhile
    pub took_clock : Reaches s [] (clock.number ∷ s.hand.turns) s₂
    took_clock = record {
      goes = took.searches.goes;
      turns = took.turns;
      pins = took.searches.pins;
      links = took.searches.links;
      pointers = took.searches.pointers;
      lawful = took.lawful;
    }

    -- so what becomes of it is known
    pub fetched : {P : Type 0} (port : Ghosts P) (host : store.Ghosts P) (before : TapState P) (r : Result HeldPage LinkRefused) (s' : PassState) (tap : TapState P) → Brings port host s₂ before page wanted r s' tap → Fetches port host s before page wanted r s' tap
    fetched port host before (Ok page') s' tap is = inr (brings_after port host s s₂ (clock.number ∷ s.hand.turns) took_clock page wanted before (Ok page') s' tap is)
    fetched port host before (Err r) s' tap is = brings_after port host s s₂ (clock.number ∷ s.hand.turns) took_clock page wanted before (Err r) s' tap is

  -- the turn of the page goes back where the clock cell was busy
  module _ (word : ℕ) (s₂ : PassState) (is : s₂ ≡ record emptied { hand = refused_at emptied.hand (clock_cell (plan_at z) (Some enclave)) word }) where
    abbrev c : ℕ
    c = clock_cell (plan_at z) (Some enclave)

    abbrev tried : PassState
    tried = record emptied { hand = refused_at emptied.hand c word }

    pub page_kept : HasPage s₂ page.page page.cell
    page_kept = subst (λ (y : PassState). HasPage y page.page page.cell) (sym is) (record { number = may.wants.has.number; turn = may.wants.has.turn; value = may.wants.has.value; fits = may.wants.has.fits })

    pub home_kept : s₂.hand.home ≡ z
    home_kept = ap (λ (y : PassState). y.hand.home) is ∙ may.wants.own

    -- nothing was done but to try
    pub clock_busy : {P : Type 0} (port : Ghosts P) (host : store.Ghosts P) (tap : TapState P) (s₃ : PassState) → IsBusy word → s₃ ≡ gave s₂ (cell_of_held s₂ page) → IsLawful s₃ → FoundClockBusy port host s tap enclave word s₃ tap
    clock_busy port host tap s₃ busy given law = record {
      busy = busy;
      refused = ap (λ (y : PassState). y.hand.refused) now ∙ ap (λ (y : Site). (refused_at s.hand (clock_cell (plan_at y) (Some enclave)) word).refused) (sym may.wants.own);
      reaches = record {
        goes = subst (λ (y : PassState). Goes core_terms s.hand y.hand []) (sym now)
            (record { home = refl; number = refl; left = omega arith; own = sym (append-nil (entries core_terms s.hand)); more = []; sees = sym (append-nil s.hand.seen) });
        turns = ap (λ (y : PassState). y.hand.turns) now ∙ (ap (less_one cell) may.turns ∙ less_first cell []);
        pins = ap (λ (y : PassState). y.hand.pins) now;
        links = λ c. ap (λ (y : PassState). links_on core_terms y.hand c) now;
        pointers = ap (λ (y : PassState). y.pointers) now;
        lawful = law;
      };
      untouched = refl;
    } where
      now : s₃ ≡ gave tried cell
      now = given ∙ ap (λ (y : PassState). gave y (cell_of_held y page)) is
