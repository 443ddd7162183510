-- A visit of a frame whose turn the pass does not have.
use Rattle.std.proofs.Common.{◌≡◌, inl, inr, ⊎_elim, ℕ, ◌%◌, ◌<◌, ◌==◌, ◌&&◌, ◌||◌, List, [], ◌∷◌, ◌++◌, length, Bool, true, false, not, cond, nat_lt, Option, Some, None, if◌then◌else◌, refl, sym, ◌∙◌, ap, subst, arith}
use Rattle.std.proofs.lemmas.Bool.{eq-eqb, ne_eqb}
use Rattle.eleos_base.specs.declared.memory.Looked.{Looked}
use Rattle.eleos_base.specs.Ties.{Has}
use Rattle.eleos_core.specs.Parts.{frame_cell, frame_in, page_cell}
use Rattle.eleos_base.specs.Places.{all_frames}
use Rattle.eleos_base.specs.Words.{IsBusy, IsFree, is_busy, is_taken, pins_in}
use Rattle.eleos_plot.specs.declared.cell.Cell.{Cell}
use Rattle.eleos_plot.specs.Cells.{part_of_cell}
use Rattle.eleos_plot.specs.Terms.{core_terms}
use Rattle.eleos_turn.specs.Hands.{links_on, refused_at}
use Rattle.eleos_turn.specs.Numbers.{less_one, times}
use Rattle.eleos_machine.specs.declared.holding.ClockTurn.{ClockTurn}
use Rattle.eleos_machine.specs.declared.holding.FreeFrame.{FreeFrame}
use Rattle.eleos_machine.specs.Holding.{HasFrame}
use Rattle.eleos_machine.specs.Machines.{Site}
use Rattle.eleos_machine.specs.Notes.{is_noted_free, is_to_note, names, with_free, with_word}
use Rattle.eleos_machine.specs.Passes.{IsLawful, PassState, TookTurn, gave, part_seen, plan_of}
use Rattle.eleos_machine.specs.Sweeping.{MaySweep, is_on_page, noted, with_words}
use Rattle.eleos_clock.specs.declared.found.Found.{Found}
use Rattle.eleos_clock.specs.declared.found.Found.TheVariants.{Free, Sole}
use Rattle.eleos_clock.specs.Searches.{MayLook, MaySearch, Searches}
use Rattle.eleos_clock.specs.Answered.{FoundFree, FoundIn, Notes, Passed, PassedHeld, SeenFree, SeenPage, Visited}
use Rattle.eleos_clock.proofs.Noted.{unnoted_free}
use Rattle.eleos_clock.proofs.Seen.{fits_frame, page_no_frame}
use Rattle.eleos_clock.proofs.Steps.{is_taken as taken_is, other, searches_gave, searches_other, searches_then, searches_took, taken}

-- a frame that is not named is noted at the end
unnamed : (f : ℕ) (words : List Looked) → times f (Rattle.eleos_core.specs.Sweeps.frames_in words) ≡ 0 → names f words ≡ false
unnamed f [] none = refl
unnamed f (w ∷ words) none = Rattle.eleos_core.proofs.Tests.by_test (w.frame == f) (λ v. w.frame == f ≡ v → v || names f words ≡ false)
    (λ _ is. let here = ap {B = ℕ} (λ b. cond b 1 0) (eq-eqb f w.frame (sym (Rattle.std.proofs.lemmas.Bool.eqb-true w.frame f is))) in absurd (omega (arith, here, none)))
    (λ _ is. unnamed f words (omega (arith, none))) refl

-- so its note as free comes behind all others
pub freed : (f : ℕ) (words : List Looked) → times f (Rattle.eleos_core.specs.Sweeps.frames_in words) ≡ 0 → with_free f words ≡ words ++ record { frame = f; word = 0 } ∷ []
freed f words none = ap (λ b. if b then Rattle.std.specs.Prelude.map (Rattle.eleos_machine.specs.Notes.freed_note f) words else words ++ record { frame = f; word = 0 } ∷ []) (unnamed f words none)

-- a free frame is noted, and its turn given back
pub passes_free : (s : PassState) (found : FreeFrame) (free all : Bool) (fn : ℕ) (s₂ s' : PassState) → IsLawful s → free ≡ false → times found.frame (Rattle.eleos_core.specs.Sweeps.frames_in s.sweep.words) ≡ 0
    → fn ≡ frame_cell (plan_of s) found.frame → s₂ ≡ with_words s (with_free found.frame s.sweep.words) → s' ≡ gave s₂ fn → PassedHeld s found.frame free all s'
passes_free s found free all fn s₂ s' law wanted none e noted_is is =
    let b : PassState = other s (with_free found.frame s.sweep.words) s.hand in
    let fc : ℕ = frame_cell (plan_of s) found.frame in
    subst (PassedHeld s found.frame free all) (sym (is ∙ (λ i. gave (noted_is i) (e i)))) (record {
      searches = searches_then s b (gave b fc) law (λ d has. has) (searches_other s (with_free found.frame s.sweep.words) s.hand) (searches_gave b fc (law.hand.once fc));
      turns = refl;
      notes = inl (record { frame = found.frame; word = 0 }, refl, unnoted_free found.frame s.sweep.words none, inl refl, (λ yes. let wrong : true ≡ false = sym yes ∙ wanted in cc), freed found.frame s.sweep.words none);
    })

-- its own cell: a word that shows BUSY is noted, and another is not
noted_busy : (b busy noted_free : Bool) (f word : ℕ) (words : List Looked) → b ≡ false → busy ≡ true → noted_free ≡ false
    → (if (busy || (b && nat_lt 0 (pins_in word))) && not noted_free then words ++ record { frame = f; word = word } ∷ [] else words) ≡ words ++ record { frame = f; word = word } ∷ []
noted_busy b true false f word words off is free_is = refl
noted_busy b true true f word words off is free_is = cc
noted_busy b false noted_free f word words off is free_is = cc

noted_free_word : (b busy noted_free : Bool) (f word : ℕ) (words : List Looked) → b ≡ false → busy ≡ false
    → (if (busy || (b && nat_lt 0 (pins_in word))) && not noted_free then words ++ record { frame = f; word = word } ∷ [] else words) ≡ words
noted_free_word false false noted_free f word words off is = refl
noted_free_word true busy noted_free f word words off is = cc
noted_free_word false true noted_free f word words off is = cc

busy_is : (word : ℕ) → IsBusy word → is_busy word ≡ true
busy_is word busy = eq-eqb (word % 2) 1 busy

free_is : (word : ℕ) → IsFree word → is_busy word ≡ false
free_is word free = ne_eqb (word % 2) 1 (λ is. omega (arith, is, free))

own_cell : (s : PassState) (f : ℕ) → is_on_page s f (frame_cell (plan_of s) f) ≡ false
own_cell s f = ap not (eq-eqb (frame_cell (plan_of s) f) (frame_cell (plan_of s) f) refl)

module _ (z : Site) (s : PassState) (clock : ClockTurn) (f : ℕ) (may : MaySearch z s clock) (law : IsLawful s) (lt : f < all_frames (plan_of s)) (unnoted : is_noted_free f s.sweep.words ≡ false) where
  abbrev fc : ℕ
  fc = frame_cell (plan_of s) f

  -- a try of the frame's cell may be noted
  pub may_try : length s.sweep.words < all_frames (plan_of s) → MaySweep s f fc
  may_try room = record {
    frame = lt;
    within = omega (arith, lt);
    cell = inl refl;
    no_turn = may.no_frame f lt;
    no_pin = may.look.covered fc;
    room = room;
  }

  -- it was busy
  pub busy : (free all : Bool) (word : ℕ) (s' : PassState) → IsBusy word → s' ≡ record (noted s f fc word) { hand = refused_at s.hand fc word } → Passed s f free all s'
  busy free all word s' is_it is =
      let b : PassState = record (noted s f fc word) { hand = refused_at s.hand fc word } in
      subst (Passed s f free all) (sym is) (record {
        searches = searches_other s b.sweep.words b.hand;
        turns = refl;
        notes = inl (record { frame = f; word = word }, refl, unnoted, inr taken_word, (λ _. taken_word), noted_busy (is_on_page s f fc) (is_busy word) (is_noted_free f s.sweep.words) f word s.sweep.words (own_cell s f) (busy_is word is_it) unnoted);
      })
    where
      taken_word : is_taken word ≡ true
      taken_word = ap (λ b. b || nat_lt 0 (pins_in word)) (busy_is word is_it)

  -- it was taken
  module _ (word : ℕ) (x : Cell) (s₁ : PassState) (free_word : IsFree word) (took : TookTurn fc word (noted s f fc word) x s₁) (law₁ : IsLawful s₁) where
    same : noted s f fc word ≡ s
    same = ap (with_words s) (noted_free_word (is_on_page s f fc) (is_busy word) (is_noted_free f s.sweep.words) f word s.sweep.words (own_cell s f) (free_is word free_word))

    pub took' : TookTurn fc word s x s₁
    took' = subst (λ (y : PassState). TookTurn fc word y x s₁) same took

    abbrev t : PassState
    t = taken s took'.took.more fc word

    is : s₁ ≡ t
    is = taken_is fc word s x s₁ took'

    pub searches : Searches s s₁
    searches = searches_took fc word s x s₁ may.look.made took'

    pub turns : s₁.hand.turns ≡ fc ∷ s.hand.turns
    turns = ap (λ (y : PassState). y.hand.turns) is

    pub words : s₁.sweep.words ≡ s.sweep.words
    words = ap (λ (y : PassState). y.sweep.words) is

    pub plan : plan_of s₁ ≡ plan_of s
    plan = ap plan_of is

    -- with the frame's turn taken, the pass may go on to look at the page in it
    pub looks : MayLook z s₁
    looks = subst (MayLook z) (sym is) (record {
      own = may.look.own;
      made = may.look.made;
      covered = λ c. let a = may.look.covered c in let b = subst (λ (y : PassState). links_on core_terms y.hand c ≡ links_on core_terms s.hand c) is (searches.links c) in omega (arith, a, b);
      absent = λ p lt' turn. ⊎_elim
          (λ (at : page_cell (plan_of s) p ≡ fc). absurd (page_no_frame (plan_of s) p f lt' at))
          (λ (had : Has (page_cell (plan_of s) p) s.hand.turns). ap frame_in (subst (λ (y : PassState). part_seen y (page_cell (plan_of s) p) ≡ part_seen s (page_cell (plan_of s) p)) is (took'.held (page_cell (plan_of s) p) had)) ∙ may.look.absent p lt' had) turn;
    })

    pub has : HasFrame s₁ f x
    has = subst (λ (y : PassState). HasFrame y f x) (sym is) (record {
      number = lt;
      turn = inl refl;
      value = subst (λ (y : PassState). Rattle.eleos_plot.specs.Cells.part_of_cell x ≡ part_seen y fc) is took'.value;
      fits = fits_frame (plan_of s) f x lt took'.fits;
    })

    -- its turn was given back
    pub passed : (free all : Bool) (s' : PassState) → PassedHeld s₁ f free all s' → Passed s f free all s'
    passed free all s' h = record {
      searches = searches_then s s₁ s' law (λ d had. subst (Has d) (sym turns) (inr had)) searches h.searches;
      turns = h.turns ∙ ((λ i. less_one (frame_cell (plan i) f) (turns i)) ∙ ap (λ v. cond v s.hand.turns (fc ∷ less_one fc s.hand.turns)) (eq-eqb fc fc refl));
      notes = subst (λ ws. Notes free all f ws s'.sweep.words) words h.notes;
    }

    -- what a visit of it as a free frame came to, with its turn in hand, is what the whole visit came to
    pub seen_free : (found : FreeFrame) (free all : Bool) (r : Option Found) (s' : PassState) → found.frame ≡ f → SeenFree s₁ found free r s' → Visited s f free all r s'
    seen_free found free all None s' at h = passed free all s' (subst (λ g. PassedHeld s₁ g free all s') at (h all))
    seen_free found free all (Some r) s' at h = (
      subst (λ (y : Found). FoundIn s f free y s') (sym h.1) (
        h.0,
        at,
        subst (λ (y : PassState). FoundFree s found y) (sym h.2) (record {
          searches = searches;
          has = h.3;
          turns = turns ∙ ap (λ g. frame_cell (plan_of s) g ∷ s.hand.turns) (sym at);
        }),
      ),
      record { words = ap (λ (y : PassState). y.sweep.words) h.2 ∙ words; unnoted = unnoted },
    )

    -- the same where it has a page
    pub seen_page : (free all : Bool) (r : Option Found) (s' : PassState) → SeenPage s₁ f all r s' → Visited s f free all r s'
    seen_page free all None s' h = passed free all s' (h free)
    seen_page free all (Some (Free r)) s' h = absurd h
    seen_page free all (Some (Sole r)) s' h = (
      (
        h.0,
        record {
          searches = searches_then s s₁ s' law (λ d had. subst (Has d) (sym turns) (inr had)) searches h.1;
          has = h.2;
          turns = h.3 ∙ (λ i. page_cell (plan i) r.page ∷ turns i) ∙ ap (λ g. page_cell (plan_of s) r.page ∷ frame_cell (plan_of s) g ∷ s.hand.turns) (sym h.0);
        },
      ),
      record { words = h.4 ∙ words; unnoted = unnoted },
    )
