-- A visit of a frame that has a page, whose turn the pass has.
use Rattle.std.proofs.Common.{◌≡◌, inl, inr, ℕ, ◌%◌, ◌<◌, ◌≤◌, ◌&&◌, ◌||◌, List, [], ◌∷◌, ◌++◌, length, Bool, true, false, not, cond, nat_lt, Some, None, if◌then◌else◌, refl, sym, ◌∙◌, ap, subst, arith}
use Rattle.std.proofs.lemmas.Bool.{eq-eqb, ne_eqb}
use Rattle.eleos_base.specs.declared.memory.Looked.{Looked}
use Rattle.eleos_base.specs.Ties.{Has}
use Rattle.eleos_core.specs.Parts.{Part, Stamp, frame_cell, holder_in, page_cell}
use Rattle.eleos_base.specs.Places.{all_frames, all_pages}
use Rattle.eleos_base.specs.Words.{IsFree, is_taken, pins_in}
use Rattle.eleos_plot.specs.declared.cell.Cell.{Cell}
use Rattle.eleos_plot.specs.declared.plot.Ground.{Ground}
use Rattle.eleos_plot.specs.Terms.{core_terms}
use Rattle.eleos_turn.specs.Hands.{HandState, links_on, looked_at, refused_at}
use Rattle.eleos_turn.specs.Numbers.{less_one, times}
use Rattle.eleos_turn.proofs.Clients.{took_clean}
use Rattle.eleos_machine.specs.Holding.{HasFrame, HasSole, holder_seen}
use Rattle.eleos_machine.specs.Machines.{Site}
use Rattle.eleos_machine.specs.Notes.{is_noted_free, with_word}
use Rattle.eleos_machine.specs.Passes.{IsLawful, PassState, TookTurn, gave, part_seen, plan_of}
use Rattle.eleos_plot.specs.Cells.{part_of_cell}
use Rattle.eleos_machine.specs.Sweeping.{MaySweep, is_on_page, noted}
use Rattle.eleos_clock.specs.Searches.{MayLook, Searches}
use Rattle.eleos_clock.specs.Answered.{Notes, PassedHeld}
use Rattle.eleos_clock.proofs.Seen.{fits_page, page_in, page_no_frame}
use Rattle.eleos_clock.proofs.Steps.{is_taken as taken_is, other, searches_gave, searches_other, searches_then, searches_took, taken}

-- a word without BUSY and without pins is not taken
free_unpinned : (word : ℕ) → IsFree word → pins_in word ≡ 0 → is_taken word ≡ false
free_unpinned word free none = ap (λ b. b || nat_lt 0 (pins_in word)) (ne_eqb (word % 2) 1 (λ is. omega (arith, is, free))) ∙ ap (nat_lt 0) none

-- what is noted of a page's word
note_taken : (on noted_free : Bool) (f word : ℕ) (words : List Looked) → on ≡ true → noted_free ≡ false → is_taken word ≡ true
    → (if (Rattle.eleos_base.specs.Words.is_busy word || (on && nat_lt 0 (pins_in word))) && not noted_free then words ++ record { frame = f; word = word } ∷ [] else words) ≡ words ++ record { frame = f; word = word } ∷ []
note_taken true false f word words on_is free_is is = ap (λ b. if b && true then words ++ record { frame = f; word = word } ∷ [] else words) is
note_taken true true f word words on_is free_is is = cc
note_taken false noted_free f word words on_is free_is is = cc

note_free : (on noted_free : Bool) (f word : ℕ) (words : List Looked) → on ≡ true → is_taken word ≡ false
    → (if (Rattle.eleos_base.specs.Words.is_busy word || (on && nat_lt 0 (pins_in word))) && not noted_free then words ++ record { frame = f; word = word } ∷ [] else words) ≡ words
note_free true noted_free f word words on_is is = ap (λ b. if b && not noted_free then words ++ record { frame = f; word = word } ∷ [] else words) is
note_free false noted_free f word words on_is is = cc

-- a note that shows pins or BUSY
pub notes_taken : (free all : Bool) (f word : ℕ) (words words' : List Looked) → is_noted_free f words ≡ false → is_taken word ≡ true → words' ≡ words ++ record { frame = f; word = word } ∷ [] → Notes free all f words words'
notes_taken free all f word words words' unnoted is more = inl (record { frame = f; word = word }, refl, unnoted, inr is, (λ _. is), more)

module _ (z : Site) (s : PassState) (f p : ℕ) (held : Cell) (look : MayLook z s) (law : IsLawful s) (has : HasFrame s f held) (holds : holder_seen s f ≡ Some p) (lt : p < all_pages (plan_of s)) where
  abbrev c : ℕ
  c = page_cell (plan_of s) p

  abbrev fc : ℕ
  fc = frame_cell (plan_of s) f

  -- the frame's cell is not the page's
  pub on_page : is_on_page s f c ≡ true
  on_page = ap not (ne_eqb c fc (page_no_frame (plan_of s) p f lt))

  pub page_unheld : Has c s.hand.turns → ⊥
  page_unheld turn = let absent = look.absent p lt turn in let present = page_in s law f p has.number lt holds in let wrong : Some f ≡ None = sym present ∙ absent in cc

  module _ (words : List Looked) (glimpse : HandState Stamp Part Ground) where
    abbrev b : PassState
    b = other s words glimpse

    -- a step on the page's cell may be noted
    pub may_sweep : length words < all_frames (plan_of s) → MaySweep b f c
    may_sweep room = record {
      frame = has.number;
      within = let n = has.number in omega (arith, lt, n);
      cell = inr (record { turn = has.turn; page = p; holds = holds; cell = refl });
      no_turn = page_unheld;
      no_pin = look.covered c;
      room = room;
    }

    -- the frame is passed, and its turn given back
    pub passes : (free all : Bool) → Notes free all f s.sweep.words words → PassedHeld s f free all (gave b fc)
    passes free all notes = record {
      searches = searches_then s b (gave b fc) law (λ d has. has) (searches_other s words glimpse) (searches_gave b fc (law.hand.once fc));
      turns = refl;
      notes = notes;
    }

    -- the page's turn was taken
    module _ (n : ℕ) (x : Cell) (s' : PassState) (took : TookTurn c n b x s') (law' : IsLawful s') where
      abbrev t : PassState
      t = taken b took.took.more c n

      is : s' ≡ t
      is = taken_is c n b x s' took

      searches : Searches s s'
      searches = searches_then s b s' law (λ d has. has) (searches_other s words glimpse) (searches_took c n b x s' look.made took)

      -- it shows pins, so that both turns are given back
      pub passes_pinned : (free all : Bool) → Notes free all f s.sweep.words words → PassedHeld s f free all (gave (gave s' c) fc)
      passes_pinned free all notes = subst (λ (y : PassState). PassedHeld s f free all (gave (gave y c) fc)) (sym is) (record {
        searches = searches_then s (gave t c) (gave (gave t c) fc) law (λ d has. subst (Has d) (sym back) has)
            (searches_then s t (gave t c) law (λ d has. inr has) (subst (Searches s) is searches) (searches_gave t c (subst (λ (y : PassState). times c y.hand.turns ≤ 1) is (law'.hand.once c))))
            (searches_gave (gave t c) fc (subst (λ ts. times fc ts ≤ 1) (sym back) (law.hand.once fc)));
        turns = ap (less_one fc) back;
        notes = notes;
      }) where
        back : less_one c (c ∷ s.hand.turns) ≡ s.hand.turns
        back = ap (λ v. cond v s.hand.turns (c ∷ less_one c s.hand.turns)) (eq-eqb c c refl)

      -- it shows none
      pub finds : pins_in n ≡ 0 → times c s.hand.pins ≤ pins_in n
          → Searches s s' × HasSole s' (record { page = p; frame = f; page_cell = x; frame_cell = held }) × (s'.hand.turns ≡ c ∷ s.hand.turns)
      finds none few = (
        searches,
        subst (λ (y : PassState). HasSole y (record { page = p; frame = f; page_cell = x; frame_cell = held })) (sym is) (record {
          page = record {
            number = lt;
            turn = inl refl;
            value = subst (λ (y : PassState). Rattle.eleos_plot.specs.Cells.part_of_cell x ≡ part_seen y c) is took.value;
            fits = fits_page (plan_of s) p x lt took.fits;
          };
          frame = record {
            number = has.number;
            turn = inr has.turn;
            value = has.value ∙ sym there;
            fits = has.fits;
          };
          in_frame = page_in t (subst IsLawful is law') f p has.number lt (ap holder_in there ∙ holds);
          clean = subst (λ (y : PassState). Has c y.hand.clean) is (took_clean core_terms c n b.hand s'.hand x took.took none);
          no_link = let l = subst (λ (y : PassState). links_on core_terms y.hand c ≡ links_on core_terms s.hand c) is (searches.links c) in let o = law.hand.covered look.made c in omega (arith, l, o, none, few);
        }),
        ap (λ (y : PassState). y.hand.turns) is,
      ) where
        there : part_seen t fc ≡ part_seen s fc
        there = subst (λ (y : PassState). part_seen y fc ≡ part_seen s fc) is (took.held fc has.turn)

  -- the same with the numbers of the cells as the program finds them
  module _ (all : Bool) (cn fn w : ℕ) (s₂ : PassState) (e : cn ≡ c) (e' : fn ≡ fc) (unnoted : is_noted_free f s.sweep.words ≡ false)
      (looked : s₂ ≡ record (noted s f cn w) { hand = looked_at s.hand cn w }) where
    abbrev with : ℕ → List Looked → List Looked
    with word words = with_word (is_on_page s f c) f word words

    abbrev b₂ : PassState
    b₂ = other s (with w s.sweep.words) (looked_at s.hand c w)

    look_is : s₂ ≡ b₂
    look_is = looked ∙ (λ i. record (noted s f (e i) w) { hand = looked_at s.hand (e i) w })

    -- the look found it taken
    pub passed_taken : is_taken w ≡ true → (s' : PassState) → s' ≡ gave s₂ fn → (free : Bool) → PassedHeld s f free all s'
    passed_taken taken_is s' is free = subst (PassedHeld s f free all) (sym (is ∙ (λ i. gave (look_is i) (e' i))))
        (passes (with w s.sweep.words) (looked_at s.hand c w) free all (notes_taken free all f w s.sweep.words (with w s.sweep.words) unnoted taken_is
        (note_taken (is_on_page s f c) (is_noted_free f s.sweep.words) f w s.sweep.words on_page unnoted taken_is)))

    module _ (untaken : is_taken w ≡ false) where
      kept : with w s.sweep.words ≡ s.sweep.words
      kept = note_free (is_on_page s f c) (is_noted_free f s.sweep.words) f w s.sweep.words on_page untaken

      -- it was touched, and not all are to be seen
      pub passed_marked : all ≡ false → (s' : PassState) → s' ≡ gave s₂ fn → (free : Bool) → PassedHeld s f free all s'
      passed_marked not_all s' is free = subst (PassedHeld s f free all) (sym (is ∙ (λ i. gave (look_is i) (e' i))))
          (passes (with w s.sweep.words) (looked_at s.hand c w) free all (inr (kept, λ yes. let wrong : true ≡ false = sym yes ∙ not_all in cc)))

      -- its cell may be tried
      pub may_try : length s.sweep.words < all_frames (plan_of s) → MaySweep s₂ f cn
      may_try room = subst (λ (y : PassState). MaySweep y f cn) (sym look_is) (subst (MaySweep b₂ f) (sym e)
          (may_sweep (with w s.sweep.words) (looked_at s.hand c w) (subst (λ ws. length ws < all_frames (plan_of s)) (sym kept) room)))

      -- the try found it busy
      pub passed_busy : (n : ℕ) (s₃ : PassState) → is_taken n ≡ true → s₃ ≡ record (noted s₂ f cn n) { hand = refused_at s₂.hand cn n } → (s' : PassState) → s' ≡ gave s₃ fn → (free : Bool) → PassedHeld s f free all s'
      passed_busy n s₃ taken_is tried s' is free =
          let b₃ : PassState = other s (with n (with w s.sweep.words)) (refused_at (looked_at s.hand c w) c n) in
          let try_is : s₃ ≡ b₃ = tried ∙ (λ i. record (noted (look_is i) f (e i) n) { hand = refused_at (look_is i).hand (e i) n }) in
          subst (PassedHeld s f free all) (sym (is ∙ (λ i. gave (try_is i) (e' i))))
          (passes (with n (with w s.sweep.words)) (refused_at (looked_at s.hand c w) c n) free all
          (notes_taken free all f n s.sweep.words (with n (with w s.sweep.words)) unnoted taken_is (ap (with n) kept ∙ note_taken (is_on_page s f c) (is_noted_free f s.sweep.words) f n s.sweep.words on_page unnoted taken_is)))

      -- the try took it
      module _ (n : ℕ) (x : Cell) (s₃ : PassState) (took : TookTurn cn n (noted s₂ f cn n) x s₃) (law₃ : IsLawful s₃) where
        took_is : TookTurn c n (other s (with n (with w s.sweep.words)) (looked_at s.hand c w)) x s₃
        took_is = subst (λ (y : ℕ × PassState). TookTurn y.0 n y.1 x s₃) (λ i. (e i, noted (look_is i) f (e i) n)) took

        -- the value in hand of the frame's cell is still right, once the page's turn was taken and given back
        pub frame_right : part_of_cell held ≡ part_seen (gave s₃ cn) fn
        frame_right = has.value ∙ sym (took_is.held fc has.turn) ∙ ap (part_seen s₃) (sym e')

        -- and found pins
        pub passed_pinned : is_taken n ≡ true → (s' : PassState) → s' ≡ gave (gave s₃ cn) fn → (free : Bool) → PassedHeld s f free all s'
        passed_pinned taken_is s' is free = subst (PassedHeld s f free all) (sym (is ∙ (λ i. gave (gave s₃ (e i)) (e' i))))
            (passes_pinned (with n (with w s.sweep.words)) (looked_at s.hand c w) n x s₃ took_is law₃ free all
            (notes_taken free all f n s.sweep.words (with n (with w s.sweep.words)) unnoted taken_is (ap (with n) kept ∙ note_taken (is_on_page s f c) (is_noted_free f s.sweep.words) f n s.sweep.words on_page unnoted taken_is)))

        -- and found none: it noted nothing
        pub found_words : IsFree n → pins_in n ≡ 0 → s₃.sweep.words ≡ s.sweep.words
        found_words free_word none = ap (λ (y : PassState). y.sweep.words) took_is.rest
            ∙ (ap (with n) kept ∙ note_free (is_on_page s f c) (is_noted_free f s.sweep.words) f n s.sweep.words on_page (free_unpinned n free_word none))

        -- and the page is found: nobody links it, and the pass has its turn beside those that it had
        pub found_sole : pins_in n ≡ 0 → times cn s₂.hand.pins ≤ pins_in n → Searches s s₃ × HasSole s₃ (record { page = p; frame = f; page_cell = x; frame_cell = held }) × (s₃.hand.turns ≡ c ∷ s.hand.turns)
        found_sole none few = finds (with n (with w s.sweep.words)) (looked_at s.hand c w) n x s₃ took_is law₃ none (subst (λ (y : ℕ × PassState). times y.0 y.1.hand.pins ≤ pins_in n) (λ i. (e i, look_is i)) few)
