-- Pages leave their frames one after another.
use Rattle.std.proofs.Common.{◌≡◌, inl, inr, ℕ, ◌+◌, ◌<◌, ◌≤◌, List, [], ◌∷◌, ◌++◌, length, true, false, refl, sym, ◌∙◌, ap, subst, arith, append-nil, length-append}
use Rattle.std.proofs.lemmas.List.{length-map}
use Rattle.eleos_base.specs.declared.memory.Looked.{Looked}
use Rattle.eleos_base.specs.Places.{all_frames}
use Rattle.eleos_core.specs.Applying.{puts_of}
use Rattle.eleos_core.specs.Legal.{IsActor}
use Rattle.eleos_core.specs.Parts.{Made}
use Rattle.eleos_core.specs.Sweeps.{frames_in}
use Rattle.eleos_host.specs.declared.port.HostPort.{Ghosts}
use Rattle.eleos_host.specs.declared.port.HostStore as store
use Rattle.eleos_host.specs.Taps.{TapState}
use Rattle.eleos_pages.specs.Crossed.{HasCrossed}
use Rattle.eleos_plot.specs.Cells.{is_hand_within}
use Rattle.eleos_machine.specs.declared.holding.ClockTurn.{ClockTurn}
use Rattle.eleos_machine.specs.Machines.{Site, plan_at, seals_at}
use Rattle.eleos_machine.specs.Passes.{IsLawful, PassState, plan_of, seen}
use Rattle.eleos_clock.specs.Frees.{AreFree}
use Rattle.eleos_clock.specs.Lists.{AllNoted}
use Rattle.eleos_clock.specs.Searches.{MaySearch}
use Rattle.eleos_clock.proofs.Steps.{searches_same}
use Rattle.eleos_swap.specs.declared.evicts.Evicted.{Evicted}
use Rattle.eleos_swap.specs.Evicts.{EvictedNone, EvictedOne, Evicts, GoesOn, entry_of}
use Rattle.eleos_swap.specs.Making.{AreEvicts, HandMoves, IsEvict, Makes}
use Rattle.eleos_swap.proofs.Listed.{few_listed, few_of_machine}
use Rattle.eleos_swap.proofs.Notes.{shorter}
use Rattle.eleos_swap.proofs.Steps.{evicts_more, evicts_on, makes_none, makes_on, may_makes, seen_on}

-- there are no more notes of free frames than frames
few_notes : (list : List ℕ) (ws : List Looked) → AreFree list ws → length ws ≤ length list
few_notes list ws free = let a = shorter (frames_in ws) list free.once in let b = length-map ws (λ (seen : Looked). seen.frame) in omega (arith, a, b)

-- the hand moved twice
moves_on : (a b c : ClockTurn) → HandMoves a b → HandMoves b c → HandMoves a c
moves_on a b c first next = record {
  same = next.same ∙ ap (λ (y : ClockTurn). record y { hand = c.hand }) first.same;
  within = subst (λ (y : ClockTurn). is_hand_within y.clock c.hand ≡ true) first.same next.within;
}

module _ (z : Site) (s : PassState) (clock : ClockTurn) (may : MaySearch z s clock) (law : IsLawful s) (low : ℕ) where
  few_frames : length clock.clock ≤ all_frames (plan_of s)
  few_frames = few_of_machine s law may.enclave clock may.turn

  -- a list has few frames
  pub few_in_list : length clock.clock ≤ 512
  few_in_list = few_listed s law may.enclave clock may.turn

  module _ {P : Type 0} (port : Ghosts P) (host : store.Ghosts P) (before : TapState P) where
    -- none was evicted yet
    pub begins : AreFree clock.clock s.sweep.words → GoesOn port host s before clock low 0 s before clock
    begins free = record {
      made = [];
      makes = makes_none s s (searches_same s) refl;
      evicts = refl;
      count = refl;
      wanted = omega arith;
      grown = omega arith;
      free = free;
      hand = record { same = refl; within = may.turn.hand_within };
    }

    module _ (i : ℕ) (s' : PassState) (tap : TapState P) (clock' : ClockTurn) (far : GoesOn port host s before clock low i s' tap clock') where
      list_is : clock'.clock ≡ clock.clock
      list_is = ap (λ (y : ClockTurn). y.clock) far.hand.same

      -- the search may go on
      pub may_go : MaySearch z s' clock'
      may_go = may_makes z s s' clock clock' far.made may far.makes far.hand

      -- all notes are of free frames
      pub free_still : AreFree clock'.clock s'.sweep.words
      free_still = subst (λ list. AreFree list s'.sweep.words) (sym list_is) far.free

      -- the pass has its number
      pub actor_still : IsActor (plan_at z) s.hand.number → IsActor (plan_at z) s'.hand.number
      actor_still actor = subst (IsActor (plan_at z)) (sym far.makes.goes.number) actor

      few_made : i ≤ all_frames (plan_of s)
      few_made = let a = far.grown in let b = few_notes clock.clock s'.sweep.words far.free in let c = few_frames in omega (arith, a, b, c)

      -- and a stamp
      pub left_still : all_frames (plan_at z) < s.hand.left → 0 < s'.hand.left
      left_still left = let a = far.makes.goes.left in let b = far.count in let c = few_made in let d = ap (λ (y : Site). all_frames (plan_at y)) may.look.own in omega (arith, a, b, c, d, left)

      -- there are no more evicts than frames
      pub exhausted : length clock.clock < i → ⊥
      exhausted past = let a = far.grown in let b = few_notes clock.clock s'.sweep.words far.free in omega (arith, a, b, past)

      -- enough are noted as free
      pub enough : low ≤ length s'.sweep.words → Evicts port host s before clock.clock low s' tap
      enough some = record {
        made = far.made;
        makes = far.makes;
        evicts = far.evicts;
        wanted = (let a = far.wanted in let b = far.count in omega (arith, a, b));
        few = (let a = few_made in let b = far.count in omega (arith, a, b));
        stop = inr (far.free, some);
      }

      module _ (s'' : PassState) (tap' : TapState P) where
        -- no page was left to evict
        pub swept : EvictedNone s' clock'.clock s'' → tap' ≡ tap → Evicts port host s before clock.clock low s'' tap'
        swept none same = record {
          made = far.made ++ [];
          makes = makes_on s s' s'' far.made [] far.makes none.makes;
          evicts = subst (λ (y : List Made × TapState P). AreEvicts port host s.hand.home (seen s'') s''.sweep.words s.hand.number y.0 before y.1) (λ j. (sym (append-nil far.made) j, sym same j))
              (evicts_on port host s.hand.home (seen s') (seen s'') s'.sweep.words s''.sweep.words s.hand.number far.made before tap (seen_on s' s'' [] none.makes.goes) none.keeps far.evicts);
          wanted = (let a = far.wanted in let b = far.count in let c = length-append far.made [] in omega (arith, a, b, c));
          few = (let a = few_made in let b = far.count in let c = length-append far.made [] in omega (arith, a, b, c));
          stop = inl (subst (λ list. AllNoted list false s''.sweep.words) list_is none.noted);
        }

        -- one more was evicted, since fewer than wanted were noted as free
        pub goes_on : (one : Evicted) (clock'' : ClockTurn) → length s'.sweep.words < low → EvictedOne port host s' tap clock'.clock one s'' tap' → HandMoves clock' clock''
            → GoesOn port host s before clock low (i + 1) s'' tap' clock''
        goes_on one clock'' fewer did moves = record {
          made = far.made ++ entry ∷ [];
          makes = makes_on s s' s'' far.made (entry ∷ []) far.makes (subst (λ k. Makes s' (entry_of k one ∷ []) s'') number did.makes);
          evicts = evicts_more port host s.hand.home (seen s'') s''.sweep.words s.hand.number far.made entry before tap tap'
              (evicts_on port host s.hand.home (seen s') (seen s'') s'.sweep.words s''.sweep.words s.hand.number far.made before tap (seen_on s' s'' (entry_of s'.hand.number one ∷ []) did.makes.goes) did.keeps far.evicts)
              its.0 its.1;
          count = (let a = far.count in let b = length-append far.made (entry ∷ []) in omega (arith, a, b));
          wanted = (let a = far.grown in omega (arith, a, fewer));
          grown = (let a = far.grown in let b = did.grown in omega (arith, a, b));
          free = subst (λ list. AreFree list s''.sweep.words) list_is did.free;
          hand = moves_on clock clock' clock'' far.hand moves;
        } where
          number : s'.hand.number ≡ s.hand.number
          number = far.makes.goes.number

          entry : Made
          entry = entry_of s.hand.number one

          Its : Site → ℕ → Type 0
          Its y k = (is : IsEvict y (seen s'') s''.sweep.words k (entry_of k one)) × HasCrossed port host tap tap' [] (puts_of (plan_at y) (seals_at y) (entry_of k one).1.entry is.past)

          its : Its s.hand.home s.hand.number
          its = subst (λ (y : Site × ℕ). Its y.0 y.1) (λ j. (far.makes.goes.home j, number j)) (did.is, did.crossed)
