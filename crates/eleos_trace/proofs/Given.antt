-- What the tests of a command leave: there was room for it, and its actor may give it.
use Rattle.std.proofs.Common.{◌≡◌, ℕ, ◌<◌, ◌≤◌, List, [], ◌∷◌, Option, Some, None, Bool, true, false, length, nat_le, ◌&&◌, Result, Ok, refl, subst}
use Rattle.eleos_trace.specs.declared.givers.Givers.{Givers}
use Rattle.eleos_trace.specs.declared.givers.Givers.TheVariants as givers
use Rattle.eleos_trace.specs.declared.header.Header.{Header}
use Rattle.eleos_trace.specs.declared.seen.Seen.{Seen}
use Rattle.eleos_trace.specs.declared.word.Actor as actors
use Rattle.eleos_trace.specs.declared.word.Actor.TheVariants.{Swapper, Balloon, Host}
use Rattle.eleos_trace.specs.declared.word.CallWord.{CallWord}
use Rattle.eleos_trace.specs.declared.word.Word.{Word}
use Rattle.eleos_trace.specs.declared.word.Word.TheVariants.{Alloc, Free, Share, Read, Write, Move, Flip, SwapPlaces, SwapRound, SetShare, Call}
use Rattle.eleos_texts.specs.declared.why.Why.{Why}
use Rattle.eleos_texts.specs.declared.why.Why.TheVariants.{Form, Many, Actor, Range, Enclave}
use Rattle.eleos_texts.specs.Fields.{is_numeral, number, is_below, is_up_to, most_u32, is_name, is_hex, bytes_in}
use Rattle.eleos_texts.specs.Reasons.{unless, one, two, three}
use Rattle.eleos_base.specs.Limits.{most_frames}
use Rattle.eleos_base.specs.Places.{all_frames, all_pages}
use Rattle.eleos_trace.specs.Machines.{places}
use Rattle.eleos_trace.specs.Calls.{call_named, call_of, most_call, with_call}
use Rattle.eleos_trace.specs.Commands.{alloc_of, name_of, offset_of, read_of, write_of}
use Rattle.eleos_trace.specs.Frames.{is_move, is_frame_move, is_owner, owner, owners_of, page_and_frame_of, move_of}
use Rattle.eleos_trace.specs.Actors.{is_swapper, is_balloon}
use Rattle.eleos_trace.specs.Givers.{is_giver, admit, admit_round, admitted}
use Rattle.eleos_trace.specs.Host.{flip_of, swap_of, place_of}
use Rattle.eleos_trace.specs.Rounds.{swap_round_of, balloon_of}
use Rattle.eleos_trace.specs.Seen.{has_room, has_round_room}
use Rattle.eleos_trace.specs.WholeHeader.{plan_of}
use Rattle.eleos_trace.specs.declared.trace.Kind.{Kind}
use Rattle.eleos_trace.specs.declared.trace.Kind.TheVariants.{Run, Replay}
use Rattle.eleos_base.specs.declared.plan.Plan.{Plan}
use Rattle.eleos_trace.specs.Kinds.{MayGiveIn}
use Rattle.eleos_trace.specs.Replays.{IsCallerOf, IsMove}
use Rattle.eleos_texts.proofs.Inversion.{bind_ok, guard_ok, no_value, ok_is}
use Rattle.eleos_trace.proofs.Permits.{room_of, both, le_of, up_to_of, caller_of, swapper_of, balloon_actor, host_of, below_of, two_below, place_and_bit, move_ok_owners, of_enclave}

-- there was room for the command, and the actor may give it in a trace of this kind
pub record IsGiven (kind : Kind) (header : Header) (seen : Seen) (who : actors.Actor) (word : Word) : Type 0 where
  pub room : seen.commands < 100000
  pub may : MayGiveIn kind (plan_of header) who word

-- what a caller may give in a trace of either kind
module _ (plan : Plan) (who : actors.Actor) where
  pub alloc_may : (kind : Kind) (name : List ℕ) (bytes : ℕ) → IsCallerOf plan who → MayGiveIn kind plan who (Alloc name bytes)
  alloc_may Run name bytes caller = caller
  alloc_may Replay name bytes caller = caller

  -- a caller may give a free, in a run and in a replay
  pub free_may : (kind : Kind) (name : List ℕ) → IsCallerOf plan who → MayGiveIn kind plan who (Free name)
  free_may Run name caller = caller
  free_may Replay name caller = caller

  -- a caller may give a share, in a run and in a replay
  pub share_may : (kind : Kind) (name : List ℕ) → IsCallerOf plan who → MayGiveIn kind plan who (Share name)
  share_may Run name caller = caller
  share_may Replay name caller = caller

  read_may : (kind : Kind) (name : List ℕ) (offset len : ℕ) → IsCallerOf plan who → MayGiveIn kind plan who (Read name offset len)
  read_may Run name offset len caller = caller
  read_may Replay name offset len caller = caller

  write_may : (kind : Kind) (name : List ℕ) (offset : ℕ) (bytes : List ℕ) → IsCallerOf plan who → length bytes ≤ 2048 → MayGiveIn kind plan who (Write name offset bytes)
  write_may Run name offset bytes caller few = (caller, few)
  write_may Replay name offset bytes caller few = (caller, few)

-- where something is made of a call, a word named it
with_call_ok : {A : Type 0} (named : Option CallWord) (f : CallWord → Result A Why) (x : A) → with_call named f ≡ Ok x → (call : CallWord) × (f call ≡ Ok x)
with_call_ok None f x e = absurd (no_value Form x e)
with_call_ok (Some call) f x e = (call, e)

-- no test says that nobody is somebody
nobody : false ≡ true → ⊥
nobody test = cc

module _ (header : Header) (seen : Seen) (who : actors.Actor) where
  -- a command of which there is no more to say
  pub given : (kind : Kind) (made word : Word) → seen.commands < 100000 → MayGiveIn kind (plan_of header) who made → ◌≡◌ {A = Result Word Why} (Ok made) (Ok word) → IsGiven kind header seen who word
  given kind made word room may is = subst (λ (w : Word). IsGiven kind header seen who w) (ok_is made word is) (record { room = room; may = may })

  -- what is known of a command that passes the tests of every command
  admitted_ok : (may : Givers) (form room : Bool) (x : Unit {0}) → admitted header who may form room ≡ Ok x → (form ≡ true) × (room ≡ true) × (is_giver header.plan may who ≡ true)
  admitted_ok may form room x e =
      let well = guard_ok form _ Form x e in
      let many = guard_ok room _ Many x well.1 in
      let actor = guard_ok (is_giver header.plan may who) _ Actor x many.1 in
      (well.0, many.0, actor.0)

  -- what is known of a command that is admitted
  admit_ok : (may : Givers) (form : Bool) (x : Unit {0}) → admit header seen who may form ≡ Ok x → (form ≡ true) × (seen.commands < 100000) × (is_giver header.plan may who ≡ true)
  admit_ok may form x e = let tests = admitted_ok may form (has_room seen) x e in (tests.0, room_of seen tests.1, tests.2)

  -- the same of a round of the swapper or a change of a share
  admit_round_ok : (may : Givers) (form : Bool) (x : Unit {0}) → admit_round header seen who may form ≡ Ok x → (seen.commands < 100000) × (is_giver header.plan may who ≡ true)
  admit_round_ok may form x e =
      let tests = admitted_ok may form (has_room seen && has_round_room seen) x e in
      let room = both (has_room seen) (has_round_room seen) (room_of seen) (λ test. test) tests.1 in
      (room.0, tests.2)

  module _ (args : List (List ℕ)) where
    -- a name alone comes from a caller
    pub name_ok : (name : List ℕ) → name_of header seen who givers.Callers args ≡ Ok name → (seen.commands < 100000) × IsCallerOf (plan_of header) who
    name_ok name e =
        let a = bind_ok (one args) _ name e in
        let b = bind_ok (admit header seen who givers.Callers (is_name a.0)) _ name a.2 in
        let admitted = admit_ok givers.Callers _ b.0 b.1 in
        (admitted.1, caller_of header who admitted.2)

    -- a name and an offset come from a caller
    pub offset_ok : (at : List ℕ × ℕ) → offset_of header seen who givers.Callers args ≡ Ok at → (seen.commands < 100000) × IsCallerOf (plan_of header) who
    offset_ok at e =
        let a = bind_ok (two args) _ at e in
        let b = bind_ok (admit header seen who givers.Callers (is_name a.0.0 && is_numeral a.0.1)) _ at a.2 in
        let admitted = admit_ok givers.Callers _ b.0 b.1 in
        (admitted.1, caller_of header who admitted.2)

    -- a page and a frame come from the swapper, and are in the machine
    pub page_and_frame_ok : (pair : ℕ × ℕ) → page_and_frame_of header seen who givers.Swapper args ≡ Ok pair → (seen.commands < 100000) × ((who ≡ Swapper) × (pair.0 < all_pages header.plan) × (pair.1 < all_frames header.plan))
    page_and_frame_ok pair e =
        let a = bind_ok (two args) _ pair e in
        let b = bind_ok (admit header seen who givers.Swapper (is_numeral a.0.0 && is_numeral a.0.1)) _ pair a.2 in
        let admitted = admit_ok givers.Swapper _ b.0 b.1 in
        let range = guard_ok _ _ _ pair b.2 in
        let limits = two_below (all_pages header.plan) (all_frames header.plan) a.0.0 a.0.1 range.0 in
        let here : ℕ × ℕ = (number a.0.0, number a.0.1) in
        (admitted.1, subst (λ (p : ℕ × ℕ). (who ≡ Swapper) × (p.0 < all_pages header.plan) × (p.1 < all_frames header.plan)) (ok_is here pair range.1) (swapper_of who admitted.2, limits.0, limits.1))

    -- a place comes from the host, and is in the machine
    pub place_ok : (place : ℕ) → place_of header seen who givers.Host args ≡ Ok place → (seen.commands < 100000) × ((who ≡ Host) × (place < places header.plan))
    place_ok place e =
        let a = bind_ok (one args) _ place e in
        let b = bind_ok (admit header seen who givers.Host (is_numeral a.0)) _ place a.2 in
        let admitted = admit_ok givers.Host _ b.0 b.1 in
        let range = guard_ok _ _ _ place b.2 in
        (admitted.1, subst (λ (p : ℕ). (who ≡ Host) × (p < places header.plan)) (ok_is (number a.0) place range.1) (host_of who admitted.2, below_of (places header.plan) a.0 range.0))

    module _ (word : Word) where
      -- an alloc that is read had room among the commands, and its actor may give it, in a trace of this kind
      pub alloc_ok : (kind : Kind) → alloc_of header seen who givers.Callers args ≡ Ok word → IsGiven kind header seen who word
      alloc_ok kind e =
          let a = bind_ok (two args) _ word e in
          let b = bind_ok (admit header seen who givers.Callers (is_name a.0.0 && is_numeral a.0.1)) _ word a.2 in
          let admitted = admit_ok givers.Callers _ b.0 b.1 in
          let name = guard_ok _ _ _ word (guard_ok _ _ _ word b.2).1 in
          given kind (Alloc a.0.0 (number a.0.1)) word admitted.1 (alloc_may (plan_of header) who kind a.0.0 (number a.0.1) (caller_of header who admitted.2)) name.1

      -- the same of a read
      pub read_ok : (kind : Kind) → read_of header seen who givers.Callers args ≡ Ok word → IsGiven kind header seen who word
      read_ok kind e =
          let a = bind_ok (three args) _ word e in
          let b = bind_ok (admit header seen who givers.Callers (is_name a.0.0 && is_numeral a.0.1 && is_numeral a.0.2)) _ word a.2 in
          let admitted = admit_ok givers.Callers _ b.0 b.1 in
          let name = guard_ok _ _ _ word (guard_ok _ _ _ word b.2).1 in
          given kind (Read a.0.0 (number a.0.1) (number a.0.2)) word admitted.1 (read_may (plan_of header) who kind a.0.0 (number a.0.1) (number a.0.2) (caller_of header who admitted.2)) name.1

      -- the same of a write, which has at most 2048 bytes
      pub write_ok : (kind : Kind) → write_of header seen who givers.Callers args ≡ Ok word → IsGiven kind header seen who word
      write_ok kind e =
          let a = bind_ok (three args) _ word e in
          let b = bind_ok (admit header seen who givers.Callers (is_name a.0.0 && is_numeral a.0.1 && is_hex a.0.2)) _ word a.2 in
          let admitted = admit_ok givers.Callers _ b.0 b.1 in
          let range = guard_ok _ _ _ word b.2 in
          let name = guard_ok _ _ _ word range.1 in
          let few : length (bytes_in a.0.2) ≤ 2048 = (both (is_up_to most_u32 a.0.1) (nat_le (length (bytes_in a.0.2)) 2048) (λ test. test) (le_of _ _) range.0).1 in
          given kind (Write a.0.0 (number a.0.1) (bytes_in a.0.2)) word admitted.1 (write_may (plan_of header) who kind a.0.0 (number a.0.1) (bytes_in a.0.2) (caller_of header who admitted.2) few) name.1

      -- the same of a call in a run, which has at most 1024 bytes and as much room
      pub call_ok : call_of header seen who givers.Callers args ≡ Ok word → IsGiven Run header seen who word
      call_ok e =
          let a = bind_ok (three args) _ word e in
          let c = with_call_ok (call_named a.0.0) _ word a.2 in
          let b = bind_ok (admit header seen who givers.Callers (is_hex a.0.1 && is_numeral a.0.2)) _ word c.1 in
          let admitted = admit_ok givers.Callers _ b.0 b.1 in
          let range = guard_ok _ _ _ word b.2 in
          let limits = both (nat_le (length (bytes_in a.0.1)) most_call) (is_up_to most_call a.0.2) (le_of _ _) (up_to_of most_call a.0.2) range.0 in
          given Run (Call c.0 (bytes_in a.0.1) (number a.0.2)) word admitted.1 (caller_of header who admitted.2, limits.0, limits.1) range.1

      -- nobody gives a call in a replay
      pub call_no : call_of header seen who givers.Nobody args ≡ Ok word → ⊥
      call_no e =
          let a = bind_ok (three args) _ word e in
          let c = with_call_ok (call_named a.0.0) _ word a.2 in
          let b = bind_ok (admit header seen who givers.Nobody (is_hex a.0.1 && is_numeral a.0.2)) _ word c.1 in
          let admitted = admit_ok givers.Nobody _ b.0 b.1 in
          nobody admitted.2

      -- the same of a move in a replay: the balloon gives it, of a frame between the pool and an enclave of the plan
      pub move_ok : move_of header seen who givers.Balloon args ≡ Ok word → IsGiven Replay header seen who word
      unfolding owners_of
      move_ok e =
          let a = bind_ok (three args) _ word e in
          let b = bind_ok (admit header seen who givers.Balloon (is_frame_move a.0.0 a.0.1 a.0.2)) _ word a.2 in
          let admitted = admit_ok givers.Balloon _ b.0 b.1 in
          let range = bind_ok (unless ((is_below (all_frames header.plan) a.0.0, Range) ∷ []) (number a.0.0)) _ word b.2 in
          let below = guard_ok (is_below (all_frames header.plan) a.0.0) _ Range range.0 range.1 in
          let home = bind_ok (owners_of header.plan.enclaves a.0.1 a.0.2) _ word range.2 in
          let some = guard_ok (is_owner header.plan.enclaves a.0.1 && is_owner header.plan.enclaves a.0.2) _ Enclave home.0 home.1 in
          let move : is_move a.0.1 a.0.2 ≡ true = (both (is_numeral a.0.0) (is_move a.0.1 a.0.2) (λ test. test) (λ test. test) admitted.0).1 in
          let here : Option ℕ × Option ℕ = (owner a.0.1, owner a.0.2) in
          let frame = subst (λ (p : ℕ). p < all_frames header.plan) (ok_is (number a.0.0) range.0 below.1) (below_of (all_frames header.plan) a.0.0 below.0) in
          let owners = subst (λ (p : Option ℕ × Option ℕ). IsMove (plan_of header) p.0 p.1) (ok_is here home.0 some.1) (move_ok_owners header a.0.1 a.0.2 move some.0) in
          given Replay (Move range.0 home.0.0 home.0.1) word admitted.1 (balloon_actor who admitted.2, frame, owners) home.2

      -- the same of a flip in a replay: the host gives it, of a bit at a place of the plan
      pub flip_ok : flip_of header seen who givers.Host args ≡ Ok word → IsGiven Replay header seen who word
      flip_ok e =
          let a = bind_ok (two args) _ word e in
          let b = bind_ok (admit header seen who givers.Host (is_numeral a.0.0 && is_numeral a.0.1)) _ word a.2 in
          let admitted = admit_ok givers.Host _ b.0 b.1 in
          let range = guard_ok _ _ _ word b.2 in
          let limits = place_and_bit (places header.plan) a.0.0 a.0.1 range.0 in
          given Replay (Flip (number a.0.0) (number a.0.1)) word admitted.1 (host_of who admitted.2, limits.0, limits.1) range.1

      -- the same of a swap in a replay: the host gives it, of two places of the plan
      pub swap_ok : swap_of header seen who givers.Host args ≡ Ok word → IsGiven Replay header seen who word
      swap_ok e =
          let a = bind_ok (two args) _ word e in
          let b = bind_ok (admit header seen who givers.Host (is_numeral a.0.0 && is_numeral a.0.1)) _ word a.2 in
          let admitted = admit_ok givers.Host _ b.0 b.1 in
          let range = guard_ok _ _ _ word b.2 in
          let limits = two_below (places header.plan) (places header.plan) a.0.0 a.0.1 range.0 in
          given Replay (SwapPlaces (number a.0.0) (number a.0.1)) word admitted.1 (host_of who admitted.2, limits.0, limits.1) range.1

      -- the same of a round of the swapper in a run: a caller gives it in its own enclave, or the swapper in any
      pub swap_round_ok : swap_round_of header seen who givers.CallersOrSwapper args ≡ Ok word → IsGiven Run header seen who word
      swap_round_ok e =
          let a = bind_ok (two args) _ word e in
          let b = bind_ok (admit_round header seen who givers.CallersOrSwapper (is_numeral a.0.0 && is_numeral a.0.1)) _ word a.2 in
          let admitted = admit_round_ok givers.CallersOrSwapper _ b.0 b.1 in
          let range = guard_ok _ _ _ word b.2 in
          let own = guard_ok _ _ _ word range.1 in
          let may = of_enclave header Swapper is_swapper (λ n. refl) swapper_of a.0.0 who admitted.1 own.0 in
          given Run (SwapRound (number a.0.0) (number a.0.1)) word admitted.0 may own.1

      -- the same of a change of a share in a run: a caller gives it of its own enclave, or the balloon of any, to at most 512 frames
      pub balloon_ok : balloon_of header seen who givers.CallersOrBalloon args ≡ Ok word → IsGiven Run header seen who word
      balloon_ok e =
          let a = bind_ok (two args) _ word e in
          let b = bind_ok (admit_round header seen who givers.CallersOrBalloon (is_numeral a.0.0 && is_numeral a.0.1)) _ word a.2 in
          let admitted = admit_round_ok givers.CallersOrBalloon _ b.0 b.1 in
          let range = guard_ok _ _ _ word b.2 in
          let own = guard_ok _ _ _ word range.1 in
          let may = of_enclave header Balloon is_balloon (λ n. refl) balloon_actor a.0.0 who admitted.1 own.0 in
          given Run (SetShare (number a.0.0) (number a.0.1)) word admitted.0 (may, up_to_of most_frames a.0.1 range.0) own.1

      -- nobody gives a round of the swapper in a replay
      pub swap_round_no : swap_round_of header seen who givers.Nobody args ≡ Ok word → ⊥
      swap_round_no e =
          let a = bind_ok (two args) _ word e in
          let b = bind_ok (admit_round header seen who givers.Nobody (is_numeral a.0.0 && is_numeral a.0.1)) _ word a.2 in
          nobody (admit_round_ok givers.Nobody _ b.0 b.1).1

      -- nor a change of a share
      pub balloon_no : balloon_of header seen who givers.Nobody args ≡ Ok word → ⊥
      balloon_no e =
          let a = bind_ok (two args) _ word e in
          let b = bind_ok (admit_round header seen who givers.Nobody (is_numeral a.0.0 && is_numeral a.0.1)) _ word a.2 in
          nobody (admit_round_ok givers.Nobody _ b.0 b.1).1
