-- A cell that an entry does not touch keeps its part.
use Rattle.std.proofs.Common.{◌≡◌, ℕ, ◌+◌, ◌*◌, ◌<◌, ◌==◌, ◌&&◌, ◌||◌, List, [], ◌∷◌, ◌++◌, length, map, filter, Bool, true, false, not, Option, Some, None, is_some, if◌then◌else◌, refl, sym, ◌∙◌, subst, ap, inl, inr}
use Rattle.std.proofs.lemmas.Bool.{eqb-true}
use Rattle.eleos_base.specs.declared.memory.Live.{Live}
use Rattle.eleos_base.specs.declared.memory.Op.{Op as Calls}
use Rattle.eleos_base.specs.declared.memory.Op.TheVariants.{Alloc, Free, Share, Read, Write}
use Rattle.eleos_base.specs.declared.memory.Reply.{Reply}
use Rattle.eleos_base.specs.declared.memory.Reply.TheVariants.{BadSize}
use Rattle.eleos_base.specs.declared.plan.Plan.{Plan}
use Rattle.eleos_base.specs.Plain.{alloc_answer, blocks_after, is_accepted, is_good_size, is_in_run, lowest_run, subs_for}
use Rattle.eleos_base.specs.Plans.{IsGood, enclave_of, sub_bytes}
use Rattle.eleos_base.specs.Ties.{Has}
use Rattle.eleos_core.specs.declared.event.Entry.{Entry}
use Rattle.eleos_core.specs.declared.event.Event.{Event}
use Rattle.eleos_core.specs.declared.event.Event.TheVariants.{Op, Fill, Evict, Move}
use Rattle.eleos_core.specs.Legal.{CoreStep}
use Rattle.eleos_core.specs.PartLaws.{IsLenOf}
use Rattle.eleos_core.specs.Parts.{SubPart, alloc_cell, alloc_part, block_by, block_foot, block_in, clock_cell, clock_part, foot_of, frame_cell, frame_part, home_of_sub, is_in_block, is_zeroed, len_of, page_cell, page_part, pages_of_run, part_at, part_of, start_of, sub_part}
use Rattle.eleos_base.specs.Places.{Owner, all_pages, blank_bytes, page_of, per_page, sub_of, subs}
use Rattle.eleos_core.specs.Seals.{Seals}
use Rattle.eleos_core.specs.State.{History, bytes, covers, entry, evicts, fills, frame, frames_of, holder, is_dirty, is_owner, is_present, is_sealed, last, live, opened, owner, rewritten, sealing, version, writes}
use Rattle.eleos_core.proofs.CellNumbers.{by_cell, map_same}
use Rattle.eleos_core.proofs.Covering.{InOrder, block_after, zeroes}
use Rattle.eleos_core.proofs.Lives.{false_of}
use Rattle.eleos_core.proofs.Numbers.{has_page, page_within}
use Rattle.eleos_core.proofs.SubParts.{written, writes_no_other}
use Rattle.eleos_core.proofs.Tests.{by_test, second_of}

has_map : (k : Plan) (p : ℕ) (ps : List ℕ) → Has p ps → Has (page_cell k p) (map (page_cell k) ps)
has_map k p [] h = h
has_map k p (q ∷ qs) (inl e) = inl (ap (page_cell k) e)
has_map k p (q ∷ qs) (inr h) = inr (has_map k p qs h)

-- the cells of the pages of a run have those of its sub-pages
has_page_cell : (k : Plan) (start len s : ℕ) → is_in_run start len s ≡ true → Has (page_cell k (page_of k s)) (map (page_cell k) (pages_of_run k start len))
has_page_cell k start len s is = has_map k (page_of k s) (pages_of_run k start len) (has_page k start len s is)

module _ (k : Plan) (x : Seals) (past : History) (who : ℕ) (event : Event) (blocks : List (List ℕ)) (reply : Reply) where
  abbrev e : Entry
  e = entry who event blocks reply

  -- the sub-page's part, by what the entry is to it
  abbrev shown : ℕ → Bool → Bool → Bool → Bool → Option ℕ → Option Live → SubPart
  shown s c v w fl q o =
      let sl = (v && is_dirty k past s) || (w && not (is_present k past s)) in
      let n = if sl then version k past s + 1 else version k past s in
      let g = if c then false else if sl then true else is_sealed k past s in record {
        block = o;
        version = n;
        is_sealed = g;
        tag = if g then x.tag s n (if sl then x.seal s (version k past s + 1) (sealing k x e past s) else last k x past s) else [];
        is_dirty = if c || v then false else if w then is_present k past s else is_dirty k past s;
        bytes = if is_some q then if c then blank_bytes k else if fl then opened k x e past s else if w && is_present k past s then rewritten k who event (bytes k x past s) else bytes k x past s else [];
      }

  sub_quiet : (s : ℕ) → covers k who event reply past s ≡ false → evicts k event s ≡ false → writes k who event reply s ≡ false → fills k event reply s ≡ false
      → frame (e ∷ past) (page_of k s) ≡ frame past (page_of k s) → block_in k (home_of_sub k s) (live k (e ∷ past) (home_of_sub k s)) s ≡ block_in k (home_of_sub k s) (live k past (home_of_sub k s)) s
      → sub_part k x (e ∷ past) s ≡ sub_part k x past s
  sub_quiet s c v w fl q o i = shown s (c i) (v i) (w i) (fl i) (q i) (o i)

module _ (k : Plan) (x : Seals) (past : History) where
  -- a call whose foot does not have the page of a sub-page has no block with it
  bad_size : (who n : ℕ) (blocks : List (List ℕ)) (reply : Reply) → CoreStep k x past (entry who (Op (Alloc n)) blocks reply) → is_good_size n ≡ false → reply ≡ BadSize
  bad_size who n blocks reply step bad = step.step.reply_is ∙ ap (λ v. if v then alloc_answer (sub_bytes k (enclave_of k who)) (enclave_of k who) (lowest_run (live k past (enclave_of k who)) (subs k (enclave_of k who)) (subs_for (sub_bytes k (enclave_of k who)) n)) else BadSize) bad

  no_block : (who : ℕ) (event : Event) (blocks : List (List ℕ)) (reply : Reply) (len s : ℕ) → CoreStep k x past (entry who event blocks reply) → (Has (page_cell k (page_of k s)) (foot_of k who event reply len) → ⊥) → is_in_block k who event reply len s ≡ true → ⊥
  no_block who (Op (Alloc n)) blocks reply len s step out e = by_test (is_good_size n) (λ v. is_good_size n ≡ v → (Has (page_cell k (page_of k s)) (if v then alloc_cell k (enclave_of k who) ∷ block_foot k who (Alloc n) reply len else []) → ⊥) → ⊥)
      (λ _ good o. o (inr (has_page_cell k (start_of k who (Alloc n) reply) (len_of k who (Alloc n) reply len) s e)))
      (λ _ bad o. let none : len_of k who (Alloc n) reply len ≡ 0 = ap (λ (r : Reply). len_of k who (Alloc n) r len) (bad_size who n blocks reply step bad) in
      let z : is_in_run (start_of k who (Alloc n) reply) 0 s ≡ true = subst (λ (l : ℕ). is_in_run (start_of k who (Alloc n) reply) l s ≡ true) none e in
      has_page_cell k (start_of k who (Alloc n) reply) 0 s z) refl out
  no_block who (Op (Free at)) blocks reply len s step out e = out (inr (has_page_cell k (start_of k who (Free at) reply) (len_of k who (Free at) reply len) s e))
  no_block who (Op (Share at)) blocks reply len s step out e = out (inr (has_page_cell k (start_of k who (Share at) reply) (len_of k who (Share at) reply len) s e))
  no_block who (Op (Read at n)) blocks reply len s step out e = has_page_cell k 0 0 s e
  no_block who (Op (Write at new)) blocks reply len s step out e = has_page_cell k 0 0 s e
  no_block who _ blocks reply len s step out e = cc

  not_zeroed : (who : ℕ) (event : Event) (reply : Reply) (len s : ℕ) → is_in_block k who event reply len s ≡ false → is_zeroed k who event reply len s ≡ false
  not_zeroed who (Op (Share at)) reply len s e = refl
  not_zeroed who (Op (Alloc n)) reply len s e = e
  not_zeroed who (Op (Free at)) reply len s e = e
  not_zeroed who (Op (Read at n)) reply len s e = e
  not_zeroed who (Op (Write at new)) reply len s e = e
  not_zeroed who _ reply len s e = e

  writes_none : (who : ℕ) (event : Event) (blocks : List (List ℕ)) (reply : Reply) (len s : ℕ) → CoreStep k x past (entry who event blocks reply) → (Has (page_cell k (page_of k s)) (foot_of k who event reply len) → ⊥) → writes k who event reply s ≡ true → ⊥
  writes_none who (Op (Write at new)) blocks reply len s step out e =
      let w = written k x past who at new blocks reply s step e in
      let home : ℕ = enclave_of k who in
      subst (λ v. (Has (page_cell k (page_of k s)) (if v then page_cell k (page_of k (sub_of k at)) ∷ [] else []) → ⊥) → ⊥) (sym w.in_range) (λ o. o (inl (ap (λ q. page_cell k (page_of k q)) (sym w.there)))) out
  writes_none who (Op (Alloc n)) blocks reply len s step out e = writes_no_other k who (Alloc n) reply s e
  writes_none who (Op (Free at)) blocks reply len s step out e = writes_no_other k who (Free at) reply s e
  writes_none who (Op (Share at)) blocks reply len s step out e = writes_no_other k who (Share at) reply s e
  writes_none who (Op (Read at n)) blocks reply len s step out e = writes_no_other k who (Read at n) reply s e
  writes_none who _ blocks reply len s step out e = cc

  fills_none : (who : ℕ) (event : Event) (reply : Reply) (len s : ℕ) → (Has (page_cell k (page_of k s)) (foot_of k who event reply len) → ⊥) → fills k event reply s ≡ true → ⊥
  fills_none who (Fill p f) reply len s out e = out (inl (ap (page_cell k) (eqb-true (page_of k s) p (second_of (is_accepted reply) (page_of k s == p) e))))
  fills_none who _ reply len s out e = cc

  evicts_none : (who : ℕ) (event : Event) (reply : Reply) (len s : ℕ) → (Has (page_cell k (page_of k s)) (foot_of k who event reply len) → ⊥) → evicts k event s ≡ true → ⊥
  evicts_none who (Evict p f) reply len s out e = out (inl (ap (page_cell k) (eqb-true (page_of k s) p e)))
  evicts_none who _ reply len s out e = cc

  and_false : {A : Type 0} (a b : A) (v : Bool) → (if v && false then a else b) ≡ b
  and_false a b true = refl
  and_false a b false = refl

  frame_quiet : (who : ℕ) (event : Event) (blocks : List (List ℕ)) (reply : Reply) (len p : ℕ) → (Has (page_cell k p) (foot_of k who event reply len) → ⊥) → frame (entry who event blocks reply ∷ past) p ≡ frame past p
  frame_quiet who (Fill q f) blocks reply len p out = let ne : p == q ≡ false = false_of (p == q) (λ e. out (inl (ap (page_cell k) (eqb-true p q e)))) in
      ap (λ v. if is_accepted reply && v then Some f else frame past p) ne ∙ and_false (Some f) (frame past p) (is_accepted reply)
  frame_quiet who (Evict q f) blocks reply len p out = let ne : p == q ≡ false = false_of (p == q) (λ e. out (inl (ap (page_cell k) (eqb-true p q e)))) in ap (λ v. if v then None else frame past p) ne
  frame_quiet who _ blocks reply len p out = refl

  holder_quiet : (who : ℕ) (event : Event) (blocks : List (List ℕ)) (reply : Reply) (len g : ℕ) → (Has (frame_cell k g) (foot_of k who event reply len) → ⊥) → holder (entry who event blocks reply ∷ past) g ≡ holder past g
  holder_quiet who (Fill q f) blocks reply len g out = let ne : g == f ≡ false = false_of (g == f) (λ e. out (inr (inl (ap (frame_cell k) (eqb-true g f e))))) in
      ap (λ v. if is_accepted reply && v then Some q else holder past g) ne ∙ and_false (Some q) (holder past g) (is_accepted reply)
  holder_quiet who (Evict q f) blocks reply len g out = let ne : g == f ≡ false = false_of (g == f) (λ e. out (inr (inl (ap (frame_cell k) (eqb-true g f e))))) in ap (λ v. if v then None else holder past g) ne
  holder_quiet who _ blocks reply len g out = refl

  owner_quiet : (who : ℕ) (event : Event) (blocks : List (List ℕ)) (reply : Reply) (len g : ℕ) → (Has (frame_cell k g) (foot_of k who event reply len) → ⊥) → owner k (entry who event blocks reply ∷ past) g ≡ owner k past g
  owner_quiet who (Move f from to) blocks reply len g out = let ne : g == f ≡ false = false_of (g == f) (λ e. out (inl (ap (frame_cell k) (eqb-true g f e)))) in ap (λ v. if v then to else owner k past g) ne
  owner_quiet who _ blocks reply len g out = refl

  -- an enclave's blocks, where its alloc cell is not touched
  live_quiet : (e who : ℕ) (event : Event) (blocks : List (List ℕ)) (reply : Reply) (len : ℕ) → CoreStep k x past (entry who event blocks reply) → (Has (alloc_cell k e) (foot_of k who event reply len) → ⊥) → live k (entry who event blocks reply ∷ past) e ≡ live k past e
  live_quiet e who (Op op) blocks reply len step out = by_test (e == enclave_of k who) (λ v. e == enclave_of k who ≡ v → (if v then blocks_after (sub_bytes k e) e who op reply (live k past e) else live k past e) ≡ live k past e)
      (λ _ is. by_call op step out (eqb-true e (enclave_of k who) is)) (λ _ is. refl) refl
    where
      by_call : (op : Calls) → CoreStep k x past (entry who (Op op) blocks reply) → (Has (alloc_cell k e) (foot_of k who (Op op) reply len) → ⊥) → e ≡ enclave_of k who → blocks_after (sub_bytes k e) e who op reply (live k past e) ≡ live k past e
      by_call (Alloc n) step out is = by_test (is_good_size n) (λ v. is_good_size n ≡ v → (Has (alloc_cell k e) (if v then alloc_cell k (enclave_of k who) ∷ block_foot k who (Alloc n) reply len else []) → ⊥) → blocks_after (sub_bytes k e) e who (Alloc n) reply (live k past e) ≡ live k past e)
          (λ _ good o. absurd (o (inl is)))
          (λ _ bad o. ap (λ (r : Reply). blocks_after (sub_bytes k e) e who (Alloc n) r (live k past e)) (bad_size who n blocks reply step bad)) refl out
      by_call (Free at) step out is = absurd (out (inl is))
      by_call (Share at) step out is = absurd (out (inl is))
      by_call (Read at n) step out is = refl
      by_call (Write at new) step out is = refl
  live_quiet e who _ blocks reply len step out = refl

  -- an owner's frames, where its clock cell is not touched
  same_clock : (a b : Owner) → is_owner a b ≡ true → clock_cell k a ≡ clock_cell k b
  same_clock None None is = refl
  same_clock (Some e) (Some o) is = ap (λ (q : ℕ). length k.enclaves + q) (eqb-true e o is)
  same_clock None (Some o) is = cc
  same_clock (Some e) None is = cc

  frames_quiet : (own : Owner) (who : ℕ) (event : Event) (blocks : List (List ℕ)) (reply : Reply) (len : ℕ) → (Has (clock_cell k own) (foot_of k who event reply len) → ⊥) → frames_of k (entry who event blocks reply ∷ past) own ≡ frames_of k past own
  frames_quiet own who (Move f from to) blocks reply len out =
      let not_from : is_owner own from ≡ false = false_of (is_owner own from) (λ is. out (inr (inl (same_clock own from is)))) in
      let not_to : is_owner own to ≡ false = false_of (is_owner own to) (λ is. out (inr (inr (inl (same_clock own to is))))) in
      ap (λ v. if v then filter (λ g. not (g == f)) (frames_of k past own) else if is_owner own to then frames_of k past own ++ f ∷ [] else frames_of k past own) not_from
      ∙ ap (λ v. if v then frames_of k past own ++ f ∷ [] else frames_of k past own) not_to
  frames_quiet own who _ blocks reply len out = refl

  -- a cell that is not touched keeps its part
  pub quiet : IsGood k → InOrder k x past → (who : ℕ) (event : Event) (blocks : List (List ℕ)) (reply : Reply) (len : ℕ) → CoreStep k x past (entry who event blocks reply) → IsLenOf k past who event len
      → (c : ℕ) → (Has c (foot_of k who event reply len) → ⊥) → part_at k x (entry who event blocks reply ∷ past) c ≡ part_at k x past c
  quiet good order who event blocks reply len step is_len = by_cell k (λ c cell. (Has c (foot_of k who event reply len) → ⊥) → part_of k x (entry who event blocks reply ∷ past) cell ≡ part_of k x past cell)
      (λ e _ out. ap alloc_part (live_quiet e who event blocks reply len step out))
      (λ e _ out. ap clock_part (frames_quiet (Some e) who event blocks reply len out))
      (λ out. ap clock_part (frames_quiet None who event blocks reply len out))
      (λ p exists out i. page_part (frame_quiet who event blocks reply len p out i)
      (map_same (sub_part k x (entry who event blocks reply ∷ past)) (sub_part k x past) (p * per_page k) (per_page k)
      (λ s low high. let at_p : page_of k s ≡ p = page_within k p s low high in
      let out_s : Has (page_cell k (page_of k s)) (foot_of k who event reply len) → ⊥ = λ h. out (subst (λ (q : ℕ). Has (page_cell k q) (foot_of k who event reply len)) at_p h) in
      let none_in : is_in_block k who event reply len s ≡ false = false_of (is_in_block k who event reply len s) (no_block who event blocks reply len s step out_s) in
      let before = block_in k (home_of_sub k s) (live k past (home_of_sub k s)) s in
      sub_quiet k x past who event blocks reply s
      (sym (zeroes k x past good order who event blocks reply len s step is_len) ∙ not_zeroed who event reply len s none_in)
      (false_of (evicts k event s) (evicts_none who event reply len s out_s))
      (false_of (writes k who event reply s) (writes_none who event blocks reply len s step out_s))
      (false_of (fills k event reply s) (fills_none who event reply len s out_s))
      (frame_quiet who event blocks reply len (page_of k s) out_s)
      (sym (block_after k x past good order who event blocks reply len s step is_len (subst (λ (q : ℕ). q < all_pages k) (sym at_p) exists)) ∙ ap (λ v. if v then block_by k who event reply before else before) none_in)) i))
      (λ g _ out i. frame_part (owner_quiet who event blocks reply len g out i) (holder_quiet who event blocks reply len g out i))
      (λ c out. refl)
