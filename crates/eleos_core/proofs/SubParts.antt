-- The part of a cell that an entry makes of the part before is the one that the longer history makes.
use Rattle.std.proofs.Common.{◌≡◌, ℕ, ◌+◌, ◌-◌, ◌*◌, ◌/◌, ◌<◌, ◌≤◌, ◌==◌, ◌&&◌, ◌||◌, List, [], ◌∷◌, length, Bool, true, false, not, filter, Option, Some, None, is_some, if◌then◌else◌, refl, sym, ◌∙◌, subst, ap, arith}
use Rattle.std.specs.List.{find}
use Rattle.std.proofs.lemmas.Bool.{eqb-true}
use Rattle.std.proofs.lemmas.Bool.Decides.{nat_tests}
use Rattle.eleos_base.specs.declared.memory.Addr.{Addr}
use Rattle.eleos_base.specs.declared.memory.Op.{Op as Calls}
use Rattle.eleos_base.specs.declared.memory.Op.TheVariants.{Alloc, Free, Share, Read, Write}
use Rattle.eleos_base.specs.declared.memory.Reply.{Reply}
use Rattle.eleos_base.specs.declared.plan.Plan.{Plan}
use Rattle.eleos_base.specs.Plain.{has_sub, is_accepted, is_in_range, use_refusal}
use Rattle.eleos_base.specs.Plans.{IsGood, enclave_of, sub_bytes}
use Rattle.eleos_core.specs.declared.event.Entry.{Entry}
use Rattle.eleos_core.specs.declared.event.Event.{Event}
use Rattle.eleos_core.specs.declared.event.Event.TheVariants.{Op, Fill, Evict}
use Rattle.eleos_core.specs.Legal.{CoreStep, access_refusal, is_worn, verdict}
use Rattle.eleos_core.specs.PartLaws.{IsLenOf}
use Rattle.eleos_core.specs.Parts.{Stamp, SubPart, block_by, block_in, home_of_sub, is_in_block, is_zeroed, opened_in, page_part, part_after, part_of, places_in, sealed_from, sealing_in, sub_after, sub_in, sub_part, the_page}
use Rattle.eleos_base.specs.Places.{all_pages, blank_bytes, first_sub, is_sub_of, page_of, per_page, sub_of, subs}
use Rattle.eleos_core.specs.Seals.{Seals}
use Rattle.eleos_core.specs.State.{History, block_for, bytes, covers, entry, evicts, fills, frame, is_dirty, is_present, is_sealed, is_sealing, last, live, opened, places, rewritten, sealing, version, writes}
use Rattle.eleos_core.proofs.CellNumbers.{map_same, mapped_range, part_of_sub, parts_of, sealed_are}
use Rattle.eleos_core.proofs.Covering.{InOrder, block_after, zeroes}
use Rattle.eleos_core.proofs.Numbers.{at_home_is, in_range_of, page_within, sub_from, sub_is}
use Rattle.eleos_core.proofs.Replies.{access_refuses, write_accepted}
use Rattle.eleos_core.proofs.Tests.{by_test, first_of, second_of}

-- in plain values: z that the sub-page is zeroed, sl that it is sealed now, g that it was before, r and p that its page is present after and before
tag_case : (z sl g : Bool) (t1 t1' t0 : List ℕ) → (sl ≡ true → t1 ≡ t1')
    → (if z then [] else if sl then t1 else if g then t0 else []) ≡ (if (if z then false else if sl then true else g) then if sl then t1' else t0 else [])
tag_case true sl g t1 t1' t0 h = refl
tag_case false true g t1 t1' t0 h = h refl
tag_case false false true t1 t1' t0 h = refl
tag_case false false false t1 t1' t0 h = refl

bytes_case : (f : List ℕ → List ℕ) (blank : List ℕ) (r z fl w p : Bool) (o' o b : List ℕ) → (fl ≡ true → o' ≡ o) → (r ≡ true → fl ≡ false → p ≡ true)
    → (if r then if z then blank else if fl then o' else if w && p then f (if p then b else []) else if p then b else [] else []) ≡ (if r then if z then blank else if fl then o else if w && p then f b else b else [])
bytes_case f blank false z fl w p o' o b h here = refl
bytes_case f blank true true fl w p o' o b h here = refl
bytes_case f blank true false true w p o' o b h here = h refl
bytes_case f blank true false false true true o' o b h here = refl
bytes_case f blank true false false true false o' o b h here = let e = here refl refl in cc
bytes_case f blank true false false false true o' o b h here = refl
bytes_case f blank true false false false false o' o b h here = let e = here refl refl in cc

module _ (k : Plan) (x : Seals) (past : History) (e : Entry) (len s : ℕ) where
  abbrev u : SubPart
  u = sub_part k x past s

  abbrev d : Stamp
  d = record { entry = e; len = len }

  abbrev next : ℕ
  next = version k past s + 1

  -- the sub-page's part after the entry, by what its fields are
  sub_same : (ps : List ℕ) → is_zeroed k e.who e.event e.reply len s ≡ covers k e.who e.event e.reply past s
      → (if is_in_block k e.who e.event e.reply len s then block_by k e.who e.event e.reply u.block else u.block) ≡ block_in k (home_of_sub k s) (live k (e ∷ past) (home_of_sub k s)) s
      → (writes k e.who e.event e.reply s ≡ true → opened_in k x e ps s u ≡ opened k x e past s)
      → (fills k e.event e.reply s ≡ true → opened_in k x e ps s u ≡ opened k x e past s)
      → (is_present k (e ∷ past) s ≡ true → fills k e.event e.reply s ≡ false → is_present k past s ≡ true)
      → (evicts k e.event s ≡ true → is_present k past s ≡ true)
      → (evicts k e.event s ≡ true → writes k e.who e.event e.reply s ≡ false)
      → sub_after k x d ps (frame past (page_of k s)) s u ≡ sub_part k x (e ∷ past) s
  sub_same ps ez eb ew ef here ed ev i =
      let sealing_same : is_sealing k e past s ≡ true → sealing_in k x e ps s u ≡ sealing k x e past s = λ sl.
      by_test (evicts k e.event s) (λ v. evicts k e.event s ≡ v → (v && is_dirty k past s) || (writes k e.who e.event e.reply s && not (is_present k past s)) ≡ true
      → (if v then u.bytes else rewritten k e.who e.event (opened_in k x e ps s u)) ≡ (if v then bytes k x past s else rewritten k e.who e.event (opened k x e past s)))
      (λ _ is t. ap (λ (v : Bool). if v then bytes k x past s else []) (ed is))
      (λ _ is t. ap (rewritten k e.who e.event) (ew (first_of (writes k e.who e.event e.reply s) (not (is_present k past s)) t))) refl sl in
      record {
        block = eb i;
        version = version k (e ∷ past) s;
        is_sealed = if ez i then false else if is_sealing k e past s then true else is_sealed k past s;
        tag = (ap (λ (z : Bool). if z then [] else if is_sealing k e past s then x.tag s next (x.seal s next (sealing_in k x e ps s u)) else u.tag) ez
            ∙ (tag_case (covers k e.who e.event e.reply past s) (is_sealing k e past s) (is_sealed k past s)
            (x.tag s next (x.seal s next (sealing_in k x e ps s u))) (x.tag s next (x.seal s next (sealing k x e past s))) (x.tag s (version k past s) (last k x past s))
            (λ sl. ap (λ t. x.tag s next (x.seal s next t)) (sealing_same sl))
            ∙ last_tag (is_sealing k e past s) (is_sealed k (e ∷ past) s))) i;
        is_dirty = if ez i || evicts k e.event s then false else if writes k e.who e.event e.reply s then is_present k past s else is_dirty k past s;
        bytes = (ap (λ (z : Bool). if is_present k (e ∷ past) s then if z then blank_bytes k else if fills k e.event e.reply s then opened_in k x e ps s u
            else if writes k e.who e.event e.reply s && is_present k past s then rewritten k e.who e.event u.bytes else u.bytes else []) ez
            ∙ bytes_case (rewritten k e.who e.event) (blank_bytes k) (is_present k (e ∷ past) s) (covers k e.who e.event e.reply past s) (fills k e.event e.reply s) (writes k e.who e.event e.reply s) (is_present k past s)
            (opened_in k x e ps s u) (opened k x e past s) (bytes k x past s) ef here) i;
      }
    where
      last_tag : (sl g : Bool) → (if g then if sl then x.tag s next (x.seal s next (sealing k x e past s)) else x.tag s (version k past s) (last k x past s) else [])
          ≡ (if g then x.tag s (if sl then next else version k past s) (if sl then x.seal s next (sealing k x e past s) else last k x past s) else [])
      last_tag true g = refl
      last_tag false g = refl

-- the sub-page that an accepted write changes
pub record IsWritten (k : Plan) (who : ℕ) (at : Addr) (n s : ℕ) : Type 0 where
  pub in_range : is_in_range (sub_bytes k (enclave_of k who)) (enclave_of k who) (subs k (enclave_of k who)) at n ≡ true
  pub there : sub_of k at ≡ s

back : (a b s : ℕ) → (b == s - a) ≡ true → a ≤ s → a + b ≡ s
back a b s e low = grind (arith, nat_tests)

-- an accepted write is in range, and its sub-page is that of its address
pub written : (k : Plan) (x : Seals) (past : History) (who : ℕ) (at : Addr) (new : List ℕ) (blocks : List (List ℕ)) (reply : Reply) (s : ℕ) → CoreStep k x past (entry who (Op (Write at new)) blocks reply)
    → writes k who (Op (Write at new)) reply s ≡ true → IsWritten k who at (length new) s
written k x past who at new blocks reply s step w =
    let home : ℕ = enclave_of k who in
    let hit : (is_accepted reply && at.at / sub_bytes k home == s - first_sub k home) ≡ true = second_of (is_sub_of k home s) (is_accepted reply && at.at / sub_bytes k home == s - first_sub k home) w in
    let event : Event = Op (Write at new) in
    let h = write_accepted (access_refusal k past who at (length new)) (is_worn k past (sub_of k at)) (verdict k x past event blocks) (sub_of k at) (entry who event blocks reply)
    (access_refuses k past who at (length new)) step.step (first_of (is_accepted reply) (at.at / sub_bytes k home == s - first_sub k home) hit) in
    let range = in_range_of (is_in_range (sub_bytes k home) home (subs k home) at (length new)) (use_refusal who (find (has_sub (at.at / sub_bytes k home)) (live k past home))) h.0 in
    record {
      in_range = range;
      there = sub_is k home at (at_home_is k home at (length new) range)
          ∙ back (first_sub k home) (at.at / sub_bytes k home) s (second_of (is_accepted reply) (at.at / sub_bytes k home == s - first_sub k home) hit) (sub_from k home s (first_of (is_sub_of k home s) (is_accepted reply && at.at / sub_bytes k home == s - first_sub k home) w));
    }

-- an entry writes where it is a write's
pub writes_no_other : (k : Plan) (who : ℕ) (op : Calls) (reply : Reply) (s : ℕ) → (is_sub_of k (enclave_of k who) s && false) ≡ true → ⊥
writes_no_other k who op reply s e = let z = second_of (is_sub_of k (enclave_of k who) s) false e in cc

module _ (k : Plan) (x : Seals) (past : History) where
  abbrev pub ps : Event → ℕ → List ℕ
  ps event s = places_in k event (frame past (page_of k s)) (parts_of k x past (page_of k s))

  abbrev pub opens : List ℕ → List (List ℕ) → ℕ → List ℕ
  opens qs blocks s = if is_sealed k past s then x.unseal s (version k past s) (block_for qs blocks s) else blank_bytes k

  -- the text that an accepted write opens is the same by the part of its page and after the history
  pub opened_write : (who : ℕ) (event : Event) (blocks : List (List ℕ)) (reply : Reply) (s : ℕ) → CoreStep k x past (entry who event blocks reply) → writes k who event reply s ≡ true → opens (ps event s) blocks s ≡ opens (places k event past) blocks s
  opened_write who (Op (Write at new)) blocks reply s step w =
      let there : s ≡ sub_of k at = sym (written k x past who at new blocks reply s step w).there in
      ap (λ qs. opens qs blocks s) (subst (λ (q : ℕ). (if is_present k past s then [] else if (sub_in k (parts_of k x past (page_of k s)) q).is_sealed then q ∷ [] else []) ≡ (if is_present k past q then [] else filter (is_sealed k past) (q ∷ []))) there
      (ap (λ (v : SubPart). if is_present k past s then [] else if v.is_sealed then s ∷ [] else []) (part_of_sub k x past s)))
  opened_write who (Op (Alloc n)) blocks reply s step w = absurd (writes_no_other k who (Alloc n) reply s w)
  opened_write who (Op (Free at)) blocks reply s step w = absurd (writes_no_other k who (Free at) reply s w)
  opened_write who (Op (Share at)) blocks reply s step w = absurd (writes_no_other k who (Share at) reply s w)
  opened_write who (Op (Read at n)) blocks reply s step w = absurd (writes_no_other k who (Read at n) reply s w)
  opened_write who _ blocks reply s step w = cc

  opened_fill : (event : Event) (reply : Reply) (blocks : List (List ℕ)) (s : ℕ) → fills k event reply s ≡ true → opens (ps event s) blocks s ≡ opens (places k event past) blocks s
  opened_fill (Fill p g) reply blocks s v =
      let there : page_of k s ≡ p = eqb-true (page_of k s) p (second_of (is_accepted reply) (page_of k s == p) v) in
      ap (λ qs. opens qs blocks s) (ap (λ q. sealed_from (p * per_page k) (parts_of k x past q)) there ∙ sealed_are k x past (p * per_page k) (per_page k))
  opened_fill _ reply blocks s v = cc

  still_here : (who : ℕ) (event : Event) (blocks : List (List ℕ)) (reply : Reply) (s : ℕ) → is_present k (entry who event blocks reply ∷ past) s ≡ true → fills k event reply s ≡ false → is_present k past s ≡ true
  still_here who (Fill p g) blocks reply s h no_is = sym (ap (λ v. is_some (if v then Some g else frame past (page_of k s))) no_is) ∙ h
  still_here who (Evict p g) blocks reply s h no_is = by_test (page_of k s == p) (λ v. is_some (if v then None else frame past (page_of k s)) ≡ true → is_present k past s ≡ true) (λ _ e. cc) (λ _ e. e) h
  still_here who _ blocks reply s h no_is = h

  evicts_present : (who : ℕ) (event : Event) (blocks : List (List ℕ)) (reply : Reply) (s : ℕ) → CoreStep k x past (entry who event blocks reply) → evicts k event s ≡ true → is_present k past s ≡ true
  evicts_present who (Evict p g) blocks reply s step v = ap (λ (q : ℕ). is_some (frame past q)) (eqb-true (page_of k s) p v) ∙ ap (λ (o : Option ℕ). is_some o) step.step.0.present
  evicts_present who _ blocks reply s step v = cc

  evicts_only : (who : ℕ) (event : Event) (reply : Reply) (s : ℕ) → evicts k event s ≡ true → writes k who event reply s ≡ false
  evicts_only who (Op op) reply s v = cc
  evicts_only who _ reply s v = refl

  -- one sub-page after the entry
  sub_agrees : IsGood k → InOrder k x past → (who : ℕ) (event : Event) (blocks : List (List ℕ)) (reply : Reply) (len s : ℕ) → CoreStep k x past (entry who event blocks reply) → IsLenOf k past who event len → page_of k s < all_pages k
      → sub_after k x (record { entry = entry who event blocks reply; len = len }) (ps event s) (frame past (page_of k s)) s (sub_part k x past s) ≡ sub_part k x (entry who event blocks reply ∷ past) s
  sub_agrees good order who event blocks reply len s step is_len exists =
      sub_same k x past (entry who event blocks reply) len s (ps event s) (zeroes k x past good order who event blocks reply len s step is_len) (block_after k x past good order who event blocks reply len s step is_len exists)
      (opened_write who event blocks reply s step) (opened_fill event reply blocks s) (still_here who event blocks reply s) (evicts_present who event blocks reply s step) (evicts_only who event reply s)

  -- a page after the entry
  pub page_agrees : IsGood k → InOrder k x past → (who : ℕ) (event : Event) (blocks : List (List ℕ)) (reply : Reply) (len p : ℕ) → CoreStep k x past (entry who event blocks reply) → IsLenOf k past who event len → p < all_pages k
      → part_after k x (record { entry = entry who event blocks reply; len = len }) (the_page p) (part_of k x past (the_page p)) ≡ part_of k x (entry who event blocks reply ∷ past) (the_page p)
  page_agrees good order who event blocks reply len p step is_len exists =
      let d : Stamp = record { entry = entry who event blocks reply; len = len } in
      ap (page_part (frame (entry who event blocks reply ∷ past) p))
      (mapped_range (sub_after k x d (places_in k event (frame past p) (parts_of k x past p)) (frame past p)) (sub_part k x past) (p * per_page k) (per_page k)
      ∙ map_same (λ s. sub_after k x d (places_in k event (frame past p) (parts_of k x past p)) (frame past p) s (sub_part k x past s)) (sub_part k x (entry who event blocks reply ∷ past)) (p * per_page k) (per_page k)
      (λ s low high. let at_p : page_of k s ≡ p = page_within k p s low high in
      subst (λ (q : ℕ). sub_after k x d (places_in k event (frame past q) (parts_of k x past q)) (frame past q) s (sub_part k x past s) ≡ sub_part k x (entry who event blocks reply ∷ past) s) at_p
      (sub_agrees good order who event blocks reply len s step is_len (subst (λ (q : ℕ). q < all_pages k) (sym at_p) exists))))
