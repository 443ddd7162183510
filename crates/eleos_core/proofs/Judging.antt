-- An entry is legal on the parts that a history made just where it is legal after the history.
use Rattle.std.proofs.Common.{◌≡◌, ℕ, ◌<◌, List, [], ◌∷◌, length, true, Option, Some, None, is_some, MatchBool, if◌then◌else◌, refl, sym, ◌∙◌, ap}
use Rattle.eleos_base.specs.declared.memory.Addr.{Addr}
use Rattle.eleos_base.specs.declared.memory.Live.{Live}
use Rattle.eleos_base.specs.declared.memory.Op.TheVariants.{Alloc, Free, Share, Read, Write}
use Rattle.eleos_base.specs.declared.memory.Reply.{Reply}
use Rattle.eleos_base.specs.declared.memory.Reply.TheVariants.{Done, Text, Worn}
use Rattle.eleos_base.specs.declared.plan.Plan.{Plan}
use Rattle.eleos_base.specs.Plain as plain
use Rattle.eleos_base.specs.Plain.{has_sub, is_in_range, use_refusal}
use Rattle.eleos_base.specs.Plans.{IsGood, enclave_of, sub_bytes}
use Rattle.eleos_core.specs.declared.event.Entry.{Entry}
use Rattle.eleos_core.specs.declared.event.Event.{Event}
use Rattle.eleos_core.specs.declared.event.Event.TheVariants.{Op, Link, Unlink, Fill, Evict, Move, Starved, Spoiled, Survey}
use Rattle.eleos_core.specs.Legal.{ByBlocks, EventStep, IsPlainly, IsWithin, access_refusal, is_worn, verdict}
use Rattle.eleos_core.specs.PartLaws.{IsLenOf, LinksAllow, PartsAllow, PartsJudge}
use Rattle.eleos_core.specs.Parts.{EventOn, Part, Stamp, SubPart, alloc_cell, block_at, clock_cell, found_in, frame_in, is_worn_in, len_at, list_in, live_in, part_at, part_of, places_in, refusal_in, sub_in, subs_in, verdict_in}
use Rattle.eleos_base.specs.Places.{all_pages, home_of, page_of, sub_of, subs}
use Rattle.eleos_core.specs.Seals.{Seals}
use Rattle.eleos_core.specs.State.{History, address_of, entry, found, frame, frames_of, is_present, live}
use Rattle.eleos_core.specs.Sweeps.{IsTaken, SurveyReply}
use Rattle.eleos_core.proofs.CellNumbers.{enclave_clock_is, home_clock_is, part_of_sub, pool_clock_is}
use Rattle.eleos_core.proofs.Holders.{FramesAgree, frames_agree, free_frame, none_held}
use Rattle.eleos_core.proofs.Numbers.{caller_home}
use Rattle.eleos_core.proofs.OnParts.{cell_part, same_at, same_after, same_option, page_here, blocks_here, owner_here, holder_here, frame_here, access_judged, found_same, exists_of, refusal_same, wanted_same, wanted_exists, spoiled_judged, fill_judged}

module _ (k : Plan) (x : Seals) (past : History) where
  -- an entry with the length of its block
  abbrev pub stamp : ℕ → Event → List (List ℕ) → Reply → ℕ → Stamp
  stamp who event blocks reply len = record { entry = entry who event blocks reply; len = len }

  -- an event on the parts and after the history
  abbrev pub Agrees : ℕ → Event → List (List ℕ) → Reply → ℕ → Type 0
  Agrees who event blocks reply len =
      (LinksAllow k past who event → EventOn k x (stamp who event blocks reply len) (part_at k x past) event → EventStep k x past (entry who event blocks reply) event)
      × (IsLenOf k past who event len → EventStep k x past (entry who event blocks reply) event → EventOn k x (stamp who event blocks reply len) (part_at k x past) event)

  read_agrees : (who : ℕ) (at : Addr) (n : ℕ) (blocks : List (List ℕ)) (reply : Reply) (len : ℕ) → Agrees who (Op (Read at n)) blocks reply len
  read_agrees who at n blocks reply len =
      let e : Entry = entry who (Op (Read at n)) blocks reply in
      let s : ℕ = sub_of k at in
      let p : ℕ = page_of k s in
      let answer : List ℕ → Reply = λ text. Text (plain.bytes_of (sub_bytes k at.enclave) at.enclave at.at n text) in
      let found_on : Part → List ℕ = λ q. found_in k x e (places_in k e.event (frame_in q) (subs_in q)) (is_some (frame_in q)) s (sub_in k (subs_in q) s) in
      let both = same_option (IsPlainly e) (refusal_in k who at n (block_at k (cell_part k x past p) at)) (access_refusal k past who at n) (refusal_same k x past who at n)
      (λ free. let exists = exists_of k x past who at n free in
      let texts : found_on (cell_part k x past p) ≡ found k x e past s = ap found_on (page_here k x past p exists)
      ∙ (ap (λ (u : SubPart). found_in k x e (if is_present k past s then [] else if u.is_sealed then s ∷ [] else []) (is_present k past s) s u) (part_of_sub k x past s) ∙ found_same k x past e s) in
      same_after (same_at (λ j. ByBlocks j (answer (found_on (cell_part k x past p))) reply) (verdict_in k x e.event blocks (cell_part k x past p)) (verdict k x past e.event blocks) (access_judged k x past e.event s blocks exists refl refl))
      (same_at (λ (text : List ℕ). ByBlocks (verdict k x past e.event blocks) (answer text) reply) (found_on (cell_part k x past p)) (found k x e past s) texts)) in
      (λ _ h. both.0 h, λ _ h. both.1 h)

  -- by its part a sub-page is worn just where it is after the history
  pub worn_here : (s : ℕ) → page_of k s < all_pages k → is_worn_in k (sub_in k (subs_in (cell_part k x past (page_of k s))) s) ≡ is_worn k past s
  worn_here s exists = ap (λ (q : Part). is_worn_in k (sub_in k (subs_in q) s)) (page_here k x past (page_of k s) exists) ∙ ap (λ (u : SubPart). is_worn_in k u) (part_of_sub k x past s)

  write_agrees : (who : ℕ) (at : Addr) (new : List ℕ) (blocks : List (List ℕ)) (reply : Reply) (len : ℕ) → Agrees who (Op (Write at new)) blocks reply len
  write_agrees who at new blocks reply len =
      let e : Entry = entry who (Op (Write at new)) blocks reply in
      let s : ℕ = sub_of k at in
      let p : ℕ = page_of k s in
      let both = same_option (IsPlainly e) (refusal_in k who at (length new) (block_at k (cell_part k x past p) at)) (access_refusal k past who at (length new)) (refusal_same k x past who at (length new))
      (λ free. let exists = exists_of k x past who at (length new) free in
      same_after (same_at (λ v. MatchBool v (IsPlainly e (Worn s)) (ByBlocks (verdict_in k x e.event blocks (cell_part k x past p)) Done reply)) (is_worn_in k (sub_in k (subs_in (cell_part k x past p)) s)) (is_worn k past s) (worn_here s exists))
      (same_at (λ j. MatchBool (is_worn k past s) (IsPlainly e (Worn s)) (ByBlocks j Done reply)) (verdict_in k x e.event blocks (cell_part k x past p)) (verdict k x past e.event blocks) (access_judged k x past e.event s blocks exists refl refl))) in
      (λ _ h. both.0 h, λ _ h. both.1 h)

  link_agrees : (who : ℕ) (at : Addr) (blocks : List (List ℕ)) (reply : Reply) (len : ℕ) → Agrees who (Link at) blocks reply len
  link_agrees who at blocks reply len =
      let e : Entry = entry who (Link at) blocks reply in
      let p : ℕ = page_of k (sub_of k at) in
      let both = same_option (IsPlainly e) (refusal_in k who at 1 (block_at k (cell_part k x past p) at)) (access_refusal k past who at 1) (refusal_same k x past who at 1)
      (λ free. same_at (λ (o : Option ℕ). (is_some o ≡ true) × IsPlainly e Done) (frame_in (cell_part k x past p)) (frame past p) (frame_here k x past p (exists_of k x past who at 1 free))) in
      (λ _ h. both.0 h, λ _ h. both.1 h)

  -- each event
  agrees : IsGood k → FramesAgree past → (who : ℕ) (event : Event) (blocks : List (List ℕ)) (reply : Reply) (len : ℕ) → IsWithin k who event → Agrees who event blocks reply len
  agrees good holds who (Op (Alloc n)) blocks reply len within =
      let home : ℕ = enclave_of k who in
      let both = same_at (λ (bs : List Live). IsPlainly (entry who (Op (Alloc n)) blocks reply) (plain.alloc_reply (sub_bytes k home) home bs (subs k home) n)) (live_in (part_at k x past (alloc_cell k home))) (live k past home) (blocks_here k x past home (caller_home k good who within)) in
      (λ _ h. both.0 h, λ _ h. both.1 h)
  agrees good holds who (Op (Free at)) blocks reply len within =
      let home : ℕ = enclave_of k who in
      let here = blocks_here k x past home (caller_home k good who within) in
      let both = same_at (λ (bs : List Live). IsPlainly (entry who (Op (Free at)) blocks reply) (plain.block_reply (sub_bytes k home) home bs who at)) (live_in (part_at k x past (alloc_cell k home))) (live k past home) here in
      (λ _ h. both.0 h.0, λ is h. (both.1 h, is ∙ ap (len_at k home at) (sym here)))
  agrees good holds who (Op (Share at)) blocks reply len within =
      let home : ℕ = enclave_of k who in
      let here = blocks_here k x past home (caller_home k good who within) in
      let both = same_at (λ (bs : List Live). IsPlainly (entry who (Op (Share at)) blocks reply) (plain.block_reply (sub_bytes k home) home bs who at)) (live_in (part_at k x past (alloc_cell k home))) (live k past home) here in
      (λ _ h. both.0 h.0, λ is h. (both.1 h, is ∙ ap (len_at k home at) (sym here)))
  agrees good holds who (Op (Read at n)) blocks reply len within = read_agrees who at n blocks reply len
  agrees good holds who (Op (Write at new)) blocks reply len within = write_agrees who at new blocks reply len
  agrees good holds who (Link at) blocks reply len within = link_agrees who at blocks reply len
  agrees good holds who (Unlink p) blocks reply len within = (λ links h. (links, h), λ _ h. h.1)
  agrees good holds who (Fill p f) blocks reply len within =
      let in_frame = frame_here k x past p within.1 in
      let held = holder_here k x past f within.2 in
      let owned = owner_here k x past f within.2 in
      let both = same_at (λ j. ByBlocks j Done reply) (verdict_in k x (Fill p f) blocks (cell_part k x past p)) (verdict k x past (Fill p f) blocks) (fill_judged k x past p f blocks within.1) in (
        λ _ h. (record { absent = sym in_frame ∙ h.0; free = free_frame k past holds f (sym held ∙ h.1); at_home = sym owned ∙ h.2 }, both.0 h.3),
        λ _ h. (in_frame ∙ h.0.absent, held ∙ none_held k past holds f h.0.free, owned ∙ h.0.at_home, both.1 h.1),
      )
  agrees good holds who (Evict p f) blocks reply len within =
      let in_frame = frame_here k x past p within.1 in
      (λ links h. (record { present = sym in_frame ∙ h.0; no_link = links }, h.1), λ _ h. (in_frame ∙ h.0.present, h.1))
  agrees good holds who (Move f from to) blocks reply len within =
      let held = holder_here k x past f within.1 in
      let owned = owner_here k x past f within.1 in (
        λ _ h. (record { owned = sym owned ∙ h.0; free = free_frame k past holds f (sym held ∙ h.1) }, h.2),
        λ _ h. (owned ∙ h.0.owned, held ∙ none_held k past holds f h.0.free, h.1),
      )
  agrees good holds who (Starved wanted sweep) blocks reply len within =
      let p : ℕ = page_of k (sub_of k (address_of wanted)) in
      let both = wanted_same k x past who wanted within.1 in
      let taken = same_at (λ (c : Part). IsTaken sweep (list_in c)) (part_at k x past (clock_cell k (home_of k p))) _ (ap (part_of k x past) (home_clock_is k p)) in
      (λ _ h. (both.0 h.0, taken.0 h.1, h.2), λ _ h. (both.1 h.0, taken.1 h.1, h.2))
  agrees good holds who (Spoiled wanted) blocks reply len within =
      let both = wanted_same k x past who wanted within.1 in (
        λ _ h. let is = both.0 h.0 in (is, h.1, sym (spoiled_judged k x past wanted blocks (wanted_exists k x past who wanted within.1 is.not_refused)) ∙ h.2, h.3),
        λ _ h. (both.1 h.0, h.1, spoiled_judged k x past wanted blocks (wanted_exists k x past who wanted within.1 h.0.not_refused) ∙ h.2, h.3),
      )
  agrees good holds who (Survey home goal sweep) blocks reply len within =
      let own = ap (λ c. list_in (part_of k x past c)) (enclave_clock_is k home within.1) in
      let pool = ap (λ c. list_in (part_of k x past c)) (pool_clock_is k) in
      let both = same_after (same_at (λ (fs : List ℕ). SurveyReply fs (list_in (part_at k x past (clock_cell k None))) goal sweep reply) (list_in (part_at k x past (clock_cell k (Some home)))) (frames_of k past (Some home)) own)
      (same_at (λ (fs : List ℕ). SurveyReply (frames_of k past (Some home)) fs goal sweep reply) (list_in (part_at k x past (clock_cell k None))) (frames_of k past None) pool) in
      (λ _ h. (both.0 h.0, h.1), λ _ h. (both.1 h.0, h.1))

-- what may be made on the parts is legal
pub parts_judge : PartsJudge
parts_judge k x past d good run may links =
    record { within = may.within; step = (agrees k x past good (frames_agree k x past run) d.entry.who d.entry.event d.entry.blocks d.entry.reply d.len may.within).0 links may.on_parts }

-- what is legal may be made on the parts
pub parts_allow : PartsAllow
parts_allow k x past d good run step is_len =
    record { within = step.within; on_parts = (agrees k x past good (frames_agree k x past run) d.entry.who d.entry.event d.entry.blocks d.entry.reply d.len step.within).1 is_len step.step }
