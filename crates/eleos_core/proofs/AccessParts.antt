-- What reads, writes and links make of the part of a page, and when they are legal by it.
use Rattle.std.proofs.Common.{◌≡◌, ◌≢◌, ℕ, zero, suc, ◌+◌, ◌*◌, ◌%◌, ◌<◌, ◌==◌, ◌&&◌, ◌||◌, not, List, [], ◌∷◌, length, Bool, true, false, Option, Some, None, is_some, MatchBool, MatchOption, if◌then◌else◌, slice_index_or, slice_set, refl, sym, ◌∙◌, ap, subst, arith, get_or-set_same, get_or-set_other, nat_eq}
use Rattle.std.specs.Cmp.Lexicographic.{pointwise}
use Rattle.std.proofs.lemmas.Bool.{eqb-false, eqb-true, ne_eqb}
use Rattle.std.proofs.lemmas.List.{length-set}
use Rattle.eleos_base.specs.declared.memory.Addr.{Addr}
use Rattle.eleos_base.specs.declared.memory.Op.TheVariants.{Read, Write}
use Rattle.eleos_base.specs.declared.memory.Reply.{Reply}
use Rattle.eleos_base.specs.declared.memory.Reply.TheVariants.{BadRange, Tampered}
use Rattle.eleos_base.specs.declared.plan.Plan.{Plan}
use Rattle.eleos_base.specs.Lists.{map_from}
use Rattle.eleos_base.specs.Plain.{is_accepted, use_refusal, zeros}
use Rattle.eleos_core.specs.declared.accesses.spots.Spot.{Spot}
use Rattle.eleos_core.specs.declared.cells.page.Page.{Page}
use Rattle.eleos_core.specs.declared.cells.page.Present.{Present}
use Rattle.eleos_core.specs.declared.cells.sub_page.SubPage.{SubPage}
use Rattle.eleos_core.specs.declared.event.Entry.{Entry}
use Rattle.eleos_core.specs.declared.event.Event.TheVariants.{Op}
use Rattle.eleos_core.specs.Accesses.{AreBlocks, IsSpot, block_places, judged_sub, link_stamp, opened_places, opened_sub, read_stamp, refusal_for, sub_for, with_bytes, write_stamp}
use Rattle.eleos_core.specs.Applying.{puts_from}
use Rattle.eleos_core.specs.Cells.{frame_of_page, part_of_page, part_with, sub_parts}
use Rattle.eleos_core.specs.Legal.{ByBlocks, Judged, failed, failed_last, judged, passed}
use Rattle.eleos_core.specs.Parts.{Part, Stamp, SubPart, blank_sub, frame_in, opened_in, page_after, page_part, passes_in, places_in, seals_in, sealing_in, sub_after, subs_in}
use Rattle.eleos_base.specs.Places.{page_of, per_page, sub_of}
use Rattle.eleos_core.specs.Seals.{Seals}
use Rattle.eleos_core.specs.State.{block_for, writes}
use Rattle.eleos_core.proofs.PageParts.{bytes_in, bytes_in-absent, part_at_index, sub_parts-made, sub_parts_at}
use Rattle.eleos_core.proofs.Spots.{IsInRange, and_false, in_range, index_is, no_run, place_is, writes_at}
use Rattle.eleos_core.proofs.Tests.{by_test}

-- a sub-page's part after an access: `zeroed` is false, `written` where it is written; a text that is sealed, and bytes in a frame
abbrev pub accessed : Seals → ℕ → Option ℕ → SubPart → List ℕ → List ℕ → Bool → Bool → SubPart
accessed x s f u text bytes zeroed written = let sealing = written && not (is_some f) in record {
  block = if zeroed then u.block else u.block;
  version = if sealing then u.version + 1 else u.version;
  is_sealed = if zeroed then false else if sealing then true else u.is_sealed;
  tag = if zeroed then [] else if sealing then x.tag s (u.version + 1) (x.seal s (u.version + 1) text) else u.tag;
  is_dirty = if zeroed || false then false else if written then is_some f else u.is_dirty;
  bytes = if is_some f then (if zeroed then zeros 1024 else if written && is_some f then bytes else u.bytes) else [];
}

-- there are bytes in the part only where its page is in a frame
abbrev pub HasFrame : Option ℕ → SubPart → Type 0
HasFrame f u = u.bytes ≡ (if is_some f then u.bytes else [])

pub accessed-kept : (x : Seals) (s : ℕ) (f : Option ℕ) (u : SubPart) (text bytes : List ℕ) → HasFrame f u → u ≡ accessed x s f u text bytes false false
accessed-kept x s f u text bytes h = λ i. record u { bytes = h i }

-- the part after a read, a write and a link
read_is : (k : Plan) (x : Seals) (who : ℕ) (at : Addr) (n : ℕ) (blocks : List (List ℕ)) (reply : Reply) (ps : List ℕ) (f : Option ℕ) (s : ℕ) (u : SubPart) → HasFrame f u
    → u ≡ sub_after k x (read_stamp who at n blocks reply) ps f s u
read_is k x who at n blocks reply ps f s u h =
    let d : Stamp = read_stamp who at n blocks reply in
    let text : List ℕ = opened_in k x d.entry ps s u in
    accessed-kept x s f u text u.bytes h
    ∙ sym (ap (λ z. accessed x s f u text u.bytes z (writes k who (Op (Read at n)) reply s)) (no_run s)
    ∙ ap (accessed x s f u text u.bytes false) (and_false _))

-- of a write: its bytes go into the text that is sealed, or into the bytes in the frame
pub write_is : (k : Plan) (x : Seals) (who : ℕ) (at : Addr) (new : List ℕ) (blocks : List (List ℕ)) (reply : Reply) (ps : List ℕ) (f : Option ℕ) (s : ℕ) (u : SubPart) (written : Bool) → IsInRange k who at (length new)
    → (is_accepted reply && (s == sub_of k at)) ≡ written
    → sub_after k x (write_stamp who at new blocks reply) ps f s u
    ≡ accessed x s f u (with_bytes (opened_in k x (write_stamp who at new blocks reply).entry ps s u) (at.at % 1024) new) (with_bytes u.bytes (at.at % 1024) new) false written
write_is k x who at new blocks reply ps f s u written range is =
    let d : Stamp = write_stamp who at new blocks reply in
    let text : List ℕ = with_bytes (opened_in k x d.entry ps s u) (at.at % 1024) new in
    let bytes : List ℕ = with_bytes u.bytes (at.at % 1024) new in
    ap (λ z. accessed x s f u text bytes z (writes k who (Op (Write at new)) reply s)) (no_run s)
    ∙ ap (accessed x s f u text bytes false) (writes_at k who at new reply s range ∙ is)

link_is : (k : Plan) (x : Seals) (who : ℕ) (at : Addr) (reply : Reply) (ps : List ℕ) (f : Option ℕ) (s : ℕ) (u : SubPart) → HasFrame f u → u ≡ sub_after k x (link_stamp who at reply) ps f s u
link_is k x who at reply ps f s u h = accessed-kept x s f u [] [] h

-- some sub-page, which no list has
abbrev pub any_sub : SubPage
any_sub = record { block = None; version = 0; tag = None; is_dirty = false }

-- a page whose sub-pages are all kept
page_kept : (page : Page) (f : ℕ → SubPart → SubPart) (first : ℕ) → ((s : ℕ) (u : SubPart) → HasFrame (frame_of_page page.present) u → u ≡ f s u)
    → part_of_page page ≡ page_part (frame_of_page page.present) (map_from f first (sub_parts page.subs.items page.present))
page_kept page f first keeps = ap (page_part (frame_of_page page.present))
    (sub_parts-made f page.subs.items page.subs.items page.present page.present first any_sub refl
    (λ i inside. keeps (first + i) (part_at_index page.subs.items page.present i any_sub) (bytes_in-absent page.present i)))

module _ (k : Plan) (x : Seals) (who : ℕ) (at : Addr) (page : Page) where
  abbrev old : Part
  old = part_of_page page

  -- a read changes nothing
  pub read-kept : (n : ℕ) (blocks : List (List ℕ)) (reply : Reply) (p : ℕ) → old ≡ page_after k x (read_stamp who at n blocks reply) p (frame_in old) (subs_in old)
  read-kept n blocks reply p =
      let d : Stamp = read_stamp who at n blocks reply in
      page_kept page (sub_after k x d (places_in k d.entry.event (frame_in old) (subs_in old)) (frame_in old)) (p * per_page k)
      (read_is k x who at n blocks reply (places_in k d.entry.event (frame_in old) (subs_in old)) (frame_in old))

  -- nor does a link
  pub link-kept : (reply : Reply) (p : ℕ) → old ≡ page_after k x (link_stamp who at reply) p (frame_in old) (subs_in old)
  link-kept reply p = page_kept page (sub_after k x (link_stamp who at reply) [] (frame_in old)) (p * per_page k) (link_is k x who at reply [] (frame_in old))

  -- nor a write that is not accepted
  pub write-kept : (new : List ℕ) (blocks : List (List ℕ)) (reply : Reply) (p : ℕ) → IsInRange k who at (length new) → is_accepted reply ≡ false
      → old ≡ page_after k x (write_stamp who at new blocks reply) p (frame_in old) (subs_in old)
  write-kept new blocks reply p range refused =
      let d : Stamp = write_stamp who at new blocks reply in
      let ps : List ℕ = places_in k d.entry.event (frame_in old) (subs_in old) in
      page_kept page (sub_after k x d ps (frame_in old)) (p * per_page k)
      (λ s u h. accessed-kept x s (frame_in old) u [] [] h ∙ sym (write_is k x who at new blocks reply ps (frame_in old) s u false range (ap (λ a. a && (s == sub_of k at)) refused)))

  -- an accepted write changes the sub-page of its address
  pub write-changed : (new : List ℕ) (blocks : List (List ℕ)) (reply : Reply) (spot : Spot) (subs' : List SubPage) (present' : Option Present) (u u' : SubPage)
      → IsSpot k at spot → IsInRange k who at (length new) → is_accepted reply ≡ true → spot.index < length page.subs.items
      → frame_of_page present' ≡ frame_of_page page.present → subs' ≡ slice_set page.subs.items spot.index u'
      → ((j : ℕ) → spot.index ≢ j → bytes_in present' j ≡ bytes_in page.present j)
      → part_with u' (bytes_in present' spot.index)
      ≡ sub_after k x (write_stamp who at new blocks reply) (opened_places k at old) (frame_in old) (sub_of k at) (part_at_index page.subs.items page.present spot.index u)
      → page_part (frame_of_page present') (sub_parts subs' present')
      ≡ page_after k x (write_stamp who at new blocks reply) (page_of k (sub_of k at)) (frame_in old) (subs_in old)
  write-changed new blocks reply spot subs' present' u u' is range accepted inside framed set others here =
      let us : List SubPage = page.subs.items in
      let d : Stamp = write_stamp who at new blocks reply in
      let ps : List ℕ = opened_places k at old in
      let f : Option ℕ = frame_in old in
      let first : ℕ = page_of k (sub_of k at) * per_page k in
      let made : ℕ → SubPart → SubPart = sub_after k x d ps f in
      (λ i. page_part (framed i) (sub_parts-made made us subs' page.present present' first u (ap length set ∙ length-set us spot.index u')
      (λ j small. by_test (j == spot.index) (λ _. part_at_index subs' present' j u ≡ made (first + j) (part_at_index us page.present j u))
      (λ yes_is. let same : j ≡ spot.index = eqb-true j spot.index yes_is in
      subst (λ n. part_at_index subs' present' n u ≡ made (first + n) (part_at_index us page.present n u)) (sym same)
      (ap (λ v. part_with v (bytes_in present' spot.index)) (ap (λ zs. slice_index_or zs spot.index u) set ∙ get_or-set_same us spot.index u' u inside)
      ∙ (here ∙ ap (λ s. made s (part_at_index us page.present spot.index u)) (sym (place_is k at spot is)))))
      (λ no_is. let differ : j ≢ spot.index = eqb-false j spot.index no_is in
      let place : first + spot.index ≡ sub_of k at = place_is k at spot is in
      let apart : first + j ≢ sub_of k at = (λ same. differ (omega arith)) in
      (λ t. part_with ((ap (λ zs. slice_index_or zs j u) set ∙ get_or-set_other us spot.index j u' u differ) t) (others j (λ same. differ (sym same)) t))
      ∙ (accessed-kept x (first + j) f (part_at_index us page.present j u) [] [] (bytes_in-absent page.present j)
      ∙ sym (write_is k x who at new blocks reply ps f (first + j) (part_at_index us page.present j u) false range
      (ap (λ a. is_accepted reply && a) (ne_eqb (first + j) (sub_of k at) apart) ∙ and_false (is_accepted reply))))))
      i))

-- the part of the sub-page of an address
pub sub_for-is : (k : Plan) (at : Addr) (page : Page) (spot : Spot) (u : SubPage) → IsSpot k at spot → spot.index < length page.subs.items
    → sub_for k at (part_of_page page) ≡ part_at_index page.subs.items page.present spot.index u
sub_for-is k at page spot u is inside =
    ap (λ n. slice_index_or (sub_parts page.subs.items page.present) n blank_sub) (index_is k at spot is)
    ∙ sub_parts_at page.subs.items page.present spot.index u inside

-- what is not refused is in range
pub accepted_range : (k : Plan) (who : ℕ) (at : Addr) (n : ℕ) (q : Part) → refusal_for k who at n q ≡ None → in_range k who at n ≡ true
accepted_range k who at n q accepted = by_range (in_range k who at n) (use_refusal who (sub_for k at q).block) accepted where
  by_range : (b : Bool) (o : Option Reply) → (if b then o else Some BadRange) ≡ None → b ≡ true
  by_range true o h = refl
  by_range false o h = cc

-- what follows where nothing is refused
pub legal_by : (o : Option Reply) (A : Type 0) (B : Reply → Type 0) → o ≡ None → A → MatchOption o A B
legal_by None A B e a = a
legal_by (Some r) A B e a = cc

-- and where it is refused, what is to follow with that reply is enough
pub refused_by : (o : Option Reply) (r : Reply) (A : Type 0) (B : Reply → Type 0) → o ≡ Some r → B r → MatchOption o A B
refused_by None r A B e b = cc
refused_by (Some r') r A B e b = let same : r ≡ r' = cc in subst B same b

-- the good reply is right where all blocks passed
pub by_passed : (j : Judged) (good reply : Reply) → j ≡ passed → reply ≡ good → ByBlocks j good reply
by_passed j good reply e is = subst (λ v. ByBlocks v good reply) (sym e) is

-- and where one did not, the reply that names its place
pub by_failed : (j : Judged) (s : ℕ) (good reply : Reply) → j ≡ failed s → reply ≡ Tampered s → ByBlocks j good reply
by_failed j s good reply e is = subst (λ v. ByBlocks v good reply) (sym e) is

-- where a test holds, what is to follow then is enough
pub if_true : (b : Bool) (A B : Type 0) → b ≡ true → A → MatchBool b A B
if_true true A B e a = a
if_true false A B e a = cc

-- and where it fails, what is to follow then
pub if_false : (b : Bool) (A B : Type 0) → b ≡ false → B → MatchBool b A B
if_false true A B e a = cc
if_false false A B e a = a

-- no block for no place
pub no_blocks : (blocks : List (List ℕ)) → AreBlocks [] blocks → blocks ≡ []
no_blocks [] are = refl
no_blocks (block ∷ blocks) are = absurd (let count = are.count in omega arith)

judged_one : (f g : ℕ → List ℕ → Bool) (s : ℕ) (v : Bool) (cs : List (List ℕ)) → ((c : List ℕ) → f s c ≡ g s c)
    → judged f (if v then s ∷ [] else []) cs ≡ judged g (if v then s ∷ [] else []) cs
judged_one f g s false [] h = refl
judged_one f g s false (c ∷ cs) h = refl
judged_one f g s true [] h = refl
judged_one f g s true (c ∷ []) h = ap (λ v. if v then judged f [] [] else failed_last s []) (h c)
judged_one f g s true (c ∷ c' ∷ cs) h = ap (λ v. if v then judged f [] (c' ∷ cs) else failed_last s (c' ∷ cs)) (h c)

-- how the blocks of an access are judged
module _ (k : Plan) (x : Seals) (at : Addr) (blocks : List (List ℕ)) (q : Part) where
  -- what becomes of the blocks that came, by the part of the page
  abbrev pub access_verdict : Judged
  access_verdict = judged (passes_in k x (subs_in q)) (opened_places k at q) blocks

  -- in a frame an access opens no block
  pub opened_places-present : is_some (frame_in q) ≡ true → opened_places k at q ≡ []
  opened_places-present here = ap (λ v. if v then [] else block_places (sub_of k at) (sub_for k at q)) here

  -- of an absent page it opens that of its sub-page, where this lies sealed
  pub opened_places-absent : is_some (frame_in q) ≡ false → opened_places k at q ≡ block_places (sub_of k at) (sub_for k at q)
  opened_places-absent gone = ap (λ v. if v then [] else block_places (sub_of k at) (sub_for k at q)) gone

  -- so there no block can fail
  pub verdict-present : is_some (frame_in q) ≡ true → AreBlocks (opened_places k at q) blocks → access_verdict ≡ passed
  verdict-present here are =
      let none : blocks ≡ [] = no_blocks blocks (subst (λ ps. AreBlocks ps blocks) (opened_places-present here) are) in
      (λ i. judged (passes_in k x (subs_in q)) (opened_places-present here i) (none i))

  -- of an absent page the sub-page of the address alone judges the block
  pub verdict-absent : is_some (frame_in q) ≡ false → access_verdict ≡ judged_sub x (sub_of k at) (sub_for k at q) blocks
  verdict-absent gone = ap (λ ps. judged (passes_in k x (subs_in q)) ps blocks) (opened_places-absent gone)
      ∙ judged_one (passes_in k x (subs_in q)) (λ s c. pointwise nat_eq (x.tag s (sub_for k at q).version c) (sub_for k at q).tag) (sub_of k at) (sub_for k at q).is_sealed blocks (λ c. refl)

  -- and what the access finds is what that sub-page opens to
  pub opened_in-absent : (e : Entry) → e.blocks ≡ blocks → is_some (frame_in q) ≡ false
      → opened_in k x e (opened_places k at q) (sub_of k at) (sub_for k at q) ≡ opened_sub x (sub_of k at) (sub_for k at q) blocks
  opened_in-absent e same gone =
      (λ i. if (sub_for k at q).is_sealed then x.unseal (sub_of k at) (sub_for k at q).version (block_for (opened_places-absent gone i) (same i) (sub_of k at)) else zeros 1024)
      ∙ one (sub_for k at q).is_sealed
    where
      one : (v : Bool) → (if v then x.unseal (sub_of k at) (sub_for k at q).version (block_for (if v then sub_of k at ∷ [] else []) blocks (sub_of k at)) else zeros 1024)
          ≡ (if v then x.unseal (sub_of k at) (sub_for k at q).version (block_for (sub_of k at ∷ []) blocks (sub_of k at)) else zeros 1024)
      one true = refl
      one false = refl

-- no block is sealed
pub puts_from-none : (k : Plan) (x : Seals) (d : Stamp) (ps : List ℕ) (f : Option ℕ) (first : ℕ) (us : List SubPart) → ((s : ℕ) (u : SubPart) → seals_in k x d.entry (is_some f) s u ≡ false)
    → puts_from k x d ps f first us ≡ []
puts_from-none k x d ps f first [] none = refl
puts_from-none k x d ps f first (u ∷ us) none =
    ap (λ v. if v then (first, x.seal first (u.version + 1) (sealing_in k x d.entry ps first u)) ∷ puts_from k x d ps f (first + 1) us else puts_from k x d ps f (first + 1) us) (none first u)
    ∙ puts_from-none k x d ps f (first + 1) us none

puts_past : (k : Plan) (x : Seals) (d : Stamp) (ps : List ℕ) (f : Option ℕ) (first at : ℕ) (us : List SubPart) → at < first → ((s : ℕ) (u : SubPart) → s ≢ at → seals_in k x d.entry (is_some f) s u ≡ false)
    → puts_from k x d ps f first us ≡ []
puts_past k x d ps f first at [] past none = refl
puts_past k x d ps f first at (u ∷ us) past none =
    let differ : first ≢ at = omega arith in
    ap (λ v. if v then (first, x.seal first (u.version + 1) (sealing_in k x d.entry ps first u)) ∷ puts_from k x d ps f (first + 1) us else puts_from k x d ps f (first + 1) us) (none first u differ)
    ∙ puts_past k x d ps f (first + 1) at us (omega arith) none

-- just one is
pub puts_from-one : (k : Plan) (x : Seals) (d : Stamp) (ps : List ℕ) (f : Option ℕ) (first i : ℕ) (us : List SubPart) → i < length us → ((s : ℕ) (u : SubPart) → s ≢ first + i → seals_in k x d.entry (is_some f) s u ≡ false)
    → ((u : SubPart) → seals_in k x d.entry (is_some f) (first + i) u ≡ true)
    → puts_from k x d ps f first us ≡ (first + i, x.seal (first + i) ((slice_index_or us i blank_sub).version + 1) (sealing_in k x d.entry ps (first + i) (slice_index_or us i blank_sub))) ∷ []
puts_from-one k x d ps f first i [] inside none one = absurd (omega arith)
puts_from-one k x d ps f first zero (u ∷ us) inside none one =
    let same : first ≡ first + 0 = omega arith in
    let here : seals_in k x d.entry (is_some f) first u ≡ true = subst (λ s. seals_in k x d.entry (is_some f) s u ≡ true) (sym same) (one u) in
    ap (λ v. if v then (first, x.seal first (u.version + 1) (sealing_in k x d.entry ps first u)) ∷ puts_from k x d ps f (first + 1) us else puts_from k x d ps f (first + 1) us) here
    ∙ (ap (λ rest. (first, x.seal first (u.version + 1) (sealing_in k x d.entry ps first u)) ∷ rest) (puts_past k x d ps f (first + 1) (first + 0) us (omega arith) none)
    ∙ ap (λ s. (s, x.seal s (u.version + 1) (sealing_in k x d.entry ps s u)) ∷ []) same)
puts_from-one k x d ps f first (suc i) (u ∷ us) inside none one =
    let same : first + 1 + i ≡ first + suc i = omega arith in
    let differ : first ≢ first + suc i = omega arith in
    ap (λ v. if v then (first, x.seal first (u.version + 1) (sealing_in k x d.entry ps first u)) ∷ puts_from k x d ps f (first + 1) us else puts_from k x d ps f (first + 1) us) (none first u differ)
    ∙ (puts_from-one k x d ps f (first + 1) i us (omega arith) (λ s v other. none s v (λ equal. other (equal ∙ sym same)))
    (λ v. subst (λ s. seals_in k x d.entry (is_some f) s v ≡ true) (sym same) (one v))
    ∙ ap (λ s. (s, x.seal s ((slice_index_or us i blank_sub).version + 1) (sealing_in k x d.entry ps s (slice_index_or us i blank_sub))) ∷ []) same)
