-- What the parts that a history made show of it: of the blocks that came, of refusals, and of what was wanted.
use Rattle.std.proofs.Common.{◌≡◌, ℕ, zero, suc, ◌+◌, ◌*◌, ◌/◌, ◌<◌, ◌≤◌, List, [], ◌∷◌, length, filter, Bool, true, Option, Some, None, is_some, MatchOption, if◌then◌else◌, nat_eq, refl, sym, ◌∙◌, subst, ap, arith}
use Rattle.std.specs.List.{AllByRecursion, find, range_with_len}
use Rattle.std.specs.Cmp.Lexicographic.{pointwise}
use Rattle.eleos_base.specs.declared.memory.Addr.{Addr}
use Rattle.eleos_base.specs.declared.memory.Op.TheVariants.{Alloc, Free, Share, Read, Write}
use Rattle.eleos_base.specs.declared.memory.Reply.{Reply}
use Rattle.eleos_base.specs.declared.memory.Reply.TheVariants.{BadRange}
use Rattle.eleos_base.specs.declared.plan.Plan.{Plan}
use Rattle.eleos_base.specs.Plain.{has_sub, is_in_range, use_refusal}
use Rattle.eleos_base.specs.Plans.{enclave_of, sub_bytes}
use Rattle.eleos_core.specs.declared.event.Entry.{Entry}
use Rattle.eleos_core.specs.declared.event.Event.{Event}
use Rattle.eleos_core.specs.declared.event.Event.TheVariants.{Fill, Spoiled}
use Rattle.eleos_core.specs.declared.event.Wanted.{Wanted}
use Rattle.eleos_core.specs.declared.event.Wanted.TheVariants.{Link as ALink, Op as ACall}
use Rattle.eleos_core.specs.Legal.{IsWanted, NeedsFrame, access_refusal, failed_last, judged, passes, verdict, wanted_refusal}
use Rattle.eleos_core.specs.Parts.{IsWantedIn, Part, SubPart, alloc_cell, block_at, block_in, found_in, frame_cell, frame_in, holder_in, live_in, owner_in, page_cell, page_part, part_at, part_of, passes_in, places_in, refusal_in, sealed_from, sub_in, sub_part, verdict_in, wanted_refusal_in}
use Rattle.eleos_base.specs.Places.{all_frames, all_pages, page_of, per_page, sub_of, subs, subs_of}
use Rattle.eleos_core.specs.Seals.{Seals}
use Rattle.eleos_core.specs.State.{History, address_of, bytes, found, frame, holder, is_present, is_sealed, last, live, opened, owner, places, version}
use Rattle.eleos_core.proofs.CellNumbers.{alloc_is, frame_is, page_is, part_of_sub, parts_of, sealed_are}
use Rattle.eleos_core.proofs.Numbers.{at_home_is, home_sub_is, in_range_of, page_exists, page_within, place_is, sub_in_range}
use Rattle.eleos_core.proofs.Tests.{by_test}

-- each follows from the other
abbrev pub Same : Type 0 → Type 0 → Type 0
Same A B = (A → B) × (B → A)

-- by one value that is another, one after the other, and behind a refusal
pub same_at : {A : Type 0} (P : A → Type 0) (a b : A) → a ≡ b → Same (P a) (P b)
same_at P a b e = (subst P e, subst P (sym e))

-- one after the other
pub same_after : {A B C : Type 0} → Same A B → Same B C → Same A C
same_after f g = (λ a. g.0 (f.0 a), λ c. f.1 (g.1 c))

-- behind one refusal: what is said of the reply is the same, and where there is none each follows from the other
pub same_option : {A B : Type 0} (P : Reply → Type 0) (o' o : Option Reply) → o' ≡ o → (o ≡ None → Same A B) → Same (MatchOption o' A P) (MatchOption o B P)
same_option {A} {B} P o' o e h = subst (λ (z : Option Reply). Same (MatchOption z A P) (MatchOption o B P)) (sym e) (at o h) where
  at : (z : Option Reply) → (z ≡ None → Same A B) → Same (MatchOption z A P) (MatchOption z B P)
  at None h = h refl
  at (Some r) h = (λ q. q, λ q. q)

judged_same : (f g : ℕ → List ℕ → Bool) (ps : List ℕ) (cs : List (List ℕ)) → AllByRecursion (λ s. (c : List ℕ) → f s c ≡ g s c) ps → judged f ps cs ≡ judged g ps cs
judged_same f g [] [] h = refl
judged_same f g [] (c ∷ cs) h = refl
judged_same f g (s ∷ ss) [] h = refl
judged_same f g (s ∷ ss) (c ∷ cs) h = ap (λ v. if v then judged f ss cs else failed_last s cs) (h.0 c) ∙ ap (λ j. if g s c then j else failed_last s cs) (judged_same f g ss cs h.1)

-- what holds of each number of a range that passes a test holds of all that are taken from it
pub each_filter : (P : ℕ → Type 0) (t : ℕ → Bool) (a n : ℕ) → ((s : ℕ) → a ≤ s → s < a + n → t s ≡ true → P s) → AllByRecursion P (filter t (range_with_len a n))
each_filter P t a zero h = tt
each_filter P t a (suc n) h = by_test (t a) (λ v. t a ≡ v → AllByRecursion P (if v then a ∷ filter t (range_with_len (a + 1) n) else filter t (range_with_len (a + 1) n)))
    (λ _ e. (h a (omega arith) (omega arith) e, each_filter P t (a + 1) n (λ s l u e'. h s (omega arith) (omega arith) e')))
    (λ _ e. each_filter P t (a + 1) n (λ s l u e'. h s (omega arith) (omega arith) e')) refl

module _ (k : Plan) (x : Seals) (past : History) where
  -- the parts that the cells have
  abbrev pub page : ℕ → Part
  page p = page_part (frame past p) (parts_of k x past p)

  -- that of a page's cell
  abbrev pub cell_part : ℕ → Part
  cell_part p = part_at k x past (page_cell k p)

  -- the cell of a page of the machine has what the history made of that page
  pub page_here : (p : ℕ) → p < all_pages k → cell_part p ≡ page p
  page_here p h = ap (part_of k x past) (page_is k p h)

  -- the alloc cell of an enclave has its live blocks
  pub blocks_here : (e : ℕ) → e < length k.enclaves → live_in (part_at k x past (alloc_cell k e)) ≡ live k past e
  blocks_here e h = ap (λ c. live_in (part_of k x past c)) (alloc_is k e h)

  -- the cell of a frame has its owner
  pub owner_here : (f : ℕ) → f < all_frames k → owner_in (part_at k x past (frame_cell k f)) ≡ owner k past f
  owner_here f h = ap (λ c. owner_in (part_of k x past c)) (frame_is k f h)

  -- and the page in it
  pub holder_here : (f : ℕ) → f < all_frames k → holder_in (part_at k x past (frame_cell k f)) ≡ holder past f
  holder_here f h = ap (λ c. holder_in (part_of k x past c)) (frame_is k f h)

  -- the cell of a page has the frame that it is in
  pub frame_here : (p : ℕ) → p < all_pages k → frame_in (cell_part p) ≡ frame past p
  frame_here p h = ap (λ (q : Part). frame_in q) (page_here p h)

  -- a block of a sealed sub-page is judged alike
  pub passes_same : (s : ℕ) → is_sealed k past s ≡ true → (c : List ℕ) → passes_in k x (parts_of k x past (page_of k s)) s c ≡ passes k x past s c
  passes_same s sealed c = ap (λ (u : SubPart). pointwise nat_eq (x.tag s u.version c) u.tag) (part_of_sub k x past s)
      ∙ ap (λ v. pointwise nat_eq (x.tag s (version k past s) c) (if v then x.tag s (version k past s) (last k x past s) else [])) sealed

  one_judged : (s : ℕ) (cs : List (List ℕ)) → judged (passes_in k x (parts_of k x past (page_of k s))) (if is_present k past s then [] else filter (is_sealed k past) (s ∷ [])) cs
      ≡ judged (passes k x past) (if is_present k past s then [] else filter (is_sealed k past) (s ∷ [])) cs
  one_judged s cs = judged_same (passes_in k x (parts_of k x past (page_of k s))) (passes k x past) (if is_present k past s then [] else filter (is_sealed k past) (s ∷ [])) cs
      (by_test (is_present k past s) (λ v. AllByRecursion (λ s'. (c : List ℕ) → passes_in k x (parts_of k x past (page_of k s)) s' c ≡ passes k x past s' c) (if v then [] else filter (is_sealed k past) (s ∷ [])))
      (λ _. tt)
      (λ _. by_test (is_sealed k past s) (λ v. is_sealed k past s ≡ v → AllByRecursion (λ s'. (c : List ℕ) → passes_in k x (parts_of k x past (page_of k s)) s' c ≡ passes k x past s' c) (if v then s ∷ [] else []))
      (λ _ e. (passes_same s e, tt)) (λ _ e. tt) refl))

  -- the places of an access, and what it finds
  access_places_same : (s : ℕ) → (if is_present k past s then [] else if (sub_in k (parts_of k x past (page_of k s)) s).is_sealed then s ∷ [] else []) ≡ (if is_present k past s then [] else filter (is_sealed k past) (s ∷ []))
  access_places_same s = ap (λ (u : SubPart). if is_present k past s then [] else if u.is_sealed then s ∷ [] else []) (part_of_sub k x past s)

  -- by the part and after the history an access finds the same text
  pub found_same : (e : Entry) (s : ℕ) → found_in k x e (places k e.event past) (is_present k past s) s (sub_part k x past s) ≡ found k x e past s
  found_same e s = by_test (is_present k past s) (λ v. (if v then if v then bytes k x past s else [] else opened k x e past s) ≡ (if v then bytes k x past s else opened k x e past s)) (λ _. refl) (λ _. refl)

  -- so the blocks of an access are judged alike by the part of its page and after the history
  pub access_judged : (event : Event) (s : ℕ) (blocks : List (List ℕ)) → page_of k s < all_pages k
      → places_in k event (frame past (page_of k s)) (parts_of k x past (page_of k s)) ≡ (if is_present k past s then [] else if (sub_in k (parts_of k x past (page_of k s)) s).is_sealed then s ∷ [] else [])
      → places k event past ≡ (if is_present k past s then [] else filter (is_sealed k past) (s ∷ [])) → verdict_in k x event blocks (cell_part (page_of k s)) ≡ verdict k x past event blocks
  access_judged event s blocks exists e e' = ap (λ (q : Part). verdict_in k x event blocks q) (page_here (page_of k s) exists)
      ∙ (ap (λ ps. judged (passes_in k x (parts_of k x past (page_of k s))) ps blocks) (e ∙ access_places_same s)
      ∙ (one_judged s blocks ∙ ap (λ ps. judged (passes k x past) ps blocks) (sym e')))

  -- the blocks of a whole page
  page_judged : (p : ℕ) (blocks : List (List ℕ)) → judged (passes_in k x (parts_of k x past p)) (sealed_from (p * per_page k) (parts_of k x past p)) blocks ≡ judged (passes k x past) (filter (is_sealed k past) (subs_of k p)) blocks
  page_judged p blocks = ap (λ ps. judged (passes_in k x (parts_of k x past p)) ps blocks) (sealed_are k x past (p * per_page k) (per_page k))
      ∙ judged_same (passes_in k x (parts_of k x past p)) (passes k x past) (filter (is_sealed k past) (subs_of k p)) blocks
      (each_filter (λ s. (c : List ℕ) → passes_in k x (parts_of k x past p) s c ≡ passes k x past s c) (is_sealed k past) (p * per_page k) (per_page k)
      (λ s low high sealed c. subst (λ (q : ℕ). passes_in k x (parts_of k x past q) s c ≡ passes k x past s c) (page_within k p s low high) (passes_same s sealed c)))

  -- the sub-page of an access, and its block
  pub exists_of : (who : ℕ) (at : Addr) (n : ℕ) → access_refusal k past who at n ≡ None → page_of k (sub_of k at) < all_pages k
  exists_of who at n e =
      let home : ℕ = enclave_of k who in
      let range : is_in_range (sub_bytes k home) home (subs k home) at n ≡ true = in_range_of (is_in_range (sub_bytes k home) home (subs k home) at n) _ e in
      page_exists k home (sub_of k at) (sub_in_range k home at n range)

  block_same : (home : ℕ) (at : Addr) (n : ℕ) → is_in_range (sub_bytes k home) home (subs k home) at n ≡ true → block_at k (cell_part (page_of k (sub_of k at))) at ≡ find (has_sub (at.at / sub_bytes k home)) (live k past home)
  block_same home at n range =
      let s : ℕ = sub_of k at in
      let inside = sub_in_range k home at n range in
      ap (λ (q : Part). block_at k q at) (page_here (page_of k s) (page_exists k home s inside))
      ∙ (ap (λ (u : SubPart). u.block) (part_of_sub k x past s)
      ∙ (ap (λ (e : ℕ). block_in k e (live k past e) s) (home_sub_is k home s inside)
      ∙ ap (λ (i : ℕ). find (has_sub i) (live k past home)) (place_is k home at (at_home_is k home at n range))))

  -- an access is refused by the part of its page just as it is after the history
  pub refusal_same : (who : ℕ) (at : Addr) (n : ℕ) → refusal_in k who at n (block_at k (cell_part (page_of k (sub_of k at))) at) ≡ access_refusal k past who at n
  refusal_same who at n =
      let home : ℕ = enclave_of k who in
      by_test (is_in_range (sub_bytes k home) home (subs k home) at n)
      (λ v. is_in_range (sub_bytes k home) home (subs k home) at n ≡ v → (if v then use_refusal who (block_at k (cell_part (page_of k (sub_of k at))) at) else Some BadRange) ≡ (if v then use_refusal who (find (has_sub (at.at / sub_bytes k home)) (live k past home)) else Some BadRange))
      (λ _ range. ap (use_refusal who) (block_same home at n range)) (λ _ range. refl) refl

  -- what was wanted
  wanted_refusal_same : (who : ℕ) (wanted : Wanted) → NeedsFrame wanted → wanted_refusal_in k who wanted (block_at k (cell_part (page_of k (sub_of k (address_of wanted)))) (address_of wanted)) ≡ wanted_refusal k past who wanted
  wanted_refusal_same who (ALink at) needs = refusal_same who at 1
  wanted_refusal_same who (ACall (Read at n)) needs = refusal_same who at n
  wanted_refusal_same who (ACall (Write at new)) needs = refusal_same who at (length new)
  wanted_refusal_same who (ACall (Alloc n)) needs = absurd needs
  wanted_refusal_same who (ACall (Free at)) needs = absurd needs
  wanted_refusal_same who (ACall (Share at)) needs = absurd needs

  -- its page is one of the machine's where it needs a frame and is not refused
  pub wanted_exists : (who : ℕ) (wanted : Wanted) → NeedsFrame wanted → wanted_refusal k past who wanted ≡ None → page_of k (sub_of k (address_of wanted)) < all_pages k
  wanted_exists who (ALink at) needs e = exists_of who at 1 e
  wanted_exists who (ACall (Read at n)) needs e = exists_of who at n e
  wanted_exists who (ACall (Write at new)) needs e = exists_of who at (length new) e
  wanted_exists who (ACall (Alloc n)) needs e = absurd needs
  wanted_exists who (ACall (Free at)) needs e = absurd needs
  wanted_exists who (ACall (Share at)) needs e = absurd needs

  -- by its part the page is absent, and nothing refused, just where that is so after the history
  pub wanted_same : (who : ℕ) (wanted : Wanted) → NeedsFrame wanted → Same (IsWantedIn k who wanted (cell_part (page_of k (sub_of k (address_of wanted))))) (IsWanted k past who wanted)
  wanted_same who wanted needs =
      let p : ℕ = page_of k (sub_of k (address_of wanted)) in
      let here = wanted_refusal_same who wanted needs in (
        λ h. let free : wanted_refusal k past who wanted ≡ None = sym here ∙ h.not_refused in
            record { not_refused = free; absent = sym (ap (λ (o : Option ℕ). is_some o) (frame_here p (wanted_exists who wanted needs free))) ∙ h.absent },
        λ h. record { not_refused = here ∙ h.not_refused; absent = ap (λ (o : Option ℕ). is_some o) (frame_here p (wanted_exists who wanted needs h.not_refused)) ∙ h.absent },
      )

  -- the blocks of its page are judged alike by the part and after the history
  pub spoiled_judged : (wanted : Wanted) (blocks : List (List ℕ)) → page_of k (sub_of k (address_of wanted)) < all_pages k
      → verdict_in k x (Spoiled wanted) blocks (cell_part (page_of k (sub_of k (address_of wanted)))) ≡ verdict k x past (Spoiled wanted) blocks
  spoiled_judged wanted blocks exists = ap (λ (q : Part). verdict_in k x (Spoiled wanted) blocks q) (page_here (page_of k (sub_of k (address_of wanted))) exists) ∙ page_judged (page_of k (sub_of k (address_of wanted))) blocks

  -- and so are those of a fill
  pub fill_judged : (p f : ℕ) (blocks : List (List ℕ)) → p < all_pages k → verdict_in k x (Fill p f) blocks (cell_part p) ≡ verdict k x past (Fill p f) blocks
  fill_judged p f blocks exists = ap (λ (q : Part). verdict_in k x (Fill p f) blocks q) (page_here p exists) ∙ page_judged p blocks
