-- The blocks that an entry seals, by the parts of its page and by the history.
use Rattle.std.proofs.Common.{◌≡◌, ℕ, zero, suc, ◌+◌, ◌-◌, ◌*◌, ◌/◌, ◌<◌, ◌≤◌, ◌==◌, List, [], ◌∷◌, ◌++◌, length, map, filter, Bool, true, false, not, ◌&&◌, ◌||◌, Option, is_some, if◌then◌else◌, refl, sym, ◌∙◌, subst, ap, arith}
use Rattle.std.specs.List.{range_with_len}
use Rattle.std.proofs.lemmas.Bool.{eqb-true}
use Rattle.eleos_base.specs.declared.memory.Op.{Op as Calls}
use Rattle.eleos_base.specs.declared.memory.Op.TheVariants.{Alloc, Free, Share, Read, Write}
use Rattle.eleos_base.specs.declared.memory.Reply.{Reply}
use Rattle.eleos_base.specs.declared.plan.Plan.{Plan}
use Rattle.eleos_base.specs.Plain.{is_accepted}
use Rattle.eleos_base.specs.Plans.{enclave_of, sub_bytes}
use Rattle.eleos_core.specs.declared.event.Entry.{Entry}
use Rattle.eleos_core.specs.declared.event.Event.{Event}
use Rattle.eleos_core.specs.declared.event.Event.TheVariants.{Op, Link, Unlink, Fill, Evict, Move, Starved, Spoiled, Survey}
use Rattle.eleos_core.specs.Applying.{page_puts, puts_from, puts_in, puts_of, stamp_of}
use Rattle.eleos_core.specs.Legal.{CoreStep, access_refusal, is_worn, verdict}
use Rattle.eleos_core.specs.Parts.{Part, Stamp, SubPart, frame_in, opened_in, page_cell, part_at, places_in, seals_in, sealing_in, sub_part, subs_in}
use Rattle.eleos_base.specs.Places.{all_pages, all_subs, first_sub, is_sub_of, page_of, per_page, sub_of}
use Rattle.eleos_core.specs.Seals.{Seals}
use Rattle.eleos_core.specs.State.{History, bytes, entry, evicts, frame, is_dirty, is_present, is_sealing, last, opened, rewritten, sealing, version, writes}
use Rattle.eleos_core.proofs.CellNumbers.{parts_of}
use Rattle.eleos_core.proofs.Numbers.{page_within}
use Rattle.eleos_core.proofs.OnParts.{exists_of, page_here}
use Rattle.eleos_core.proofs.Replies.{access_refuses, write_accepted}
use Rattle.eleos_core.proofs.SubParts.{opened_write, written, writes_no_other}
use Rattle.eleos_core.proofs.Tests.{by_test, first_of}

-- lists over ranges
range_parts : (a m n : ℕ) → range_with_len a (m + n) ≡ range_with_len a m ++ range_with_len (a + m) n
range_parts a zero n = λ i. range_with_len (start i) (many i)
  where
    many : 0 + n ≡ n
    many = omega arith

    start : a ≡ a + 0
    start = omega arith
range_parts a (suc m) n = counted ∙ ap (λ r. a ∷ r) (range_parts (a + 1) m n ∙ ap (λ b. range_with_len (a + 1) m ++ range_with_len b n) same)
  where
    more : suc m + n ≡ suc (m + n)
    more = omega arith

    counted : range_with_len a (suc m + n) ≡ range_with_len a (suc (m + n))
    counted = ap (range_with_len a) more

    same : a + 1 + m ≡ a + suc m
    same = omega arith

filter_parts : (t : ℕ → Bool) (xs ys : List ℕ) → filter t (xs ++ ys) ≡ filter t xs ++ filter t ys
filter_parts t [] ys = refl
filter_parts t (x ∷ xs) ys = by_test (t x) (λ v. (if v then x ∷ filter t (xs ++ ys) else filter t (xs ++ ys)) ≡ (if v then x ∷ filter t xs else filter t xs) ++ filter t ys)
    (λ _. ap (λ r. x ∷ r) (filter_parts t xs ys))
    (λ _. filter_parts t xs ys)

none_pass : (t : ℕ → Bool) (a n : ℕ) → ((s : ℕ) → a ≤ s → s < a + n → t s ≡ false) → filter t (range_with_len a n) ≡ []
none_pass t a zero none = refl
none_pass t a (suc n) none = ap (λ v. if v then a ∷ filter t (range_with_len (a + 1) n) else filter t (range_with_len (a + 1) n)) (none a (omega arith) (omega arith)) ∙ none_pass t (a + 1) n (λ s low high. none s (omega arith) (omega arith))

append_none : (xs : List ℕ) → xs ++ [] ≡ xs
append_none [] = refl
append_none (x ∷ xs) = ap (λ r. x ∷ r) (append_none xs)

-- where none outside a run passes, those of all numbers that pass are those of the run
only_here : (t : ℕ → Bool) (a n b : ℕ) → ((s : ℕ) → s < a → t s ≡ false) → ((s : ℕ) → a + n ≤ s → t s ≡ false) → filter t (range_with_len 0 (a + (n + b))) ≡ filter t (range_with_len a n)
only_here t a n b below above =
    let from : 0 + a ≡ a = omega arith in
    ap (filter t) (range_parts 0 a (n + b)) ∙ (filter_parts t (range_with_len 0 a) (range_with_len (0 + a) (n + b))
    ∙ (ap (λ c. filter t (range_with_len 0 a) ++ filter t (range_with_len c (n + b))) from
    ∙ (ap (λ r. r ++ filter t (range_with_len a (n + b))) (none_pass t 0 a (λ s low high. below s (omega arith)))
    ∙ (ap (filter t) (range_parts a n b) ∙ (filter_parts t (range_with_len a n) (range_with_len (a + n) b)
    ∙ (ap (λ r. filter t (range_with_len a n) ++ r) (none_pass t (a + n) b (λ s low high. above s low)) ∙ append_none (filter t (range_with_len a n))))))))

false_by : (b : Bool) → (b ≡ true → ⊥) → b ≡ false
false_by true never = absurd (never refl)
false_by false never = refl

module _ (k : Plan) (x : Seals) (past : History) (d : Stamp) where
  abbrev e : Entry
  e = d.entry

  -- nothing is sealed where no sub-page is
  puts_none : (ps : List ℕ) (f : Option ℕ) (s : ℕ) (us : List SubPart) → ((s : ℕ) (u : SubPart) → seals_in k x e (is_some f) s u ≡ false) → puts_from k x d ps f s us ≡ []
  puts_none ps f s [] none = refl
  puts_none ps f s (u ∷ us) none = ap (λ v. if v then (s, x.seal s (u.version + 1) (sealing_in k x e ps s u)) ∷ puts_from k x d ps f (s + 1) us else puts_from k x d ps f (s + 1) us) (none s u) ∙ puts_none ps f (s + 1) us none

  module _ (p : ℕ) (ps : List ℕ) (ew : (s : ℕ) → page_of k s ≡ p → writes k e.who e.event e.reply s ≡ true → opened_in k x e ps s (sub_part k x past s) ≡ opened k x e past s)
      (ed : (s : ℕ) → evicts k e.event s ≡ true → is_present k past s ≡ true) where
    sealed_text : (s : ℕ) → page_of k s ≡ p → is_sealing k e past s ≡ true → sealing_in k x e ps s (sub_part k x past s) ≡ sealing k x e past s
    sealed_text s here seals = by_test (evicts k e.event s) (λ v. evicts k e.event s ≡ v → (v && is_dirty k past s) || (writes k e.who e.event e.reply s && not (is_present k past s)) ≡ true
        → (if v then (sub_part k x past s).bytes else rewritten k e.who e.event (opened_in k x e ps s (sub_part k x past s))) ≡ (if v then bytes k x past s else rewritten k e.who e.event (opened k x e past s)))
        (λ _ is t. ap (λ (v : Bool). if v then bytes k x past s else []) (ed s is))
        (λ _ is t. ap (rewritten k e.who e.event) (ew s here (first_of (writes k e.who e.event e.reply s) (not (is_present k past s)) t))) refl seals

    -- the blocks of a range of the page's sub-pages
    puts_range : (a n : ℕ) → ((s : ℕ) → a ≤ s → s < a + n → page_of k s ≡ p)
        → puts_from k x d ps (frame past p) a (map (sub_part k x past) (range_with_len a n)) ≡ map (λ s. (s, last k x (e ∷ past) s)) (filter (is_sealing k e past) (range_with_len a n))
    puts_range a zero here = refl
    puts_range a (suc n) here =
        let rest = puts_range (a + 1) n (λ s low high. here s (omega arith) (omega arith)) in
        let now : page_of k a ≡ p = here a (omega arith) (omega arith) in
        let same : seals_in k x e (is_some (frame past p)) a (sub_part k x past a) ≡ is_sealing k e past a = ap (λ (q : ℕ). (evicts k e.event a && is_dirty k past a) || (writes k e.who e.event e.reply a && not (is_some (frame past q)))) (sym now) in
        let u : SubPart = sub_part k x past a in
        let more = puts_from k x d ps (frame past p) (a + 1) (map (sub_part k x past) (range_with_len (a + 1) n)) in
        ap (λ v. if v then (a, x.seal a (u.version + 1) (sealing_in k x e ps a u)) ∷ more else more) same
        ∙ by_test (is_sealing k e past a) (λ v. is_sealing k e past a ≡ v → (if v then (a, x.seal a (u.version + 1) (sealing_in k x e ps a u)) ∷ more else more)
        ≡ map (λ s. (s, last k x (e ∷ past) s)) (if v then a ∷ filter (is_sealing k e past) (range_with_len (a + 1) n) else filter (is_sealing k e past) (range_with_len (a + 1) n)))
        (λ _ is. ap (λ t. (a, x.seal a (version k past a + 1) t) ∷ more) (sealed_text a now is)
        ∙ (ap (λ (v : Bool). (a, (if v then x.seal a (version k past a + 1) (sealing k x e past a) else last k x past a)) ∷ more) (sym is)
        ∙ ap (λ r. (a, last k x (e ∷ past) a) ∷ r) rest))
        (λ _ is. rest) refl

  -- a page of the machine leaves no sub-page out
  split : (p : ℕ) → p < all_pages k → all_pages k * per_page k ≡ p * per_page k + (per_page k + (all_pages k - p - 1) * per_page k)
  split p inside = omega arith

  -- where only the page's sub-pages are sealed, the blocks are those of the page
  of_page : (p : ℕ) → p < all_pages k → ((s : ℕ) → is_sealing k e past s ≡ true → page_of k s ≡ p)
      → ((s : ℕ) → page_of k s ≡ p → writes k e.who e.event e.reply s ≡ true → opened_in k x e (places_in k e.event (frame past p) (parts_of k x past p)) s (sub_part k x past s) ≡ opened k x e past s)
      → ((s : ℕ) → evicts k e.event s ≡ true → is_present k past s ≡ true)
      → page_puts k x d p (part_at k x past (page_cell k p)) ≡ puts_of k x e past
  of_page p inside only ew ed =
      let all : filter (is_sealing k e past) (all_subs k) ≡ filter (is_sealing k e past) (range_with_len (p * per_page k) (per_page k))
      = ap (λ n. filter (is_sealing k e past) (range_with_len 0 n)) (split p inside)
      ∙ only_here (is_sealing k e past) (p * per_page k) (per_page k) ((all_pages k - p - 1) * per_page k)
      (λ s low. false_by (is_sealing k e past s) (λ is. let at = only s is in absurd (below s p at low)))
      (λ s high. false_by (is_sealing k e past s) (λ is. let at = only s is in absurd (above s p at high))) in
      ap (λ (q : Part). page_puts k x d p q) (page_here k x past p inside)
      ∙ (puts_range p (places_in k e.event (frame past p) (parts_of k x past p)) ew ed (p * per_page k) (per_page k) (λ s low high. page_within k p s low high)
      ∙ ap (map (λ s. (s, last k x (e ∷ past) s))) (sym all))
    where
      below : (s p : ℕ) → page_of k s ≡ p → s < p * per_page k → ⊥
      below s p at low = omega arith

      above : (s p : ℕ) → page_of k s ≡ p → p * per_page k + per_page k ≤ s → ⊥
      above s p at high = omega arith

module _ (k : Plan) (x : Seals) (past : History) where
  -- an entry that neither evicts nor writes seals nothing
  seals_nothing : (e : Entry) → ((s : ℕ) → is_sealing k e past s ≡ false) → puts_of k x e past ≡ []
  seals_nothing e none = ap (map (λ s. (s, last k x (e ∷ past) s))) (none_pass (is_sealing k e past) 0 (all_pages k * per_page k) (λ s low high. none s))

  quiet_call : (who : ℕ) (op : Calls) (blocks : List (List ℕ)) (reply : Reply) → ((s : ℕ) → writes k who (Op op) reply s ≡ true → ⊥) → puts_of k x (entry who (Op op) blocks reply) past ≡ []
  quiet_call who op blocks reply none = seals_nothing (entry who (Op op) blocks reply) (λ s. ap (λ v. v && not (is_present k past s)) (false_by (writes k who (Op op) reply s) (none s)))

  -- the blocks that a legal entry seals
  pub puts_are : (who : ℕ) (event : Event) (blocks : List (List ℕ)) (reply : Reply) (len : ℕ) → CoreStep k x past (entry who event blocks reply)
      → puts_in k x (stamp_of who event blocks reply len) (part_at k x past) event ≡ puts_of k x (entry who event blocks reply) past
  puts_are who (Op (Alloc n)) blocks reply len step = sym (quiet_call who (Alloc n) blocks reply (λ s w. writes_no_other k who (Alloc n) reply s w))
  puts_are who (Op (Free at)) blocks reply len step = sym (quiet_call who (Free at) blocks reply (λ s w. writes_no_other k who (Free at) reply s w))
  puts_are who (Op (Share at)) blocks reply len step = sym (quiet_call who (Share at) blocks reply (λ s w. writes_no_other k who (Share at) reply s w))
  puts_are who (Op (Read at n)) blocks reply len step = sym (quiet_call who (Read at n) blocks reply (λ s w. writes_no_other k who (Read at n) reply s w))
  puts_are who (Op (Write at new)) blocks reply len step =
      let d : Stamp = stamp_of who (Op (Write at new)) blocks reply len in
      let p : ℕ = page_of k (sub_of k at) in
      by_test (is_accepted reply) (λ v. is_accepted reply ≡ v → puts_in k x d (part_at k x past) (Op (Write at new)) ≡ puts_of k x (entry who (Op (Write at new)) blocks reply) past)
      (λ _ yes_is.
      let h = write_accepted (access_refusal k past who at (length new)) (is_worn k past (sub_of k at)) (verdict k x past (Op (Write at new)) blocks) (sub_of k at) (entry who (Op (Write at new)) blocks reply)
      (access_refuses k past who at (length new)) step.step yes_is in
      of_page k x past d p (exists_of k x past who at (length new) h.0)
      (λ s is. ap (page_of k) (sym (written k x past who at new blocks reply s step (first_of (writes k who (Op (Write at new)) reply s) (not (is_present k past s)) is)).there))
      (λ s here w. subst (λ (q : ℕ). opened_in k x d.entry (places_in k (Op (Write at new)) (frame past q) (parts_of k x past q)) s (sub_part k x past s) ≡ opened k x d.entry past s) here (opened_write k x past who (Op (Write at new)) blocks reply s step w))
      (λ s is. cc))
      (λ _ no_is.
      let none = λ (s : ℕ). unwritten s no_is in
      puts_none k x past d (places_in k (Op (Write at new)) (frame_in (part_at k x past (page_cell k p))) (subs_in (part_at k x past (page_cell k p)))) (frame_in (part_at k x past (page_cell k p))) (p * per_page k) (subs_in (part_at k x past (page_cell k p)))
      (λ s u. ap (λ v. v && not (is_some (frame_in (part_at k x past (page_cell k p))))) (none s))
      ∙ sym (seals_nothing (entry who (Op (Write at new)) blocks reply) (λ s. ap (λ v. v && not (is_present k past s)) (none s)))) refl
    where
      unwritten : (s : ℕ) → is_accepted reply ≡ false → writes k who (Op (Write at new)) reply s ≡ false
      unwritten s no_is = ap (λ v. is_sub_of k (enclave_of k who) s && (v && at.at / sub_bytes k (enclave_of k who) == s - first_sub k (enclave_of k who))) no_is ∙ none (is_sub_of k (enclave_of k who) s)
        where
          none : (b : Bool) → b && false ≡ false
          none true = refl
          none false = refl
  puts_are who (Evict p f) blocks reply len step =
      let d : Stamp = stamp_of who (Evict p f) blocks reply len in
      of_page k x past d p step.within.1
      (λ s is. eqb-true (page_of k s) p (first_of (page_of k s == p) (is_dirty k past s) (plain_or (page_of k s == p && is_dirty k past s) is)))
      (λ s here w. cc)
      (λ s is. ap (λ (q : ℕ). is_some (frame past q)) (eqb-true (page_of k s) p is) ∙ ap (λ (o : Option ℕ). is_some o) step.step.0.present)
    where
      plain_or : (b : Bool) → b || false ≡ true → b ≡ true
      plain_or true e = refl
      plain_or false e = cc
  puts_are who (Link at) blocks reply len step = sym (seals_nothing (entry who (Link at) blocks reply) (λ s. refl))
  puts_are who (Unlink p) blocks reply len step = sym (seals_nothing (entry who (Unlink p) blocks reply) (λ s. refl))
  puts_are who (Fill p f) blocks reply len step = sym (seals_nothing (entry who (Fill p f) blocks reply) (λ s. refl))
  puts_are who (Move f from to) blocks reply len step = sym (seals_nothing (entry who (Move f from to) blocks reply) (λ s. refl))
  puts_are who (Starved wanted sweep) blocks reply len step = sym (seals_nothing (entry who (Starved wanted sweep) blocks reply) (λ s. refl))
  puts_are who (Spoiled wanted) blocks reply len step = sym (seals_nothing (entry who (Spoiled wanted) blocks reply) (λ s. refl))
  puts_are who (Survey home goal sweep) blocks reply len step = sym (seals_nothing (entry who (Survey home goal sweep) blocks reply) (λ s. refl))
