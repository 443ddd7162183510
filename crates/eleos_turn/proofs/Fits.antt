-- The fields of a hand fit together after each call.
use Rattle.std.proofs.Common.{◌≡◌, ℕ, zero, suc, inl, ◌+◌, ◌-◌, ◌*◌, ◌^◌, ◌<◌, ◌≤◌, Option, List, [], ◌∷◌, ◌++◌, length, refl, sym, ap, ◌∙◌, subst, arith, append-nil, length-append}
use mathlib.Core.Logic.{dite}
use native.Mathlib.Decide.{ℕ_discrete}
use Rattle.atomic_table.specs.Table.{Me}
use Rattle.atomic_table.specs.Seated.{TableId}
use Rattle.eleos_base.specs.declared.plot.Event.{Event}
use Rattle.eleos_base.specs.Ties.{Has, Tie, neither, adds, takes, tied_is}
use Rattle.eleos_base.specs.Terms.{Terms}
use Rattle.eleos_base.specs.Histories.{linked, Legal, no_link}
use Rattle.eleos_base.specs.declared.plot.Tied.{Tied}
use Rattle.eleos_base.specs.declared.plot.Tied.TheVariants.{No, Adds, Takes}
use Rattle.eleos_turn.specs.declared.answers.Refused.{Refused}
use Rattle.eleos_turn.specs.declared.view.View.{View}
use Rattle.eleos_turn.specs.Numbers.{times, numbers_of, most_of, most_pins}
use Rattle.eleos_turn.specs.Rule.{Apart, IsAtRest}
use Rattle.eleos_turn.specs.Views.{hand_of, freed, pinned, unpinned, observed}
use Rattle.eleos_turn.specs.Plays.{SeatTook, SeatStamped, SeatCanStamp, SeesMore}
use Rattle.eleos_turn.specs.Hands.{Home, HandState, no_refusal, fresh, dealt, state_of, view_of, with_turn, without_turn, with_entry, with_pin, without_pin, looked_at, refused_at, tied_to, links, links_on, CanStamp, Stamped, IsSound, IsHand, tallied}
use Rattle.eleos_turn.proofs.Numbers.{here, less_exact, times_has}
use Rattle.eleos_turn.proofs.Sound.{numbers_made, numbers_only, most_made, links_more, sound_more, sound_took, sound_given, sound_entry, sound_pin, sound_unpin, sound_looked, sound_refused, sound_fresh}
use Rattle.eleos_turn.proofs.Links.{links_append, links_apart, links_times, tied_count}

module _ {C D Q G : Type 0} (t : Terms C D Q G) where
  abbrev M : Type 0
  M = Me (Option C) (View D Q G)

  abbrev S : Type 0
  S = HandState D Q G

  -- the fields fit where the seat is that of a sound state
  pub fits : (z : TableId) (k : ℕ) (r : Refused) (m : M) (stamps held tied : ℕ) (s : S) → z ≡ s.home.table → k ≡ s.number → r ≡ s.refused → m ≡ (view_of s, []) → stamps ≡ s.left → held ≡ length s.turns
      → (0 < s.number → tied ≡ length (links t s)) → tied + s.left ≤ s.home.base.each → IsSound t s → IsHand t (state_of z k r m.0) m stamps held tied
  fits z k r m stamps held tied s z_is k_is r_is m_is left turned tied_is few sound =
      let is : state_of z k r m.0 ≡ s = (λ i. state_of (z_is i) (k_is i) (r_is i) ((m_is i).0)) in
      subst (λ (x : S × M). IsHand t x.0 x.1 stamps held tied) (λ i. (sym is i, sym m_is i)) (record { is = refl; left = left; turned = turned; links = tied_is; few = few; sound = sound })

  -- the links of a hand are as many behind what others did
  links_stay : (s : S) (more : List (Event D Q)) (held : List ℕ) → 0 < s.number → Apart t s.home.base.grounds (numbers_of s.number) held more → links t (record s { seen = s.seen ++ more }) ≡ links t s
  links_stay s more held made a = links_append t s.home.base.grounds s.number [] s.seen more ∙ links_apart t s.home.base.grounds s.number (links t s) (numbers_of s.number) held more (numbers_made s.number made) a

  -- the fields of a hand fit after the turn of a cell was taken, with one turn more counted
  pub fits_took : (z z' : TableId) (k : ℕ) (r : Refused) (m m' : M) (stamps held tied c n : ℕ) (x : C) → IsHand t (state_of z k r m.0) m stamps held tied → z' ≡ z → 0 < k → c < length m.0.base.opening → (Has c m.0.held → ⊥)
      → SeatTook t c n m.0 x m'.0 → IsAtRest m' → IsHand t (state_of z' k r m'.0) m' stamps (held + 1) tied
  fits_took z z' k r m m' stamps held tied c n x i same made inside free took rest = let s : S = state_of z k r m.0 in
      let took' : SeatTook t c n (view_of s) x m'.0 = subst (λ (y : M). SeatTook t c n y.0 x m'.0) i.is took in let more = took'.0 in
      let sound = sound_more t s more i.sound took'.2.0 took'.2.1 took'.2.2 (subst (λ (w : View D Q G). length w.seen + w.left ≤ w.base.hands * w.base.each) took'.1 took'.4) in
      fits z' k r m' stamps (held + 1) tied (with_turn s more c n) same refl refl (λ j. (took'.1 j, rest.0 j)) i.left (let q = i.turned in omega (arith, q))
      (λ m. i.links m ∙ sym (ap length (links_stay s more s.turns m took'.2.0))) i.few (sound_took t s more c n sound made inside free)

  -- the same after a turn was given back, with one less
  pub fits_given : (z z' : TableId) (k : ℕ) (r : Refused) (m m' : M) (stamps held tied c : ℕ) → IsHand t (state_of z k r m.0) m stamps held tied → z' ≡ z → Has c m.0.held → m' ≡ (freed m.0 c, []) → IsHand t (state_of z' k r m'.0) m' stamps (held - 1) tied
  fits_given z z' k r m m' stamps held tied c i same had given = let s : S = state_of z k r m.0 in
      fits z' k r m' stamps (held - 1) tied (without_turn s c) same refl refl (given ∙ ap (λ (y : M). (freed y.0 c, [])) i.is) i.left (let q = i.turned in let one = less_exact c s.turns had in omega (arith, q, one))
      i.links i.few (sound_given t s c i.sound had)

  -- a hand that has a turn may have pins
  pub most_now : (z : TableId) (k : ℕ) (r : Refused) (m : M) (stamps held tied c : ℕ) → IsHand t (state_of z k r m.0) m stamps held tied → Has c m.0.held → m.0.most ≡ most_pins
  most_now z k r m stamps held tied c i had = ap (λ (y : M). y.0.most) i.is ∙ most_made k (dite (ℕ_discrete k 0) (λ e. absurd (subst (Has c) (i.sound.idle e).0 had)) (λ ne. omega (arith, ne)))

  -- the same after a pin was put on a cell whose turn the hand has
  pub fits_pinned : (z z' : TableId) (k : ℕ) (r : Refused) (m m' : M) (stamps held tied c : ℕ) → IsHand t (state_of z k r m.0) m stamps held tied → z' ≡ z → Has c m.0.held → length m.0.pins < most_pins → m' ≡ (pinned m.0 c, m.1)
      → IsHand t (state_of z' k r m'.0) m' stamps held tied
  fits_pinned z z' k r m m' stamps held tied c i same had few now = let s : S = state_of z k r m.0 in let made : 0 < k = made_of s i.sound c had in
      fits z' k r m' stamps held tied (with_pin s c) same refl refl (now ∙ ap (λ (y : M). (pinned y.0 c, y.1)) i.is) i.left i.turned i.links i.few (sound_pin t s c i.sound made few)
    where
      made_of : (s : S) → IsSound t s → (c : ℕ) → Has c s.turns → 0 < s.number
      made_of s k c had = dite (ℕ_discrete s.number 0) (λ e. absurd (subst (Has c) (k.idle e).0 had)) (λ ne. omega (arith, ne))

  -- the same after a pin was taken off a cell with more pins of the hand than links
  pub fits_unpinned : (z z' : TableId) (k : ℕ) (r : Refused) (m m' : M) (stamps held tied c : ℕ) → IsHand t (state_of z k r m.0) m stamps held tied → z' ≡ z → links_on t (state_of z k r m.0) c < times c m.0.pins → m' ≡ (unpinned m.0 c, m.1)
      → IsHand t (state_of z' k r m'.0) m' stamps held tied
  fits_unpinned z z' k r m m' stamps held tied c i same more now = let s : S = state_of z k r m.0 in
      fits z' k r m' stamps held tied (without_pin s c) same refl refl (now ∙ ap (λ (y : M). (unpinned y.0 c, y.1)) i.is) i.left i.turned i.links i.few (sound_unpin t s c i.sound more)

  -- the same after a look at a cell's word
  pub fits_looked : (z z' : TableId) (k : ℕ) (r : Refused) (m m' : M) (stamps held tied c n : ℕ) → IsHand t (state_of z k r m.0) m stamps held tied → z' ≡ z
      → m' ≡ (record m.0 { looked = (c, n); looks = m.0.looks + 1 }, m.1) → IsHand t (state_of z' k r m'.0) m' stamps held tied
  fits_looked z z' k r m m' stamps held tied c n i same now = let s : S = state_of z k r m.0 in
      fits z' k r m' stamps held tied (looked_at s c n) same refl refl (now ∙ ap (λ (y : M). (record y.0 { looked = (c, n); looks = y.0.looks + 1 }, y.1)) i.is) i.left i.turned i.links i.few (sound_looked t s c n i.sound)

  -- the same after a try that found the cell busy
  pub fits_refused : (z z' : TableId) (k : ℕ) (r r' : Refused) (m m' : M) (stamps held tied c n : ℕ) → IsHand t (state_of z k r m.0) m stamps held tied → z' ≡ z
      → m' ≡ (record m.0 { tried = (c, n); misses = m.0.misses + 1 }, m.1) → r' ≡ (refused_at (state_of z k r m.0) c n).refused → IsHand t (state_of z' k r' m'.0) m' stamps held tied
  fits_refused z z' k r r' m m' stamps held tied c n i same now counted = let s : S = state_of z k r m.0 in
      fits z' k r' m' stamps held tied (refused_at s c n) same refl counted (now ∙ ap (λ (y : M). (record y.0 { tried = (c, n); misses = y.0.misses + 1 }, y.1)) i.is) i.left i.turned i.links i.few (sound_refused t s c n i.sound)

  -- what a hand may stamp its seat may stamp
  pub seat_can : (s : S) (d : D) (kept : List (ℕ × Q)) → IsSound t s → CanStamp t s d kept → SeatCanStamp t (view_of s) (record { entry = d; kept = kept })
  seat_can s d kept k can = let made : 0 < s.number = dite (ℕ_discrete s.number 0) (λ e. let q = (k.idle e).2 in let l = can.left in absurd (omega (arith, q, l))) (λ ne. omega (arith, ne)) in record {
    own = subst (λ (n : ℕ). Has n (numbers_of s.number)) (sym can.own) (numbers_made s.number made);
    left = can.left;
    held = can.held;
    cells = can.cells;
    steps = can.steps;
    bare = λ c h. let q = can.bare c h in (q.0, λ n had. ap (λ (x : ℕ). linked t s.home.base.grounds s.seen x c) (numbers_only s.number n had) ∙ q.1);
    adds_link = λ c is. subst (λ (x : ℕ). linked t s.home.base.grounds s.seen x c < times c s.pins) (sym can.own) (can.adds_link c is);
    takes_link = λ c is. subst (λ (x : ℕ). 0 < linked t s.home.base.grounds s.seen x c) (sym can.own) (can.takes_link c is);
  }

  taken_of : (y : Tie) → tied_is y ≡ Takes → (c : ℕ) × (y ≡ takes c)
  taken_of neither e = absurd (cc e)
  taken_of (adds c) e = absurd (cc e)
  taken_of (takes c) e = (c, refl)

  -- a hand that may take off a link has one
  pub takes_some : (s : S) (m : M) (stamps held tied : ℕ) (d : D) (kept : List (ℕ × Q)) → IsHand t s m stamps held tied → CanStamp t s d kept → tied_is (t.tie s.home.base.grounds d) ≡ Takes → 0 < tied
  takes_some s m stamps held tied d kept i can is = let y = taken_of (t.tie s.home.base.grounds d) is in let some = can.takes_link y.0 y.1 in
      let made : 0 < s.number = dite (ℕ_discrete s.number 0) (λ e. let q = (i.sound.idle e).2 in let l = can.left in absurd (omega (arith, q, l))) (λ ne. omega (arith, ne)) in
      let at = links_times t s.home.base.grounds s.number [] no_link s.seen (λ x. refl) y.0 in
      let one = less_exact y.0 (links t s) (times_has y.0 (links t s) (omega (arith, at, some))) in let q = i.links made in omega (arith, q, one)

  -- what the seat's step told is what contracts say of a stamp
  pub stamped_state : (z z' : TableId) (k : ℕ) (r : Refused) (m m' : M) (stamps held tied n : ℕ) (d : D) (kept : List (ℕ × Q)) → IsHand t (state_of z k r m.0) m stamps held tied → z' ≡ z
      → SeatStamped t (record { entry = d; kept = kept }) m.0 n m'.0 → Stamped t d kept (state_of z k r m.0) n (state_of z' k r m'.0)
  stamped_state z z' k r m m' stamps held tied n d kept i same st = record {
    more = st.0;
    now = λ j. state_of (same j) k r (st.1 j);
    others = subst (λ (y : List ℕ). Apart t m.0.base.grounds y m.0.held st.0) (ap (λ (y : M). y.0.numbers) i.is) st.2.0;
    stamp = st.3;
  }

  -- the count of links after an entry of the hand
  pub tied_now : (s : S) (d : D) (kept : List (ℕ × Q)) (more : List (Event D Q)) (held : List ℕ) → 0 < s.number → t.who d ≡ s.number → Apart t s.home.base.grounds (numbers_of s.number) held more
      → ((c : ℕ) → t.tie s.home.base.grounds d ≡ takes c → 0 < links_on t s c)
      → length (links t (with_entry s more (record { entry = d; kept = kept }))) ≡ tallied (tied_is (t.tie s.home.base.grounds d)) (length (links t s))
  tied_now s d kept more held made by a there = let g : G = s.home.base.grounds in let e : Event D Q = record { entry = d; kept = kept } in
      ap length (links_append t g s.number [] (s.seen ++ more) (e ∷ []) ∙ (here s.number (t.who d) _ _ (sym by)
      ∙ ap (tied_to t (t.tie g d)) (links_stay s more held made a)))
      ∙ tied_count t (t.tie g d) (links t s) (λ c is. subst (λ (n : ℕ). 0 < n) (sym (links_times t g s.number [] no_link s.seen (λ x. refl) c)) (there c is))

  -- the same after an entry was stamped: one stamp less is left, and the links change by the entry's tie
  pub fits_stamped : (z z' : TableId) (k : ℕ) (r : Refused) (m m' : M) (stamps held tied n : ℕ) (d : D) (kept : List (ℕ × Q)) → IsHand t (state_of z k r m.0) m stamps held tied → z' ≡ z → CanStamp t (state_of z k r m.0) d kept
      → SeatStamped t (record { entry = d; kept = kept }) m.0 n m'.0 → m'.1 ≡ m.1 → IsHand t (state_of z' k r m'.0) m' (stamps - 1) held (tallied (tied_is (t.tie m.0.base.grounds d)) tied)
  fits_stamped z z' k r m m' stamps held tied n d kept i same can stamped rest = let s : S = state_of z k r m.0 in let e : Event D Q = record { entry = d; kept = kept } in let g : G = s.home.base.grounds in
      let st : SeatStamped t e (view_of s) n m'.0 = subst (λ (y : M). SeatStamped t e y.0 n m'.0) i.is stamped in let more = st.0 in let some_left = can.left in
      let made : 0 < k = dite (ℕ_discrete k 0) (λ e. let q = (i.sound.idle e).2 in absurd (omega (arith, q, some_left))) (λ ne. omega (arith, ne)) in
      let long = subst (λ (w : View D Q G). length w.seen + w.left ≤ w.base.hands * w.base.each) st.1 st.5 in let l = length-append (s.seen ++ more) (e ∷ []) in
      let seen_more = sound_more t s more i.sound st.2.0 st.2.1 st.2.2 (omega (arith, long, l, some_left)) in
      let s₁ : S = record s { seen = s.seen ++ more } in
      let legal = subst (λ (w : View D Q G). Legal t w.base w.seen) st.1 st.4 in
      let sound = sound_entry t s₁ e seen_more can.own some_left (λ c is. subst (λ (y : ℕ). y < times c s.pins) (sym (links_more t s more s.turns made st.2.0 c)) (can.adds_link c is)) legal in
      let there : (c : ℕ) → t.tie g d ≡ takes c → 0 < links_on t s c = can.takes_link in
      let now = tied_now s d kept more s.turns made can.own st.2.0 there in
      fits z' k r m' (stamps - 1) held (tallied (tied_is (t.tie g d)) tied) (with_entry s more e) same refl refl (λ j. (st.1 j, (rest ∙ ap (λ (y : M). y.1) i.is) j)) (ap (λ (x : ℕ). x - 1) i.left) i.turned
      (λ _. ap (tallied (tied_is (t.tie g d))) (i.links made) ∙ sym now)
      (few_after (tied_is (t.tie g d)) tied s.left s.home.base.each some_left i.few) sound
    where
      few_after : (y : Tied) (a b c : ℕ) → 0 < b → a + b ≤ c → tallied y a + (b - 1) ≤ c
      few_after No a b c l h = omega (arith, l, h)
      few_after Adds a b c l h = omega (arith, l, h)
      few_after Takes a b c l h = omega (arith, l, h)

  -- the seat of a hand of `split`, or of one that was joined, has no numbers, turns or pins
  pub fits_heard : (z z' : TableId) (k : ℕ) (r : Refused) (m m' : M) (stamps held tied : ℕ) (o : S) (more : List (Event D Q)) → IsHand t (state_of z k r m.0) m stamps held tied → z' ≡ z → IsSound t o → o.number ≡ 0
      → m'.0 ≡ record (observed m.0 (view_of o)) { seen = m.0.seen ++ more; told = [] } → SeesMore t (observed m.0 (view_of o)) more → length (m.0.seen ++ more) + m'.0.left ≤ m'.0.base.hands * m'.0.base.each → m'.1 ≡ m.1
      → IsHand t (state_of z' k r m'.0) m' stamps held tied
  fits_heard z z' k r m m' stamps held tied o more i same k' split now sees room rest = let s : S = state_of z k r m.0 in let idle = k'.idle split in
      let no_numbers : numbers_of o.number ≡ [] = ap numbers_of split in let no_most : most_of o.number ≡ 0 = ap most_of split in
      let numbers : m.0.numbers ++ numbers_of o.number ≡ numbers_of k = ap (λ (l : List ℕ). m.0.numbers ++ l) no_numbers ∙ (append-nil m.0.numbers ∙ ap (λ (y : M). y.0.numbers) i.is) in
      let pins : m.0.pins ++ o.pins ≡ s.pins = ap (λ (l : List ℕ). m.0.pins ++ l) idle.1 ∙ append-nil m.0.pins in
      let left : m.0.left + o.left ≡ s.left = (let q = idle.2 in omega (arith, q)) in
      let most : m.0.most + most_of o.number ≡ most_of k = (let q = ap (λ (y : M). y.0.most) i.is in omega (arith, no_most, q)) in
      let moving : m.0.moving ≡ 0 = ap (λ (y : M). y.0.moving) i.is in
      let s' : S = record s { seen = s.seen ++ more } in
      let is : m'.0 ≡ view_of s' = now ∙ (λ j. record { base = m.0.base; numbers = numbers j; seen = m.0.seen ++ more; held = m.0.held; clean = m.0.clean; moving = moving j; pins = pins j; told = []; looked = m.0.looked; looks = m.0.looks; tried = m.0.tried; misses = m.0.misses; left = left j; most = most j }) in
      let sees' : SeesMore t (view_of s) more = (subst (λ (l : List ℕ). Apart t m.0.base.grounds l m.0.held more) numbers sees.0, sees.1, sees.2) in
      let room' : length (s.seen ++ more) + s.left ≤ s.home.base.hands * s.home.base.each = subst (λ (w : View D Q G). length (m.0.seen ++ more) + w.left ≤ w.base.hands * w.base.each) is room in
      fits z' k r m' stamps held tied s' same refl refl (λ j. (is j, (rest ∙ ap (λ (y : M). y.1) i.is) j)) i.left i.turned
      (λ made. i.links made ∙ sym (ap length (links_stay s more s.turns made sees'.0))) i.few (sound_more t s more i.sound sees'.0 sees'.1 sees'.2 room')

  numbers_at : (k : ℕ) → 0 < k → numbers_of k ≡ k ∷ []
  numbers_at k l = only k (numbers_of k) (numbers_made k l) (λ n. numbers_only k n) (single k)
    where
      single : (k : ℕ) → length (numbers_of k) ≤ 1
      single zero = omega arith
      single (suc k) = omega arith

      only : (k : ℕ) (xs : List ℕ) → Has k xs → ((n : ℕ) → Has n xs → n ≡ k) → length xs ≤ 1 → xs ≡ k ∷ []
      only k [] h all few = absurd h
      only k (x ∷ []) h all few = ap (λ (n : ℕ). n ∷ []) (all x (inl refl))
      only k (x ∷ y ∷ ys) h all few = absurd (omega (arith, few))

  -- the fields of a hand that was just dealt fit
  pub fits_fresh : (z : TableId) (home : Home Q G) (k : ℕ) (m : M) (stamps : ℕ) → z ≡ home.table → m ≡ (hand_of home.base k, []) → 0 < k → k ≤ home.base.hands → length home.base.opening < 2 ^ 31 → home.base.each < 2 ^ 64 → stamps ≡ home.base.each
      → IsHand t (state_of z k no_refusal m.0) m stamps 0 0
  fits_fresh z home k m stamps table is made named small few each = let numbers = numbers_at k made in let most = most_made k made in
      fits z k no_refusal m stamps 0 0 (fresh home k) table refl refl (is ∙ (λ j. (record (hand_of home.base k) { numbers = sym numbers j; most = sym most j }, []))) each refl (λ _. refl) (omega arith) (sound_fresh t home k made named small few)

module _ {S D Q G : Type 0} where
  -- what contracts see of a hand that was just dealt
  pub fresh_is : (home : Home Q G) (z : TableId) (k : ℕ) (m : Me S (View D Q G)) → z ≡ home.table → m ≡ (hand_of home.base k, []) → state_of z k no_refusal m.0 ≡ fresh home k
  fresh_is home z k m table is = λ j. state_of (table j) k no_refusal ((is j).0)

-- one hand more
pub dealt_more : {D Q G : Type 0} (z : Home Q G) (a n k : ℕ) → k ≡ a + n → dealt {D = D} z a n ++ fresh z (k + 1) ∷ [] ≡ dealt z a (suc n)
dealt_more {D} {Q} {G} z a zero k e = let q : k ≡ a = omega arith in λ i. fresh z (q i + 1) ∷ []
dealt_more {D} {Q} {G} z a (suc n) k e = ap (λ (l : List (HandState D Q G)). fresh z (a + 1) ∷ l) (dealt_more z (a + 1) n k (omega arith))
