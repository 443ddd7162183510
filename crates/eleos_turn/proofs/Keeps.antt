-- Each step keeps the rule.
use Rattle.std.proofs.Common.{◌≡◌, ◌≢◌, ℕ, zero, suc, ◌+◌, ◌*◌, ◌/◌, ◌%◌, ◌<◌, ◌≤◌, List, [], ◌∷◌, ◌++◌, length, get_or, set, sym, refl, ap, ◌∙◌, subst, ⊎_elim, arith, Option, get_or-set_other, get_or-set_same, le_trans}
use mathlib.Core.Logic.{dite}
use mathlib.Core.Option.{none, some, some-injective, some-ne-none}
use mathlib.Core.Option as maybe
use native.Mathlib.Decide.{ℕ_discrete}
use lib.ListN.{get_elem?}
use Rattle.atomic_table.specs.Table.{State, Me}
use Rattle.atomic_table.proofs.Lists.{at_set, set_here, set_else}
use Rattle.eleos_base.specs.declared.plot.Event.{Event}
use Rattle.eleos_base.specs.declared.plot.Base.{Base}
use Rattle.eleos_base.specs.Ties.{Has}
use Rattle.eleos_base.specs.Terms.{Terms}
use Rattle.eleos_base.specs.Histories.{made, opened, no_link, linked, LegalFrom, Legal, Signed}
use Rattle.eleos_turn.specs.declared.view.View.{View}
use Rattle.eleos_turn.specs.Numbers.{times, total, most_pins}
use Rattle.eleos_turn.specs.Rule.{SeatOk, CellOk, Kept, Apart}
use Rattle.eleos_turn.specs.Plays.{SeesMore}
use Rattle.eleos_base.specs.Words.{IsPlain, pins_in}
use Rattle.eleos_turn.specs.Words.{word_of}
use Rattle.eleos_turn.proofs.Numbers.{times_length, total_same, total_one, total_le}
use Rattle.eleos_turn.proofs.Histories.{made_append, linked_append, legal_back, made_apart, linked_apart}

-- a place where something stands lies within the list
pub length_here : {A : Type 0} (l : List A) (i : ℕ) (a : A) → get_elem? l i ≡ some a → i < length l
length_here [] i a e = absurd (some-ne-none a (sym e))
length_here (x ∷ xs) zero a e = omega arith
length_here (x ∷ xs) (suc i) a e = let h = length_here xs i a e in omega arith

-- all that stands from bit 8 on in a word are its pins
pub pins_plain : (n : ℕ) → IsPlain n → pins_in n ≡ n / 256
pins_plain n plain = let high = plain.high in omega (arith, high)

module _ {C D Q G : Type 0} (t : Terms C D Q G) (b : Base Q G) where
  abbrev pub V : Type 0
  V = View D Q G

  abbrev pub E : Type 0
  E = Event D Q

  abbrev pub Homes : Type 0
  Homes = List (maybe.Option (Option C))

  abbrev pub St : Type 0
  St = State (Option C) V

  abbrev pub M : Type 0
  M = Me (Option C) V

  abbrev pub Rule : St → Type 0
  Rule = Kept t b

  abbrev pub Ok : List E → List ℕ → Homes → (ℕ → ℕ) → (ℕ → ℕ) → ℕ → V → Type 0
  Ok = SeatOk t b

  -- what the rule says of one cell: at home it is what the history made of it, or one seat has its turn
  abbrev pub Cell : List E → List ℕ → Homes → List V → (ℕ → ℕ) → ℕ → Type 0
  Cell = CellOk t b

  -- the word of c has the same parity and the same pins, and no further bit
  abbrev pub SameWord : List ℕ → List ℕ → ℕ → Type 0
  SameWord ws' ws c = (get_or ws' (word_of c) 0 % 2 ≡ get_or ws (word_of c) 0 % 2) × (get_or ws' (word_of c) 0 / 256 ≡ get_or ws (word_of c) 0 / 256) × (get_or ws (word_of c) 0 % 256 < 4 → get_or ws' (word_of c) 0 % 256 < 4)

  -- what holds of the seat that changed, and of each other one, holds of every seat then
  pub every : (K : ℕ → V → Type 0) (vs : List V) (me : ℕ) (w : V) → K me w → ((j : ℕ) (d : V) → j ≢ me → get_elem? vs j ≡ some d → K j d)
      → (j : ℕ) (d : V) → get_elem? (set vs me w) j ≡ some d → K j d
  every K vs me w mine others j d e = ⊎_elim (λ (x : (j ≡ me) × (w ≡ d)). subst (λ (x : ℕ × V). K x.0 x.1) (λ i. (sym x.0 i, x.1 i)) mine)
      (λ (x : (j ≢ me) × (get_elem? vs j ≡ some d)). others j d x.0 x.1) (at_set vs me j w d e)

  -- a seat that is somewhere is there still, or is the one that changed
  pub still : (P : V → Type 0) (vs : List V) (id j : ℕ) (v w d : V) → get_elem? vs id ≡ some v → get_elem? vs j ≡ some d → P d → (P v → P w) → (u : V) × (get_elem? (set vs id w) j ≡ some u) × P u
  still P vs id j v w d at there p keep = dite (ℕ_discrete j id)
      (λ (e : j ≡ id). let same : v ≡ d = some-injective v d (sym at ∙ (ap (get_elem? vs) (sym e) ∙ there)) in
      (w, ap (get_elem? (set vs id w)) e ∙ set_here vs id w (length_here vs id v at), keep (subst P (sym same) p)))
      (λ (ne : j ≢ id). (d, set_else vs id j w ne ∙ there, p))

  -- what a step has to say of a seat, where it changes neither the history nor who has which number
  pub ok_again : (h : List E) (ws ws' : List ℕ) (homes homes' : Homes) (holder holder' owner : ℕ → ℕ) (j : ℕ) (d : V) → Ok h ws homes holder owner j d
      → ((c : ℕ) → Has c d.held → (get_or ws' (word_of c) 0 % 2 ≡ get_or ws (word_of c) 0 % 2) × (holder' c ≡ holder c) × (get_elem? homes' c ≡ get_elem? homes c))
      → ((c : ℕ) → Has c d.clean → get_or ws' (word_of c) 0 / 256 ≡ get_or ws (word_of c) 0 / 256) → Ok h ws' homes' holder' owner j d
  ok_again h ws ws' homes homes' holder holder' owner j d k turns pins = record {
    base_is = k.base_is;
    unseen = k.unseen;
    sees = k.sees;
    told = k.told;
    once = k.once;
    apart = k.apart;
    numbers = k.numbers;
    acts = k.acts;
    turns = λ c has. let a = k.turns c has in let z = turns c has in (a.0, z.0 ∙ a.1, z.1 ∙ a.2, λ m. z.2 ∙ a.3 m);
    clean = λ c has. let a = k.clean c has in (a.0, pins c has ∙ a.1);
    covered = k.covered;
    fits = k.fits;
  }

  -- a step of one seat that adds nothing to the history
  pub turned : (s : St) (r : Rule s) (id : ℕ) (v w : V) (words' : List ℕ) (homes' : Homes) (holder' : ℕ → ℕ) → get_elem? s.views id ≡ some v
      → length words' ≡ length s.words → get_or words' 0 0 ≡ get_or s.words 0 0 → length homes' ≡ length s.homes
      → w.left ≡ v.left → w.most ≡ v.most → ((n : ℕ) → Has n v.numbers → Has n w.numbers)
      → Ok r.history words' homes' holder' r.owner id w
      → ((j : ℕ) (d : V) → j ≢ id → get_elem? s.views j ≡ some d → Ok r.history words' homes' holder' r.owner j d)
      → ((c : ℕ) → c < length b.opening → Cell r.history words' homes' (set s.views id w) holder' c)
      → Rule record { words = words'; homes = homes'; views = set s.views id w }
  turned s r id v w words' homes' holder' at as_wide first as_deep left most numbers mine others cells = let room = r.room in let pins = r.pins in record {
    history = r.history;
    holder = holder';
    owner = r.owner;
    wide = as_wide ∙ r.wide;
    deep = as_deep ∙ r.deep;
    stamps = first ∙ r.stamps;
    legal = r.legal;
    signed = r.signed;
    room = let q = total_same (λ (d : V). d.left) s.views id v w at left in omega arith;
    pins = let q = total_same (λ (d : V). d.most) s.views id v w at most in omega arith;
    owned = λ n l m. let o = r.owned n l m in still (λ (d : V). Has n d.numbers) s.views id (r.owner n) v w o.0 at o.1 o.2 (numbers n);
    each_seat = every (Ok r.history words' homes' holder' r.owner) s.views id w mine others;
    each_cell = cells;
  }

  -- a cell whose turn stays with whom it is
  pub cell_turned : (s : St) (r : Rule s) (id : ℕ) (v w : V) (words' : List ℕ) (homes' : Homes) (holder' : ℕ → ℕ) (c : ℕ) → get_elem? s.views id ≡ some v → c < length b.opening
      → get_or words' (word_of c) 0 % 2 ≡ get_or s.words (word_of c) 0 % 2 → get_elem? homes' c ≡ get_elem? s.homes c → holder' c ≡ r.holder c → (Has c v.held → Has c w.held)
      → get_or words' (word_of c) 0 / 256 ≡ total (λ (d : V). times c d.pins) (set s.views id w) → get_or words' (word_of c) 0 % 256 < 4 → Cell r.history words' homes' (set s.views id w) holder' c
  cell_turned s r id v w words' homes' holder' c at inside same home holds keep pins low = let o = r.each_cell c inside in record {
    free = λ even. let f = o.free (sym same ∙ even) in (f.0, home ∙ f.1, f.2);
    busy = λ odd. let f = o.busy (sym same ∙ odd) in let z = still (λ (d : V). Has c d.held) s.views id (r.holder c) v w f.0 at f.1 f.2 keep in (z.0, ap (get_elem? (set s.views id w)) holds ∙ z.1, z.2);
    pins = pins;
    low = low;
  }

  -- a cell that the step does not touch
  pub cell_again : (s : St) (r : Rule s) (id : ℕ) (v w : V) (words' : List ℕ) (homes' : Homes) (holder' : ℕ → ℕ) (c : ℕ) → get_elem? s.views id ≡ some v → c < length b.opening
      → SameWord words' s.words c → get_elem? homes' c ≡ get_elem? s.homes c → holder' c ≡ r.holder c → (Has c v.held → Has c w.held) → times c w.pins ≡ times c v.pins
      → Cell r.history words' homes' (set s.views id w) holder' c
  cell_again s r id v w words' homes' holder' c at inside same home holds keep pins = cell_turned s r id v w words' homes' holder' c at inside same.0 home holds keep
      (same.1 ∙ ((r.each_cell c inside).pins ∙ sym (total_same (λ (d : V). times c d.pins) s.views id v w at pins))) (same.2 (r.each_cell c inside).low)

  -- no other seat has the turn
  pub alone : (s : St) (r : Rule s) (id : ℕ) (v : V) (at : get_elem? s.views id ≡ some v) (c : ℕ) → Has c v.held → (j : ℕ) (d : V) → j ≢ id → get_elem? s.views j ≡ some d → Has c d.held → ⊥
  alone s r id v at c has j d other there has' = other (sym (((r.each_seat j d there).turns c has').2) ∙ ((r.each_seat id v at).turns c has).2)

  -- a step that changes the cell c, where no other seat has its turn
  pub cell_step : (s : St) (r : Rule s) (id : ℕ) (v w : V) (c : ℕ) (words' : List ℕ) (homes' : Homes) (holder' : ℕ → ℕ) → get_elem? s.views id ≡ some v
      → length words' ≡ length s.words → get_or words' 0 0 ≡ get_or s.words 0 0 → ((k : ℕ) → k ≢ c → SameWord words' s.words k)
      → length homes' ≡ length s.homes → ((k : ℕ) → k ≢ c → get_elem? homes' k ≡ get_elem? s.homes k) → ((k : ℕ) → k ≢ c → holder' k ≡ r.holder k)
      → ((j : ℕ) (d : V) → j ≢ id → get_elem? s.views j ≡ some d → Has c d.held → ⊥)
      → ((k : ℕ) → k ≢ c → Has k v.held → Has k w.held) → ((k : ℕ) → k ≢ c → times k w.pins ≡ times k v.pins) → w.left ≡ v.left → w.most ≡ v.most → ((n : ℕ) → Has n v.numbers → Has n w.numbers)
      → Ok r.history words' homes' holder' r.owner id w
      → (c < length b.opening → Cell r.history words' homes' (set s.views id w) holder' c)
      → Rule record { words = words'; homes = homes'; views = set s.views id w }
  cell_step s r id v w c words' homes' holder' at as_wide first others as_deep slots holders alone keep pins left most numbers mine cell =
      turned s r id v w words' homes' holder' at as_wide first as_deep left most numbers mine
      (λ j d other there. let k = r.each_seat j d there in let apart : (z : ℕ) → Has z d.held → z ≢ c = (λ z has e. alone j d other there (subst (λ (y : ℕ). Has y d.held) e has)) in
      ok_again r.history s.words words' s.homes homes' r.holder holder' r.owner j d k (λ z has. let ne = apart z has in ((others z ne).0, holders z ne, slots z ne)) (λ z has. (others z (apart z ((k.clean z has).0))).1))
      (λ k inside. dite (ℕ_discrete k c)
      (λ (e : k ≡ c). subst (Cell r.history words' homes' (set s.views id w) holder') (sym e) (cell (subst (λ (z : ℕ). z < length b.opening) e inside)))
      (λ (ne : k ≢ c). cell_again s r id v w words' homes' holder' k at inside (others k ne) (slots k ne) (holders k ne) (keep k ne) (pins k ne)))

  -- a step that changes no turn and no pin
  pub unmoved : (s : St) (r : Rule s) (id : ℕ) (v w : V) (words' : List ℕ) → get_elem? s.views id ≡ some v
      → length words' ≡ length s.words → get_or words' 0 0 ≡ get_or s.words 0 0 → ((k : ℕ) → SameWord words' s.words k)
      → w.held ≡ v.held → w.pins ≡ v.pins → w.left ≡ v.left → w.most ≡ v.most → w.numbers ≡ v.numbers → Ok r.history words' s.homes r.holder r.owner id w
      → Rule record { words = words'; homes = s.homes; views = set s.views id w }
  unmoved s r id v w words' at as_wide first same held pins left most numbers mine = turned s r id v w words' s.homes r.holder at as_wide first refl left most (λ n. subst (Has n) (sym numbers)) mine
      (λ j d _ there. ok_again r.history s.words words' s.homes s.homes r.holder r.holder r.owner j d (r.each_seat j d there) (λ c _. ((same c).0, refl, refl)) (λ c _. (same c).1))
      (λ c inside. cell_again s r id v w words' s.homes r.holder c at inside (same c) refl refl (subst (Has c) (sym held)) (ap (times c) pins))

  -- where the word of c is set to n
  pub word_else : (ws : List ℕ) (c n k : ℕ) → k ≢ c → get_or (set ws (word_of c) n) (word_of k) 0 ≡ get_or ws (word_of k) 0
  word_else ws c n k ne = get_or-set_other ws (word_of c) (word_of k) n 0 (λ e. ne (omega arith))

  -- a change of one cell's word changes no other cell's word
  pub same_else : (ws : List ℕ) (c n k : ℕ) → k ≢ c → SameWord (set ws (word_of c) n) ws k
  same_else ws c n k ne = let e = word_else ws c n k ne in (ap (λ (y : ℕ). y % 2) e, ap (λ (y : ℕ). y / 256) e, subst (λ (y : ℕ). y % 256 < 4) (sym e))

  -- a change of a cell's word leaves the length of the history in word 0
  pub word_first : (ws : List ℕ) (c n : ℕ) → get_or (set ws (word_of c) n) 0 0 ≡ get_or ws 0 0
  word_first ws c n = get_or-set_other ws (word_of c) 0 n 0 (λ e. omega arith)

  -- where the word of c keeps its parity and its pins
  pub same_there : (ws : List ℕ) (c n : ℕ) → word_of c < length ws → n % 2 ≡ get_or ws (word_of c) 0 % 2 → n / 256 ≡ get_or ws (word_of c) 0 / 256 → (get_or ws (word_of c) 0 % 256 < 4 → n % 256 < 4) → (k : ℕ) → SameWord (set ws (word_of c) n) ws k
  same_there ws c n inside odd pins low k = dite (ℕ_discrete k c)
      (λ (e : k ≡ c). subst (SameWord (set ws (word_of c) n) ws) (sym e) (let z = get_or-set_same ws (word_of c) n 0 inside in (ap (λ (y : ℕ). y % 2) z ∙ odd, ap (λ (y : ℕ). y / 256) z ∙ pins, (λ h. subst (λ (y : ℕ). y % 256 < 4) (sym z) (low h)))))
      (λ (ne : k ≢ c). same_else ws c n k ne)

  -- what the seat has not seen yet is legal behind what it has seen
  pub sees_all : (s : St) (r : Rule s) (j : ℕ) (v : V) (k : Ok r.history s.words s.homes r.holder r.owner j v) → 0 < v.base.hands → SeesMore t v k.unseen × (made t v.base (v.seen ++ k.unseen) ≡ made t b r.history) × (v.seen ++ k.unseen ≡ r.history)
  sees_all s r j v k alive = (
    (
      subst (λ (z : G). Apart t z v.numbers v.held k.unseen) (sym (ap (λ (z : Base Q G). z.grounds) (k.base_is alive))) k.apart,
      subst (λ (z : Base Q G × List E). Legal t z.0 z.1) (λ i. (sym (k.base_is alive) i, k.sees i)) r.legal,
      subst (λ (z : Base Q G × List E). Signed t z.0.hands z.1) (λ i. (sym (k.base_is alive) i, k.sees i)) r.signed,
    ),
    (λ i. made t (k.base_is alive i) (sym k.sees i)),
    sym k.sees,
  )

  -- the history has room for the stamps that a seat has left
  pub room_of : (s : St) (r : Rule s) (j : ℕ) (v : V) → get_elem? s.views j ≡ some v → length r.history + v.left ≤ b.hands * b.each
  room_of s r j v at = let q = total_one (λ (d : V). d.left) s.views j v at in let h = r.room in omega arith

  -- the same, told of what the seat has seen and what it has not seen yet
  pub room_seen : (s : St) (r : Rule s) (j : ℕ) (v : V) (at : get_elem? s.views j ≡ some v) → 0 < v.base.hands → length (v.seen ++ (r.each_seat j v at).unseen) + v.left ≤ v.base.hands * v.base.each
  room_seen s r j v at alive = let k = r.each_seat j v at in subst (λ (z : Base Q G × List E). length z.1 + v.left ≤ z.0.hands * z.0.each) (λ i. (sym (k.base_is alive) i, k.sees i)) (room_of s r j v at)

  -- what the history made of a cell whose turn the seat has is what it has seen
  pub kept_part : (s : St) (r : Rule s) (j : ℕ) (v : V) (at : get_elem? s.views j ≡ some v) → 0 < v.base.hands → (c : ℕ) → Has c v.held → made t b r.history c ≡ made t v.base v.seen c
  kept_part s r j v at alive c has = let k = r.each_seat j v at in let h : List E = v.seen ++ k.unseen in
      let legal : LegalFrom t b.grounds (opened t b) no_link h = subst (LegalFrom t b.grounds (opened t b) no_link) k.sees r.legal in
      ap (λ (z : List E). made t b z c) k.sees ∙ (ap (λ (f : ℕ → Q). f c) (made_append (opened t b) v.seen k.unseen)
      ∙ (made_apart t b.grounds (made t b v.seen) (linked t b.grounds v.seen) v.numbers v.held k.unseen (legal_back t b.grounds (opened t b) no_link v.seen k.unseen legal) k.apart c has
      ∙ ap (λ (z : Base Q G). made t z v.seen c) (sym (k.base_is alive))))

  -- the links of a seat's own numbers are those that it has seen
  pub kept_links : (s : St) (r : Rule s) (j : ℕ) (v : V) (at : get_elem? s.views j ≡ some v) (k : ℕ) → Has k v.numbers → (c : ℕ) → linked t b.grounds r.history k c ≡ linked t b.grounds v.seen k c
  kept_links s r j v at k has c = let o = r.each_seat j v at in ap (λ (z : List E). linked t b.grounds z k c) o.sees ∙ (ap (λ (l : ℕ → ℕ → ℕ). l k c) (linked_append t b.grounds no_link v.seen o.unseen)
      ∙ linked_apart t b.grounds (linked t b.grounds v.seen) v.numbers v.held o.unseen o.apart k has c)

  -- a word's pins are few
  pub few_pins : (s : St) (r : Rule s) (c : ℕ) → c < length b.opening → get_or s.words (word_of c) 0 / 256 ≤ b.hands * most_pins
  few_pins s r c inside = let p = (r.each_cell c inside).pins in let m = r.pins in
      let q = total_le (λ (d : V). times c d.pins) (λ (d : V). d.most) s.views (λ j d there. le_trans (times_length c d.pins) (r.each_seat j d there).fits) in omega arith

  -- the word of a cell has no further bit
  pub plain : (s : St) (r : Rule s) (c : ℕ) → c < length b.opening → b.hands ≤ 16 → IsPlain (get_or s.words (word_of c) 0)
  plain s r c inside hands = let few = few_pins s r c inside in record { low = (r.each_cell c inside).low; high = omega (arith, few, hands) }
