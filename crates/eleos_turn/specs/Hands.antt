-- What contracts see of a turnstile and of its hands.
use Rattle.std.specs.Prelude.{◌≡◌, ℕ, zero, suc, ◌==◌, cond, ◌+◌, ◌-◌, ◌*◌, ◌^◌, ◌<◌, ◌≤◌, List, [], ◌∷◌, ◌++◌, map, length, min, Option}
use Rattle.atomic_table.specs.Seated.{TableId}
use Rattle.atomic_table.specs.Table.{Me}
use Rattle.eleos_base.specs.declared.plot.Event.{Event}
use Rattle.eleos_base.specs.declared.plot.Base.{Base}
use Rattle.eleos_base.specs.declared.plot.Tied.{Tied}
use Rattle.eleos_base.specs.declared.plot.Tied.TheVariants.{No, Adds, Takes}
use Rattle.eleos_base.specs.Ties.{Has, Tie, neither, adds, takes}
use Rattle.eleos_base.specs.Terms.{Terms}
use Rattle.eleos_base.specs.Histories.{put, made, linked, Legal, Signed}
use Rattle.eleos_turn.specs.declared.answers.Refused.{Refused}
use Rattle.eleos_turn.specs.declared.view.View.{View}
use Rattle.eleos_turn.specs.declared.view.Key.{Key}
use Rattle.eleos_turn.specs.Numbers.{without, less_one, times, numbers_of, most_of}
use Rattle.eleos_base.specs.Words.{pins_in}
use Rattle.eleos_turn.specs.Rule.{Apart, base_of}

-- a turnstile: which table it is, and what was fixed when it was made
pub record Home (Q G : Type 0) : Type 0 where
  pub table : TableId
  pub base : Base Q G

-- a hand: where it belongs, and what it has, has seen and may still do
pub record HandState (D Q G : Type 0) : Type 0 where
  pub home : Home Q G
  -- 1 and so on for the hands of `make`, 0 for a hand of `split`
  pub number : ℕ
  -- the beginning of the history that it has seen, oldest entry first
  pub seen : List (Event D Q)
  -- the cells whose turns it has
  pub turns : List ℕ
  -- those among them that were taken with a word without pins
  pub clean : List ℕ
  -- the cell of each pin that it has
  pub pins : List ℕ
  -- the cell that it looked at last, and the word that it found
  pub looked : ℕ × ℕ
  -- how often it looked
  pub looks : ℕ
  -- the cell whose turn it tried to take last, and the word that it found
  pub tried : ℕ × ℕ
  -- how many tries found a cell busy, those of a take that waits left out
  pub misses : ℕ
  -- the stamps that it may still make
  pub left : ℕ
  pub refused : Refused

-- how many links there are after an entry with this tie
abbrev pub tallied : Tied → ℕ → ℕ
tallied No n = n
tallied Adds n = n + 1
tallied Takes n = n - 1

-- there was no try that found a cell busy
abbrev pub no_refusal : Refused
no_refusal = record { count = 0; cell = 0; word = 0 }

module _ {D Q G : Type 0} where
  -- the hand with the number k, before it has seen anything
  abbrev pub fresh : Home Q G → ℕ → HandState D Q G
  fresh z k = record { home = z; number = k; seen = []; turns = []; clean = []; pins = []; looked = (0, 0); looks = 0; tried = (0, 0); misses = 0; left = z.base.each; refused = no_refusal }

  -- the n hands with the numbers above a, before they have seen anything
  abbrev pub dealt : Home Q G → ℕ → ℕ → List (HandState D Q G)
  dealt z a zero = []
  dealt z a (suc n) = fresh z (a + 1) ∷ dealt z (a + 1) n

  -- a hand of `split`: it has seen as much, and may do nothing
  abbrev pub split_of : HandState D Q G → HandState D Q G
  split_of s = record { home = s.home; number = 0; seen = s.seen; turns = []; clean = []; pins = []; looked = (0, 0); looks = 0; tried = (0, 0); misses = 0; left = 0; refused = no_refusal }

  -- the hand after it took the turn of c with the word n, and after others made these entries
  abbrev pub with_turn : HandState D Q G → List (Event D Q) → ℕ → ℕ → HandState D Q G
  with_turn s more c n = record s { seen = s.seen ++ more; turns = c ∷ s.turns; clean = cond (pins_in n == 0) (c ∷ s.clean) s.clean; tried = (c, n) }

  -- the hand after it gave back the turn of c
  abbrev pub without_turn : HandState D Q G → ℕ → HandState D Q G
  without_turn s c = record s { turns = less_one c s.turns; clean = without c s.clean }

  -- the hand after it stamped e, and after others made the entries before it
  abbrev pub with_entry : HandState D Q G → List (Event D Q) → Event D Q → HandState D Q G
  with_entry s more e = record s { seen = (s.seen ++ more) ++ e ∷ []; left = s.left - 1 }

  -- the hand with one pin more, or less, on c
  abbrev pub with_pin : HandState D Q G → ℕ → HandState D Q G
  with_pin s c = record s { pins = c ∷ s.pins }

  -- the hand with one pin less on c
  abbrev pub without_pin : HandState D Q G → ℕ → HandState D Q G
  without_pin s c = record s { pins = less_one c s.pins }

  -- the hand after it looked at the cell, and found this word
  abbrev pub looked_at : HandState D Q G → ℕ → ℕ → HandState D Q G
  looked_at s c n = record s { looked = (c, n); looks = s.looks + 1 }

  -- the hand after a try found the cell busy, with this word
  abbrev pub refused_at : HandState D Q G → ℕ → ℕ → HandState D Q G
  refused_at s c n = record s { tried = (c, n); misses = s.misses + 1; refused = record { count = min (s.refused.count + 1) (2 ^ 64 - 1); cell = c; word = n } }

  -- what a seat of this table and this number is, as contracts see it
  abbrev pub state_of : TableId → ℕ → Refused → View D Q G → HandState D Q G
  state_of z k r v = record { home = record { table = z; base = v.base }; number = k; seen = v.seen; turns = v.held; clean = v.clean; pins = v.pins; looked = v.looked; looks = v.looks; tried = v.tried; misses = v.misses; left = v.left; refused = r }

  -- the view of the seat of a hand
  abbrev pub view_of : HandState D Q G → View D Q G
  view_of s = record { base = s.home.base; numbers = numbers_of s.number; seen = s.seen; held = s.turns; clean = s.clean; moving = 0; pins = s.pins; told = []; looked = s.looked; looks = s.looks; tried = s.tried; misses = s.misses; left = s.left; most = most_of s.number }

module _ {C D Q G : Type 0} (t : Terms C D Q G) where
  -- the turnstile of this table and key
  abbrev pub home_of : TableId → Key C G → Home Q G
  home_of z k = record { table = z; base = base_of t k }

  -- what the history that the hand has seen made of the cell
  abbrev pub part_of : HandState D Q G → ℕ → Q
  part_of s c = made t s.home.base s.seen c

  -- how many links the hand has on the cell
  abbrev pub links_on : HandState D Q G → ℕ → ℕ
  links_on s c = linked t s.home.base.grounds s.seen s.number c

  -- the links after an entry of the hand with this tie
  abbrev pub tied_to : Tie → List ℕ → List ℕ
  tied_to neither l = l
  tied_to (adds c) l = c ∷ l
  tied_to (takes c) l = less_one c l

  -- the cell of each link of the hand k, where these were there before
  abbrev pub links_from : G → ℕ → List ℕ → List (Event D Q) → List ℕ
  links_from g k l [] = l
  links_from g k l (e ∷ es) = links_from g k (cond (k == t.who e.entry) (tied_to (t.tie g e.entry) l) l) es

  -- the cell of each link of the hand
  abbrev pub links : HandState D Q G → List ℕ
  links s = links_from s.home.base.grounds s.number [] s.seen

  -- the entries of the hand k, each with its stamp, where the first of the list has the stamp n
  abbrev pub own : ℕ → ℕ → List (Event D Q) → List (ℕ × D)
  own k n [] = []
  own k n (e ∷ es) = cond (t.who e.entry == k) ((n, e.entry) ∷ own k (n + 1) es) (own k (n + 1) es)

  -- the entries that the hand made, each with its stamp
  abbrev pub entries : HandState D Q G → List (ℕ × D)
  entries s = own s.number 0 s.seen

  -- what holds of each hand, at any time
  pub record IsSound (s : HandState D Q G) : Type 0 where
    pub alive : 0 < s.home.base.hands
    pub small : length s.home.base.opening < 2 ^ 31
    pub stamps : s.home.base.each < 2 ^ 64
    pub named : s.number ≤ s.home.base.hands
    pub legal : Legal t s.home.base s.seen
    pub signed : Signed t s.home.base.hands s.seen
    pub room : length s.seen + s.left ≤ s.home.base.hands * s.home.base.each
    pub counts : 0 < s.number → length (entries s) + s.left ≡ s.home.base.each
    pub covered : 0 < s.number → (c : ℕ) → links_on s c ≤ times c s.pins
    pub turns : (c : ℕ) → Has c s.turns → c < length s.home.base.opening
    pub once : (c : ℕ) → times c s.turns ≤ 1
    pub clean : (c : ℕ) → Has c s.clean → Has c s.turns
    pub few : length s.pins ≤ most_of s.number
    pub missed : s.refused.count ≡ min s.misses (2 ^ 64 - 1)
    pub idle : s.number ≡ 0 → (s.turns ≡ []) × (s.pins ≡ []) × (s.left ≡ 0)

  -- the turn of c was taken, with the word n and the value x, and no turn was given up
  pub record Took (c n : ℕ) (s : HandState D Q G) (x : C) (s' : HandState D Q G) : Type 0 where
    pub more : List (Event D Q)
    pub now : s' ≡ with_turn s more c n
    pub others : Apart t s.home.base.grounds (numbers_of s.number) s.turns more
    pub part : t.part x ≡ part_of s' c

  -- the hand may stamp the entry, which leaves these parts in the cells of its foot
  pub record CanStamp (s : HandState D Q G) (d : D) (kept : List (ℕ × Q)) : Type 0 where
    pub own : t.who d ≡ s.number
    pub left : 0 < s.left
    pub held : (c : ℕ) → Has c (t.foot s.home.base.grounds d) → Has c s.turns
    pub cells : map (λ k. k.0) kept ≡ t.foot s.home.base.grounds d
    pub steps : t.step s.home.base.grounds d (part_of s) (put kept (part_of s))
    pub bare : (c : ℕ) → Has c (t.bare s.home.base.grounds d) → Has c s.clean × (links_on s c ≡ 0)
    pub adds_link : (c : ℕ) → t.tie s.home.base.grounds d ≡ adds c → links_on s c < times c s.pins
    pub takes_link : (c : ℕ) → t.tie s.home.base.grounds d ≡ takes c → 0 < links_on s c

  -- the entry is the hand's own, at the stamp n, behind all that was seen and what came between
  pub record Stamped (d : D) (kept : List (ℕ × Q)) (s : HandState D Q G) (n : ℕ) (s' : HandState D Q G) : Type 0 where
    pub more : List (Event D Q)
    pub now : s' ≡ with_entry s more (record { entry = d; kept = kept })
    pub others : Apart t s.home.base.grounds (numbers_of s.number) s.turns more
    pub stamp : n ≡ length (s.seen ++ more)

  -- the hand has seen what the other has seen, and entries of others alone
  pub record Heard (s other s' : HandState D Q G) : Type 0 where
    pub more : List (Event D Q)
    pub now : s' ≡ record s { seen = s.seen ++ more }
    pub others : Apart t s.home.base.grounds (numbers_of s.number) s.turns more
    pub rest : List (Event D Q)
    pub begins : s'.seen ≡ other.seen ++ rest

  -- the hand made these entries and no others, each with its stamp
  pub record Goes (s s' : HandState D Q G) (made : List (ℕ × D)) : Type 0 where
    pub home : s'.home ≡ s.home
    pub number : s'.number ≡ s.number
    pub left : s'.left + length made ≡ s.left
    pub own : entries s' ≡ entries s ++ made
    pub more : List (Event D Q)
    pub sees : s'.seen ≡ s.seen ++ more

  -- the fields of a hand fit together: its seat, the stamps left, the turns and the links that it counts
  pub record IsHand (s : HandState D Q G) (m : Me (Option C) (View D Q G)) (stamps held tied : ℕ) : Type 0 where
    pub is : m ≡ (view_of s, [])
    pub left : stamps ≡ s.left
    pub turned : held ≡ length s.turns
    pub links : 0 < s.number → tied ≡ length (links s)
    pub few : tied + s.left ≤ s.home.base.each
    pub sound : IsSound s
