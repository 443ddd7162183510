-- What each step on the table tells the seat that makes it.
use Rattle.std.specs.Prelude.{◌≡◌, ℕ, ◌==◌, cond, ◌+◌, ◌*◌, ◌%◌, ◌<◌, ◌≤◌, List, [], ◌∷◌, ◌++◌, map, length, Option, Some, None}
use Rattle.atomic_table.specs.Table.{Me, Step}
use Rattle.eleos_base.specs.declared.plot.Event.{Event}
use Rattle.eleos_base.specs.Ties.{adds, takes, Has}
use Rattle.eleos_base.specs.Terms.{Terms}
use Rattle.eleos_base.specs.Histories.{put, made, linked, Legal, Signed}
use Rattle.eleos_turn.specs.declared.view.View.{View}
use Rattle.eleos_turn.specs.Numbers.{times}
use Rattle.eleos_turn.specs.Views.{busied, moved, freed, stamped, pinned, unpinned, Room}
use Rattle.eleos_turn.specs.Rule.{Apart}
use Rattle.eleos_base.specs.Words.{IsBusy, IsPlain, pins_in}
use Rattle.eleos_turn.specs.Words.{word_of}

module _ {D Q G : Type 0} where
  -- what the word n of the cell c shows to the seat
  pub record Shows (v : View D Q G) (c n : ℕ) : Type 0 where
    pub busy : Has c v.held → IsBusy n
    pub pins : times c v.pins ≤ pins_in n
    pub clean : Has c v.clean → pins_in n ≡ times c v.pins
    pub plain : IsPlain n

module _ {C D Q G : Type 0} (t : Terms C D Q G) where
  abbrev Sat : Type 0
  Sat = Me (Option C) (View D Q G)

  abbrev At : Type 0
  At = Step (Option C)

  -- more is of other hands and on other cells, and behind what v has seen all is legal and signed by hands of `make`
  abbrev pub SeesMore : View D Q G → List (Event D Q) → Type 0
  SeesMore v more = Apart t v.base.grounds v.numbers v.held more × Legal t v.base (v.seen ++ more) × Signed t v.base.hands (v.seen ++ more)

  -- the turn of c was taken, with the slot and the word n
  abbrev pub Turn : ℕ → ℕ → Sat → Sat → Type 0
  Turn c n m m' = (more : List (Event D Q)) × (x : C) × (m' ≡ (busied m.0 more c n, (c, Some x) ∷ m.1)) × SeesMore m.0 more × (t.part x ≡ made t m.0.base (m.0.seen ++ more) c) × Room (busied m.0 more c n) × (length m.0.held < length m.0.base.opening)

  -- the word was odd, and is noted and counted, or the turn was taken; the word counts the seat's own pins
  abbrev pub takes_turn : (ℕ → ℕ) → At → Sat → ℕ → Sat → Type 0
  takes_turn missed st m n m' = (n % 2 ≡ 1 → (c : ℕ) → st.word ≡ word_of c → m' ≡ (record m.0 { tried = (c, n); misses = missed m.0.misses }, m.1)) × (n % 2 ≡ 0 → (c : ℕ) → st.word ≡ word_of c → Turn c n m m') × IsPlain n
      × ((c : ℕ) → st.word ≡ word_of c → times c m.0.pins ≤ pins_in n)

  -- the slot that was carried is back
  abbrev pub ends_take : At → Sat → ℕ → Sat → Type 0
  ends_take st m n m' = m' ≡ (moved m.0 0, [])

  -- the slot of a cell whose turn it has is out
  abbrev pub begins_give : At → Sat → ℕ → Sat → Type 0
  begins_give st m n m' = (c : ℕ) → st.word ≡ word_of c → m' ≡ (moved m.0 (c + 1), (c, None) ∷ m.1)

  -- the slot that was carried is back, and the turn is given up
  abbrev pub gives_turn : At → Sat → ℕ → Sat → Type 0
  gives_turn st m n m' = (c : ℕ) → st.word ≡ word_of c → m' ≡ (freed m.0 c, [])

  -- nothing changes for the seat
  abbrev pub stays : At → Sat → ℕ → Sat → Type 0
  stays st m n m' = m' ≡ m

  -- the word that was found is noted, and the look counted
  abbrev pub looks : At → Sat → ℕ → Sat → Type 0
  looks st m n m' = (c : ℕ) → st.word ≡ word_of c → (m' ≡ (record m.0 { looked = (c, n); looks = m.0.looks + 1 }, m.1)) × Shows m.0 c n

  -- the whole history is seen, and what was told begins it
  abbrev pub has_caught_up : Sat → Sat → Type 0
  has_caught_up m m' = (more : List (Event D Q)) × (m' ≡ (record m.0 { seen = m.0.seen ++ more; told = [] }, m.1)) × SeesMore m.0 more
      × ((rest : List (Event D Q)) × (m.0.seen ++ more ≡ m.0.told ++ rest)) × (length (m.0.seen ++ more) + m.0.left ≤ m.0.base.hands * m.0.base.each)

  -- the same, as a step
  abbrev pub catches_up : At → Sat → ℕ → Sat → Type 0
  catches_up st m n m' = has_caught_up m m'

  -- one pin more
  abbrev pub pins_one : At → Sat → ℕ → Sat → Type 0
  pins_one st m n m' = (c : ℕ) → st.word ≡ word_of c → m' ≡ (pinned m.0 c, m.1)

  -- one pin less
  abbrev pub unpins_one : At → Sat → ℕ → Sat → Type 0
  unpins_one st m n m' = (c : ℕ) → st.word ≡ word_of c → m' ≡ (unpinned m.0 c, m.1)

  -- the event that was asked for is the last of what is seen then
  abbrev pub stamps_one : List (Event D Q) → At → Sat → ℕ → Sat → Type 0
  stamps_one asked st m n m' = (e : Event D Q) → asked ≡ e ∷ [] → (more : List (Event D Q)) × (m' ≡ (stamped m.0 more e, m.1))
      × SeesMore m.0 more × (n ≡ length (m.0.seen ++ more)) × Legal t m.0.base ((m.0.seen ++ more) ++ e ∷ []) × Room (stamped m.0 more e)

  -- the seat may stamp the event
  pub record SeatCanStamp (v : View D Q G) (e : Event D Q) : Type 0 where
    pub own : Has (t.who e.entry) v.numbers
    pub left : 0 < v.left
    pub held : (c : ℕ) → Has c (t.foot v.base.grounds e.entry) → Has c v.held
    pub cells : map (λ k. k.0) e.kept ≡ t.foot v.base.grounds e.entry
    pub steps : t.step v.base.grounds e.entry (made t v.base v.seen) (put e.kept (made t v.base v.seen))
    pub bare : (c : ℕ) → Has c (t.bare v.base.grounds e.entry) → Has c v.clean × ((k : ℕ) → Has k v.numbers → linked t v.base.grounds v.seen k c ≡ 0)
    pub adds_link : (c : ℕ) → t.tie v.base.grounds e.entry ≡ adds c → linked t v.base.grounds v.seen (t.who e.entry) c < times c v.pins
    pub takes_link : (c : ℕ) → t.tie v.base.grounds e.entry ≡ takes c → 0 < linked t v.base.grounds v.seen (t.who e.entry) c

  -- the turn of c was taken, with the word n and the value x, and no turn was given up
  abbrev pub SeatTook : ℕ → ℕ → View D Q G → C → View D Q G → Type 0
  SeatTook c n v x w = (more : List (Event D Q)) × (w ≡ record v { seen = v.seen ++ more; held = c ∷ v.held; clean = cond (pins_in n == 0) (c ∷ v.clean) v.clean; moving = 0; tried = (c, n) })
      × SeesMore v more × (t.part x ≡ made t w.base w.seen c) × Room w × (length v.held < length v.base.opening)

  -- the event is the entry's own, behind all that was seen and what came between
  abbrev pub SeatStamped : Event D Q → View D Q G → ℕ → View D Q G → Type 0
  SeatStamped e v n w = (more : List (Event D Q)) × (w ≡ stamped v more e) × SeesMore v more × (n ≡ length (v.seen ++ more)) × Legal t w.base w.seen × Room w
