-- What the lines of a session leave of what they say.
use Rattle.std.proofs.Common.{◌≡◌, ℕ, ◌^◌, ◌<◌, ◌≤◌, ◌⊎◌, List, length, Bool, true, false, nat_le, nat_lt, ◌==◌, ◌&&◌, ◌||◌, Ok, subst, inl, inr, refl, arith, codes}
use Rattle.std.specs.Prelude.{IsTrue}
use Rattle.std.proofs.lemmas.Bool.Decides.{nat_tests}
use Rattle.eleos_base.specs.AesKey.{IsKeyLength}
use Rattle.eleos_texts.specs.declared.why.Why.TheVariants.{Form, Many, Range}
use Rattle.eleos_texts.specs.Fields.{is, is_numeral, number, is_up_to, is_key_length, bytes_in}
use Rattle.eleos_texts.specs.Reasons.{one, two, four, two_and_more}
use Rattle.eleos_texts.proofs.Inversion.{bind_ok, guard_ok, no_value, cond_either, ok_is}
use Rattle.eleos_kvwire.specs.declared.header.Header.{Header}
use Rattle.eleos_kvwire.specs.declared.stage.HeaderLine.{HeaderLine}
use Rattle.eleos_kvwire.specs.declared.stage.HeaderLine.TheVariants.{Title, Sizes, Shards, Clients, Wear, Key, Start}
use Rattle.eleos_kvwire.specs.declared.stage.SetLine.{SetLine}
use Rattle.eleos_kvwire.specs.declared.stage.Stage.{Stage}
use Rattle.eleos_kvwire.specs.declared.stage.Stage.TheVariants as stages
use Rattle.eleos_kvwire.specs.declared.commands.Given.{Given}
use Rattle.eleos_kvwire.specs.declared.commands.Given.TheVariants.{Whole, Awaits}
use Rattle.eleos_kvwire.specs.declared.trace.KvAct.{KvAct}
use Rattle.eleos_kvwire.specs.declared.trace.KvAct.TheVariants.{Get, Delete, Stat}
use Rattle.eleos_base.specs.Limits.{most_pages, most_frames, most_callers, most_wear}
use Rattle.eleos_texts.specs.Heads.{key_line, start_line}
use Rattle.eleos_kvwire.specs.Header.{sizes_line, count_line, header_line, stage_after, most_clients}
use Rattle.eleos_kvwire.specs.Commands.{is_key, is_client, keyed_line, set_line, command_by, command_line, whole, most_value}
use Rattle.eleos_kvwire.specs.Sessions.{IsCommand, IsSized, key_of}

both : (p q : Bool) → (p && q) ≡ true → (p ≡ true) × (q ≡ true)
both true true test = (refl, refl)
both true false test = absurd cc
both false q test = absurd cc

le_of : (a b : ℕ) → nat_le a b ≡ true → a ≤ b
le_of a b test = grind (arith, nat_tests)

lt_of : (a b : ℕ) → nat_lt a b ≡ true → a < b
lt_of a b test = grind (arith, nat_tests)

eq_of : (a b : ℕ) → (a == b) ≡ true → a ≡ b
eq_of a b test = grind (arith, nat_tests)

either : (p q : Bool) → (p || q) ≡ true → (p ≡ true) ⊎ (q ≡ true)
either true q test = inl refl
either false q test = inr test

key_length : (n : ℕ) → is_key_length n ≡ true → IsKeyLength n
key_length n test = elim (either (n == 16 || n == 24) (n == 32) test) [
  | inl small ↦ elim (either (n == 16) (n == 24) small) [
    | inl same ↦ inl (eq_of n 16 same)
    | inr same ↦ inr (inl (eq_of n 24 same))
  ]
  | inr same ↦ inr (inr (eq_of n 32 same))
]

-- a number from 1 up to so much
pub record IsCount (most n : ℕ) : Type 0 where
  pub some : 1 ≤ n
  pub within : n ≤ most

-- pages and frames of an enclave
pub record AreSizes (pages frames : ℕ) : Type 0 where
  pub some_pages : IsCount 1024 pages
  pub few_frames : frames ≤ 512

sizes_ok : (words : List (List ℕ)) (sizes : ℕ × ℕ) → sizes_line words ≡ Ok sizes → AreSizes sizes.0 sizes.1
sizes_ok words sizes e =
    let a = bind_ok (four words) _ sizes e in
    let range = guard_ok _ _ Range sizes (guard_ok _ _ Form sizes a.2).1 in
    let limits = both (nat_le 1 (number a.0.1) && is_up_to most_pages a.0.1) (is_up_to most_frames a.0.3) range.0 in
    let pages = both (nat_le 1 (number a.0.1)) (is_up_to most_pages a.0.1) limits.0 in
    let here : ℕ × ℕ = (number a.0.1, number a.0.3) in
    subst (λ (p : ℕ × ℕ). AreSizes p.0 p.1) (ok_is here sizes range.1) (record { some_pages = record { some = le_of _ _ pages.0; within = le_of _ _ pages.1 }; few_frames = le_of _ _ limits.1 })

count_ok : (word : List ℕ) (most : ℕ) (words : List (List ℕ)) (n : ℕ) → count_line word most words ≡ Ok n → IsCount most n
count_ok word most words n e =
    let a = bind_ok (two words) _ n e in
    let range = guard_ok _ _ Range n (guard_ok _ _ Form n a.2).1 in
    let limits = both (nat_le 1 (number a.0.1)) (is_up_to most a.0.1) range.0 in
    subst (λ (p : ℕ). IsCount most p) (ok_is (number a.0.1) n range.1) (record { some = le_of _ _ limits.0; within = le_of _ _ limits.1 })

key_ok : (words : List (List ℕ)) (key : List ℕ) → key_line words ≡ Ok key → IsKeyLength (length key)
key_ok words key e =
    let a = bind_ok (two words) _ key e in
    let range = guard_ok _ _ Range key (guard_ok _ _ Form key a.2).1 in
    subst (λ (p : List ℕ). IsKeyLength (length p)) (ok_is (bytes_in a.0.1) key range.1) (key_length _ range.0)

-- what the header has up to its sizes, its shards, its clients, its wear and its key
abbrev HasSizes : Header → Type 0
HasSizes header = AreSizes header.pages header.frames

abbrev HasShards : Header → Type 0
HasShards header = HasSizes header × IsCount 8 header.shards

abbrev HasClients : Header → Type 0
HasClients header = HasShards header × IsCount 8 header.clients

abbrev HasWear : Header → Type 0
HasWear header = HasClients header × IsCount (2 ^ 63) header.wear

-- the header's sizes, shards, clients and wear are in their limits, and so is the length of its key
abbrev pub HasKey : Header → Type 0
HasKey header = HasWear header × IsKeyLength (length header.key)

-- what the header has where this line of it is due
abbrev pub HasBefore : HeaderLine → Header → Type 0
HasBefore Title header = Unit {0}
HasBefore Sizes header = Unit {0}
HasBefore Shards header = HasSizes header
HasBefore Clients header = HasShards header
HasBefore Wear header = HasClients header
HasBefore Key header = HasWear header
HasBefore Start header = HasKey header

-- what it has at a stage
abbrev pub HasAt : Stage → Header → Type 0
HasAt (stages.Header due) header = HasBefore due header
HasAt _ header = HasKey header

-- a line of the header adds to what it has
pub header_ok : (due : HeaderLine) (before header : Header) (words : List (List ℕ)) → header_line due before words ≡ Ok header → HasBefore due before → HasAt (stage_after due) header
header_ok Title before header words e has = tt
header_ok Sizes before header words e has =
    let a = bind_ok (sizes_line words) _ header e in
    subst (λ (h : Header). HasSizes h) (ok_is (record before { pages = a.0.0; frames = a.0.1 }) header a.2) (sizes_ok words a.0 a.1)
header_ok Shards before header words e has =
    let a = bind_ok (count_line (codes "shards") most_callers words) _ header e in
    subst (λ (h : Header). HasShards h) (ok_is (record before { shards = a.0 }) header a.2) (has, count_ok (codes "shards") 8 words a.0 a.1)
header_ok Clients before header words e has =
    let a = bind_ok (count_line (codes "clients") most_clients words) _ header e in
    subst (λ (h : Header). HasClients h) (ok_is (record before { clients = a.0 }) header a.2) (has, count_ok (codes "clients") 8 words a.0 a.1)
header_ok Wear before header words e has =
    let a = bind_ok (count_line (codes "wear") most_wear words) _ header e in
    subst (λ (h : Header). HasWear h) (ok_is (record before { wear = a.0 }) header a.2) (has, count_ok (codes "wear") most_wear words a.0 a.1)
header_ok Key before header words e has =
    let a = bind_ok (key_line words) _ header e in
    subst (λ (h : Header). HasKey h) (ok_is (record before { key = a.0 }) header a.2) (has, key_ok words a.0 a.1)
header_ok Start before header words e has =
    let a = bind_ok (start_line words) _ header e in
    subst (λ (h : Header). HasKey h) (ok_is before header a.2) has

-- a client, and a key
record IsKeyed (clients : ℕ) (said : ℕ × List ℕ) : Type 0 where
  client : IsCount clients said.0
  key : IsTrue (is_key said.1)

-- the line of a set, whose value is to come
pub record IsSet (clients : ℕ) (set : SetLine) : Type 0 where
  pub client : IsCount clients set.client
  pub key : IsTrue (is_key set.key)
  pub len : IsCount 512 set.len

client_ok : (clients : ℕ) (text : List ℕ) → is_client clients text ≡ true → IsCount clients (number text)
client_ok clients text test = let limits = both (nat_le 1 (number text)) (is_up_to clients text) test in record { some = le_of _ _ limits.0; within = le_of _ _ limits.1 }

is_true : (b : Bool) → b ≡ true → IsTrue b
is_true true test = refl
is_true false test = absurd cc

keyed_ok : (clients before : ℕ) (client : List ℕ) (args : List (List ℕ)) (said : ℕ × List ℕ) → keyed_line clients before client args ≡ Ok said → (before < 100000) × IsKeyed clients said
keyed_ok clients before client args said e =
    let a = bind_ok (one args) _ said e in
    let form = guard_ok _ _ Form said a.2 in
    let many = guard_ok _ _ Many said form.1 in
    let range = guard_ok _ _ Range said many.1 in
    let key = both (is_numeral client) (is_key a.0) form.0 in
    let here : ℕ × List ℕ = (number client, a.0) in
    (lt_of _ _ many.0, subst (λ (p : ℕ × List ℕ). IsKeyed clients p) (ok_is here said range.1) (record { client = client_ok clients client range.0; key = is_true _ key.1 }))

set_ok : (clients before : ℕ) (client : List ℕ) (args : List (List ℕ)) (set : SetLine) → set_line clients before client args ≡ Ok set → (before < 100000) × IsSet clients set
set_ok clients before client args set e =
    let a = bind_ok (two args) _ set e in
    let form = guard_ok _ _ Form set a.2 in
    let many = guard_ok _ _ Many set form.1 in
    let range = guard_ok _ _ Range set many.1 in
    let key = both (is_numeral client) (is_key a.0.0) (both (is_numeral client && is_key a.0.0) (is_numeral a.0.1) form.0).0 in
    let limits = both (is_client clients client && nat_le 1 (number a.0.1)) (is_up_to most_value a.0.1) range.0 in
    let some = both (is_client clients client) (nat_le 1 (number a.0.1)) limits.0 in
    let here : SetLine = record { client = number client; key = a.0.0; len = number a.0.1 } in (
      lt_of _ _ many.0,
      subst (λ (p : SetLine). IsSet clients p) (ok_is here set range.1) (record {
        client = client_ok clients client some.0;
        key = is_true _ key.1;
        len = record { some = le_of _ _ some.1; within = le_of _ _ limits.1 };
      }),
    )

-- what the line of a command gives
abbrev pub IsGiven : ℕ → Given → Type 0
IsGiven clients (Whole command) = IsCommand clients command
IsGiven clients (Awaits set) = IsSet clients set

whole_ok : (clients before : ℕ) (client : List ℕ) (args : List (List ℕ)) (act : List ℕ → KvAct) (given : Given)
    → ((key : List ℕ) → key_of (act key) ≡ key) → ((key : List ℕ) → IsSized (act key))
    → whole act (keyed_line clients before client args) ≡ Ok given → (before < 100000) × IsGiven clients given
whole_ok clients before client args act given key sized e =
    let a = bind_ok (keyed_line clients before client args) _ given e in
    let b = keyed_ok clients before client args a.0 a.1 in
    let here : Given = Whole (record { client = a.0.0; act = act a.0.1 }) in (
      b.0,
      subst (λ (g : Given). IsGiven clients g) (ok_is here given a.2) (record {
        from_one = b.1.client.some;
        within = b.1.client.within;
        key = rw (key a.0.1) b.1.key;
        value = sized a.0.1;
      }),
    )

by_ok : (clients before : ℕ) (client verb : List ℕ) (args : List (List ℕ)) (given : Given) → command_by clients before client verb args ≡ Ok given → (before < 100000) × IsGiven clients given
by_ok clients before client verb args given e = elim (cond_either (is (codes "set") verb) _ _ _ e) [
  | inl e ↦
      let a = bind_ok (set_line clients before client args) _ given e in
      let b = set_ok clients before client args a.0 a.1 in
      let here : Given = Awaits a.0 in
      (b.0, subst (λ (g : Given). IsGiven clients g) (ok_is here given a.2) b.1)
  | inr e ↦ elim (cond_either (is (codes "get") verb) _ _ _ e) [
    | inl e ↦ whole_ok clients before client args Get given (λ key. refl) (λ key. tt) e
    | inr e ↦ elim (cond_either (is (codes "delete") verb) _ _ _ e) [
      | inl e ↦ whole_ok clients before client args Delete given (λ key. refl) (λ key. tt) e
      | inr e ↦ elim (cond_either (is (codes "stat") verb) _ _ _ e) [
        | inl e ↦ whole_ok clients before client args Stat given (λ key. refl) (λ key. tt) e
        | inr e ↦ absurd (no_value Form given e)
      ]
    ]
  ]
]

-- a command's line leaves room for it
pub command_ok : (clients before : ℕ) (words : List (List ℕ)) (given : Given) → command_line clients before words ≡ Ok given → (before < 100000) × IsGiven clients given
command_ok clients before words given e =
    let a = bind_ok (two_and_more words) _ given e in
    by_ok clients before a.0.0 a.0.1 a.0.2 given a.2
