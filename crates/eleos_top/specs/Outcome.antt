-- What the program has put and why it ended so, by its status.
use Rattle.std.specs.Prelude.{◌≡◌, ◌≢◌, ◌↔◌, ◌⊎◌, ℕ, List, [], ◌∷◌, ◌++◌, take, Option, Some, None, IfSome, Result, Ok, Err, codes}
use Rattle.std.specs.Fmt.{decimal}
use Rattle.std.specs.Io.KnownBytes.{Appends, Keeps}
use Rattle.eleos_base.specs.declared.status.Status.{Status}
use Rattle.eleos_base.specs.declared.status.Status.TheVariants.{Done, NotLegal, Usage, Refused, ReadFault, WriteFault, Memory}
use Rattle.eleos_base.specs.Outside.{HasRisen}
use Rattle.eleos_texts.specs.declared.why.Bad.{Bad}
use Rattle.eleos_texts.specs.Texts.{why_text}

-- the line that is put for an input that is refused: `refused LINE REASON`
abbrev pub refused_text : Bad → List ℕ
refused_text bad = codes "refused " ++ decimal bad.line ++ 32 ∷ why_text bad.why ++ 10 ∷ []

-- the text, or where the sink failed a front of it
abbrev pub PutsFront : List ℕ → Option (List ℕ) → Option (List ℕ) → ℕ → ℕ → Type 0
PutsFront text old new before now = Appends old new text ⊎ (HasRisen before now × (count : ℕ) × Appends old new (take count text))

-- how a call reads its input, and which text it puts for what it has read
module _ {A : Type 0} (read : List ℕ → Result A Bad) (IsTextOf : A → List ℕ → Type 0) where
  -- a text for what was read: the input, where the source tells what it had left
  pub record IsText (left : Option (List ℕ)) (text : List ℕ) : Type 0 where
    pub spelled : A
    pub read_is : IfSome left (λ input. read input ≡ Ok spelled)
    pub text_is : IsTextOf spelled text

  -- the line of a refusal, or a front of it: of the input's, where the source tells what it had left
  pub record IsRefusal (left old new : Option (List ℕ)) (before now : ℕ) : Type 0 where
    pub bad : Bad
    pub read_is : IfSome left (λ input. read input ≡ Err bad)
    pub line : PutsFront (refused_text bad) old new before now

  -- what the sink has got, by the status
  abbrev pub PutsBy : Status → Option (List ℕ) → Option (List ℕ) → Option (List ℕ) → ℕ → ℕ → Type 0
  PutsBy Done left old new before now = (text : List ℕ) × IsText left text × Appends old new text
  PutsBy NotLegal left old new before now = (text : List ℕ) × IsText left text × Appends old new text
  PutsBy WriteFault left old new before now = (text : List ℕ) × (count : ℕ) × IsText left text × Appends old new (take count text)
  PutsBy Refused left old new before now = IsRefusal left old new before now
  PutsBy Usage left old new before now = Keeps old new
  PutsBy ReadFault left old new before now = Keeps old new
  PutsBy Memory left old new before now = Keeps old new

  -- how a call with one word ends: what it puts, and the causes of what it answers
  pub record EndsBy (name : List ℕ) (words : List (List ℕ)) (status : Status) (left old new : Option (List ℕ)) (takes takes' puts puts' : ℕ) : Type 0 where
    pub text : PutsBy status left old new puts puts'
    pub usage : (status ≡ Usage) ↔ (words ≢ name ∷ [])
    pub read_fault : status ≡ ReadFault → HasRisen takes takes'
    pub write_fault : status ≡ WriteFault → HasRisen puts puts'
    pub always_legal : status ≢ NotLegal

-- the first of these words, where there is one
abbrev pub first_of : List (List ℕ) → Option (List ℕ)
first_of [] = None
first_of (word ∷ words) = Some word
