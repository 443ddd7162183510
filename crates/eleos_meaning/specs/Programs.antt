-- A program and what is told of it: for each command the entries made on the way, and then the command's own line.
-- Which of them may stand for a command is the matter of a table, `Gives`, and what may stand behind the last command of `Ends`.
use Rattle.std.specs.Prelude.{◌≡◌, List, [], ◌∷◌, ◌++◌, map}
use Rattle.eleos_report.specs.declared.line.LogLine.{LogLine}
use Rattle.eleos_trace.specs.declared.word.Actor.{Actor}
use Rattle.eleos_trace.specs.declared.word.Word.{Word}
use Rattle.eleos_meaning.specs.Told.{Came, Told, line_of, made_in, told_as}
use Rattle.eleos_core.specs.Parts.{Made}

-- in the first state a command may have these lines on its way, come to this, and leave the second state
module _ {St : Type 0} (Gives : St → Word → List Told → Came → St → Type 0) where
  -- this is told of the commands, one after another
  abbrev pub Follows : St → List Word → List Told → St → Type 0
  Follows st [] told after = (told ≡ []) × (after ≡ st)
  Follows st (word ∷ words) told after = (way rest : List Told) × (came : Came) × (next : St)
      × (told ≡ way ++ told_as word came ∷ rest) × Gives st word way came next × Follows next words rest after

  -- the lines are the actor's and tell these entries; they are of these commands, once and in order
  pub record Tells (who : Actor) (st : St) (words : List Word) (lines : List LogLine) (made : List Made) (after : St) : Type 0 where
    pub told : List Told
    pub follows : Follows st words told after
    pub lines_are : lines ≡ map (line_of who) told
    pub made_are : made ≡ made_in told

  -- the lines are of the whole program: of its commands, and then of its end
  pub record TellsAll (Ends : St → List Told → Type 0) (who : Actor) (st : St) (words : List Word) (lines : List LogLine) (made : List Made) : Type 0 where
    pub told : List Told
    pub last : List Told
    pub after : St
    pub follows : Follows st words told after
    pub ends : Ends after last
    pub lines_are : lines ≡ map (line_of who) (told ++ last)
    pub made_are : made ≡ made_in (told ++ last)
