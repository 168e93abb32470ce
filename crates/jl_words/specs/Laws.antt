-- Laws of the first fault of a command line (as the options of the command `java`).
use Rattle.std.specs.Prelude.{◌≡◌, ◌⊎◌, ℕ, ◌+◌, ◌≤◌, ◌<◌, List, [], ◌∷◌, ◌++◌, length, take, slice_get, Some, Err, ⊤}
use Rattle.jl_logic.specs.Lists.{IsFront}
use Rattle.jl_prim.specs.Limits.{most_words}
use Rattle.jl_words.specs.declared.command.Command.{Command}
use Rattle.jl_words.specs.declared.fault.WordFault.{WordFault}
use Rattle.jl_words.specs.declared.fault.WordFault.TheVariants as faults
use Rattle.jl_words.specs.Line.{IsCommand, IsLine}
use Rattle.jl_words.specs.Reading.{words_read}

-- a fault of a word that is there, and not of one that is missing
abbrev pub IsTold : WordFault → Type 0
IsTold faults.NoCommand = ⊥
IsTold (faults.UnknownWord at) = ⊤
IsTold (faults.Missing what) = ⊥
IsTold (faults.Repeated option) = ⊤
IsTold (faults.BadNumber at) = ⊤
IsTold (faults.BadTarget at) = ⊤
IsTold faults.NotBuilt = ⊥
IsTold faults.NoMemory = ⊥

-- the words that tell a fault: those up to the one at its place, and all where it names an option alone
abbrev pub telling : List (List ℕ) → WordFault → List (List ℕ)
telling words (faults.UnknownWord at) = take (at + 1) words
telling words (faults.BadNumber at) = take (at + 1) words
telling words (faults.BadTarget at) = take (at + 1) words
telling words _ = words

-- no well-formed line begins with these words
abbrev pub BeginsNone : List (List ℕ) → Type 0
BeginsNone words = (longer : List (List ℕ)) (c : Command) → IsFront words longer → IsLine longer c → ⊥

-- No well-formed line begins with the words that tell a fault.
abbrev pub NoLineBegins : Type 0
NoLineBegins = (words : List (List ℕ)) (f : WordFault) → words_read words ≡ Err f → IsTold f → BeginsNone (telling words f)

-- Words that have a fault are no well-formed line.
abbrev pub NoLine : Type 0
NoLine = (words : List (List ℕ)) (f : WordFault) (c : Command) → words_read words ≡ Err f → IsLine words c → ⊥

-- words that begin a command: at most two more make them one, which is a line where there is room for it
pub record Begins (words : List (List ℕ)) : Type 0 where
  pub rest : List (List ℕ)
  pub command : Command
  pub few : length rest ≤ 2
  pub is : IsCommand (words ++ rest) command

-- a word that uses an option, with or without a value that is joined to it
abbrev pub UsesOption : List ℕ → List ℕ → Type 0
UsesOption option word = (word ≡ option) ⊎ IsFront (option ++ 61 ∷ []) word

-- where a fault of words is met: at its place, at a use of its option, or behind the last word
abbrev pub IsMet : List (List ℕ) → WordFault → ℕ → Type 0
IsMet words faults.NoCommand n = (words ≡ []) × (n ≡ 0)
IsMet words (faults.UnknownWord at) n = (n ≡ at) × (n < length words)
IsMet words (faults.Missing what) n = n ≡ length words
IsMet words (faults.Repeated option) n = (word : List ℕ) × (slice_get words n ≡ Some word) × UsesOption option word
IsMet words (faults.BadNumber at) n = (n ≡ at) × (n < length words)
IsMet words (faults.BadTarget at) n = (n ≡ at) × (n < length words)
IsMet words faults.NotBuilt n = ⊥
IsMet words faults.NoMemory n = ⊥

-- a fault that is the first: the words before it begin a command, and no line begins with its word
pub record IsFirst (words : List (List ℕ)) (f : WordFault) : Type 0 where
  pub at : ℕ
  pub met : IsMet words f at
  pub before : Begins (take at words)
  pub after : at < length words → BeginsNone (take (at + 1) words)

-- A line that is refused is refused for its first fault.
abbrev pub FirstFault : Type 0
FirstFault = (words : List (List ℕ)) (f : WordFault) → words_read words ≡ Err f → IsFirst words f

-- Words that begin a command begin a line, unless so many stand there that two more are too many.
abbrev pub LineBegins : Type 0
LineBegins = (words : List (List ℕ)) → Begins words → length words + 2 ≤ most_words → (longer : List (List ℕ)) × (c : Command) × IsFront words longer × IsLine longer c
