-- What words ask of `resolve` (`Configuration.resolveAndBind`).
use Rattle.std.specs.Prelude.{ℕ, List, ◌++◌, Result, Ok, Err}
use Rattle.jl_words.specs.declared.command.Command.{Command}
use Rattle.jl_words.specs.declared.command.Command.TheVariants as commands
use Rattle.jl_words.specs.declared.fault.WordFault.{WordFault}
use Rattle.jl_words.specs.declared.fault.WordFault.TheVariants.{NotBuilt}
use Rattle.jl_words.specs.Reading.{words_read}
use Rattle.jl_launch.specs.declared.words.Asked.{Asked}

-- Modules that are added are roots too. The other commands are not built.
abbrev pub asked_of : Result Command WordFault → Result Asked WordFault
asked_of (Err f) = Err f
asked_of (Ok (commands.Resolve elements add roots)) = Ok (record { elements = elements; roots = roots ++ add })
asked_of (Ok (commands.Run words)) = Err NotBuilt
asked_of (Ok (commands.Sample n bound)) = Err NotBuilt

-- another command than `resolve`
abbrev pub IsOther : Command → Type 0
IsOther (commands.Resolve elements add roots) = ⊥
IsOther (commands.Run words) = Unit {0}
IsOther (commands.Sample n bound) = Unit {0}

abbrev pub words_of : List (List ℕ) → Result Asked WordFault
words_of words = asked_of (words_read words)
