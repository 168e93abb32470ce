-- What is launched: an end and a text (`Configuration.resolveAndBind` for the boot layer).
use Rattle.std.specs.Prelude.{◌≡◌, ℕ, List, [], ◌∷◌, ◌++◌, Option, Some, Result, Ok, Err, true, ◌⊎◌}
use Rattle.std.specs.List.{concat}
use Rattle.jl_logic.specs.Lists.{IsFront}
use Rattle.jl_prim.specs.declared.declaration.Observed.{Observed}
use Rattle.jl_tree.specs.Files.{File}
use Rattle.jl_config.specs.declared.fault.ResolveFault.{ResolveFault}
use Rattle.jl_config.specs.declared.fault.ResolveFault.TheVariants as resolves
use Rattle.jl_config.specs.Configurations.{Configuration}
use Rattle.jl_config.specs.Located.{Asked as ToResolve}
use Rattle.jl_config.specs.Resolves.{asked, Resolves}
use Rattle.jl_words.specs.declared.fault.WordFault.{WordFault}
use Rattle.jl_finder.specs.declared.fault.FindFault.{FindFault}
use Rattle.jl_launch.specs.declared.end.Refusal.{Refusal}
use Rattle.jl_launch.specs.declared.end.Refusal.TheVariants.{Find, Resolve}
use Rattle.jl_launch.specs.declared.end.LaunchEnd.{LaunchEnd}
use Rattle.jl_launch.specs.declared.end.LaunchEnd.TheVariants.{Done, Words, Refused, ReadFault, SinkFault, NoMemory}
use Rattle.jl_launch.specs.declared.words.Asked.{Asked}
use Rattle.jl_launch.specs.Statuses.{IsStop}
use Rattle.jl_launch.specs.Words.{words_of}
use Rattle.jl_launch.specs.Base.{built_in_base}
use Rattle.jl_finder.specs.Observed.{observed}
use Rattle.jl_launch.specs.Writing.{grown}
use Rattle.jl_launch.specs.Text.{words_lines, refusal_lines, graph_lines}

-- the end and the lines of a refused command
abbrev pub IsRefused : Refusal → LaunchEnd → List (List ℕ) → Type 0
IsRefused r end lines = (end ≡ Refused r) × (lines ≡ refusal_lines r)

-- the end and the lines of refused words
abbrev pub IsRefusedWords : WordFault → LaunchEnd → List (List ℕ) → Type 0
IsRefusedWords f end lines = (end ≡ Words f) × (lines ≡ words_lines f)

-- what a resolution is printed as
abbrev pub IsPrinted : Result Configuration ResolveFault → LaunchEnd → List (List ℕ) → Type 0
IsPrinted (Ok g) end lines = (end ≡ Done) × (lines ≡ graph_lines g)
IsPrinted (Err resolves.NoMemory) end lines = ⊥
IsPrinted (Err f) end lines = IsRefused (Resolve f) end lines

-- What is asked of a resolution: the built-in java.base stands before what was found, the parent is the empty configuration, whose number is 0, and services are bound.
abbrev pub boot : List Observed → List (List ℕ) → ToResolve
boot found roots = asked [] (built_in_base ∷ []) (record { 0 = 0 } ∷ []) found roots true

-- what comes of what was found
abbrev pub IsResolved : List (List ℕ) → Result (List Observed) FindFault → LaunchEnd → List (List ℕ) → Type 0
IsResolved roots (Err f) end lines = IsRefused (Find f) end lines
IsResolved roots (Ok found) end lines = (answer : Result Configuration ResolveFault) × Resolves (boot found roots) answer × IsPrinted answer end lines

-- what is launched by words that ask, or are refused
abbrev pub IsAnswer : List File → Result Asked WordFault → LaunchEnd → List (List ℕ) → Type 0
IsAnswer files (Err f) end lines = IsRefusedWords f end lines
IsAnswer files (Ok a) end lines = IsResolved a.roots (observed files a.elements) end lines

-- The end and the lines that the words have over these files.
abbrev pub IsLaunched : List (List ℕ) → List File → LaunchEnd → List (List ℕ) → Type 0
IsLaunched words files end lines = IsAnswer files (words_of words) end lines

-- The end and the text that the words have over these files.
abbrev pub Launched : List (List ℕ) → List File → LaunchEnd → List ℕ → Type 0
Launched words files end text = (lines : List (List ℕ)) × (text ≡ concat lines) × IsLaunched words files end lines

-- the sink has grown by this
abbrev pub Grew : List ℕ → List ℕ → Option (List ℕ) → Type 0
Grew before text after = after ≡ Some (before ++ text)

-- the end and the text, or a stop with a front of the text
abbrev pub Wrote : LaunchEnd → List ℕ → List ℕ → LaunchEnd → Option (List ℕ) → Type 0
Wrote end text before answered after =
    ((answered ≡ end) × Grew before text after) ⊎ (IsStop answered × ((front : List ℕ) × IsFront front text × Grew before front after))

-- What a launch did: there is an end and a text of it that are launched, and it wrote them, or it was stopped with a front of the text.
abbrev pub Ends : List (List ℕ) → List File → List ℕ → LaunchEnd → Option (List ℕ) → Type 0
Ends words files before answered after = (end : LaunchEnd) × (text : List ℕ) × Launched words files end text × Wrote end text before answered after

-- What a launch did where nothing failed: it wrote the whole text, or memory ended, and a front of the text was written until then.
abbrev pub Completes : List (List ℕ) → List File → List ℕ → LaunchEnd → Option (List ℕ) → Type 0
Completes words files before answered after =
    ((text : List ℕ) × Launched words files answered text × Grew before text after)
    ⊎ ((answered ≡ NoMemory) × ((end : LaunchEnd) × (text : List ℕ) × Launched words files end text × ((front : List ℕ) × IsFront front text × Grew before front after)))

-- How a launch ended, whatever was seen of what it wrote: as is launched, or it was stopped.
abbrev pub EndsAs : List (List ℕ) → List File → LaunchEnd → Type 0
EndsAs words files answered = (end : LaunchEnd) × (text : List ℕ) × Launched words files end text × ((answered ≡ end) ⊎ IsStop answered)

-- How a launch with refused words ended, and what it wrote: that refusal and its line, or the sink failed or there was no memory, with a front of the line.
abbrev pub RefusesWords : WordFault → Option (List ℕ) → LaunchEnd → Option (List ℕ) → Type 0
RefusesWords f before answered after =
    ((answered ≡ Words f) × (after ≡ grown before (concat (words_lines f))))
    ⊎ (((answered ≡ SinkFault) ⊎ (answered ≡ NoMemory)) × ((front : List ℕ) × IsFront front (concat (words_lines f)) × (after ≡ grown before front)))

-- an end that no stop is
abbrev pub IsFinal : LaunchEnd → Type 0
IsFinal Done = Unit {0}
IsFinal (Words f) = Unit {0}
IsFinal (Refused r) = Unit {0}
IsFinal ReadFault = ⊥
IsFinal SinkFault = ⊥
IsFinal NoMemory = ⊥

-- What the writing of the lines of an end comes to: the end and all lines, or a failed sink and a front of them.
abbrev pub Comes : LaunchEnd → List (List ℕ) → Option (List ℕ) → LaunchEnd → Option (List ℕ) → Type 0
Comes end lines old answered new =
    ((answered ≡ end) × (new ≡ grown old (concat lines)))
    ⊎ ((answered ≡ SinkFault) × ((front : List ℕ) × IsFront front (concat lines) × (new ≡ grown old front)))
