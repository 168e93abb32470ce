-- Reading a command line (as the options of the command `java`) word by word, with the first fault that is met.
use Rattle.std.specs.Prelude.{ℕ, zero, suc, ◌+◌, nat_le, nat_lt, List, [], ◌∷◌, ◌++◌, length, take, drop, slice_get, position, option_map, Option, None, Some, Result, Ok, Err, Bool, true, false, not, ◌&&◌, ◌==◌, codes, is_some, if◌then◌else◌}
use Rattle.std.specs.List.{list_all}
use Rattle.jl_logic.specs.Order.{is_text}
use Rattle.jl_reading.specs.Reading.{◌>>=◌}
use Rattle.jl_prim.specs.Limits.{most_words, most_sample_modules, usual_steps}
use Rattle.jl_prim.specs.Names.{names_a_module}
use Rattle.jl_names.specs.Dots.{slashed}
use Rattle.jl_words.specs.declared.command.Added.{Added}
use Rattle.jl_words.specs.declared.command.Added.TheVariants.{Reads, Exports, Opens}
use Rattle.jl_words.specs.declared.command.RunWords.{RunWords}
use Rattle.jl_words.specs.declared.command.Command.{Command}
use Rattle.jl_words.specs.declared.command.Command.TheVariants.{Resolve, Run, Sample}
use Rattle.jl_words.specs.declared.fault.WordFault.{WordFault}
use Rattle.jl_words.specs.declared.fault.WordFault.TheVariants as faults
use Rattle.jl_words.specs.declared.setting.Setting.{Setting}
use Rattle.jl_words.specs.declared.setting.Setting.TheVariants as settings
use Rattle.jl_words.specs.declared.setting.Verb.{Verb}
use Rattle.jl_words.specs.declared.setting.Verb.TheVariants as verbs
use Rattle.jl_words.specs.declared.given.Given.{Given}
use Rattle.jl_words.specs.Settings.{verb_text, setting_text, has_setting, is_flag}
use Rattle.jl_words.specs.Values.{path_parts, listed, number_of, is_typed_package, is_typed_class}
use Rattle.jl_words.specs.Line.{begins_with_dash}

-- what an error tells: the fault, or nothing for want of memory
abbrev pub told : WordFault → Option WordFault
told faults.NoCommand = Some faults.NoCommand
told (faults.UnknownWord at) = Some (faults.UnknownWord at)
told (faults.Missing what) = Some (faults.Missing what)
told (faults.Repeated what) = Some (faults.Repeated what)
told (faults.BadNumber at) = Some (faults.BadNumber at)
told (faults.BadTarget at) = Some (faults.BadTarget at)
told faults.NotBuilt = Some faults.NotBuilt
told faults.NoMemory = None

-- ---- texts in parts

-- what stands before and behind the first separator
unfoldable pub parted : ℕ → List ℕ → Option (List ℕ × List ℕ)
parted separator [] = None
parted separator (b ∷ bs) = if b == separator then Some ([], bs) else option_map (λ x. (b ∷ x.0, x.1)) (parted separator bs)

-- what stands before and behind the last separator
unfoldable pub parted_last : ℕ → List ℕ → Option (List ℕ × List ℕ)
parted_last separator [] = None
parted_last separator (b ∷ bs) = by (parted_last separator bs) where
  by : Option (List ℕ × List ℕ) → Option (List ℕ × List ℕ)
  by (Some x) = Some (b ∷ x.0, x.1)
  by None = if b == separator then Some ([], bs) else None

abbrev pub reads_of : List ℕ → Option Added
reads_of value = by (parted 61 value) where
  by : Option (List ℕ × List ℕ) → Option Added
  by None = None
  by (Some (m, n)) = if names_a_module m && names_a_module n then Some (Reads m n) else None

-- made of a module, a package and a module
abbrev pub granted_of : (List ℕ → List ℕ → List ℕ → Added) → List ℕ → Option Added
granted_of made value = in_module (parted 47 value) where
  in_package : List ℕ → Option (List ℕ × List ℕ) → Option Added
  in_package m None = None
  in_package m (Some (typed, n)) = if names_a_module m && (is_typed_package typed && names_a_module n) then Some (made m (slashed typed) n) else None

  in_module : Option (List ℕ × List ℕ) → Option Added
  in_module None = None
  in_module (Some (m, rest)) = in_package m (parted_last 61 rest)

-- what an option with this value adds
abbrev pub added_of : Setting → List ℕ → Option Added
added_of settings.AddReads value = reads_of value
added_of settings.AddExports value = granted_of Exports value
added_of settings.AddOpens value = granted_of Opens value
added_of _ value = None

abbrev pub target_of : List ℕ → Option (List ℕ × Option (List ℕ))
target_of word = by (parted 47 word) where
  by : Option (List ℕ × List ℕ) → Option (List ℕ × Option (List ℕ))
  by None = if names_a_module word then Some (word, None) else None
  by (Some (m, typed)) = if names_a_module m && is_typed_class typed then Some (m, Some (slashed typed)) else None

-- ---- options

-- nothing is given yet
abbrev pub nothing : Given
nothing = record { elements = None; add = []; added = []; steps = None; report = false }

-- the option that has a text
abbrev pub setting_of : List ℕ → Option Setting
setting_of text =
    if is_text text (setting_text settings.ModulePath) then Some settings.ModulePath
    else if is_text text (setting_text settings.AddModules) then Some settings.AddModules
    else if is_text text (setting_text settings.AddReads) then Some settings.AddReads
    else if is_text text (setting_text settings.AddExports) then Some settings.AddExports
    else if is_text text (setting_text settings.AddOpens) then Some settings.AddOpens
    else if is_text text (setting_text settings.Steps) then Some settings.Steps
    else if is_text text (setting_text settings.Report) then Some settings.Report
    else None

-- an option of the command, which has a joined value only where it may have one
abbrev pub fits : Verb → Setting → Option (List ℕ) → Bool
fits verb s value = has_setting verb s && not (is_flag s && is_some value)

abbrev pub fitting : Verb → Option Setting → Option (List ℕ) → Option (Setting × Option (List ℕ))
fitting verb None value = None
fitting verb (Some s) value = if fits verb s value then Some (s, value) else None

-- the option that a word names, and the value that is joined to it
abbrev pub named_by : Verb → List ℕ → Option (Setting × Option (List ℕ))
named_by verb word = by (parted 61 word) where
  by : Option (List ℕ × List ℕ) → Option (Setting × Option (List ℕ))
  by None = fitting verb (setting_of word) None
  by (Some (text, value)) = fitting verb (setting_of text) (Some value)

-- a single option that stands already
abbrev pub is_given : Setting → Given → Bool
is_given settings.ModulePath given = is_some given.elements
is_given settings.Steps given = is_some given.steps
is_given settings.Report given = given.report
is_given _ given = false

abbrev pub with_roots : List (List ℕ) → ℕ → Given → Result Given WordFault
with_roots names at given = if list_all names_a_module names then Ok (record given { add = given.add ++ names }) else Err (faults.BadTarget at)

abbrev pub with_added : Option Added → ℕ → Given → Result Given WordFault
with_added None at given = Err (faults.BadTarget at)
with_added (Some added) at given = Ok (record given { added = given.added ++ added ∷ [] })

abbrev pub with_steps : Option ℕ → ℕ → Given → Result Given WordFault
with_steps None at given = Err (faults.BadNumber at)
with_steps (Some n) at given = Ok (record given { steps = Some n })

-- with the value of an option, which the word at a place holds
abbrev pub with_value : Setting → List ℕ → ℕ → Given → Result Given WordFault
with_value settings.ModulePath value at given = Ok (record given { elements = Some (path_parts value) })
with_value settings.AddModules value at given = with_roots (listed value) at given
with_value settings.Steps value at given = with_steps (number_of value) at given
with_value settings.Report value at given = Ok (record given { report = true })
with_value s value at given = with_added (added_of s value) at given

abbrev pub and_then : Result Given WordFault → ℕ → Result (Given × ℕ) WordFault
and_then (Err f) next = Err f
and_then (Ok given) next = Ok (given, next)

-- the value is joined, or it is the next word
abbrev pub valued : Setting → Option (List ℕ) → List (List ℕ) → Given → ℕ → Result (Given × ℕ) WordFault
valued s (Some value) words given at = and_then (with_value s value at given) (at + 1)
valued s None words given at = if is_flag s then and_then (with_value s [] at given) (at + 1) else apart (slice_get words (at + 1)) where
  apart : Option (List ℕ) → Result (Given × ℕ) WordFault
  apart None = Err (faults.Missing (setting_text s))
  apart (Some value) = and_then (with_value s value (at + 1) given) (at + 2)

-- the option at a place
abbrev pub use_of : Option (Setting × Option (List ℕ)) → List (List ℕ) → Given → ℕ → Result (Given × ℕ) WordFault
use_of None words given at = Err (faults.UnknownWord at)
use_of (Some (s, value)) words given at = if is_given s given then Err (faults.Repeated (setting_text s)) else valued s value words given at

abbrev pub is_option : Option (List ℕ) → Bool
is_option None = false
is_option (Some word) = begins_with_dash word

abbrev pub word_of : Option (List ℕ) → List ℕ
word_of None = []
word_of (Some word) = word

-- the options from a place on, at most n of them
unfoldable pub options_from : ℕ → Verb → List (List ℕ) → Given → ℕ → Result (Given × ℕ) WordFault
options_from zero verb words given at = Ok (given, at)
options_from (suc n) verb words given at =
    if is_option (slice_get words at) then (use_of (named_by verb (word_of (slice_get words at))) words given at >>= λ next. options_from n verb words next.0 next.1)
    else Ok (given, at)

-- ---- operands

abbrev pub or_none : Option (List (List ℕ)) → List (List ℕ)
or_none None = []
or_none (Some elements) = elements

abbrev pub or_usual : Option ℕ → ℕ
or_usual None = usual_steps
or_usual (Some n) = n

-- the first operand that is no module name
abbrev pub roots_or : Option ℕ → Given → List (List ℕ) → ℕ → Result Command WordFault
roots_or (Some k) given words at = Err (faults.BadTarget (at + k))
roots_or None given words at = Ok (Resolve (or_none given.elements) given.add (drop at words))

unfoldable pub resolve_at : List (List ℕ) → Given → ℕ → Result Command WordFault
resolve_at words given at =
    if nat_lt at (length words) then roots_or (position (λ n. not (names_a_module n)) (drop at words)) given words at
    else Err (faults.Missing (codes "ROOT"))

abbrev pub run_words : Given → List ℕ × Option (List ℕ) → List (List ℕ) → RunWords
run_words given main args = record {
  elements = or_none given.elements;
  add = given.add;
  added = given.added;
  steps = or_usual given.steps;
  report = given.report;
  main_module = main.0;
  main_class = main.1;
  args = args;
}

unfoldable pub run_at : List (List ℕ) → Given → ℕ → Result Command WordFault
run_at words given at = by (slice_get words at) where
  to : Option (List ℕ × Option (List ℕ)) → Result Command WordFault
  to None = Err (faults.BadTarget at)
  to (Some main) = Ok (Run (run_words given main (drop (at + 1) words)))

  by : Option (List ℕ) → Result Command WordFault
  by None = Err (faults.Missing (codes "MODULE/CLASS"))
  by (Some word) = to (target_of word)

-- the number that an operand is
abbrev pub number_or : List ℕ → Option (List ℕ) → ℕ → Result ℕ WordFault
number_or what None at = Err (faults.Missing what)
number_or what (Some word) at = by (number_of word) where
  by : Option ℕ → Result ℕ WordFault
  by None = Err (faults.BadNumber at)
  by (Some n) = Ok n

unfoldable pub sample_at : List (List ℕ) → ℕ → Result Command WordFault
sample_at words at = do
  n ← number_or (codes "N") (slice_get words at) at
  if not (nat_le 1 n && nat_le n most_sample_modules) then Err (faults.BadNumber at) else (do
    bound ← number_or (codes "BOUND") (slice_get words (at + 1)) (at + 1)
    if nat_lt (at + 2) (length words) then Err (faults.UnknownWord (at + 2)) else Ok (Sample n bound))

-- ---- lines

abbrev pub verb_of : List ℕ → Option Verb
verb_of word =
    if is_text word (verb_text verbs.Resolve) then Some verbs.Resolve
    else if is_text word (verb_text verbs.Run) then Some verbs.Run
    else if is_text word (verb_text verbs.Sample) then Some verbs.Sample
    else None

abbrev pub operands_at : Verb → List (List ℕ) → Given × ℕ → Result Command WordFault
operands_at verbs.Resolve words read = resolve_at words read.0 read.1
operands_at verbs.Run words read = run_at words read.0 read.1
operands_at verbs.Sample words read = sample_at words read.1

abbrev pub verb_or : Option Verb → List (List ℕ) → Result Command WordFault
verb_or None words = Err (faults.UnknownWord 0)
verb_or (Some verb) words = options_from (length words) verb words nothing 1 >>= operands_at verb words

-- a line of any length
unfoldable pub line_read : List (List ℕ) → Result Command WordFault
line_read [] = Err faults.NoCommand
line_read (w ∷ ws) = verb_or (verb_of w) (w ∷ ws)

-- a word too many stands before what is missing
abbrev pub past_most : Result Command WordFault → Result Command WordFault
past_most (Ok c) = Err (faults.UnknownWord most_words)
past_most (Err (faults.Missing what)) = Err (faults.UnknownWord most_words)
past_most (Err f) = Err f

-- the command that words are, or the first fault
unfoldable pub words_read : List (List ℕ) → Result Command WordFault
words_read words = if nat_le (length words) most_words then line_read words else past_most (line_read (take most_words words))
