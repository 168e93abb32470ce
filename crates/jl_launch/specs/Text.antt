-- What is printed, as lines. The texts are this program's own.
use Rattle.std.specs.Prelude.{ℕ, List, [], ◌∷◌, ◌++◌, map, filter, Option, None, Some, option_map, not, ◌&&◌, codes}
use Rattle.std.specs.List.{flat_map}
use Rattle.std.specs.Fmt.{decimal}
use Rattle.jl_prim.specs.declared.declaration.Observed.{Observed}
use Rattle.jl_tables.specs.declared.fault.InfoFault.{InfoFault}
use Rattle.jl_tables.specs.declared.fault.InfoFault.TheVariants as infos
use Rattle.jl_config.specs.declared.configuration.Read.{Read}
use Rattle.jl_config.specs.declared.fault.ResolveFault.{ResolveFault}
use Rattle.jl_config.specs.declared.fault.ResolveFault.TheVariants as resolves
use Rattle.jl_config.specs.Configurations.{Configuration}
use Rattle.jl_finder.specs.declared.fault.FindFault.{FindFault}
use Rattle.jl_finder.specs.declared.fault.FindFault.TheVariants as finds
use Rattle.jl_words.specs.declared.fault.WordFault.{WordFault}
use Rattle.jl_words.specs.declared.fault.WordFault.TheVariants as words
use Rattle.jl_launch.specs.declared.end.Refusal.{Refusal}
use Rattle.jl_launch.specs.declared.end.Refusal.TheVariants as refusals
use Rattle.jl_logic.specs.Order.{is_text}
use Rattle.jl_names.specs.Dots.{dotted}

-- a blank and a text
abbrev pub field : List ℕ → List ℕ
field text = codes " " ++ text

-- A fault is printed as its kind, and behind it its fields. Want of memory and a failed tree are no faults that are printed.
abbrev pub info_text : InfoFault → Option (List ℕ)
info_text infos.BadMagic = Some (codes "BadMagic")
info_text infos.BadVersion = Some (codes "BadVersion")
info_text (infos.Short at) = Some (codes "Short" ++ field (decimal at))
info_text (infos.BadPool i) = Some (codes "BadPool" ++ field (decimal i))
info_text (infos.NotModule name) = Some (codes "NotModule" ++ field name)
info_text infos.NoModuleAttribute = Some (codes "NoModuleAttribute")
info_text (infos.BadIndex at) = Some (codes "BadIndex" ++ field (decimal at))
info_text (infos.Repeated table name) = Some (codes "Repeated" ++ field table ++ field (dotted name))
info_text infos.BaseRule = Some (codes "BaseRule")
info_text (infos.PackageMissing name) = Some (codes "PackageMissing" ++ field (dotted name))
info_text infos.Trailing = Some (codes "Trailing")
info_text infos.NoMemory = None

abbrev pub find_text : FindFault → Option (List ℕ)
find_text (finds.Info path f) = option_map (λ text. codes "Info" ++ field path ++ field text) (info_text f)
find_text (finds.Archive path) = Some (codes "Archive" ++ field path)
find_text (finds.TwoInDirectory dir name) = Some (codes "TwoInDirectory" ++ field dir ++ field name)
find_text (finds.TopLevelClass path) = Some (codes "TopLevelClass" ++ field path)
find_text (finds.TooLarge path n) = Some (codes "TooLarge" ++ field path ++ field (decimal n))
find_text finds.TooMany = Some (codes "TooMany")
find_text finds.ReadFault = None
find_text finds.NoMemory = None

-- an absent name is a dash
abbrev pub optional_text : Option (List ℕ) → List ℕ
optional_text None = codes "-"
optional_text (Some name) = name

-- Packages and services are printed with dots.
abbrev pub resolve_text : ResolveFault → Option (List ℕ)
resolve_text resolves.NoParents = Some (codes "NoParents")
resolve_text (resolves.NotFound name by) = Some (codes "NotFound" ++ field name ++ field (optional_text by))
resolve_text resolves.TooMany = Some (codes "TooMany")
resolve_text (resolves.Cycle least) = Some (codes "Cycle" ++ field least)
resolve_text (resolves.SameName reader name) = Some (codes "SameName" ++ field reader ++ field name)
resolve_text (resolves.SamePackage reader p one other) = Some (codes "SamePackage" ++ field reader ++ field (dotted p) ++ field one ++ field other)
resolve_text (resolves.OwnPackage reader p other) = Some (codes "OwnPackage" ++ field reader ++ field (dotted p) ++ field other)
resolve_text (resolves.ServicePackage name service) = Some (codes "ServicePackage" ++ field name ++ field (dotted service))
resolve_text resolves.NoMemory = None

abbrev pub word_text : WordFault → Option (List ℕ)
word_text words.NoCommand = Some (codes "NoCommand")
word_text (words.UnknownWord at) = Some (codes "UnknownWord" ++ field (decimal at))
word_text (words.Missing what) = Some (codes "Missing" ++ field what)
word_text (words.Repeated option) = Some (codes "Repeated" ++ field option)
word_text (words.BadNumber at) = Some (codes "BadNumber" ++ field (decimal at))
word_text (words.BadTarget at) = Some (codes "BadTarget" ++ field (decimal at))
word_text words.NotBuilt = Some (codes "NotBuilt")
word_text words.NoMemory = None

abbrev pub refusal_text : Refusal → Option (List ℕ)
refusal_text (refusals.Find f) = option_map (λ text. codes "Find" ++ field text) (find_text f)
refusal_text (refusals.Resolve f) = option_map (λ text. codes "Resolve" ++ field text) (resolve_text f)

-- ---- lines, each with its end

abbrev pub line : List ℕ → List ℕ
line text = text ++ 10 ∷ []

-- a text with a word before it has one line, and no text has none
abbrev pub lines_behind : List ℕ → Option (List ℕ) → List (List ℕ)
lines_behind word None = []
lines_behind word (Some text) = line (word ++ text) ∷ []

abbrev pub words_lines : WordFault → List (List ℕ)
words_lines f = lines_behind (codes "words: ") (word_text f)

abbrev pub refusal_lines : Refusal → List (List ℕ)
refusal_lines r = lines_behind (codes "refused: ") (refusal_text r)

abbrev pub module_line : Observed → List ℕ
module_line o = line (codes "module " ++ o.declaration.name)

abbrev pub read_line : Read → List ℕ
read_line r = line (codes "  reads " ++ r.name)

-- what a module reads without itself
abbrev pub other_reads : List Read → Observed → List Read
other_reads reads o = filter (λ r. is_text r.reader o.declaration.name && not (is_text r.name o.declaration.name)) reads

-- a module, and under it what it reads
abbrev pub module_lines : List Read → Observed → List (List ℕ)
module_lines reads o = module_line o ∷ map read_line (other_reads reads o)

-- each module in order, and under it what it reads
abbrev pub graph_lines : Configuration → List (List ℕ)
graph_lines g = flat_map (module_lines g.reads) g.modules
