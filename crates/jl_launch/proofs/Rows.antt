-- Worked rows of what is printed and of what words ask.
use Rattle.std.specs.Fmt.{digits}
use Rattle.std.specs.Prelude.{◌≡◌, ℕ, List, [], ◌∷◌, None, Some, Ok, Err, codes, refl}
use Rattle.jl_prim.specs.declared.declaration.Observed.{Observed}
use Rattle.jl_tables.specs.declared.fault.InfoFault.{InfoFault}
use Rattle.jl_tables.specs.declared.fault.InfoFault.TheVariants as infos
use Rattle.jl_config.specs.declared.configuration.Read.{Read}
use Rattle.jl_config.specs.declared.fault.ResolveFault.TheVariants as resolves
use Rattle.jl_finder.specs.declared.fault.FindFault.TheVariants as finds
use Rattle.jl_words.specs.declared.fault.WordFault.TheVariants as words
use Rattle.jl_words.specs.Values.{split}
use Rattle.jl_words.specs.Reading.{parted, options_from, resolve_at, run_at, sample_at, line_read, words_read}
use Rattle.jl_names.specs.Names.{parts}
use Rattle.jl_launch.specs.declared.end.Refusal.TheVariants.{Find, Resolve}
use Rattle.jl_launch.specs.Base.{built_in_base}
use Rattle.jl_launch.specs.Text.{graph_lines, refusal_lines, words_lines, line}
use Rattle.jl_launch.specs.Words.{words_of}

-- ---- graphs

abbrev named : List ℕ → Observed
named name = record built_in_base { declaration = record (built_in_base.declaration) { name = name } }

abbrev reads : List ℕ → List ℕ → Read
reads reader name = record { reader = reader; config = record { 0 = 1 }; name = name }

smallest : graph_lines (record {
  id = record { 0 = 1 };
  parents = record { 0 = 0 } ∷ [];
  modules = named (codes "a") ∷ built_in_base ∷ [];
  reads = reads (codes "a") (codes "a") ∷ reads (codes "a") (codes "java.base") ∷ reads (codes "java.base") (codes "java.base") ∷ [];
}) ≡ line (codes "module a") ∷ line (codes "  reads java.base") ∷ line (codes "module java.base") ∷ []
smallest = refl

empty : graph_lines (record { id = record { 0 = 1 }; parents = record { 0 = 0 } ∷ []; modules = []; reads = [] }) ≡ []
empty = refl

-- ---- words

no_command : words_lines words.NoCommand ≡ line (codes "words: NoCommand") ∷ []
no_command = refl

unknown_word : words_lines (words.UnknownWord 12) ≡ line (codes "words: UnknownWord 12") ∷ []
unfolding digits
unknown_word = refl

missing_root : words_lines (words.Missing (codes "ROOT")) ≡ line (codes "words: Missing ROOT") ∷ []
missing_root = refl

repeated_steps : words_lines (words.Repeated (codes "--steps")) ≡ line (codes "words: Repeated --steps") ∷ []
repeated_steps = refl

bad_number : words_lines (words.BadNumber 2) ≡ line (codes "words: BadNumber 2") ∷ []
unfolding digits
bad_number = refl

bad_target : words_lines (words.BadTarget 1) ≡ line (codes "words: BadTarget 1") ∷ []
unfolding digits
bad_target = refl

not_built : words_lines words.NotBuilt ≡ line (codes "words: NotBuilt") ∷ []
not_built = refl

asks : words_of (codes "resolve" ∷ codes "--module-path" ∷ codes "m" ∷ codes "b" ∷ codes "a" ∷ []) ≡ Ok (record { elements = codes "m" ∷ []; roots = codes "b" ∷ codes "a" ∷ [] })
unfolding words_read line_read options_from parted resolve_at split
asks = refl

adds_behind : words_of (codes "resolve" ∷ codes "--module-path=m:n" ∷ codes "--add-modules" ∷ codes "c" ∷ codes "a" ∷ [])
    ≡ Ok (record { elements = codes "m" ∷ codes "n" ∷ []; roots = codes "a" ∷ codes "c" ∷ [] })
unfolding words_read line_read options_from parted resolve_at split
adds_behind = refl

runs_not_yet : words_of (codes "run" ∷ codes "a/p.Main" ∷ []) ≡ Err words.NotBuilt
unfolding words_read line_read options_from run_at parted parts
runs_not_yet = refl

samples_not_yet : words_of (codes "sample" ∷ codes "3" ∷ codes "100" ∷ []) ≡ Err words.NotBuilt
unfolding words_read line_read options_from sample_at
samples_not_yet = refl

-- ---- declarations that are refused

abbrev refused_info : InfoFault → List (List ℕ)
refused_info f = refusal_lines (Find (finds.Info (codes "m/a/module-info.class") f))

bad_magic : refused_info infos.BadMagic ≡ line (codes "refused: Find Info m/a/module-info.class BadMagic") ∷ []
bad_magic = refl

bad_version : refused_info infos.BadVersion ≡ line (codes "refused: Find Info m/a/module-info.class BadVersion") ∷ []
bad_version = refl

short : refused_info (infos.Short 40) ≡ line (codes "refused: Find Info m/a/module-info.class Short 40") ∷ []
unfolding digits
short = refl

bad_pool : refused_info (infos.BadPool 5) ≡ line (codes "refused: Find Info m/a/module-info.class BadPool 5") ∷ []
unfolding digits
bad_pool = refl

not_module : refused_info (infos.NotModule (codes "fields")) ≡ line (codes "refused: Find Info m/a/module-info.class NotModule fields") ∷ []
not_module = refl

no_attribute : refused_info infos.NoModuleAttribute ≡ line (codes "refused: Find Info m/a/module-info.class NoModuleAttribute") ∷ []
no_attribute = refl

bad_index : refused_info (infos.BadIndex 78) ≡ line (codes "refused: Find Info m/a/module-info.class BadIndex 78") ∷ []
unfolding digits
bad_index = refl

repeated_export : refused_info (infos.Repeated (codes "exports") (codes "p/q")) ≡ line (codes "refused: Find Info m/a/module-info.class Repeated exports p.q") ∷ []
repeated_export = refl

base_rule : refused_info infos.BaseRule ≡ line (codes "refused: Find Info m/a/module-info.class BaseRule") ∷ []
base_rule = refl

package_missing : refused_info (infos.PackageMissing (codes "p/q")) ≡ line (codes "refused: Find Info m/a/module-info.class PackageMissing p.q") ∷ []
package_missing = refl

trailing : refused_info infos.Trailing ≡ line (codes "refused: Find Info m/a/module-info.class Trailing") ∷ []
trailing = refl

-- ---- what the finder refuses

archive : refusal_lines (Find (finds.Archive (codes "m/x.jar"))) ≡ line (codes "refused: Find Archive m/x.jar") ∷ []
archive = refl

two_in_directory : refusal_lines (Find (finds.TwoInDirectory (codes "m") (codes "a"))) ≡ line (codes "refused: Find TwoInDirectory m a") ∷ []
two_in_directory = refl

top_level_class : refusal_lines (Find (finds.TopLevelClass (codes "m/a/X.class"))) ≡ line (codes "refused: Find TopLevelClass m/a/X.class") ∷ []
top_level_class = refl

too_large : refusal_lines (Find (finds.TooLarge (codes "m/a/module-info.class") 4194305)) ≡ line (codes "refused: Find TooLarge m/a/module-info.class 4194305") ∷ []
unfolding digits
too_large = refl

too_many_found : refusal_lines (Find finds.TooMany) ≡ line (codes "refused: Find TooMany") ∷ []
too_many_found = refl

-- ---- what the resolution refuses

no_parents : refusal_lines (Resolve resolves.NoParents) ≡ line (codes "refused: Resolve NoParents") ∷ []
no_parents = refl

not_found : refusal_lines (Resolve (resolves.NotFound (codes "x") (Some (codes "a")))) ≡ line (codes "refused: Resolve NotFound x a") ∷ []
not_found = refl

root_not_found : refusal_lines (Resolve (resolves.NotFound (codes "d") None)) ≡ line (codes "refused: Resolve NotFound d -") ∷ []
root_not_found = refl

too_many : refusal_lines (Resolve resolves.TooMany) ≡ line (codes "refused: Resolve TooMany") ∷ []
too_many = refl

a_cycle : refusal_lines (Resolve (resolves.Cycle (codes "a"))) ≡ line (codes "refused: Resolve Cycle a") ∷ []
a_cycle = refl

same_name : refusal_lines (Resolve (resolves.SameName (codes "r") (codes "x"))) ≡ line (codes "refused: Resolve SameName r x") ∷ []
same_name = refl

same_package : refusal_lines (Resolve (resolves.SamePackage (codes "r") (codes "p/q") (codes "b") (codes "c"))) ≡ line (codes "refused: Resolve SamePackage r p.q b c") ∷ []
same_package = refl

own_package : refusal_lines (Resolve (resolves.OwnPackage (codes "r") (codes "p/q") (codes "b"))) ≡ line (codes "refused: Resolve OwnPackage r p.q b") ∷ []
own_package = refl

service_package : refusal_lines (Resolve (resolves.ServicePackage (codes "a") (codes "s/S"))) ≡ line (codes "refused: Resolve ServicePackage a s.S") ∷ []
service_package = refl

-- ---- what has no line

memory_in_words : words_lines words.NoMemory ≡ []
memory_in_words = refl

memory_in_a_declaration : refused_info infos.NoMemory ≡ []
memory_in_a_declaration = refl

memory_in_a_search : refusal_lines (Find finds.NoMemory) ≡ []
memory_in_a_search = refl

failed_search : refusal_lines (Find finds.ReadFault) ≡ []
failed_search = refl

memory_in_a_resolution : refusal_lines (Resolve resolves.NoMemory) ≡ []
memory_in_a_resolution = refl
