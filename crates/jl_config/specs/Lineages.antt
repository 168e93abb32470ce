-- What the ancestors have, as lists (`Configuration.resolve`): the words of the code that gathers them. No public clause cites these.
use Rattle.std.specs.Prelude.{ℕ, List, map, Bool, not, ◌&&◌}
use Rattle.std.specs.List.{flat_map}
use Rattle.jl_prim.specs.declared.numbers.ConfigId.{ConfigId}
use Rattle.jl_config.specs.declared.candidate.Candidate.{Candidate}
use Rattle.jl_config.specs.declared.configuration.Read.{Read}
use Rattle.jl_config.specs.Configurations.{Configuration}
use Rattle.jl_logic.specs.Order.{is_text}
use Rattle.jl_config.specs.Located.{candidates_of, candidate_name, is_numbered, configuration_of}

-- the reads of a configuration, with its number
abbrev pub reads_with : ConfigId → List Read → List (ConfigId × Read)
reads_with config rs = map (λ r. (config, r)) rs

-- the modules of configurations
abbrev pub all_candidates : List Configuration → List Candidate
all_candidates gs = flat_map (λ (g : Configuration). candidates_of g.id g.modules) gs

-- the modules of the configurations with these numbers
abbrev pub numbered_candidates : List Configuration → List ConfigId → List Candidate
numbered_candidates known ns = all_candidates (map (configuration_of known) ns)

-- the reads of configurations
abbrev pub all_reads : List Configuration → List (ConfigId × Read)
all_reads gs = flat_map (λ (g : Configuration). map (λ r. (g.id, r)) g.reads) gs

-- the reads of the configurations with these numbers
abbrev pub numbered_reads : List Configuration → List ConfigId → List (ConfigId × Read)
numbered_reads known ns = all_reads (map (configuration_of known) ns)

-- ---- reads and modules by their names

-- the entry is of this reader
abbrev pub is_reader : List ℕ → ConfigId × Read → Bool
is_reader reader r = is_text r.1.reader reader

-- the entry is of this configuration, and of the name that is read
abbrev pub is_read_in : ConfigId → List ℕ → ConfigId × Read → Bool
is_read_in config name r = is_numbered r.0 config && is_text r.1.name name

-- the module has this name
abbrev pub is_named : List ℕ → Candidate → Bool
is_named name s = is_text (candidate_name s) name

-- the module is of this configuration
abbrev pub is_in : ConfigId → Candidate → Bool
is_in config s = is_numbered s.config config

-- the module is of another configuration
abbrev pub is_outside : ConfigId → Candidate → Bool
is_outside config s = not (is_in config s)
