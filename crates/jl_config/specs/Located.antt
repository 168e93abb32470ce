-- What a resolution is asked, and where it finds the modules with a name (`Configuration.resolve`).
use Rattle.std.specs.Prelude.{ℕ, zero, suc, ◌+◌, List, [], ◌∷◌, ◌++◌, length, map, Option, None, Some, Bool, not, ◌&&◌, ◌==◌, nat_lt, slice_index_or, if◌then◌else◌}
use Rattle.std.specs.List.{filter, flat_map}
use Rattle.jl_prim.specs.declared.numbers.ConfigId.{ConfigId}
use Rattle.jl_prim.specs.declared.declaration.Observed.{Observed}
use Rattle.jl_logic.specs.Order.{is_text}
use Rattle.jl_config.specs.declared.candidate.Candidate.{Candidate}
use Rattle.jl_config.specs.declared.configuration.Read.{Read}
use Rattle.jl_config.specs.Configurations.{Configuration}

-- the configurations that are known, what the two finders observe, the parents, the roots, and whether services are bound
pub record Asked : Type 0 where
  pub known : List Configuration
  pub before : List Observed
  pub parents : List ConfigId
  pub after : List Observed
  pub roots : List (List ℕ)
  pub binds : Bool

-- the number after those that are known
abbrev pub next_id : List Configuration → ConfigId
next_id known = record { 0 = length known + 1 }

-- the number that the configuration gets
abbrev pub id_of : Asked → ConfigId
id_of q = next_id q.known

-- ---- ancestors

-- the empty configuration
abbrev pub empty_configuration : Configuration
empty_configuration = record { id = record { 0 = 0 }; parents = []; modules = []; reads = [] }

-- the configuration with a number; number 0 is the empty one
abbrev pub configuration_of : List Configuration → ConfigId → Configuration
configuration_of known c = slice_index_or (empty_configuration ∷ known) c.0 empty_configuration

-- the same configuration
abbrev pub is_numbered : ConfigId → ConfigId → Bool
is_numbered a b = a.0 == b.0

-- Of the parents of the configuration with a number those with lower numbers. A configuration is made after its parents, so these are all.
abbrev pub parents_below : ConfigId → List ConfigId → List ConfigId
parents_below c ps = filter (λ (p : ConfigId). nat_lt p.0 c.0) ps

-- the first parent and all above it, the second parent and all above it, and so on, n generations of them
unfoldable pub preorder : ℕ → List Configuration → List ConfigId → List ConfigId
preorder zero known ps = []
preorder (suc n) known ps = flat_map (λ (p : ConfigId). p ∷ preorder n known (parents_below p (configuration_of known p).parents)) ps

-- each number once, at its first place
abbrev pub each_once : List ConfigId → List ConfigId
each_once [] = []
each_once (p ∷ ps) = p ∷ filter (λ (q : ConfigId). not (is_numbered p q)) (each_once ps)

-- the numbers of the ancestors of the next configuration; none of its parents has more generations above it than its number
abbrev pub ancestor_numbers : List Configuration → List ConfigId → List ConfigId
ancestor_numbers known ps = each_once (preorder (length known + 1) known (parents_below (next_id known) ps))

-- the ancestors: the first parent, its ancestors, the second parent, its ancestors, and so on, each once
abbrev pub ancestors : Asked → List Configuration
ancestors q = map (configuration_of q.known) (ancestor_numbers q.known q.parents)

-- ---- what is in sight

-- Modules, each with the number of the configuration that has it, in the order in which a name is looked for; and what those of ancestors read.
pub record Scene : Type 0 where
  pub id : ConfigId
  pub candidates : List Candidate
  pub reads : List (ConfigId × Read)
  pub roots : List (List ℕ)
  pub binds : Bool

-- modules of a configuration
abbrev pub candidates_of : ConfigId → List Observed → List Candidate
candidates_of id os = map (λ o. record { config = id; observed = o }) os

-- the before finder, the ancestors from the first on, the after finder
abbrev pub scene_of : Asked → Scene
scene_of q = record {
  id = id_of q;
  candidates = candidates_of (id_of q) q.before ++ flat_map (λ (g : Configuration). candidates_of g.id g.modules) (ancestors q) ++ candidates_of (id_of q) q.after;
  reads = flat_map (λ (g : Configuration). map (λ r. (g.id, r)) g.reads) (ancestors q);
  roots = q.roots;
  binds = q.binds;
}

-- ---- modules by name

-- the name of a module
abbrev pub name_of : Observed → List ℕ
name_of o = o.declaration.name

-- the name of a module in sight
abbrev pub candidate_name : Candidate → List ℕ
candidate_name s = name_of s.observed

-- the first of a name
abbrev pub find_named : List ℕ → List Candidate → Option Candidate
find_named name [] = None
find_named name (s ∷ ss) = if is_text (candidate_name s) name then Some s else find_named name ss

-- where a name is located
abbrev pub located : Scene → List ℕ → Option Candidate
located w name = find_named name w.candidates

-- The module is one that a finder observes. Others are an ancestor's.
abbrev pub is_here : Scene → Candidate → Bool
is_here w s = is_numbered s.config w.id

-- the modules of ancestors, from the first on
abbrev pub modules_above : Scene → List Candidate
modules_above w = filter (λ (s : Candidate). not (is_here w s)) w.candidates

-- the module of the first ancestor that has the name
abbrev pub located_above : Scene → List ℕ → Option Candidate
located_above w name = find_named name (modules_above w)

-- ---- what an ancestor's module reads

-- the first of a configuration and a name
abbrev pub find_candidate : ConfigId → List ℕ → List Candidate → Option Candidate
find_candidate config name [] = None
find_candidate config name (s ∷ ss) = if is_numbered s.config config && is_text (candidate_name s) name then Some s else find_candidate config name ss

-- the first entry of a configuration by which a reader reads a name
abbrev pub find_read : ConfigId → List ℕ → List ℕ → List (ConfigId × Read) → Option Read
find_read config reader name [] = None
find_read config reader name (r ∷ rs) =
    if is_numbered r.0 config && (is_text r.1.reader reader && is_text r.1.name name) then Some r.1 else find_read config reader name rs

-- the module that an entry reads
abbrev pub read_candidate : List Candidate → Option Read → Option Candidate
read_candidate ss None = None
read_candidate ss (Some r) = find_candidate r.config r.name ss

-- the module that a name means to an ancestor's module: the one that its own configuration has it read by that name
abbrev pub own_meaning : Scene → Candidate → List ℕ → Option Candidate
own_meaning w s name = read_candidate w.candidates (find_read s.config (candidate_name s) name w.reads)
