-- Worked rows of reads by places: a and b are of the set, d and h of the finders are not, and e, f and another d are of an ancestor, which has e read its f.
use Rattle.std.proofs.Common.{◌≡◌, ℕ, List, [], ◌∷◌, Some, None, Bool, true, false, refl, codes}
use Rattle.jl_prim.specs.declared.declaration.Requires.{Requires}
use Rattle.jl_prim.specs.declared.declaration.Observed.{Observed}
use Rattle.jl_config.specs.declared.candidate.Candidate.{Candidate}
use Rattle.jl_config.specs.Located.{Scene}
use Rattle.jl_config.specs.ReadRows.{meant_place, read_rows, read_starts, read_between, marked_place, placed}

abbrev needs : List ℕ → Bool → Requires
needs name transitive = record { name = name; transitive = transitive; is_static = false }

abbrev observed : List ℕ → List Requires → Observed
observed name required = record {
  declaration = record { name = name; is_open = false; version = None; required = required; exports = []; opens = []; uses = []; provides = []; packages = []; main = None };
  place = [];
}

abbrev candidate : ℕ → List ℕ → List Requires → Candidate
candidate config name required = record { config = record { 0 = config }; observed = observed name required }

abbrev a : Candidate
a = candidate 2 (codes "a") (needs (codes "b") false ∷ needs (codes "d") true ∷ needs (codes "h") true ∷ needs (codes "x") true ∷ [])

abbrev b : Candidate
b = candidate 2 (codes "b") (needs (codes "e") true ∷ needs (codes "a") false ∷ [])

abbrev e : Candidate
e = candidate 1 (codes "e") (needs (codes "f") true ∷ needs (codes "b") true ∷ [])

abbrev scene : Scene
scene = record {
  id = record { 0 = 2 };
  candidates = a ∷ b ∷ candidate 2 (codes "d") [] ∷ e ∷ candidate 1 (codes "f") [] ∷ candidate 1 (codes "d") [] ∷ candidate 2 (codes "f") [] ∷ candidate 2 (codes "h") [] ∷ [];
  reads = (record { 0 = 1 }, record { reader = codes "e"; config = record { 0 = 1 }; name = codes "f" }) ∷ [];
  roots = codes "a" ∷ [];
  binds = false;
}

abbrev marks : List Bool
marks = true ∷ true ∷ false ∷ false ∷ false ∷ false ∷ false ∷ false ∷ []

-- A name means a member, or else a module of an ancestor.
member_meant : meant_place scene marks a (codes "b") ≡ Some 1
member_meant = refl

ancestor_meant : meant_place scene marks b (codes "e") ≡ Some 3
ancestor_meant = refl

-- one that is observed and not of the set is not meant, nor does it hide an ancestor's
ancestor_behind : meant_place scene marks a (codes "d") ≡ Some 5
ancestor_behind = refl

not_a_member : meant_place scene marks a (codes "h") ≡ None
not_a_member = refl

nowhere : meant_place scene marks a (codes "x") ≡ None
nowhere = refl

-- To an ancestor's module a name means what its own configuration has it read.
own_meant : meant_place scene marks e (codes "f") ≡ Some 4
own_meant = refl

own_reads_no_member : meant_place scene marks e (codes "b") ≡ None
own_reads_no_member = refl

-- the transitive entries
followers : read_rows scene marks ≡ (5 ∷ []) ∷ (3 ∷ []) ∷ [] ∷ (4 ∷ []) ∷ [] ∷ [] ∷ [] ∷ [] ∷ []
followers = refl

-- all entries, and the reader itself
begins : read_starts scene marks a 0 ≡ 1 ∷ 5 ∷ 0 ∷ []
begins = refl

begins_with_an_ancestor : read_starts scene marks b 1 ≡ 3 ∷ 0 ∷ 1 ∷ []
begins_with_an_ancestor = refl

read : read_between scene 0 3 ≡ record { reader = codes "a"; config = record { 0 = 1 }; name = codes "e" }
read = refl

kept : marked_place marks (placed scene 1) ≡ Some 1
kept = refl

left_out : marked_place marks (placed scene 2) ≡ None
left_out = refl
