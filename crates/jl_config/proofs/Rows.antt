-- Worked rows of the definitions. Configuration 1 has x and y; app requires and uses s, s exports its package, and p provides it.
use Rattle.std.proofs.Common.{◌≡◌, ℕ, List, [], ◌∷◌, true, false, Bool, None, Some, codes, refl, inl, inr, Less}
use Rattle.jl_logic.proofs.Rising.{contains_head}
use Rattle.jl_prim.specs.declared.numbers.ConfigId.{ConfigId}
use Rattle.jl_prim.specs.declared.declaration.Requires.{Requires}
use Rattle.jl_prim.specs.declared.declaration.Grant.{Grant}
use Rattle.jl_prim.specs.declared.declaration.Provides.{Provides}
use Rattle.jl_prim.specs.declared.declaration.Observed.{Observed}
use Rattle.jl_config.specs.declared.candidate.Candidate.{Candidate}
use Rattle.jl_config.specs.declared.fault.ResolveFault.TheVariants.{NotFound, Cycle, SameName}
use Rattle.jl_config.specs.Configurations.{Configuration}
use Rattle.jl_config.specs.Located.{Asked, Scene, scene_of, preorder, ancestors, ancestor_numbers, located, located_above, own_meaning}
use Rattle.jl_config.specs.Members.{is_followed, is_passed_on, IsFound, IsJustified, Enumerated}
use Rattle.jl_config.specs.Refusals.{fault_cmp, Exports}

abbrev entry : List ℕ → Bool → Bool → Requires
entry name passed static = record { name = name; transitive = passed; is_static = static }

abbrev module_of : List ℕ → List Requires → Observed
module_of name required = record {
  declaration = record { name = name; is_open = false; version = None; required = required; exports = []; opens = []; uses = []; provides = []; packages = []; main = None };
  place = [];
}

-- ---- entries

-- the entry of java.base is followed and passes nothing on, whatever its flags
base_followed : is_followed (entry (codes "java.base") true true) ≡ true
base_followed = refl

base_passes_nothing : is_passed_on (entry (codes "java.base") true true) ≡ false
base_passes_nothing = refl

static_not_followed : is_followed (entry (codes "d") true true) ≡ false
static_not_followed = refl

-- ---- where a name is located

abbrev x : Observed
x = module_of (codes "x") []

abbrev y : Observed
y = module_of (codes "y") (entry (codes "x") true false ∷ [])

abbrev above : Configuration
above = record {
  id = record { 0 = 1 };
  parents = record { 0 = 0 } ∷ [];
  modules = x ∷ y ∷ [];
  reads = record { reader = codes "y"; config = record { 0 = 1 }; name = codes "x" } ∷ [];
}

abbrev asked_with : List Observed → List Observed → Asked
asked_with before after = record { known = above ∷ []; before = before; parents = record { 0 = 1 } ∷ []; after = after; roots = codes "x" ∷ []; binds = false }

abbrev at : ℕ → Observed → Candidate
at config o = record { config = record { 0 = config }; observed = o }

-- the parent and the empty configuration
two_ancestors : ancestors (asked_with [] []) ≡ above ∷ record { id = record { 0 = 0 }; parents = []; modules = []; reads = [] } ∷ []
unfolding preorder
two_ancestors = refl

before_hides : located (scene_of (asked_with (module_of (codes "x") [] ∷ []) [])) (codes "x") ≡ Some (at 2 (module_of (codes "x") []))
unfolding preorder
before_hides = refl

above_is_there : located_above (scene_of (asked_with (module_of (codes "x") [] ∷ []) [])) (codes "x") ≡ Some (at 1 x)
unfolding preorder
above_is_there = refl

hides_after : located (scene_of (asked_with [] (module_of (codes "x") [] ∷ []))) (codes "x") ≡ Some (at 1 x)
unfolding preorder
hides_after = refl

after_serves : located (scene_of (asked_with [] (module_of (codes "z") [] ∷ []))) (codes "z") ≡ Some (at 2 (module_of (codes "z") []))
unfolding preorder
after_serves = refl

nowhere : located (scene_of (asked_with [] [])) (codes "z") ≡ None
unfolding preorder
nowhere = refl

-- to y of the ancestor x means what its configuration has it read, also where the before finder hides it
own_x : own_meaning (scene_of (asked_with (module_of (codes "x") [] ∷ []) [])) (at 1 y) (codes "x") ≡ Some (at 1 x)
unfolding preorder
own_x = refl

-- ---- several parents

abbrev number : ℕ → ConfigId
number n = record { 0 = n }

-- the configuration with a number, of these parents
abbrev child_of : List ConfigId → ℕ → Configuration
child_of ps n = record { id = number n; parents = ps; modules = []; reads = [] }

-- 2 and 3 have the parent 1, and 4 has both
abbrev diamond : List Configuration
diamond = child_of (number 0 ∷ []) 1 ∷ child_of (number 1 ∷ []) 2 ∷ child_of (number 1 ∷ []) 3 ∷ child_of (number 2 ∷ number 3 ∷ []) 4 ∷ []

-- each at its first place
diamond_once : ancestor_numbers diamond (number 4 ∷ []) ≡ number 4 ∷ number 2 ∷ number 1 ∷ number 0 ∷ number 3 ∷ []
unfolding preorder
diamond_once = refl

in_order : ancestor_numbers diamond (number 2 ∷ number 3 ∷ []) ≡ number 2 ∷ number 1 ∷ number 0 ∷ number 3 ∷ []
unfolding preorder
in_order = refl

in_other_order : ancestor_numbers diamond (number 3 ∷ number 2 ∷ []) ≡ number 3 ∷ number 1 ∷ number 0 ∷ number 2 ∷ []
unfolding preorder
in_other_order = refl

-- a parent that is given twice, and one that is an ancestor of another
given_twice : ancestor_numbers diamond (number 3 ∷ number 2 ∷ number 3 ∷ number 1 ∷ []) ≡ number 3 ∷ number 1 ∷ number 0 ∷ number 2 ∷ []
unfolding preorder
given_twice = refl

empty_first : ancestor_numbers diamond (number 0 ∷ number 1 ∷ []) ≡ number 0 ∷ number 1 ∷ []
unfolding preorder
empty_first = refl

-- a number that is not known yet
not_known : ancestor_numbers diamond (number 5 ∷ number 1 ∷ []) ≡ number 1 ∷ number 0 ∷ []
unfolding preorder
not_known = refl

-- a parent with a higher number than its child is none
parents_are_below : ancestor_numbers (child_of (number 2 ∷ []) 1 ∷ child_of (number 1 ∷ []) 2 ∷ []) (number 2 ∷ []) ≡ number 2 ∷ number 1 ∷ []
unfolding preorder
parents_are_below = refl

-- configuration 2 has an x and a y too
abbrev other : Configuration
other = record {
  id = number 2;
  parents = number 0 ∷ [];
  modules = x ∷ y ∷ [];
  reads = record { reader = codes "y"; config = number 2; name = codes "x" } ∷ [];
}

abbrev asked_of : List ConfigId → Asked
asked_of parents = record { known = above ∷ other ∷ []; before = []; parents = parents; after = []; roots = []; binds = false }

first_parent : located (scene_of (asked_of (number 1 ∷ number 2 ∷ []))) (codes "x") ≡ Some (at 1 x)
unfolding preorder
first_parent = refl

first_of_others : located (scene_of (asked_of (number 2 ∷ number 1 ∷ []))) (codes "x") ≡ Some (at 2 x)
unfolding preorder
first_of_others = refl

first_of_above : located_above (scene_of (asked_of (number 2 ∷ number 1 ∷ []))) (codes "x") ≡ Some (at 2 x)
unfolding preorder
first_of_above = refl

-- to y of the second parent x means the x of its own configuration
own_of_second : own_meaning (scene_of (asked_of (number 1 ∷ number 2 ∷ []))) (at 2 y) (codes "x") ≡ Some (at 2 x)
unfolding preorder
own_of_second = refl

-- ---- a set

abbrev app : Observed
app = record {
  declaration = record {
    name = codes "app";
    is_open = false;
    version = None;
    required = entry (codes "s") false false ∷ [];
    exports = [];
    opens = [];
    uses = codes "s/S" ∷ [];
    provides = [];
    packages = [];
    main = None;
  };
  place = [];
}

abbrev to_app : Grant
to_app = record { «package» = codes "s"; to = Some (codes "app" ∷ []) }

abbrev s : Observed
s = record {
  declaration = record {
    name = codes "s";
    is_open = false;
    version = None;
    required = [];
    exports = to_app ∷ [];
    opens = [];
    uses = [];
    provides = [];
    packages = codes "s" ∷ [];
    main = None;
  };
  place = [];
}

abbrev offer : Provides
offer = record { service = codes "s/S"; implementations = [] }

abbrev p : Observed
p = record {
  declaration = record {
    name = codes "p";
    is_open = false;
    version = None;
    required = [];
    exports = [];
    opens = [];
    uses = [];
    provides = offer ∷ [];
    packages = [];
    main = None;
  };
  place = [];
}

abbrev scene : Scene
scene = scene_of (record { known = []; before = []; parents = record { 0 = 0 } ∷ []; after = p ∷ s ∷ app ∷ []; roots = codes "app" ∷ []; binds = true })

app_found : IsFound scene (at 1 app)
unfolding preorder
app_found = record { by_finder = refl; meant = refl }

-- app is a root, and p provides what app uses
bound : IsJustified scene (at 1 p ∷ at 1 app ∷ [])
unfolding preorder app_found
bound = (
  record { by_finder = refl; meant = refl },
  inr (inr (codes "s/S", (offer, contains_head offer [], refl), (at 1 app, inl (contains_head (at 1 app) []), contains_head (codes "s/S") []))),
  (app_found, inl (contains_head (codes "app") []), tt),
)

-- s ends a chain of one step
needed : Enumerated scene 1 (at 1 s)
unfolding preorder app_found
needed = (record { by_finder = refl; meant = refl }, (at 1 app, (app_found, contains_head (codes "app") []), (entry (codes "s") false false, contains_head (entry (codes "s") false false) [], refl, refl)))

-- s exports its package to app
exported : Exports (at 1 s) (codes "s") (codes "app")
exported = (to_app, contains_head to_app [], refl, contains_head (codes "app") [])

-- ---- which refusal is decided first

found_first : fault_cmp (NotFound (codes "z") (Some (codes "z"))) (Cycle (codes "a")) ≡ Less
found_first = refl

root_first : fault_cmp (NotFound (codes "x") None) (NotFound (codes "x") (Some (codes "a"))) ≡ Less
root_first = refl

name_first : fault_cmp (NotFound (codes "x") (Some (codes "z"))) (NotFound (codes "y") None) ≡ Less
name_first = refl

reader_first : fault_cmp (SameName (codes "a") (codes "y")) (SameName (codes "b") (codes "x")) ≡ Less
reader_first = refl
