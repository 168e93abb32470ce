-- Worked rows of what a world begins with.
use Rattle.std.proofs.Common.{◌≡◌, ℕ, List, [], ◌∷◌, Option, Some, None, true, false, refl}
use Rattle.std.specs.Prelude.{codes}
use Rattle.jl_prim.specs.declared.numbers.ClassId.{ClassId}
use Rattle.jl_prim.specs.declared.declaration.ParentLoader.TheVariants.{Null}
use Rattle.jl_class.specs.Classes.{Class}
use Rattle.jl_layer.specs.Layers as layers
use Rattle.jl_loads.specs.Worlds.{Loaded}
use Rattle.jl_loads.specs.Beginning.{base_packages, begun, begun_by, stand_in_order}

-- layers with java.base alone, which has one package
abbrev base : layers.State
base = record {
  configurations = [];
  layers = [];
  modules = record { layer = record { 0 = 1 }; loader = record { 0 = 1 }; observed = record { declaration = record { name = codes "java.base"; is_open = false; version = None; required = []; exports = []; opens = []; uses = []; provides = []; packages = codes "java/lang" ∷ []; main = None }; place = [] } } ∷ [];
  loaders = record { loaders = record { own = (codes "java/lang", record { 0 = 1 }) ∷ []; seen = []; parent = Null } ∷ []; base = Some (record { 0 = 1 }); constraints = []; spare = 0 };
  facts = record { modules = []; statements = []; spare_modules = 0; spare_statements = 0 };
}

abbrev class : ℕ → List ℕ → Option (List ℕ) → List (List ℕ) → Class
class flags name super interfaces = record { major = 61; minor = 0; flags = flags; name = name; super_name = super; interfaces = interfaces; fields = []; methods = []; nest_host = None; nest_members = []; permits = None; pool = [] }

abbrev object : Class
object = class 0x21 (codes "java/lang/Object") None []

abbrev runnable : Class
runnable = class 0x601 (codes "java/lang/Runnable") (Some (codes "java/lang/Object")) []

abbrev thread : Class
thread = class 0x21 (codes "java/lang/Thread") (Some (codes "java/lang/Object")) (codes "java/lang/Runnable" ∷ [])

-- a class of java.base as it is defined
abbrev of : Option ClassId → List ClassId → Class → Loaded
of super interfaces declared = record { loader = record { 0 = 1 }; home = record { 0 = 1 }; super = super; interfaces = interfaces; declared = declared }

packages_row : base_packages base ≡ codes "java/lang" ∷ []
packages_row = refl

in_order_row : stand_in_order [] (object ∷ runnable ∷ thread ∷ []) ≡ true
unfolding stand_in_order
in_order_row = refl

out_of_order_row : stand_in_order [] (object ∷ thread ∷ runnable ∷ []) ≡ false
unfolding stand_in_order
out_of_order_row = refl

-- each has those of its names before it
begun_row : (begun base (object ∷ runnable ∷ thread ∷ [])).classes ≡ of None [] object ∷ of (Some (record { 0 = 1 })) [] runnable ∷ of (Some (record { 0 = 1 })) (record { 0 = 2 } ∷ []) thread ∷ []
unfolding begun_by
begun_row = refl
