-- What a world begins with: layers, and the classes of java.base (JVMS 5.3.1).
use Rattle.std.specs.Prelude.{ℕ, ◌≤◌, List, [], ◌∷◌, map, length, option_map, Bool, true, ◌&&◌, IsTrue}
use Rattle.std.specs.List.{list_all, list_any}
use Rattle.std.specs.Option.{option_map_or}
use Rattle.jl_logic.specs.Order.{is_text}
use Rattle.jl_logic.specs.Lists.{AreDistinct}
use Rattle.jl_names.specs.Names.{package_of}
use Rattle.jl_prim.specs.declared.numbers.ClassId.{ClassId}
use Rattle.jl_prim.specs.declared.numbers.LoaderId.{LoaderId}
use Rattle.jl_prim.specs.declared.numbers.ModuleId.{ModuleId}
use Rattle.jl_class.specs.Classes.{Class}
use Rattle.jl_layer.specs.declared.layer.Member.{Member}
use Rattle.jl_layer.specs.Layers as layers
use Rattle.jl_layer.specs.Layers.{member_of, declaration_of}
use Rattle.jl_loads.specs.Worlds.{State, Loaded, bare, defined, loader_of_module, with_class}
use Rattle.jl_loads.specs.Loading.{most_classes, under, unlinked}

-- ---- which classes these may be

-- the name is one of these
abbrev pub is_name_among : List ℕ → List (List ℕ) → Bool
is_name_among name names = list_any (is_text name) names

-- the class has its superclass, if it has one, and its interfaces among these names
abbrev pub stands_behind : List (List ℕ) → Class → Bool
stands_behind before c = option_map_or (λ (name : List ℕ). is_name_among name before) c.super_name true && list_all (λ (name : List ℕ). is_name_among name before) c.interfaces

-- each class has its superclass and its interfaces before it
unfoldable pub stand_in_order : List (List ℕ) → List Class → Bool
stand_in_order before [] = true
stand_in_order before (c ∷ cs) = stands_behind before c && stand_in_order (c.name ∷ before) cs

-- the packages of java.base
abbrev pub base_packages : layers.State → List (List ℕ)
base_packages l = option_map_or (λ (m : ModuleId). option_map_or (λ (x : Member). (declaration_of x).packages) (member_of l m) []) l.loaders.base []

-- Classes of java.base, which has these packages: each behind what it extends and implements, no name twice, and no more than there may be.
pub record IsBegin (packages : List (List ℕ)) (classes : List Class) : Type 0 where
  pub order : IsTrue (stand_in_order [] classes)
  pub apart : AreDistinct (map (λ (c : Class). c.name) classes)
  pub inside : IsTrue (list_all (λ (c : Class). is_name_among (package_of c.name) packages) classes)
  pub few : length classes ≤ most_classes

-- ---- what is there then

-- the module of java.base; of none it is module 0, which is none
abbrev pub base_of : State → ModuleId
base_of s = option_map_or (λ (m : ModuleId). m) s.layers.loaders.base (record { 0 = 0 })

-- the class that a loader has defined with a name; of none it is class 0, which is none
abbrev pub class_named : State → LoaderId → List ℕ → ClassId
class_named s l name = option_map_or (λ (c : ClassId). c) (defined s l name) (record { 0 = 0 })

-- a class with the supertypes of its names, which its loader has defined
abbrev pub named_under : State → Loaded → Loaded
named_under s c = under c (option_map (class_named s c.loader) c.declared.super_name) (map (class_named s c.loader) c.declared.interfaces)

-- a class of java.base, over those that are there
abbrev pub base_class : State → Class → Loaded
base_class s c = named_under s (unlinked (loader_of_module s (base_of s)) (base_of s) c)

-- classes of java.base, defined one behind the other
unfoldable pub begun_by : State → List Class → State
begun_by s [] = s
begun_by s (c ∷ cs) = begun_by (with_class (base_class s c) s) cs

-- The layers with the classes of java.base, defined in their order, and no note.
abbrev pub begun : layers.State → List Class → State
begun l cs = begun_by (bare l) cs
