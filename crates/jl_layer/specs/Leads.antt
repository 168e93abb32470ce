-- Where a name leads, by the declarations of layers and by what their modules read (JVMS 5.3; `ModuleLayer`).
use Rattle.std.specs.Prelude.{◌≡◌, ℕ, zero, suc, List, Some, Contains, codes, ◌⊎◌}
use Rattle.jl_names.specs.Names.{package_of}
use Rattle.jl_prim.specs.declared.numbers.LayerId.{LayerId}
use Rattle.jl_prim.specs.declared.numbers.LoaderId.{LoaderId}
use Rattle.jl_prim.specs.declared.numbers.ModuleId.{ModuleId}
use Rattle.jl_prim.specs.declared.declaration.ParentLoader.{ParentLoader}
use Rattle.jl_prim.specs.declared.declaration.ParentLoader.TheVariants.{Null, Loader}
use Rattle.jl_layer.specs.declared.layer.Member.{Member}
use Rattle.jl_layer.specs.Layers.{State, layer_at, member_of, declaration_of, named_in}
use Rattle.jl_layer.specs.Meaning.{reads_of, exported_to}

-- the boot layer
abbrev pub boot_layer : LayerId
boot_layer = record { 0 = 1 }

-- a module of the loader has the package
abbrev pub HasOwn : State → LoaderId → List ℕ → ModuleId → Type 0
HasOwn s l p m = (x : Member) × (member_of s m ≡ Some x) × (x.loader ≡ l) × Contains (declaration_of x).packages p

-- a module of the loader reads another module, which exports the package to it by its declaration
abbrev pub Sees : State → LoaderId → List ℕ → ModuleId → Type 0
Sees s l p m = (a : ModuleId) × (x : Member) × (y : Member) × (member_of s a ≡ Some x) × (x.loader ≡ l)
    × Contains (reads_of s x.layer) (a, m) × (member_of s m ≡ Some y) × Contains (exported_to (declaration_of y) (declaration_of x).name) p

-- java.base of the boot layer has the package
abbrev pub IsInBase : State → List ℕ → ModuleId → Type 0
IsInBase s p m = (x : Member) × (named_in s boot_layer (codes "java.base") ≡ Some m) × (member_of s m ≡ Some x) × Contains (declaration_of x).packages p

-- the loader to which a loader turns last, by the layer of one of its modules
abbrev pub IsParent : State → LoaderId → ParentLoader → Type 0
IsParent s l parent = (m : ModuleId) × (x : Member) × (member_of s m ≡ Some x) × (x.loader ≡ l) × (parent ≡ (layer_at s x.layer).parent_loader)

-- no module has the property
abbrev pub NoModule : (ModuleId → Type 0) → Type 0
NoModule P = (m : ModuleId) → P m → ⊥

-- The loader, or one of n above it, leads the package to the module: the module of the loader that has the package; or else the one that a module of the loader reads and that exports the package to it; or else where the parent leads. A null parent leads to java.base alone.
abbrev pub LeadsBy : ℕ → State → ParentLoader → List ℕ → ModuleId → Type 0
LeadsBy n s Null p m = IsInBase s p m
LeadsBy zero s (Loader l) p m = ⊥
LeadsBy (suc n) s (Loader l) p m = HasOwn s l p m
    ⊎ ((NoModule (HasOwn s l p) × Sees s l p m)
    ⊎ (NoModule (HasOwn s l p) × NoModule (Sees s l p) × ((parent : ParentLoader) × IsParent s l parent × LeadsBy n s parent p m)))

-- A loader leads the name of a class to the module.
abbrev pub Leads : State → LoaderId → List ℕ → ModuleId → Type 0
Leads s l name m = (n : ℕ) × LeadsBy n s (Loader l) (package_of name) m
