-- Why a layer is not defined, in the order in which it is decided (`ModuleLayer.defineModules`, `java.lang.LayerInstantiationException`).
use Rattle.std.specs.Prelude.{◌≡◌, ◌≢◌, ℕ, ◌+◌, ◌<◌, ◌≤◌, List, [], ◌∷◌, length, map, Some, Bool, ◌||◌, IsTrue, Contains, codes, nat_eq, ◌⊎◌, ⊤}
use Rattle.std.specs.List.{starts_with}
use Rattle.std.specs.Ordering.{ordering_then, nat_cmp}
use Rattle.std.specs.declared.cmp.Ordering.{Ordering}
use Rattle.std.specs.Cmp.Lexicographic.{slice_cmp}
use Rattle.jl_logic.specs.Order.{is_text, name_cmp, IsLeast}
use Rattle.jl_prim.specs.declared.numbers.LayerId.{LayerId}
use Rattle.jl_prim.specs.declared.numbers.ModuleId.{ModuleId}
use Rattle.jl_prim.specs.declared.declaration.Observed.{Observed}
use Rattle.jl_prim.specs.Limits.{most_modules}
use Rattle.jl_config.specs.declared.configuration.Read.{Read}
use Rattle.jl_config.specs.Located.{configuration_of, name_of}
use Rattle.jl_layer.specs.declared.fault.LayerFault.{LayerFault}
use Rattle.jl_layer.specs.declared.fault.LayerFault.TheVariants.{ParentMismatch, BaseAgain, JavaPackage, Overlap, Split, TooMany, NoMemory}
use Rattle.jl_layer.specs.declared.layer.Member.{Member}
use Rattle.jl_layer.specs.declared.layer.Mode.TheVariants.{One}
use Rattle.jl_layer.specs.Layers.{State, layer_at, member_of, declaration_of}
use Rattle.jl_layer.specs.Meaning.{meant_above, exported_to}
use Rattle.jl_layer.specs.Defining.{Asked, asked_modules}

-- the module has the package
abbrev pub Holds : Observed → List ℕ → Type 0
Holds o p = Contains o.declaration.packages p

-- the package is that of Java, or one in it
abbrev pub is_java : List ℕ → Bool
is_java p = is_text p (codes "java") || starts_with nat_eq p (codes "java/")

-- Two of the modules have the package, in one loader. Of the two ways to name them the least has the lesser name first.
abbrev pub IsOverlap : State → Asked → List ℕ → List ℕ → List ℕ → Type 0
IsOverlap s q p one other = (q.mode ≡ One) × (a : Observed) × (b : Observed) × Contains (asked_modules s q) a × Contains (asked_modules s q) b
    × (name_of a ≡ one) × (name_of b ≡ other) × (one ≢ other) × Holds a p × Holds b p

-- A module of the layer reads this one above it, which exports the package to that reader.
abbrev pub Takes : State → Asked → List ℕ → Member → Type 0
Takes s q p x = (o : Observed) × (r : Read) × (m : ModuleId) × Contains (asked_modules s q) o
    × Contains (configuration_of s.configurations q.config).reads r × (r.reader ≡ name_of o) × (r.config ≢ q.config)
    × (meant_above s q.parents r.config r.name ≡ Some m) × (member_of s m ≡ Some x) × Contains (exported_to (declaration_of x) (name_of o)) p

-- Two modules of different loaders, neither of which is the layer's, export a package to modules of the layer, which have one loader and none of which has the package.
abbrev pub IsSplit : State → Asked → List ℕ → List ℕ → List ℕ → Type 0
IsSplit s q p one other = (q.mode ≡ One) × (x : Member) × (y : Member) × Takes s q p x × Takes s q p y × (x.loader ≢ y.loader)
    × ((declaration_of x).name ≡ one) × ((declaration_of y).name ≡ other) × ((o : Observed) → Contains (asked_modules s q) o → Holds o p → ⊥)

-- The condition of a refusal holds, for its fields.
abbrev pub Applies : State → Asked → LayerFault → Type 0
Applies s q ParentMismatch = map (λ (l : LayerId). (layer_at s l).config) q.parents ≢ (configuration_of s.configurations q.config).parents
Applies s q BaseAgain = (o : Observed) × Contains (asked_modules s q) o × (name_of o ≡ codes "java.base")
Applies s q (JavaPackage p) = (o : Observed) × Contains (asked_modules s q) o × Holds o p × IsTrue (is_java p)
Applies s q (Overlap p one other) = IsOverlap s q p one other
Applies s q (Split p one other) = IsSplit s q p one other
Applies s q TooMany = (most_modules < length s.modules + length (asked_modules s q)) ⊎ (most_modules ≤ length s.layers)
Applies s q NoMemory = ⊥

-- the boot layer is refused for packages that overlap alone
abbrev pub AppliesToBoot : State → Asked → LayerFault → Type 0
AppliesToBoot s q (Overlap p one other) = IsOverlap s q p one other
AppliesToBoot s q _ = ⊥

-- in which order the conditions are decided
abbrev pub rank : LayerFault → ℕ
rank ParentMismatch = 0
rank BaseAgain = 1
rank (JavaPackage p) = 2
rank (Overlap p one other) = 3
rank (Split p one other) = 4
rank TooMany = 5
rank NoMemory = 6

-- the fields of a refusal in order
abbrev pub fields : LayerFault → List (List ℕ)
fields ParentMismatch = []
fields BaseAgain = []
fields (JavaPackage p) = p ∷ []
fields (Overlap p one other) = p ∷ one ∷ other ∷ []
fields (Split p one other) = p ∷ one ∷ other ∷ []
fields TooMany = []
fields NoMemory = []

-- the one that is decided first, and of one kind the one with the lesser fields
abbrev pub fault_cmp : LayerFault → LayerFault → Ordering
fault_cmp f g = ordering_then (nat_cmp (rank f) (rank g)) (slice_cmp name_cmp (fields f) (fields g))

-- The first refusal whose condition holds, with the least fields. Want of memory says nothing.
abbrev pub Refuses : (LayerFault → Type 0) → LayerFault → Type 0
Refuses P NoMemory = ⊤
Refuses P f = IsLeast fault_cmp P f
