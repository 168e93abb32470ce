-- What a reader gets from other modules, and what the searches over that collect (`Configuration.resolve`). No public clause cites these.
use Rattle.std.specs.Prelude.{◌≡◌, ◌≢◌, ℕ, ◌-◌, ◌<◌, List, Some, Contains, ◌⊎◌, slice_get}
use Rattle.std.specs.Ordering.{ordering_then}
use Rattle.std.specs.declared.cmp.Ordering.{Ordering}
use Rattle.jl_prim.specs.declared.declaration.Grant.{Grant}
use Rattle.jl_prim.specs.declared.declaration.Provides.{Provides}
use Rattle.jl_logic.specs.Order.{name_cmp, RisesBy}
use Rattle.jl_names.specs.Names.{package_of}
use Rattle.jl_config.specs.declared.fault.ResolveFault.{ResolveFault}
use Rattle.jl_config.specs.declared.fault.ResolveFault.TheVariants.{SamePackage, OwnPackage, ServicePackage}
use Rattle.jl_config.specs.declared.imports.Exported.{Exported}
use Rattle.jl_config.specs.declared.imports.Imports.{Imports}
use Rattle.jl_config.specs.declared.packages.SharedPackage.{SharedPackage}
use Rattle.jl_config.specs.declared.packages.OwnedPackage.{OwnedPackage}
use Rattle.jl_config.specs.declared.services.UnseenService.{UnseenService}
use Rattle.jl_config.specs.declared.candidate.Candidate.{Candidate}
use Rattle.jl_config.specs.Located.{Scene, candidate_name}
use Rattle.jl_config.specs.Members.{IsMember, Reads, Uses, IsProvidedBy}
use Rattle.jl_config.specs.Refusals.{ReachesBy, Exports, Holds}
use Rattle.jl_config.specs.ReadRows.{name_at}

-- ---- what is exported

-- what a grant of the module s exports to a reader
abbrev pub IsGranted : List ℕ → Candidate → Grant → Exported → Type 0
IsGranted reader s g e = ReachesBy g.to reader × (e ≡ record { «package» = g.«package»; exporter = candidate_name s })

-- what s exports to it
abbrev pub IsExportedBy : List ℕ → Candidate → Exported → Type 0
IsExportedBy reader s e = Exports s e.«package» reader × (e.exporter ≡ candidate_name s)

-- what the module at a place exports to the reader at another, whose name it has not
abbrev pub IsExportedAt : Scene → ℕ → ℕ → Exported → Type 0
IsExportedAt w reader p e = (b : Candidate) × (slice_get w.candidates p ≡ Some b) × (candidate_name b ≢ name_at w reader) × IsExportedBy (name_at w reader) b e

-- by package, and then by exporter
abbrev pub exported_cmp : Exported → Exported → Ordering
exported_cmp d e = ordering_then (name_cmp d.«package» e.«package») (name_cmp d.exporter e.exporter)

-- These are the packages that the module a of the set gets from modules of other names, in order.
pub record IsImportOf (w : Scene) (m : Imports) (a : Candidate) : Type 0 where
  pub here : slice_get w.candidates m.reader ≡ Some a
  pub member : IsMember w a
  pub rise : RisesBy exported_cmp m.exported
  pub only : (e : Exported) → Contains m.exported e → (b : Candidate) × Reads w a b × IsExportedBy (candidate_name a) b e × (candidate_name b ≢ candidate_name a)
  pub all : (b : Candidate) (p : List ℕ) → Reads w a b → Exports b p (candidate_name a) → candidate_name b ≢ candidate_name a → Contains m.exported (record { «package» = p; exporter = candidate_name b })
  pub own : (b : Candidate) → Reads w a b → candidate_name b ≡ candidate_name a → b.config ≡ a.config → b ≡ a

-- what one reader gets, in order
abbrev pub IsImport : Scene → Imports → Type 0
IsImport w m = (a : Candidate) × IsImportOf w m a

-- one for each module of the set
pub record AreImports (w : Scene) (ms : List Imports) : Type 0 where
  pub only : (m : Imports) → Contains ms m → IsImport w m
  pub all : (a : Candidate) → IsMember w a → (m : Imports) × Contains ms m × IsImportOf w m a

-- ---- refusals

-- The exports at places i - 1 and i are of one package.
abbrev pub IsPackageSharedAt : Scene → Imports → ℕ → SharedPackage → Type 0
IsPackageSharedAt w m i c = (d : Exported) × (e : Exported) × (0 < i) × (slice_get m.exported (i - 1) ≡ Some d) × (slice_get m.exported i ≡ Some e) × (d.«package» ≡ e.«package»)
    × (c ≡ record { reader = name_at w m.reader; «package» = e.«package»; one = d.exporter; other = e.exporter })

-- two exporters of one package stand side by side
abbrev pub IsPackageShared : Scene → Imports → SharedPackage → Type 0
IsPackageShared w m c = (i : ℕ) × IsPackageSharedAt w m i c

-- The reader s has the package of an export.
abbrev pub IsOwned : Candidate → Exported → OwnedPackage → Type 0
IsOwned s e c = Holds s e.«package» × (c ≡ record { reader = candidate_name s; «package» = e.«package»; other = e.exporter })

-- the reader has a package that it gets
abbrev pub IsOwnedIn : Scene → Imports → OwnedPackage → Type 0
IsOwnedIn w m c = (s : Candidate) × (slice_get w.candidates m.reader ≡ Some s) × (e : Exported) × Contains m.exported e × IsOwned s e c

-- The package is among the imports.
abbrev pub IsImported : List Exported → List ℕ → Type 0
IsImported es p = (e : Exported) × Contains es e × (e.«package» ≡ p)

-- a grant of the module s exports the package to itself
abbrev pub IsOwnExport : Candidate → Grant → List ℕ → Type 0
IsOwnExport s g p = (g.«package» ≡ p) × ReachesBy g.to (candidate_name s)

-- the packages that the module s has, or exports to itself, in order
pub record AreOwn (s : Candidate) (own : List (List ℕ)) : Type 0 where
  pub rise : RisesBy name_cmp own
  pub only : (p : List ℕ) → Contains own p → Holds s p ⊎ Exports s p (candidate_name s)
  pub all : (p : List ℕ) → Holds s p ⊎ Exports s p (candidate_name s) → Contains own p

-- the module s has the package, exports it to itself, or gets it
abbrev pub IsSeen : Candidate → List Exported → List ℕ → Type 0
IsSeen s es p = Holds s p ⊎ (Exports s p (candidate_name s) ⊎ IsImported es p)

-- a service whose package the module neither has nor gets
abbrev pub IsUnseen : Candidate → List Exported → List ℕ → UnseenService → Type 0
IsUnseen s es service c = (IsSeen s es (package_of service) → ⊥) × (c ≡ record { «module» = candidate_name s; service = service })

-- likewise a service that is provided
abbrev pub IsUnseenProvided : Candidate → List Exported → Provides → UnseenService → Type 0
IsUnseenProvided s es p c = IsUnseen s es p.service c

-- likewise one of all that the reader uses or provides
abbrev pub IsUnseenIn : Scene → Imports → UnseenService → Type 0
IsUnseenIn w m c = (s : Candidate) × (slice_get w.candidates m.reader ≡ Some s) × (Uses s c.service ⊎ IsProvidedBy s c.service) × IsUnseen s m.exported c.service c

-- the refusal of a package with two exporters
abbrev pub same_package_fault : SharedPackage → ResolveFault
same_package_fault c = SamePackage c.reader c.«package» c.one c.other

-- the refusal of a package that the reader has and gets
abbrev pub own_package_fault : OwnedPackage → ResolveFault
own_package_fault c = OwnPackage c.reader c.«package» c.other

-- the refusal of a service whose package is not seen
abbrev pub service_fault : UnseenService → ResolveFault
service_fault c = ServicePackage c.«module» c.service
