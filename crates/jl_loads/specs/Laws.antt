-- Laws of what is loaded: what holds of it at any time, and that what is there stays (JVMS 5.3).
use Rattle.std.specs.Prelude.{◌≡◌, ◌≢◌, map, ◌⊎◌, ℕ, ◌<◌, ◌≤◌, List, [], ◌∷◌, length, Option, None, Some, Ok, Contains, ⊤}
use Rattle.jl_logic.specs.Counts.{last_count}
use Rattle.jl_logic.specs.Lists.{IsFront, AreDistinct}
use Rattle.jl_prim.specs.declared.numbers.ClassId.{ClassId}
use Rattle.jl_prim.specs.declared.numbers.LoaderId.{LoaderId}
use Rattle.jl_prim.specs.declared.numbers.ModuleId.{ModuleId}
use Rattle.jl_tree.specs.Files.{File, read_of}
use Rattle.jl_access.specs.declared.report.Key.{Key}
use Rattle.jl_access.specs.Reports.{Line}
use Rattle.jl_loaders.specs.Loaders.{IsLoader, lead}
use Rattle.jl_loaders.specs.Laws as delegation
use Rattle.jl_layer.specs.Layers as layers
use Rattle.jl_layer.specs.Layers.{IsModule}
use Rattle.jl_layer.specs.Laws as over
use Rattle.jl_layer.specs.Sound as layering
use Rattle.jl_loads.specs.declared.slot.PoolSlot.{PoolSlot}
use Rattle.jl_loads.specs.declared.slot.PoolSlot.TheVariants.{Empty}
use Rattle.jl_class.specs.Classes.{Class}
use Rattle.jl_class.specs.Tables.{AreTables}
use Rattle.jl_loads.specs.Worlds.{State, Loaded, Content, Declares, Keeps, bare, with_layers, with_slot, with_kept, slot_at, with_note, class_at, IsClass, defined, loader_of_module, super_of, interfaces_of, line_of, superinterfaces, is_subclass, is_subtype, field_id, method_id, IsFieldOf, IsMethodOf}
use Rattle.jl_loads.specs.Loading.{define, load, access, most_classes, kept_at, content_at, content_of, has_file}
use Rattle.jl_loads.specs.Beginning.{begun}
use Rattle.jl_loads.specs.Ends.{Asks}
use Rattle.jl_prim.specs.Limits.{most_file_bytes}
use Rattle.jl_prim.specs.declared.numbers.FieldId.{FieldId}
use Rattle.jl_prim.specs.declared.numbers.MethodId.{MethodId}
use Rattle.jl_reading.specs.Reading.{IsBytes}

-- ---- what holds at any time

-- The supertypes of a class were there before it; its module is there, and has its loader.
pub record IsSoundClass (s : State) (c : ClassId) (x : Loaded) : Type 0 where
  pub super : (d : ClassId) → x.super ≡ Some d → (0 < d.0) × (d.0 < c.0)
  pub interfaces : (d : ClassId) → Contains x.interfaces d → (0 < d.0) × (d.0 < c.0)
  pub home : IsModule s.layers x.home
  pub loader : x.loader ≡ loader_of_module s x.home

-- What holds of layers and of the classes that were loaded over them, at any time.
pub record AreSound (s : State) : Type 0 where
  pub modules : layering.AreSound s.layers
  pub loaders : delegation.AreSound s.layers.loaders
  pub leads : over.LeadsByLayers s.layers
  pub classes : (c : ClassId) (x : Loaded) → class_at s c ≡ Some x → IsSoundClass s c x
  -- no two classes of one loader have one name
  pub once : (c d : ClassId) (x y : Loaded) → class_at s c ≡ Some x → class_at s d ≡ Some y → x.loader ≡ y.loader → x.declared.name ≡ y.declared.name → c ≡ d
  pub few : length s.classes ≤ most_classes
  -- each class has tables that two bytes count, and one nest
  pub tables : (c : ClassId) (x : Loaded) → class_at s c ≡ Some x → AreTables x.declared
  -- each class has a row of slots, one for each index of its pool
  pub rows : map length s.slots ≡ map (λ (x : Loaded). length x.declared.pool) s.classes
  -- no path was read twice
  pub read : AreDistinct (map (λ (f : List ℕ × Content). f.0) s.kept)
  -- what was read is a class with such tables
  pub files : (f : List ℕ × Content) (c : Class) → Contains s.kept f → f.1 ≡ Declares c → AreTables c

-- A class whose supertypes and whose module are there, and of whose loader and name there is none.
pub record IsNew (s : State) (c : Loaded) : Type 0 where
  pub super : (d : ClassId) → c.super ≡ Some d → IsClass s d
  pub interfaces : (d : ClassId) → Contains c.interfaces d → IsClass s d
  pub home : IsModule s.layers c.home
  pub loader : c.loader ≡ loader_of_module s c.home
  pub fresh : defined s c.loader c.declared.name ≡ None
  pub tables : AreTables c.declared

-- A path of which nothing is kept, and a class that it may give.
pub record IsUnread (s : State) (path : List ℕ) (what : Content) : Type 0 where
  pub fresh : kept_at s path ≡ None
  pub tables : (c : Class) → what ≡ Declares c → AreTables c

-- Layers on which classes may be loaded, which holds of all that were defined.
pub record AreLaid (l : layers.State) : Type 0 where
  pub modules : layering.AreSound l
  pub loaders : delegation.AreSound l.loaders
  pub leads : over.LeadsByLayers l

-- What is loaded is sound from the start on, and stays so where a note is made, a new class is defined, a reference is decided, what a path gave is kept, or layers grow. The loader of each class is there.
pub record SoundStays : Type 0 where
  pub starts : (l : layers.State) → AreLaid l → AreSound (bare l)
  pub noted : (s : State) (key : Key) (step : ℕ) → AreSound s → AreSound (with_note key step s)
  pub defined : (s : State) (c : Loaded) → AreSound s → IsNew s c → AreSound (define s c).0
  pub filled : (s : State) (c : ClassId) (i : ℕ) (x : PoolSlot) → AreSound s → IsClass s c → AreSound (with_slot c i x s)
  pub kept : (s : State) (path : List ℕ) (what : Content) → AreSound s → IsUnread s path what → AreSound (with_kept path what s)
  pub layered : (s : State) (l : layers.State) → AreSound s → over.Grows s.layers l → AreLaid l → AreSound (with_layers l s)
  pub loaders : (s : State) (c : ClassId) (x : Loaded) → AreSound s → class_at s c ≡ Some x → IsLoader s.layers.loaders x.loader

-- ---- growth

-- A line of the report goes on: its key and its first step stay, and its count does not fall, up to the last one of its type.
pub record IsLater (old new : Line) : Type 0 where
  pub key : new.key ≡ old.key
  pub first : new.first ≡ old.first
  pub count : (old.count ≤ new.count) ⊎ (last_count ≤ new.count)

-- each line goes on at its place, and any more come behind
abbrev pub GoOn : List Line → List Line → Type 0
GoOn [] new = ⊤
GoOn (l ∷ ls) [] = ⊥
GoOn (l ∷ ls) (m ∷ ms) = IsLater l m × GoOn ls ms

-- A slot that is filled stays as it is.
abbrev pub SlotsStay : State → State → Type 0
SlotsStay old new = (c : ClassId) (i : ℕ) → slot_at old c i ≢ Empty → slot_at new c i ≡ slot_at old c i

-- What is there stays, and more comes behind it.
pub record Grows (old new : State) : Type 0 where
  pub layers : over.Grows old.layers new.layers
  pub classes : IsFront old.classes new.classes
  pub report : GoOn old.report new.report
  pub slots : SlotsStay old new
  pub kept : IsFront old.kept new.kept

-- the growth is of classes, notes and what was read alone
pub record GrowsInClasses (old new : State) : Type 0 where
  pub keeps : Keeps old new
  pub report : GoOn old.report new.report

-- What is there does not move, whatever comes behind it.
pub record ClassesStay : Type 0 where
  pub same : (f : State) → Grows f f
  pub onward : (f g h : State) → Grows f g → Grows g h → Grows f h
  pub within : (f g : State) → GrowsInClasses f g → Grows f g
  pub noted : (f : State) (key : Key) (step : ℕ) → GrowsInClasses f (with_note key step f)
  -- a reference of which nothing was decided is decided
  pub filled : (f : State) (c : ClassId) (i : ℕ) (x : PoolSlot) → IsClass f c → slot_at f c i ≡ Empty → Grows f (with_slot c i x f)
  pub layered : (f : State) (l : layers.State) → over.Grows f.layers l → Grows f (with_layers l f)
  pub classes : (f g : State) (c : ClassId) → Grows f g → IsClass f c → class_at g c ≡ class_at f c
  pub names : (f g : State) (l : LoaderId) (name : List ℕ) (c : ClassId) → Grows f g → defined f l name ≡ Some c → defined g l name ≡ Some c
  pub supers : (f g : State) (c : ClassId) → Grows f g → IsClass f c → super_of g c ≡ super_of f c
  pub interfaces : (f g : State) (c : ClassId) → Grows f g → IsClass f c → interfaces_of g c ≡ interfaces_of f c
  pub lines : (f g : State) (c : ClassId) → AreSound f → Grows f g → IsClass f c → line_of g c ≡ line_of f c
  pub superinterfaces : (f g : State) (c : ClassId) → AreSound f → Grows f g → IsClass f c → superinterfaces g c ≡ superinterfaces f c
  pub subclasses : (f g : State) (c d : ClassId) → AreSound f → Grows f g → IsClass f c → is_subclass g c d ≡ is_subclass f c d
  pub subtypes : (f g : State) (c d : ClassId) → AreSound f → Grows f g → IsClass f c → is_subtype g c d ≡ is_subtype f c d
  pub fields : (f g : State) (c : ClassId) (at : ℕ) → Grows f g → IsClass f c → field_id g c at ≡ field_id f c at
  pub methods : (f g : State) (c : ClassId) (at : ℕ) → Grows f g → IsClass f c → method_id g c at ≡ method_id f c at
  pub slots : (f g : State) → Grows f g → SlotsStay f g
  pub kept : (f g : State) (path : List ℕ) (what : Content) → Grows f g → kept_at f path ≡ Some what → kept_at g path ≡ Some what

-- ---- loading

-- the loader leads the name to a module whose loader has defined the class
abbrev pub IsLoadedAs : State → LoaderId → List ℕ → ClassId → Type 0
IsLoadedAs s l name c = (m : ModuleId) × (lead s.layers.loaders l name ≡ Some m) × (defined s (loader_of_module s m) name ≡ Some c)

-- each file is of bytes
abbrev pub AreBytes : List File → Type 0
AreBytes files = (f : File) → Contains files f → IsBytes f.bytes

-- Loading, and asking whether there is a file, add classes, notes and what was read alone, and what is loaded stays sound. A class that was loaded is loaded again by the same loader, in any later state, and nothing is added.
pub record LoadsStay : Type 0 where
  pub grows : (files : List File) (at : ℕ) (s : State) (l : LoaderId) (name : List ℕ) → GrowsInClasses s (load files at s l name).0
  pub sound : (files : List File) (at : ℕ) (s : State) (l : LoaderId) (name : List ℕ) → AreBytes files → AreSound s → AreSound (load files at s l name).0
  pub asks : (files : List File) (s : State) (l : LoaderId) (name : List ℕ) → GrowsInClasses s (has_file files s l name).0
  pub asks_sound : (files : List File) (s : State) (l : LoaderId) (name : List ℕ) → AreBytes files → AreSound s → AreSound (has_file files s l name).0
  pub loaded : (files : List File) (at : ℕ) (s : State) (l : LoaderId) (name : List ℕ) (c : ClassId) → (load files at s l name).1 ≡ Ok c → IsLoadedAs (load files at s l name).0 l name c
  pub again : (files : List File) (at : ℕ) (s : State) (l : LoaderId) (name : List ℕ) (c : ClassId) → IsLoadedAs s l name c → load files at s l name ≡ (s, Ok c)
  pub stays : (f g : State) (l : LoaderId) (name : List ℕ) (c : ClassId) → AreSound f → Grows f g → IsLoader f.layers.loaders l → IsLoadedAs f l name c → IsLoadedAs g l name c

-- A class that another one accessed, it accesses in any later state and at any step.
abbrev pub AccessStays : Type 0
AccessStays = (at bt : ℕ) (f g : State) (from to : Loaded) → Grows f g → (access at f from to).1 ≡ Ok tt → (access bt g from to).1 ≡ Ok tt

-- A number is that of one member.
pub record NumbersNameOneMember : Type 0 where
  pub fields : (s : State) (f : FieldId) (c d : ClassId) (at bt : ℕ) → IsFieldOf s f c at → IsFieldOf s f d bt → (c ≡ d) × (at ≡ bt)
  pub methods : (s : State) (m : MethodId) (c d : ClassId) (at bt : ℕ) → IsMethodOf s m c at → IsMethodOf s m d bt → (c ≡ d) × (at ≡ bt)

-- ---- files

-- what is kept of each path is what the path gives
abbrev pub AreTold : List File → State → Type 0
AreTold files s = (path : List ℕ) (what : Content) → kept_at s path ≡ Some what → what ≡ content_of (read_of files path most_file_bytes)

-- What is kept of files that do not change is what they give, so that it never changes an answer.
pub record FilesStay : Type 0 where
  pub starts : (files : List File) (l : layers.State) (cs : List Class) → AreTold files (begun l cs)
  pub loads : (files : List File) (at : ℕ) (s : State) (l : LoaderId) (name : List ℕ) → AreTold files s → AreTold files (load files at s l name).0
  pub asks : (files : List File) (s : State) (l : LoaderId) (name : List ℕ) → AreTold files s → AreTold files (has_file files s l name).0
  pub gives : (files : List File) (s : State) (path : List ℕ) → AreTold files s → content_at files s path ≡ content_of (read_of files path most_file_bytes)

-- No path is asked for twice, over any calls one behind the other.
pub record ReadOnce : Type 0 where
  pub none : (s : State) (asked : Option (List (List ℕ))) → Asks s s asked asked
  pub onward : (f g h : State) (a b c : Option (List (List ℕ))) → IsFront f.kept g.kept → IsFront g.kept h.kept → Asks f g a b → Asks g h b c → Asks f h a c
