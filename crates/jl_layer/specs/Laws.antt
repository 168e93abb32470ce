-- Laws of layers: what is there stays, and a lead is one by the declarations (`ModuleLayer`; JVMS 5.3).
use Rattle.std.specs.Prelude.{◌≡◌, ◌↔◌, ℕ, List, Some}
use Rattle.jl_logic.specs.Lists.{IsFront}
use Rattle.jl_prim.specs.declared.numbers.LayerId.{LayerId}
use Rattle.jl_prim.specs.declared.numbers.LoaderId.{LoaderId}
use Rattle.jl_prim.specs.declared.numbers.ModuleId.{ModuleId}
use Rattle.jl_loaders.specs.Loaders as delegation
use Rattle.jl_loaders.specs.Laws as delegation_laws
use Rattle.jl_access.specs.Facts as access
use Rattle.jl_layer.specs.Layers.{State, IsLayer, find_module}
use Rattle.jl_layer.specs.Meaning.{reads_of, statements_of}
use Rattle.jl_layer.specs.Leads.{Leads}
use Rattle.jl_layer.specs.Sound.{AreSound}

-- What is there stays, and more comes behind it.
pub record Grows (old new : State) : Type 0 where
  pub configurations : IsFront old.configurations new.configurations
  pub layers : IsFront old.layers new.layers
  pub modules : IsFront old.modules new.modules
  pub loaders : delegation_laws.Grows old.loaders new.loaders
  pub facts : access.Grows old.facts new.facts

-- A loader leads where the declarations of the layers and what their modules read lead, and nowhere else.
abbrev pub LeadsByLayers : State → Type 0
LeadsByLayers s = (l : LoaderId) (name : List ℕ) (m : ModuleId) → delegation.IsLoader s.loaders l
    → (delegation.lead s.loaders l name ≡ Some m) ↔ Leads s l name m

-- Whatever is kept, defined or added: a layer finds the modules that it found, its modules read those that they read and state what they stated, and its loaders lead where they led.
pub record LayersStay : Type 0 where
  pub onward : (f g h : State) → Grows f g → Grows g h → Grows f h
  pub finds : (f g : State) (l : LayerId) (name : List ℕ) → AreSound f → Grows f g → IsLayer f l → find_module g l name ≡ find_module f l name
  pub reads : (f g : State) (l : LayerId) → AreSound f → Grows f g → IsLayer f l → reads_of g l ≡ reads_of f l
  pub states : (f g : State) (l : LayerId) → AreSound f → Grows f g → IsLayer f l → statements_of g l ≡ statements_of f l
  pub leads : (f g : State) (l : LoaderId) (name : List ℕ) → delegation_laws.AreSound f.loaders → Grows f g → delegation.IsLoader f.loaders l → delegation.lead g.loaders l name ≡ delegation.lead f.loaders l name
