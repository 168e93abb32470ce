-- What a world keeps holds on, whatever is noted, decided, or laid under it.
use Rattle.std.proofs.Common.{◌≡◌, ◌∙◌, ap, sym, arith, ◌<◌, ℕ, Some, List, [], ◌∷◌, length, inl, inr, refl, subst}
use Rattle.std.proofs.lemmas.Option.{none-some}
use Rattle.jl_prim.specs.declared.numbers.ClassId.{ClassId}
use Rattle.jl_prim.specs.declared.numbers.ModuleId.{ModuleId}
use Rattle.jl_access.specs.declared.report.Key.{Key}
use Rattle.std.specs.Prelude.{OnOk, OnErr, Result, Ok, Err}
use Rattle.jl_access.specs.Reports.{Line, noted}
use Rattle.jl_layer.specs.declared.layer.Member.{Member}
use Rattle.jl_layer.specs.Layers as layers
use Rattle.jl_layer.specs.Laws.{Grows}
use Rattle.jl_layer.specs.Sound.{AreSound, HasBase}
use Rattle.jl_layer.specs.declared.layer.Layer.{Layer}
use Rattle.jl_loads.specs.declared.class_key.ClassKey.{ClassKey}
use Rattle.jl_loads.specs.declared.slot.PoolSlot.{PoolSlot}
use Rattle.jl_loads.specs.Laws.{AreLaid}
use Rattle.jl_loads.specs.Worlds.{State, Loaded, Content, IsClass, bare, with_layers, with_note, with_slot}
use Rattle.jl_loads.specs.Whole.{IsWhole}
use Rattle.jl_loads.specs.declared.rank.Rank.{Rank}
use Rattle.jl_loads.proofs.Ranked.{ranked_none}
use Rattle.jl_loads.proofs.Beside.{sound_noted, sound_filled}
use Rattle.jl_loads.proofs.Soundness.{sound_start, sound_layered, module_loader}

-- nothing is loaded
pub whole_bare : (base : ModuleId) (l : layers.State) → AreLaid l → l.loaders.base ≡ Some base → IsWhole [] [] base (bare l)
whole_bare base l laid e = record { names = λ k. refl; sound = sound_start l laid; base = e; ranked = ranked_none }

-- a note is made
pub whole_noted : {ranks : List Rank} (entries : List (ClassKey × ClassId)) (base : ModuleId) (s : State) (key : Key) (at : ℕ) → IsWhole entries ranks base s → IsWhole entries ranks base (with_note key at s)
whole_noted entries base s key at w = record { names = w.names; sound = sound_noted s key at w.sound; base = w.base; ranked = w.ranked }

-- it is made, or nothing has changed
pub whole_report : {X E : Type 0} {ranks : List Rank} (entries : List (ClassKey × ClassId)) (base : ModuleId) (s : State) (key : Key) (at : ℕ) (r : Result X E) (report : List Line)
    → OnOk r (report ≡ noted key at s.report) → OnErr r (report ≡ s.report) → IsWhole entries ranks base s → IsWhole entries ranks base (record s { report = report })
whole_report {ranks = ranks} entries base s key at (Ok x) report h k w = subst (λ (lines : List Line). IsWhole entries ranks base (record s { report = lines })) (sym h) (whole_noted entries base s key at w)
whole_report {ranks = ranks} entries base s key at (Err x) report h k w = subst (λ (lines : List Line). IsWhole entries ranks base (record s { report = lines })) (sym k) w

-- a reference is decided
pub whole_filled : {ranks : List Rank} (entries : List (ClassKey × ClassId)) (base : ModuleId) (s : State) (c : ClassId) (i : ℕ) (x : PoolSlot) → IsClass s c → IsWhole entries ranks base s → IsWhole entries ranks base (with_slot c i x s)
whole_filled entries base s c i x there w = record { names = w.names; sound = sound_filled s c i x w.sound there; base = w.base; ranked = w.ranked }

-- nothing is loaded, part by part
pub whole_over : (entries : List (ClassKey × ClassId)) (ranks : List Rank) (base : ModuleId) (l : layers.State) (classes : List Loaded) (report : List Line) (slots : List (List PoolSlot)) (kept : List (List ℕ × Content))
    → AreLaid l → l.loaders.base ≡ Some base → entries ≡ [] → classes ≡ [] → report ≡ [] → slots ≡ [] → kept ≡ [] → ranks ≡ []
    → IsWhole entries ranks base (record { layers = l; classes = classes; report = report; slots = slots; kept = kept })
whole_over entries ranks base l classes report slots kept laid e none no_class no_line no_row no_file no_rank = rw (none, no_class, no_line, no_row, no_file, no_rank) (whole_bare base l laid e)

-- ---- layers that grow

a_member : (s : layers.State) (ls : List Layer) (base : ModuleId) → HasBase s ls → s.loaders.base ≡ Some base → (m : ModuleId) × (x : Member) × (layers.member_of s m ≡ Some x)
a_member s [] base h e = absurd (none-some base (sym h ∙ e))
a_member s (l ∷ ls) base h e = (h.0, h.1, h.4)

-- java.base is the same
base_stays : (s l : layers.State) (base : ModuleId) → AreSound s → s.loaders.base ≡ Some base → Grows s l → l.loaders.base ≡ s.loaders.base
base_stays s l base sound e grows = elim grows.loaders.base [
  | inl none ↦
      let m = a_member s s.layers base sound.base e in
      let there = module_loader s m.0 m.1 sound m.2 in
      absurd (omega (arith, there.0, there.1, ap length none))
  | inr same ↦ same
]

-- the layers have grown
pub whole_grows : {ranks : List Rank} (entries : List (ClassKey × ClassId)) (base : ModuleId) (s : State) (l : layers.State) → Grows s.layers l → AreLaid l → IsWhole entries ranks base s → IsWhole entries ranks base (with_layers l s)
whole_grows entries base s l grows laid w = record { names = w.names; sound = sound_layered s l w.sound grows laid; base = base_stays s.layers l base w.sound.modules w.base grows ∙ w.base; ranked = w.ranked }

boot_by : (s : layers.State) (ls : List Layer) (base : ModuleId) → HasBase s ls → s.loaders.base ≡ Some base → 0 < length ls
boot_by s [] base h e = absurd (none-some base (sym h ∙ e))
boot_by s (l ∷ ls) base h e = omega arith

-- where java.base is known, the boot layer is there
pub has_boot : (s : layers.State) (base : ModuleId) → AreSound s → s.loaders.base ≡ Some base → 0 < length s.layers
has_boot s base sound e = boot_by s s.layers base sound.base e
