use Rattle.std.proofs.Common.{◌≡◌, ◌∙◌, ◌++◌, ◌∷◌, [], ◌+◌, ◌≤◌, ap, ap₂, sym, subst, length, List, ℕ, arith}
use Rattle.std.specs.Prelude.{Contains}
use Rattle.std.proofs.lemmas.List.Elements.{All-contains}
use Rattle.jl_config.specs.Located.{configuration_of}
use Rattle.jl_prim.specs.declared.numbers.LayerId.{LayerId}
use Rattle.jl_layer.specs.declared.layer.Layer.{Layer}
use Rattle.jl_layer.specs.declared.layer.Member.{Member}
use Rattle.jl_layer.specs.Layers.{State, IsLayer}
use Rattle.jl_layer.specs.Lines.{above_in, joined, AreLines}
use Rattle.jl_layer.proofs.KeptLines.{more_lines}
use Rattle.jl_layer.specs.Defining.{Asked, new_layer, new_members, next_layer, module_numbers}
use Rattle.jl_layer.specs.Orderly.{AreOrderly}
use Rattle.jl_layer.proofs.Orderings.{still_orderly}
use Rattle.jl_layer.proofs.registry.Registry.admit.Goals as goal

pub invariant_of-self-2 : goal.invariant_of-self-2
invariant_of-self-2 c =
    let s : State = c.args.self.now in
    let q : Asked = record { config = c.args.cf; parents = c.args.parents.now; mode = c.args.mode; parent_loader = c.args.parent_loader } in
    let layers : List Layer = c.self.inside.layers.items in
    let ms : List Member = c.self.inside.modules.items in
    let os = (configuration_of s.configurations c.args.cf).modules in
    let as_layers : c.push_reserved.new.self.items ≡ layers ++ new_layer s q ∷ [] =
    c.push_reserved.ensures.items ∙ ap₂ (λ (ls : List Layer) (l : Layer). ls ++ l ∷ []) c.in_ok-reserve.ensures.items (c.in_ok-layer.ensures c.args.mode) in
    let as_modules : c.append.new.self.items ≡ ms ++ new_members s q = c.in_ok-append.ensures.items ∙ ap (λ (l : List Member). ms ++ l) c.in_ok-members.ensures in
    let long : length s.modules ≡ length ms = sym (ap (λ (w : State). length w.modules) c.self.view_is) in
    let orderly : AreOrderly (layers ++ new_layer s q ∷ []) (ms ++ new_members s q) =
    still_orderly ms c.args.mode (next_layer s) (length s.loaders.loaders + 1) os layers (new_layer s q) c.self.invariant.0 c.requires.rise (ap (λ (n : ℕ). module_numbers (n + 1) (length os)) long) in
    let kept : List (List LayerId) = c.self.inside.lines.items in
    let parents : List LayerId = c.args.parents.now in
    let same : s.layers ≡ layers = sym (ap (λ (w : State). w.layers) c.self.view_is) in
    let count : length s.layers ≡ length layers = ap (λ (ls : List Layer). length ls) same in
    let as_lines : c.push_reserved-2.new.self.items ≡ kept ++ joined (next_layer s ∷ []) (above_in layers parents) ∷ [] =
    c.push_reserved-2.ensures.items
    ∙ ap₂ (λ (ls : List (List LayerId)) (l : List LayerId). ls ++ l ∷ []) c.in_ok-reserve-2.ensures.items
    (c.from_vec.ensures ∙ c.in_ok-line.ensures ∙ ap (λ (ls : List Layer). joined (next_layer s ∷ []) (above_in ls parents)) same) in
    let there : (p : LayerId) → Contains parents p → p.0 ≤ length layers =
    λ p k. let le : p.0 ≤ length s.layers = All-contains (IsLayer s) parents p c.requires.parents k in omega arith in
    let lines : AreLines (layers ++ new_layer s q ∷ []) (kept ++ joined (next_layer s ∷ []) (above_in layers parents) ∷ []) =
    more_lines layers kept c.self.invariant.1 (new_layer s q) there (next_layer s) (omega arith) in (
      subst (λ (ls : List Layer). AreOrderly ls c.append.new.self.items) (sym as_layers) (subst (λ (l : List Member). AreOrderly (layers ++ new_layer s q ∷ []) l) (sym as_modules) orderly),
      subst (λ (ls : List Layer). AreLines ls c.push_reserved-2.new.self.items) (sym as_layers) (subst (λ (ls : List (List LayerId)). AreLines (layers ++ new_layer s q ∷ []) ls) (sym as_lines) lines),
    )

pub returns-clause-places : goal.returns-clause-places
returns-clause-places c =
    let s : State = c.args.self.now in
    let q : Asked = record { config = c.args.cf; parents = c.args.parents.now; mode = c.args.mode; parent_loader = c.args.parent_loader } in
    let layers : List Layer = c.self.inside.layers.items in
    let ms : List Member = c.self.inside.modules.items in
    let as_layers : c.push_reserved.new.self.items ≡ layers ++ new_layer s q ∷ [] =
    c.push_reserved.ensures.items ∙ ap₂ (λ (ls : List Layer) (l : Layer). ls ++ l ∷ []) c.in_ok-reserve.ensures.items (c.in_ok-layer.ensures c.args.mode) in
    let as_modules : c.append.new.self.items ≡ ms ++ new_members s q = c.in_ok-append.ensures.items ∙ ap (λ (l : List Member). ms ++ l) c.in_ok-members.ensures in
    ap₂ (λ (ls : List Layer) (l : List Member). let w : State = record { configurations = c.self.inside.configurations.items; layers = ls; modules = l; loaders = c.self.inside.loaders; facts = c.self.inside.facts } in w) as_layers as_modules
    ∙ ap (λ (v : State). let w : State = record { configurations = v.configurations; layers = v.layers ++ new_layer s q ∷ []; modules = v.modules ++ new_members s q; loaders = v.loaders; facts = v.facts } in w) c.self.view_is
