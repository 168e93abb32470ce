use Rattle.std.proofs.Common.{◌≡◌, ◌+◌, ◌<◌, ℕ, length, List, drop, get_or, Option, Some, None, Bool, cond, sym, ◌∙◌, ap, ap₂, arith}
use Rattle.std.specs.Option.{option_or}
use Rattle.std.proofs.lemmas.List.{drop_more, drop_all}
use Rattle.jl_prim.specs.declared.numbers.LayerId.{LayerId}
use Rattle.jl_layer.specs.Layers.{State, above, first_given}
use Rattle.jl_layer.specs.Lines.{kept_line}
use Rattle.jl_layer.specs.Meaning.{is_layer_of}
use Rattle.jl_layer.specs.Orderly.{if_passes}
use Rattle.jl_layer.proofs.LayerLines.{first_along, first_nowhere}
use Rattle.jl_layer.proofs.registry.Registry.layer_along.Goals as goal

-- what is given along the layers from a place on
step : (f : LayerId → Option LayerId) (s : State) (ls : List LayerId) (i : ℕ) (d : LayerId) → i < length ls
    → first_given f (above s (drop i ls)) ≡ option_or (option_or (f (get_or ls i d)) (first_given f (kept_line s.layers (get_or ls i d)))) (first_given f (above s (drop (i + 1) ls)))
step f s ls i d lt = ap (λ (ks : List LayerId). first_given f (above s ks)) (drop_more ls i d lt) ∙ first_along f s (get_or ls i d) (drop (i + 1) ls)

pub returns-then-is_layer_of : goal.returns-then-is_layer_of
returns-then-is_layer_of c =
    let f : LayerId → Option LayerId = if_passes (is_layer_of c.args.self.now c.args.config) in
    let i : ℕ = c.loop-layer.layer-index in
    let ls : List LayerId = c.args.layers.now in
    let p : LayerId = get_or ls i (record { 0 = 0 }) in
    let rest : Option LayerId = first_given f (above c.args.self.now (drop (i + 1) ls)) in
    let kept : Option LayerId = first_given f (kept_line c.args.self.now.layers p) in
    let here : f p ≡ Some p = ap (λ (b : Bool). cond b (Some p) None) (sym c.is_layer_of.ensures ∙ c.if-is_layer_of.true) in
    sym (ap (λ (o : Option LayerId). option_or (option_or o kept) rest) here) ∙ sym (step f c.args.self.now ls i (record { 0 = 0 }) c.loop-layer-test.true) ∙ c.loop-layer.invariant

pub returns-in-Some : goal.returns-in-Some
returns-in-Some c =
    let f : LayerId → Option LayerId = if_passes (is_layer_of c.args.self.now c.args.config) in
    let i : ℕ = c.loop-layer.layer-index in
    let ls : List LayerId = c.args.layers.now in
    let p : LayerId = get_or ls i (record { 0 = 0 }) in
    let rest : Option LayerId = first_given f (above c.args.self.now (drop (i + 1) ls)) in
    let kept : Option LayerId = first_given f (kept_line c.args.self.now.layers p) in
    let here : f p ≡ None = ap (λ (b : Bool). cond b (Some p) None) (sym c.is_layer_of.ensures ∙ c.if-is_layer_of.false) in
    let along : kept ≡ Some c.in-Some.l = sym (c.first_of.ensures ∙ ap (first_given f) c.line.ensures) ∙ c.in-Some.is in
    sym (ap₂ (λ (o k : Option LayerId). option_or (option_or o k) rest) here along) ∙ sym (step f c.args.self.now ls i (record { 0 = 0 }) c.loop-layer-test.true) ∙ c.loop-layer.invariant

pub loop-layer-preserved : goal.loop-layer-preserved
loop-layer-preserved c =
    let f : LayerId → Option LayerId = if_passes (is_layer_of c.args.self.now c.args.config) in
    let i : ℕ = c.loop-layer.layer-index in
    let ls : List LayerId = c.args.layers.now in
    let p : LayerId = get_or ls i (record { 0 = 0 }) in
    let rest : Option LayerId = first_given f (above c.args.self.now (drop (i + 1) ls)) in
    let kept : Option LayerId = first_given f (kept_line c.args.self.now.layers p) in
    let here : f p ≡ None = ap (λ (b : Bool). cond b (Some p) None) (sym c.is_layer_of.ensures ∙ c.if-is_layer_of.false) in
    let along : kept ≡ None = sym (c.first_of.ensures ∙ ap (first_given f) c.line.ensures) ∙ c.in_default.is in
    sym (ap₂ (λ (o k : Option LayerId). option_or (option_or o k) rest) here along) ∙ sym (step f c.args.self.now ls i (record { 0 = 0 }) c.loop-layer-test.true) ∙ c.loop-layer.invariant

pub returns : goal.returns
returns c =
    let f : LayerId → Option LayerId = if_passes (is_layer_of c.args.self.now c.args.config) in
    sym (ap (λ (ks : List LayerId). first_given f (above c.args.self.now ks)) (drop_all c.loop-layer.layer-index c.args.layers.now (omega arith)) ∙ first_nowhere f c.args.self.now) ∙ c.loop-layer.invariant
