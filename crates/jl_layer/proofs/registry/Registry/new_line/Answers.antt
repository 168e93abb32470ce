use Rattle.std.proofs.Common.{◌≡◌, ◌+◌, ℕ, List, drop, get_or, sym, ◌∙◌, ap, arith}
use Rattle.std.proofs.lemmas.List.{drop_more, drop_all}
use Rattle.jl_prim.specs.declared.numbers.LayerId.{LayerId}
use Rattle.jl_layer.specs.declared.layer.Layer.{Layer}
use Rattle.jl_layer.specs.Lines.{above_in, with_layer, joined, kept_line}
use Rattle.jl_layer.proofs.LayerLines.{lines_join, above_none}
use Rattle.jl_layer.proofs.registry.Registry.new_line.Goals as goal

pub loop-parent-preserved : goal.loop-parent-preserved
loop-parent-preserved c =
    let i : ℕ = c.loop-parent.parent-index in
    let ps : List LayerId = c.args.parents.now in
    let p : LayerId = get_or ps i (record { 0 = 0 }) in
    let before : List LayerId = c.loop-parent.line.items in
    let layers : List Layer = c.args.self.now.layers in
    let is : c.push_all_absent.new.line.items ≡ joined (with_layer before p) (kept_line layers p) =
    c.in_ok-push_all_absent.ensures ∙ ap (λ (ls : List LayerId). joined ls c.line.result.now) c.in_ok-push_absent.ensures ∙ ap (joined (with_layer before p)) c.line.ensures in
    ap (λ (ls : List LayerId). joined ls (above_in layers (drop (i + 1) ps))) is
    ∙ sym (lines_join layers before (drop (i + 1) ps) p)
    ∙ sym (ap (λ (ks : List LayerId). joined before (above_in layers ks)) (drop_more ps i (record { 0 = 0 }) c.loop-parent-test.true))
    ∙ c.loop-parent.invariant

pub returns : goal.returns
returns c =
    let before : List LayerId = c.loop-parent.line.items in
    let layers : List Layer = c.args.self.now.layers in
    sym (ap (λ (ks : List LayerId). joined before (above_in layers ks)) (drop_all c.loop-parent.parent-index c.args.parents.now (omega arith)) ∙ ap (joined before) (above_none layers)) ∙ c.loop-parent.invariant
