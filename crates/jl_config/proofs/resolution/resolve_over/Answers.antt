use Rattle.std.proofs.Common.{◌∙◌, ◌+◌, sym, ap, subst, Option, ℕ}
use Rattle.jl_prim.specs.declared.numbers.ConfigId.{ConfigId}
use Rattle.jl_config.specs.declared.fault.ResolveFault.{ResolveFault}
use Rattle.jl_config.specs.Settled.{StartsAt, Settles}
use Rattle.jl_config.proofs.Decided.{graph_resolves, justified_of}
use Rattle.jl_config.proofs.resolution.resolve_over.Goals as goal

abbrev numbered : ℕ → ConfigId
numbered n = record { 0 = n + 1 }

pub returns-clause-resolves : goal.returns-clause-resolves
returns-clause-resolves c = λ q same long given before.
    let w = c.args.scene.now in
    let g = c.in_ok-graph.graph in
    let early : StartsAt q 4 = subst (λ (o : Option ResolveFault). Settles q 4 o) c.in_default.is (c.in_ok-fault.ensures q same long before) in
    let late : StartsAt q 8 = subst (λ (o : Option ResolveFault). Settles q 8 o) c.in_default-2.is (c.in_ok-fault-2.ensures.settles q same early) in
    graph_resolves q w same c.in_ok-members.members.places.items c.in_ok-members.ensures.places g (c.in_ok-graph.ensures.number ∙ ap numbered (sym long)) (c.in_ok-graph.ensures.given ∙ sym given) c.in_ok-graph.ensures.modules c.in_ok-graph.ensures.reads late

pub returns-clause-justified : goal.returns-clause-justified
returns-clause-justified c = λ q same. justified_of q c.args.scene.now same c.in_ok-members.members.places.items c.in_ok-members.ensures.places c.in_ok-graph.graph c.in_ok-graph.ensures.modules
