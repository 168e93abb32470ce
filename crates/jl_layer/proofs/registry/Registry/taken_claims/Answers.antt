use Rattle.std.proofs.Common.{◌<◌, ◌∙◌, ap, subst, length, get_or, List}
use Rattle.jl_config.specs.declared.configuration.Read.{Read}
use Rattle.jl_config.specs.Located.{configuration_of}
use Rattle.jl_layer.specs.Claims.{taken_of}
use Rattle.jl_layer.proofs.Steps.{flat_map_step}
use Rattle.jl_layer.proofs.registry.Registry.taken_claims.Goals as goal

pub loop-read-preserved : goal.loop-read-preserved
loop-read-preserved c = λ mode parent.
    let s = c.args.self.now in
    let rs : List Read = (configuration_of s.configurations c.args.cf).reads in
    let e = c.reads_in-read-items.ensures in
    let i = c.loop-read.read-index in
    let r = c.read-item.result in
    flat_map_step (taken_of s (record { config = c.args.cf; parents = c.args.parents.now; mode = mode; parent_loader = parent })) rs i r c.loop-read.claims.items c.push_taken.new.claims.items
    (subst (λ (l : List Read). i < length l) e c.loop-read-test.true) (c.read-item.is ∙ ap (λ (l : List Read). get_or l i r) e) (c.loop-read.invariant mode parent) (c.in_ok-push_taken.ensures mode parent)
