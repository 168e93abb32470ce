use Rattle.std.proofs.Common.{◌<◌, ◌∙◌, ◌++◌, ap, subst, length, get_or, List, Option}
use Rattle.std.specs.Option.{option_to_list}
use Rattle.jl_prim.specs.declared.numbers.ModuleId.{ModuleId}
use Rattle.jl_config.specs.declared.configuration.Read.{Read}
use Rattle.jl_config.specs.Located.{configuration_of}
use Rattle.jl_prim.specs.declared.numbers.ConfigId.{ConfigId}
use Rattle.jl_layer.specs.Layers.{configuration_at}
use Rattle.jl_layer.specs.Meaning.{read_pair}
use Rattle.jl_layer.proofs.Steps.{filter_map_step}
use Rattle.jl_layer.proofs.registry.Registry.reads_of.Goals as goal

pub loop-read-preserved : goal.loop-read-preserved
loop-read-preserved c =
    let s = c.args.self.now in
    let e = c.reads_in-reads.ensures ∙ ap (λ (k : ConfigId). (configuration_of s.configurations k).reads) c.config_of.ensures in
    filter_map_step (read_pair s c.args.l) (configuration_at s c.args.l).reads c.loop-read.read-index c.read-item.result c.loop-read.pairs.items c.push_some.new.pairs.items
    (subst (λ (l : List Read). c.loop-read.read-index < length l) e c.loop-read-test.true) (c.read-item.is ∙ ap (λ (l : List Read). get_or l c.loop-read.read-index c.read-item.result) e)
    c.loop-read.invariant (c.in_ok-push_some.ensures ∙ ap (λ (o : Option (ModuleId × ModuleId)). c.loop-read.pairs.items ++ option_to_list o) c.read_pair.ensures)
