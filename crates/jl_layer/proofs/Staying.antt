-- The law that layers stay, from that of loaders and that of facts.
use Rattle.std.proofs.Common.{List, ◌++◌, ◌∙◌, ap, append_assoc}
use Rattle.jl_logic.specs.Lists.{IsFront}
use Rattle.jl_loaders.specs.Laws.{LeadsStay}
use Rattle.jl_access.specs.Laws.{FactsStay}
use Rattle.jl_layer.specs.Layers.{State}
use Rattle.jl_layer.specs.Laws.{Grows, LayersStay}
use Rattle.jl_layer.proofs.Growing.{Extends, laid_out, find_kept, reads_kept, statements_kept}

pub front_onward : {X : Type 0} (xs ys zs : List X) → IsFront xs ys → IsFront ys zs → IsFront xs zs
front_onward {X} xs ys zs a b = (a.0 ++ b.0, b.1 ∙ ap (λ (l : List X). l ++ b.0) a.1 ∙ append_assoc xs a.0 b.0)

-- the part of a growth that layers see
pub extends : (f g : State) → Grows f g → Extends f g
extends f g h = record { configurations = h.configurations; layers = h.layers; modules = h.modules }

pub layers_stay_lem : LeadsStay → FactsStay → LayersStay
layers_stay_lem leads facts = record {
  onward = λ f g h a b. record {
    configurations = front_onward f.configurations g.configurations h.configurations a.configurations b.configurations;
    layers = front_onward f.layers g.layers h.layers a.layers b.layers;
    modules = front_onward f.modules g.modules h.modules a.modules b.modules;
    loaders = leads.onward f.loaders g.loaders h.loaders a.loaders b.loaders;
    facts = facts.onward f.facts g.facts h.facts a.facts b.facts;
  };
  finds = λ f g l name sound more there. find_kept f g (laid_out f sound) (extends f g more) l name there;
  reads = λ f g l sound more there. reads_kept f g (laid_out f sound) (extends f g more) l there;
  states = λ f g l sound more there. statements_kept f g (laid_out f sound) (extends f g more) l there;
  leads = λ f g l name sound more there. leads.leads f.loaders g.loaders l name sound.below more.loaders there;
}
