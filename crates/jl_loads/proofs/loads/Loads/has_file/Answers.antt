use Rattle.std.proofs.Common.{◌∙◌, ap, sym}
use Rattle.jl_loaders.specs.Loaders.{lead}
use Rattle.jl_loads.proofs.KeptFiles.{file_led}
use Rattle.jl_loads.proofs.loads.Loads.has_file.Goals as goal

pub returns-in-Some-clause-answers : goal.returns-in-Some-clause-answers
returns-in-Some-clause-answers g c = λ files e.
    file_led files c.args.self.now c.has_file_in.new.self c.args.loader c.args.name.now c.in_ok-name.name c.in-Some.home c.has_file_in.result
    (sym c.in-Some.is ∙ c.lead.ensures.leads ∙ ap (lead c.args.self.now.layers.loaders c.args.loader) c.as_bytes.ensures) c.in_ok-name.ensures (c.has_file_in.ensures.answers files e)
