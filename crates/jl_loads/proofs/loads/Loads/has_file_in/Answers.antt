use Rattle.std.proofs.Common.{◌≡◌, ◌∙◌, sym}
use Rattle.jl_loads.specs.Loading.{has_file_in, is_there}
use Rattle.jl_loads.proofs.KeptFiles.{if_ok_map, there_told}
use Rattle.jl_loads.proofs.loads.Loads.has_file_in.Goals as goal

pub returns-clause-answers : goal.returns-clause-answers
returns-clause-answers g c = λ files e.
    if_ok_map (λ b. b ≡ is_there c.kept_of.result.now) (λ b. (c.keep_file.new.self, b) ≡ has_file_in files c.args.self.now c.args.name.now c.args.home) c.is_there.result
    (λ b. there_told files c.args.self.now c.keep_file.new.self c.args.home c.args.name.now c.in_ok-path.path c.kept_of.result.now b
    (sym c.is_base.ensures ∙ c.if-is_base.false) c.in_ok-path.ensures (c.in_ok-keep_file.ensures.file files e) c.kept_of.ensures)
    c.is_there.ensures.there
