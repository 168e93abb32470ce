use Rattle.jl_modinfo.proofs.KeptLaws as kept
use Rattle.jl_modinfo.proofs.law.files_keep_rules.Goals as goal

pub returns : goal.returns
returns c = kept.files_keep_rules
