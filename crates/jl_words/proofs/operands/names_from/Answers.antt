use Rattle.std.proofs.Common.{sym}
use Rattle.std.specs.String.{string_bytes}
use Rattle.jl_words.proofs.Placing.{slice_mapped}
use Rattle.jl_words.proofs.operands.names_from.Goals as goal

pub returns : goal.returns
returns c = rw (sym (slice_mapped string_bytes c.args.at c.args.words.now)) c.names_of.ensures
