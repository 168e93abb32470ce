use Rattle.jl_link.proofs.Listed.{decided_filled, decided_listed, decided_rises, decided_slot}
use Rattle.jl_link.proofs.law.decided_is_listed.Goals as goal

pub returns : goal.returns
returns c = record { listed = decided_listed; slot = decided_slot; filled = decided_filled; rises = decided_rises }
