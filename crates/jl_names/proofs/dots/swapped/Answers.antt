use Rattle.std.specs.String.{string_bytes}
use Rattle.jl_names.proofs.Swaps.{swapped_on}
use Rattle.jl_names.proofs.dots.swapped.Goals as goal

pub loop-character-preserved : goal.loop-character-preserved
loop-character-preserved c =
    swapped_on c.args.from c.args.to c.requires.from c.requires.to (string_bytes c.loop-character.other) (string_bytes c.push.new.self) _ _ _ c.in-Some.character c.swap.result
    c.loop-character.invariant c.in-Some.ensures.steps.0 c.swap.ensures c.in_ok-push.ensures.bytes
