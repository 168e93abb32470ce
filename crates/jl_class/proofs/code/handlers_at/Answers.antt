use Rattle.jl_reading.specs.Reading.{each_at}
use Rattle.jl_classfile.proofs.Moved.{reads_from}
use Rattle.jl_class.specs.Faults.{told}
use Rattle.jl_class.specs.Reading.{handler_at, handlers_at}
use Rattle.std.proofs.Common.{[], refl}
use Rattle.jl_class.proofs.code.handlers_at.Goals as goal

pub returns : goal.returns
unfolding handlers_at
returns c =
    reads_from told (λ x. x) c.in_ok-count.place c.args.place c.each_handler.result (λ bytes. each_at (λ done. handler_at c.args.attribute bytes) [] c.in_ok-count.count) (handlers_at c.args.attribute)
    c.in_ok-count.ensures.0 (rw c.in_ok-count.ensures.1 refl) c.each_handler.ensures
