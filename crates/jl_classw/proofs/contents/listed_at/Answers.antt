use Rattle.jl_reading.specs.Reading.{each_at}
use Rattle.jl_classfile.proofs.Moved.{reads_from}
use Rattle.jl_pool.specs.Pool.{class_named}
use Rattle.jl_class.specs.Faults.{told}
use Rattle.jl_class.specs.Reading.{named_in, listed_at}
use Rattle.std.proofs.Common.{[], refl}
use Rattle.jl_classw.proofs.contents.listed_at.Goals as goal

pub returns : goal.returns
unfolding listed_at
returns c =
    reads_from told (λ x. x) c.in_ok-count.place c.args.place c.each_class.result (λ bytes. each_at (λ done. named_in 0 (class_named c.args.pool.now) bytes) [] c.in_ok-count.count) (listed_at c.args.pool.now 0)
    c.in_ok-count.ensures.0 (rw c.in_ok-count.ensures.1 refl) c.each_class.ensures
