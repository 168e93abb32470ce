use Rattle.std.proofs.Common.{[], refl}
use Rattle.std.specs.Prelude.{codes}
use Rattle.std.proofs.lemmas.Bool.{ne_eqb}
use Rattle.jl_reading.specs.Reading.{each_at}
use Rattle.jl_pool.specs.Pool.{class_named}
use Rattle.jl_classfile.proofs.Moved.{reads_from}
use Rattle.jl_tables.specs.Faults.{told}
use Rattle.jl_tables.specs.Reading.{new_name_at, implementations_at}
use Rattle.jl_tables.proofs.provides.implementations_at.Goals as goal

pub returns : goal.returns
unfolding implementations_at
returns c =
    reads_from told (λ names. names) c.in_ok-count.next c.args.place c.each_name.result (λ bytes. each_at (new_name_at (codes "implementations") class_named c.args.pool.now bytes) [] c.in_ok-count.count) (implementations_at c.args.pool.now)
    c.in_ok-count.ensures.exact.0 (rw (c.in_ok-count.ensures.exact.1, ne_eqb c.in_ok-count.count 0 c.if-count-eq0.false) refl) c.each_name.ensures
