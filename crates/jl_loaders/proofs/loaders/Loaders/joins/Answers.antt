use Rattle.std.proofs.Common.{subst, arith}
use Rattle.std.specs.Prelude.{Contains}
use Rattle.jl_loaders.proofs.loaders.Loaders.joins.Goals as goal

pub joins_of-requires : goal.joins_of-requires
joins_of-requires c = λ k there.
    let r = c.self.invariant.0.named k (subst (λ cs. Contains cs k) c.as_slice.ensures.value there) in
    ((r.0.0, omega (arith, r.0.1)), (r.1.0, omega (arith, r.1.1)))
