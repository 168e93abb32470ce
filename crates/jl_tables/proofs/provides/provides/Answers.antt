use Rattle.std.proofs.Common.{◌≡◌, ℕ, List, Ok, subst}
use Rattle.std.specs.Prelude.{codes}
use Rattle.std.proofs.lemmas.Result.{err_from_is_err_and}
use Rattle.jl_logic.specs.Answers.{Fails}
use Rattle.jl_pool.specs.Pool.{class_named}
use Rattle.jl_tables.specs.Faults.{told}
use Rattle.jl_tables.specs.Reading.{new_name_at, implementations_at, provides_at}
use Rattle.jl_tables.proofs.Later.{fails_first, fails_then}
use Rattle.jl_tables.proofs.provides.provides.Goals as goal

pub returns-in_err-implementations-clause-exact : goal.returns-in_err-implementations-clause-exact
unfolding provides_at
returns-in_err-implementations-clause-exact c =
    let p = err_from_is_err_and c.from_residual-in_err-implementations.result c.from_residual-in_err-implementations.ensures.1 in
    let pool = c.args.pool.now in
    let fault = c.in_err-implementations.field-0.0 in
    let service =
    subst (λ (names : List (List ℕ)). new_name_at (codes "provides") class_named pool c.args.place.bytes.now names c.args.place.at ≡ Ok (c.in_ok-service.service.now, c.in_ok-service.place.at)) c.names.ensures c.in_ok-service.ensures.exact.1 in
    let classes = subst (λ (bytes : List ℕ). Fails told fault (implementations_at pool bytes c.in_ok-service.place.at)) c.in_ok-service.ensures.exact.0 c.in_err-implementations.ensures in
    rw (p.1, p.2) (fails_then told fault _ _ _ service (fails_first told fault _ _ classes))
