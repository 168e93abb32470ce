use Rattle.std.proofs.Common.{◌≡◌, ℕ, List, Ok, subst, ◌∙◌}
use Rattle.std.specs.Prelude.{codes}
use Rattle.std.proofs.lemmas.Result.{err_from_is_err_and}
use Rattle.jl_logic.specs.Answers.{Fails}
use Rattle.jl_reading.specs.Reading.{number_at}
use Rattle.jl_tables.specs.Faults.{short, told}
use Rattle.jl_tables.specs.Meaning.{module_named}
use Rattle.jl_tables.specs.Reading.{new_name_at, version_at, requires_at}
use Rattle.jl_tables.proofs.Later.{fails_first, fails_then}
use Rattle.jl_tables.proofs.required.requires_entry.Goals as goal

pub returns-in_err-_version-clause-exact : goal.returns-in_err-_version-clause-exact
unfolding requires_at
returns-in_err-_version-clause-exact c =
    let p = err_from_is_err_and c.from_residual-in_err-_version.result c.from_residual-in_err-_version.ensures.1 in
    let pool = c.args.pool.now in
    let fault = c.in_err-_version.field-0.0 in
    let name =
    subst (λ (names : List (List ℕ)). new_name_at (codes "requires") module_named pool c.args.place.bytes.now names c.args.place.at ≡ Ok (c.in_ok-name.name.now, c.in_ok-name.place.at)) c.names.ensures c.in_ok-name.ensures.exact.1 in
    let flags = subst (λ (bytes : List ℕ). number_at short 2 bytes c.in_ok-name.place.at ≡ Ok (c.in_ok-flags.flags, c.in_ok-flags.place.at)) c.in_ok-name.ensures.exact.0 c.in_ok-flags.ensures.exact.1 in
    let version = subst (λ (bytes : List ℕ). Fails told fault (version_at pool bytes c.in_ok-flags.place.at)) (c.in_ok-flags.ensures.exact.0 ∙ c.in_ok-name.ensures.exact.0) c.in_err-_version.ensures in
    rw (p.1, p.2) (fails_then told fault _ _ _ name (fails_then told fault _ _ _ flags (fails_first told fault _ _ version)))
