use Rattle.std.proofs.Common.{arith}
use Rattle.jl_reading.proofs.Whole.{found_in, only_in, fault_or_value}
use Rattle.jl_code.specs.Told.{told}
use Rattle.jl_code.specs.Decoding.{code_of}
use Rattle.jl_code.specs.Spelling.{IsCode}
use Rattle.jl_code.specs.Sound.{IsSound}
use Rattle.jl_code.proofs.SoundLaws.{code_sound}
use Rattle.jl_code.proofs.CodeLaws.{code_found, code_only}
use Rattle.jl_code.proofs.decoding.decode.Goals as goal

pub returns-clause-found : goal.returns-clause-found
returns-clause-found c = found_in (code_of c.args.pool.now c.args.desc.now c.args.code.now c.args.handlers.now) (IsCode c.args.pool.now c.args.desc.now c.args.code.now c.args.handlers.now) told (λ k. k) c.decoded.result
    (λ k e. code_found c.args.pool.now c.args.desc.now c.args.code.now c.args.handlers.now k (λ i. omega (arith, c.type_inv.code i)) e) c.decoded.ensures

pub returns-clause-sound : goal.returns-clause-sound
returns-clause-sound c = found_in (code_of c.args.pool.now c.args.desc.now c.args.code.now c.args.handlers.now) (IsSound c.args.pool.now c.args.desc.now c.args.code.now c.args.handlers.now) told (λ k. k) c.decoded.result
    (λ k e. code_sound c.args.pool.now c.args.desc.now c.args.code.now c.args.handlers.now k (code_found c.args.pool.now c.args.desc.now c.args.code.now c.args.handlers.now k (λ i. omega (arith, c.type_inv.code i)) e)) c.decoded.ensures

pub returns-clause-only : goal.returns-clause-only
returns-clause-only c = only_in (code_of c.args.pool.now c.args.desc.now c.args.code.now c.args.handlers.now) (IsCode c.args.pool.now c.args.desc.now c.args.code.now c.args.handlers.now) told (λ k. k) c.decoded.result
    (code_only c.args.pool.now c.args.desc.now c.args.code.now c.args.handlers.now) c.decoded.ensures

pub returns-clause-one : goal.returns-clause-one
returns-clause-one c = fault_or_value (code_of c.args.pool.now c.args.desc.now c.args.code.now c.args.handlers.now) (IsCode c.args.pool.now c.args.desc.now c.args.code.now c.args.handlers.now)
    (λ k e. code_found c.args.pool.now c.args.desc.now c.args.code.now c.args.handlers.now k (λ i. omega (arith, c.type_inv.code i)) e) (code_only c.args.pool.now c.args.desc.now c.args.code.now c.args.handlers.now)
