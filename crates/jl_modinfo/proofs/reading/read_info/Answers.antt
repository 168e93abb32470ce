use Rattle.std.proofs.Common.{arith}
use Rattle.jl_reading.proofs.Whole.{found_in, only_in, fault_or_value}
use Rattle.jl_tables.specs.Faults.{told}
use Rattle.jl_modinfo.specs.Info.{IsInfo}
use Rattle.jl_modinfo.specs.Reading.{info_of}
use Rattle.jl_modinfo.proofs.FileLaws.{info_stands, info_reads}
use Rattle.jl_modinfo.proofs.reading.read_info.Goals as goal

pub returns-clause-found : goal.returns-clause-found
returns-clause-found c =
    found_in (info_of c.args.bytes.now c.args.found.now) (IsInfo c.args.bytes.now c.args.found.now) told (λ d. d) c.info.result (λ d e. info_stands c.args.bytes.now c.args.found.now d (λ i. omega (arith, c.type_inv.bytes i)) e) c.info.ensures

pub returns-clause-only : goal.returns-clause-only
returns-clause-only c =
    only_in (info_of c.args.bytes.now c.args.found.now) (IsInfo c.args.bytes.now c.args.found.now) told (λ d. d) c.info.result (info_reads c.args.bytes.now c.args.found.now) c.info.ensures

pub returns-clause-one : goal.returns-clause-one
returns-clause-one c =
    fault_or_value (info_of c.args.bytes.now c.args.found.now) (IsInfo c.args.bytes.now c.args.found.now) (λ d e. info_stands c.args.bytes.now c.args.found.now d (λ i. omega (arith, c.type_inv.bytes i)) e) (info_reads c.args.bytes.now c.args.found.now)
