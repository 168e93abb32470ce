use Rattle.std.proofs.Common.{arith}
use Rattle.jl_reading.proofs.Whole.{found_in, only_in, fault_or_value}
use Rattle.jl_class.specs.Faults.{told}
use Rattle.jl_class.specs.Reading.{class_of}
use Rattle.jl_class.specs.Spelling.{IsClass}
use Rattle.jl_class.proofs.FileLaws.{class_stands, class_reads}
use Rattle.jl_class.proofs.reading.read_class.Goals as goal

pub returns-clause-found : goal.returns-clause-found
returns-clause-found c = found_in (class_of c.args.bytes.now) (IsClass c.args.bytes.now) told (λ d. d) c.class.result (λ d e. class_stands c.args.bytes.now d (λ i. omega (arith, c.type_inv.bytes i)) e) c.class.ensures

pub returns-clause-only : goal.returns-clause-only
returns-clause-only c = only_in (class_of c.args.bytes.now) (IsClass c.args.bytes.now) told (λ d. d) c.class.result (class_reads c.args.bytes.now) c.class.ensures

pub returns-clause-one : goal.returns-clause-one
returns-clause-one c = fault_or_value (class_of c.args.bytes.now) (IsClass c.args.bytes.now) (λ d e. class_stands c.args.bytes.now d (λ i. omega (arith, c.type_inv.bytes i)) e) (class_reads c.args.bytes.now)
