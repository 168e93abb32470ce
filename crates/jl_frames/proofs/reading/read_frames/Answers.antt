use Rattle.std.proofs.Common.{arith}
use Rattle.jl_reading.proofs.Whole.{found_in, only_in, fault_or_value}
use Rattle.jl_frames.specs.Reading.{told, frames_of}
use Rattle.jl_frames.specs.Grammar.{IsFrames}
use Rattle.jl_frames.specs.Fitting.{AreFitting}
use Rattle.jl_frames.proofs.FittingLaws.{frames_fit}
use Rattle.jl_frames.proofs.WholeLaws.{frames_found, frames_read}
use Rattle.jl_frames.proofs.reading.read_frames.Goals as goal

pub returns-clause-found : goal.returns-clause-found
returns-clause-found c = found_in (frames_of c.args.bytes.now) (IsFrames c.args.bytes.now) told (λ x. x.items) c.frames.result (λ fs e. frames_found c.args.bytes.now fs (λ i. omega (arith, c.type_inv.bytes i)) e) c.frames.ensures

pub returns-clause-fitting : goal.returns-clause-fitting
returns-clause-fitting c = found_in (frames_of c.args.bytes.now) AreFitting told (λ x. x.items) c.frames.result (λ fs e. frames_fit c.args.bytes.now fs (frames_found c.args.bytes.now fs (λ i. omega (arith, c.type_inv.bytes i)) e)) c.frames.ensures

pub returns-clause-only : goal.returns-clause-only
returns-clause-only c = only_in (frames_of c.args.bytes.now) (IsFrames c.args.bytes.now) told (λ x. x.items) c.frames.result (frames_read c.args.bytes.now) c.frames.ensures

pub returns-clause-one : goal.returns-clause-one
returns-clause-one c = fault_or_value (frames_of c.args.bytes.now) (IsFrames c.args.bytes.now) (λ fs e. frames_found c.args.bytes.now fs (λ i. omega (arith, c.type_inv.bytes i)) e) (frames_read c.args.bytes.now)
