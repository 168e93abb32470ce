use Rattle.std.proofs.Common.{refl}
use Rattle.jl_optable.specs.Rows.{has_row, is_stub, operands_of}
use Rattle.jl_ops.specs.Decoding.{constant_of, kind_loaded, kind_stored, stack_row, int_row, long_row, other_row, array_row, leaving_row, test_of, letter_named, bare_row}
use Rattle.jl_ops.proofs.law.each_opcode_is_shared_out.Goals as goal

pub returns-clause-opcodes : goal.returns-clause-opcodes
unfolding has_row is_stub operands_of constant_of kind_loaded kind_stored stack_row int_row long_row other_row array_row leaving_row test_of letter_named bare_row
returns-clause-opcodes c = refl

pub returns-clause-types : goal.returns-clause-types
unfolding has_row is_stub operands_of constant_of kind_loaded kind_stored stack_row int_row long_row other_row array_row leaving_row test_of letter_named bare_row
returns-clause-types c = refl
