use Rattle.std.proofs.Common.{◌++◌, Some}
use Rattle.jl_reading.specs.Reading.{two, counted}
use Rattle.jl_classfile.specs.Spelling.{attribute_bytes}
use Rattle.jl_classw.specs.Writing.{code_attribute, optional}
use Rattle.jl_classw.proofs.BytesLaws.{one_attribute, on_ok_as}
use Rattle.jl_classw.proofs.members.push_code.Goals as goal

pub returns-in-Some-clause-bytes : goal.returns-in-Some-clause-bytes
returns-in-Some-clause-bytes c =
    let a = code_attribute c.args.places.now c.in-Some.code in
    rw c.in-Some.is (on_ok_as c.push_code_attribute.result c.args.bytes.now.items c.push_code_attribute.new.bytes.items (two 1 ++ attribute_bytes a) (counted attribute_bytes (optional (code_attribute c.args.places.now) (Some c.in-Some.code))) (one_attribute a) c.push_code_attribute.ensures.bytes)
