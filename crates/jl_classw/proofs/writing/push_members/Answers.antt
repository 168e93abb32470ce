use Rattle.std.proofs.Common.{◌∙◌, ap, ◌++◌, List}
use Rattle.jl_reading.specs.Reading.{counted}
use Rattle.jl_classfile.specs.Spelling.{attribute_bytes}
use Rattle.jl_class.specs.declared.member.FieldDecl.{FieldDecl}
use Rattle.jl_class.specs.declared.member.MethodDecl.{MethodDecl}
use Rattle.jl_class.specs.Spelling.{member_bytes}
use Rattle.jl_classw.specs.Writing.{field_member, method_member, nest_attributes}
use Rattle.jl_classw.proofs.BytesLaws.{three_pushed}
use Rattle.jl_classw.proofs.writing.push_members.Goals as goal

pub returns-clause-bytes : goal.returns-clause-bytes
returns-clause-bytes c =
    let old = c.args.bytes.now.items in
    let places = c.args.places.now in
    three_pushed c.push_nests.result old c.push_fields.new.bytes.items c.push_methods.new.bytes.items c.push_nests.new.bytes.items
    (counted (λ f. member_bytes (field_member places f)) c.args.c.now.fields) (counted (λ m. member_bytes (method_member places m)) c.args.c.now.methods) (counted attribute_bytes (nest_attributes places c.args.c.now))
    (c.in_ok-push_fields.ensures.bytes ∙ ap (λ (fs : List FieldDecl). old ++ counted (λ f. member_bytes (field_member places f)) fs) c.fields.ensures.fields)
    (c.in_ok-push_methods.ensures.bytes ∙ ap (λ (ms : List MethodDecl). c.push_fields.new.bytes.items ++ counted (λ m. member_bytes (method_member places m)) ms) c.methods.ensures.methods)
    c.push_nests.ensures.bytes
