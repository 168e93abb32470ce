use Rattle.std.proofs.Common.{◌∙◌, ap, ◌++◌, List, ℕ}
use Rattle.jl_reading.specs.Reading.{two}
use Rattle.jl_classw.proofs.NestsWritten.{classes_pushed}
use Rattle.jl_classw.proofs.nests.push_classes_attribute.Goals as goal

pub returns-clause-bytes : goal.returns-clause-bytes
returns-clause-bytes c =
    classes_pushed c.push_classes.result c.args.places.now c.args.form c.args.names.now c.args.bytes.now.items c.push_u16.new.bytes.items c.push_u32.new.bytes.items c.push_classes.new.bytes.items
    (c.in_ok-push_u16.ensures.bytes ∙ ap (λ (n : ℕ). c.args.bytes.now.items ++ two n) c.attribute.ensures) c.in_ok-push_u32.ensures.bytes c.push_classes.ensures.bytes
