use Rattle.std.proofs.Common.{◌∙◌, sym, ap, subst}
use Rattle.std.specs.Option.{option_copied}
use Rattle.std.specs.Str.{IsUtf8}
use Rattle.jl_names.specs.Descriptors.{IsDescriptor, class_in}
use Rattle.jl_names.specs.declared.types.Descriptor.TheVariants as descriptors
use Rattle.jl_link.proofs.Reaching.{element_utf8}
use Rattle.jl_link.proofs.arrays.array_by_text.Goals as goal

pub array_of-requires-clause-text : goal.array_of-requires-clause-text
array_of-requires-clause-text g c =
    let first = c.as_bytes.ensures.value ∙ c.as_str.ensures in
    let found = subst (λ text. IsDescriptor text (descriptors.Field c.in-Ok-Field.t)) first (rw c.in-Ok-Field.field-0-is at c.in-Ok-Field.ensures.found) in
    let named = ap (λ text. class_in text c.in-Ok-Field.t) (sym (c.as_bytes-in-Ok-Field.ensures.value ∙ c.as_str-in-Ok-Field.ensures)) ∙ sym c.class_in.ensures ∙ ap option_copied c.in-Some.is in
    element_utf8 c.args.text.now c.in-Ok-Field.t c.in-Some.name.now (subst IsUtf8 c.as_str.ensures c.as_str.utf8) found named
