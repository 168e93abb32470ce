use Rattle.std.proofs.Common.{◌∙◌, sym, ap, subst, Err}
use Rattle.jl_loads.specs.Ends.{Leaves}
use Rattle.jl_link.specs.References.{class_by_name, is_array}
use Rattle.jl_link.proofs.Reaching.{array_named, text_end}
use Rattle.jl_link.proofs.arrays.class_by_text.Goals as goal

pub returns-then-is_array-clause-names : goal.returns-then-is_array-clause-names
returns-then-is_array-clause-names g c = λ from there.
    array_named c.array_by_text.new.loads from c.args.text.now c.array_by_text.result (ap is_array (sym (c.as_bytes.ensures.value ∙ c.as_str.ensures)) ∙ sym c.is_array.ensures ∙ c.if-is_array.true) (c.array_by_text.ensures.names from there)

pub returns-in-Err-clause-finds : goal.returns-in-Err-clause-finds
returns-in-Err-clause-finds g c = λ files from told there.
    text_end files c.args.at c.args.loads.now from c.args.text.now c.in-Err.end c.class_by_name.new.loads (ap is_array (sym (c.as_bytes.ensures.value ∙ c.as_str.ensures)) ∙ sym c.is_array.ensures ∙ c.if-is_array.false)
    (subst (λ text. Leaves (class_by_name files c.args.at c.args.loads.now from text) (Err c.in-Err.end) c.class_by_name.new.loads) (c.as_bytes-else-is_array.ensures.value ∙ c.as_str-else-is_array.ensures) (c.in-Err.ensures.finds files from told there))
