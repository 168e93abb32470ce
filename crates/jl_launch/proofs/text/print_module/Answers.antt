use Rattle.std.proofs.Common.{◌≡◌, ◌++◌, map, [], ◌∷◌, ◌∙◌, ap, Result, Ok, Err, OnOk}
use Rattle.std.proofs.lemmas.List.{map-append}
use Rattle.std.specs.String.{string_bytes}
use Rattle.jl_launch.specs.Text as lines
use Rattle.jl_launch.proofs.Windows.{module_printed}
use Rattle.jl_launch.proofs.text.print_module.Goals as goal

on_ok_then : {A E P Q : Type 0} (r : Result A E) → (P → Q) → OnOk r P → OnOk r Q
on_ok_then (Ok a) f p = f p
on_ok_then (Err e) f p = tt

pub returns : goal.returns
returns c =
    let mid : map string_bytes c.push.new.self.items ≡ map string_bytes c.args.printed.now.items ++ lines.module_line c.args.observed.now ∷ [] =
    ap (map string_bytes) c.in_ok-push.ensures.items ∙ map-append string_bytes c.args.printed.now.items (c.in_ok-module_line.field-0 ∷ [])
    ∙ ap (λ z. map string_bytes c.args.printed.now.items ++ z ∷ []) c.in_ok-module_line.ensures in
    on_ok_then c.print_reads.result
    (λ f. module_printed (map string_bytes c.args.printed.now.items) (map string_bytes c.print_reads.new.printed.items) (map string_bytes c.push.new.self.items)
    c.reads_of.result.now c.args.reads.now c.args.observed.now mid c.reads_of.ensures f)
    c.print_reads.ensures
