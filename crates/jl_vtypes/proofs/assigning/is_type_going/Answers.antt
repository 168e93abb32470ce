use Rattle.std.proofs.Common.{◌≡◌, min, arith}
use Rattle.jl_names.specs.Descriptors.{brackets}
use Rattle.jl_vtypes.specs.Unanswered.{no_answer}
use Rattle.jl_vtypes.specs.Assignability.{type_goes, spelled}
use Rattle.jl_vtypes.proofs.Coming.{same_asks}
use Rattle.jl_vtypes.proofs.Elements.{as_whole, not_both, cut_at}
use Rattle.jl_vtypes.proofs.assigning.is_type_going.Goals as goal

pub range_from-requires : goal.range_from-requires
range_from-requires g c =
    let first = rw c.as_bytes.ensures.value at c.brackets.ensures.count in
    let common = c.min-common.ensures in
    λ _. cut_at c.min-common.result c.args.from.now c.utf8.from (omega arith)

pub range_from-requires-2 : goal.range_from-requires-2
range_from-requires-2 g c =
    let second = rw c.as_bytes-2.ensures.value at c.brackets-2.ensures.count in
    let common = c.min-common.ensures in
    λ _. cut_at c.min-common.result c.args.to.now c.utf8.to (omega arith)

pub is_base_going-requires : goal.is_base_going-requires
is_base_going-requires g c =
    let first = rw c.as_bytes.ensures.value at c.brackets.ensures.count in
    let second = rw c.as_bytes-2.ensures.value at c.brackets-2.ensures.count in
    let common : c.min-common.result ≡ min (brackets c.args.from.now) (brackets c.args.to.now) = rw (← first, ← second) c.min-common.ensures in
    rw (c.range_from.ensures.value, c.range_from-2.ensures.value) (not_both c.min-common.result c.args.from.now c.args.to.now common)

pub returns : goal.returns
returns g c =
    let first = rw c.as_bytes.ensures.value at c.brackets.ensures.count in
    let second = rw c.as_bytes-2.ensures.value at c.brackets-2.ensures.count in
    let common : c.min-common.result ≡ min (brackets c.args.from.now) (brackets c.args.to.now) = rw (← first, ← second) c.min-common.ensures in
    same_asks g.H.Hierarchy.step no_answer _ (type_goes (spelled c.args.from.now) (spelled c.args.to.now)) _ _ _
    (as_whole c.min-common.result c.args.from.now c.args.to.now common)
    (rw (c.range_from.ensures.value, c.range_from-2.ensures.value) at c.is_base_going.ensures)
