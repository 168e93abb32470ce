use Rattle.std.proofs.Common.{sym, arith}
use Rattle.std.specs.Option.{option_copied}
use Rattle.jl_class.proofs.FileLaws.{whole_from, class_stands}
use Rattle.jl_class.proofs.reading.class.Goals as goal

pub from_parts-requires : goal.from_parts-requires
from_parts-requires c =
    let read = whole_from c.args.bytes.now c.start.result.bytes.now c.in_ok-version.place.bytes.now c.in_ok-pool.place.bytes.now c.in_ok-flags.place.bytes.now c.in_ok-name.place.bytes.now c.in_ok-super_name.place.bytes.now
    c.in_ok-interfaces.place.bytes.now c.in_ok-fields.place.bytes.now c.in_ok-methods.place.bytes.now c.in_ok-nests.place.bytes.now c.start.result.at
    c.in_ok-version.version c.in_ok-version.place.at c.in_ok-pool.pool c.in_ok-pool.place.at c.in_ok-flags.flags c.in_ok-flags.place.at c.in_ok-name.name.now c.in_ok-name.place.at
    (option_copied c.in_ok-super_name.super_name) c.in_ok-super_name.place.at c.in_ok-interfaces.interfaces c.in_ok-interfaces.place.at c.in_ok-fields.fields c.in_ok-fields.place.at c.in_ok-methods.methods c.in_ok-methods.place.at
    c.in_ok-nests.nests c.in_ok-nests.place.at
    c.start.ensures.bytes c.start.ensures.at c.in_ok-version.ensures.exact.0 c.in_ok-pool.ensures.0 c.in_ok-flags.ensures.0 c.in_ok-name.ensures.0 c.in_ok-super_name.ensures.0 c.in_ok-interfaces.ensures.0 c.in_ok-fields.ensures.0
    c.in_ok-methods.ensures.0 c.in_ok-nests.ensures.0
    c.in_ok-version.ensures.exact.1 c.in_ok-pool.ensures.1 c.in_ok-flags.ensures.1 c.in_ok-name.ensures.1 c.in_ok-super_name.ensures.1 c.in_ok-interfaces.ensures.1 (rw (sym c.is_interface.ensures) c.in_ok-fields.ensures.1)
    c.in_ok-methods.ensures.1 c.in_ok-nests.ensures.1 (c.is_end.ensures.0 c.if-not-is_end.false) in
    let declared = class_stands c.args.bytes.now _ (λ i. omega (arith, c.type_inv.bytes i)) read in
    (c.args.bytes.now, rw (c.in_ok-name-2.ensures, c.in_ok-super_name-2.ensures) declared)

pub returns : goal.returns
returns c =
    let read = whole_from c.args.bytes.now c.start.result.bytes.now c.in_ok-version.place.bytes.now c.in_ok-pool.place.bytes.now c.in_ok-flags.place.bytes.now c.in_ok-name.place.bytes.now c.in_ok-super_name.place.bytes.now
    c.in_ok-interfaces.place.bytes.now c.in_ok-fields.place.bytes.now c.in_ok-methods.place.bytes.now c.in_ok-nests.place.bytes.now c.start.result.at
    c.in_ok-version.version c.in_ok-version.place.at c.in_ok-pool.pool c.in_ok-pool.place.at c.in_ok-flags.flags c.in_ok-flags.place.at c.in_ok-name.name.now c.in_ok-name.place.at
    (option_copied c.in_ok-super_name.super_name) c.in_ok-super_name.place.at c.in_ok-interfaces.interfaces c.in_ok-interfaces.place.at c.in_ok-fields.fields c.in_ok-fields.place.at c.in_ok-methods.methods c.in_ok-methods.place.at
    c.in_ok-nests.nests c.in_ok-nests.place.at
    c.start.ensures.bytes c.start.ensures.at c.in_ok-version.ensures.exact.0 c.in_ok-pool.ensures.0 c.in_ok-flags.ensures.0 c.in_ok-name.ensures.0 c.in_ok-super_name.ensures.0 c.in_ok-interfaces.ensures.0 c.in_ok-fields.ensures.0
    c.in_ok-methods.ensures.0 c.in_ok-nests.ensures.0
    c.in_ok-version.ensures.exact.1 c.in_ok-pool.ensures.1 c.in_ok-flags.ensures.1 c.in_ok-name.ensures.1 c.in_ok-super_name.ensures.1 c.in_ok-interfaces.ensures.1 (rw (sym c.is_interface.ensures) c.in_ok-fields.ensures.1)
    c.in_ok-methods.ensures.1 c.in_ok-nests.ensures.1 (c.is_end.ensures.0 c.if-not-is_end.false) in
    rw (c.from_parts.ensures, c.in_ok-name-2.ensures, c.in_ok-super_name-2.ensures) read
