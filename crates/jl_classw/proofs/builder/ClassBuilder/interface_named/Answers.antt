use Rattle.std.proofs.Common.{refl, ◌<◌, arith, length}
use Rattle.jl_classw.proofs.BuiltLaws.{interface_kept}
use Rattle.jl_classw.proofs.builder.ClassBuilder.interface_named.Goals as goal

pub invariant_of-self-2 : goal.invariant_of-self-2
invariant_of-self-2 c =
    let b = c.self.inside in
    let room : length b.interfaces.items < 65535 = grind arith in
    interface_kept (record { major = b.major; minor = 0; flags = b.flags; name = b.name; super_name = b.super_name; interfaces = b.interfaces.items; fields = b.fields; methods = b.methods; nest_host = b.nests.host; nest_members = b.nests.members; permits = b.nests.permits; pool = b.entries })
    b.entries c.new.result.items c.in_ok-added.added.items c.put.new.entries c.in_ok-added.field-0-1 c.in_ok-row.row c.args.name.now c.put.new.rows.items
    c.self.invariant.1 c.requires.name c.in_ok-added.ensures.utf8 c.requires.short room
    refl c.new.ensures.items c.in_ok-added.ensures.exact c.in_ok-row.ensures c.in_ok-put.ensures.rows c.in_ok-put.ensures.entries
