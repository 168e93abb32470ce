use Rattle.std.proofs.Common.{refl}
use Rattle.jl_classw.proofs.BuiltLaws.{entry_kept}
use Rattle.jl_classw.proofs.builder.ClassBuilder.entry.Goals as goal

pub invariant_of-self-2 : goal.invariant_of-self-2
invariant_of-self-2 c =
    let b = c.self.inside in
    entry_kept (record { major = b.major; minor = 0; flags = b.flags; name = b.name; super_name = b.super_name; interfaces = b.interfaces.items; fields = b.fields; methods = b.methods; nest_host = b.nests.host; nest_members = b.nests.members; permits = b.nests.permits; pool = b.entries })
    b.entries c.new.result.items c.in_ok-added.added.items c.append.new.self c.in_ok-added.index c.args.entry
    c.self.invariant.1 c.requires.short c.in_ok-added.ensures.sound
    refl c.new.ensures.items c.in_ok-added.ensures.exact c.in_ok-append.ensures.ok
