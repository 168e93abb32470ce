use Rattle.std.proofs.Common.{refl}
use Rattle.jl_classw.proofs.NestsGiven.{named_kept}
use Rattle.jl_classw.proofs.builder.ClassBuilder.named.Goals as goal

pub invariant_of-self-2 : goal.invariant_of-self-2
invariant_of-self-2 c =
    let b = c.self.inside in
    named_kept (record { major = b.major; minor = 0; flags = b.flags; name = b.name; super_name = b.super_name; interfaces = b.interfaces.items; fields = b.fields; methods = b.methods; nest_host = b.nests.host; nest_members = b.nests.members; permits = b.nests.permits; pool = b.entries })
    b.entries c.in_ok-added.added.items c.append.new.self c.args.form c.self.invariant.1 refl c.in_ok-added.ensures.exact c.in_ok-append.ensures.ok
