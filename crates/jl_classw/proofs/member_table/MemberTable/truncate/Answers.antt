use Rattle.jl_classw.proofs.HintLaws.{found_taken}
use Rattle.jl_classw.proofs.member_table.MemberTable.truncate.Goals as goal

pub invariant_of-self : goal.invariant_of-self
invariant_of-self g c = found_taken g.T.Member.key c.self.inside.places c.self.inside.members.items c.truncate.new.self.items c.args.count c.self.invariant c.truncate.ensures.items
