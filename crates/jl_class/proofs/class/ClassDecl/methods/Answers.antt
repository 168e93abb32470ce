use Rattle.std.proofs.Common.{map, subst}
use Rattle.std.specs.List.{AllByRecursion}
use Rattle.jl_logic.specs.Lists.{AreDistinct}
use Rattle.jl_class.specs.Classes.{Class}
use Rattle.jl_class.specs.Meaning.{method_key}
use Rattle.jl_class.specs.Spelling.{IsRightMethod}
use Rattle.jl_class.proofs.MemberRights.{methods_right}
use Rattle.jl_class.proofs.class.ClassDecl.methods.Goals as goal

pub returns-clause-right : goal.returns-clause-right
returns-clause-right c = subst (λ (k : Class). AllByRecursion IsRightMethod k.methods) c.self.view_is (methods_right c.self.invariant.0 _ c.self.invariant.1)

pub returns-clause-apart : goal.returns-clause-apart
returns-clause-apart c = subst (λ (k : Class). AreDistinct (map method_key k.methods)) c.self.view_is c.self.invariant.1.declares.methods.distinct
