use Rattle.std.proofs.Common.{map, subst}
use Rattle.std.specs.List.{AllByRecursion}
use Rattle.jl_logic.specs.Lists.{AreDistinct}
use Rattle.jl_class.specs.Classes.{Class}
use Rattle.jl_class.specs.Meaning.{is_interface, field_key}
use Rattle.jl_class.specs.Spelling.{IsRightField}
use Rattle.jl_class.proofs.MemberRights.{fields_right}
use Rattle.jl_class.proofs.class.ClassDecl.fields.Goals as goal

pub returns-clause-right : goal.returns-clause-right
returns-clause-right c = subst (λ (k : Class). AllByRecursion (IsRightField (is_interface k.flags) k.pool) k.fields) c.self.view_is (fields_right c.self.invariant.0 _ c.self.invariant.1)

pub returns-clause-apart : goal.returns-clause-apart
returns-clause-apart c = subst (λ (k : Class). AreDistinct (map field_key k.fields)) c.self.view_is c.self.invariant.1.declares.fields.distinct
