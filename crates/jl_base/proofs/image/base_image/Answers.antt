use Rattle.std.proofs.Common.{List, map, IsTrue, sym, ap, subst, ◌∙◌}
use Rattle.std.specs.List.{list_all}
use Rattle.jl_base.specs.Base.{base_declaration}
use Rattle.jl_base.specs.Images.{class_of}
use Rattle.jl_base.specs.Laws.{IsBegin}
use Rattle.jl_base.specs.Ready.{is_ready}
use Rattle.jl_base.specs.Rows.{Row}
use Rattle.jl_base.proofs.Laws.{ready, begin}
use Rattle.jl_base.proofs.image.base_image.Goals as goal

pub classes-requires : goal.classes-requires
classes-requires c = subst (λ (rows : List Row). IsTrue (list_all is_ready rows)) (sym c.base_rows.ensures) ready

pub returns-clause-classes : goal.returns-clause-classes
returns-clause-classes c = c.in_ok-classes.ensures ∙ ap (map class_of) c.base_rows.ensures

pub returns-clause-begin : goal.returns-clause-begin
returns-clause-begin c = subst (IsBegin base_declaration.packages) (sym (c.in_ok-classes.ensures ∙ ap (map class_of) c.base_rows.ensures)) begin
