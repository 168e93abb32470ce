use Rattle.std.proofs.Common.{◌≡◌, ◌++◌, map, length, IsTrue}
use Rattle.std.specs.List.{list_all}
use Rattle.jl_base.specs.Rows.{row_of}
use Rattle.jl_base.specs.Images.{class_of}
use Rattle.jl_base.specs.Ready.{is_ready}
use Rattle.jl_base.proofs.image.push_classes.Given as goal

abbrev pub invariant-loop-rest : goal.invariant-loop-rest
invariant-loop-rest l = record {
  made : l.classes.items ++ map class_of (map row_of l.rest) ≡ l.fn.classes.items ++ map class_of (map row_of l.rows);
  right : IsTrue (list_all is_ready (map row_of l.rest));
}

abbrev pub decreases-loop-rest : goal.decreases-loop-rest
decreases-loop-rest l = length l.rest
