use Rattle.std.proofs.Common.{◌∙◌, ap, subst, sym}
use Rattle.jl_layer.specs.Layers.{IsModule}
use Rattle.jl_loads.specs.Laws.{IsNew}
use Rattle.jl_loads.specs.Loading.{unlinked}
use Rattle.jl_loads.specs.Worlds.{with_class}
use Rattle.jl_loads.proofs.Begun.{base_class_by, defined_behind, on_err, on_ok}
use Rattle.jl_loads.proofs.Starting.{base_is_new}
use Rattle.jl_loads.proofs.loads.Loads.begin.Goals as goal
use Rattle.jl_loads.proofs.loads.Loads.begin.Goals.{in-Ok, in-Err}

pub returns : goal.returns
returns c = elim c.match-add_class.branch [
  | in-Ok w ↦ on_ok c.match-add_class.result _ _ w.result-is (
      defined_behind c.args.self.now c.add_class.new.self c.under.result w.in-Ok.field-0 w.in-Ok.ensures.defines
      ∙ ap (λ x. with_class x c.args.self.now)
      (base_class_by c.args.self.now c.args.class c.base-home.result c.loader_of_module-loader.result c.unlinked-class.result c.under.result c.in_ok-superclass.superclass c.in_ok-interfaces.interfaces
      c.base-home.ensures.base c.loader_of_module-loader.ensures.loader
      (c.unlinked-class.ensures ∙ ap (unlinked c.loader_of_module-loader.result c.base-home.result) c.in_ok-new.ensures.ok)
      c.in_ok-superclass.ensures c.in_ok-interfaces.ensures c.under.ensures))
  | in-Err w ↦ on_err c.match-add_class.result _ _ w.result-is
]

pub add_class-requires-clause-new : goal.add_class-requires-clause-new
add_class-requires-clause-new c =
    subst (IsNew c.args.self.now)
    (sym (base_class_by c.args.self.now c.args.class c.base-home.result c.loader_of_module-loader.result c.unlinked-class.result c.under.result c.in_ok-superclass.superclass c.in_ok-interfaces.interfaces
    c.base-home.ensures.base c.loader_of_module-loader.ensures.loader
    (c.unlinked-class.ensures ∙ ap (unlinked c.loader_of_module-loader.result c.base-home.result) c.in_ok-new.ensures.ok)
    c.in_ok-superclass.ensures c.in_ok-interfaces.ensures c.under.ensures))
    (base_is_new c.args.self.now c.args.class c.requires (subst (IsModule c.args.self.now.layers) c.base-home.ensures.base c.base-home.ensures.there) c.tables_stand.ensures)
