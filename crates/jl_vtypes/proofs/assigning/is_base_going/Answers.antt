use Rattle.std.proofs.Common.{◌≡◌, ◌∙◌, sym, ap}
use Rattle.jl_vtypes.specs.Asking.{Done}
use Rattle.jl_vtypes.specs.Unanswered.{no_answer}
use Rattle.jl_vtypes.specs.Assignability.{Named, type_goes, spelled}
use Rattle.jl_vtypes.proofs.Coming.{done, same_asks}
use Rattle.jl_vtypes.proofs.Elements.{named, to_named, to_itself}
use Rattle.jl_vtypes.proofs.assigning.is_base_going.Goals as goal

pub returns-in_default : goal.returns-in_default
returns-in_default g c =
    let goes : type_goes (spelled c.args.from.now) (spelled c.args.to.now) ≡ Done c.eq.result = to_itself c.args.from.now c.args.to.now (sym c.in_default.ensures) c.requires ∙ ap Done (sym c.eq.ensures) in
    same_asks g.H.Hierarchy.step no_answer _ _ _ _ _ (sym goes) (done g.H.Hierarchy.step no_answer c.eq.result c.args.h.now)

pub returns-in-Some-name_in : goal.returns-in-Some-name_in
returns-in-Some-name_in g c =
    let from : spelled c.args.from.now ≡ Named c.in-Some-name_in.from_name.now = named c.args.from.now c.in-Some-name_in.from_name.now (sym c.in-Some-name_in.ensures) in
    let to : spelled c.args.to.now ≡ Named c.in-Some.to_name.now = named c.args.to.now c.in-Some.to_name.now (sym c.in-Some.ensures) in
    rw (from, to) c.is_class_going.ensures

pub returns-in-None : goal.returns-in-None
returns-in-None g c =
    let to : spelled c.args.to.now ≡ Named c.in-Some.to_name.now = named c.args.to.now c.in-Some.to_name.now (sym c.in-Some.ensures) in
    let goes : type_goes (spelled c.args.from.now) (Named c.in-Some.to_name.now) ≡ Done c.is_array_going.result =
    to_named c.args.from.now c.in-Some.to_name.now (sym c.in-None.ensures) ∙ ap Done (sym c.is_array_going.ensures) in
    rw to (same_asks g.H.Hierarchy.step no_answer _ _ _ _ _ (sym goes) (done g.H.Hierarchy.step no_answer c.is_array_going.result c.args.h.now))
