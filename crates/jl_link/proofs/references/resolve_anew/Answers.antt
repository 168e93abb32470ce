use Rattle.std.proofs.Common.{◌<◌, sym, subst}
use Rattle.jl_link.proofs.Onwards.{keeps_empty, keeps_on}
use Rattle.jl_link.proofs.Reaching.{class_there, class_kept}
use Rattle.jl_link.proofs.Resolved.{anew_class, no_parts}
use Rattle.jl_link.proofs.Settling.{class_refers, row_long}
use Rattle.jl_link.proofs.references.resolve_anew.Goals as goal

pub member_anew-requires-clause-within : goal.member_anew-requires-clause-within
member_anew-requires-clause-within g c =
    let from = class_there c.args.loads.now c.args.d c.requires.class in
    subst (λ n. c.in-Some.class < n) (sym (row_long c.args.loads.now c.args.d from.0 c.is_sound.ensures from.1)) (c.in-Some.ensures.within from.0 from.1)

pub returns-in-None-clause-finds : goal.returns-in-None-clause-finds
returns-in-None-clause-finds g c = λ files told.
    let from = class_there c.args.loads.now c.args.d c.requires.class in
    anew_class files c.args.at c.args.loads.now c.args.d c.args.index from.0 from.1 c.class_anew.result c.class_anew.new.loads (no_parts _ (c.in-None.ensures.parts from.0 from.1)) (c.class_anew.ensures.finds files from.0 told from.1)

pub returns-in-None-clause-refers : goal.returns-in-None-clause-refers
returns-in-None-clause-refers g c =
    let from = class_there c.args.loads.now c.args.d c.requires.class in
    class_refers c.class_anew.new.loads c.args.d c.args.index from.0 c.class_anew.result (class_kept c.args.loads.now c.class_anew.new.loads c.args.d from.0 c.class_anew.ensures.keeps c.requires.class from.1)
    (no_parts _ (c.in-None.ensures.parts from.0 from.1)) (c.class_anew.ensures.names from.0 from.1)

pub returns-in-None-clause-free : goal.returns-in-None-clause-free
returns-in-None-clause-free g c = keeps_empty c.args.loads.now c.class_anew.new.loads c.class_anew.ensures.keeps c.args.d c.args.index

pub returns-in-None-clause-onward : goal.returns-in-None-clause-onward
returns-in-None-clause-onward g c = keeps_on c.args.loads.now c.class_anew.new.loads c.class_anew.ensures.keeps

pub returns-in-None-clause-stand : goal.returns-in-None-clause-stand
returns-in-None-clause-stand g c =
    c.decided_stays.ensures.stand c.args.loads.now c.class_anew.new.loads c.is_sound.ensures (keeps_on c.args.loads.now c.class_anew.new.loads c.class_anew.ensures.keeps) (keeps_empty c.args.loads.now c.class_anew.new.loads c.class_anew.ensures.keeps)
