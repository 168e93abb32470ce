use Rattle.std.proofs.Common.{subst}
use Rattle.std.proofs.lemmas.Result.{err_from_is_err_and}
use Rattle.jl_loads.specs.Laws.{IsLoadedAs}
use Rattle.jl_link.proofs.Reaching.{class_there, class_kept, class_end, class_barred, class_found, asks_later, reached}
use Rattle.jl_link.proofs.classes.class_by_name.Goals as goal

pub returns-in_err-c-clause-finds : goal.returns-in_err-c-clause-finds
returns-in_err-c-clause-finds g c = λ files from told there.
    let p = err_from_is_err_and c.from_residual.result c.from_residual.ensures.1 in
    rw (p.1, p.2) (class_end files c.args.at c.args.loads.now from c.args.name.now c.loader_of-loader.result c.in_err-c.field-0.0 c.load.new.self (rw there at c.loader_of-loader.ensures.loader) (c.in_err-c.ensures.loads files told))

pub returns-in_err-access-clause-finds : goal.returns-in_err-access-clause-finds
returns-in_err-access-clause-finds g c = λ files from told there.
    let p = err_from_is_err_and c.from_residual-in_err-access.result c.from_residual-in_err-access.ensures.1 in
    let to = class_there c.load.new.self c.in_ok-c.c c.in_ok-c.ensures.there in
    rw (p.1, p.2) (class_barred files c.args.at c.args.loads.now from c.args.name.now c.loader_of-loader.result c.in_ok-c.c c.load.new.self c.access.new.self to.0 c.in_err-access.field-0.0
    (rw there at c.loader_of-loader.ensures.loader) (c.in_ok-c.ensures.loads files told) to.1 (c.in_err-access.ensures.accesses from to.0 (class_kept c.args.loads.now c.load.new.self c.args.d from c.load.ensures.keeps c.requires.caller there) to.1))

pub returns-in_err-access-clause-asks : goal.returns-in_err-access-clause-asks
returns-in_err-access-clause-asks g c = asks_later c.read_once.ensures _ _ _ _ _ c.load.ensures.keeps c.access.ensures.keeps c.load.ensures.asks

pub returns-clause-finds : goal.returns-clause-finds
returns-clause-finds g c = λ files from told there.
    let to = class_there c.load.new.self c.in_ok-c.c c.in_ok-c.ensures.there in
    class_found files c.args.at c.args.loads.now from c.args.name.now c.loader_of-loader.result c.in_ok-c.c c.load.new.self c.access.new.self to.0
    (rw there at c.loader_of-loader.ensures.loader) (c.in_ok-c.ensures.loads files told) to.1 (c.in_ok-access.ensures.accesses from to.0 (class_kept c.args.loads.now c.load.new.self c.args.d from c.load.ensures.keeps c.requires.caller there) to.1)

pub returns-clause-reaches : goal.returns-clause-reaches
returns-clause-reaches g c = λ from there.
    let to = class_there c.load.new.self c.in_ok-c.c c.in_ok-c.ensures.there in
    let l = rw there at c.loader_of-loader.ensures.loader in
    reached c.args.at c.load.new.self c.access.new.self from to.0 c.args.name.now c.in_ok-c.c (subst (λ k. IsLoadedAs c.load.new.self k c.args.name.now c.in_ok-c.c) l c.in_ok-c.ensures.found) to.1
    (c.in_ok-access.ensures.accesses from to.0 (class_kept c.args.loads.now c.load.new.self c.args.d from c.load.ensures.keeps c.requires.caller there) to.1)

pub returns-clause-asks : goal.returns-clause-asks
returns-clause-asks g c = asks_later c.read_once.ensures _ _ _ _ _ c.load.ensures.keeps c.access.ensures.keeps c.load.ensures.asks
