use Rattle.std.proofs.Common.{ap, option_map}
use Rattle.jl_finder.proofs.Entries.{listed_none, listed_some}
use Rattle.jl_finder.proofs.listing.entries_in.Goals as goal

pub returns-in-Ok-None-clause-lists : goal.returns-in-Ok-None-clause-lists
returns-in-Ok-None-clause-lists g c = λ files e.
    listed_none (g.T.Tree.files c.args.tree.now) c.args.dir.now (option_map (λ v. v.items) c.in-Ok-None.field-0) files e (ap (λ o. option_map (λ v. v.items) o) c.in-Ok-None.field-0-is) c.in-Ok-None.ensures.told_listed

pub returns-in_ok-sorted-in-Ok-Some-clause-lists : goal.returns-in_ok-sorted-in-Ok-Some-clause-lists
returns-in_ok-sorted-in-Ok-Some-clause-lists g c = λ files e.
    listed_some (g.T.Tree.files c.args.tree.now) c.args.dir.now (option_map (λ v. v.items) c.in-Ok-Some.field-0) c.in-Ok-Some.entries.items c.in_ok-sorted-in-Ok-Some.field-0.items files e
    (ap (λ o. option_map (λ v. v.items) o) c.in-Ok-Some.field-0-is) c.in-Ok-Some.ensures.told_listed c.in_ok-sorted-in-Ok-Some.ensures
