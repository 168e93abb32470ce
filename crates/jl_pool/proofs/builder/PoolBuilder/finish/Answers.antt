use Rattle.std.proofs.Common.{◌≡◌, ◌∙◌, ◌∷◌, ap, map, subst, sym}
use Rattle.jl_pool.specs.Builder.{AreKept, entry_of, entries_of, pool_of}
use Rattle.std.proofs.lemmas.List.{take_all}
use Rattle.jl_pool.specs.declared.entry.Entry.TheVariants.{Unused}
use Rattle.jl_logic.specs.Lists.{AreDistinct}
use Rattle.jl_pool.specs.Spelling.{ArePoolEntries}
use Rattle.jl_pool.proofs.PoolLaws.{makes_pool, distinct_entries}
use Rattle.jl_pool.proofs.builder.PoolBuilder.finish.Goals as goal

pub returns-clause-right : goal.returns-clause-right
returns-clause-right c = subst (λ cs. ArePoolEntries (entries_of cs)) c.self.view_is (makes_pool c.self.inside.constants.keys c.self.invariant)

pub returns-clause-kept : goal.returns-clause-kept
returns-clause-kept c = subst AreKept c.self.view_is c.self.invariant

pub returns-clause-distinct : goal.returns-clause-distinct
returns-clause-distinct c =
    let slice = c.as_slice-constant-items.result.now in
    let all : slice ≡ c.args.self.now = c.as_slice-constant-items.ensures.keys ∙ c.self.view_is in
    let made = c.loop-constant.invariant ∙ ap (λ cs. Unused ∷ map (entry_of c.args.self.now) cs) (take_all c.loop-constant.constant-index slice c.loop-constant-test.false ∙ all) in
    subst (λ es. AreDistinct es) (sym made) (subst (λ cs. AreDistinct (pool_of cs)) c.self.view_is (distinct_entries c.self.inside.constants.keys c.self.invariant))
