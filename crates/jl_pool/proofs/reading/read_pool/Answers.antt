use Rattle.std.proofs.Common.{◌≡◌, List, None, not, sym, subst, ◌∙◌, arith, rules}
use Rattle.std.specs.Prelude.{position}
use Rattle.jl_pool.specs.declared.entry.Entry.{Entry}
use Rattle.jl_pool.specs.Pool.{refers_rightly}
use Rattle.jl_pool.specs.Reading.{pool_at}
use Rattle.jl_pool.proofs.Whole.{whole_read, is_only, pool_stands, pool_again}
use Rattle.jl_pool.proofs.reading.read_pool.Goals as goal

pub returns-in_err-entries-clause-exact : goal.returns-in_err-entries-clause-exact
unfolding pool_at
returns-in_err-entries-clause-exact c = search rules

pub returns-in_err-entries-clause-only : goal.returns-in_err-entries-clause-only
returns-in_err-entries-clause-only c = is_only (λ x. x) c.args.bytes.now c.args.at _ (returns-in_err-entries-clause-exact c)

pub returns-in-Some-clause-exact : goal.returns-in-Some-clause-exact
unfolding pool_at
returns-in-Some-clause-exact c = search rules

pub returns-in-Some-clause-only : goal.returns-in-Some-clause-only
returns-in-Some-clause-only c = λ pool next stands. sym (pool_again c.args.bytes.now c.args.at pool next stands) ∙ returns-in-Some-clause-exact c

pub returns-clause-exact : goal.returns-clause-exact
returns-clause-exact c =
    let right = subst (λ (es : List Entry). None ≡ position (λ e. not (refers_rightly es e)) es) c.deref.ensures.value c.in_default.ensures in
    rw c.from_entries.ensures (whole_read c.args.bytes.now c.args.at c.in_ok-count.count c.in_ok-count.at c.in_ok-entries.entries.items c.in_ok-entries.next (sym c.in_ok-count.ensures) c.in_ok-entries.ensures.exact (sym right))

pub returns-clause-found : goal.returns-clause-found
returns-clause-found c = pool_stands c.args.bytes.now c.args.at c.from_entries.result c.in_ok-entries.next (λ i. omega (arith, c.type_inv.bytes i)) (returns-clause-exact c)

pub returns-clause-only : goal.returns-clause-only
returns-clause-only c = λ pool next stands. sym (pool_again c.args.bytes.now c.args.at pool next stands) ∙ returns-clause-exact c
