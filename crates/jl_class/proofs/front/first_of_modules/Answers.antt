use Rattle.std.proofs.Common.{◌≡◌, ◌∙◌, sym, arith, inl, inr, false}
use Rattle.std.proofs.lemmas.Bool.{cases_lt}
use Rattle.jl_class.specs.Meaning.{has_of_modules}
use Rattle.jl_class.proofs.PlaceLaws.{place_here, place_none}
use Rattle.jl_class.proofs.front.first_of_modules.Goals as goal

pub returns-then-is_of_modules : goal.returns-then-is_of_modules
returns-then-is_of_modules c = sym (place_here c.args.pool.now c.loop-index.index c.loop-index.invariant (sym c.is_of_modules.ensures ∙ c.if-is_of_modules.true))

pub returns : goal.returns
returns c =
    sym (place_none c.args.pool.now (λ k. elim (cases_lt k c.loop-index.index) as (λ w. has_of_modules c.args.pool.now k ≡ false) [
      | inl lt ↦ c.loop-index.invariant k lt
      | inr le ↦ c.requires k (omega (arith, le, c.loop-index-test.false))
    ]))
