use Rattle.std.proofs.Common.{◌≡◌, ◌++◌, ◌∷◌, [], arith, sym}
use Rattle.std.proofs.lemmas.Result.{err_from_is_err_and}
use Rattle.jl_reading.proofs.Each.{each_more, each_ends, each_done}
use Rattle.jl_code.specs.Told.{told}
use Rattle.jl_code.specs.Operands as words
use Rattle.jl_code.proofs.Tellings.{fails_so}
use Rattle.jl_code.proofs.switches.lookup_cases.Goals as goal

pub returns-in_err-case-clause-exact : goal.returns-in_err-case-clause-exact
returns-in_err-case-clause-exact c =
    let p = err_from_is_err_and c.from_residual.result c.from_residual.ensures.1 in
    rw (p.1, p.2) (each_ends told c.in_err-case.field-0.0 (words.lookup_case c.args.at c.args.code.now) c.loop-i.cases.items c.args.count c.loop-i._i c.loop-i.after _ c.loop-i-test.true (fails_so c.in_err-case.field-0.0 _ (rw c.deref.ensures.value at c.in_err-case.ensures.exact)) c.loop-i.invariant.reads)

pub loop-i-preserved : goal.loop-i-preserved
loop-i-preserved c =
    let e : c.push.new.self.items ≡ c.loop-i.cases.items ++ c.in_ok-case.case ∷ [] = c.in_ok-push.ensures.items in
    record {
      within = omega (arith, c.in_ok-case.ensures.within);
      on = omega (arith, c.in_ok-case.ensures.within, c.loop-i.invariant.on);
      reads = rw e (each_more (words.lookup_case c.args.at c.args.code.now) c.loop-i.cases.items c.args.count c.loop-i._i c.loop-i.after c.in_ok-case.case c.in_ok-case.end _ c.loop-i-test.true (sym (rw c.deref.ensures.value at c.in_ok-case.ensures.exact)) c.loop-i.invariant.reads);
    }

pub returns-clause-exact : goal.returns-clause-exact
returns-clause-exact c = rw c.from_vec.ensures (each_done (words.lookup_case c.args.at c.args.code.now) c.loop-i.cases.items c.args.count c.loop-i._i c.loop-i.after _ c.loop-i-test.false c.loop-i.invariant.reads)
