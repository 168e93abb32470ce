use Rattle.std.proofs.Common.{◌≡◌, ◌++◌, ◌∷◌, [], Ok, Err, rules, arith, sym, length-append, FitsSigned, w32}
use Rattle.std.proofs.lemmas.Int.{to_z-of_z}
use Rattle.std.proofs.lemmas.Result.{err_from_is_err_and}
use Rattle.jl_reading.proofs.Each.{each_more, each_ends, each_done}
use Rattle.jl_code.specs.Told.{told}
use Rattle.jl_code.specs.Operands as words
use Rattle.jl_code.proofs.Tellings.{fails_so}
use Rattle.jl_code.proofs.switches.table_cases.Goals as goal

pub returns-in_err-case-clause-exact : goal.returns-in_err-case-clause-exact
returns-in_err-case-clause-exact c =
    let p = err_from_is_err_and c.from_residual.result c.from_residual.ensures.1 in
    let low_fits : FitsSigned w32 c.args.low = c.ranges.low in
    let key_fits : FitsSigned w32 c.key_above.result = search rules in
    let key = simp to_z-of_z at c.key_above.ensures in
    let read = simp to_z-of_z at c.in_err-case.ensures.exact in
    let one : Err c.in_err-case.field-0.0 ≡ words.table_case c.args.at c.args.code.now c.args.low c.loop-i.cases.items c.loop-i.after = rw (c.loop-i.invariant.counted, ← key) read in
    rw (p.1, p.2) (each_ends told c.in_err-case.field-0.0 (words.table_case c.args.at c.args.code.now c.args.low) c.loop-i.cases.items c.args.count c.loop-i.i c.loop-i.after _ c.loop-i-test.true (fails_so c.in_err-case.field-0.0 _ one) (simp to_z-of_z at c.loop-i.invariant.reads))

pub loop-i-preserved : goal.loop-i-preserved
loop-i-preserved c =
    let low_fits : FitsSigned w32 c.args.low = c.ranges.low in
    let key_fits : FitsSigned w32 c.key_above.result = search rules in
    let key = simp to_z-of_z at c.key_above.ensures in
    let read = simp to_z-of_z at c.in_ok-case.ensures.exact in
    let one : Ok (c.in_ok-case.case, c.in_ok-case.end) ≡ words.table_case c.args.at c.args.code.now c.args.low c.loop-i.cases.items c.loop-i.after = rw (c.loop-i.invariant.counted, ← key) read in
    let e : c.push.new.self.items ≡ c.loop-i.cases.items ++ c.in_ok-case.case ∷ [] = c.in_ok-push.ensures.items in
    record {
      within = omega (arith, c.in_ok-case.ensures.within);
      on = omega (arith, c.in_ok-case.ensures.within, c.loop-i.invariant.on);
      counted = rw e (omega (arith, length-append c.loop-i.cases.items (c.in_ok-case.case ∷ []), c.loop-i.invariant.counted));
      reads = simp to_z-of_z (rw e (each_more (words.table_case c.args.at c.args.code.now c.args.low) c.loop-i.cases.items c.args.count c.loop-i.i c.loop-i.after c.in_ok-case.case c.in_ok-case.end _ c.loop-i-test.true (sym one) (simp to_z-of_z at c.loop-i.invariant.reads)));
    }

pub returns-clause-exact : goal.returns-clause-exact
returns-clause-exact c =
    let low_fits : FitsSigned w32 c.args.low = c.ranges.low in
    rw c.from_vec.ensures (each_done (words.table_case c.args.at c.args.code.now c.args.low) c.loop-i.cases.items c.args.count c.loop-i.i c.loop-i.after _ c.loop-i-test.false (simp to_z-of_z at c.loop-i.invariant.reads))
