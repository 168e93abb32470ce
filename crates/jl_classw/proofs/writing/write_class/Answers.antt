use Rattle.jl_classw.proofs.WholeLaws.{writable, written_back, written_read}
use Rattle.jl_classw.proofs.writing.write_class.Goals as goal

pub written-requires-clause-fit : goal.written-requires-clause-fit
written-requires-clause-fit c = writable c.pool.ensures.declared.0 c.args.c.now c.pool.ensures.declared.1

pub returns-clause-back : goal.returns-clause-back
returns-clause-back c = written_back (λ v. v.items) c.written.result c.pool.ensures.declared.0 c.args.c.now c.pool.ensures.declared.1 c.written.ensures.exact

pub returns-clause-again : goal.returns-clause-again
returns-clause-again c = written_read (λ v. v.items) c.written.result c.pool.ensures.declared.0 c.args.c.now c.pool.ensures.declared.1 c.written.ensures.exact
