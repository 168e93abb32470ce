use Rattle.std.proofs.Common.{sym, map, length, ◌∙◌}
use Rattle.std.proofs.lemmas.Result.{err_from_is_err_and}
use Rattle.std.specs.String.{string_bytes}
use Rattle.jl_words.proofs.Uses.{options_stop, options_more, options_end, options_done}
use Rattle.jl_words.proofs.options.options.Goals as goal

pub returns-then-not-is_option_at-clause-exact : goal.returns-then-not-is_option_at-clause-exact
returns-then-not-is_option_at-clause-exact c =
    sym c.loop.invariant.reads ∙ options_stop _ c.args.verb (map string_bytes c.args.words.now) c.loop.given c.loop.at (sym c.is_option_at.ensures.exact ∙ c.if-not-is_option_at.true)

pub returns-in_err-more-clause-exact : goal.returns-in_err-more-clause-exact
returns-in_err-more-clause-exact c =
    let p = err_from_is_err_and c.from_residual.result c.from_residual.ensures.1 in
    rw (p.1, p.2) (options_end c.in_err-more.field-0.0 (length c.args.words.now) c.loop.counter c.args.verb (map string_bytes c.args.words.now) c.loop.given c.loop.at _ c.loop-test.true (sym c.is_option_at.ensures.exact ∙ c.if-not-is_option_at.false) c.in_err-more.ensures.exact c.loop.invariant.reads)

pub loop-preserved : goal.loop-preserved
loop-preserved c = record {
  within = c.in_ok-more.ensures.within;
  reads = options_more (length c.args.words.now) c.loop.counter c.args.verb (map string_bytes c.args.words.now) c.loop.given c.in_ok-more.more c.loop.at c.in_ok-more.next _ c.loop-test.true (sym c.is_option_at.ensures.exact ∙ c.if-not-is_option_at.false) c.in_ok-more.ensures.exact c.loop.invariant.reads;
}

pub returns-clause-exact : goal.returns-clause-exact
returns-clause-exact c = options_done (length c.args.words.now) c.loop.counter c.args.verb (map string_bytes c.args.words.now) c.loop.given c.loop.at _ c.loop-test.false c.loop.invariant.reads
