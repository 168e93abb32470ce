use Rattle.jl_prim.specs.Limits.{most_words}
use Rattle.jl_words.proofs.FoundLaws.{found_few, only_few}
use Rattle.std.proofs.Common.{arith}
use Rattle.std.specs.String.{string_bytes}
use Rattle.std.proofs.lemmas.List.{length-take}
use Rattle.jl_words.proofs.Most.{gives_few, gives_many}
use Rattle.jl_words.proofs.reading.read_words.Goals as goal

pub returns-then-words-le-MOST_WORDS-clause-found : goal.returns-then-words-le-MOST_WORDS-clause-found
returns-then-words-le-MOST_WORDS-clause-found c = found_few string_bytes c.args.words.now c.line_read.result c.if-words-le-MOST_WORDS.true c.line_read.ensures

pub returns-then-words-le-MOST_WORDS-clause-only : goal.returns-then-words-le-MOST_WORDS-clause-only
returns-then-words-le-MOST_WORDS-clause-only c = only_few string_bytes c.args.words.now c.line_read.result c.if-words-le-MOST_WORDS.true c.line_read.ensures

pub returns-then-words-le-MOST_WORDS-clause-exact : goal.returns-then-words-le-MOST_WORDS-clause-exact
returns-then-words-le-MOST_WORDS-clause-exact c = gives_few string_bytes c.args.words.now c.line_read.result c.if-words-le-MOST_WORDS.true c.line_read.ensures

pub slice_bounds-line_read-end : goal.slice_bounds-line_read-end
slice_bounds-line_read-end c = omega (arith, length-take most_words c.args.words.now, c.if-words-le-MOST_WORDS.false)

pub returns-clause-exact : goal.returns-clause-exact
returns-clause-exact c = gives_many string_bytes c.args.words.now c.line_read-2.result c.past_most.result c.if-words-le-MOST_WORDS.false c.past_most.ensures c.line_read-2.ensures
