use Rattle.std.proofs.Common.{refl, sym, ◌∙◌, arith, ap, subst, IsTrue}
use Rattle.jl_finder.specs.Paths.{is_archive}
use Rattle.std.proofs.lemmas.Result.{err_from_is_err_and}
use Rattle.jl_finder.specs.Scanning.{tally_of, elements_found, modules_or}
use Rattle.jl_finder.specs.Observed.{scan_elements}
use Rattle.jl_finder.specs.Asking.{places_of, faults_with, reads_of}
use Rattle.jl_finder.proofs.Asking.{asks_next, asked_next, asks_some, asked_whole, starts_asking}
use Rattle.jl_finder.proofs.Elements.{element_fails, element_done, elements_over}
use Rattle.jl_finder.proofs.UntilFault.{before_all, ends_so_far, element_ends_reads, element_reads_on, elements_read, first_element}
use Rattle.jl_finder.proofs.finding.scan_elements.Goals as goal

pub returns-in_err-found-clause-gives : goal.returns-in_err-found-clause-gives
returns-in_err-found-clause-gives g c = λ files e.
    let p = err_from_is_err_and c.from_residual.result c.from_residual.ensures.1 in
    rw (p.1, p.2) (element_fails files c.args.elements.now c.loop-element.element-index c.element-item.result c.loop-element.modules.items (tally_of c.loop-element.counts) c.in_err-found.field-0.0 (elements_found files c.args.elements.now) c.loop-element-test.true c.element-item.is
    (c.in_err-found.ensures.gives files (c.loop-element.invariant.same_files ∙ e)) (c.loop-element.invariant.gives files e))

pub loop-element-preserved : goal.loop-element-preserved
loop-element-preserved g c = record {
  same_files = c.scan_element.ensures.same_files ∙ c.loop-element.invariant.same_files;
  counts = omega (arith, c.scan_element.ensures.counts, c.loop-element.invariant.counts);
  asked = λ files e. asked_next (places_of files) (g.T.Tree.asked c.args.tree.now) (g.T.Tree.asked c.loop-element.tree) (g.T.Tree.asked c.scan_element.new.tree) c.args.elements.now c.loop-element.element-index c.element-item.result c.loop-element-test.true c.element-item.is (c.loop-element.invariant.asked files e) (c.in_ok-found.ensures.asked files (c.loop-element.invariant.same_files ∙ e));
  reads = λ files e. element_reads_on files c.args.elements.now c.loop-element.element-index c.element-item.result c.in_ok-found.found.0.items (tally_of c.loop-element.counts) (tally_of c.in_ok-found.found.1) (g.T.Tree.asked c.args.tree.now) (g.T.Tree.asked c.loop-element.tree) (g.T.Tree.asked c.scan_element.new.tree) (reads_of files c.args.elements.now) c.loop-element-test.true c.element-item.is (c.loop-element.invariant.reads files e) (c.in_ok-found.ensures.gives files (c.loop-element.invariant.same_files ∙ e)) (c.in_ok-found.ensures.reads files (c.loop-element.invariant.same_files ∙ e));
  untouched = λ element rest q a.
      let before = c.loop-element.invariant.untouched element rest q a in
      absurd (c.in_ok-found.ensures.refused (subst (λ x. IsTrue (is_archive x)) (first_element c.args.elements.now c.loop-element.element-index c.element-item.result element rest q before.1 c.element-item.is) a));
  exact = λ x. c.in_ok-found.ensures.exact x ∙ c.loop-element.invariant.exact x;
  gives = λ files e.
      element_done files c.args.elements.now c.loop-element.element-index c.element-item.result c.loop-element.modules.items c.in_ok-found.found.0.items _ (tally_of c.loop-element.counts) (tally_of c.in_ok-found.found.1) (elements_found files c.args.elements.now) c.loop-element-test.true c.element-item.is
      (c.in_ok-found.ensures.gives files (c.loop-element.invariant.same_files ∙ e)) c.in_ok-append.ensures.items (c.loop-element.invariant.gives files e);
}

pub returns-clause-gives : goal.returns-clause-gives
returns-clause-gives g c = λ files e.
    sym (c.loop-element.invariant.gives files e) ∙ elements_over files c.args.elements.now c.loop-element.element-index c.loop-element.modules.items (tally_of c.loop-element.counts) (omega (arith, c.loop-element-test.false))

pub returns-in_err-found-clause-exact : goal.returns-in_err-found-clause-exact
returns-in_err-found-clause-exact g c =
    let p = err_from_is_err_and c.from_residual.result c.from_residual.ensures.1 in
    rw (p.1, p.2) (λ x. c.in_err-found.ensures.exact x ∙ ap (faults_with _) (c.loop-element.invariant.exact x))

pub returns-in_err-append-clause-exact : goal.returns-in_err-append-clause-exact
returns-in_err-append-clause-exact g c =
    let p = err_from_is_err_and c.from_residual-in_err-append.result c.from_residual-in_err-append.ensures.1 in
    rw (p.1, p.2) (λ x. c.in_ok-found.ensures.exact x ∙ c.loop-element.invariant.exact x)

pub returns-in_err-found-clause-asks : goal.returns-in_err-found-clause-asks
returns-in_err-found-clause-asks g c = λ files e.
    asks_next (places_of files) (g.T.Tree.asked c.args.tree.now) (g.T.Tree.asked c.loop-element.tree) (g.T.Tree.asked c.scan_element.new.tree) c.args.elements.now c.loop-element.element-index c.element-item.result c.loop-element-test.true c.element-item.is (c.loop-element.invariant.asked files e) (c.scan_element.ensures.asks files (c.loop-element.invariant.same_files ∙ e))

pub returns-in_err-append-clause-asks : goal.returns-in_err-append-clause-asks
returns-in_err-append-clause-asks g c = λ files e.
    asks_next (places_of files) (g.T.Tree.asked c.args.tree.now) (g.T.Tree.asked c.loop-element.tree) (g.T.Tree.asked c.scan_element.new.tree) c.args.elements.now c.loop-element.element-index c.element-item.result c.loop-element-test.true c.element-item.is (c.loop-element.invariant.asked files e) (c.scan_element.ensures.asks files (c.loop-element.invariant.same_files ∙ e))

pub returns-clause-exact : goal.returns-clause-exact
returns-clause-exact g c = λ x. c.loop-element.invariant.exact x

pub returns-clause-asks : goal.returns-clause-asks
returns-clause-asks g c = λ files e. asks_some (places_of files) (g.T.Tree.asked c.args.tree.now) (g.T.Tree.asked c.loop-element.tree) c.args.elements.now c.loop-element.element-index (c.loop-element.invariant.asked files e)

pub returns-clause-asked : goal.returns-clause-asked
returns-clause-asked g c = λ files e. asked_whole (places_of files) (g.T.Tree.asked c.args.tree.now) (g.T.Tree.asked c.loop-element.tree) c.args.elements.now c.loop-element.element-index (omega (arith, c.loop-element-test.false)) (c.loop-element.invariant.asked files e)

pub loop-element-init : goal.loop-element-init
loop-element-init g c = record {
  same_files = refl;
  counts = omega arith;
  asked = λ files e. starts_asking (g.T.Tree.asked c.args.tree.now);
  reads = λ files e. before_all (g.T.Tree.asked c.args.tree.now) (reads_of files c.args.elements.now);
  untouched = λ element rest q a. (refl, refl);
  exact = λ x. refl;
  gives = λ files e. ap (λ os. modules_or (scan_elements files c.args.elements.now os (record { modules = 0; folders = 0 }))) c.new-modules.ensures.items;
}

pub returns-in_err-found-clause-reads : goal.returns-in_err-found-clause-reads
returns-in_err-found-clause-reads g c = λ files e.
    let p = err_from_is_err_and c.from_residual.result c.from_residual.ensures.1 in
    rw (p.1, p.2) (element_ends_reads files c.args.elements.now c.loop-element.element-index c.element-item.result (tally_of c.loop-element.counts) c.in_err-found.field-0.0 (g.T.Tree.asked c.args.tree.now) (g.T.Tree.asked c.loop-element.tree) (g.T.Tree.asked c.scan_element.new.tree) (reads_of files c.args.elements.now) c.loop-element-test.true c.element-item.is (c.loop-element.invariant.reads files e)
    (c.in_err-found.ensures.gives files (c.loop-element.invariant.same_files ∙ e)) (c.in_err-found.ensures.reads files (c.loop-element.invariant.same_files ∙ e)))

pub returns-in_err-append-clause-reads : goal.returns-in_err-append-clause-reads
returns-in_err-append-clause-reads g c = λ files e.
    let p = err_from_is_err_and c.from_residual-in_err-append.result c.from_residual-in_err-append.ensures.1 in
    rw (p.1, p.2) (ends_so_far (g.T.Tree.asked c.args.tree.now) (g.T.Tree.asked c.scan_element.new.tree) (reads_of files c.args.elements.now) _ (element_reads_on files c.args.elements.now c.loop-element.element-index c.element-item.result c.in_ok-found.found.0.items (tally_of c.loop-element.counts) (tally_of c.in_ok-found.found.1) (g.T.Tree.asked c.args.tree.now) (g.T.Tree.asked c.loop-element.tree) (g.T.Tree.asked c.scan_element.new.tree) (reads_of files c.args.elements.now) c.loop-element-test.true c.element-item.is (c.loop-element.invariant.reads files e)
    (c.in_ok-found.ensures.gives files (c.loop-element.invariant.same_files ∙ e)) (c.in_ok-found.ensures.reads files (c.loop-element.invariant.same_files ∙ e))))

pub returns-clause-reads : goal.returns-clause-reads
returns-clause-reads g c = λ files e.
    elements_read files c.args.elements.now c.loop-element.element-index (tally_of c.loop-element.counts) (g.T.Tree.asked c.args.tree.now) (g.T.Tree.asked c.loop-element.tree) (reads_of files c.args.elements.now) (omega (arith, c.loop-element-test.false)) (c.loop-element.invariant.reads files e)

-- An archive that comes first ends the loop before anything is asked of the tree.
pub returns-in_err-found-clause-untouched : goal.returns-in_err-found-clause-untouched
returns-in_err-found-clause-untouched g c = λ element rest q a.
    let before = c.loop-element.invariant.untouched element rest q a in
    c.scan_element.ensures.untouched (subst (λ x. IsTrue (is_archive x)) (first_element c.args.elements.now c.loop-element.element-index c.element-item.result element rest q before.1 c.element-item.is) a) ∙ before.0

pub returns-in_err-append-clause-untouched : goal.returns-in_err-append-clause-untouched
returns-in_err-append-clause-untouched g c = λ element rest q a.
    let before = c.loop-element.invariant.untouched element rest q a in
    c.scan_element.ensures.untouched (subst (λ x. IsTrue (is_archive x)) (first_element c.args.elements.now c.loop-element.element-index c.element-item.result element rest q before.1 c.element-item.is) a) ∙ before.0

pub returns-clause-untouched : goal.returns-clause-untouched
returns-clause-untouched g c = λ element rest q a. (c.loop-element.invariant.untouched element rest q a).0
