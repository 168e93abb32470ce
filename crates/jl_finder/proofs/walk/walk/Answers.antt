use Rattle.std.proofs.Common.{[], refl, ap, subst, ◌∙◌, ◌≡◌, ◌-◌, ⊎_elim, inl, inr, nat_eq, arith}
use Rattle.std.specs.Cmp.Lexicographic.{pointwise}
use Rattle.indexmap.specs.IndexSet.{insert_all}
use Rattle.jl_finder.specs.Scanning.{walked_in}
use Rattle.jl_finder.specs.Asking.{faults_with}
use Rattle.std.proofs.lemmas.Result.{err_from_is_err_and}
use Rattle.jl_finder.proofs.Steps.{rose_from, err_retyped}
use Rattle.jl_finder.proofs.Walks.{IsWalking, walk_starts, walk_over, walk_steps_so, walk_many_so, walk_ends_so}
use Rattle.jl_finder.proofs.Asking.{calm_memory}
use Rattle.jl_finder.proofs.walk.walk.Goals as goal

pub loop-count-init : goal.loop-count-init
loop-count-init g c = record {
  same_files = refl;
  asked = refl;
  exact = λ x. refl;
  counts = omega arith;
  placed = omega arith;
  few = inr refl;
  walking = λ files e h.
      let q : 0 ≡ c.args.listed - c.args.listed = omega arith in
      subst (IsWalking files c.args.place.now c.in_ok-with_folders.field-0.keys c.new-2.result.items) q
      (walk_starts files c.args.place.now c.args.top.now _ _ h (c.in_ok-with_folders.ensures ∙ ap (λ t. insert_all (pointwise nat_eq) t (walked_in [] c.args.top.now)) c.new.ensures.empty) c.new-2.ensures.items);
}

pub returns-in_err-folder_at-clause-same_files : goal.returns-in_err-folder_at-clause-same_files
returns-in_err-folder_at-clause-same_files g c = c.loop-count.invariant.same_files

pub returns-in_err-folder_at-clause-counts : goal.returns-in_err-folder_at-clause-counts
returns-in_err-folder_at-clause-counts g c = c.loop-count.invariant.counts

pub returns-in-None-clause-gives : goal.returns-in-None-clause-gives
returns-in-None-clause-gives g c = λ files e h.
    walk_ends_so files c.args.place.now c.loop-count.walking.folders.keys c.loop-count.walking.packages.items c.loop-count.count c.args.listed c.in_ok-folder_at.field-0 c.finished.result (c.loop-count.invariant.walking files e h) c.loop-count.invariant.placed
    c.folder_at.ensures.distinct c.in_ok-folder_at.ensures.found c.in-None.is (omega (arith, c.loop-count-test.true)) c.finished.ensures.sorted c.finished.ensures.count c.finished.ensures.no_fault

pub returns-in-None-clause-same_files : goal.returns-in-None-clause-same_files
returns-in-None-clause-same_files g c = c.loop-count.invariant.same_files

pub returns-in-None-clause-counts : goal.returns-in-None-clause-counts
returns-in-None-clause-counts g c = c.loop-count.invariant.counts

pub returns-then-count-eq-MOST_FOLDERS-clause-gives :
    goal.returns-then-count-eq-MOST_FOLDERS-clause-gives
returns-then-count-eq-MOST_FOLDERS-clause-gives g c = λ files e h.
    walk_many_so files c.args.place.now c.loop-count.walking.folders.keys c.loop-count.walking.packages.items c.loop-count.count c.args.listed c.in-Some.folder c.in_ok-folder_at.field-0 (c.loop-count.invariant.walking files e h) c.loop-count.invariant.placed
    c.folder_at.ensures.distinct c.in_ok-folder_at.ensures.found c.in-Some.is (omega (arith, c.if-count-eq-MOST_FOLDERS.true))

pub returns-then-count-eq-MOST_FOLDERS-clause-same_files :
    goal.returns-then-count-eq-MOST_FOLDERS-clause-same_files
returns-then-count-eq-MOST_FOLDERS-clause-same_files g c = c.loop-count.invariant.same_files

pub returns-then-count-eq-MOST_FOLDERS-clause-counts :
    goal.returns-then-count-eq-MOST_FOLDERS-clause-counts
returns-then-count-eq-MOST_FOLDERS-clause-counts g c = c.loop-count.invariant.counts

pub returns-in_err-walking-clause-same_files : goal.returns-in_err-walking-clause-same_files
returns-in_err-walking-clause-same_files g c = c.walk_folder.ensures.same_files ∙ c.loop-count.invariant.same_files

pub returns-in_err-walking-clause-counts : goal.returns-in_err-walking-clause-counts
returns-in_err-walking-clause-counts g c = omega (arith, c.walk_folder.ensures.counts, c.loop-count.invariant.counts)

pub returns-in_err-walking-clause-read_fault : goal.returns-in_err-walking-clause-read_fault
returns-in_err-walking-clause-read_fault g c =
    let p = err_from_is_err_and c.from_residual-in_err-walking.result c.from_residual-in_err-walking.ensures.1 in
    rw (p.1, p.2) (λ h. rose_from (g.T.Tree.faults c.args.tree.now) (g.T.Tree.faults c.loop-count.tree) (g.T.Tree.faults c.walk_folder.new.tree) c.loop-count.invariant.counts c.walk_folder.ensures.counts (c.in_err-walking.ensures.read_fault (err_retyped _ _ h)))

pub loop-count-preserved : goal.loop-count-preserved
loop-count-preserved g c = record {
  same_files = c.walk_folder.ensures.same_files ∙ c.loop-count.invariant.same_files;
  counts = omega (arith, c.walk_folder.ensures.counts, c.loop-count.invariant.counts);
  asked = c.walk_folder.ensures.same_asked ∙ c.loop-count.invariant.asked;
  exact = λ x. c.in_ok-walking.ensures.exact x ∙ c.loop-count.invariant.exact x;
  placed = omega (arith, c.loop-count.invariant.placed);
  few = inl (omega (arith, c.loop-count-test.true, c.if-count-eq-MOST_FOLDERS.false));
  walking = λ files e h.
      walk_steps_so files c.args.place.now c.loop-count.walking.folders.keys c.loop-count.walking.packages.items c.loop-count.count c.args.listed c.in-Some.folder c.in_ok-folder_at.field-0 _ _ (c.loop-count.invariant.walking files e h) c.loop-count.invariant.placed
      c.in_ok-folder_at.ensures.found c.in-Some.is (c.in_ok-walking.ensures.steps files (c.loop-count.invariant.same_files ∙ e));
}

pub returns-clause-gives : goal.returns-clause-gives
returns-clause-gives g c = λ files e h.
    walk_over files c.args.place.now c.args.listed (⊎_elim (λ l. absurd (omega (arith, l, c.loop-count-test.false))) (λ l. omega (arith, l, c.loop-count-test.false)) c.loop-count.invariant.few)

pub returns-clause-same_files : goal.returns-clause-same_files
returns-clause-same_files g c = c.loop-count.invariant.same_files

pub returns-clause-counts : goal.returns-clause-counts
returns-clause-counts g c = c.loop-count.invariant.counts

pub returns-in_err-folder_at-clause-same_asked : goal.returns-in_err-folder_at-clause-same_asked
returns-in_err-folder_at-clause-same_asked g c = c.loop-count.invariant.asked

pub returns-in-None-clause-same_asked : goal.returns-in-None-clause-same_asked
returns-in-None-clause-same_asked g c = c.loop-count.invariant.asked

pub returns-then-count-eq-MOST_FOLDERS-clause-same_asked : goal.returns-then-count-eq-MOST_FOLDERS-clause-same_asked
returns-then-count-eq-MOST_FOLDERS-clause-same_asked g c = c.loop-count.invariant.asked

pub returns-clause-same_asked : goal.returns-clause-same_asked
returns-clause-same_asked g c = c.loop-count.invariant.asked

pub returns-in_err-walking-clause-same_asked : goal.returns-in_err-walking-clause-same_asked
returns-in_err-walking-clause-same_asked g c = c.walk_folder.ensures.same_asked ∙ c.loop-count.invariant.asked

pub returns-in_err-folder_at-clause-exact : goal.returns-in_err-folder_at-clause-exact
returns-in_err-folder_at-clause-exact g c =
    let p = err_from_is_err_and c.from_residual-in_err-folder_at.result c.from_residual-in_err-folder_at.ensures.1 in
    rw (p.1, p.2) (λ x. c.loop-count.invariant.exact x)

pub returns-then-count-eq-MOST_FOLDERS-clause-exact : goal.returns-then-count-eq-MOST_FOLDERS-clause-exact
returns-then-count-eq-MOST_FOLDERS-clause-exact g c = λ x. c.loop-count.invariant.exact x

pub returns-clause-exact : goal.returns-clause-exact
returns-clause-exact g c = λ x. c.loop-count.invariant.exact x

pub returns-in-None-clause-exact : goal.returns-in-None-clause-exact
returns-in-None-clause-exact g c = λ x. calm_memory c.finished.result _ _ c.finished.ensures.no_fault (c.loop-count.invariant.exact x)

pub returns-in_err-walking-clause-exact : goal.returns-in_err-walking-clause-exact
returns-in_err-walking-clause-exact g c =
    let p = err_from_is_err_and c.from_residual-in_err-walking.result c.from_residual-in_err-walking.ensures.1 in
    rw (p.1, p.2) (λ x. c.in_err-walking.ensures.exact x ∙ ap (faults_with _) (c.loop-count.invariant.exact x))
