-- Elements: what each gives, and all of them.
use Rattle.std.proofs.Common.{◌≡◌, ◌<◌, ◌≤◌, ℕ, ◌+◌, List, [], ◌∷◌, ◌++◌, length, get_or, drop, Option, Some, IfSome, Result, Ok, Err, true, false, cond, refl, sym, ◌∙◌, ap, subst, Vec}
use Rattle.std.specs.Global.{Global}
use Rattle.std.proofs.lemmas.List.{drop_more, drop_all}
use Rattle.jl_logic.specs.Answers.{Fails, Gives}
use Rattle.jl_reading.specs.Reading.{◌>>=◌}
use Rattle.jl_prim.specs.declared.declaration.Observed.{Observed}
use Rattle.jl_tree.specs.declared.entry.Entry.{Entry}
use Rattle.jl_tree.specs.Files.{File}
use Rattle.jl_finder.specs.declared.fault.FindFault.{FindFault}
use Rattle.jl_finder.specs.declared.counts.Counts.{Counts}
use Rattle.jl_finder.specs.Folders.{entries_of, is_module}
use Rattle.jl_finder.specs.Observed.{told, Tally, with_folders, scan_module, scan_entries, scan_listed, scan_element, scan_elements, first_of_each, found_or, observed}
use Rattle.jl_finder.specs.Scanning.{AreEntries, tally_of, declares, listed_found, modules_or, elements_found}
use Rattle.jl_finder.proofs.Entries.{declares_is, entries_are}
use Rattle.jl_finder.proofs.Steps.{step_fails, fails_so, step_done, fails_as, if_told}

abbrev one : Observed × Tally → Result (List Observed × Tally) FindFault
one x = Ok (x.0 ∷ [], x.1)

listed_is : (files : List File) (element : List ℕ) (t : Tally) → scan_listed files element t ≡ cond (is_module files element) (scan_module files element t >>= one) (scan_entries files element (entries_of files element) [] t)
unfolding scan_listed
listed_is files element t = refl

pub listed_directory : (files : List File) (element : List ℕ) (es : List Entry) (t c : Tally) → AreEntries files element es → with_folders 1 t ≡ Ok c → declares es ≡ false → listed_found files element t ≡ scan_entries files element es [] c
listed_directory files element es t c h k d =
    step_done (with_folders 1 t) (scan_listed files element) c k ∙ listed_is files element c
    ∙ ap (λ b. cond b (scan_module files element c >>= one) (scan_entries files element (entries_of files element) [] c)) (sym (declares_is files element es h) ∙ d)
    ∙ ap (λ xs. scan_entries files element xs [] c) (sym (entries_are files element es h))

listed_module : (files : List File) (element : List ℕ) (es : List Entry) (t c : Tally) → AreEntries files element es → with_folders 1 t ≡ Ok c → declares es ≡ true → listed_found files element t ≡ (scan_module files element c >>= one)
listed_module files element es t c h k d =
    step_done (with_folders 1 t) (scan_listed files element) c k ∙ listed_is files element c
    ∙ ap (λ b. cond b (scan_module files element c >>= one) (scan_entries files element (entries_of files element) [] c)) (sym (declares_is files element es h) ∙ d)

pub listed_fails : (files : List File) (element : List ℕ) (es : List Entry) (t c : Tally) (e : FindFault) → AreEntries files element es → with_folders 1 t ≡ Ok c → declares es ≡ true → Fails told e (scan_module files element c) → Fails told e (listed_found files element t)
listed_fails files element es t c e h k d f = fails_so told e _ (listed_found files element t) (listed_module files element es t c h k d) (step_fails told e (scan_module files element c) one f)

pub listed_done : (files : List File) (element : List ℕ) (es : List Entry) (t c n : Tally) (o : Observed) (os : List Observed) → AreEntries files element es → with_folders 1 t ≡ Ok c → declares es ≡ true → scan_module files element c ≡ Ok (o, n) → os ≡ o ∷ [] → listed_found files element t ≡ Ok (os, n)
listed_done files element es t c n o os h k d m q = listed_module files element es t c h k d ∙ step_done (scan_module files element c) one (o, n) m ∙ ap (λ x. Ok (x, n)) (sym q)

-- the same of a copy of the element's path
pub listed_fails_at : (files : List File) (element place : List ℕ) (es : List Entry) (t c : Tally) (e : FindFault) → AreEntries files element es → place ≡ element → with_folders 1 t ≡ Ok c → declares es ≡ true → (AreEntries files place es → Fails told e (scan_module files place c)) → Fails told e (listed_found files element t)
listed_fails_at files element place es t c e h q k d f = listed_fails files element es t c e h k d (subst (λ p. AreEntries files p es → Fails told e (scan_module files p c)) q f h)

pub listed_done_at : (files : List File) (element place : List ℕ) (es : List Entry) (t c n : Tally) (o : Observed) (os : List Observed) → AreEntries files element es → place ≡ element → with_folders 1 t ≡ Ok c → declares es ≡ true → (AreEntries files place es → scan_module files place c ≡ Ok (o, n)) → os ≡ o ∷ [] → listed_found files element t ≡ Ok (os, n)
listed_done_at files element place es t c n o os h q k d f m = listed_done files element es t c n o os h k d (subst (λ p. AreEntries files p es → scan_module files p c ≡ Ok (o, n)) q f h) m

pub listed_so : (r : Result (Vec Observed Global × Counts) FindFault) (d total : Result (List Observed × Tally) FindFault) → total ≡ d → Gives told (λ x. (x.0.items, tally_of x.1)) r d → Gives told (λ x. (x.0.items, tally_of x.1)) r total
listed_so r d total q h = subst (Gives told (λ x. (x.0.items, tally_of x.1)) r) (sym q) h

-- ---- all elements

abbrev rest_of : List File → List (List ℕ) → List Observed → List Observed × Tally → Result (List Observed × Tally) FindFault
rest_of files es done x = scan_elements files es (done ++ x.0) x.1

next_is : (files : List File) (es : List (List ℕ)) (i : ℕ) (x : List ℕ) (done : List Observed) (t : Tally) → i < length es → x ≡ get_or es i x → scan_elements files (drop i es) done t ≡ (scan_element files x t >>= rest_of files (drop (i + 1) es) done)
unfolding scan_elements
next_is files es i x done t lt q =
    let d : drop i es ≡ x ∷ drop (i + 1) es = drop_more es i x lt ∙ ap (λ y. y ∷ drop (i + 1) es) (sym q) in
    ap (λ xs. scan_elements files xs done t) d

or_fails : (r : Result (List Observed × Tally) FindFault) (f : FindFault) → r ≡ Err f → modules_or r ≡ Err f
or_fails r f h = ap modules_or h

pub element_fails : (files : List File) (es : List (List ℕ)) (i : ℕ) (x : List ℕ) (done : List Observed) (t : Tally) (e : FindFault) (total : Result (List Observed) FindFault) → i < length es → x ≡ get_or es i x
    → Fails told e (scan_element files x t) → modules_or (scan_elements files (drop i es) done t) ≡ total → Fails told e total
element_fails files es i x done t e total lt q h so_far =
    fails_as (told e) (scan_element files x t >>= rest_of files (drop (i + 1) es) done) total
    (λ f k. sym so_far ∙ or_fails _ f (next_is files es i x done t lt q ∙ k))
    (step_fails told e (scan_element files x t) (rest_of files (drop (i + 1) es) done) h)

pub element_done : (files : List File) (es : List (List ℕ)) (i : ℕ) (x : List ℕ) (done os after : List Observed) (t n : Tally) (total : Result (List Observed) FindFault) → i < length es → x ≡ get_or es i x
    → scan_element files x t ≡ Ok (os, n) → after ≡ done ++ os → modules_or (scan_elements files (drop i es) done t) ≡ total → modules_or (scan_elements files (drop (i + 1) es) after n) ≡ total
element_done files es i x done os after t n total lt q h k so_far =
    ap (λ d. modules_or (scan_elements files (drop (i + 1) es) d n)) k
    ∙ sym (ap modules_or (next_is files es i x done t lt q ∙ step_done (scan_element files x t) (rest_of files (drop (i + 1) es) done) (os, n) h)) ∙ so_far

pub elements_over : (files : List File) (es : List (List ℕ)) (i : ℕ) (done : List Observed) (t : Tally) → length es ≤ i → modules_or (scan_elements files (drop i es) done t) ≡ Ok done
unfolding scan_elements
elements_over files es i done t le = ap (λ xs. modules_or (scan_elements files xs done t)) (drop_all i es le)

-- ---- what is found

pub found_fails : (o : Option (List File)) (elements : List (List ℕ)) (e : FindFault) → ((files : List File) → o ≡ Some files → Fails told e (elements_found files elements)) → IfSome o (λ files. Fails told e (observed files elements))
found_fails o elements e h = if_told o _ (λ files k. fails_as (told e) (elements_found files elements) (observed files elements) (λ f w. by (scan_elements files elements [] (record { modules = 0; folders = 0 })) f w) (h files k))
  where
    by : (r : Result (List Observed × Tally) FindFault) (f : FindFault) → modules_or r ≡ Err f → found_or r ≡ Err f
    by (Ok x) f w = absurd cc
    by (Err d) f w = let q : d ≡ f = cc in ap (λ t. Err t) q

pub found_all : (o : Option (List File)) (elements : List (List ℕ)) (os kept : List Observed) → ((files : List File) → o ≡ Some files → elements_found files elements ≡ Ok os) → kept ≡ first_of_each os → IfSome o (λ files. observed files elements ≡ Ok kept)
found_all o elements os kept h q = if_told o _ (λ files k. by (scan_elements files elements [] (record { modules = 0; folders = 0 })) (h files k))
  where
    by : (r : Result (List Observed × Tally) FindFault) → modules_or r ≡ Ok os → found_or r ≡ Ok kept
    by (Ok x) w = let p : x.0 ≡ os = cc in ap (λ t. Ok (first_of_each t)) p ∙ ap (λ t. Ok t) (sym q)
    by (Err d) w = absurd cc
