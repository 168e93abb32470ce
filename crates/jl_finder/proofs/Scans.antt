-- Directories and elements: what each step of a scan gives.
use Rattle.std.proofs.Common.{◌≡◌, ◌<◌, ◌≤◌, ℕ, ◌+◌, List, [], ◌∷◌, ◌++◌, length, get_or, drop, map, Option, None, Some, Result, Ok, Err, Bool, true, false, cond, ◌||◌, nat_eq, refl, sym, ◌∙◌, ap}
use Rattle.std.specs.List.{list_any}
use Rattle.std.specs.Cmp.Lexicographic.{pointwise, nat_list_eq_equiv}
use Rattle.std.proofs.lemmas.List.{drop_more, drop_all, map-append}
use Rattle.indexmap.specs.IndexSet.{insert_key}
use Rattle.jl_logic.specs.Answers.{Fails}
use Rattle.jl_logic.specs.Order.{is_text}
use Rattle.jl_reading.specs.Reading.{◌>>=◌}
use Rattle.jl_prim.specs.declared.declaration.Observed.{Observed}
use Rattle.jl_tree.specs.declared.entry.Entry.{Entry}
use Rattle.jl_tree.specs.Files.{File}
use Rattle.jl_finder.specs.declared.fault.FindFault.{FindFault}
use Rattle.jl_finder.specs.declared.fault.FindFault.TheVariants as finds
use Rattle.jl_finder.specs.Paths.{path_in, is_archive}
use Rattle.jl_finder.specs.Folders.{is_module}
use Rattle.jl_finder.specs.Observed.{told, Tally, with_folders, scan_module, name_of, among, scan_folder, scan_entry, scan_entries}
use Rattle.jl_finder.specs.Scanning.{AreEntries, declares, some_module, folder_found, entry_found, with_found}
use Rattle.jl_finder.proofs.Entries.{declares_is}
use Rattle.jl_finder.proofs.Steps.{step_fails, fails_so, step_done}

-- ---- a folder of a directory

counted_folder : (files : List File) (place : List ℕ) (t c : Tally) → with_folders 1 t ≡ Ok c → folder_found files place t ≡ cond (is_module files place) (scan_module files place c >>= (λ x. Ok (some_module x))) (Ok (None, c))
counted_folder files place t c h = step_done (with_folders 1 t) (λ listed. cond (is_module files place) (scan_module files place listed >>= (λ x. Ok (some_module x))) (Ok (None, listed))) c h

pub folder_without : (files : List File) (place : List ℕ) (es : List Entry) (t c : Tally) → AreEntries files place es → with_folders 1 t ≡ Ok c → declares es ≡ false → folder_found files place t ≡ Ok (None, c)
folder_without files place es t c h k d =
    counted_folder files place t c k ∙ ap (λ b. cond b (scan_module files place c >>= (λ x. Ok (some_module x))) (Ok (None, c))) (sym (declares_is files place es h) ∙ d)

folder_module : (files : List File) (place : List ℕ) (es : List Entry) (t c : Tally) → AreEntries files place es → with_folders 1 t ≡ Ok c → declares es ≡ true → folder_found files place t ≡ (scan_module files place c >>= (λ x. Ok (some_module x)))
folder_module files place es t c h k d =
    counted_folder files place t c k ∙ ap (λ b. cond b (scan_module files place c >>= (λ x. Ok (some_module x))) (Ok (None, c))) (sym (declares_is files place es h) ∙ d)

pub folder_fails : (files : List File) (place : List ℕ) (es : List Entry) (t c : Tally) (e : FindFault) → AreEntries files place es → with_folders 1 t ≡ Ok c → declares es ≡ true → Fails told e (scan_module files place c) → Fails told e (folder_found files place t)
folder_fails files place es t c e h k d f = fails_so told e _ (folder_found files place t) (folder_module files place es t c h k d) (step_fails told e (scan_module files place c) (λ x. Ok (some_module x)) f)

pub folder_done : (files : List File) (place : List ℕ) (es : List Entry) (t c : Tally) (o : Observed) (n : Tally) → AreEntries files place es → with_folders 1 t ≡ Ok c → declares es ≡ true → scan_module files place c ≡ Ok (o, n) → folder_found files place t ≡ Ok (Some o, n)
folder_done files place es t c o n h k d m = folder_module files place es t c h k d ∙ step_done (scan_module files place c) (λ x. Ok (some_module x)) (o, n) m

-- ---- the entries of a directory in turn

-- an entry's part of the definition, by what it holds
pub entry_is : (files : List File) (dir : List ℕ) (e : Entry) (done : List Observed) (t : Tally) → scan_entry files dir e done t ≡ (entry_found files dir e t >>= with_found dir done)
unfolding scan_folder
entry_is files dir e done t = by (is_archive e.name) e.is_dir
  where
    place : List ℕ
    place = path_in dir e.name

    inner : (r : Result (Observed × Tally) FindFault) → (r >>= among dir done) ≡ ((r >>= (λ x. Ok (some_module x))) >>= with_found dir done)
    inner (Ok x) = refl
    inner (Err f) = refl

    choose : (m : Bool) (listed : Tally) → cond m (scan_module files place listed >>= among dir done) (Ok (done, listed)) ≡ (cond m (scan_module files place listed >>= (λ x. Ok (some_module x))) (Ok (None, listed)) >>= with_found dir done)
    choose true listed = inner (scan_module files place listed)
    choose false listed = refl

    folder : (r : Result Tally FindFault) → (r >>= λ listed. cond (is_module files place) (scan_module files place listed >>= among dir done) (Ok (done, listed)))
        ≡ ((r >>= λ listed. cond (is_module files place) (scan_module files place listed >>= (λ x. Ok (some_module x))) (Ok (None, listed))) >>= with_found dir done)
    folder (Ok listed) = choose (is_module files place) listed
    folder (Err f) = refl

    by : (a d : Bool) → cond a (Err (finds.Archive place)) (cond d (scan_folder files dir e.name done t) (Ok (done, t)))
        ≡ (cond a (Err (finds.Archive place)) (cond d (folder_found files place t) (Ok (None, t))) >>= with_found dir done)
    by true d = refl
    by false true = folder (with_folders 1 t)
    by false false = refl

abbrev rest_from : List File → List ℕ → List Entry → List Observed × Tally → Result (List Observed × Tally) FindFault
rest_from files dir es x = scan_entries files dir es x.0 x.1

next_is : (files : List File) (dir : List ℕ) (e : Entry) (es : List Entry) (done : List Observed) (t : Tally) → scan_entries files dir (e ∷ es) done t ≡ ((entry_found files dir e t >>= with_found dir done) >>= rest_from files dir es)
unfolding scan_entries
next_is files dir e es done t = ap (λ r. r >>= rest_from files dir es) (entry_is files dir e done t)

front_is : (files : List File) (dir : List ℕ) (es : List Entry) (i : ℕ) (e : Entry) (done : List Observed) (t : Tally) → i < length es → e ≡ get_or es i e
    → scan_entries files dir (drop i es) done t ≡ ((entry_found files dir e t >>= with_found dir done) >>= rest_from files dir (drop (i + 1) es))
front_is files dir es i e done t lt q =
    let d : drop i es ≡ e ∷ drop (i + 1) es = drop_more es i e lt ∙ ap (λ x. x ∷ drop (i + 1) es) (sym q) in
    ap (λ xs. scan_entries files dir xs done t) d ∙ next_is files dir e (drop (i + 1) es) done t

-- an entry with a fault ends the scan
pub entry_fails : (files : List File) (dir : List ℕ) (es : List Entry) (i : ℕ) (x : Entry) (done : List Observed) (t : Tally) (e : FindFault) (total : Result (List Observed × Tally) FindFault) → i < length es → x ≡ get_or es i x
    → Fails told e (entry_found files dir x t) → scan_entries files dir (drop i es) done t ≡ total → Fails told e total
entry_fails files dir es i x done t e total lt q h so_far =
    fails_so told e _ total (sym so_far ∙ front_is files dir es i x done t lt q)
    (step_fails told e (entry_found files dir x t >>= with_found dir done) (rest_from files dir (drop (i + 1) es)) (step_fails told e (entry_found files dir x t) (with_found dir done) h))

-- what an entry holds ends the scan
pub entry_ends : (files : List File) (dir : List ℕ) (es : List Entry) (i : ℕ) (x : Entry) (done : List Observed) (t : Tally) (o : Option Observed × Tally) (e : FindFault) (total : Result (List Observed × Tally) FindFault) → i < length es → x ≡ get_or es i x
    → entry_found files dir x t ≡ Ok o → Fails told e (with_found dir done o) → scan_entries files dir (drop i es) done t ≡ total → Fails told e total
entry_ends files dir es i x done t o e total lt q h f so_far =
    fails_so told e _ total (sym so_far ∙ front_is files dir es i x done t lt q ∙ ap (λ r. r >>= rest_from files dir (drop (i + 1) es)) (step_done (entry_found files dir x t) (with_found dir done) o h))
    (step_fails told e (with_found dir done o) (rest_from files dir (drop (i + 1) es)) f)

-- what an entry holds goes behind the others
pub entry_steps : (files : List File) (dir : List ℕ) (es : List Entry) (i : ℕ) (x : Entry) (done after : List Observed) (t n : Tally) (o : Option Observed × Tally) (total : Result (List Observed × Tally) FindFault) → i < length es → x ≡ get_or es i x
    → entry_found files dir x t ≡ Ok o → with_found dir done o ≡ Ok (after, n) → scan_entries files dir (drop i es) done t ≡ total → scan_entries files dir (drop (i + 1) es) after n ≡ total
entry_steps files dir es i x done after t n o total lt q h k so_far =
    sym (step_done (entry_found files dir x t >>= with_found dir done) (rest_from files dir (drop (i + 1) es)) (after, n) (step_done (entry_found files dir x t) (with_found dir done) o h ∙ k))
    ∙ sym (front_is files dir es i x done t lt q) ∙ so_far

pub entries_over : (files : List File) (dir : List ℕ) (es : List Entry) (i : ℕ) (done : List Observed) (t : Tally) → length es ≤ i → scan_entries files dir (drop i es) done t ≡ Ok (done, t)
unfolding scan_entries
entries_over files dir es i done t le = ap (λ xs. scan_entries files dir xs done t) (drop_all i es le)

named_any : (done : List Observed) (n : List ℕ) → list_any (λ (p : Observed). is_text (name_of p) n) done ≡ list_any (pointwise nat_eq n) (map name_of done)
named_any [] n = refl
named_any (o ∷ os) n = λ i. nat_list_eq_equiv.symm (name_of o) n i || named_any os n i

seen_as : (done : List Observed) (o : Observed) (keys : List (List ℕ)) (name : List ℕ) → keys ≡ map name_of done → name ≡ name_of o → list_any (λ (p : Observed). is_text (name_of p) (name_of o)) done ≡ list_any (pointwise nat_eq name) keys
seen_as done o keys name k m = named_any done (name_of o) ∙ (ap (λ z. list_any (pointwise nat_eq z) (map name_of done)) (sym m) ∙ ap (λ z. list_any (pointwise nat_eq name) z) (sym k))

-- a module with a new name goes behind the others
pub among_new : (dir : List ℕ) (done : List Observed) (o : Observed) (keys : List (List ℕ)) (name : List ℕ) (t : Tally) → keys ≡ map name_of done → name ≡ name_of o → list_any (pointwise nat_eq name) keys ≡ false
    → among dir done (o, t) ≡ Ok (done ++ o ∷ [], t)
among_new dir done o keys name t k m new = ap (λ b. cond b (Err (finds.TwoInDirectory dir (name_of o))) (Ok (done ++ o ∷ [], t))) (seen_as done o keys name k m ∙ new)

pub names_new : (done : List Observed) (o : Observed) (keys : List (List ℕ)) (name : List ℕ) → keys ≡ map name_of done → name ≡ name_of o → list_any (pointwise nat_eq name) keys ≡ false
    → insert_key (pointwise nat_eq) keys name ≡ map name_of (done ++ o ∷ [])
names_new done o keys name k m new = ap (λ b. cond b keys (keys ++ name ∷ [])) new ∙ (λ j. k j ++ m j ∷ []) ∙ sym (map-append name_of done (o ∷ []))

-- a module whose name is there is a fault
pub among_old : (dir : List ℕ) (done : List Observed) (o : Observed) (keys : List (List ℕ)) (name : List ℕ) (t : Tally) → keys ≡ map name_of done → name ≡ name_of o → list_any (pointwise nat_eq name) keys ≡ true
    → among dir done (o, t) ≡ Err (finds.TwoInDirectory dir (name_of o))
among_old dir done o keys name t k m old = ap (λ b. cond b (Err (finds.TwoInDirectory dir (name_of o))) (Ok (done ++ o ∷ [], t))) (seen_as done o keys name k m ∙ old)
