-- Which declaration files are read until the first fault, step by step.
use Rattle.std.proofs.Common.{◌≡◌, ◌⊎◌, ◌<◌, ◌≤◌, ◌+◌, ℕ, List, [], ◌∷◌, ◌++◌, length, map, get_or, drop, Option, None, Some, Result, Ok, Err, true, false, cond, refl, sym, ◌∙◌, ap, subst, append-nil, append_assoc}
use Rattle.std.specs.Prelude.{MatchOption, ⊤, find}
use Rattle.std.proofs.lemmas.List.{drop_more, drop_all}
use Rattle.jl_logic.specs.Answers.{Fails}
use Rattle.jl_prim.specs.declared.declaration.Observed.{Observed}
use Rattle.jl_tree.specs.declared.entry.Entry.{Entry}
use Rattle.jl_tree.specs.Files.{File, asked_for}
use Rattle.jl_finder.specs.declared.fault.FindFault.{FindFault}
use Rattle.jl_finder.specs.Paths.{path_in, is_archive}
use Rattle.jl_finder.specs.Folders.{entries_of, is_there, is_module, declaration_in, folders_below, top_classes}
use Rattle.jl_finder.specs.Observed.{told, Tally, with_module, with_folders, scan_entry, scan_element}
use Rattle.jl_finder.specs.Scanning.{AreEntries, TellsNothing, declares, is_top_class, walked_from, entry_found, with_found}
use Rattle.jl_finder.specs.Asking.{AsksUpTo, Asks, AsksTo, asked_at, reads_behind, reads_beside, reads_of_module, reads_of_folder, reads_of_entry, reads_of_entries, reads_of_listed, reads_of_element, reads_of_elements}
use Rattle.jl_finder.proofs.Entries.{declares_is, entries_are, tops_are}
use Rattle.jl_finder.proofs.Steps.{fails_as, step_fails, fails_so, step_done}
use Rattle.jl_finder.proofs.Modules.{walked_fails, walked_well, found_none, found_some}
use Rattle.jl_finder.proofs.Scans.{entry_is}
use Rattle.jl_finder.proofs.Asking.{Asked, asked_twice, asks_nothing, asked_nothing, asks_all, asks_one, asked_one}

-- Of these places the declaration files of a front were asked for, and the rest is to come.
pub record AsksBefore (asked : Asked) (places rest : List (List ℕ)) (after : Asked) : Type 0 where
  pub front : List (List ℕ)
  pub whole : places ≡ front ++ rest
  pub asks : after ≡ asked_at asked front

pub before_all : (o : Asked) (ps : List (List ℕ)) → AsksBefore o ps ps o
before_all o ps = record { front = []; whole = refl; asks = asked_nothing o o [] refl refl }

-- ---- the rest

pub ends_after : (e : FindFault) (o m n : Asked) (ps rest : List (List ℕ)) → AsksBefore o ps rest m → AsksTo e m rest n → AsksTo e o ps n
ends_after e o m n ps rest b h = by (told e) h
  where
    by : (t : Option FindFault) → MatchOption t (AsksUpTo m rest n) (λ f. n ≡ asked_at m rest) → MatchOption t (AsksUpTo o ps n) (λ f. n ≡ asked_at o ps)
    by None k = record {
      front = b.front ++ k.front;
      rest = k.rest;
      whole = b.whole ∙ ap (λ t. b.front ++ t) k.whole ∙ sym (append_assoc b.front k.front k.rest);
      asks = k.asks ∙ ap (λ t. asked_at t k.front) b.asks ∙ asked_twice o b.front k.front;
    }
    by (Some f) k = k ∙ ap (λ t. asked_at t rest) b.asks ∙ asked_twice o b.front rest ∙ ap (asked_at o) (sym b.whole)

-- all were asked for, whatever comes of it
pub ends_whole : (e : FindFault) (o n : Asked) (ps : List (List ℕ)) → n ≡ asked_at o ps → AsksTo e o ps n
ends_whole e o n ps q = by (told e)
  where
    by : (t : Option FindFault) → MatchOption t (AsksUpTo o ps n) (λ f. n ≡ asked_at o ps)
    by None = asks_all o n ps q
    by (Some f) = q

pub asks_whole : {X : Type 0} (r : Result X FindFault) (o n : Asked) (ps : List (List ℕ)) → n ≡ asked_at o ps → Asks r o ps n
asks_whole (Ok x) o n ps q = q
asks_whole (Err e) o n ps q = ends_whole e o n ps q

-- ---- steps

-- a step that is a fault, before anything was asked for
pub ends_first : {X : Type 0} (e : FindFault) (r : Result X FindFault) (reads : X → List (List ℕ)) (o n : Asked) → Fails told e r → n ≡ o → AsksTo e o (reads_behind r reads) n
ends_first e r reads o n h q = by (told e) h
  where
    by : (t : Option FindFault) → MatchOption t ⊤ (λ f. r ≡ Err f) → MatchOption t (AsksUpTo o (reads_behind r reads) n) (λ f. n ≡ asked_at o (reads_behind r reads))
    by None k = asks_nothing o n (reads_behind r reads) q
    by (Some f) k = asked_nothing o n (reads_behind r reads) (ap (λ t. reads_behind t reads) k) q

-- a step that is a fault, behind what it asked for
pub ends_behind : {X : Type 0} (e : FindFault) (r : Result X FindFault) (reads : X → List (List ℕ)) (o n : Asked) (ps : List (List ℕ)) → Fails told e r → AsksTo e o ps n → AsksTo e o (ps ++ reads_behind r reads) n
ends_behind e r reads o n ps h q = by (told e) h q
  where
    by : (t : Option FindFault) → MatchOption t ⊤ (λ f. r ≡ Err f) → MatchOption t (AsksUpTo o ps n) (λ f. n ≡ asked_at o ps) → MatchOption t (AsksUpTo o (ps ++ reads_behind r reads) n) (λ f. n ≡ asked_at o (ps ++ reads_behind r reads))
    by None k j = record {
      front = j.front;
      rest = j.rest ++ reads_behind r reads;
      whole = ap (λ t. t ++ reads_behind r reads) j.whole ∙ append_assoc j.front j.rest (reads_behind r reads);
      asks = j.asks;
    }
    by (Some f) k j = j ∙ ap (asked_at o) (sym (append-nil ps) ∙ ap (λ t. ps ++ t) (sym (ap (λ t. reads_behind t reads) k)))

-- an end that tells nothing, before anything was asked for
pub ends_untold : (e : FindFault) (o n : Asked) (ps : List (List ℕ)) → TellsNothing e → n ≡ o → AsksTo e o ps n
ends_untold e o n ps h q = subst (λ t. MatchOption t (AsksUpTo o ps n) (λ f. n ≡ asked_at o ps)) (sym h) (asks_nothing o n ps q)

-- what holds under another spelling, behind steps that asked for nothing
pub ends_so : (e : FindFault) (o m n : Asked) (ps qs : List (List ℕ)) → m ≡ o → ps ≡ qs → AsksTo e m ps n → AsksTo e o qs n
ends_so e o m n ps qs q r h = subst (λ t. AsksTo e t qs n) q (subst (λ t. AsksTo e m t n) r h)

pub reads_so : {X : Type 0} (r : Result X FindFault) (o m n : Asked) (ps qs : List (List ℕ)) → m ≡ o → ps ≡ qs → Asks r m ps n → Asks r o qs n
reads_so r o m n ps qs q k h = subst (λ t. Asks r t qs n) q (subst (λ t. Asks r m t n) k h)

behind_ok : {X : Type 0} (r : Result X FindFault) (reads : X → List (List ℕ)) (x : X) → r ≡ Ok x → reads_behind r reads ≡ reads x
behind_ok r reads x h = ap (λ t. reads_behind t reads) h

-- a file that was asked for where the answer tells that it is too long
pub ends_read : (e : FindFault) (o n : Asked) (place file : List ℕ) → file ≡ declaration_in place → (n ≡ o) ⊎ (n ≡ asked_for o file) → MatchOption (told e) ⊤ (λ _. n ≡ asked_for o file) → AsksTo e o (place ∷ []) n
ends_read e o n place file q h k = by (told e) k
  where
    by : (t : Option FindFault) → MatchOption t ⊤ (λ _. n ≡ asked_for o file) → MatchOption t (AsksUpTo o (place ∷ []) n) (λ _. n ≡ asked_at o (place ∷ []))
    by None j = asks_one o n place file q h
    by (Some f) j = asked_one o n place file q j

-- ---- one module

pub uncounted_reads : (files : List File) (place : List ℕ) (t : Tally) (e : FindFault) (o n : Asked) → Fails told e (with_module t) → n ≡ o → AsksTo e o (reads_of_module files place t) n
uncounted_reads files place t e o n h q =
    ends_first e (with_module t) (λ counted. reads_behind (with_folders (length (folders_below files place)) counted) (λ walked. reads_beside place (top_classes files place))) o n h q

-- what is read of a module whose folders were walked
pub beside_reads : (files : List File) (place : List ℕ) (t c : Tally) (packages : List (List ℕ)) (n : ℕ) → with_module t ≡ Ok c → walked_from files place c.folders ≡ Ok (packages, n)
    → reads_beside place (top_classes files place) ≡ reads_of_module files place t
beside_reads files place t c packages n h k =
    sym (behind_ok (with_module t) (λ counted. reads_behind (with_folders (length (folders_below files place)) counted) (λ walked. reads_beside place (top_classes files place))) c h
    ∙ behind_ok (with_folders (length (folders_below files place)) c) (λ walked. reads_beside place (top_classes files place)) (record c { folders = n }) (walked_well files place c packages n k).1)

pub unwalked_reads : (files : List File) (place : List ℕ) (t c : Tally) (e : FindFault) (o n : Asked) → with_module t ≡ Ok c → Fails told e (walked_from files place c.folders) → n ≡ o → AsksTo e o (reads_of_module files place t) n
unwalked_reads files place t c e o n h k q =
    ends_so e o o n _ (reads_of_module files place t) refl
    (sym (behind_ok (with_module t) (λ counted. reads_behind (with_folders (length (folders_below files place)) counted) (λ walked. reads_beside place (top_classes files place))) c h))
    (ends_first e (with_folders (length (folders_below files place)) c) (λ walked. reads_beside place (top_classes files place)) o n (fails_as (told e) (walked_from files place c.folders) (with_folders (length (folders_below files place)) c) (λ f w. walked_fails files place c f w) k) q)

pub none_reads : (files : List File) (place : List ℕ) (es : List Entry) → AreEntries files place es → find is_top_class es ≡ None → place ∷ [] ≡ reads_beside place (top_classes files place)
none_reads files place es h n =
    let t : top_classes files place ≡ [] = sym (tops_are files place es h) ∙ ap (λ xs. map (λ (e : Entry). e.name) xs) (found_none is_top_class es n) in
    ap (reads_beside place) (sym t)

pub one_reads : (files : List File) (place : List ℕ) (es : List Entry) (x : Entry) → AreEntries files place es → find is_top_class es ≡ Some x → reads_beside place (top_classes files place) ≡ []
one_reads files place es x h n =
    let r = found_some is_top_class es x n in
    let t : top_classes files place ≡ x.name ∷ map (λ (e : Entry). e.name) r.0 = sym (tops_are files place es h) ∙ ap (λ xs. map (λ (e : Entry). e.name) xs) r.1 in
    ap (reads_beside place) t

-- ---- a folder of a directory

pub folder_uncounted : (files : List File) (place : List ℕ) (t : Tally) (e : FindFault) (o n : Asked) → Fails told e (with_folders 1 t) → n ≡ o → AsksTo e o (reads_of_folder files place t) n
folder_uncounted files place t e o n h q = ends_first e (with_folders 1 t) (λ listed. cond (is_module files place) (reads_of_module files place listed) []) o n h q

pub folder_reads : (files : List File) (place : List ℕ) (es : List Entry) (t c : Tally) → AreEntries files place es → with_folders 1 t ≡ Ok c → declares es ≡ true → reads_of_module files place c ≡ reads_of_folder files place t
folder_reads files place es t c h k d =
    sym (behind_ok (with_folders 1 t) (λ listed. cond (is_module files place) (reads_of_module files place listed) []) c k
    ∙ ap (λ b. cond b (reads_of_module files place c) []) (sym (declares_is files place es h) ∙ d))

pub folder_unread : (files : List File) (place : List ℕ) (es : List Entry) (t c : Tally) → AreEntries files place es → with_folders 1 t ≡ Ok c → declares es ≡ false → reads_of_folder files place t ≡ []
folder_unread files place es t c h k d =
    behind_ok (with_folders 1 t) (λ listed. cond (is_module files place) (reads_of_module files place listed) []) c k
    ∙ ap (λ b. cond b (reads_of_module files place c) []) (sym (declares_is files place es h) ∙ d)

pub entry_reads : (files : List File) (dir place : List ℕ) (e : Entry) (t : Tally) → place ≡ path_in dir e.name → is_archive e.name ≡ false → e.is_dir ≡ true → reads_of_folder files place t ≡ reads_of_entry files dir e t
entry_reads files dir place e t q a d =
    ap (λ p. reads_of_folder files p t) q
    ∙ sym (ap (λ b. cond b [] (cond e.is_dir (reads_of_folder files (path_in dir e.name) t) [])) a ∙ ap (λ b. cond b (reads_of_folder files (path_in dir e.name) t) []) d)

-- ---- an element

pub listed_uncounted : (files : List File) (element : List ℕ) (t : Tally) (e : FindFault) (o n : Asked) → Fails told e (with_folders 1 t) → n ≡ o → AsksTo e o (reads_behind (with_folders 1 t) (reads_of_listed files element)) n
listed_uncounted files element t e o n h q = ends_first e (with_folders 1 t) (reads_of_listed files element) o n h q

pub itself_reads : (files : List File) (element : List ℕ) (es : List Entry) (t c : Tally) → AreEntries files element es → with_folders 1 t ≡ Ok c → declares es ≡ true
    → reads_of_module files element c ≡ reads_behind (with_folders 1 t) (reads_of_listed files element)
itself_reads files element es t c h k d =
    sym (behind_ok (with_folders 1 t) (reads_of_listed files element) c k
    ∙ ap (λ b. cond b (reads_of_module files element c) (reads_of_entries files element (entries_of files element) [] c)) (sym (declares_is files element es h) ∙ d))

pub inside_reads : (files : List File) (element : List ℕ) (es : List Entry) (t c : Tally) → AreEntries files element es → with_folders 1 t ≡ Ok c → declares es ≡ false
    → reads_of_entries files element es [] c ≡ reads_behind (with_folders 1 t) (reads_of_listed files element)
inside_reads files element es t c h k d =
    ap (λ xs. reads_of_entries files element xs [] c) (entries_are files element es h)
    ∙ sym (behind_ok (with_folders 1 t) (reads_of_listed files element) c k
    ∙ ap (λ b. cond b (reads_of_module files element c) (reads_of_entries files element (entries_of files element) [] c)) (sym (declares_is files element es h) ∙ d))

pub element_reads : (files : List File) (element : List ℕ) (t : Tally) → is_archive element ≡ false → is_there files element ≡ true → reads_behind (with_folders 1 t) (reads_of_listed files element) ≡ reads_of_element files element t
element_reads files element t a h =
    sym (ap (λ b. cond b [] (cond (is_there files element) (reads_behind (with_folders 1 t) (reads_of_listed files element)) [])) a
    ∙ ap (λ b. cond b (reads_behind (with_folders 1 t) (reads_of_listed files element)) []) h)

pub element_unread : (files : List File) (element : List ℕ) (t : Tally) → is_archive element ≡ false → is_there files element ≡ false → reads_of_element files element t ≡ []
element_unread files element t a h =
    ap (λ b. cond b [] (cond (is_there files element) (reads_behind (with_folders 1 t) (reads_of_listed files element)) [])) a
    ∙ ap (λ b. cond b (reads_behind (with_folders 1 t) (reads_of_listed files element)) []) h

-- ---- entries in turn

entries_step : (files : List File) (dir : List ℕ) (es : List Entry) (i : ℕ) (x : Entry) (done : List Observed) (t : Tally) → i < length es → x ≡ get_or es i x
    → reads_of_entries files dir (drop i es) done t ≡ reads_of_entry files dir x t ++ reads_behind (scan_entry files dir x done t) (λ y. reads_of_entries files dir (drop (i + 1) es) y.0 y.1)
unfolding reads_of_entries
entries_step files dir es i x done t lt q =
    let d : drop i es ≡ x ∷ drop (i + 1) es = drop_more es i x lt ∙ ap (λ y. y ∷ drop (i + 1) es) (sym q) in
    ap (λ xs. reads_of_entries files dir xs done t) d

-- an entry with a fault, or with a fault in what it holds
pub entry_ends_reads : (files : List File) (dir : List ℕ) (es : List Entry) (i : ℕ) (x : Entry) (done : List Observed) (t : Tally) (e : FindFault) (o m n : Asked) (ps : List (List ℕ)) → i < length es → x ≡ get_or es i x
    → AsksBefore o ps (reads_of_entries files dir (drop i es) done t) m → Fails told e (scan_entry files dir x done t) → AsksTo e m (reads_of_entry files dir x t) n → AsksTo e o ps n
entry_ends_reads files dir es i x done t e o m n ps lt q b h k =
    ends_after e o m n ps (reads_of_entries files dir (drop i es) done t) b
    (ends_so e m m n _ (reads_of_entries files dir (drop i es) done t) refl (sym (entries_step files dir es i x done t lt q))
    (ends_behind e (scan_entry files dir x done t) (λ y. reads_of_entries files dir (drop (i + 1) es) y.0 y.1) m n (reads_of_entry files dir x t) h k))

pub entry_fault : (files : List File) (dir : List ℕ) (x : Entry) (done : List Observed) (t : Tally) (e : FindFault) → Fails told e (entry_found files dir x t) → Fails told e (scan_entry files dir x done t)
entry_fault files dir x done t e h = fails_so told e _ (scan_entry files dir x done t) (entry_is files dir x done t) (step_fails told e (entry_found files dir x t) (with_found dir done) h)

pub found_fault : (files : List File) (dir : List ℕ) (x : Entry) (done : List Observed) (t : Tally) (found : Option Observed × Tally) (e : FindFault) → entry_found files dir x t ≡ Ok found → Fails told e (with_found dir done found) → Fails told e (scan_entry files dir x done t)
found_fault files dir x done t found e h k = fails_so told e _ (scan_entry files dir x done t) (entry_is files dir x done t ∙ step_done (entry_found files dir x t) (with_found dir done) found h) k

pub entry_reads_on : (files : List File) (dir : List ℕ) (es : List Entry) (i : ℕ) (x : Entry) (done after : List Observed) (t a : Tally) (found : Option Observed × Tally) (o m n : Asked) (ps : List (List ℕ)) → i < length es → x ≡ get_or es i x
    → AsksBefore o ps (reads_of_entries files dir (drop i es) done t) m → entry_found files dir x t ≡ Ok found → with_found dir done found ≡ Ok (after, a) → n ≡ asked_at m (reads_of_entry files dir x t)
    → AsksBefore o ps (reads_of_entries files dir (drop (i + 1) es) after a) n
entry_reads_on files dir es i x done after t a found o m n ps lt q b h k j =
    let s : scan_entry files dir x done t ≡ Ok (after, a) = entry_is files dir x done t ∙ step_done (entry_found files dir x t) (with_found dir done) found h ∙ k in
    record {
      front = b.front ++ reads_of_entry files dir x t;
      whole = b.whole ∙ ap (λ r. b.front ++ r) (entries_step files dir es i x done t lt q ∙ ap (λ r. reads_of_entry files dir x t ++ reads_behind r (λ y. reads_of_entries files dir (drop (i + 1) es) y.0 y.1)) s)
          ∙ sym (append_assoc b.front (reads_of_entry files dir x t) (reads_of_entries files dir (drop (i + 1) es) after a));
      asks = j ∙ ap (λ r. asked_at r (reads_of_entry files dir x t)) b.asks ∙ asked_twice o b.front (reads_of_entry files dir x t);
    }

nothing_left : (o m : Asked) (ps rest : List (List ℕ)) → rest ≡ [] → AsksBefore o ps rest m → m ≡ asked_at o ps
nothing_left o m ps rest q b = b.asks ∙ ap (asked_at o) (sym (b.whole ∙ ap (λ r. b.front ++ r) q ∙ append-nil b.front))

pub entries_read : (files : List File) (dir : List ℕ) (es : List Entry) (i : ℕ) (done : List Observed) (t : Tally) (o m : Asked) (ps : List (List ℕ)) → length es ≤ i → AsksBefore o ps (reads_of_entries files dir (drop i es) done t) m → m ≡ asked_at o ps
unfolding reads_of_entries
entries_read files dir es i done t o m ps le b = nothing_left o m ps _ (ap (λ xs. reads_of_entries files dir xs done t) (drop_all i es le)) b

-- ---- elements in turn

pub first_element : (es : List (List ℕ)) (i : ℕ) (x element : List ℕ) (rest : List (List ℕ)) → es ≡ element ∷ rest → i ≡ 0 → x ≡ get_or es i x → element ≡ x
first_element es i x element rest h z q = sym (q ∙ ap (λ j. get_or es j x) z ∙ ap (λ xs. get_or xs 0 x) h)

elements_step : (files : List File) (es : List (List ℕ)) (i : ℕ) (x : List ℕ) (t : Tally) → i < length es → x ≡ get_or es i x
    → reads_of_elements files (drop i es) t ≡ reads_of_element files x t ++ reads_behind (scan_element files x t) (λ y. reads_of_elements files (drop (i + 1) es) y.1)
unfolding reads_of_elements
elements_step files es i x t lt q =
    let d : drop i es ≡ x ∷ drop (i + 1) es = drop_more es i x lt ∙ ap (λ y. y ∷ drop (i + 1) es) (sym q) in
    ap (λ xs. reads_of_elements files xs t) d

pub element_ends_reads : (files : List File) (es : List (List ℕ)) (i : ℕ) (x : List ℕ) (t : Tally) (e : FindFault) (o m n : Asked) (ps : List (List ℕ)) → i < length es → x ≡ get_or es i x
    → AsksBefore o ps (reads_of_elements files (drop i es) t) m → Fails told e (scan_element files x t) → AsksTo e m (reads_of_element files x t) n → AsksTo e o ps n
element_ends_reads files es i x t e o m n ps lt q b h k =
    ends_after e o m n ps (reads_of_elements files (drop i es) t) b
    (ends_so e m m n _ (reads_of_elements files (drop i es) t) refl (sym (elements_step files es i x t lt q))
    (ends_behind e (scan_element files x t) (λ y. reads_of_elements files (drop (i + 1) es) y.1) m n (reads_of_element files x t) h k))

pub element_reads_on : (files : List File) (es : List (List ℕ)) (i : ℕ) (x : List ℕ) (os : List Observed) (t a : Tally) (o m n : Asked) (ps : List (List ℕ)) → i < length es → x ≡ get_or es i x
    → AsksBefore o ps (reads_of_elements files (drop i es) t) m → scan_element files x t ≡ Ok (os, a) → n ≡ asked_at m (reads_of_element files x t)
    → AsksBefore o ps (reads_of_elements files (drop (i + 1) es) a) n
element_reads_on files es i x os t a o m n ps lt q b h j = record {
  front = b.front ++ reads_of_element files x t;
  whole = b.whole ∙ ap (λ r. b.front ++ r) (elements_step files es i x t lt q ∙ ap (λ r. reads_of_element files x t ++ reads_behind r (λ y. reads_of_elements files (drop (i + 1) es) y.1)) h)
      ∙ sym (append_assoc b.front (reads_of_element files x t) (reads_of_elements files (drop (i + 1) es) a));
  asks = j ∙ ap (λ r. asked_at r (reads_of_element files x t)) b.asks ∙ asked_twice o b.front (reads_of_element files x t);
}

pub elements_read : (files : List File) (es : List (List ℕ)) (i : ℕ) (t : Tally) (o m : Asked) (ps : List (List ℕ)) → length es ≤ i → AsksBefore o ps (reads_of_elements files (drop i es) t) m → m ≡ asked_at o ps
unfolding reads_of_elements
elements_read files es i t o m ps le b = nothing_left o m ps _ (ap (λ xs. reads_of_elements files xs t) (drop_all i es le)) b

-- what was asked for so far, where memory ends
pub ends_so_far : (o m : Asked) (ps rest : List (List ℕ)) → AsksBefore o ps rest m → AsksUpTo o ps m
ends_so_far o m ps rest b = record { front = b.front; rest = rest; whole = b.whole; asks = b.asks }
