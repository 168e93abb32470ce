-- One module: its declaration file, the class files beside it, and the limits.
use Rattle.std.proofs.Common.{◌≡◌, IfSome, ℕ, ◌+◌, List, [], ◌∷◌, length, map, filter, Option, None, Some, Result, Ok, Err, Bool, true, false, cond, nat_lt, refl, sym, ◌∙◌, ap, subst}
use Rattle.std.specs.List.{find}
use Rattle.jl_logic.specs.Answers.{Fails, Gives}
use Rattle.jl_reading.specs.Reading.{◌>>=◌}
use Rattle.jl_modinfo.specs.Reading.{info_of}
use Rattle.jl_prim.specs.declared.declaration.Observed.{Observed}
use Rattle.jl_tree.specs.declared.entry.Entry.{Entry}
use Rattle.jl_tree.specs.Files.{File, file_at}
use Rattle.jl_finder.specs.declared.fault.FindFault.{FindFault}
use Rattle.jl_finder.specs.declared.fault.FindFault.TheVariants as finds
use Rattle.jl_finder.specs.Paths.{path_in}
use Rattle.jl_finder.specs.Folders.{declaration_in, folders_below, packages_below, top_classes}
use Rattle.jl_finder.specs.Observed.{told, Tally, observed_or, content_of, declared_by, beside_or, module_at, with_module, with_folders, scan_module}
use Rattle.jl_prim.specs.Limits.{most_file_bytes, most_folders}
use Rattle.jl_finder.specs.Scanning.{AreEntries, is_top_class, walked_from, whole_content}
use Rattle.jl_finder.proofs.Entries.{tops_are, some_told}
use Rattle.jl_finder.proofs.Steps.{step_fails, fails_so, step_done, fails_as}

-- the same of one module
pub module_so : (r d total : Result Observed FindFault) → total ≡ d → Gives told (λ o. o) r d → Gives told (λ o. o) r total
module_so r d total q h = subst (Gives told (λ o. o) r) (sym q) h

-- ---- the declaration file

declared_none : (place file : List ℕ) (packages : List (List ℕ)) (o : Option (List ℕ)) → whole_content file o ≡ Ok None → declared_by place packages (content_of o) ≡ observed_or place (info_of [] packages)
declared_none place file packages None h = refl
declared_none place file packages (Some bytes) h = by (nat_lt most_file_bytes (length bytes)) h
  where
    by : (b : Bool) → cond b (Err (finds.TooLarge file (length bytes))) (Ok (Some bytes)) ≡ Ok None → cond b (Err (finds.TooLarge (declaration_in place) (length bytes))) (observed_or place (info_of bytes packages)) ≡ observed_or place (info_of [] packages)
    by true k = absurd cc
    by false k = let q : Some bytes ≡ None = cc in absurd cc

declared_some : (place file : List ℕ) (packages : List (List ℕ)) (o : Option (List ℕ)) (content : List ℕ) → whole_content file o ≡ Ok (Some content) → declared_by place packages (content_of o) ≡ observed_or place (info_of content packages)
declared_some place file packages None content h = let q : None ≡ Some content = cc in absurd cc
declared_some place file packages (Some bytes) content h = by (nat_lt most_file_bytes (length bytes)) h
  where
    by : (b : Bool) → cond b (Err (finds.TooLarge file (length bytes))) (Ok (Some bytes)) ≡ Ok (Some content) → cond b (Err (finds.TooLarge (declaration_in place) (length bytes))) (observed_or place (info_of bytes packages)) ≡ observed_or place (info_of content packages)
    by true k = absurd cc
    by false k = let q : Some bytes ≡ Some content = cc in let w : bytes ≡ content = cc in ap (λ t. observed_or place (info_of t packages)) w

declared_large : (place file : List ℕ) (packages : List (List ℕ)) (o : Option (List ℕ)) (f : FindFault) → file ≡ declaration_in place → whole_content file o ≡ Err f → declared_by place packages (content_of o) ≡ Err f
declared_large place file packages None f e h = absurd cc
declared_large place file packages (Some bytes) f e h = by (nat_lt most_file_bytes (length bytes)) h
  where
    by : (b : Bool) → cond b (Err (finds.TooLarge file (length bytes))) (Ok (Some bytes)) ≡ Err f → cond b (Err (finds.TooLarge (declaration_in place) (length bytes))) (observed_or place (info_of bytes packages)) ≡ Err f
    by true k = ap (λ p. Err (finds.TooLarge p (length bytes))) (sym e) ∙ retype k
      where
        retype : ◌≡◌ {A = Result (Option (List ℕ)) FindFault} (Err (finds.TooLarge file (length bytes))) (Err f) → ◌≡◌ {A = Result Observed FindFault} (Err (finds.TooLarge file (length bytes))) (Err f)
        retype q = let r : finds.TooLarge file (length bytes) ≡ f = cc in ap (λ t. Err t) r
    by false k = absurd cc

moved : (files : List File) (place file : List ℕ) (packages : List (List ℕ)) → file ≡ declaration_in place → declared_by place packages (content_of (file_at files (declaration_in place))) ≡ declared_by place packages (content_of (file_at files file))
moved files place file packages q = ap (λ t. declared_by place packages (content_of (file_at files t))) (sym q)

pub told_none : (o : Option (List File)) (files : List File) (place file : List ℕ) (packages : List (List ℕ)) (l : Option (List ℕ)) → o ≡ Some files → l ≡ None → IfSome o (λ fs. whole_content file (file_at fs file) ≡ Ok l) → file ≡ declaration_in place
    → declared_by place packages (content_of (file_at files (declaration_in place))) ≡ observed_or place (info_of [] packages)
told_none o files place file packages l e k h q = moved files place file packages q ∙ declared_none place file packages (file_at files file) (some_told o (λ fs. whole_content file (file_at fs file) ≡ Ok l) files e h ∙ ap (λ t. Ok t) k)

pub told_some : (o : Option (List File)) (files : List File) (place file content : List ℕ) (packages : List (List ℕ)) (l : Option (List ℕ)) → o ≡ Some files → l ≡ Some content → IfSome o (λ fs. whole_content file (file_at fs file) ≡ Ok l) → file ≡ declaration_in place
    → declared_by place packages (content_of (file_at files (declaration_in place))) ≡ observed_or place (info_of content packages)
told_some o files place file content packages l e k h q = moved files place file packages q ∙ declared_some place file packages (file_at files file) content (some_told o (λ fs. whole_content file (file_at fs file) ≡ Ok l) files e h ∙ ap (λ t. Ok t) k)

pub told_large : (o : Option (List File)) (files : List File) (place file : List ℕ) (packages : List (List ℕ)) (e : FindFault) → o ≡ Some files → IfSome o (λ fs. Fails told e (whole_content file (file_at fs file))) → file ≡ declaration_in place
    → Fails told e (declared_by place packages (content_of (file_at files (declaration_in place))))
told_large o files place file packages e k h q = fails_as (told e) (whole_content file (file_at files file)) (declared_by place packages (content_of (file_at files (declaration_in place))))
    (λ f w. moved files place file packages q ∙ declared_large place file packages (file_at files file) f q w) (some_told o (λ fs. Fails told e (whole_content file (file_at fs file))) files k h)

-- ---- class files beside it

pub found_none : (p : Entry → Bool) (es : List Entry) → find p es ≡ None → filter p es ≡ []
found_none p [] h = refl
found_none p (e ∷ es) h = by (p e) (found_none p es) h
  where
    by : (b : Bool) → (find p es ≡ None → filter p es ≡ []) → cond b (Some e) (find p es) ≡ None → cond b (e ∷ filter p es) (filter p es) ≡ []
    by true later k = absurd cc
    by false later k = later k

pub found_some : (p : Entry → Bool) (es : List Entry) (x : Entry) → find p es ≡ Some x → (rest : List Entry) × (filter p es ≡ x ∷ rest)
found_some p [] x h = absurd cc
found_some p (e ∷ es) x h = by (p e) (found_some p es x) h
  where
    by : (b : Bool) → (find p es ≡ Some x → (rest : List Entry) × (filter p es ≡ x ∷ rest)) → cond b (Some e) (find p es) ≡ Some x → (rest : List Entry) × (cond b (e ∷ filter p es) (filter p es) ≡ x ∷ rest)
    by true later k = let q : e ≡ x = cc in (filter p es, ap (λ t. t ∷ filter p es) q)
    by false later k = later k

pub none_beside : (files : List File) (place : List ℕ) (es : List Entry) (packages : List (List ℕ)) → AreEntries files place es → find is_top_class es ≡ None → packages ≡ packages_below files place
    → module_at files place ≡ declared_by place packages (content_of (file_at files (declaration_in place)))
none_beside files place es packages h n q =
    let t : top_classes files place ≡ [] = sym (tops_are files place es h) ∙ ap (λ xs. map (λ (e : Entry). e.name) xs) (found_none is_top_class es n) in
    ap (λ cs. beside_or place cs (declared_by place (packages_below files place) (content_of (file_at files (declaration_in place))))) t ∙ ap (λ ps. declared_by place ps (content_of (file_at files (declaration_in place)))) (sym q)

pub one_beside : (files : List File) (place : List ℕ) (es : List Entry) (x : Entry) (path : List ℕ) → AreEntries files place es → find is_top_class es ≡ Some x → path ≡ path_in place x.name
    → module_at files place ≡ Err (finds.TopLevelClass path)
one_beside files place es x path h n q =
    let r = found_some is_top_class es x n in
    let t : top_classes files place ≡ x.name ∷ map (λ (e : Entry). e.name) r.0 = sym (tops_are files place es h) ∙ ap (λ xs. map (λ (e : Entry). e.name) xs) r.1 in
    ap (λ cs. beside_or place cs (declared_by place (packages_below files place) (content_of (file_at files (declaration_in place))))) t ∙ ap (λ p. Err (finds.TopLevelClass p)) (sym q)

-- ---- a module is counted, walked and read

pub walked_fails : (files : List File) (place : List ℕ) (t : Tally) (f : FindFault) → walked_from files place t.folders ≡ Err f → with_folders (length (folders_below files place)) t ≡ Err f
walked_fails files place t f h = by (nat_lt most_folders (t.folders + length (folders_below files place))) h
  where
    by : (b : Bool) → cond {A = Result (List (List ℕ) × ℕ) FindFault} b (Err finds.TooMany) (Ok (packages_below files place, t.folders + length (folders_below files place))) ≡ Err f → cond b (Err finds.TooMany) (Ok (record t { folders = t.folders + length (folders_below files place) })) ≡ Err f
    by true k = let q : finds.TooMany ≡ f = cc in ap (λ x. Err x) q
    by false k = absurd cc

pub walked_well : (files : List File) (place : List ℕ) (t : Tally) (packages : List (List ℕ)) (n : ℕ) → walked_from files place t.folders ≡ Ok (packages, n)
    → (packages ≡ packages_below files place) × (with_folders (length (folders_below files place)) t ≡ Ok (record t { folders = n }))
walked_well files place t packages n h = by (nat_lt most_folders (t.folders + length (folders_below files place))) h
  where
    by : (b : Bool) → cond {A = Result (List (List ℕ) × ℕ) FindFault} b (Err finds.TooMany) (Ok (packages_below files place, t.folders + length (folders_below files place))) ≡ Ok (packages, n)
        → (packages ≡ packages_below files place) × (cond b (Err finds.TooMany) (Ok (record t { folders = t.folders + length (folders_below files place) })) ≡ Ok (record t { folders = n }))
    by true k = absurd cc
    by false k =
        let q : ◌≡◌ {A = List (List ℕ) × ℕ} (packages_below files place, t.folders + length (folders_below files place)) (packages, n) = cc in
        let p : packages_below files place ≡ packages = ap (λ x. x.0) q in
        let m : t.folders + length (folders_below files place) ≡ n = ap (λ x. x.1) q in
        (sym p, ap (λ x. Ok (record t { folders = x })) m)

pub walked_packages : (files : List File) (place : List ℕ) (n : ℕ) (packages : List (List ℕ)) (m : ℕ) → walked_from files place n ≡ Ok (packages, m) → packages ≡ packages_below files place
walked_packages files place n packages m h = (walked_well files place (record { modules = 0; folders = n }) packages m h).0

abbrev paired : Tally → Observed → Result (Observed × Tally) FindFault
paired walked o = Ok (o, walked)

abbrev rest_of : List File → List ℕ → Tally → Result (Observed × Tally) FindFault
rest_of files place walked = module_at files place >>= paired walked

scan_is : (files : List File) (place : List ℕ) (t : Tally) → scan_module files place t ≡ (with_module t >>= λ c. with_folders (length (folders_below files place)) c >>= rest_of files place)
unfolding scan_module
scan_is files place t = refl

pub uncounted : (files : List File) (place : List ℕ) (t : Tally) (e : FindFault) → Fails told e (with_module t) → Fails told e (scan_module files place t)
uncounted files place t e h = fails_so told e _ (scan_module files place t) (scan_is files place t) (step_fails told e (with_module t) (λ c. with_folders (length (folders_below files place)) c >>= rest_of files place) h)

after_count : (files : List File) (place : List ℕ) (t c : Tally) → with_module t ≡ Ok c → scan_module files place t ≡ (with_folders (length (folders_below files place)) c >>= rest_of files place)
after_count files place t c h = scan_is files place t ∙ step_done (with_module t) (λ c. with_folders (length (folders_below files place)) c >>= rest_of files place) c h

pub unwalked : (files : List File) (place : List ℕ) (t c : Tally) (e : FindFault) → with_module t ≡ Ok c → Fails told e (walked_from files place c.folders) → Fails told e (scan_module files place t)
unwalked files place t c e h k =
    fails_so told e _ (scan_module files place t) (after_count files place t c h)
    (step_fails told e (with_folders (length (folders_below files place)) c) (rest_of files place) (fails_as (told e) (walked_from files place c.folders) (with_folders (length (folders_below files place)) c) (λ f q. walked_fails files place c f q) k))

after_walk : (files : List File) (place : List ℕ) (t c : Tally) (packages : List (List ℕ)) (n : ℕ) → with_module t ≡ Ok c → walked_from files place c.folders ≡ Ok (packages, n) → scan_module files place t ≡ rest_of files place (record c { folders = n })
after_walk files place t c packages n h k = after_count files place t c h ∙ step_done (with_folders (length (folders_below files place)) c) (rest_of files place) (record c { folders = n }) (walked_well files place c packages n k).1

pub unread : (files : List File) (place : List ℕ) (t c : Tally) (packages : List (List ℕ)) (n : ℕ) (e : FindFault) → with_module t ≡ Ok c → walked_from files place c.folders ≡ Ok (packages, n) → Fails told e (module_at files place)
    → Fails told e (scan_module files place t)
unread files place t c packages n e h k f =
    fails_so told e _ (scan_module files place t) (after_walk files place t c packages n h k) (step_fails told e (module_at files place) (paired (record c { folders = n })) f)

pub scanned_well : (files : List File) (place : List ℕ) (t c : Tally) (packages : List (List ℕ)) (n : ℕ) (o : Observed) → with_module t ≡ Ok c → walked_from files place c.folders ≡ Ok (packages, n) → module_at files place ≡ Ok o
    → scan_module files place t ≡ Ok (o, record c { folders = n })
scanned_well files place t c packages n o h k m = after_walk files place t c packages n h k ∙ step_done (module_at files place) (paired (record c { folders = n })) o m
