-- What is found, by the places where it stands.
use Rattle.std.proofs.Common.{◌≡◌, ℕ, List, [], ◌∷◌, ◌++◌, length, map, filter, Option, None, Some, Result, Ok, Err, Bool, true, false, cond, not, nat_lt, Contains, ⊎_elim, refl, sym, ◌∙◌, ap, subst, append-nil, append_assoc, true≢false}
use Rattle.std.specs.Prelude.{is_some}
use Rattle.std.specs.List.{flat_map, list_any}
use Rattle.std.proofs.lemmas.List.{map-append}
use Rattle.std.proofs.lemmas.List.Elements.{Contains-append_cases}
use Rattle.jl_logic.specs.Lists.{AreDistinct}
use Rattle.jl_logic.specs.Order.{is_text}
use Rattle.jl_logic.proofs.Rising.{contains_head, contains_tail, contains_nothing, contains_cases}
use Rattle.jl_reading.specs.Reading.{◌>>=◌}
use Rattle.jl_reading.proofs.Steps.{bind_ok, guard_ok, ok_is}
use Rattle.jl_prim.specs.declared.declaration.Declaration.{Declaration}
use Rattle.jl_prim.specs.declared.declaration.Observed.{Observed}
use Rattle.jl_tree.specs.declared.entry.Entry.{Entry}
use Rattle.jl_tree.specs.Files.{File, file_at, entry_in}
use Rattle.jl_tables.specs.declared.fault.InfoFault.{InfoFault}
use Rattle.jl_modinfo.specs.Reading.{info_of}
use Rattle.jl_finder.specs.declared.fault.FindFault.{FindFault}
use Rattle.jl_finder.specs.declared.fault.FindFault.TheVariants as finds
use Rattle.jl_finder.specs.Paths.{path_in, is_archive}
use Rattle.jl_finder.specs.Folders.{entries_of, is_there, declaration_in, is_module, folders_below, packages_below, top_classes}
use Rattle.jl_finder.specs.Observed.{Tally, observed_or, declared_by, beside_or, module_at, content_of, with_module, with_folders, scan_module, name_of, among, scan_folder, scan_entry, scan_entries, scan_listed, scan_element, scan_elements, first_of_each, found_or}
use Rattle.jl_prim.specs.Limits.{most_file_bytes}
use Rattle.jl_finder.specs.Asking.{place_at, place_in, places_of}
use Rattle.jl_finder.specs.Laws.{IsDeclared, FindsByPlaces}
use Rattle.jl_finder.proofs.Members.{name_is, is_name, map_from, map_in, filter_from, filter_in, any_in}
use Rattle.jl_finder.proofs.Asking.{inside}

abbrev place_of : Observed → List ℕ
place_of o = o.place

-- ---- one module

read_well : (place : List ℕ) (r : Result Declaration InfoFault) (o : Observed) → observed_or place r ≡ Ok o → (r ≡ Ok o.declaration) × (o.place ≡ place)
read_well place (Ok d) o e = let q : record { declaration = d; place = place } ≡ o = ok_is {F = FindFault} _ _ e in (ap (λ (t : Observed). Ok t.declaration) q, sym (ap (λ (t : Observed). t.place) q))
read_well place (Err f) o e = absurd cc

beside_well : (place : List ℕ) (tops : List (List ℕ)) (r : Result Observed FindFault) (o : Observed) → beside_or place tops r ≡ Ok o → r ≡ Ok o
beside_well place [] r o e = e
beside_well place (c ∷ cs) r o e = absurd cc

at_well : (files : List File) (place : List ℕ) (o : Observed) → is_module files place ≡ true → module_at files place ≡ Ok o → (o.place ≡ place) × IsDeclared files o
at_well files place o m e = by (file_at files (declaration_in place)) refl
    (beside_well place (top_classes files place) (declared_by place (packages_below files place) (content_of (file_at files (declaration_in place)))) o e)
  where
    by : (c : Option (List ℕ)) → file_at files (declaration_in place) ≡ c → declared_by place (packages_below files place) (content_of (file_at files (declaration_in place))) ≡ Ok o → (o.place ≡ place) × IsDeclared files o
    by None q k = absurd (true≢false (sym m ∙ ap (λ c. is_some c) q))
    by (Some bytes) q k =
        let d : declared_by place (packages_below files place) bytes ≡ Ok o = ap (λ c. declared_by place (packages_below files place) (content_of c)) (sym q) ∙ k in
        let w = guard_ok (nat_lt most_file_bytes (length bytes)) (finds.TooLarge (declaration_in place) (length bytes)) (observed_or place (info_of bytes (packages_below files place))) o d in
        let r = read_well place (info_of bytes (packages_below files place)) o w.1 in (
          r.1,
          record {
            bytes = bytes;
            file = ap (λ p. file_at files (declaration_in p)) r.1 ∙ q;
            declares = ap (λ p. info_of bytes (packages_below files p)) r.1 ∙ r.0;
          },
        )

scanned_well : (files : List File) (place : List ℕ) (t : Tally) (x : Observed × Tally) → is_module files place ≡ true → scan_module files place t ≡ Ok x → (x.0.place ≡ place) × IsDeclared files x.0
unfolding scan_module
scanned_well files place t x m e =
    let a = bind_ok (with_module t) _ x e in
    let b = bind_ok (with_folders (length (folders_below files place)) a.0) _ x a.2 in
    let c = bind_ok (module_at files place) (λ o. Ok (o, b.0)) x b.2 in
    let q : c.0 ≡ x.0 = ap (λ (y : Observed × Tally). y.0) (ok_is {F = FindFault} (c.0, b.0) x c.2) in
    subst (λ o. (o.place ≡ place) × IsDeclared files o) q (at_well files place c.0 m c.1)

-- ---- modules at places

-- modules that stand at these places, in order, each declared there
record Stand (files : List File) (places : List (List ℕ)) (os : List Observed) : Type 0 where
  pub at : map place_of os ≡ places
  pub each : (o : Observed) → Contains os o → IsDeclared files o

none_stand : (files : List File) → Stand files [] []
none_stand files = record { at = refl; each = λ o c. contains_nothing o c }

one_stands : (files : List File) (place : List ℕ) (o : Observed) → (o.place ≡ place) × IsDeclared files o → Stand files (place ∷ []) (o ∷ [])
one_stands files place o h = record {
  at = ap (λ p. p ∷ []) h.0;
  each = λ x c. ⊎_elim (λ q. subst (IsDeclared files) q h.1) (λ n. contains_nothing x n) (contains_cases o x [] c);
}

both_stand : (files : List File) (ps qs : List (List ℕ)) (os us : List Observed) → Stand files ps os → Stand files qs us → Stand files (ps ++ qs) (os ++ us)
both_stand files ps qs os us h k = record {
  at = map-append place_of os us ∙ (λ i. h.at i ++ k.at i);
  each = λ o c. ⊎_elim (λ m. h.each o m) (λ m. k.each o m) (Contains-append_cases os us o c);
}

stand_so : (files : List File) (ps qs : List (List ℕ)) (os : List Observed) → ps ≡ qs → Stand files ps os → Stand files qs os
stand_so files ps qs os q h = subst (λ t. Stand files t os) q h

-- what was found before, and behind it modules at these places
record More (files : List File) (done : List Observed) (places : List (List ℕ)) (after : List Observed) : Type 0 where
  pub new : List Observed
  pub behind : after ≡ done ++ new
  pub stand : Stand files places new

no_more : (files : List File) (done : List Observed) → More files done [] done
no_more files done = record { new = []; behind = sym (append-nil done); stand = none_stand files }

more_so : (files : List File) (done after : List Observed) (ps qs : List (List ℕ)) → ps ≡ qs → More files done ps after → More files done qs after
more_so files done after ps qs q h = subst (λ t. More files done t after) q h

more_then : (files : List File) (done mid after : List Observed) (ps qs : List (List ℕ)) → More files done ps mid → More files mid qs after → More files done (ps ++ qs) after
more_then files done mid after ps qs h k = record {
  new = h.new ++ k.new;
  behind = k.behind ∙ ap (λ t. t ++ k.new) h.behind ∙ append_assoc done h.new k.new;
  stand = both_stand files ps qs h.new k.new h.stand k.stand;
}

among_well : (dir : List ℕ) (done : List Observed) (x : Observed × Tally) (y : List Observed × Tally) → among dir done x ≡ Ok y → y.0 ≡ done ++ x.0 ∷ []
among_well dir done (o, t) y e =
    let g = guard_ok (list_any (λ (p : Observed). is_text (name_of p) (name_of o)) done) (finds.TwoInDirectory dir (name_of o)) (Ok (done ++ o ∷ [], t)) y e in
    sym (ap (λ (z : List Observed × Tally). z.0) (ok_is {F = FindFault} (done ++ o ∷ [], t) y g.1))

folder_well : (files : List File) (dir name : List ℕ) (done : List Observed) (t : Tally) (y : List Observed × Tally) → scan_folder files dir name done t ≡ Ok y → More files done (place_at files (path_in dir name)) y.0
unfolding scan_folder
folder_well files dir name done t y e =
    let a = bind_ok (with_folders 1 t) _ y e in
    by (is_module files (path_in dir name)) refl a.0 a.2
  where
    place : List ℕ
    place = path_in dir name

    by : (m : Bool) → is_module files place ≡ m → (listed : Tally) → cond (is_module files place) (scan_module files place listed >>= among dir done) (Ok (done, listed)) ≡ Ok y → More files done (place_at files place) y.0
    by true q listed k =
        let s = bind_ok (scan_module files place listed) (among dir done) y (sym (ap (λ m. cond m (scan_module files place listed >>= among dir done) (Ok (done, listed))) q) ∙ k) in
        record {
          new = s.0.0 ∷ [];
          behind = among_well dir done s.0 y s.2;
          stand = stand_so files (place ∷ []) (place_at files place) (s.0.0 ∷ []) (sym (ap (λ m. cond m (place ∷ []) []) q)) (one_stands files place s.0.0 (scanned_well files place listed s.0 q s.1));
        }
    by false q listed k =
        let d : done ≡ y.0 = ap (λ (z : List Observed × Tally). z.0) (ok_is {F = FindFault} (done, listed) y (sym (ap (λ m. cond m (scan_module files place listed >>= among dir done) (Ok (done, listed))) q) ∙ k)) in
        subst (λ os. More files done (place_at files place) os) d (more_so files done done [] (place_at files place) (sym (ap (λ m. cond m (place ∷ []) []) q)) (no_more files done))

entry_well : (files : List File) (dir : List ℕ) (e : Entry) (done : List Observed) (t : Tally) (y : List Observed × Tally) → scan_entry files dir e done t ≡ Ok y → More files done (place_in files dir e) y.0
entry_well files dir e done t y h =
    let g = guard_ok (is_archive e.name) (finds.Archive (path_in dir e.name)) _ y h in
    by e.is_dir refl g.1
  where
    by : (d : Bool) → e.is_dir ≡ d → cond e.is_dir (scan_folder files dir e.name done t) (Ok (done, t)) ≡ Ok y → More files done (place_in files dir e) y.0
    by true q k = more_so files done y.0 (place_at files (path_in dir e.name)) (place_in files dir e) (sym (ap (λ d. cond d (place_at files (path_in dir e.name)) []) q))
        (folder_well files dir e.name done t y (sym (ap (λ d. cond d (scan_folder files dir e.name done t) (Ok (done, t))) q) ∙ k))
    by false q k =
        let d : done ≡ y.0 = ap (λ (z : List Observed × Tally). z.0) (ok_is {F = FindFault} (done, t) y (sym (ap (λ d. cond d (scan_folder files dir e.name done t) (Ok (done, t))) q) ∙ k)) in
        subst (λ os. More files done (place_in files dir e) os) d (more_so files done done [] (place_in files dir e) (sym (ap (λ d. cond d (place_at files (path_in dir e.name)) []) q)) (no_more files done))

entries_well : (files : List File) (dir : List ℕ) (es : List Entry) (done : List Observed) (t : Tally) (y : List Observed × Tally) → scan_entries files dir es done t ≡ Ok y → More files done (flat_map (place_in files dir) es) y.0
unfolding scan_entries
entries_well files dir [] done t y h = subst (λ os. More files done [] os) (ap (λ (z : List Observed × Tally). z.0) (ok_is {F = FindFault} (done, t) y h)) (no_more files done)
entries_well files dir (e ∷ es) done t y h =
    let s = bind_ok (scan_entry files dir e done t) (λ x. scan_entries files dir es x.0 x.1) y h in
    more_then files done s.0.0 y.0 (place_in files dir e) (flat_map (place_in files dir) es) (entry_well files dir e done t s.0 s.1) (entries_well files dir es s.0.0 s.0.1 y s.2)

listed_well : (files : List File) (element : List ℕ) (t : Tally) (y : List Observed × Tally) → scan_listed files element t ≡ Ok y → More files [] (places_of files element) y.0
unfolding scan_listed
listed_well files element t y h = by (is_module files element) refl h
  where
    one : Result (List Observed × Tally) FindFault
    one = scan_module files element t >>= λ x. Ok (x.0 ∷ [], x.1)

    some : Result (List Observed × Tally) FindFault
    some = scan_entries files element (entries_of files element) [] t

    by : (m : Bool) → is_module files element ≡ m → cond (is_module files element) one some ≡ Ok y → More files [] (places_of files element) y.0
    by true q k =
        let s = bind_ok (scan_module files element t) (λ x. Ok (x.0 ∷ [], x.1)) y (sym (ap (λ m. cond m one some) q) ∙ k) in
        record {
          new = s.0.0 ∷ [];
          behind = sym (ap (λ (z : List Observed × Tally). z.0) (ok_is {F = FindFault} (s.0.0 ∷ [], s.0.1) y s.2));
          stand = stand_so files (element ∷ []) (places_of files element) (s.0.0 ∷ []) (sym (ap (λ m. cond m (element ∷ []) (flat_map (place_in files element) (entries_of files element))) q)) (one_stands files element s.0.0 (scanned_well files element t s.0 q s.1));
        }
    by false q k = more_so files [] y.0 (flat_map (place_in files element) (entries_of files element)) (places_of files element)
        (sym (ap (λ m. cond m (element ∷ []) (flat_map (place_in files element) (entries_of files element))) q))
        (entries_well files element (entries_of files element) [] t y (sym (ap (λ m. cond m one some) q) ∙ k))

-- a folder that is not there has no modules
none_there : (files : List File) (element : List ℕ) → is_there files element ≡ false → [] ≡ places_of files element
none_there files element h = inside files element [] (record {
  rise = tt;
  all = λ f e c q. absurd (true≢false (sym (any_in (λ (g : File). is_some (entry_in element g.path)) files f c (ap (λ o. is_some o) q)) ∙ h));
  only = λ e c. contains_nothing e c;
}) refl

element_well : (files : List File) (element : List ℕ) (t : Tally) (y : List Observed × Tally) → scan_element files element t ≡ Ok y → More files [] (places_of files element) y.0
element_well files element t y h =
    let g = guard_ok (is_archive element) (finds.Archive element) _ y h in
    by (is_there files element) refl g.1
  where
    by : (m : Bool) → is_there files element ≡ m → cond (is_there files element) (with_folders 1 t >>= scan_listed files element) (Ok ([], t)) ≡ Ok y → More files [] (places_of files element) y.0
    by true q k =
        let s = bind_ok (with_folders 1 t) (scan_listed files element) y (sym (ap (λ m. cond m (with_folders 1 t >>= scan_listed files element) (Ok ([], t))) q) ∙ k) in
        listed_well files element s.0 y s.2
    by false q k =
        let d : [] ≡ y.0 = ap (λ (z : List Observed × Tally). z.0) (ok_is {F = FindFault} ([], t) y (sym (ap (λ m. cond m (with_folders 1 t >>= scan_listed files element) (Ok ([], t))) q) ∙ k)) in
        subst (λ os. More files [] (places_of files element) os) d (more_so files [] [] [] (places_of files element) (none_there files element q) (no_more files []))

elements_well : (files : List File) (elements : List (List ℕ)) (done : List Observed) (t : Tally) (y : List Observed × Tally) → scan_elements files elements done t ≡ Ok y → More files done (flat_map (places_of files) elements) y.0
unfolding scan_elements
elements_well files [] done t y h = subst (λ os. More files done [] os) (ap (λ (z : List Observed × Tally). z.0) (ok_is {F = FindFault} (done, t) y h)) (no_more files done)
elements_well files (e ∷ es) done t y h =
    let s = bind_ok (scan_element files e t) (λ x. scan_elements files es (done ++ x.0) x.1) y h in
    let m = element_well files e t s.0 s.1 in
    more_then files done (done ++ s.0.0) y.0 (places_of files e) (flat_map (places_of files) es)
    (record { new = s.0.0; behind = refl; stand = subst (λ os. Stand files (places_of files e) os) (sym m.behind) m.stand }) (elements_well files es (done ++ s.0.0) s.0.1 y s.2)

-- ---- the first of each name

abbrev others : Observed → List Observed → List Observed
others o os = filter (λ (p : Observed). not (is_text (name_of p) (name_of o))) os

unlike : (a b : List ℕ) → not (is_text a b) ≡ true → a ≡ b → ⊥
unlike a b h e = true≢false (sym h ∙ ap not (is_name a b e))

first_from : (os : List Observed) (o : Observed) → Contains (first_of_each os) o → Contains os o
unfolding first_of_each
first_from [] o c = contains_nothing o c
first_from (x ∷ xs) o c = ⊎_elim (λ q. subst (Contains (x ∷ xs)) q (contains_head x xs)) (λ m. contains_tail x o xs (first_from xs o (filter_from (λ (p : Observed). not (is_text (name_of p) (name_of x))) (first_of_each xs) o m).0)) (contains_cases x o (others x (first_of_each xs)) c)

filter_distinct : (p : Observed → Bool) (os : List Observed) → AreDistinct (map name_of os) → AreDistinct (map name_of (filter p os))
filter_distinct p [] d = tt
filter_distinct p (o ∷ os) d = by (p o) (filter_distinct p os d.1)
  where
    by : (b : Bool) → AreDistinct (map name_of (filter p os)) → AreDistinct (map name_of (cond b (o ∷ filter p os) (filter p os)))
    by true k = (λ c. let m = map_from name_of (filter p os) (name_of o) c in d.0 (subst (Contains (map name_of os)) m.2 (map_in name_of os m.0 (filter_from p os m.0 m.1).0)), k)
    by false k = k

first_distinct : (os : List Observed) → AreDistinct (map name_of (first_of_each os))
unfolding first_of_each
first_distinct [] = tt
first_distinct (o ∷ os) = (
  λ c. let m = map_from name_of (others o (first_of_each os)) (name_of o) c in unlike (name_of m.0) (name_of o) (filter_from (λ (p : Observed). not (is_text (name_of p) (name_of o))) (first_of_each os) m.0 m.1).1 m.2,
  filter_distinct (λ (p : Observed). not (is_text (name_of p) (name_of o))) (first_of_each os) (first_distinct os),
)

first_names : (os : List Observed) (o : Observed) → Contains os o → Contains (map name_of (first_of_each os)) (name_of o)
unfolding first_of_each
first_names [] o c = contains_nothing o c
first_names (x ∷ xs) o c = ⊎_elim
    (λ q. subst (λ t. Contains (map name_of (x ∷ others x (first_of_each xs))) (name_of t)) q (contains_head (name_of x) (map name_of (others x (first_of_each xs)))))
    (λ m. let r = map_from name_of (first_of_each xs) (name_of o) (first_names xs o m) in by r.0 r.1 r.2 (is_text (name_of r.0) (name_of x)) refl)
    (contains_cases x o xs c)
  where
    by : (r : Observed) → Contains (first_of_each xs) r → name_of r ≡ name_of o → (b : Bool) → is_text (name_of r) (name_of x) ≡ b → Contains (map name_of (x ∷ others x (first_of_each xs))) (name_of o)
    by r m e true q = subst (λ n. Contains (map name_of (x ∷ others x (first_of_each xs))) n) (sym (name_is (name_of r) (name_of x) q) ∙ e) (contains_head (name_of x) (map name_of (others x (first_of_each xs))))
    by r m e false q = contains_tail (name_of x) (name_of o) (map name_of (others x (first_of_each xs)))
        (subst (Contains (map name_of (others x (first_of_each xs)))) e (map_in name_of (others x (first_of_each xs)) r (filter_in (λ (p : Observed). not (is_text (name_of p) (name_of x))) (first_of_each xs) r m (ap not q))))

-- ---- what is found

found_well : (r : Result (List Observed × Tally) FindFault) (found : List Observed) → found_or r ≡ Ok found → (x : List Observed × Tally) × (r ≡ Ok x) × (first_of_each x.0 ≡ found)
found_well (Ok x) found e = (x, refl, ok_is {F = FindFault} (first_of_each x.0) found e)
found_well (Err f) found e = absurd cc

pub finds_by_places : FindsByPlaces
finds_by_places files elements found e =
    let w = found_well (scan_elements files elements [] (record { modules = 0; folders = 0 })) found e in
    let m = elements_well files elements [] (record { modules = 0; folders = 0 }) w.0 w.1 in
    let all : w.0.0 ≡ m.new = m.behind in
    let first : first_of_each m.new ≡ found = ap first_of_each (sym all) ∙ w.2 in
    let from : (o : Observed) → Contains found o → Contains m.new o = λ o c. first_from m.new o (subst (λ os. Contains os o) (sym first) c) in
    record {
      names = subst (λ os. AreDistinct (map name_of os)) first (first_distinct m.new);
      placed = λ o c. subst (λ ps. Contains ps o.place) m.stand.at (map_in place_of m.new o (from o c));
      declared = λ o c. m.stand.each o (from o c);
      all = λ place c.
          let r = map_from place_of m.new place (subst (λ ps. Contains ps place) (sym m.stand.at) c) in
          (r.0, r.2, m.stand.each r.0 r.1, subst (λ os. Contains (map name_of os) (name_of r.0)) first (first_names m.new r.0 r.1));
    }
