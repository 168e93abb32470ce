-- The folders below a module's folder: what a walk over them knows, and what it has found at its end.
use Rattle.std.proofs.Common.{◌≡◌, ◌⊎◌, ◌≤◌, ◌<◌, ℕ, suc, zero, ◌+◌, ◌-◌, List, [], ◌∷◌, ◌++◌, length, get_or, take, map, filter, Option, None, Some, Result, Ok, Err, Bool, true, false, cond, ◌||◌, ◌&&◌, nat_lt, codes, Contains, inl, inr, ⊎_elim, refl, sym, ◌∙◌, ap, subst, true≢false, append_assoc, append-nil, length-append, Ordering, Less, Equal, Greater, arith, IsPermutation, IsSorted}
use Rattle.std.specs.Prelude.{slice_get, IfOk, IfErr}
use Rattle.std.specs.List.{flat_map, list_any, list_all, IsDistinct}
use Rattle.std.specs.Ordering.{is_lt, is_eq, ordering_reverse}
use Rattle.std.specs.Cmp.Lexicographic.{nat_list_cmp_total, nat_list_eq_equiv, texts_ties}
use Rattle.std.proofs.Math.Bool.{and-true, or-false}
use Rattle.std.proofs.lemmas.Bool.{cases_Bool, not-true, eqb-true, lt-ltb, ltb-true, and_parts, and_from}
use Rattle.std.proofs.lemmas.Bool.Decides.{Decides-eqb}
use Rattle.std.proofs.lemmas.Slice.Eq.{ends_is}
use Rattle.std.proofs.lemmas.List.{take_more, take_all}
use Rattle.std.proofs.lemmas.List.Folds.{list_all-append}
use Rattle.std.proofs.lemmas.List.Elements.{All-contains, All-from_recursion, filter-append, Contains-append_left, Contains-append_right, Contains-append_cases}
use Rattle.std.proofs.lemmas.List.Sorted.{Contains-permutation, IsPermutation-sym, ranks_by, sorted_far}
use Rattle.std.proofs.lemmas.Map.Keys.{IsDistinct-IsPermutation}
use Rattle.std.proofs.lemmas.Map.Made.{length-le_from_is_member}
use Rattle.std.proofs.lemmas.Map.Views.{list_any-from_Contains, Contains-from_any}
use Rattle.std.proofs.lemmas.Option.{slice_get_within, get_or_from_slice_get, slice_get-get_or}
use Rattle.indexmap.specs.IndexSet.{insert_key, insert_all}
use Rattle.jl_logic.specs.Order.{is_text, name_cmp, RisesBy}
use Rattle.jl_logic.proofs.Rising.{contains_head, contains_tail, contains_nothing, contains_cases, each_from_members, each_of_member, apart_from_total, same_rising}
use Rattle.jl_names.specs.Names.{is_slash, parts, with_first, package_of}
use Rattle.jl_tree.specs.declared.entry.Entry.{Entry}
use Rattle.jl_tree.specs.Files.{File}
use Rattle.jl_finder.specs.declared.fault.FindFault.{FindFault}
use Rattle.jl_finder.specs.declared.fault.FindFault.TheVariants as finds
use Rattle.jl_finder.specs.Paths.{path_in, rests, is_nested, fronts, is_class_file, is_walked}
use Rattle.jl_finder.specs.Folders.{entries_of, is_reached, folders_below, packages_below}
use Rattle.jl_finder.specs.Observed.{told}
use Rattle.jl_prim.specs.Limits.{most_folders}
use Rattle.jl_finder.specs.declared.walk.Walked.{Walked}
use Rattle.jl_logic.specs.Answers.{Gives, Fails}
use Rattle.jl_finder.specs.Scanning.{AreEntries, is_class_entry, is_walked_entry, holds_class, walked_in, walked_from, walked_of, Steps, AreSortedNames}
use Rattle.jl_finder.proofs.Members.{name_is, same_bool, map_from, map_in, flat_from, flat_in, filter_from, filter_in, any_from, any_in, in_order_from, in_order_in, in_order_rises}
use Rattle.jl_finder.proofs.Entries.{file_entry, entry_file, folder_entry, entry_folder, rest_from, rest_in}

-- ---- names of folders

fronts_from : (rest r : List ℕ) → Contains (fronts rest) r → (tail : List ℕ) × (rest ≡ r ++ 47 ∷ tail)
unfolding fronts
fronts_from [] r c = contains_nothing r c
fronts_from (b ∷ bs) r c = by (is_slash b) refl (fronts_from bs) c
  where
    more : ((q : List ℕ) → Contains (fronts bs) q → (tail : List ℕ) × (bs ≡ q ++ 47 ∷ tail)) → Contains (map (λ f. b ∷ f) (fronts bs)) r → (tail : List ℕ) × (b ∷ bs ≡ r ++ 47 ∷ tail)
    more later k = let m = map_from (λ f. b ∷ f) (fronts bs) r k in let w = later m.0 m.1 in (w.0, ap (λ t. b ∷ t) w.1 ∙ ap (λ t. t ++ 47 ∷ w.0) m.2)

    by : (s : Bool) → is_slash b ≡ s → ((q : List ℕ) → Contains (fronts bs) q → (tail : List ℕ) × (bs ≡ q ++ 47 ∷ tail)) → Contains (cond s ([] ∷ map (λ f. b ∷ f) (fronts bs)) (map (λ f. b ∷ f) (fronts bs))) r → (tail : List ℕ) × (b ∷ bs ≡ r ++ 47 ∷ tail)
    by true e later k = ⊎_elim (λ q. (bs, ap (λ t. t ∷ bs) (eqb-true b 47 e) ∙ ap (λ t. t ++ 47 ∷ bs) q)) (more later) (contains_cases [] r (map (λ f. b ∷ f) (fronts bs)) k)
    by false e later k = more later k

fronts_in : (r tail : List ℕ) → Contains (fronts (r ++ 47 ∷ tail)) r
unfolding fronts
fronts_in [] tail = contains_head [] (map (λ f. 47 ∷ f) (fronts tail))
fronts_in (b ∷ r) tail = by (is_slash b) (map_in (λ f. b ∷ f) (fronts (r ++ 47 ∷ tail)) r (fronts_in r tail))
  where
    by : (s : Bool) → Contains (map (λ f. b ∷ f) (fronts (r ++ 47 ∷ tail))) (b ∷ r) → Contains (cond s ([] ∷ map (λ f. b ∷ f) (fronts (r ++ 47 ∷ tail))) (map (λ f. b ∷ f) (fronts (r ++ 47 ∷ tail)))) (b ∷ r)
    by true k = contains_tail [] (b ∷ r) _ k
    by false k = k

parts_some : (p : List ℕ) → (q : List ℕ) × (qs : List (List ℕ)) × (parts p ≡ q ∷ qs)
unfolding parts
parts_some [] = ([], [], refl)
parts_some (b ∷ p) = by (is_slash b) (parts p)
  where
    by : (s : Bool) (ps : List (List ℕ)) → (q : List ℕ) × (qs : List (List ℕ)) × (cond s ([] ∷ ps) (with_first b ps) ≡ q ∷ qs)
    by true ps = ([], ps, refl)
    by false [] = (b ∷ [], [], refl)
    by false (x ∷ xs) = (b ∷ x, xs, refl)

parts_append : (p n : List ℕ) → parts (p ++ 47 ∷ n) ≡ parts p ++ parts n
unfolding parts
parts_append [] n = refl
parts_append (b ∷ p) n = by (is_slash b) (parts_append p n)
  where
    front : (ps : List (List ℕ)) (q : List ℕ) (qs : List (List ℕ)) → ps ≡ q ∷ qs → with_first b (ps ++ parts n) ≡ with_first b ps ++ parts n
    front ps q qs e = ap (λ t. with_first b (t ++ parts n)) e ∙ sym (ap (λ t. with_first b t ++ parts n) e)

    by : (s : Bool) → parts (p ++ 47 ∷ n) ≡ parts p ++ parts n → cond s ([] ∷ parts (p ++ 47 ∷ n)) (with_first b (parts (p ++ 47 ∷ n))) ≡ cond s ([] ∷ parts p) (with_first b (parts p)) ++ parts n
    by true k = ap (λ t. [] ∷ t) k
    by false k = let w = parts_some p in ap (λ t. with_first b t) k ∙ front (parts p) w.0 w.1 w.2

parts_whole : (n : List ℕ) → list_any is_slash n ≡ false → parts n ≡ n ∷ []
unfolding parts
parts_whole [] h = refl
parts_whole (b ∷ n) h = by (is_slash b) h (parts_whole n)
  where
    by : (s : Bool) → (s || list_any is_slash n) ≡ false → (list_any is_slash n ≡ false → parts n ≡ n ∷ []) → cond s ([] ∷ parts n) (with_first b (parts n)) ≡ (b ∷ n) ∷ []
    by true k later = absurd (true≢false k)
    by false k later = ap (λ t. with_first b t) (later k)

reached_is : (p n : List ℕ) → list_any is_slash n ≡ false → is_reached (p ++ 47 ∷ n) ≡ (is_reached p && is_walked n)
reached_is p n h = ap (λ t. list_all is_walked t) (parts_append p n ∙ ap (λ t. parts p ++ t) (parts_whole n h)) ∙ list_all-append is_walked (parts p) (n ∷ []) ∙ ap (λ t. is_reached p && t) (and-true (is_walked n))

whole_reached : (n : List ℕ) → list_any is_slash n ≡ false → is_reached n ≡ is_walked n
whole_reached n h = ap (λ t. list_all is_walked t) (parts_whole n h) ∙ and-true (is_walked n)

-- what stands before and after the last slash
pub split_last : (r : List ℕ) → list_any is_slash r ≡ true → (n : List ℕ) × (r ≡ package_of r ++ 47 ∷ n) × (list_any is_slash n ≡ false)
unfolding package_of
split_last [] h = absurd (true≢false (sym h))
split_last (b ∷ bs) h = by (list_any is_slash bs) refl h (split_last bs)
  where
    by : (s : Bool) → list_any is_slash bs ≡ s → (is_slash b || s) ≡ true → (list_any is_slash bs ≡ true → (n : List ℕ) × (bs ≡ package_of bs ++ 47 ∷ n) × (list_any is_slash n ≡ false))
        → (n : List ℕ) × (b ∷ bs ≡ cond s (b ∷ package_of bs) [] ++ 47 ∷ n) × (list_any is_slash n ≡ false)
    by true e k later = let w = later e in (w.0, ap (λ t. b ∷ t) w.1, w.2)
    by false e k later = (bs, ap (λ t. t ∷ bs) (eqb-true b 47 (sym (or-false (is_slash b)) ∙ k)), e)

-- the package of a path that ends with a whole name
package_is : (p n : List ℕ) → list_any is_slash n ≡ false → package_of (p ++ 47 ∷ n) ≡ p
unfolding package_of
package_is [] n h = ap (λ t. cond t (47 ∷ package_of n) []) h
package_is (b ∷ p) n h = ap (λ t. cond t (b ∷ package_of (p ++ 47 ∷ n)) []) (slashed p) ∙ ap (λ t. b ∷ t) (package_is p n h)
  where
    slashed : (q : List ℕ) → list_any is_slash (q ++ 47 ∷ n) ≡ true
    slashed [] = refl
    slashed (x ∷ q) = by (is_slash x) (slashed q)
      where
        by : (s : Bool) → list_any is_slash (q ++ 47 ∷ n) ≡ true → (s || list_any is_slash (q ++ 47 ∷ n)) ≡ true
        by true k = refl
        by false k = k

slash_in : (q n : List ℕ) → list_any is_slash (q ++ 47 ∷ n) ≡ true
slash_in [] n = refl
slash_in (x ∷ q) n = by (is_slash x) (slash_in q n)
  where
    by : (s : Bool) → list_any is_slash (q ++ 47 ∷ n) ≡ true → (s || list_any is_slash (q ++ 47 ∷ n)) ≡ true
    by true k = refl
    by false k = k

-- ---- the end of a name

abbrev class_end : List ℕ
class_end = codes ".class"

-- an ending with no slash stands behind the last slash
behind_slash : (p n front end : List ℕ) → list_any is_slash end ≡ false → p ++ 47 ∷ n ≡ front ++ end → (f : List ℕ) × (n ≡ f ++ end)
behind_slash p n [] end h e = absurd (true≢false (sym (slash_in p n) ∙ ap (λ t. list_any is_slash t) e ∙ h))
behind_slash [] n (x ∷ front) end h e = (front, let q : n ≡ front ++ end = cc in q)
behind_slash (b ∷ p) n (x ∷ front) end h e = behind_slash p n front end h (let q : p ++ 47 ∷ n ≡ front ++ end = cc in q)

class_behind : (p n : List ℕ) → is_class_file (p ++ 47 ∷ n) ≡ true → is_class_file n ≡ true
class_behind p n h =
    let e = (ends_is Decides-eqb (p ++ 47 ∷ n) class_end _ refl).0 h in
    let w = behind_slash p n _ class_end refl e in
    (ends_is Decides-eqb n class_end _ refl).1 w.0 w.1

class_before : (p n : List ℕ) → is_class_file n ≡ true → is_class_file (p ++ 47 ∷ n) ≡ true
class_before p n h =
    let e = (ends_is Decides-eqb n class_end _ refl).0 h in
    let front = take (length n - length class_end) n in
    (ends_is Decides-eqb (p ++ 47 ∷ n) class_end _ refl).1 (p ++ 47 ∷ front) (ap (λ t. p ++ 47 ∷ t) e ∙ sym (append_assoc p (47 ∷ front) class_end))

-- ---- folders

-- a folder that is reached below a place: a file lies below it
record IsFolder (files : List File) (place r : List ℕ) : Type 0 where
  reached : is_reached r ≡ true
  file : File
  among : Contains files file
  tail : List ℕ
  path : file.path ≡ place ++ 47 ∷ (r ++ 47 ∷ tail)

folder_from : (files : List File) (place r : List ℕ) → Contains (folders_below files place) r → IsFolder files place r
folder_from files place r c =
    let k = filter_from is_reached (flat_map fronts (rests files place)) r (in_order_from _ r c) in
    let m = flat_from fronts (rests files place) r k.0 in
    let t = fronts_from m.0 r m.2 in
    let f = rest_from files place m.0 m.1 in
    record { reached = k.1; file = f.0; among = f.1; tail = t.0; path = f.2 ∙ ap (λ x. place ++ 47 ∷ x) t.1 }

folder_in : (files : List File) (place r : List ℕ) → IsFolder files place r → Contains (folders_below files place) r
folder_in files place r h =
    in_order_in _ r (filter_in is_reached _ r (flat_in fronts (rests files place) (r ++ 47 ∷ h.tail) r (rest_in files place (r ++ 47 ∷ h.tail) h.file h.among h.path) (fronts_in r h.tail)) h.reached)

deeper : (place p n tail : List ℕ) → place ++ 47 ∷ ((p ++ 47 ∷ n) ++ 47 ∷ tail) ≡ path_in place p ++ 47 ∷ (n ++ 47 ∷ tail)
deeper place p n tail = ap (λ t. place ++ 47 ∷ t) (append_assoc p (47 ∷ n) (47 ∷ tail)) ∙ sym (append_assoc place (47 ∷ p) (47 ∷ (n ++ 47 ∷ tail)))

parent_of : (files : List File) (place p n : List ℕ) → list_any is_slash n ≡ false → IsFolder files place (p ++ 47 ∷ n) → IsFolder files place p
parent_of files place p n s h = record {
  reached = (and_parts _ _ (sym (reached_is p n s) ∙ h.reached)).0;
  file = h.file;
  among = h.among;
  tail = n ++ 47 ∷ h.tail;
  path = h.path ∙ ap (λ t. place ++ 47 ∷ t) (append_assoc p (47 ∷ n) (47 ∷ h.tail));
}

-- the folders that a listing of a reached folder shows are reached
child_from : (files : List File) (place p : List ℕ) (es : List Entry) (r : List ℕ) → AreEntries files (path_in place p) es → is_reached p ≡ true → Contains (walked_in (p ++ 47 ∷ []) es) r → IsFolder files place r
child_from files place p es r h k c =
    let m = map_from _ (filter is_walked_entry es) r c in
    let t = filter_from is_walked_entry es m.0 m.1 in
    let b = and_parts _ _ t.1 in
    let o = h.only m.0 t.0 in
    let e = folder_entry (path_in place p) o.0.path m.0 o.2 b.0 in
    let q : p ++ 47 ∷ m.0.name ≡ r = sym (append_assoc p (47 ∷ []) m.0.name) ∙ m.2 in
    subst (IsFolder files place) q (record {
      reached = reached_is p m.0.name e.2 ∙ and_from _ _ k b.1;
      file = o.0;
      among = o.1;
      tail = e.0;
      path = e.1 ∙ sym (deeper place p m.0.name e.0);
    })

child_in : (files : List File) (place p n : List ℕ) (es : List Entry) → AreEntries files (path_in place p) es → list_any is_slash n ≡ false → IsFolder files place (p ++ 47 ∷ n) → Contains (walked_in (p ++ 47 ∷ []) es) (p ++ 47 ∷ n)
child_in files place p n es h s k =
    let e = entry_folder (path_in place p) k.file.path n k.tail (k.path ∙ deeper place p n k.tail) s in
    let w = (and_parts _ _ (sym (reached_is p n s) ∙ k.reached)).1 in
    let c = map_in (λ (x : Entry). (p ++ 47 ∷ []) ++ x.name) (filter is_walked_entry es) (record { name = n; is_dir = true }) (filter_in is_walked_entry es _ (h.all k.file _ k.among e) w) in
    subst (Contains (walked_in (p ++ 47 ∷ []) es)) (append_assoc p (47 ∷ []) n) c

top_from : (files : List File) (place : List ℕ) (es : List Entry) (r : List ℕ) → AreEntries files place es → Contains (walked_in [] es) r → IsFolder files place r
top_from files place es r h c =
    let m = map_from _ (filter is_walked_entry es) r c in
    let t = filter_from is_walked_entry es m.0 m.1 in
    let b = and_parts _ _ t.1 in
    let o = h.only m.0 t.0 in
    let e = folder_entry place o.0.path m.0 o.2 b.0 in
    subst (IsFolder files place) m.2 (record {
      reached = whole_reached m.0.name e.2 ∙ b.1;
      file = o.0;
      among = o.1;
      tail = e.0;
      path = e.1;
    })

top_in : (files : List File) (place n : List ℕ) (es : List Entry) → AreEntries files place es → list_any is_slash n ≡ false → IsFolder files place n → Contains (walked_in [] es) n
top_in files place n es h s k =
    let e = entry_folder place k.file.path n k.tail k.path s in
    let w : is_walked n ≡ true = sym (whole_reached n s) ∙ k.reached in
    map_in (λ (x : Entry). [] ++ x.name) (filter is_walked_entry es) (record { name = n; is_dir = true }) (filter_in is_walked_entry es _ (h.all k.file _ k.among e) w)

-- ---- packages

abbrev holds : List File → List ℕ → List ℕ → Bool
holds files place r = holds_class (entries_of files (path_in place r))

-- a folder is a package where its listing shows a class file
package_from : (files : List File) (place r : List ℕ) (es : List Entry) → AreEntries files (path_in place r) es → Contains (packages_below files place) r → holds_class es ≡ true
package_from files place r es h c =
    let k = filter_from is_reached _ r (in_order_from _ r c) in
    let m = map_from package_of _ r k.0 in
    let t = filter_from (λ x. is_nested x && is_class_file x) (rests files place) m.0 m.1 in
    let b = and_parts _ _ t.1 in
    let s = split_last m.0 b.0 in
    let q : m.0 ≡ r ++ 47 ∷ s.0 = s.1 ∙ ap (λ x. x ++ 47 ∷ s.0) m.2 in
    let f = rest_from files place m.0 t.0 in
    let path : f.0.path ≡ path_in place r ++ 47 ∷ s.0 = f.2 ∙ ap (λ x. place ++ 47 ∷ x) q ∙ sym (append_assoc place (47 ∷ r) (47 ∷ s.0)) in
    let e = entry_file (path_in place r) f.0.path s.0 path s.2 in
    any_in is_class_entry es (record { name = s.0; is_dir = false }) (h.all f.0 _ f.1 e) (class_behind r s.0 (subst (λ x. is_class_file x ≡ true) q b.1))

package_in : (files : List File) (place r : List ℕ) (es : List Entry) → AreEntries files (path_in place r) es → is_reached r ≡ true → holds_class es ≡ true → Contains (packages_below files place) r
package_in files place r es h k t =
    let m = any_from is_class_entry es t in
    let b = and_parts _ _ m.2 in
    let o = h.only m.0 m.1 in
    let e = file_entry (path_in place r) o.0.path m.0 o.2 (not-true _ b.0) in
    let path : o.0.path ≡ place ++ 47 ∷ (r ++ 47 ∷ m.0.name) = e.0 ∙ append_assoc place (47 ∷ r) (47 ∷ m.0.name) in
    let c = rest_in files place (r ++ 47 ∷ m.0.name) o.0 o.1 path in
    let d = filter_in (λ x. is_nested x && is_class_file x) (rests files place) (r ++ 47 ∷ m.0.name) c (and_from _ _ (slash_in r m.0.name) (class_before r m.0.name b.1)) in
    let p = package_is r m.0.name e.1 in
    in_order_in _ r (filter_in is_reached _ r (subst (Contains (map package_of (filter (λ x. is_nested x && is_class_file x) (rests files place)))) p (map_in package_of _ (r ++ 47 ∷ m.0.name) d)) k)

-- ---- what a walk knows

abbrev is_package : List File → List ℕ → List ℕ → Bool
is_package files place r = list_any (is_text r) (packages_below files place)

-- keys are known folders, of which the first so many are listed, and packages are those of them that hold a class file
pub record IsWalking (files : List File) (place : List ℕ) (keys packages : List (List ℕ)) (at : ℕ) : Type 0 where
  within : (r : List ℕ) → Contains keys r → IsFolder files place r
  top : (n : List ℕ) → list_any is_slash n ≡ false → IsFolder files place n → Contains keys n
  closed : (p n : List ℕ) → Contains (take at keys) p → list_any is_slash n ≡ false → IsFolder files place (p ++ 47 ∷ n) → Contains keys (p ++ 47 ∷ n)
  taken : packages ≡ filter (is_package files place) (take at keys)
  few : at ≤ length keys

put_front : (ks : List (List ℕ)) (x : List ℕ) → (more : List (List ℕ)) × (insert_key is_text ks x ≡ ks ++ more)
put_front ks x = by (list_any (is_text x) ks)
  where
    by : (b : Bool) → (more : List (List ℕ)) × (cond b ks (ks ++ x ∷ []) ≡ ks ++ more)
    by true = ([], sym (append-nil ks))
    by false = (x ∷ [], refl)

put_from : (ks : List (List ℕ)) (x r : List ℕ) → Contains (insert_key is_text ks x) r → Contains ks r ⊎ (x ≡ r)
put_from ks x r c = by (list_any (is_text x) ks) c
  where
    by : (b : Bool) → Contains (cond b ks (ks ++ x ∷ [])) r → Contains ks r ⊎ (x ≡ r)
    by true k = inl k
    by false k = ⊎_elim (λ m. inl m) (λ m. ⊎_elim (λ q. inr q) (λ n. contains_nothing r n) (contains_cases x r [] m)) (Contains-append_cases ks (x ∷ []) r k)

put_has : (ks : List (List ℕ)) (x : List ℕ) → Contains (insert_key is_text ks x) x
put_has ks x = by (list_any (is_text x) ks) refl
  where
    by : (b : Bool) → list_any (is_text x) ks ≡ b → Contains (cond b ks (ks ++ x ∷ [])) x
    by true e = Contains-from_any name_is x ks e
    by false e = Contains-append_right ks (x ∷ []) x (contains_head x [])

insert_front : (ks xs : List (List ℕ)) → (more : List (List ℕ)) × (insert_all is_text ks xs ≡ ks ++ more)
insert_front ks [] = ([], sym (append-nil ks))
insert_front ks (x ∷ xs) =
    let p = put_front ks x in
    let r = insert_front (insert_key is_text ks x) xs in
    (p.0 ++ r.0, r.1 ∙ ap (λ t. t ++ r.0) p.1 ∙ append_assoc ks p.0 r.0)

insert_keeps : (ks xs : List (List ℕ)) (r : List ℕ) → Contains ks r → Contains (insert_all is_text ks xs) r
insert_keeps ks xs r c = let w = insert_front ks xs in subst (λ t. Contains t r) (sym w.1) (Contains-append_left ks w.0 r c)

insert_from : (ks xs : List (List ℕ)) (r : List ℕ) → Contains (insert_all is_text ks xs) r → Contains ks r ⊎ Contains xs r
insert_from ks [] r c = inl c
insert_from ks (x ∷ xs) r c = ⊎_elim
    (λ m. ⊎_elim (λ k. inl k) (λ q. inr (subst (Contains (x ∷ xs)) q (contains_head x xs))) (put_from ks x r m))
    (λ m. inr (contains_tail x r xs m))
    (insert_from (insert_key is_text ks x) xs r c)

insert_has : (ks xs : List (List ℕ)) (r : List ℕ) → Contains xs r → Contains (insert_all is_text ks xs) r
insert_has ks [] r c = contains_nothing r c
insert_has ks (x ∷ xs) r c = ⊎_elim
    (λ q. insert_keeps (insert_key is_text ks x) xs r (subst (Contains (insert_key is_text ks x)) q (put_has ks x)))
    (λ m. insert_has (insert_key is_text ks x) xs r m)
    (contains_cases x r xs c)

pub walk_starts : (files : List File) (place : List ℕ) (es : List Entry) (keys packages : List (List ℕ)) → AreEntries files place es → keys ≡ insert_all is_text [] (walked_in [] es) → packages ≡ [] → IsWalking files place keys packages 0
walk_starts files place es keys packages h q p = record {
  within = λ r c. ⊎_elim (λ k. contains_nothing r k) (λ k. top_from files place es r h k) (insert_from [] (walked_in [] es) r (subst (λ t. Contains t r) q c));
  top = λ n s k. subst (λ t. Contains t n) (sym q) (insert_has [] (walked_in [] es) n (top_in files place n es h s k));
  closed = λ a n c s k. contains_nothing a c;
  taken = p;
  few = omega arith;
}

take_front : (xs ys : List (List ℕ)) (n : ℕ) → n ≤ length xs → take n (xs ++ ys) ≡ take n xs
take_front xs ys zero le = refl
take_front [] ys (suc n) le = absurd (omega (arith, le))
take_front (x ∷ xs) ys (suc n) le = ap (λ t. x ∷ t) (take_front xs ys n (omega (arith, le)))

pub walk_steps : (files : List File) (place : List ℕ) (keys packages : List (List ℕ)) (at : ℕ) (folder : List ℕ) (es : List Entry) (keys2 packages2 : List (List ℕ)) → IsWalking files place keys packages at → slice_get keys at ≡ Some folder
    → AreEntries files (path_in place folder) es → keys2 ≡ insert_all is_text keys (walked_in (folder ++ 47 ∷ []) es) → packages2 ≡ cond (holds_class es) (packages ++ folder ∷ []) packages → IsWalking files place keys2 packages2 (at + 1)
walk_steps files place keys packages at folder es keys2 packages2 w g h q p = record {
  within = λ r c. ⊎_elim (λ k. w.within r k) (λ k. child_from files place folder es r h (w.within folder member).reached k) (insert_from keys (walked_in (folder ++ 47 ∷ []) es) r (subst (λ t. Contains t r) q c));
  top = λ n s k. still n (w.top n s k);
  closed = λ a n c s k. ⊎_elim
      (λ m. still (a ++ 47 ∷ n) (w.closed a n m s k))
      (λ m. ⊎_elim
      (λ e. subst (λ t. Contains keys2 (t ++ 47 ∷ n)) e (subst (λ t. Contains t (folder ++ 47 ∷ n)) (sym q) (insert_has keys (walked_in (folder ++ 47 ∷ []) es) (folder ++ 47 ∷ n) (child_in files place folder n es h s (subst (λ t. IsFolder files place (t ++ 47 ∷ n)) (sym e) k)))))
      (λ z. contains_nothing a z)
      (contains_cases folder a [] m))
      (Contains-append_cases (take at keys) (folder ∷ []) a (subst (λ t. Contains t a) more c));
  taken = p ∙ counted (holds_class es) here ∙ sym (ap (λ t. filter (is_package files place) t) more ∙ filter-append (is_package files place) (take at keys) (folder ∷ []));
  few = let l = ap (λ t. length t) (q ∙ front.1) ∙ length-append keys front.0 in omega (arith, l, lt);
}
  where
    lt : at < length keys
    lt = slice_get_within keys at folder g

    read : get_or keys at folder ≡ folder
    read = get_or_from_slice_get keys at folder folder g

    member : Contains keys folder
    member = (at, lt, read)

    front : (rest : List (List ℕ)) × (insert_all is_text keys (walked_in (folder ++ 47 ∷ []) es) ≡ keys ++ rest)
    front = insert_front keys (walked_in (folder ++ 47 ∷ []) es)

    still : (r : List ℕ) → Contains keys r → Contains keys2 r
    still r c = subst (λ t. Contains t r) (sym q) (insert_keeps keys (walked_in (folder ++ 47 ∷ []) es) r c)

    more : take (at + 1) keys2 ≡ take at keys ++ folder ∷ []
    more = ap (λ t. take (at + 1) t) (q ∙ front.1) ∙ take_front keys front.0 (at + 1) (omega (arith, lt)) ∙ take_more keys at folder lt ∙ ap (λ t. take at keys ++ t ∷ []) read

    here : holds_class es ≡ is_package files place folder
    here = same_bool (holds_class es) (is_package files place folder)
        (λ t. list_any-from_Contains nat_list_eq_equiv folder (packages_below files place) (package_in files place folder es h (w.within folder member).reached t))
        (λ t. package_from files place folder es h (Contains-from_any name_is folder (packages_below files place) t))

    counted : (b : Bool) → b ≡ is_package files place folder → cond b (packages ++ folder ∷ []) packages ≡ filter (is_package files place) (take at keys) ++ cond (is_package files place folder) (folder ∷ []) []
    counted true e = ap (λ t. t ++ folder ∷ []) w.taken ∙ ap (λ t. filter (is_package files place) (take at keys) ++ cond t (folder ∷ []) []) e
    counted false e = w.taken ∙ sym (append-nil (filter (is_package files place) (take at keys))) ∙ ap (λ t. filter (is_package files place) (take at keys) ++ cond t (folder ∷ []) []) e

-- ---- the end of a walk

not_less : (a b : ℕ) → b ≤ a → nat_lt a b ≡ false
not_less a b le = ⊎_elim (λ e. let l = ltb-true a b e in absurd (omega (arith, l, le))) (λ e. e) (cases_Bool (nat_lt a b))

all_known : (files : List File) (place : List ℕ) (keys packages : List (List ℕ)) (at : ℕ) → IsWalking files place keys packages at → length keys ≤ at → (fuel : ℕ) (r : List ℕ) → length r ≤ fuel → IsFolder files place r → Contains keys r
all_known files place keys packages at w le zero [] lr h = w.top [] refl h
all_known files place keys packages at w le zero (x ∷ xs) lr h = absurd (omega (arith, lr))
all_known files place keys packages at w le (suc fuel) r lr h = by (list_any is_slash r) refl (all_known files place keys packages at w le fuel (package_of r))
  where
    by : (b : Bool) → list_any is_slash r ≡ b → (length (package_of r) ≤ fuel → IsFolder files place (package_of r) → Contains keys (package_of r)) → Contains keys r
    by false e later = w.top r e h
    by true e later =
        let s = split_last r e in
        let l = ap (λ t. length t) s.1 ∙ length-append (package_of r) (47 ∷ s.0) in
        let k = subst (IsFolder files place) s.1 h in
        let p = parent_of files place (package_of r) s.0 s.2 k in
        let c = later (omega (arith, l, lr)) p in
        let whole : take at keys ≡ keys = take_all at keys le in
        subst (Contains keys) (sym s.1) (w.closed (package_of r) s.0 (subst (λ t. Contains t (package_of r)) (sym whole) c) s.2 k)

length_le : (xs ys : List (List ℕ)) → IsDistinct is_text xs → ((r : List ℕ) → Contains xs r → Contains ys r) → length xs ≤ length ys
length_le xs ys d h = length-le_from_is_member nat_list_eq_equiv xs ys d (λ q e. list_any-from_Contains nat_list_eq_equiv q ys (h q (Contains-from_any name_is q xs e)))

rising_distinct : (xs : List (List ℕ)) → RisesBy name_cmp xs → IsDistinct is_text xs
unfolding IsDistinct
rising_distinct [] up = tt
rising_distinct (x ∷ xs) up = (each_from_members _ xs (λ y c. texts_ties x y ∙ ap is_eq (each_of_member (λ z. name_cmp x z ≡ Less) xs y up.0 c)), rising_distinct xs up.1)

distinct_filter : (p : List ℕ → Bool) (xs : List (List ℕ)) → IsDistinct is_text xs → IsDistinct is_text (filter p xs)
unfolding IsDistinct
distinct_filter p [] d = tt
distinct_filter p (x ∷ xs) d = by (p x) (distinct_filter p xs d.1)
  where
    by : (b : Bool) → IsDistinct is_text (filter p xs) → IsDistinct is_text (cond b (x ∷ filter p xs) (filter p xs))
    by true k = (each_from_members _ (filter p xs) (λ y c. each_of_member (λ z. is_text x z ≡ false) xs y d.0 (filter_from p xs y c).0), k)
    by false k = k

rise_from : (ns : List (List ℕ)) → IsSorted name_cmp ns → IsDistinct is_text ns → RisesBy name_cmp ns
unfolding IsDistinct
rise_from [] s d = tt
rise_from (n ∷ ns) s d = (each_from_members _ ns (λ m c. less m c), rise_from ns (λ k x a b. later k x (s (suc k) x (omega arith) (omega (arith, b)))) d.1)
  where
    later : (k : ℕ) (x : List ℕ) → is_lt (name_cmp (get_or (n ∷ ns) (suc k + 1) x) (get_or ns k x)) ≡ false → is_lt (name_cmp (get_or ns (k + 1) x) (get_or ns k x)) ≡ false
    later k x h = let e : suc k + 1 ≡ suc (k + 1) = omega arith in sym (ap (λ j. is_lt (name_cmp (get_or (n ∷ ns) j x) (get_or ns k x))) e) ∙ h

    no_less : (m : List ℕ) → Contains ns m → is_lt (name_cmp m n) ≡ false
    no_less m c = subst (λ y. is_lt (name_cmp y n) ≡ false) c.2 (sorted_far _ (ranks_by nat_list_cmp_total (λ y. y)) (n ∷ ns) s 0 (suc c.0) m (omega arith) (omega (arith, c.1)))

    apart : (m : List ℕ) → Contains ns m → is_text n m ≡ false
    apart m c = All-contains (λ y. is_text n y ≡ false) ns m (All-from_recursion _ ns d.0) c

    less : (m : List ℕ) → Contains ns m → name_cmp n m ≡ Less
    less m c = by (name_cmp n m) refl
      where
        by : (r : Ordering) → name_cmp n m ≡ r → name_cmp n m ≡ Less
        by Less e = e
        by Equal e = absurd (true≢false (sym (texts_ties n m ∙ ap is_eq e) ∙ apart m c))
        by Greater e = absurd (true≢false (sym (ap is_lt (nat_list_cmp_total.antisymm m n ∙ ap ordering_reverse e)) ∙ no_less m c))

-- a package is a folder that is reached
package_folder : (files : List File) (place r : List ℕ) → Contains (packages_below files place) r → IsFolder files place r
package_folder files place r c =
    let k = filter_from is_reached _ r (in_order_from _ r c) in
    let m = map_from package_of _ r k.0 in
    let t = filter_from (λ x. is_nested x && is_class_file x) (rests files place) m.0 m.1 in
    let s = split_last m.0 (and_parts _ _ t.1).0 in
    let f = rest_from files place m.0 t.0 in
    record { reached = k.1; file = f.0; among = f.1; tail = s.0; path = f.2 ∙ ap (λ x. place ++ 47 ∷ x) (s.1 ∙ ap (λ x. x ++ 47 ∷ s.0) m.2) }

pub walk_many : (files : List File) (place : List ℕ) (keys packages : List (List ℕ)) (at listed : ℕ) → IsWalking files place keys packages at → IsDistinct is_text keys → most_folders < listed + length keys → walked_from files place listed ≡ Err finds.TooMany
walk_many files place keys packages at listed w d lt =
    let l = length_le keys (folders_below files place) d (λ r c. folder_in files place r (w.within r c)) in
    let b : nat_lt most_folders (listed + length (folders_below files place)) ≡ true = lt-ltb _ _ (omega (arith, l, lt)) in
    ap (λ t. cond t (Err finds.TooMany) (Ok (packages_below files place, listed + length (folders_below files place)))) b

pub walk_ends : (files : List File) (place : List ℕ) (keys packages sorted : List (List ℕ)) (at listed : ℕ) → IsWalking files place keys packages at → IsDistinct is_text keys → length keys ≤ at → IsPermutation packages sorted → IsSorted name_cmp sorted
    → listed + at ≤ most_folders → walked_from files place listed ≡ Ok (sorted, listed + at)
walk_ends files place keys packages sorted at listed w d le perm order few =
    let l = length_le keys (folders_below files place) d (λ r c. folder_in files place r (w.within r c)) in
    let m = length_le (folders_below files place) keys (rising_distinct _ (in_order_rises _)) (λ r c. known r (folder_from files place r c)) in
    let n : length (folders_below files place) ≡ at = omega (arith, l, m, le, w.few) in
    let b : nat_lt most_folders (listed + length (folders_below files place)) ≡ false = not_less _ _ (omega (arith, n, few)) in
    ap (λ t. cond t (Err finds.TooMany) (Ok (packages_below files place, listed + length (folders_below files place)))) b ∙ (λ i. Ok (sym same i, listed + n i))
  where
    known : (r : List ℕ) → IsFolder files place r → Contains keys r
    known r h = all_known files place keys packages at w le (length r) r (omega arith) h

    all : packages ≡ filter (is_package files place) keys
    all = w.taken ∙ ap (λ t. filter (is_package files place) t) (take_all at keys le)

    distinct : IsDistinct is_text sorted
    distinct = IsDistinct-IsPermutation is_text (λ a b. nat_list_eq_equiv.symm a b) packages sorted perm (subst (IsDistinct is_text) (sym all) (distinct_filter (is_package files place) keys d))

    same : sorted ≡ packages_below files place
    same = same_rising name_cmp (apart_from_total name_cmp nat_list_cmp_total) sorted (packages_below files place) (rise_from sorted order distinct) (in_order_rises _)
        (λ r c. Contains-from_any name_is r (packages_below files place) (filter_from (is_package files place) keys r (subst (λ t. Contains t r) all (Contains-permutation sorted packages r (IsPermutation-sym _ _ perm) c))).1)
        (λ r c. Contains-permutation packages sorted r perm (subst (λ t. Contains t r) (sym all) (filter_in (is_package files place) keys r (known r (package_folder files place r c)) (list_any-from_Contains nat_list_eq_equiv r (packages_below files place) c))))

-- ---- the same as the loop has it

pub walk_over : (files : List File) (place : List ℕ) (listed : ℕ) → most_folders < listed → walked_from files place listed ≡ Err finds.TooMany
walk_over files place listed lt =
    let b : nat_lt most_folders (listed + length (folders_below files place)) ≡ true = lt-ltb _ _ (omega (arith, lt)) in
    ap (λ t. cond t (Err finds.TooMany) (Ok (packages_below files place, listed + length (folders_below files place)))) b

none_past : (xs : List (List ℕ)) (i : ℕ) → slice_get xs i ≡ None → length xs ≤ i
none_past xs i h = ⊎_elim
    (λ e. let s : Some (get_or xs i []) ≡ None = sym (slice_get-get_or xs i [] (ltb-true i (length xs) e)) ∙ h in absurd cc)
    (λ e. ⊎_elim (λ l. absurd (true≢false (sym (lt-ltb i (length xs) l) ∙ e))) (λ l. l) (less_or i (length xs)))
    (cases_Bool (nat_lt i (length xs)))
  where
    less_or : (a b : ℕ) → (a < b) ⊎ (b ≤ a)
    less_or a b = ⊎_elim (λ e. inl (ltb-true a b e)) (λ e. inr (omega (arith, not_lt a b e))) (cases_Bool (nat_lt a b))
      where
        not_lt : (x y : ℕ) → nat_lt x y ≡ false → y ≤ x
        not_lt x y e = grind arith

pub walk_steps_so : (files : List File) (place : List ℕ) (keys packages : List (List ℕ)) (count listed : ℕ) (folder : List ℕ) (o : Option (List ℕ)) (keys2 packages2 : List (List ℕ)) → IsWalking files place keys packages (count - listed) → listed ≤ count
    → o ≡ slice_get keys (count - listed) → o ≡ Some folder → Steps files place folder keys packages keys2 packages2 → IsWalking files place keys2 packages2 (count + 1 - listed)
walk_steps_so files place keys packages count listed folder o keys2 packages2 w le g k s =
    let n : count - listed + 1 ≡ count + 1 - listed = omega (arith, le) in
    subst (IsWalking files place keys2 packages2) n (walk_steps files place keys packages (count - listed) folder s.entries keys2 packages2 w (sym g ∙ k) s.listed s.known s.taken)

pub walk_many_so : (files : List File) (place : List ℕ) (keys packages : List (List ℕ)) (count listed : ℕ) (folder : List ℕ) (o : Option (List ℕ)) → IsWalking files place keys packages (count - listed) → listed ≤ count → IsDistinct is_text keys
    → o ≡ slice_get keys (count - listed) → o ≡ Some folder → count ≡ most_folders → walked_from files place listed ≡ Err finds.TooMany
walk_many_so files place keys packages count listed folder o w le d g k m =
    let l = slice_get_within keys (count - listed) folder (sym g ∙ k) in
    walk_many files place keys packages (count - listed) listed w d (omega (arith, l, m, le))

pub walk_ends_so : (files : List File) (place : List ℕ) (keys packages : List (List ℕ)) (count listed : ℕ) (o : Option (List ℕ)) (r : Result Walked FindFault) → IsWalking files place keys packages (count - listed) → listed ≤ count → IsDistinct is_text keys
    → o ≡ slice_get keys (count - listed) → o ≡ None → count ≤ most_folders → IfOk r (λ x. AreSortedNames packages x.packages.items) → IfOk r (λ x. x.folders ≡ count) → IfErr r (λ e. e ≡ finds.NoMemory)
    → Gives told walked_of r (walked_from files place listed)
walk_ends_so files place keys packages count listed o (Ok x) w le d g k few s n h =
    let m : listed + (count - listed) ≡ x.folders = omega (arith, le) ∙ sym n in
    walk_ends files place keys packages x.packages.items (count - listed) listed w d (none_past keys (count - listed) (sym g ∙ k)) s.same s.order (omega (arith, le, few)) ∙ ap (λ t. Ok (x.packages.items, t)) m
walk_ends_so files place keys packages count listed o (Err e) w le d g k few s n h = subst (λ f. Fails told f (walked_from files place listed)) (sym h) tt
