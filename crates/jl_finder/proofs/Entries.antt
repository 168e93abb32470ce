-- What a listing of a folder tells of the files in it.
use Rattle.std.proofs.Common.{◌≡◌, ℕ, suc, ◌+◌, List, [], ◌∷◌, ◌++◌, length, get_or, take, drop, map, filter, Option, None, Some, IfSome, Bool, true, false, cond, not, ◌||◌, ◌==◌, nat_eq, Contains, ⊎_elim, refl, sym, ◌∙◌, ap, subst, true≢false, Ordering, Less, Equal, Greater, arith, is_some}
use Rattle.std.specs.List.{list_any, before_first, position_or_len, IsDistinct, starts_with}
use Rattle.std.specs.List.Sorted.{IsSortedBy}
use Rattle.std.specs.Ordering.{is_lt, is_eq, ordering_reverse}
use Rattle.std.specs.Cmp.Lexicographic.{nat_list_cmp_total, nat_list_eq_equiv, texts_ties}
use Rattle.std.proofs.lemmas.Bool.{cases_Bool, not-true, eqb-true, and_parts, and_from}
use Rattle.std.proofs.lemmas.List.Elements.{All-contains, All-from_recursion}
use Rattle.std.proofs.lemmas.List.Sorted.{Contains-permutation, IsPermutation-sym, IsPermutation-map, ranks_by, sorted_far}
use Rattle.std.proofs.lemmas.Map.Keys.{IsDistinct-IsPermutation}
use Rattle.jl_logic.specs.Lists.{AreDistinct}
use Rattle.jl_logic.specs.Order.{is_text, name_cmp, RisesBy}
use Rattle.jl_logic.proofs.Rising.{contains_head, contains_tail, contains_nothing, contains_cases, each_from_members, each_of_member, apart_from_total, same_rising}
use Rattle.jl_names.specs.Names.{is_slash}
use Rattle.jl_tree.specs.declared.entry.Entry.{Entry}
use Rattle.jl_tree.specs.Files.{File, file_at, first_part, entry_in, IsListing, Lists}
use Rattle.jl_tree.proofs.Below.{begins_true, begins_from, below_is, below_some}
use Rattle.jl_finder.specs.Paths.{rests}
use Rattle.jl_finder.specs.Folders.{entries_of, is_there, declaration_name, declaration_in, is_module, top_classes}
use Rattle.jl_finder.specs.Scanning.{AreSorted, AreEntries, IsListed, is_declaration, declares, is_top_class, tops}
use Rattle.jl_finder.proofs.Members.{name_is, is_name, mapped_from, mapped_in, map_from, map_in, filter_from, filter_in, any_from, any_in, same_bool, in_order_from, in_order_in, in_order_rises, entries_from, entries_have, entries_rise}

pub some_told : {X : Type 0} (o : Option X) (P : X → Type 0) (x : X) → o ≡ Some x → IfSome o P → P x
some_told None P x e h = absurd cc
some_told (Some y) P x e h = let q : y ≡ x = cc in subst P q h

-- ---- parts of paths

-- a text with no slash is a part of its own
pub whole_part : (n : List ℕ) → list_any is_slash n ≡ false → first_part n ≡ record { name = n; is_dir = false }
whole_part n h = λ i. record { name = front n h i; is_dir = h i }
  where
    front : (n : List ℕ) → list_any (λ b. b == 47) n ≡ false → before_first (λ b. b == 47) n ≡ n
    front [] k = refl
    front (x ∷ xs) k = by (x == 47) k (front xs)
      where
        by : (b : Bool) → (b || list_any (λ c. c == 47) xs) ≡ false → (list_any (λ c. c == 47) xs ≡ false → before_first (λ c. c == 47) xs ≡ xs)
            → take (cond (not b) (1 + position_or_len (λ c. c == 47) xs) 0) (x ∷ xs) ≡ x ∷ xs
        by true e more = absurd (true≢false e)
        by false e more =
            let m : 1 + position_or_len (λ c. c == 47) xs ≡ suc (position_or_len (λ c. c == 47) xs) = omega arith in
            ap (λ k. take k (x ∷ xs)) m ∙ ap (λ t. x ∷ t) (more e)

-- a part before a slash is a folder
pub folder_part : (name rest : List ℕ) → list_any is_slash name ≡ false → first_part (name ++ 47 ∷ rest) ≡ record { name = name; is_dir = true }
folder_part name rest h = λ i. record { name = front name h i; is_dir = slash name i }
  where
    slash : (n : List ℕ) → list_any (λ b. b == 47) (n ++ 47 ∷ rest) ≡ true
    slash [] = refl
    slash (x ∷ xs) = by (x == 47) (slash xs)
      where
        by : (b : Bool) → list_any (λ c. c == 47) (xs ++ 47 ∷ rest) ≡ true → (b || list_any (λ c. c == 47) (xs ++ 47 ∷ rest)) ≡ true
        by true e = refl
        by false e = e

    front : (n : List ℕ) → list_any (λ b. b == 47) n ≡ false → before_first (λ b. b == 47) (n ++ 47 ∷ rest) ≡ n
    front [] k = refl
    front (x ∷ xs) k = by (x == 47) k (front xs)
      where
        by : (b : Bool) → (b || list_any (λ c. c == 47) xs) ≡ false → (list_any (λ c. c == 47) xs ≡ false → before_first (λ c. c == 47) (xs ++ 47 ∷ rest) ≡ xs)
            → take (cond (not b) (1 + position_or_len (λ c. c == 47) (xs ++ 47 ∷ rest)) 0) (x ∷ (xs ++ 47 ∷ rest)) ≡ x ∷ xs
        by true e more = absurd (true≢false e)
        by false e more =
            let n : 1 + position_or_len (λ c. c == 47) (xs ++ 47 ∷ rest) ≡ suc (position_or_len (λ c. c == 47) (xs ++ 47 ∷ rest)) = omega arith in
            ap (λ m. take m (x ∷ (xs ++ 47 ∷ rest))) n ∙ ap (λ t. x ∷ t) (more e)

-- a text with a slash is what stands before the first one, and the rest
pub split_first : (r : List ℕ) → list_any is_slash r ≡ true → (name : List ℕ) × (tail : List ℕ) × (r ≡ name ++ 47 ∷ tail) × (list_any is_slash name ≡ false)
split_first [] h = absurd (true≢false (sym h))
split_first (x ∷ xs) h = by (is_slash x) refl (split_first xs) h
  where
    by : (b : Bool) → is_slash x ≡ b → (list_any is_slash xs ≡ true → (name : List ℕ) × (tail : List ℕ) × (xs ≡ name ++ 47 ∷ tail) × (list_any is_slash name ≡ false))
        → (b || list_any is_slash xs) ≡ true → (name : List ℕ) × (tail : List ℕ) × (x ∷ xs ≡ name ++ 47 ∷ tail) × (list_any is_slash name ≡ false)
    by true e later k = ([], xs, ap (λ t. t ∷ xs) (eqb-true x 47 e), refl)
    by false e later k = let r = later k in (x ∷ r.0, r.1, ap (λ t. x ∷ t) r.2, ap (λ b. b || list_any is_slash r.0) e ∙ r.3)

-- ---- entries of paths

pub entry_at : (dir path rest : List ℕ) → path ≡ dir ++ 47 ∷ rest → entry_in dir path ≡ Some (first_part rest)
entry_at dir path rest e =
    let b = begins_from dir path rest e in
    let s : Some (drop (length dir + 1) path) ≡ Some rest = sym (ap (λ t. cond t (Some (drop (length dir + 1) path)) None) b) ∙ below_some dir path rest e in
    let d : drop (length dir + 1) path ≡ rest = cc in
    ap (λ t. cond t (Some (first_part (drop (length dir + 1) path))) None) b ∙ ap (λ t. Some (first_part t)) d

pub entry_is : (dir path : List ℕ) (e : Entry) → entry_in dir path ≡ Some e → (rest : List ℕ) × (path ≡ dir ++ 47 ∷ rest) × (first_part rest ≡ e)
entry_is dir path e h = ⊎_elim
    (λ b. let s : Some (first_part (drop (length dir + 1) path)) ≡ Some e = sym (ap (λ t. cond t (Some (first_part (drop (length dir + 1) path))) None) b) ∙ h in
    let d : first_part (drop (length dir + 1) path) ≡ e = cc in
    (drop (length dir + 1) path, begins_true dir path b, d))
    (λ b. let s : None ≡ Some e = sym (ap (λ t. cond t (Some (first_part (drop (length dir + 1) path))) None) b) ∙ h in absurd cc)
    (cases_Bool (starts_with nat_eq path (dir ++ 47 ∷ [])))

-- a file in a folder is the path of its name
pub file_entry : (dir path : List ℕ) (e : Entry) → entry_in dir path ≡ Some e → e.is_dir ≡ false → (path ≡ dir ++ 47 ∷ e.name) × (list_any is_slash e.name ≡ false)
file_entry dir path e h k =
    let r = entry_is dir path e h in
    let n : list_any is_slash r.0 ≡ false = ap (λ (t : Entry). t.is_dir) r.2 ∙ k in
    let w = whole_part r.0 n in
    let q : r.0 ≡ e.name = ap (λ (t : Entry). t.name) (sym w ∙ r.2) in
    (r.1 ∙ ap (λ t. dir ++ 47 ∷ t) q, subst (λ t. list_any is_slash t ≡ false) q n)

pub entry_file : (dir path name : List ℕ) → path ≡ dir ++ 47 ∷ name → list_any is_slash name ≡ false → entry_in dir path ≡ Some (record { name = name; is_dir = false })
entry_file dir path name e h = entry_at dir path name e ∙ ap (λ t. Some t) (whole_part name h)

-- a folder in a folder has something below it
pub folder_entry : (dir path : List ℕ) (e : Entry) → entry_in dir path ≡ Some e → e.is_dir ≡ true → (tail : List ℕ) × (path ≡ dir ++ 47 ∷ (e.name ++ 47 ∷ tail)) × (list_any is_slash e.name ≡ false)
folder_entry dir path e h k =
    let r = entry_is dir path e h in
    let n : list_any is_slash r.0 ≡ true = ap (λ (t : Entry). t.is_dir) r.2 ∙ k in
    let s = split_first r.0 n in
    let p : first_part r.0 ≡ record { name = s.0; is_dir = true } = ap (λ t. first_part t) s.2 ∙ folder_part s.0 s.1 s.3 in
    let q : s.0 ≡ e.name = ap (λ (t : Entry). t.name) (sym p ∙ r.2) in
    (s.1, r.1 ∙ ap (λ t. dir ++ 47 ∷ t) (s.2 ∙ ap (λ t. t ++ 47 ∷ s.1) q), subst (λ t. list_any is_slash t ≡ false) q s.3)

pub entry_folder : (dir path name tail : List ℕ) → path ≡ dir ++ 47 ∷ (name ++ 47 ∷ tail) → list_any is_slash name ≡ false → entry_in dir path ≡ Some (record { name = name; is_dir = true })
entry_folder dir path name tail e h = entry_at dir path (name ++ 47 ∷ tail) e ∙ ap (λ t. Some t) (folder_part name tail h)

pub rest_from : (files : List File) (dir r : List ℕ) → Contains (rests files dir) r → (f : File) × Contains files f × (f.path ≡ dir ++ 47 ∷ r)
rest_from files dir r c = let m = mapped_from _ files r c in (m.0, m.1, below_is dir m.0.path r m.2)

pub rest_in : (files : List File) (dir r : List ℕ) (f : File) → Contains files f → f.path ≡ dir ++ 47 ∷ r → Contains (rests files dir) r
rest_in files dir r f c e = mapped_in _ files f r c (below_some dir f.path r e)

-- ---- listings

abbrev lt : Entry → Entry → Bool
lt a b = is_lt (name_cmp a.name b.name)

abbrev entry_cmp : Entry → Entry → Ordering
entry_cmp a b = name_cmp a.name b.name

distinct_names : (ns : List (List ℕ)) → AreDistinct ns → IsDistinct is_text ns
unfolding IsDistinct
distinct_names [] h = tt
distinct_names (n ∷ ns) h = (each_from_members _ ns (λ m c. by m c (is_text n m) refl), distinct_names ns h.1)
  where
    by : (m : List ℕ) → Contains ns m → (b : Bool) → is_text n m ≡ b → is_text n m ≡ false
    by m c true e = absurd (h.0 (subst (Contains ns) (sym (name_is n m e)) c))
    by m c false e = e

rise_from : (es : List Entry) → IsSortedBy lt es → IsDistinct is_text (map (λ (e : Entry). e.name) es) → RisesBy entry_cmp es
unfolding IsDistinct
rise_from [] s d = tt
rise_from (n ∷ ns) s d = (each_from_members _ ns (λ m c. less m c), rise_from ns (λ k x a b. later k x (s (suc k) x (omega arith) (omega (arith, b)))) d.1)
  where
    later : (k : ℕ) (x : Entry) → lt (get_or (n ∷ ns) (suc k + 1) x) (get_or ns k x) ≡ false → lt (get_or ns (k + 1) x) (get_or ns k x) ≡ false
    later k x h = let e : suc k + 1 ≡ suc (k + 1) = omega arith in sym (ap (λ j. lt (get_or (n ∷ ns) j x) (get_or ns k x)) e) ∙ h

    no_less : (m : Entry) → Contains ns m → lt m n ≡ false
    no_less m c = subst (λ y. lt y n ≡ false) c.2 (sorted_far _ (ranks_by nat_list_cmp_total (λ (y : Entry). y.name)) (n ∷ ns) s 0 (suc c.0) m (omega arith) (omega (arith, c.1)))

    apart : (m : Entry) → Contains ns m → is_text n.name m.name ≡ false
    apart m c = All-contains (λ y. is_text n.name y ≡ false) (map (λ (e : Entry). e.name) ns) m.name (All-from_recursion _ _ d.0) (map_in (λ (e : Entry). e.name) ns m c)

    less : (m : Entry) → Contains ns m → name_cmp n.name m.name ≡ Less
    less m c = by (name_cmp n.name m.name) refl
      where
        by : (r : Ordering) → name_cmp n.name m.name ≡ r → name_cmp n.name m.name ≡ Less
        by Less e = e
        by Equal e = absurd (true≢false (sym (texts_ties n.name m.name ∙ ap is_eq e) ∙ apart m c))
        by Greater e = absurd (true≢false (sym (ap is_lt (nat_list_cmp_total.antisymm m.name n.name ∙ ap ordering_reverse e)) ∙ no_less m c))

listed_entries : (files : List File) (dir : List ℕ) (entries sorted : List Entry) → IsListing files dir entries → AreSorted entries sorted → AreEntries files dir sorted
listed_entries files dir entries sorted h s = record {
  rise = rise_from sorted s.order (IsDistinct-IsPermutation is_text (λ a b. nat_list_eq_equiv.symm a b) (map (λ (e : Entry). e.name) entries) (map (λ (e : Entry). e.name) sorted) (IsPermutation-map _ entries sorted s.same) (distinct_names _ h.once));
  all = λ f e c k. Contains-permutation entries sorted e s.same (h.all f e c k);
  only = λ e c. h.only e (Contains-permutation sorted entries e (IsPermutation-sym _ _ s.same) c);
}

none_there : (files : List File) (dir : List ℕ) → Lists files dir None → is_there files dir ≡ false
none_there files dir h = not_so (is_there files dir) (λ t. let r = any_from _ files t in true≢false (sym r.2 ∙ ap (λ o. is_some o) (h r.0 r.1)))
  where
    not_so : (b : Bool) → (b ≡ true → ⊥) → b ≡ false
    not_so true k = absurd (k refl)
    not_so false k = refl

some_there : (files : List File) (dir : List ℕ) (entries : List Entry) → IsListing files dir entries → is_there files dir ≡ true
some_there files dir [] h = absurd (h.some refl)
some_there files dir (e ∷ es) h = let r = h.only e (contains_head e es) in any_in _ files r.0 r.1 (ap (λ o. is_some o) r.2)

pub listed_none : (o : Option (List File)) (dir : List ℕ) (l : Option (List Entry)) (files : List File) → o ≡ Some files → l ≡ None → IfSome o (λ fs. Lists fs dir l) → IsListed files dir None
listed_none o dir l files e k h =
    let w = subst (Lists files dir) k (some_told o (λ fs. Lists fs dir l) files e h) in (
      none_there files dir w,
      record {
        rise = tt;
        all = λ f x c q. let z : None ≡ Some x = sym (w f c) ∙ q in absurd cc;
        only = λ x c. contains_nothing x c;
      },
    )

pub listed_some : (o : Option (List File)) (dir : List ℕ) (l : Option (List Entry)) (entries sorted : List Entry) (files : List File) → o ≡ Some files → l ≡ Some entries → IfSome o (λ fs. Lists fs dir l)
    → AreSorted entries sorted → IsListed files dir (Some sorted)
listed_some o dir l entries sorted files e k h s =
    let w = subst (Lists files dir) k (some_told o (λ fs. Lists fs dir l) files e h) in
    (some_there files dir entries w, listed_entries files dir entries sorted w s)

-- two entries of one name are one
pub same_entry : (es : List Entry) (a b : Entry) → RisesBy entry_cmp es → Contains es a → Contains es b → a.name ≡ b.name → a ≡ b
same_entry [] a b up c d e = contains_nothing a c
same_entry (x ∷ xs) a b up c d e = ⊎_elim
    (λ p. ⊎_elim (λ q. sym p ∙ q) (λ m. absurd (loop a b (ap (λ (t : Entry). t.name) p) m e)) (contains_cases x b xs d))
    (λ n. ⊎_elim (λ q. absurd (loop b a (ap (λ (t : Entry). t.name) q) n (sym e))) (λ m. same_entry xs a b up.1 n m e) (contains_cases x b xs d))
    (contains_cases x a xs c)
  where
    loop : (u v : Entry) → x.name ≡ u.name → Contains xs v → u.name ≡ v.name → ⊥
    loop u v p m q =
        let l : name_cmp x.name v.name ≡ Less = each_of_member (λ w. name_cmp x.name w.name ≡ Less) xs v up.0 m in
        let k : name_cmp x.name x.name ≡ Less = ap (λ t. name_cmp x.name t) (p ∙ q) ∙ l in
        apart_from_total name_cmp nat_list_cmp_total x.name x.name k k

-- the listing is what the definition says
pub entries_are : (files : List File) (dir : List ℕ) (es : List Entry) → AreEntries files dir es → es ≡ entries_of files dir
entries_are files dir es h = same_rising entry_cmp (λ x y a b. apart_from_total name_cmp nat_list_cmp_total x.name y.name a b) es (entries_of files dir) h.rise (entries_rise _) to back
  where
    back : (x : Entry) → Contains (entries_of files dir) x → Contains es x
    back x c = let m = mapped_from _ files x (entries_from _ x c) in h.all m.0 x m.1 m.2

    to : (x : Entry) → Contains es x → Contains (entries_of files dir) x
    to x c =
        let r = h.only x c in
        let z = entries_have _ x (mapped_in _ files r.0 x r.1 r.2) in
        subst (Contains (entries_of files dir)) (same_entry es z.0 x h.rise (back z.0 z.1) c z.2) z.1

-- ---- declarations

file_there : (files : List File) (path : List ℕ) → is_some (file_at files path) ≡ true → (f : File) × Contains files f × (f.path ≡ path)
file_there [] path h = absurd (true≢false (sym h))
file_there (f ∷ fs) path h = by (is_text f.path path) refl (file_there fs path) h
  where
    by : (b : Bool) → is_text f.path path ≡ b → (is_some (file_at fs path) ≡ true → (g : File) × Contains fs g × (g.path ≡ path)) → is_some (cond b (Some f.bytes) (file_at fs path)) ≡ true → (g : File) × Contains (f ∷ fs) g × (g.path ≡ path)
    by true e later k = (f, contains_head f fs, name_is _ _ e)
    by false e later k = let r = later k in (r.0, contains_tail f r.0 fs r.1, r.2)

file_in : (files : List File) (path : List ℕ) (f : File) → Contains files f → f.path ≡ path → is_some (file_at files path) ≡ true
file_in [] path f c e = contains_nothing f c
file_in (g ∷ fs) path f c e = ⊎_elim
    (λ q. ap (λ b. is_some (cond b (Some g.bytes) (file_at fs path))) (is_name g.path path (ap (λ (t : File). t.path) q ∙ e)))
    (λ m. by (is_text g.path path) (file_in fs path f m e))
    (contains_cases g f fs c)
  where
    by : (b : Bool) → is_some (file_at fs path) ≡ true → is_some (cond b (Some g.bytes) (file_at fs path)) ≡ true
    by true k = refl
    by false k = k

pub declares_is : (files : List File) (place : List ℕ) (es : List Entry) → AreEntries files place es → declares es ≡ is_module files place
declares_is files place es h = same_bool (declares es) (is_module files place) to back
  where
    to : declares es ≡ true → is_module files place ≡ true
    to t =
        let m = any_from is_declaration es t in
        let b = and_parts _ _ m.2 in
        let r = h.only m.0 m.1 in
        let p = file_entry place r.0.path m.0 r.2 (not-true _ b.0) in
        file_in files (declaration_in place) r.0 r.1 (p.0 ∙ ap (λ t. place ++ 47 ∷ t) (name_is m.0.name declaration_name b.1))

    back : is_module files place ≡ true → declares es ≡ true
    back t =
        let r = file_there files (declaration_in place) t in
        let e = entry_file place r.0.path declaration_name r.2 refl in
        any_in is_declaration es (record { name = declaration_name; is_dir = false }) (h.all r.0 _ r.1 e) refl

-- ---- class files beside a declaration

pub names_rise : (p : Entry → Bool) (es : List Entry) → RisesBy entry_cmp es → RisesBy name_cmp (map (λ (e : Entry). e.name) (filter p es))
names_rise p [] up = tt
names_rise p (e ∷ es) up = by (p e) (names_rise p es up.1)
  where
    by : (b : Bool) → RisesBy name_cmp (map (λ (x : Entry). x.name) (filter p es)) → RisesBy name_cmp (map (λ (x : Entry). x.name) (cond b (e ∷ filter p es) (filter p es)))
    by true k = (each_from_members (λ n. name_cmp e.name n ≡ Less) _ (λ n c. let m = map_from _ (filter p es) n c in subst (λ t. name_cmp e.name t ≡ Less) m.2 (each_of_member (λ (x : Entry). name_cmp e.name x.name ≡ Less) es m.0 up.0 (filter_from p es m.0 m.1).0)), k)
    by false k = k

pub tops_are : (files : List File) (place : List ℕ) (es : List Entry) → AreEntries files place es → tops es ≡ top_classes files place
tops_are files place es h = same_rising name_cmp (apart_from_total name_cmp nat_list_cmp_total) (tops es) (top_classes files place) (names_rise is_top_class es h.rise) (in_order_rises _) to back
  where
    to : (n : List ℕ) → Contains (tops es) n → Contains (top_classes files place) n
    to n c =
        let m = map_from _ (filter is_top_class es) n c in
        let t = filter_from is_top_class es m.0 m.1 in
        let b = and_parts _ _ t.1 in
        let r = h.only m.0 t.0 in
        let p = file_entry place r.0.path m.0 r.2 (not-true _ b.0) in
        subst (Contains (top_classes files place)) m.2
        (in_order_in _ m.0.name (filter_in _ (rests files place) m.0.name (rest_in files place m.0.name r.0 r.1 p.0) (and_from _ _ (ap not p.1) b.1)))

    back : (n : List ℕ) → Contains (top_classes files place) n → Contains (tops es) n
    back n c =
        let t = filter_from _ (rests files place) n (in_order_from _ n c) in
        let b = and_parts _ _ t.1 in
        let r = rest_from files place n t.0 in
        let e = entry_file place r.0.path n r.2 (not-true _ b.0) in
        map_in (λ (x : Entry). x.name) (filter is_top_class es) (record { name = n; is_dir = false }) (filter_in is_top_class es _ (h.all r.0 _ r.1 e) b.1)
