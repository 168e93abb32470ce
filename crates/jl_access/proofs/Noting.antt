-- One note more in the lines of a list of notes.
use Rattle.std.proofs.Common.{◌≡◌, ◌+◌, ℕ, List, [], ◌∷◌, ◌++◌, length, map, filter, Bool, true, false, ◌||◌, cond, if◌then◌else◌, min, Option, Some, refl, sym, ◌∙◌, ap, ap₂, true≢false, arith, append_assoc, length-append}
use Rattle.std.specs.List.{list_any, AllByRecursion}
use Rattle.std.specs.Map.{lookup}
use Rattle.std.proofs.lemmas.List.{map-append, append-nil}
use Rattle.std.proofs.lemmas.List.Elements.{filter-append}
use Rattle.std.proofs.lemmas.List.Folds.{list_any-append}
use Rattle.indexmap.specs.IndexMap.{insert_entry}
use Rattle.jl_logic.specs.Counts.{last_count, raised}
use Rattle.jl_access.specs.declared.report.Key.{Key}
use Rattle.jl_access.specs.contracts.report.KeyPartialEq.TheImpl as keys
use Rattle.jl_access.specs.Counting.{after_note}
use Rattle.jl_access.specs.Reports.{Line, Note, is_same_key, has_key, firsts, counted_notes, line_of, lines_of, one_more, noted}
use Rattle.jl_access.proofs.Keys.{derived_key, same_itself, same_turned, same_alike}

-- ---- the entries of the map

abbrev pub line_in : Key × (ℕ × ℕ) → Line
line_in e = record { key = e.0; first = e.1.0; count = e.1.1 }

module _ (key : Key) (step : ℕ) where
  put : (e : Key × (ℕ × ℕ)) (es : List (Key × (ℕ × ℕ))) (ls : List Line) (found : Option (ℕ × ℕ)) (b : Bool)
      → map line_in (insert_entry keys.eq-value.it es key (after_note step found)) ≡ ls
      → map line_in (if b then (e.0, after_note step (cond b (Some e.1) found)) ∷ es else e ∷ insert_entry keys.eq-value.it es key (after_note step (cond b (Some e.1) found)))
      ≡ (if b then one_more (line_in e) ∷ map line_in es else line_in e ∷ ls)
  put e es ls found true h = refl
  put e es ls found false h = ap (λ l. line_in e ∷ l) h

  pub noted_entries : (es : List (Key × (ℕ × ℕ))) → map line_in (insert_entry keys.eq-value.it es key (after_note step (lookup (keys.eq-value.it key) es))) ≡ noted key step (map line_in es)
  unfolding noted
  noted_entries [] = refl
  noted_entries (e ∷ es) =
      put e es (noted key step (map line_in es)) (lookup (keys.eq-value.it key) es) (keys.eq-value.it key e.0) (noted_entries es)
      ∙ ap (λ b. if b then one_more (line_in e) ∷ map line_in es else line_in e ∷ noted key step (map line_in es)) (derived_key key e.0 ∙ same_turned key e.0)

-- ---- which notes are the first of their key

or_false : (a b : Bool) → (a || b) ≡ false → a ≡ false
or_false true b e = e
or_false false b e = refl

or_false_right : (a b : Bool) → (a || (b || false)) ≡ false → b ≡ false
or_false_right true b e = absurd (true≢false e)
or_false_right false true e = absurd (true≢false e)
or_false_right false false e = refl

any_with : (k : Key) (before : List Note) (m : Note) → list_any (has_key k) (before ++ m ∷ []) ≡ (list_any (has_key k) before || (has_key k m || false))
any_with k before m = list_any-append (has_key k) before (m ∷ [])

abbrev IsFresh : List Note → Note → Type 0
IsFresh before f = list_any (has_key f.key) before ≡ false

fresh_less : (before : List Note) (m : Note) (fs : List Note) → AllByRecursion (IsFresh (before ++ m ∷ [])) fs → AllByRecursion (IsFresh before) fs
fresh_less before m [] all = tt
fresh_less before m (f ∷ fs) all = (or_false (list_any (has_key f.key) before) (has_key f.key m || false) (sym (any_with f.key before m) ∙ all.0), fresh_less before m fs all.1)

fresh_apart : (before : List Note) (m : Note) (fs : List Note) → AllByRecursion (IsFresh (before ++ m ∷ [])) fs → AllByRecursion (λ g. is_same_key m.key g.key ≡ false) fs
fresh_apart before m [] all = tt
fresh_apart before m (f ∷ fs) all = (or_false_right (list_any (has_key f.key) before) (has_key f.key m) (sym (any_with f.key before m) ∙ all.0), fresh_apart before m fs all.1)

abbrev AreApart : List Note → Type 0
AreApart [] = Unit {0}
AreApart (f ∷ fs) = AllByRecursion (λ g. is_same_key f.key g.key ≡ false) fs × AreApart fs

firsts_fresh : (before ns : List Note) → AllByRecursion (IsFresh before) (firsts before ns)
unfolding firsts
firsts_fresh before [] = tt
firsts_fresh before (m ∷ ns) = by (fresh_less before m (firsts (before ++ m ∷ []) ns) (firsts_fresh (before ++ m ∷ []) ns)) (list_any (has_key m.key) before) refl
  where
    by : AllByRecursion (IsFresh before) (firsts (before ++ m ∷ []) ns) → (b : Bool) → list_any (has_key m.key) before ≡ b
        → AllByRecursion (IsFresh before) (if b then firsts (before ++ m ∷ []) ns else m ∷ firsts (before ++ m ∷ []) ns)
    by rest true e = rest
    by rest false e = (e, rest)

firsts_apart : (before ns : List Note) → AreApart (firsts before ns)
unfolding firsts
firsts_apart before [] = tt
firsts_apart before (m ∷ ns) = by (firsts_apart (before ++ m ∷ []) ns) (fresh_apart before m (firsts (before ++ m ∷ []) ns) (firsts_fresh (before ++ m ∷ []) ns)) (list_any (has_key m.key) before)
  where
    by : AreApart (firsts (before ++ m ∷ []) ns) → AllByRecursion (λ g. is_same_key m.key g.key ≡ false) (firsts (before ++ m ∷ []) ns) → (b : Bool)
        → AreApart (if b then firsts (before ++ m ∷ []) ns else m ∷ firsts (before ++ m ∷ []) ns)
    by rest apart true = rest
    by rest apart false = (apart, rest)

-- a key is among the firsts exactly where it is among the notes
any_met : (k : Key) (m : Note) (before : List Note) → list_any (has_key m.key) before ≡ true → has_key k m ≡ true → list_any (has_key k) before ≡ true
any_met k m [] e h = e
any_met k m (x ∷ xs) e h = by (λ r. any_met k m xs r h) (has_key m.key x) refl
  where
    by : (list_any (has_key m.key) xs ≡ true → list_any (has_key k) xs ≡ true) → (b : Bool) → has_key m.key x ≡ b → list_any (has_key k) (x ∷ xs) ≡ true
    by rest true f =
        let same : is_same_key x.key k ≡ true = same_turned x.key k ∙ sym (same_alike m.key k x.key h) ∙ same_turned m.key x.key ∙ f in
        ap (λ b. b || list_any (has_key k) xs) same
    by rest false f = ap (λ b. is_same_key x.key k || b) (rest (sym (ap (λ b. b || list_any (has_key m.key) xs) f) ∙ e)) ∙ or_true (is_same_key x.key k)
      where
        or_true : (b : Bool) → (b || true) ≡ true
        or_true true = refl
        or_true false = refl

either_way : (a h f n b : Bool) → ((a || (h || false)) || f) ≡ ((a || (h || false)) || n) → (b ≡ true → h ≡ true → a ≡ true) → (a || (if b then f else (h || f))) ≡ (a || (h || n))
either_way true h f n b e met = refl
either_way false true f n true e met = absurd (true≢false (sym (met refl refl)))
either_way false true f n false e met = refl
either_way false false f n true e met = e
either_way false false f n false e met = e

any_choice : (k : Key) (m : Note) (fs : List Note) (b : Bool) → list_any (has_key k) (if b then fs else m ∷ fs) ≡ (if b then list_any (has_key k) fs else (has_key k m || list_any (has_key k) fs))
any_choice k m fs true = refl
any_choice k m fs false = refl

firsts_any : (k : Key) (before ns : List Note) → (list_any (has_key k) before || list_any (has_key k) (firsts before ns)) ≡ (list_any (has_key k) before || list_any (has_key k) ns)
unfolding firsts
firsts_any k before [] = refl
firsts_any k before (m ∷ ns) =
    ap (λ b. list_any (has_key k) before || b) (any_choice k m (firsts (before ++ m ∷ []) ns) (list_any (has_key m.key) before))
    ∙ either_way (list_any (has_key k) before) (has_key k m) (list_any (has_key k) (firsts (before ++ m ∷ []) ns)) (list_any (has_key k) ns) (list_any (has_key m.key) before)
    (sym (ap (λ b. b || list_any (has_key k) (firsts (before ++ m ∷ []) ns)) (any_with k before m)) ∙ firsts_any k (before ++ m ∷ []) ns ∙ ap (λ b. b || list_any (has_key k) ns) (any_with k before m))
    (λ e h. any_met k m before e h)

-- ---- the firsts of one note more

firsts_with : (before ns : List Note) (n : Note) → firsts before (ns ++ n ∷ []) ≡ (if list_any (has_key n.key) (before ++ ns) then firsts before ns else firsts before ns ++ n ∷ [])
unfolding firsts
firsts_with before [] n = ap (λ xs. if list_any (has_key n.key) xs then [] else n ∷ []) (sym (append-nil before))
firsts_with before (m ∷ ns) n =
    by (list_any (has_key m.key) before) (list_any (has_key n.key) (before ++ m ∷ ns))
    (firsts_with (before ++ m ∷ []) ns n ∙ ap (λ xs. if list_any (has_key n.key) xs then firsts (before ++ m ∷ []) ns else firsts (before ++ m ∷ []) ns ++ n ∷ []) (append_assoc before (m ∷ []) ns))
  where
    by : (b c : Bool) → firsts (before ++ m ∷ []) (ns ++ n ∷ []) ≡ (if c then firsts (before ++ m ∷ []) ns else firsts (before ++ m ∷ []) ns ++ n ∷ [])
        → (if b then firsts (before ++ m ∷ []) (ns ++ n ∷ []) else m ∷ firsts (before ++ m ∷ []) (ns ++ n ∷ []))
        ≡ (if c then (if b then firsts (before ++ m ∷ []) ns else m ∷ firsts (before ++ m ∷ []) ns) else (if b then firsts (before ++ m ∷ []) ns else m ∷ firsts (before ++ m ∷ []) ns) ++ n ∷ [])
    by true c e = e
    by false true e = ap (λ l. m ∷ l) e
    by false false e = ap (λ l. m ∷ l) e

-- ---- counts

counted_with : (notes : List Note) (n : Note) (k : Key) (b : Bool) → has_key k n ≡ b → counted_notes (notes ++ n ∷ []) k ≡ (if b then raised (counted_notes notes k) else counted_notes notes k)
counted_with notes n k true e =
    let more : length (filter (has_key k) (notes ++ n ∷ [])) ≡ length (filter (has_key k) notes) + 1 =
    ap length (filter-append (has_key k) notes (n ∷ [])) ∙ length-append (filter (has_key k) notes) (filter (has_key k) (n ∷ [])) ∙ ap (λ b. length (filter (has_key k) notes) + length (cond b (n ∷ []) [])) e in
    ap (λ x. min x last_count) more ∙ omega arith
counted_with notes n k false e =
    let more : length (filter (has_key k) (notes ++ n ∷ [])) ≡ length (filter (has_key k) notes) + 0 =
    ap length (filter-append (has_key k) notes (n ∷ [])) ∙ length-append (filter (has_key k) notes) (filter (has_key k) (n ∷ [])) ∙ ap (λ b. length (filter (has_key k) notes) + length (cond b (n ∷ []) [])) e in
    ap (λ x. min x last_count) more ∙ omega arith

nothing_kept : (p : Note → Bool) (notes : List Note) → list_any p notes ≡ false → filter p notes ≡ []
nothing_kept p [] e = refl
nothing_kept p (x ∷ xs) e = by (p x) e (λ f. nothing_kept p xs f)
  where
    by : (b : Bool) → (b || list_any p xs) ≡ false → (list_any p xs ≡ false → filter p xs ≡ []) → cond b (x ∷ filter p xs) (filter p xs) ≡ []
    by true f rest = absurd (true≢false f)
    by false f rest = rest f

counted_none : (notes : List Note) (k : Key) → list_any (has_key k) notes ≡ false → counted_notes notes k ≡ 0
counted_none notes k e = ap (λ l. min (length l) last_count) (nothing_kept (has_key k) notes e) ∙ omega arith

-- ---- the lines

map_alike : {X Y : Type 0} (f g : X → Y) (xs : List X) → ((x : X) → f x ≡ g x) → map f xs ≡ map g xs
map_alike f g [] h = refl
map_alike f g (x ∷ xs) h = ap₂ (λ y ys. y ∷ ys) (h x) (map_alike f g xs h)

module _ (notes : List Note) (n : Note) where
  -- the line of a first note, after n
  bumped : Note → Line
  bumped f = if is_same_key n.key f.key then one_more (line_of notes f) else line_of notes f

  new_line : Line
  new_line = record { key = n.key; first = n.step; count = 1 }

  line_with : (f : Note) → line_of (notes ++ n ∷ []) f ≡ bumped f
  unfolding bumped
  line_with f = by (is_same_key n.key f.key) refl
    where
      by : (b : Bool) → is_same_key n.key f.key ≡ b → line_of (notes ++ n ∷ []) f ≡ (if is_same_key n.key f.key then one_more (line_of notes f) else line_of notes f)
      by true e = ap (λ c. record { key = f.key; first = f.step; count = c }) (counted_with notes n f.key true e) ∙ sym (ap (λ b. if b then one_more (line_of notes f) else line_of notes f) e)
      by false e = ap (λ c. record { key = f.key; first = f.step; count = c }) (counted_with notes n f.key false e) ∙ sym (ap (λ b. if b then one_more (line_of notes f) else line_of notes f) e)

  bumped_by : (f : Note) (b : Bool) → is_same_key n.key f.key ≡ b → bumped f ≡ (if b then one_more (line_of notes f) else line_of notes f)
  unfolding bumped
  bumped_by f b e = ap (λ x. if x then one_more (line_of notes f) else line_of notes f) e

  untouched : (f : Note) (fs : List Note) → is_same_key f.key n.key ≡ true → AllByRecursion (λ g. is_same_key f.key g.key ≡ false) fs → map bumped fs ≡ map (line_of notes) fs
  unfolding bumped
  untouched f [] e all = refl
  untouched f (g ∷ fs) e all =
      ap₂ (λ l ls. l ∷ ls)
      (ap (λ b. if b then one_more (line_of notes g) else line_of notes g) (sym (same_alike f.key n.key g.key e) ∙ all.0))
      (untouched f fs e all.1)

  bumped_lines : (fs : List Note) → AreApart fs → (map bumped fs ++ (if list_any (has_key n.key) fs then [] else new_line ∷ [])) ≡ noted n.key n.step (map (line_of notes) fs)
  unfolding noted new_line
  bumped_lines [] apart = refl
  bumped_lines (f ∷ fs) apart = by (is_same_key f.key n.key) refl (bumped_lines fs apart.1)
    where
      by : (b : Bool) → is_same_key f.key n.key ≡ b → (map bumped fs ++ (if list_any (has_key n.key) fs then [] else new_line ∷ [])) ≡ noted n.key n.step (map (line_of notes) fs)
          → (bumped f ∷ (map bumped fs ++ (if (is_same_key f.key n.key || list_any (has_key n.key) fs) then [] else new_line ∷ []))) ≡ (if is_same_key f.key n.key then one_more (line_of notes f) ∷ map (line_of notes) fs else line_of notes f ∷ noted n.key n.step (map (line_of notes) fs))
      by true e rest =
          ap₂ (λ l x. l ∷ (map bumped fs ++ (if (x || list_any (has_key n.key) fs) then [] else new_line ∷ []))) (bumped_by f true (same_turned n.key f.key ∙ e)) e
          ∙ ap (λ ls. one_more (line_of notes f) ∷ ls) (append-nil (map bumped fs) ∙ untouched f fs e apart.0)
          ∙ sym (ap (λ x. if x then one_more (line_of notes f) ∷ map (line_of notes) fs else line_of notes f ∷ noted n.key n.step (map (line_of notes) fs)) e)
      by false e rest =
          ap₂ (λ l x. l ∷ (map bumped fs ++ (if (x || list_any (has_key n.key) fs) then [] else new_line ∷ []))) (bumped_by f false (same_turned n.key f.key ∙ e)) e
          ∙ ap (λ ls. line_of notes f ∷ ls) rest
          ∙ sym (ap (λ x. if x then one_more (line_of notes f) ∷ map (line_of notes) fs else line_of notes f ∷ noted n.key n.step (map (line_of notes) fs)) e)

  one_line : list_any (has_key n.key) notes ≡ false → line_of (notes ++ n ∷ []) n ≡ new_line
  unfolding new_line
  one_line e = ap (λ c. record { key = n.key; first = n.step; count = c }) (counted_with notes n n.key true (same_itself n.key) ∙ ap raised (counted_none notes n.key e) ∙ omega arith)

  all_lines : (b : Bool) (fs : List Note) → list_any (has_key n.key) notes ≡ b → map (line_of (notes ++ n ∷ [])) (if b then fs else fs ++ n ∷ []) ≡ map bumped fs ++ (if b then [] else new_line ∷ [])
  all_lines true fs e = map_alike (line_of (notes ++ n ∷ [])) bumped fs line_with ∙ sym (append-nil (map bumped fs))
  all_lines false fs e =
      map-append (line_of (notes ++ n ∷ [])) fs (n ∷ [])
      ∙ ap₂ (λ ls l. ls ++ l ∷ []) (map_alike (line_of (notes ++ n ∷ [])) bumped fs line_with) (one_line e)

  -- the lines of one note more
  pub lines_with : lines_of (notes ++ n ∷ []) ≡ noted n.key n.step (lines_of notes)
  lines_with =
      ap (map (line_of (notes ++ n ∷ []))) (firsts_with [] notes n)
      ∙ all_lines (list_any (has_key n.key) notes) (firsts [] notes) refl
      ∙ ap (λ b. map bumped (firsts [] notes) ++ (if b then [] else new_line ∷ [])) (sym (firsts_any n.key [] notes))
      ∙ bumped_lines (firsts [] notes) (firsts_apart [] notes)
