-- What is kept of paths: what one path more leaves of it, and what is asked for.
use Rattle.std.proofs.Common.{◌≡◌, ℕ, List, [], ◌∷◌, ◌++◌, map, option_map, Option, Some, None, Bool, true, false, cond, is_some, if◌then◌else◌, inl, inr, refl, sym, ◌∙◌, ap, ap₂, subst, unwrap_or}
use Rattle.std.specs.Prelude.{Contains, IsSome}
use Rattle.std.specs.Map.{lookup}
use Rattle.std.specs.Option.{option_or}
use Rattle.std.specs.Cmp.Lexicographic.{bytes_decides}
use Rattle.std.proofs.lemmas.List.{map-append, append-nil, append_assoc}
use Rattle.std.proofs.lemmas.List.Elements.{Contains-append_cases}
use Rattle.std.proofs.lemmas.Option.{none-some, same_Some}
use Rattle.jl_logic.specs.Lists.{IsFront, AreDistinct}
use Rattle.jl_logic.specs.Order.{is_text}
use Rattle.jl_logic.proofs.Apart.{distinct_push}
use Rattle.jl_logic.proofs.Rising.{contains_head, contains_tail, contains_nothing}
use Rattle.jl_prim.specs.Limits.{most_file_bytes}
use Rattle.jl_tree.specs.Files.{File, read_of}
use Rattle.jl_class.specs.Classes.{Class}
use Rattle.jl_class.specs.Tables.{AreTables}
use Rattle.jl_layer.specs.Layers as layers
use Rattle.jl_loads.specs.Worlds.{State, Content, Declares, bare, with_kept, with_class}
use Rattle.jl_loads.specs.Loading.{kept_at, content_at, content_of, with_file}
use Rattle.jl_loads.specs.Beginning.{begun, begun_by, base_class}
use Rattle.jl_loads.specs.Ends.{Asks}
use Rattle.jl_loads.specs.Laws.{AreTold, ReadOnce}
use Rattle.jl_loads.proofs.Entries.{lookup_behind, lookup_there, lookup_none}

-- what is kept goes on to be kept
pub kept_front : (f g : State) (path : List ℕ) (what : Content) → IsFront f.kept g.kept → kept_at f path ≡ Some what → kept_at g path ≡ Some what
kept_front f g path what front e =
    ap (lookup (is_text path)) front.1 ∙ lookup_behind (is_text path) f.kept front.0 ∙ ap (λ (o : Option Content). option_or o (lookup (is_text path) front.0)) e

-- of what nothing is kept later nothing is kept before
pub unkept_front : (f g : State) (path : List ℕ) → IsFront f.kept g.kept → kept_at g path ≡ None → kept_at f path ≡ None
unkept_front f g path front e = by (kept_at f path) refl
  where
    by : (o : Option Content) → kept_at f path ≡ o → kept_at f path ≡ None
    by None i = i
    by (Some what) i = absurd (none-some what (sym e ∙ kept_front f g path what front i))

-- what is kept is an entry
pub kept_there : (s : State) (path : List ℕ) (what : Content) → kept_at s path ≡ Some what → Contains s.kept (path, what)
kept_there s path what e =
    let r = lookup_there (is_text path) s.kept what e in
    let same : ◌≡◌ {A = List ℕ × Content} r.0 (path, what) = ap₂ (λ (p : List ℕ) (w : Content). (p, w)) (sym ((bytes_decides path r.0.0).0 r.2)) r.3 in
    subst (Contains s.kept) same r.1

-- one path more is none of those before it
pub kept_distinct : (s : State) (path : List ℕ) (what : Content) → kept_at s path ≡ None → AreDistinct (map (λ (f : List ℕ × Content). f.0) s.kept)
    → AreDistinct (map (λ (f : List ℕ × Content). f.0) (s.kept ++ (path, what) ∷ []))
kept_distinct s path what fresh h =
    subst AreDistinct (sym (map-append (λ (f : List ℕ × Content). f.0) s.kept ((path, what) ∷ [])))
    (distinct_push (map (λ (f : List ℕ × Content). f.0) s.kept) path h (λ c. no c))
  where
    no : Contains (map (λ (f : List ℕ × Content). f.0) s.kept) path → ⊥
    no c =
        let yes : is_text path path ≡ true = (bytes_decides path path).1 refl in
        let not : is_text path path ≡ false = lookup_none (is_text path) s.kept path fresh c in
        absurd cc

-- ---- what files give

-- each class that files declare has short tables and one nest
abbrev pub AreTabled : List File → Type 0
AreTabled files = (path : List ℕ) (c : Class) → content_of (read_of files path most_file_bytes) ≡ Declares c → AreTables c

module _ (files : List File) where
  -- what a path gives is what the files give
  pub told_content : (s : State) (path : List ℕ) → AreTold files s → content_at files s path ≡ content_of (read_of files path most_file_bytes)
  told_content s path h = by (kept_at s path) refl
    where
      by : (o : Option Content) → kept_at s path ≡ o → content_at files s path ≡ content_of (read_of files path most_file_bytes)
      by None e = ap (λ (o : Option Content). unwrap_or o (content_of (read_of files path most_file_bytes))) e
      by (Some what) e = ap (λ (o : Option Content). unwrap_or o (content_of (read_of files path most_file_bytes))) e ∙ h path what e

  -- a path of which nothing is kept gives what the files give
  pub new_content : (s : State) (path : List ℕ) → kept_at s path ≡ None → content_at files s path ≡ content_of (read_of files path most_file_bytes)
  new_content s path e = ap (λ (o : Option Content). unwrap_or o (content_of (read_of files path most_file_bytes))) e

  pub told_kept : (s : State) (path : List ℕ) (what : Content) → what ≡ content_of (read_of files path most_file_bytes) → AreTold files s → AreTold files (with_kept path what s)
  told_kept s path what e h q w i = by (kept_at s q) refl (sym (lookup_behind (is_text q) s.kept ((path, what) ∷ [])) ∙ i)
    where
      last : (b : Bool) → is_text q path ≡ b → cond b (Some what) None ≡ Some w → w ≡ content_of (read_of files q most_file_bytes)
      last true same j = sym (same_Some what w j) ∙ e ∙ ap (λ (p : List ℕ). content_of (read_of files p most_file_bytes)) (sym ((bytes_decides q path).0 same))
      last false same j = absurd (none-some w j)

      by : (o : Option Content) → kept_at s q ≡ o → option_or o (cond (is_text q path) (Some what) None) ≡ Some w → w ≡ content_of (read_of files q most_file_bytes)
      by None k j = last (is_text q path) refl j
      by (Some v) k j = h q w (k ∙ j)

  -- what one more path gives is kept
  pub told_file : (s : State) (path : List ℕ) → AreTold files s → AreTold files (with_file files path s)
  told_file s path h = by (is_some (kept_at s path))
    where
      by : (b : Bool) → AreTold files (if b then s else with_kept path (content_at files s path) s)
      by true = h
      by false = told_kept s path (content_at files s path) (told_content s path h) h

  -- and then it is there
  pub file_kept : (s : State) (path : List ℕ) → kept_at (with_file files path s) path ≡ Some (content_at files s path)
  file_kept s path = by (kept_at s path) refl
    where
      by : (o : Option Content) → kept_at s path ≡ o → kept_at (if is_some (kept_at s path) then s else with_kept path (content_at files s path) s) path ≡ Some (content_at files s path)
      by None e =
          ap (λ (o : Option Content). kept_at (if is_some o then s else with_kept path (content_at files s path) s) path) e
          ∙ lookup_behind (is_text path) s.kept ((path, content_at files s path) ∷ [])
          ∙ ap (λ (o : Option Content). option_or o (lookup (is_text path) ((path, content_at files s path) ∷ []))) e
          ∙ ap (λ (b : Bool). cond b (Some (content_at files s path)) None) ((bytes_decides path path).1 refl)
      by (Some what) e =
          ap (λ (o : Option Content). kept_at (if is_some o then s else with_kept path (content_at files s path) s) path) e
          ∙ e ∙ ap (λ (o : Option Content). Some (unwrap_or o (content_of (read_of files path most_file_bytes)))) (sym e)

-- what a world begins with keeps nothing
begun_kept : (cs : List Class) (s : State) → (begun_by s cs).kept ≡ s.kept
unfolding begun_by
begun_kept [] s = refl
begun_kept (c ∷ cs) s = begun_kept cs (with_class (base_class s c) s)

pub begun_told : (files : List File) (l : layers.State) (cs : List Class) → AreTold files (begun l cs)
begun_told files l cs path what e = absurd (none-some what (sym (ap (lookup (is_text path)) (begun_kept cs (bare l))) ∙ e))

-- ---- what is asked for

asks_none : (s : State) (asked : Option (List (List ℕ))) → Asks s s asked asked
asks_none s asked = record {
  more = [];
  asked = by asked;
  once = tt;
  fresh = λ path c. contains_nothing path c;
  kept = λ path c. contains_nothing path c;
}
  where
    by : (o : Option (List (List ℕ))) → o ≡ option_map (λ (ps : List (List ℕ)). ps ++ []) o
    by None = refl
    by (Some ps) = ap (λ (l : List (List ℕ)). Some l) (sym (append-nil ps))

distinct_both : (xs ys : List (List ℕ)) → AreDistinct xs → AreDistinct ys → ((x : List ℕ) → Contains xs x → Contains ys x → ⊥) → AreDistinct (xs ++ ys)
distinct_both [] ys h k apart = k
distinct_both (x ∷ xs) ys h k apart =
    ((λ c. elim (Contains-append_cases xs ys x c) [ inl i ↦ h.0 i | inr i ↦ apart x (contains_head x xs) i ]), distinct_both xs ys h.1 k (λ y c d. apart y (contains_tail x y xs c) d))

kept_on : (f g : State) (path : List ℕ) → IsFront f.kept g.kept → IsSome (kept_at f path) → IsSome (kept_at g path)
kept_on f g path front h = by (kept_at f path) refl h
  where
    by : (o : Option Content) → kept_at f path ≡ o → IsSome o → IsSome (kept_at g path)
    by None e i = absurd cc
    by (Some what) e i = subst (λ (o : Option Content). IsSome o) (sym (kept_front f g path what front e)) refl

unlike : (o : Option Content) → o ≡ None → IsSome o → ⊥
unlike None e i = cc
unlike (Some w) e i = none-some w (sym e)

pub asks_onward : (f g h : State) (a b c : Option (List (List ℕ))) → IsFront f.kept g.kept → IsFront g.kept h.kept → Asks f g a b → Asks g h b c → Asks f h a c
asks_onward f g h a b c front next x y = record {
  more = x.more ++ y.more;
  asked = y.asked ∙ ap (option_map (λ (ps : List (List ℕ)). ps ++ y.more)) x.asked ∙ by a;
  once = distinct_both x.more y.more x.once y.once (λ path i j. unlike (kept_at g path) (y.fresh path j) (x.kept path i));
  fresh = λ path i. elim (Contains-append_cases x.more y.more path i) [ inl j ↦ x.fresh path j | inr j ↦ unkept_front f g path front (y.fresh path j) ];
  kept = λ path i. elim (Contains-append_cases x.more y.more path i) [ inl j ↦ kept_on g h path next (x.kept path j) | inr j ↦ y.kept path j ];
}
  where
    by : (o : Option (List (List ℕ))) → option_map (λ (ps : List (List ℕ)). ps ++ y.more) (option_map (λ (ps : List (List ℕ)). ps ++ x.more) o) ≡ option_map (λ (ps : List (List ℕ)). ps ++ (x.more ++ y.more)) o
    by None = refl
    by (Some ps) = ap (λ (l : List (List ℕ)). Some l) (append_assoc ps x.more y.more)

pub read_once_lem : ReadOnce
read_once_lem = record { none = asks_none; onward = asks_onward }
