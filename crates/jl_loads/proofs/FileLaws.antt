-- What the file of a class declares: it is kept, it has the name, and its tables are short (JVMS 5.3.5).
use Rattle.std.proofs.Common.{◌≡◌, ℕ, List, [], ◌∷◌, length, Option, Some, None, Result, Ok, Err, Bool, true, false, is_some, nat_lt, if◌then◌else◌, refl, sym, ◌∙◌, ap, subst}
use Rattle.std.specs.Option.{option_map_or}
use Rattle.std.specs.Cmp.Lexicographic.{bytes_decides}
use Rattle.jl_logic.specs.Lists.{IsFront}
use Rattle.jl_logic.specs.Order.{is_text}
use Rattle.jl_logic.proofs.Rising.{contains_head, contains_tail}
use Rattle.jl_prim.specs.Limits.{most_file_bytes}
use Rattle.jl_prim.specs.declared.numbers.LoaderId.{LoaderId}
use Rattle.jl_prim.specs.declared.numbers.ModuleId.{ModuleId}
use Rattle.jl_prim.specs.declared.error_kind.ErrorKind.TheVariants as errors
use Rattle.jl_reading.specs.Reading.{IsBytes}
use Rattle.jl_tree.specs.Files.{File, read_of}
use Rattle.jl_tree.specs.declared.tree.TreeFault.{TreeFault}
use Rattle.jl_tree.specs.declared.tree.TreeFault.TheVariants.{TooLong}
use Rattle.jl_class.specs.Classes.{Class}
use Rattle.jl_class.specs.Reading.{class_of}
use Rattle.jl_class.specs.Tables.{AreTables}
use Rattle.jl_class.specs.declared.fault.ClassFault.{ClassFault}
use Rattle.jl_loaders.specs.Loaders.{lead}
use Rattle.jl_loads.specs.declared.class_key.ClassKey.{ClassKey}
use Rattle.jl_loads.specs.Worlds as worlds
use Rattle.jl_loads.specs.Worlds.{State, Content, Absent, Declares, Broken, Lost, with_kept, is_base}
use Rattle.jl_loads.specs.Outcomes.{of_class}
use Rattle.jl_loads.specs.Loading.{kept_at, content_at, content_of, parsed, with_file, path_in, declared_by, declared_in, has_file, has_file_in, is_there}
use Rattle.jl_loads.specs.Laws.{AreSound, AreBytes}
use Rattle.jl_loads.proofs.Beside.{sound_kept}
use Rattle.jl_loads.proofs.GoingOn.{within_kept}
use Rattle.jl_loads.proofs.Remembered.{AreTabled, new_content, told_kept, file_kept, kept_front, kept_there}
use Rattle.jl_loads.proofs.Followed.{Follows, Yields, follows_same, yields_value, yields_error, yields_thrown}

-- ---- files of bytes

-- a class that is read of bytes has short tables and one nest
abbrev pub ReadTables : Type 0
ReadTables = (bytes : List ℕ) (c : Class) → IsBytes bytes → class_of bytes ≡ Ok c → AreTables c

read_first : (f : File) (fs : List File) (path : List ℕ) (most : ℕ) → is_text f.path path ≡ true
    → read_of (f ∷ fs) path most ≡ (if nat_lt most (length f.bytes) then Err (TooLong (length f.bytes)) else Ok (Some f.bytes))
read_first f fs path most e = rw e refl

read_rest : (f : File) (fs : List File) (path : List ℕ) (most : ℕ) → is_text f.path path ≡ false → read_of (f ∷ fs) path most ≡ read_of fs path most
read_rest f fs path most e = rw e refl

-- what is read of them is of bytes
read_bytes : (files : List File) (path : List ℕ) (most : ℕ) (bytes : List ℕ) → AreBytes files → read_of files path most ≡ Ok (Some bytes) → IsBytes bytes
read_bytes [] path most bytes h e = absurd cc
read_bytes (f ∷ fs) path most bytes h e = by (is_text f.path path) refl (λ i. read_bytes fs path most bytes (λ g c. h g (contains_tail f g fs c)) i)
  where
    whole : (b : Bool) → ◌≡◌ {A = Result (Option (List ℕ)) TreeFault} (if b then Err (TooLong (length f.bytes)) else Ok (Some f.bytes)) (Ok (Some bytes)) → f.bytes ≡ bytes
    whole true i = absurd cc
    whole false i = cc

    by : (b : Bool) → is_text f.path path ≡ b → (read_of fs path most ≡ Ok (Some bytes) → IsBytes bytes) → IsBytes bytes
    by true i more = subst IsBytes (whole (nat_lt most (length f.bytes)) (sym (read_first f fs path most i) ∙ e)) (h f (contains_head f fs))
    by false i more = more (sym (read_rest f fs path most i) ∙ e)

pub files_tabled : (files : List File) → ReadTables → AreBytes files → AreTabled files
files_tabled files reads h path c e = by (read_of files path most_file_bytes) refl e
  where
    of_class_file : (bytes : List ℕ) (r : Result Class ClassFault) → class_of bytes ≡ r → IsBytes bytes → parsed r ≡ Declares c → AreTables c
    of_class_file bytes (Ok d) i are f = let same : d ≡ c = cc in subst AreTables same (reads bytes d are i)
    of_class_file bytes (Err x) i are f = absurd cc

    by : (r : Result (Option (List ℕ)) TreeFault) → read_of files path most_file_bytes ≡ r → content_of r ≡ Declares c → AreTables c
    by (Ok None) i f = absurd cc
    by (Ok (Some bytes)) i f = of_class_file bytes (class_of bytes) refl (read_bytes files path most_file_bytes bytes h i) f
    by (Err x) i f = absurd cc

-- ---- a file that is kept

-- the class has the name, and its tables are short in any later state that is sound
abbrev pub IsDeclared : List ℕ → State → Class → Type 0
IsDeclared name t c = (c.name ≡ name) × ((u : State) → IsFront t.kept u.kept → AreSound u → AreTables c)

module _ (files : List File) (ws : List ClassKey) (s : State) where
  pub file_follows : (path : List ℕ) → Follows files ws s (with_file files path s)
  file_follows path = by (kept_at s path) refl
    where
      by : (o : Option Content) → kept_at s path ≡ o → Follows files ws s (if is_some o then s else with_kept path (content_at files s path) s)
      by None e = record {
        grows = within_kept s path (content_at files s path);
        sound = λ d h. sound_kept s path (content_at files s path) (record { fresh = e; tables = λ c i. d path c (sym (new_content files s path e) ∙ i) }) h;
        told = λ h. told_kept files s path (content_at files s path) (new_content files s path e) h;
        free = λ l name w i. i;
      }
      by (Some what) e = follows_same files ws s

  pub declared_yields : (m : ModuleId) (name : List ℕ) → Yields files ws s (IsDeclared name) (declared_in files s m name)
  declared_yields m name = by (is_base s m)
    where
      tabled : (path : List ℕ) (c : Class) → content_at files s path ≡ Declares c → (u : State) → IsFront (with_file files path s).kept u.kept → AreSound u → AreTables c
      tabled path c e u front sound =
          let kept : kept_at (with_file files path s) path ≡ Some (Declares c) = file_kept files s path ∙ ap (λ (w : Content). Some w) e in
          sound.files (path, Declares c) c (kept_there u path (Declares c) (kept_front (with_file files path s) u path (Declares c) front kept)) refl

      named : (path : List ℕ) (c : Class) → content_at files s path ≡ Declares c → (b : Bool) → is_text c.name name ≡ b
          → Yields files ws s (IsDeclared name) (with_file files path s, if b then Ok c else Err (of_class errors.NoClassDefFoundError name))
      named path c e true i = yields_value files ws s (IsDeclared name) (with_file files path s) c (file_follows path) ((bytes_decides c.name name).0 i, tabled path c e)
      named path c e false i = yields_error files ws s (IsDeclared name) (with_file files path s) (of_class errors.NoClassDefFoundError name) (file_follows path)

      given : (path : List ℕ) (what : Content) → content_at files s path ≡ what → Yields files ws s (IsDeclared name) (with_file files path s, declared_by name what)
      given path Absent e = yields_error files ws s (IsDeclared name) (with_file files path s) _ (file_follows path)
      given path worlds.TooLong e = yields_error files ws s (IsDeclared name) (with_file files path s) _ (file_follows path)
      given path (Declares c) e = named path c e (is_text c.name name) refl
      given path (Broken f) e = yields_error files ws s (IsDeclared name) (with_file files path s) _ (file_follows path)
      given path Lost e = yields_error files ws s (IsDeclared name) (with_file files path s) _ (file_follows path)

      by : (b : Bool) → Yields files ws s (IsDeclared name)
          (if b then (s, Err (of_class errors.NoClassDefFoundError name)) else (with_file files (path_in s m name) s, declared_by name (content_at files s (path_in s m name))))
      by true = yields_thrown files ws s (IsDeclared name) (of_class errors.NoClassDefFoundError name)
      by false = given (path_in s m name) (content_at files s (path_in s m name)) refl

  -- whether there is a file
  pub heard_follows : (l : LoaderId) (name : List ℕ) → Follows files ws s (has_file files s l name).0
  heard_follows l name = by (lead s.layers.loaders l name)
    where
      within : (m : ModuleId) (b : Bool) → Follows files ws s (let r : State × Bool = if b then (s, false) else (with_file files (path_in s m name) s, is_there (content_at files s (path_in s m name))) in r.0)
      within m true = follows_same files ws s
      within m false = file_follows (path_in s m name)

      by : (o : Option ModuleId) → Follows files ws s (option_map_or (has_file_in files s name) o (s, false)).0
      by None = follows_same files ws s
      by (Some m) = within m (is_base s m)
