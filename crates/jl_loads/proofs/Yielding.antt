-- Loading adds classes and notes alone, and keeps what is loaded sound (JVMS 5.3, 5.3.5).
use Rattle.std.proofs.Common.{◌≡◌, ◌&&◌, ℕ, List, [], ◌∷◌, ◌++◌, Option, Some, None, Ok, Err, Bool, true, false, if◌then◌else◌, inl, inr, subst, arith}
use Rattle.std.specs.Prelude.{Contains, ⊤}
use Rattle.std.proofs.lemmas.List.Elements.{Contains-append_cases}
use Rattle.std.proofs.lemmas.Option.{none-some, same_Some}
use Rattle.jl_names.specs.Dots.{dotted}
use Rattle.jl_logic.proofs.Rising.{contains_nothing, contains_cases}
use Rattle.jl_prim.specs.declared.numbers.ClassId.{ClassId}
use Rattle.jl_prim.specs.declared.error_kind.ErrorKind.TheVariants as errors
use Rattle.jl_class.specs.Meaning.{is_public}
use Rattle.jl_access.specs.declared.verdict.Verdict.{Verdict}
use Rattle.jl_access.specs.declared.verdict.Verdict.TheVariants.{Granted, Denied}
use Rattle.jl_access.specs.declared.report.NoteKind.{NoteKind}
use Rattle.jl_access.specs.declared.report.NoteKind.TheVariants as kinds
use Rattle.jl_access.specs.Verdicts.{class_verdict}
use Rattle.jl_access.specs.Reports.{is_due}
use Rattle.jl_tree.specs.Files.{File}
use Rattle.jl_loads.specs.declared.class_key.ClassKey.{ClassKey}
use Rattle.jl_loads.specs.declared.role.Role.{Role}
use Rattle.jl_loads.specs.declared.role.Role.TheVariants.{Superclass, Superinterface}
use Rattle.jl_loads.specs.Worlds.{State, Loaded, with_note, class_at, IsClass, place_of}
use Rattle.jl_loads.specs.Outcomes.{Outcome, of_class, denial}
use Rattle.jl_loads.specs.Loading.{key, with_check, checked, access, fits, permits, fitted, accepted, supertype, superclass, interfaces_behind}
use Rattle.jl_loads.proofs.Places.{front_long}
use Rattle.jl_loads.proofs.Beside.{sound_noted}
use Rattle.jl_loads.proofs.GoingOn.{within_noted}
use Rattle.jl_loads.proofs.Followed.{Follows, Yields, WaitToo, follows_same, yields_value, yields_error, yields_same, yields_thrown, yields_then}

-- any value
abbrev pub Any : {X : Type 0} → State → X → Type 0
Any s x = ⊤

-- each of these is there
abbrev pub AreThere : State → List ClassId → Type 0
AreThere s cs = (d : ClassId) → Contains cs d → IsClass s d

-- ---- checks

module _ (files : List File) (ws : List ClassKey) (at : ℕ) where
  check_follows : (from to : Loaded) (kind : NoteKind) (v : Verdict) (s : State) → Follows files ws s (with_check at from to kind v s)
  check_follows from to kind v s = by (is_due from.home to.home)
    where
      by : (b : Bool) → Follows files ws s (if b then with_note (key from to kind v) at s else s)
      by false = follows_same files ws s
      by true = record {
        grows = within_noted s (key from to kind v) at;
        sound = λ d h. sound_noted s (key from to kind v) at h;
        told = λ h. h;
        free = λ l name w e. e;
      }

  -- a class that is accessed is noted
  pub access_yields : (s : State) (from to : Loaded) → Yields files ws s Any (access at s from to)
  access_yields s from to = by (class_verdict s.layers.facts (place_of from) (place_of to) (is_public to.declared.flags))
    where
      by : (v : Verdict) → Yields files ws s Any (checked at from to kinds.Class (dotted to.declared.name) s v)
      by Granted = yields_value files ws s Any (with_check at from to kinds.Class Granted s) tt (check_follows from to kinds.Class Granted s) tt
      by (Denied r) =
          yields_error files ws s Any (with_check at from to kinds.Class (Denied r) s) (denial (with_check at from to kinds.Class (Denied r) s) from to (dotted to.declared.name) r) (check_follows from to kinds.Class (Denied r) s)

  -- ---- supertypes

  none_more : WaitToo ws ws
  none_more l name w = w

  pub still_there : (s t : State) (c : ClassId) → Follows files ws s t → IsClass s c → IsClass t c
  still_there s t c h there = let le = front_long s.classes t.classes h.grows.keeps.classes in (there.0, omega (arith, there.1))

  fitted_yields : (s : State) (new : Loaded) (role : Role) (c : ClassId) (above : Loaded) → IsClass s c → Yields files ws s IsClass (fitted s new role c above)
  fitted_yields s new role c above there = by (fits role above.declared && permits above new)
    where
      by : (b : Bool) → Yields files ws s IsClass (if b then (s, Ok c) else (s, Err (of_class errors.IncompatibleClassChangeError new.declared.name)))
      by true = yields_same files ws s IsClass c there
      by false = yields_thrown files ws s IsClass (of_class errors.IncompatibleClassChangeError new.declared.name)

  accepted_yields : (s : State) (new : Loaded) (role : Role) (c : ClassId) (o : Option Loaded) → IsClass s c → Yields files ws s IsClass (accepted at s new role c o)
  accepted_yields s new role c None there = yields_same files ws s IsClass c there
  accepted_yields s new role c (Some above) there =
      yields_then files ws ws s Any IsClass (access at s new above) (λ t u. fitted t new role c above) none_more (access_yields s new above)
      (λ t u h k. fitted_yields t new role c above (still_there s t c h there))

  module _ (load : State → List ℕ → Outcome ClassId) (inner : (s : State) (name : List ℕ) → Yields files ws s IsClass (load s name)) (new : Loaded) where
    supertype_yields : (s : State) (role : Role) (name : List ℕ) → Yields files ws s IsClass (supertype load at new s role name)
    supertype_yields s role name =
        yields_then files ws ws s IsClass IsClass (load s name) (λ t c. accepted at t new role c (class_at t c)) none_more (inner s name)
        (λ t c h there. accepted_yields t new role c (class_at t c) there)

    pub superclass_yields : (s : State) (o : Option (List ℕ)) → Yields files ws s (λ t (x : Option ClassId). (d : ClassId) → x ≡ Some d → IsClass t d) (superclass load at new s o)
    superclass_yields s None = yields_same files ws s (λ t (x : Option ClassId). (d : ClassId) → x ≡ Some d → IsClass t d) None (λ d e. absurd (none-some d e))
    superclass_yields s (Some name) =
        yields_then files ws ws s IsClass (λ t (x : Option ClassId). (d : ClassId) → x ≡ Some d → IsClass t d) (supertype load at new s Superclass name) (λ t c. (t, Ok (Some c))) none_more (supertype_yields s Superclass name)
        (λ t c h there. yields_same files ws t (λ t (x : Option ClassId). (d : ClassId) → x ≡ Some d → IsClass t d) (Some c) (λ d e. subst (IsClass t) (same_Some c d e) there))

    pub behind_yields : (names : List (List ℕ)) (s : State) (done : List ClassId) → AreThere s done → Yields files ws s AreThere (interfaces_behind load at new s done names)
    unfolding interfaces_behind
    behind_yields [] s done there = yields_same files ws s AreThere done there
    behind_yields (name ∷ names) s done there =
        yields_then files ws ws s IsClass AreThere (supertype load at new s Superinterface name) (λ t c. interfaces_behind load at new t (done ++ c ∷ []) names) none_more (supertype_yields s Superinterface name)
        (λ t c h here. behind_yields names t (done ++ c ∷ []) (λ d k. elim (Contains-append_cases done (c ∷ []) d k) [
          | inl i ↦ still_there s t d h (there d i)
          | inr i ↦ elim (contains_cases c d [] i) [ inl e ↦ subst (IsClass t) e here | inr j ↦ contains_nothing d j ]
        ]))
