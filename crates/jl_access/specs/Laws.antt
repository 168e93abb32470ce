-- Laws of verdicts (JVMS 5.4.4; `AccessibleObject`; `Module`): grants last, denials name the first condition that fails, and what a grant between two modules is.
use Rattle.std.specs.Prelude.{◌≡◌, ◌↔◌, ◌⊎◌, ℕ, List, [], ◌∷◌, ◌++◌, Option, Bool, true, false}
use Rattle.std.specs.List.{AllByRecursion}
use Rattle.jl_prim.specs.declared.numbers.ModuleId.{ModuleId}
use Rattle.jl_access.specs.declared.statement.Statement.{Statement}
use Rattle.jl_access.specs.declared.verdict.Place.{Place}
use Rattle.jl_access.specs.declared.verdict.MemberAccess.{MemberAccess}
use Rattle.jl_access.specs.declared.verdict.Rule.{Rule}
use Rattle.jl_access.specs.declared.verdict.Rule.TheVariants as rules
use Rattle.jl_access.specs.declared.verdict.Verdict.TheVariants.{Granted, Denied}
use Rattle.jl_access.specs.Facts.{State, Declared, Adds, Grows, has_package, reads, opened, open_to, open_to_all, exported, exported_to, exported_to_all, asked_open, asked_exported, uses}
use Rattle.jl_access.specs.Verdicts.{class_verdict, class_conditions, member_verdict, member_conditions, reflect_verdict, reflect_conditions, by_its_class, deep_verdict, is_shown, may_go_deep, service_verdict, may_change, caller_verdict, is_one_module}

-- What holds of modules goes on to hold. Each statement and each module that is added lets facts grow, and so does one growth after another.
pub record FactsStay : Type 0 where
  pub stated : (s : Statement) (f g : State) → Adds s f g → Grows f g
  pub placed : (d : Declared) (f g : State) → g.modules ≡ f.modules ++ d ∷ [] → g.statements ≡ f.statements → Grows f g
  pub onward : (f g h : State) → Grows f g → Grows g h → Grows f h
  pub packages : (f g : State) (m : ModuleId) (p : List ℕ) → Grows f g → has_package f m p ≡ true → has_package g m p ≡ true
  pub reading : (f g : State) (a b : ModuleId) → Grows f g → reads f a b ≡ true → reads g a b ≡ true
  pub opening : (f g : State) (m : ModuleId) (p : List ℕ) → Grows f g → opened f m p ≡ true → opened g m p ≡ true
  pub opening_to : (f g : State) (m : ModuleId) (p : List ℕ) (c : ModuleId) → Grows f g → open_to f m p c ≡ true → open_to g m p c ≡ true
  pub exporting : (f g : State) (m : ModuleId) (p : List ℕ) → Grows f g → exported f m p ≡ true → exported g m p ≡ true
  pub exporting_to : (f g : State) (m : ModuleId) (p : List ℕ) (c : ModuleId) → Grows f g → exported_to f m p c ≡ true → exported_to g m p c ≡ true
  pub opening_to_all : (f g : State) (m : ModuleId) (p : List ℕ) → Grows f g → open_to_all f m p ≡ true → open_to_all g m p ≡ true
  pub exporting_to_all : (f g : State) (m : ModuleId) (p : List ℕ) → Grows f g → exported_to_all f m p ≡ true → exported_to_all g m p ≡ true
  pub asking_of_openings : (f g : State) (m : ModuleId) (p : List ℕ) (to : Option ModuleId) → Grows f g → asked_open f m p to ≡ true → asked_open g m p to ≡ true
  pub asking_of_exports : (f g : State) (m : ModuleId) (p : List ℕ) (to : Option ModuleId) → Grows f g → asked_exported f m p to ≡ true → asked_exported g m p to ≡ true
  pub using : (f g : State) (m : ModuleId) (service : List ℕ) → Grows f g → uses f m service ≡ true → uses g m service ≡ true

-- What is granted stays granted after any further modules and statements.
pub record GrantsStay : Type 0 where
  pub classes : (f g : State) (from to : Place) (public : Bool) → Grows f g
      → class_verdict f from to public ≡ Granted → class_verdict g from to public ≡ Granted
  pub reflection : (f g : State) (from to : Place) (public : Bool) (a : MemberAccess) → Grows f g
      → reflect_verdict f from to public a ≡ Granted → reflect_verdict g from to public a ≡ Granted
  pub deep : (f g : State) (from to : Place) (public : Bool) (a : MemberAccess) → Grows f g
      → deep_verdict f from to public a ≡ Granted → deep_verdict g from to public a ≡ Granted
  pub services : (f g : State) (from : ModuleId) (service : List ℕ) → Grows f g
      → service_verdict f from service ≡ Granted → service_verdict g from service ≡ Granted
  pub changes : (f g : State) (from to : ModuleId) (opens : Option (List ℕ)) → Grows f g
      → caller_verdict f from to opens ≡ Granted → caller_verdict g from to opens ≡ Granted

-- The condition with this rule fails, and none before it does.
pub record FailsFirst (conditions : List (Bool × Rule)) (r : Rule) : Type 0 where
  pub before : List (Bool × Rule)
  pub after : List (Bool × Rule)
  pub order : conditions ≡ before ++ (false, r) ∷ after
  pub hold : AllByRecursion (λ c. c.0 ≡ true) before

-- A denial names the first condition that fails, and no other.
pub record DenialsName : Type 0 where
  pub classes : (f : State) (from to : Place) (public : Bool) (r : Rule)
      → (class_verdict f from to public ≡ Denied r) ↔ FailsFirst (class_conditions f from to public) r
  pub members : (a : MemberAccess) (r : Rule)
      → (member_verdict a ≡ Denied r) ↔ FailsFirst (member_conditions a.access a) r
  pub reflection : (f : State) (from to : Place) (public : Bool) (a : MemberAccess) (r : Rule) → a.same_class ≡ false
      → (reflect_verdict f from to public a ≡ Denied r) ↔ FailsFirst (reflect_conditions f from to public ++ member_conditions a.access (by_its_class a)) r
  pub deep_closed : (f : State) (from to : Place) (public : Bool) (a : MemberAccess)
      → (deep_verdict f from to public a ≡ Denied rules.NotOpen) ↔ ((may_go_deep f from to public a ≡ false) × (opened f to.module to.package ≡ false))
  pub deep_to_others : (f : State) (from to : Place) (public : Bool) (a : MemberAccess)
      → (deep_verdict f from to public a ≡ Denied rules.NotOpenTo) ↔ ((may_go_deep f from to public a ≡ false) × (opened f to.module to.package ≡ true))
  pub services : (f : State) (from : ModuleId) (service : List ℕ) (r : Rule)
      → (service_verdict f from service ≡ Denied r) ↔ ((uses f from service ≡ false) × (r ≡ rules.ServiceNotUsed))
  pub changes : (f : State) (from to : ModuleId) (opens : Option (List ℕ)) (r : Rule)
      → (caller_verdict f from to opens ≡ Denied r) ↔ ((may_change f from to opens ≡ false) × (r ≡ rules.CallerNotAllowed))

-- Between two modules a class is granted exactly where the class is public, its package is exported to the caller's module, and that reads the other.
abbrev pub GrantsByThree : Type 0
GrantsByThree = (f : State) (from to : Place) (public : Bool) → is_one_module from to ≡ false
    → (class_verdict f from to public ≡ Granted) ↔ ((reads f from.module to.module ≡ true) × (exported_to f to.module to.package from.module ≡ true) × (public ≡ true))

-- Between two modules reflection is granted to another class exactly where the package is exported to the caller's module, the class is public and the member may be used.
abbrev pub ReflectsByAnExport : Type 0
ReflectsByAnExport = (f : State) (from to : Place) (public : Bool) (a : MemberAccess) → is_one_module from to ≡ false → a.same_class ≡ false
    → (reflect_verdict f from to public a ≡ Granted) ↔ ((exported_to f to.module to.package from.module ≡ true) × (public ≡ true) × (member_verdict (by_its_class a) ≡ Granted))

-- Between two modules deep reflection is granted exactly where an opening of the package counts for the caller's module, or an export does and a public class shows the member.
abbrev pub DeepByAnOpening : Type 0
DeepByAnOpening = (f : State) (from to : Place) (public : Bool) (a : MemberAccess) → is_one_module from to ≡ false
    → (deep_verdict f from to public a ≡ Granted) ↔ ((open_to f to.module to.package from.module ≡ true) ⊎ ((exported_to f to.module to.package from.module ≡ true) × (public ≡ true) × (is_shown a ≡ true)))
