-- Verdicts: conditions in order, of which the first that fails names the rule (JVMS 5.4.4; `AccessibleObject`; `Module`).
use Rattle.std.specs.Prelude.{ℕ, List, [], ◌∷◌, Option, None, Some, Bool, true, false, ◌&&◌, ◌||◌, ◌==◌, if◌then◌else◌}
use Rattle.jl_logic.specs.Order.{is_text}
use Rattle.jl_prim.specs.declared.numbers.ModuleId.{ModuleId}
use Rattle.jl_access.specs.declared.verdict.Place.{Place}
use Rattle.jl_access.specs.declared.verdict.Access.{Access}
use Rattle.jl_access.specs.declared.verdict.Access.TheVariants as access
use Rattle.jl_access.specs.declared.verdict.MemberAccess.{MemberAccess}
use Rattle.jl_access.specs.declared.verdict.Rule.{Rule}
use Rattle.jl_access.specs.declared.verdict.Rule.TheVariants as rules
use Rattle.jl_access.specs.declared.verdict.Verdict.{Verdict}
use Rattle.jl_access.specs.declared.verdict.Verdict.TheVariants.{Granted, Denied}
use Rattle.jl_access.specs.Facts.{State, is_same, reads, opened, open_to, exported, exported_to, uses}

-- what conditions say, each with its rule: the first that fails
abbrev pub judged : List (Bool × Rule) → Verdict
judged [] = Granted
judged (c ∷ cs) = if c.0 then judged cs else Denied c.1

-- a rule of modules; the others are of public, protected, package and private access
abbrev pub is_of_modules : Rule → Bool
is_of_modules rules.ClassNotPublic = false
is_of_modules rules.MemberPrivate = false
is_of_modules rules.MemberPackage = false
is_of_modules rules.MemberProtected = false
is_of_modules _ = true

-- the second where the first grants
abbrev pub then_judged : Verdict → Verdict → Verdict
then_judged Granted other = other
then_judged (Denied r) other = Denied r

-- ---- classes (JVMS 5.4.4)

-- one run-time package
abbrev pub is_one_package : Place → Place → Bool
is_one_package a b = (a.loader.0 == b.loader.0) && is_text a.package b.package

-- one module
abbrev pub is_one_module : Place → Place → Bool
is_one_module a b = is_same a.module b.module

-- between two modules, but for reading
abbrev pub beyond_reading : State → Place → Place → Bool → List (Bool × Rule)
beyond_reading f from to public =
    (exported f to.module to.package, rules.NotExported)
    ∷ (exported_to f to.module to.package from.module, rules.NotExportedTo)
    ∷ (public, rules.ClassNotPublic) ∷ []

-- within one module
abbrev pub within_module : Place → Place → Bool → List (Bool × Rule)
within_module from to public = (public || is_one_package from to, rules.ClassNotPublic) ∷ []

-- what a class asks for
abbrev pub class_conditions : State → Place → Place → Bool → List (Bool × Rule)
class_conditions f from to public =
    if is_one_module from to then within_module from to public
    else (reads f from.module to.module, rules.NotRead) ∷ beyond_reading f from to public

-- whether a class may use another
abbrev pub class_verdict : State → Place → Place → Bool → Verdict
class_verdict f from to public = judged (class_conditions f from to public)

-- ---- members (JVMS 5.4.4)

-- a protected member of a superclass, which is static or used by way of a related class
abbrev pub is_inherited : MemberAccess → Bool
is_inherited a = a.subclass && (a.is_static || a.named_related)

-- by who may use the member: all, its class and the nest of that, its run-time package, or that and subclasses
abbrev pub member_conditions : Access → MemberAccess → List (Bool × Rule)
member_conditions access.Public a = []
member_conditions access.Private a = (a.same_class || a.same_nest, rules.MemberPrivate) ∷ []
member_conditions access.Package a = (a.same_package, rules.MemberPackage) ∷ []
member_conditions access.Protected a = (a.same_package || is_inherited a, rules.MemberProtected) ∷ []

-- whether a class may use a member of a class that it may use
abbrev pub member_verdict : MemberAccess → Verdict
member_verdict a = judged (member_conditions a.access a)

-- ---- reflection (`AccessibleObject`)

-- The class that is named is the one that declares the member. It is related to its subclasses.
abbrev pub by_its_class : MemberAccess → MemberAccess
by_its_class a = record a { named_related = a.subclass }

-- what a class asks for under reflection, which is not asked for reading
abbrev pub reflect_conditions : State → Place → Place → Bool → List (Bool × Rule)
reflect_conditions f from to public =
    if is_one_module from to then within_module from to public
    else beyond_reading f from to public

-- A class may always use its own members. Reading is not asked for.
abbrev pub reflect_verdict : State → Place → Place → Bool → MemberAccess → Verdict
reflect_verdict f from to public a =
    if a.same_class then Granted
    else then_judged (judged (reflect_conditions f from to public)) (member_verdict (by_its_class a))

-- public
abbrev pub is_public : Access → Bool
is_public access.Public = true
is_public _ = false

-- protected
abbrev pub is_protected : Access → Bool
is_protected access.Protected = true
is_protected _ = false

-- a public member, or a protected static one of a superclass
abbrev pub is_shown : MemberAccess → Bool
is_shown a = is_public a.access || (is_protected a.access && (a.is_static && a.subclass))

-- made accessible without being open
abbrev pub is_shown_to : State → Place → Place → Bool → MemberAccess → Bool
is_shown_to f from to public a = public && (is_shown a && exported_to f to.module to.package from.module)

-- within one module, shown to the caller, or open to its module
abbrev pub may_go_deep : State → Place → Place → Bool → MemberAccess → Bool
may_go_deep f from to public a =
    is_one_module from to || (is_shown_to f from to public a || open_to f to.module to.package from.module)

-- whether a member may be made accessible; a package that is opened, to nobody too, is closed to the caller alone
abbrev pub deep_verdict : State → Place → Place → Bool → MemberAccess → Verdict
deep_verdict f from to public a =
    if may_go_deep f from to public a then Granted
    else if opened f to.module to.package then Denied rules.NotOpenTo
    else Denied rules.NotOpen

-- ---- services and changes (`ServiceLoader`, `Module`)

-- whether a module may look for providers of a service
abbrev pub service_verdict : State → ModuleId → List ℕ → Verdict
service_verdict f from service = judged ((uses f from service, rules.ServiceNotUsed) ∷ [])

-- A module is changed by its own classes. A package is opened further by those to which it is open.
abbrev pub may_change : State → ModuleId → ModuleId → Option (List ℕ) → Bool
may_change f from to None = is_same from to
may_change f from to (Some p) = open_to f to p from

-- whether a class of one module may change another
abbrev pub caller_verdict : State → ModuleId → ModuleId → Option (List ℕ) → Verdict
caller_verdict f from to opens = judged ((may_change f from to opens, rules.CallerNotAllowed) ∷ [])
