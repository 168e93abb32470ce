-- Worked rows of the definitions.
use Rattle.std.proofs.Common.{◌≡◌, ℕ, List, [], ◌∷◌, Bool, true, false, Some, None, refl}
use Rattle.std.specs.Prelude.{codes}
use Rattle.jl_logic.specs.Counts.{last_count}
use Rattle.jl_access.specs.declared.report.Key.{Key}
use Rattle.jl_access.specs.declared.report.NoteKind.TheVariants as kinds
use Rattle.jl_access.specs.declared.statement.Reach.TheVariants.{All, To, Nobody}
use Rattle.jl_access.specs.declared.statement.Statement.{Statement}
use Rattle.jl_access.specs.declared.statement.Statement.TheVariants.{Reads, Exports, Opens, Uses}
use Rattle.jl_access.specs.declared.verdict.Access.{Access}
use Rattle.jl_access.specs.declared.verdict.Access.TheVariants as access
use Rattle.jl_access.specs.declared.verdict.MemberAccess.{MemberAccess}
use Rattle.jl_access.specs.declared.verdict.Place.{Place}
use Rattle.jl_access.specs.declared.verdict.Rule.TheVariants as rules
use Rattle.jl_access.specs.declared.verdict.Verdict.{Verdict}
use Rattle.jl_access.specs.declared.verdict.Verdict.TheVariants.{Granted, Denied}
use Rattle.jl_access.specs.Facts.{State}
use Rattle.jl_access.specs.Reports.{Line, Note, firsts, is_due, lines_of, noted}
use Rattle.jl_access.specs.Texts.{kind_text, rule_text, verdict_text}
use Rattle.jl_access.specs.Verdicts.{is_of_modules, class_verdict, member_verdict, reflect_verdict, deep_verdict, service_verdict, caller_verdict}

-- ---- verdicts: module 1 has package p (112), module 2 package q (113)

facts : List Statement → State
facts ss = record {
  modules = record { is_open = false; packages = (112 ∷ []) ∷ [] } ∷ record { is_open = false; packages = (113 ∷ []) ∷ [] } ∷ [];
  statements = ss;
  spare_modules = 0;
  spare_statements = 0;
}

from : Place
from = record { «module» = record { 0 = 1 }; loader = record { 0 = 1 }; «package» = 112 ∷ [] }

to : Place
to = record { «module» = record { 0 = 2 }; loader = record { 0 = 1 }; «package» = 113 ∷ [] }

member : Access → Bool → Bool → MemberAccess
member a static subclass = record { access = a; is_static = static; same_class = false; same_nest = false; same_package = false; subclass = subclass; named_related = false }

-- exported to the reader
a_class_granted : class_verdict (facts (Reads (record { 0 = 1 }) (record { 0 = 2 }) ∷ Exports (record { 0 = 2 }) (113 ∷ []) (To (record { 0 = 1 })) ∷ [])) from to true ≡ Granted
unfolding facts from to
a_class_granted = refl

-- neither read nor exported: the first of the two is named
a_class_denied : class_verdict (facts []) from to true ≡ Denied rules.NotRead
unfolding facts from to
a_class_denied = refl

-- open to another module alone
a_class_elsewhere : class_verdict (facts (Opens (record { 0 = 2 }) (113 ∷ []) (To (record { 0 = 3 })) ∷ Reads (record { 0 = 1 }) (record { 0 = 2 }) ∷ [])) from to true ≡ Denied rules.NotExportedTo
unfolding facts from to
a_class_elsewhere = refl

-- of one nest, and of one run-time package alone
a_nest_mate_granted : member_verdict (record (member access.Private false false) { same_nest = true }) ≡ Granted
unfolding member
a_nest_mate_granted = refl

no_nest_mate_denied : member_verdict (record (member access.Private false false) { same_package = true }) ≡ Denied rules.MemberPrivate
unfolding member
no_nest_mate_denied = refl

a_member_granted : member_verdict (member access.Protected true true) ≡ Granted
unfolding member
a_member_granted = refl

a_member_denied : member_verdict (member access.Protected true false) ≡ Denied rules.MemberProtected
unfolding member
a_member_denied = refl

-- without reading
a_reflection_granted : reflect_verdict (facts (Exports (record { 0 = 2 }) (113 ∷ []) All ∷ [])) from to true (member access.Public false false) ≡ Granted
unfolding facts from to member
a_reflection_granted = refl

a_reflection_denied : reflect_verdict (facts (Exports (record { 0 = 2 }) (113 ∷ []) Nobody ∷ [])) from to true (member access.Public false false) ≡ Denied rules.NotExportedTo
unfolding facts from to member
a_reflection_denied = refl

-- a protected static member of a superclass, whose package is exported and not open
a_depth_granted : deep_verdict (facts (Exports (record { 0 = 2 }) (113 ∷ []) All ∷ [])) from to true (member access.Protected true true) ≡ Granted
unfolding facts from to member
a_depth_granted = refl

a_depth_denied : deep_verdict (facts (Exports (record { 0 = 2 }) (113 ∷ []) All ∷ [])) from to true (member access.Protected false true) ≡ Denied rules.NotOpen
unfolding facts from to member
a_depth_denied = refl

a_depth_elsewhere : deep_verdict (facts (Opens (record { 0 = 2 }) (113 ∷ []) (To (record { 0 = 3 })) ∷ [])) from to true (member access.Private false false) ≡ Denied rules.NotOpenTo
unfolding facts from to member
a_depth_elsewhere = refl

-- open to nobody
a_depth_to_nobody : deep_verdict (facts (Opens (record { 0 = 2 }) (113 ∷ []) Nobody ∷ [])) from to true (member access.Private false false) ≡ Denied rules.NotOpenTo
unfolding facts from to member
a_depth_to_nobody = refl

a_service_granted : service_verdict (facts (Uses (record { 0 = 1 }) (115 ∷ []) ∷ [])) (record { 0 = 1 }) (115 ∷ []) ≡ Granted
unfolding facts
a_service_granted = refl

a_service_denied : service_verdict (facts (Uses (record { 0 = 2 }) (115 ∷ []) ∷ [])) (record { 0 = 1 }) (115 ∷ []) ≡ Denied rules.ServiceNotUsed
unfolding facts
a_service_denied = refl

-- by a module to which the package is open
a_change_granted : caller_verdict (facts (Opens (record { 0 = 2 }) (113 ∷ []) (To (record { 0 = 1 })) ∷ [])) (record { 0 = 1 }) (record { 0 = 2 }) (Some (113 ∷ [])) ≡ Granted
unfolding facts
a_change_granted = refl

a_change_denied : caller_verdict (facts (Opens (record { 0 = 2 }) (113 ∷ []) (To (record { 0 = 1 })) ∷ [])) (record { 0 = 1 }) (record { 0 = 2 }) None ≡ Denied rules.CallerNotAllowed
unfolding facts
a_change_denied = refl

-- ---- rules

of_modules : is_of_modules rules.NotOpenTo ≡ true
of_modules = refl

of_members : is_of_modules rules.MemberProtected ≡ false
of_members = refl

printed_rule : rule_text rules.NotExportedTo ≡ codes "not-exported-to"
printed_rule = refl

printed_kind : kind_text kinds.Service ≡ codes "service"
printed_kind = refl

printed_denial : verdict_text (Denied rules.ClassNotPublic) ≡ codes "denied class-not-public"
printed_denial = refl

-- ---- the report

a_note_due : is_due (record { 0 = 1 }) (record { 0 = 2 }) ≡ true
a_note_due = refl

no_note_due : is_due (record { 0 = 2 }) (record { 0 = 2 }) ≡ false
no_note_due = refl

key : ℕ → Verdict → Key
key m v = record { from = record { 0 = m }; to = record { 0 = 2 }; «package» = Some (113 ∷ []); kind = kinds.Class; verdict = v }

note : ℕ → Verdict → ℕ → Note
note m v step = record { key = key m v; step = step }

line : ℕ → Verdict → ℕ → ℕ → Line
line m v first count = record { key = key m v; first = first; count = count }

-- five notes in three lines
five_notes : lines_of (note 1 Granted 4 ∷ note 3 Granted 5 ∷ note 1 Granted 7 ∷ note 1 (Denied rules.NotRead) 8 ∷ note 1 Granted 9 ∷ []) ≡ line 1 Granted 4 3 ∷ line 3 Granted 5 1 ∷ line 1 (Denied rules.NotRead) 8 1 ∷ []
unfolding firsts note line key
five_notes = refl

-- a count at its end stands still
a_last_count : noted (key 1 Granted) 9 (line 3 Granted 5 1 ∷ line 1 Granted 4 last_count ∷ []) ≡ line 3 Granted 5 1 ∷ line 1 Granted 4 last_count ∷ []
unfolding noted line key
a_last_count = refl
