-- What the report prints of rules, kinds of checks and verdicts (JVMS 5.4.4; `java.lang.Module`).
use Rattle.std.specs.Prelude.{ℕ, List, ◌++◌, codes}
use Rattle.jl_access.specs.declared.report.NoteKind.{NoteKind}
use Rattle.jl_access.specs.declared.report.NoteKind.TheVariants as kinds
use Rattle.jl_access.specs.declared.verdict.Rule.{Rule}
use Rattle.jl_access.specs.declared.verdict.Rule.TheVariants as rules
use Rattle.jl_access.specs.declared.verdict.Verdict.{Verdict}
use Rattle.jl_access.specs.declared.verdict.Verdict.TheVariants.{Granted, Denied}

-- a rule by its name
abbrev pub rule_text : Rule → List ℕ
rule_text rules.NotRead = codes "not-read"
rule_text rules.NotExported = codes "not-exported"
rule_text rules.NotExportedTo = codes "not-exported-to"
rule_text rules.ClassNotPublic = codes "class-not-public"
rule_text rules.MemberPrivate = codes "member-private"
rule_text rules.MemberPackage = codes "member-package"
rule_text rules.MemberProtected = codes "member-protected"
rule_text rules.NotOpen = codes "not-open"
rule_text rules.NotOpenTo = codes "not-open-to"
rule_text rules.ServiceNotUsed = codes "service-not-used"
rule_text rules.CallerNotAllowed = codes "caller-not-allowed"

-- a kind of checks by its name
abbrev pub kind_text : NoteKind → List ℕ
kind_text kinds.Class = codes "class"
kind_text kinds.Member = codes "member"
kind_text kinds.Reflect = codes "reflect"
kind_text kinds.Deep = codes "deep"
kind_text kinds.Service = codes "service"
kind_text kinds.Caller = codes "caller"

-- a denial with the rule that it names
abbrev pub denial_text : Rule → List ℕ
denial_text r = codes "denied " ++ rule_text r

-- a verdict, and for a denial the rule that it names
abbrev pub verdict_text : Verdict → List ℕ
verdict_text Granted = codes "granted"
verdict_text (Denied r) = denial_text r
