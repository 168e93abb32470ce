-- The report of the checks of JVMS 5.4.4 and `java.lang.Module`: notes grouped by key, in the order in which keys first occur.
use Rattle.std.specs.Prelude.{ℕ, List, [], ◌∷◌, ◌++◌, length, map, filter, Option, None, Some, Bool, true, false, ◌&&◌, ◌==◌, not, min, if◌then◌else◌}
use Rattle.std.specs.List.{list_any}
use Rattle.jl_logic.specs.Counts.{last_count, raised}
use Rattle.jl_logic.specs.Order.{is_text}
use Rattle.jl_prim.specs.declared.numbers.ModuleId.{ModuleId}
use Rattle.jl_access.specs.declared.report.Key.{Key}
use Rattle.jl_access.specs.declared.report.NoteKind.{NoteKind}
use Rattle.jl_access.specs.declared.report.NoteKind.TheVariants as kinds
use Rattle.jl_access.specs.declared.verdict.Rule.{Rule}
use Rattle.jl_access.specs.declared.verdict.Rule.TheVariants as rules
use Rattle.jl_access.specs.declared.verdict.Verdict.{Verdict}
use Rattle.jl_access.specs.declared.verdict.Verdict.TheVariants.{Granted, Denied}
use Rattle.jl_access.specs.Facts.{is_same}

-- a key, the step of its first note, and how many notes have it
pub record Line : Type 0 where
  pub key : Key
  pub first : ℕ
  pub count : ℕ

-- a note: a key and the step at which it was noted
pub record Note : Type 0 where
  pub key : Key
  pub step : ℕ

-- a check is noted where its two modules differ
abbrev pub is_due : ModuleId → ModuleId → Bool
is_due from to = not (is_same from to)

-- ---- equal keys

-- each kind of checks has another number
abbrev pub kind_number : NoteKind → ℕ
kind_number kinds.Class = 0
kind_number kinds.Member = 1
kind_number kinds.Reflect = 2
kind_number kinds.Deep = 3
kind_number kinds.Service = 4
kind_number kinds.Caller = 5

-- each rule has another number
abbrev pub rule_number : Rule → ℕ
rule_number rules.NotRead = 1
rule_number rules.NotExported = 2
rule_number rules.NotExportedTo = 3
rule_number rules.ClassNotPublic = 4
rule_number rules.MemberPrivate = 5
rule_number rules.MemberPackage = 6
rule_number rules.MemberProtected = 7
rule_number rules.NotOpen = 8
rule_number rules.NotOpenTo = 9
rule_number rules.ServiceNotUsed = 10
rule_number rules.CallerNotAllowed = 11

-- the same verdict
abbrev pub is_same_verdict : Verdict → Verdict → Bool
is_same_verdict Granted Granted = true
is_same_verdict (Denied r) (Denied s) = rule_number r == rule_number s
is_same_verdict _ _ = false

-- the same package, or none in both
abbrev pub is_same_package : Option (List ℕ) → Option (List ℕ) → Bool
is_same_package None None = true
is_same_package (Some p) (Some q) = is_text p q
is_same_package _ _ = false

-- every field is the same
abbrev pub is_same_key : Key → Key → Bool
is_same_key a b =
    is_same a.from b.from && (is_same a.to b.to && (is_same_package a.package b.package && ((kind_number a.kind == kind_number b.kind) && is_same_verdict a.verdict b.verdict)))

-- a note has the key
abbrev pub has_key : Key → Note → Bool
has_key key n = is_same_key n.key key

-- ---- the lines of a list of notes

-- those of the notes whose key none before them has
unfoldable pub firsts : List Note → List Note → List Note
firsts before [] = []
firsts before (n ∷ ns) = if list_any (has_key n.key) before then firsts (before ++ n ∷ []) ns else n ∷ firsts (before ++ n ∷ []) ns

-- how many notes have a key; the count stands still at the end of its type
abbrev pub counted_notes : List Note → Key → ℕ
counted_notes notes key = min (length (filter (has_key key) notes)) last_count

-- the line of the key that a note has first
abbrev pub line_of : List Note → Note → Line
line_of notes n = record { key = n.key; first = n.step; count = counted_notes notes n.key }

-- a line for each key, in the order in which keys first occur
abbrev pub lines_of : List Note → List Line
lines_of notes = map (line_of notes) (firsts [] notes)

-- ---- one note more

-- the line with one note more
abbrev pub one_more : Line → Line
one_more l = record l { count = raised l.count }

-- the lines with one note more
unfoldable pub noted : Key → ℕ → List Line → List Line
noted key step [] = record { key = key; first = step; count = 1 } ∷ []
noted key step (l ∷ ls) = if is_same_key l.key key then one_more l ∷ ls else l ∷ noted key step ls
