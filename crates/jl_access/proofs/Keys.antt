-- Equal keys.
use Rattle.std.proofs.Common.{◌≡◌, ℕ, suc, List, true, ◌&&◌, ◌==◌, Option, Some, None, refl, sym, ◌∙◌, ap, ap₂}
use Rattle.std.proofs.Math.Dec.{eqb-suc-suc}
use Rattle.jl_access.specs.declared.report.Key.{Key}
use Rattle.jl_access.specs.declared.report.NoteKind.{NoteKind}
use Rattle.jl_access.specs.declared.report.NoteKind.TheVariants as kind
use Rattle.jl_access.specs.declared.verdict.Rule.{Rule}
use Rattle.jl_access.specs.declared.verdict.Rule.TheVariants as rule
use Rattle.jl_access.specs.declared.verdict.Verdict.{Verdict}
use Rattle.jl_access.specs.declared.verdict.Verdict.TheVariants.{Granted, Denied}
use Rattle.jl_access.specs.contracts.report.KeyPartialEq.TheImpl as keys
use Rattle.jl_access.specs.contracts.report.KeyEq.TheImpl.Laws as laws
use Rattle.jl_access.specs.contracts.report.NoteKindPartialEq.TheImpl as kinds
use Rattle.jl_access.specs.contracts.report.NoteKind as note_kind
use Rattle.jl_access.specs.contracts.verdict.RulePartialEq.TheImpl as rules
use Rattle.jl_access.specs.contracts.verdict.Rule as verdict_rule
use Rattle.jl_access.specs.contracts.verdict.VerdictPartialEq.TheImpl as verdicts
use Rattle.std.specs.Option.{option_eq}
use Rattle.jl_logic.specs.Order.{is_text}
use denote.Enum.Declared.{tag_of}
use Rattle.jl_access.specs.Reports.{is_same_key, is_same_package, is_same_verdict, kind_number, rule_number}

tag_kind : (a : NoteKind) → tag_of note_kind.the_type a ≡ kind_number a
tag_kind kind.Class = refl
tag_kind kind.Member = refl
tag_kind kind.Reflect = refl
tag_kind kind.Deep = refl
tag_kind kind.Service = refl
tag_kind kind.Caller = refl

tag_rule : (a : Rule) → suc (tag_of verdict_rule.the_type a) ≡ rule_number a
tag_rule rule.NotRead = refl
tag_rule rule.NotExported = refl
tag_rule rule.NotExportedTo = refl
tag_rule rule.ClassNotPublic = refl
tag_rule rule.MemberPrivate = refl
tag_rule rule.MemberPackage = refl
tag_rule rule.MemberProtected = refl
tag_rule rule.NotOpen = refl
tag_rule rule.NotOpenTo = refl
tag_rule rule.ServiceNotUsed = refl
tag_rule rule.CallerNotAllowed = refl

derived_kind : (a b : NoteKind) → kinds.eq-value.it a b ≡ (kind_number a == kind_number b)
derived_kind a b = ap₂ (λ x y. x == y) (tag_kind a) (tag_kind b)

derived_rule : (a b : Rule) → rules.eq-value.it a b ≡ (rule_number a == rule_number b)
derived_rule a b = sym (eqb-suc-suc (tag_of verdict_rule.the_type a) (tag_of verdict_rule.the_type b)) ∙ ap₂ (λ x y. x == y) (tag_rule a) (tag_rule b)

derived_verdict : (a b : Verdict) → verdicts.eq-value.it a b ≡ is_same_verdict a b
derived_verdict Granted Granted = refl
derived_verdict Granted (Denied r) = refl
derived_verdict (Denied r) Granted = refl
derived_verdict (Denied r) (Denied s) = derived_rule r s

derived_package : (a b : Option (List ℕ)) → option_eq is_text a b ≡ is_same_package a b
derived_package None None = refl
derived_package None (Some q) = refl
derived_package (Some p) None = refl
derived_package (Some p) (Some q) = refl

pub derived_key : (a b : Key) → keys.eq-value.it a b ≡ is_same_key a b
derived_key a b =
    ap (λ x. (a.from.0 == b.from.0) && ((a.to.0 == b.to.0) && x))
    (ap₂ (λ x y. x && y) (derived_package a.package b.package)
    (ap₂ (λ x y. x && y) (derived_kind a.kind b.kind) (derived_verdict a.verdict b.verdict)))

pub same_itself : (a : Key) → is_same_key a a ≡ true
same_itself a = sym (derived_key a a) ∙ laws.laws-law.refl a

pub same_turned : (a b : Key) → is_same_key a b ≡ is_same_key b a
same_turned a b = sym (derived_key a b) ∙ laws.laws-law.symm a b ∙ derived_key b a

pub same_alike : (a b c : Key) → is_same_key a b ≡ true → is_same_key a c ≡ is_same_key b c
same_alike a b c e = sym (derived_key a c) ∙ laws.laws-law.congr a b c (derived_key a b ∙ e) ∙ derived_key b c
