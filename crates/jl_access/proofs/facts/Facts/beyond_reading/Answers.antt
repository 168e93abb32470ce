use Rattle.std.proofs.Common.{[], ◌∷◌, true, false, refl}
use Rattle.jl_access.specs.declared.verdict.Rule.TheVariants as rules
use Rattle.jl_access.specs.declared.verdict.Verdict.TheVariants.{Granted, Denied}
use Rattle.jl_access.specs.Facts.{exported, exported_to}
use Rattle.jl_access.proofs.Conditions.{fails, holds, asked}
use Rattle.jl_access.proofs.facts.Facts.beyond_reading.Goals as goal

pub returns-then-not-exported_somewhere : goal.returns-then-not-exported_somewhere
returns-then-not-exported_somewhere c =
    let f = c.args.self.now in
    let to = c.args.to.now in
    let m = c.args.from.now.module in
    fails (exported f to.module to.package) rules.NotExported ((exported_to f to.module to.package m, rules.NotExportedTo) ∷ (c.args.public, rules.ClassNotPublic) ∷ [])
    (asked (exported f to.module) c.as_bytes.result.now to.package c.exported_somewhere.result false c.exported_somewhere.ensures c.as_bytes.ensures c.if-not-exported_somewhere.true)

pub returns-then-not-exported_to : goal.returns-then-not-exported_to
returns-then-not-exported_to c =
    let f = c.args.self.now in
    let to = c.args.to.now in
    let m = c.args.from.now.module in
    holds (exported f to.module to.package) rules.NotExported ((exported_to f to.module to.package m, rules.NotExportedTo) ∷ (c.args.public, rules.ClassNotPublic) ∷ []) (Denied rules.NotExportedTo)
    (asked (exported f to.module) c.as_bytes.result.now to.package c.exported_somewhere.result true c.exported_somewhere.ensures c.as_bytes.ensures c.if-not-exported_somewhere.false)
    (fails (exported_to f to.module to.package m) rules.NotExportedTo ((c.args.public, rules.ClassNotPublic) ∷ [])
    (asked (λ p. exported_to f to.module p m) c.as_bytes-2.result.now to.package c.exported_to.result false c.exported_to.ensures c.as_bytes-2.ensures c.if-not-exported_to.true))

pub returns-then-not-public : goal.returns-then-not-public
returns-then-not-public c =
    let f = c.args.self.now in
    let to = c.args.to.now in
    let m = c.args.from.now.module in
    holds (exported f to.module to.package) rules.NotExported ((exported_to f to.module to.package m, rules.NotExportedTo) ∷ (c.args.public, rules.ClassNotPublic) ∷ []) (Denied rules.ClassNotPublic)
    (asked (exported f to.module) c.as_bytes.result.now to.package c.exported_somewhere.result true c.exported_somewhere.ensures c.as_bytes.ensures c.if-not-exported_somewhere.false)
    (holds (exported_to f to.module to.package m) rules.NotExportedTo ((c.args.public, rules.ClassNotPublic) ∷ []) (Denied rules.ClassNotPublic)
    (asked (λ p. exported_to f to.module p m) c.as_bytes-2.result.now to.package c.exported_to.result true c.exported_to.ensures c.as_bytes-2.ensures c.if-not-exported_to.false)
    (fails c.args.public rules.ClassNotPublic [] c.if-not-public.true))

pub returns : goal.returns
returns c =
    let f = c.args.self.now in
    let to = c.args.to.now in
    let m = c.args.from.now.module in
    holds (exported f to.module to.package) rules.NotExported ((exported_to f to.module to.package m, rules.NotExportedTo) ∷ (c.args.public, rules.ClassNotPublic) ∷ []) Granted
    (asked (exported f to.module) c.as_bytes.result.now to.package c.exported_somewhere.result true c.exported_somewhere.ensures c.as_bytes.ensures c.if-not-exported_somewhere.false)
    (holds (exported_to f to.module to.package m) rules.NotExportedTo ((c.args.public, rules.ClassNotPublic) ∷ []) Granted
    (asked (λ p. exported_to f to.module p m) c.as_bytes-2.result.now to.package c.exported_to.result true c.exported_to.ensures c.as_bytes-2.ensures c.if-not-exported_to.false)
    (holds c.args.public rules.ClassNotPublic [] Granted c.if-not-public.false refl))
