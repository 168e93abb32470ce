use Rattle.std.proofs.Common.{◌≡◌, ◌∙◌, ◌-◌, ◌<◌, length, sym, Some, slice_get, arith}
use Rattle.std.proofs.lemmas.Bool.{not-true, not-false}
use Rattle.jl_config.specs.ReadRows.{name_at}
use Rattle.jl_config.specs.declared.packages.SharedPackage.{SharedPackage}
use Rattle.jl_config.specs.Imported.{IsPackageSharedAt}
use Rattle.jl_config.proofs.Lists.{item_here}
use Rattle.jl_config.proofs.Collects.{adds_none, adds_one}
use Rattle.jl_config.proofs.Names.{text_is, text_differs}
use Rattle.jl_config.proofs.PackageFaults.{not_shared, shared_here, shared_only, import_within, whole, shared_record}
use Rattle.jl_config.proofs.packages.push_shared_at.Goals as goal

pub name_at-requires : goal.name_at-requires
name_at-requires c = import_within c.args.scene.now c.args.imports.now c.requires.imports

pub returns-then-ne : goal.returns-then-ne
returns-then-ne c =
    let es = c.args.imports.now.exported in
    let before : c.args.at - 1 < length es = omega arith in
    let at : slice_get es (c.args.at - 1) ≡ Some c.index-exported-at.result = item_here es c.as_slice-exported.result.now (c.args.at - 1) c.index-exported-at.result c.as_slice-exported.ensures before c.index-exported-at.is in
    let be : slice_get es c.args.at ≡ Some c.index-exported-at-2.result = item_here es c.as_slice-exported.result.now c.args.at c.index-exported-at-2.result c.as_slice-exported.ensures c.requires.within c.index-exported-at-2.is in
    adds_none _ (IsPackageSharedAt c.args.scene.now c.args.imports.now c.args.at) (not_shared c.args.scene.now c.args.imports.now c.args.at c.index-exported-at.result c.index-exported-at-2.result c.requires.later at be
    (text_differs c.index-exported-at.result.«package» c.index-exported-at-2.result.«package» (not-true _ (sym c.ne.ensures ∙ c.if-ne.true))))

pub returns : goal.returns
returns c =
    let es = c.args.imports.now.exported in
    let before : c.args.at - 1 < length es = omega arith in
    let at : slice_get es (c.args.at - 1) ≡ Some c.index-exported-at.result = item_here es c.as_slice-exported.result.now (c.args.at - 1) c.index-exported-at.result c.as_slice-exported.ensures before c.index-exported-at.is in
    let be : slice_get es c.args.at ≡ Some c.index-exported-at-2.result = item_here es c.as_slice-exported.result.now c.args.at c.index-exported-at-2.result c.as_slice-exported.ensures c.requires.within c.index-exported-at-2.is in
    let same : c.index-exported-at.result.«package» ≡ c.index-exported-at-2.result.«package» = text_is c.index-exported-at.result.«package» c.index-exported-at-2.result.«package» (not-false _ (sym c.ne.ensures ∙ c.if-ne.false)) in
    let d = c.index-exported-at.result in
    let e = c.index-exported-at-2.result in
    let x : SharedPackage = whole c.in_ok-copy.field-0 c.in_ok-copy-2.field-0 c.in_ok-copy-3.field-0 c.in_ok-copy-4.field-0 in
    let is : x ≡ whole (name_at c.args.scene.now c.args.imports.now.reader) e.«package» d.exporter e.exporter = shared_record _ _ _ _ _ _ _ _ (c.in_ok-copy.ensures ∙ c.name_at.ensures) c.in_ok-copy-2.ensures c.in_ok-copy-3.ensures c.in_ok-copy-4.ensures in
    adds_one c.args.shared.now.items c.push.new.self.items x (IsPackageSharedAt c.args.scene.now c.args.imports.now c.args.at) c.in_ok-push.ensures.items
    (shared_here c.args.scene.now c.args.imports.now c.args.at d e c.requires.later at be same x is)
    (shared_only c.args.scene.now c.args.imports.now c.args.at d e c.requires.later at be x is)
