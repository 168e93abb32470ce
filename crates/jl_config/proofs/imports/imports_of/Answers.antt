use Rattle.std.proofs.Common.{sym, subst, refl}
use Rattle.jl_config.proofs.Collects.{item_among}
use Rattle.jl_config.proofs.ImportLists.{one_import, more_imports, all_imports}
use Rattle.jl_config.specs.Imported.{IsImport}
use Rattle.jl_config.specs.declared.imports.Imports.{Imports}
use Rattle.jl_config.proofs.imports.imports_of.Goals as goal

pub exported_to-requires : goal.exported_to-requires
exported_to-requires c = c.requires.only c.reading-item.result (item_among c.args.readings.now c.loop-reading.reading-index c.reading-item.result c.loop-reading-test.true c.reading-item.is)

pub loop-reading-preserved : goal.loop-reading-preserved
loop-reading-preserved c =
    let h = c.requires.only c.reading-item.result (item_among c.args.readings.now c.loop-reading.reading-index c.reading-item.result c.loop-reading-test.true c.reading-item.is) in
    let m : Imports = record { reader = c.reading-item.result.reader; exported = c.in_ok-exported.exported.items } in
    let one : IsImport c.args.scene.now m =
    (h.0, one_import c.args.scene.now c.reading-item.result h.0 c.in_ok-exported.exported.items h.1 c.in_ok-exported.ensures.rise c.in_ok-exported.ensures.only c.in_ok-exported.ensures.all) in
    more_imports c.args.scene.now c.args.readings.now c.loop-reading.reading-index c.reading-item.result (record { reader = c.reading-item.result.reader; exported = c.from_vec.result }) c.loop-reading.imports.items c.push.new.self.items c.loop-reading-test.true c.reading-item.is refl
    (subst (λ es. IsImport c.args.scene.now (record { reader = c.reading-item.result.reader; exported = es })) (sym c.from_vec.ensures) one)
    c.in_ok-push.ensures.items c.loop-reading.invariant

pub returns : goal.returns
returns c = all_imports c.args.scene.now c.args.readings.now c.loop-reading.reading-index c.loop-reading.imports.items c.loop-reading-test.false c.requires c.loop-reading.invariant
