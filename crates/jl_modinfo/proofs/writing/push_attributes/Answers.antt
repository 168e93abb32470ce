use Rattle.std.proofs.Common.{ℕ, ◌<◌, List, ◌++◌, length, ap, sym, subst, ◌∙◌}
use Rattle.std.specs.Prelude.{codes}
use Rattle.jl_reading.specs.Reading.{two}
use Rattle.jl_modinfo.specs.Layout.{attribute_count, attribute_written, body_written, main_written}
use Rattle.jl_tables.specs.Layout.{counted_by, package_bytes}
use Rattle.jl_modinfo.proofs.SizeLaws.{small_body, small_packages}
use Rattle.jl_modinfo.proofs.MoreLaws.{then_more}
use Rattle.jl_modinfo.proofs.writing.push_attributes.Goals as goal

pub push_attribute-requires : goal.push_attribute-requires
push_attribute-requires c = subst (λ (l : List ℕ). length l < 4294967296) (sym (c.deref.ensures.value ∙ c.in_ok-body.ensures.bytes)) (small_body c.args.pool.now c.args.d.now c.requires.few)

pub push_attribute-requires-2 : goal.push_attribute-requires-2
push_attribute-requires-2 c =
    let is = c.deref-2.ensures.value ∙ (c.in_ok-packages.ensures.bytes ∙ ap (counted_by (package_bytes c.args.pool.now)) c.as_slice.ensures) in
    subst (λ (l : List ℕ). length l < 4294967296) (sym is) (small_packages c.args.pool.now c.args.d.now c.requires.few)

pub returns-clause-bytes : goal.returns-clause-bytes
returns-clause-bytes c =
    let cs = c.args.pool.now in
    let d = c.args.d.now in
    let count = c.in_ok-push_u16.ensures.bytes ∙ ap (λ (n : ℕ). c.args.bytes.now.items ++ two n) c.attribute_count_of.ensures in
    let declared = c.in_ok-push_attribute.ensures.bytes ∙ ap (λ (content : List ℕ). c.push_u16.new.bytes.items ++ attribute_written cs (codes "Module") content) (c.deref.ensures.value ∙ c.in_ok-body.ensures.bytes) in
    let listed = c.in_ok-push_attribute-2.ensures.bytes ∙ ap (λ (content : List ℕ). c.push_attribute.new.bytes.items ++ attribute_written cs (codes "ModulePackages") content)
    (c.deref-2.ensures.value ∙ (c.in_ok-packages.ensures.bytes ∙ ap (counted_by (package_bytes cs)) c.as_slice.ensures)) in
    let one = attribute_written cs (codes "Module") (body_written cs d) in
    let other = attribute_written cs (codes "ModulePackages") (counted_by (package_bytes cs) d.packages) in
    let main = main_written cs d.main in
    then_more c.push_main.result _ _ _ (two (attribute_count d.main)) (one ++ (other ++ main)) count
    (then_more c.push_main.result _ _ _ one (other ++ main) declared
    (then_more c.push_main.result _ _ _ other main listed c.push_main.ensures.bytes))
