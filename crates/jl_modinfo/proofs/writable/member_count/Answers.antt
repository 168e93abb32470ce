use Rattle.std.proofs.Common.{◌+◌, length, sym, ap, ap₂, ◌∙◌, ℕ, List, ◌≡◌}
use Rattle.std.specs.List.{sum_by}
use Rattle.jl_prim.specs.declared.declaration.Grant.{Grant}
use Rattle.jl_prim.specs.declared.declaration.Provides.{Provides}
use Rattle.jl_modinfo.specs.Layout.{capped, target_length, class_length}
use Rattle.jl_modinfo.proofs.MemberLaws.{plus_capped, both_capped, members_are}
use Rattle.jl_modinfo.proofs.writable.member_count.Goals as goal

pub returns : goal.returns
returns c =
    let d = c.args.d.now in
    let e = sum_by target_length d.exports in
    let o = sum_by target_length d.opens in
    let p = sum_by class_length d.provides in
    let exports : c.plus-exports.result ≡ capped (length d.exports + e) = plus_capped _ _ _ (length d.exports) e c.plus-exports.ensures c.len.ensures (c.count_targets.ensures ∙ ap (λ (l : List Grant). capped (sum_by target_length l)) c.as_slice.ensures) in
    let opens : c.plus-opens.result ≡ capped (length d.opens + o) = plus_capped _ _ _ (length d.opens) o c.plus-opens.ensures c.len-2.ensures (c.count_targets-2.ensures ∙ ap (λ (l : List Grant). capped (sum_by target_length l)) c.as_slice-2.ensures) in
    let provides : c.plus-provides.result ≡ capped (length d.provides + p) = plus_capped _ _ _ (length d.provides) p c.plus-provides.ensures c.len-3.ensures (c.count_classes.ensures ∙ ap (λ (l : List Provides). capped (sum_by class_length l)) c.as_slice-3.ensures) in
    let listed : c.plus-listed.result ≡ capped (length d.required + (length d.uses + length d.packages)) = plus_capped _ _ _ (length d.required) (length d.uses + length d.packages) c.plus-listed.ensures c.len-4.ensures (c.plus.ensures ∙ ap₂ (λ (x y : ℕ). capped (x + y)) c.len-5.ensures c.len-6.ensures) in
    let last = both_capped _ _ _ (length d.opens + o) (length d.provides + p) c.plus-2.ensures opens provides in
    let granted = both_capped _ _ _ (length d.exports + e) ((length d.opens + o) + (length d.provides + p)) c.plus-3.ensures exports last in
    both_capped _ _ _ (length d.required + (length d.uses + length d.packages)) ((length d.exports + e) + ((length d.opens + o) + (length d.provides + p))) c.plus-4.ensures listed granted ∙ ap capped (sym (members_are d))
