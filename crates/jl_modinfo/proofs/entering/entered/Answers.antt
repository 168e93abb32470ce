use Rattle.std.proofs.Common.{◌≡◌, ◌∙◌, Ok, [], sym, ap, subst}
use Rattle.std.proofs.lemmas.List.{take_all}
use Rattle.std.proofs.lemmas.List.Elements.{All-from_recursion, All-get_or}
use Rattle.std.proofs.lemmas.Result.{err_from_is_err_and}
use Rattle.jl_pool.specs.declared.constant.Constant.{Constant}
use Rattle.jl_pool.specs.Builder.{IsShort, text_in, fitting, with_needed}
use Rattle.jl_modinfo.specs.Layout.{with_all}
use Rattle.jl_modinfo.proofs.WritingLaws.{entered_more, entered_told}
use Rattle.jl_modinfo.proofs.entering.entered.Goals as goal

pub enter-requires : goal.enter-requires
enter-requires c =
    let all = All-from_recursion (λ (x : Constant). IsShort (text_in x)) c.args.constants.now c.requires in
    let here = All-get_or (λ (x : Constant). IsShort (text_in x)) c.args.constants.now c.loop-constant.constant-index c.constant-item.result c.loop-constant-test.true all in
    subst (λ (x : Constant). IsShort (text_in x)) (sym (c.in_ok-copied.ensures ∙ c.constant-item.is)) here

pub returns-in_err-enter : goal.returns-in_err-enter
returns-in_err-enter c =
    let p = err_from_is_err_and c.from_residual-in_err-enter.result c.from_residual-in_err-enter.ensures.1 in
    rw (p.1, p.2) (entered_told c.in_err-enter.field-0.0 c.args.constants.now c.loop-constant.constant-index c.in_ok-copied.field-0 c.constant-item.result c.loop-constant.builder
    c.loop-constant-test.true c.constant-item.is c.in_ok-copied.ensures c.loop-constant.invariant c.in_err-enter.ensures.exact)

pub loop-constant-preserved : goal.loop-constant-preserved
loop-constant-preserved c =
    let copied = c.in_ok-copied.ensures in
    entered_more c.args.constants.now c.loop-constant.constant-index c.constant-item.result c.loop-constant.builder c.enter.new.self c.loop-constant-test.true c.constant-item.is c.loop-constant.invariant
    (subst (λ (x : Constant). fitting (with_needed c.loop-constant.builder x) ≡ Ok (with_needed c.loop-constant.builder x)) copied c.in_ok-enter.ensures.exact)
    (c.in_ok-enter.ensures.ok ∙ ap (with_needed c.loop-constant.builder) copied)

pub returns : goal.returns
returns c = subst (λ xs. fitting (with_all [] xs) ≡ Ok c.loop-constant.builder) (take_all c.loop-constant.constant-index c.args.constants.now c.loop-constant-test.false) c.loop-constant.invariant
