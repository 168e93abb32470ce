use Rattle.std.proofs.Common.{◌≡◌, ◌<◌, ◌+◌, ◌∙◌, ℕ, length, ap, sym, subst, Some, slice_get, arith}
use Rattle.std.proofs.lemmas.Option.{slice_get-get_or}
use Rattle.jl_layer.specs.declared.claims.Claim.{Claim}
use Rattle.jl_layer.proofs.ClaimSearch.{IsRest, rest_begun, rest_found, rest_goes_on, rest_done, next_below}
use Rattle.jl_layer.proofs.claims.first_clash.Goals as goal

pub loop-at-init : goal.loop-at-init
loop-at-init c = record { before = omega arith; rest = rest_begun c.args.claims.now }

pub loop-at-preserved : goal.loop-at-preserved
loop-at-preserved c =
    let claims = c.args.claims.now in
    let f : Claim = c.index-claims-first.result in
    let x : Claim = c.index-claims-at.result in
    let first = c.loop-at.first in
    let at = c.loop-at.at in
    let before : first < at = c.loop-at.invariant.before in
    let within : at < length claims = c.loop-at-test.true in
    let e : slice_get claims first ≡ Some f = slice_get-get_or claims first f (omega arith) ∙ ap Some (sym c.index-claims-first.is) in
    let g : slice_get claims at ≡ Some x = slice_get-get_or claims at x within ∙ ap Some (sym c.index-claims-at.is) in
    record {
      before = subst (λ (n : ℕ). n < at + 1) (sym c.next_first-first.ensures) (next_below claims first at before);
      rest = subst (λ (n : ℕ). IsRest claims n (at + 1)) (sym c.next_first-first.ensures) (rest_goes_on claims first at f x e g c.loop-at.invariant.rest (sym c.is_clash.ensures ∙ c.if-is_clash.false));
    }

pub returns-then-is_clash-clause-first_two : goal.returns-then-is_clash-clause-first_two
returns-then-is_clash-clause-first_two c =
    let claims = c.args.claims.now in
    let f : Claim = c.index-claims-first.result in
    let x : Claim = c.index-claims-at.result in
    let first = c.loop-at.first in
    let at = c.loop-at.at in
    let before : first < at = c.loop-at.invariant.before in
    let within : at < length claims = c.loop-at-test.true in
    let e : slice_get claims first ≡ Some f = slice_get-get_or claims first f (omega arith) ∙ ap Some (sym c.index-claims-first.is) in
    let g : slice_get claims at ≡ Some x = slice_get-get_or claims at x within ∙ ap Some (sym c.index-claims-at.is) in
    rest_found claims first at f x e g c.loop-at.invariant.rest (sym c.is_clash.ensures ∙ c.if-is_clash.true)

pub returns-clause-first_two : goal.returns-clause-first_two
returns-clause-first_two c =
    rest_done c.args.claims.now c.loop-at.first c.loop-at.at c.loop-at.invariant.before (omega arith) (λ lt. omega arith) c.loop-at.invariant.rest
