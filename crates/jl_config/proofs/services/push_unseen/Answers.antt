use Rattle.std.proofs.Common.{◌≡◌, ◌∙◌, ap, sym, subst}
use Rattle.std.proofs.lemmas.Bool.{iff_false}
use Rattle.jl_names.specs.Names.{package_of}
use Rattle.jl_config.specs.Located.{candidate_name}
use Rattle.jl_config.specs.Imported.{IsSeen, IsUnseen}
use Rattle.jl_config.specs.declared.services.UnseenService.{UnseenService}
use Rattle.jl_config.proofs.Collects.{adds_none, adds_one}
use Rattle.jl_config.proofs.ServiceFaults.{seen_in, in_seen}
use Rattle.jl_config.proofs.services.push_unseen.Goals as goal

pub sees-requires : goal.sees-requires
sees-requires c = record { own = c.requires.own.rise; exported = c.requires.exported }

pub returns-then-sees : goal.returns-then-sees
returns-then-sees c =
    let s = c.args.candidate.now in
    let es = c.args.exported.now in
    let service = c.args.service.now in
    let name : c.package_of.result.now ≡ package_of service = c.package_of.ensures ∙ ap package_of c.as_bytes.ensures in
    let seen : IsSeen s es (package_of service) = subst (IsSeen s es) name (seen_in s c.args.own.now es c.requires.own c.package_of.result.now (c.sees.ensures.0 c.if-sees.true)) in
    adds_none _ (IsUnseen s es service) (λ x h. h.0 seen)

pub returns : goal.returns
returns c =
    let s = c.args.candidate.now in
    let es = c.args.exported.now in
    let service = c.args.service.now in
    let name : c.package_of.result.now ≡ package_of service = c.package_of.ensures ∙ ap package_of c.as_bytes.ensures in
    let never : IsSeen s es (package_of service) → ⊥ = λ h.
    iff_false c.sees.ensures c.if-sees.false (in_seen s c.args.own.now es c.requires.own c.package_of.result.now (subst (IsSeen s es) (sym name) h)) in
    let x : UnseenService = record { «module» = c.in_ok-copy.field-0; service = c.in_ok-copy-2.field-0 } in
    let is : x ≡ record { «module» = candidate_name s; service = service } = λ i. record { «module» = c.in_ok-copy.ensures i; service = c.in_ok-copy-2.ensures i } in
    adds_one c.args.unseen.now.items c.push.new.self.items x (IsUnseen s es service) c.in_ok-push.ensures.items (never, is) (λ y h. is ∙ sym h.1)
