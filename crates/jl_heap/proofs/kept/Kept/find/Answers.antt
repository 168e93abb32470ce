use Rattle.std.proofs.Common.{◌≡◌, ◌∙◌, subst}
use Rattle.jl_heap.specs.Kept.{KeptState, kept_under}
use Rattle.jl_heap.proofs.Keeping.{lookup_is_kept}
use Rattle.jl_heap.proofs.kept.Kept.find.Goals as goal

pub returns : goal.returns
returns c = subst (λ (s : KeptState). c.copied.result ≡ kept_under c.args.key.now s.pairs) c.self.view_is
    (c.copied.ensures ∙ (c.get.ensures.value ∙ lookup_is_kept c.args.key.now c.self.inside.objects.entries))
