use Rattle.std.proofs.Common.{ℕ, ◌+◌, ◌∙◌, Bool, sym, ap, ap₂, length}
use Rattle.std.specs.Prelude.{nat_lt, if◌then◌else◌}
use Rattle.jl_pool.proofs.BuilderLaws.{room_is}
use Rattle.jl_pool.proofs.builder.PoolBuilder.has_room.Goals as goal

pub returns : goal.returns
returns c =
    let one = c.places.ensures ∙ ap (λ (b : Bool). if b then 0 else 1) c.has.ensures in
    let other = c.places-2.ensures ∙ ap (λ (b : Bool). if b then 0 else 1) c.has_with-is_known.ensures in
    let first = ap₂ (λ (a b : ℕ). a + b) (c.len.ensures.len ∙ ap length c.self.view_is) one in
    ap (λ (n : ℕ). nat_lt n 65535) (ap₂ (λ (a b : ℕ). a + b) first other ∙ sym (room_is c.args.self.now c.args.text.now c.args.constant.now))
