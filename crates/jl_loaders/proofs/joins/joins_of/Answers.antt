use Rattle.std.proofs.Common.{◌≡◌, ◌∙◌, ◌++◌, ◌∷◌, [], List, take, sym, subst, ◌+◌, arith}
use Rattle.jl_loaders.specs.declared.constraint.Constraint.{Constraint}
use Rattle.jl_loaders.specs.Joins.{AreJoins}
use Rattle.jl_loaders.proofs.Groups.{is_named, not_named, item_of, one_more, joins_skip, joins_more}
use Rattle.jl_loaders.proofs.joins.joins_of.Goals as goal
use Rattle.jl_loaders.proofs.joins.joins_of.Goals.{then-eq+in_ok-join, else-eq}

pub join-requires-clause-one : goal.join-requires-clause-one
join-requires-clause-one c =
    let x = c.constraint-item.result in
    let w = (c.requires x (item_of c.args.constraints.now c.loop-constraint.constraint-index x c.loop-constraint-test.true c.constraint-item.is)).0 in
    (w.0, omega (arith, w.1, c.loop-constraint.invariant.one_each))

pub join-requires-clause-other : goal.join-requires-clause-other
join-requires-clause-other c =
    let x = c.constraint-item.result in
    let w = (c.requires x (item_of c.args.constraints.now c.loop-constraint.constraint-index x c.loop-constraint-test.true c.constraint-item.is)).1 in
    (w.0, omega (arith, w.1, c.loop-constraint.invariant.one_each))

pub loop-constraint-preserved : goal.loop-constraint-preserved
loop-constraint-preserved c =
    let cs = c.args.constraints.now in
    let i = c.loop-constraint.constraint-index in
    let x = c.constraint-item.result in
    let name = c.args.name.now in
    let w = c.requires x (item_of cs i x c.loop-constraint-test.true c.constraint-item.is) in
    let more : take i cs ++ x ∷ [] ≡ take (i + 1) cs = one_more cs i x c.loop-constraint-test.true c.constraint-item.is in
    let result : AreJoins c.args.count (take i cs ++ x ∷ []) name c.if-eq.rows.items = elim c.if-eq.branch [
      | then-eq+in_ok-join b ↦
          joins_more c.args.count (take i cs) name c.loop-constraint.rows.items x c.loop-constraint.invariant w.0 w.1
          (is_named c.as_bytes.result.now name x.name c.eq.result c.as_bytes.ensures c.eq.ensures b.if-eq.true)
          c.if-eq.rows.items ((λ k. (b.rows-is k).items) ∙ b.in_ok-join.ensures)
      | else-eq b ↦
          let same : c.if-eq.rows.items ≡ c.loop-constraint.rows.items = λ k. (b.rows-is k).items in
          subst (AreJoins c.args.count (take i cs ++ x ∷ []) name) (sym same)
          (joins_skip c.args.count (take i cs) name c.loop-constraint.rows.items x c.loop-constraint.invariant
          (not_named c.as_bytes.result.now name x.name c.eq.result c.as_bytes.ensures c.eq.ensures b.if-eq.false))
    ] in
    subst (λ (l : List Constraint). AreJoins c.args.count l name c.if-eq.rows.items) more result
