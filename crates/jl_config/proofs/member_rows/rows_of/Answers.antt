use Rattle.std.proofs.Common.{◌≡◌, ◌∙◌, map}
use Rattle.std.proofs.lemmas.Result.{IfOk-weaker}
use Rattle.jl_config.specs.MemberRows.{member_row, member_rows}
use Rattle.jl_config.specs.Tables.{listed}
use Rattle.jl_config.proofs.member_rows.rows_of.Goals as goal

pub returns : goal.returns
returns c =
    let same : map (member_row c.args.scene.now (listed c.in_ok-table.table)) c.args.scene.now.candidates ≡ member_rows c.args.scene.now = λ i. map (member_row c.args.scene.now (λ service. c.in_ok-table.ensures service i)) c.args.scene.now.candidates in
    IfOk-weaker c.rows_by.result (λ rows. rows.items ≡ map (member_row c.args.scene.now (listed c.in_ok-table.table)) c.args.scene.now.candidates) (λ rows. rows.items ≡ member_rows c.args.scene.now) (λ rows e. e ∙ same) c.rows_by.ensures
