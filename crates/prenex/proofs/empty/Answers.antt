use Rattle.std.proofs.Common.{◌≡◌, ap, ◌∙◌, length, replicate, arith}
use Rattle.prenex.proofs.empty.Goals as goal

pub returns : goal.returns
returns c =
    let n : length c.args.table.now.nodes ≡ 1024 = omega arith in
    ap (λ nodes. record { nodes = nodes; used = 0 }) (c.fill.ensures.after (λ y e. e) ∙ ap (λ k. replicate k 0) n)
