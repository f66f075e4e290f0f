use Rattle.std.proofs.Common.{ℕ, ◌∙◌, eqb, rules, tests, refl}
use Rattle.std.proofs.lemmas.Iterator.{YieldsList-from_slice}
use Rattle.std.proofs.lemmas.Iterator.Search.{position_from_yields_List}
use Rattle.reader.proofs.Pieces.{upto_is, upto_within, first_place}
use Rattle.reader.proofs.upto.Goals as goal

pub returns : goal.returns
returns c =
    let s = c.args.s.now in
    let t = λ (x : ℕ). eqb x c.args.b in
    let p = position_from_yields_List t _ _ c.position.result c.position.ensures.ran (YieldsList-from_slice s c.iter.ensures.rest)
    (λ x b q k. search (rules, tests)) in
    let e = c.unwrap_or.ensures ∙ first_place t s _ _ p refl ∙ upto_is c.args.b s in
    (e, rw e (upto_within c.args.b s))
